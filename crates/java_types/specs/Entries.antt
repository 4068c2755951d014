-- What is kept of each declared type.
use Rattle.std.specs.Prelude.{◌≡◌, ℕ, ◌+◌, ◌≤◌, Bool, not, ◌&&◌, false, List, [], ◌∷◌, Some, None, map, length, slice_get, is_some}
use Rattle.std.specs.List.{AllByRecursion}
use Rattle.std.specs.Option.{option_and_then, option_map_or}
use Rattle.std.specs.Str.{bytes_eq}
use Rattle.java_tree.specs.declared.occurrence.TypeId.{TypeId}
use Rattle.java_tree.specs.declared.outline.OutlineType.{OutlineType}
use Rattle.java_model.specs.Names.Lists.{Identifiers, same_name}
use Rattle.java_model.specs.Names.Environments.{Env, Declared, declared, declared_at, outward, info_of, is_local, is_unqualified, with_java_lang}
use Rattle.java_model.specs.Matches.TypePatterns.{qualification_of}
use Rattle.java_types.specs.Documents.{AreInOrder}
use Rattle.java_types.specs.Keys.{entry_name_key, entry_member_key}
use Rattle.java_types.specs.Packages.{AreKnown}
use Rattle.java_types.specs.Tables.{Keys}
use Rattle.java_types.specs.declared.entry.Entry.{Entry}

-- the numbers of a type and the types around it in an outline, innermost first
abbrev pub around_in : List OutlineType → ℕ → List ℕ
around_in types n = outward (λ k. option_and_then (λ t. t.parent) (slice_get types k)) (length types) (Some n)

abbrev pub name_in : List OutlineType → ℕ → List ℕ
name_in types n = option_map_or (λ t. t.name) (slice_get types n) []

abbrev pub is_local_in : List OutlineType → ℕ → Bool
is_local_in types n = option_map_or is_local (slice_get types n) false

abbrev pub entry_of : Declared → Entry
entry_of d = record { info = info_of d; name = d.type.name; unqualified = is_unqualified d; qualification = qualification_of d }

abbrev pub entry_is_named : List ℕ → Identifiers → Entry → Bool
entry_is_named qualifier names e = not e.unqualified && bytes_eq qualifier e.info.«package» && same_name names e.info.names

-- the entries after those of the declared types before
pub record AddsJavaLang (name : List ℕ) (before after : List Entry) : Type 0 where
  pub adds : (ds : List Declared) → before ≡ map entry_of ds → after ≡ map entry_of (with_java_lang name ds)

-- the number of each document's first type
abbrev pub firsts_of : ℕ → Env → List ℕ
firsts_of first [] = []
firsts_of first (d ∷ ds) = first ∷ firsts_of (first + length d.outline.types) ds

-- whether a type is one of an environment
abbrev pub is_declared : Env → TypeId → Bool
is_declared env t = is_some (declared_at env t)

-- whether no document declares a type
abbrev pub has_no_document : Env → TypeId → Type 0
has_no_document env t = option_and_then (λ d. d.doc) (declared_at env t) ≡ None

-- what an environment keeps of its documents
pub record IsEnvOf (env : Env) (firsts : List ℕ) (entries : List Entry) (names members : Keys) (packages : List Identifiers) (longest : ℕ) : Type 0 where
  pub order : AreInOrder env
  pub firsts_are : firsts ≡ firsts_of 0 env
  pub entries_are : entries ≡ map entry_of (declared env)
  pub names_are : names ≡ map entry_name_key entries
  pub members_are : members ≡ map entry_member_key entries
  pub known : AreKnown env packages
  pub short : AllByRecursion (λ e. length e.info.«package» ≤ longest) entries
