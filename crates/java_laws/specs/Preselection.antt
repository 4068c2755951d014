-- That a document in which something fits a pattern has a key that the pattern admits.
use Rattle.std.specs.Prelude.{◌≡◌, ◌<◌, ◌^◌, ◌==◌, ℕ, Bool, true, false, List, Some, length, Contains}
use Rattle.std.specs.List.{list_any}
use Rattle.std.specs.Str.{byte}
use Rattle.java_tree.specs.declared.key.Key.{Key}
use Rattle.java_tree.specs.declared.occurrence.Binding.TheVariants as bindings
use Rattle.java_tree.specs.declared.occurrence.MethodId.{MethodId}
use Rattle.java_tree.specs.declared.occurrence.TypeId.{TypeId}
use Rattle.java_tree.specs.declared.occurrence.OccKind.{OccKind}
use Rattle.java_tree.specs.declared.occurrence.OccKind.TheVariants as occ
use Rattle.java_tree.specs.declared.occurrence.Occurrence.{Occurrence}
use Rattle.java_tree.specs.declared.unit.Unit.{Unit as CompilationUnit}
use Rattle.java_model.specs.Grammar.Signs.{Sign}
use Rattle.java_model.specs.Grammar.Units.{IsUnitOf}
use Rattle.java_model.specs.Names.Lists.{Identifier}
use Rattle.java_model.specs.Names.Environments.{Env, Declared, declared_at}
use Rattle.java_model.specs.Names.Methods.{params}
use Rattle.java_model.specs.Scopes.Contexts.{Context}
use Rattle.java_model.specs.Occurrences.Occurrences.{Occurrences}
use Rattle.java_model.specs.SearchPattern.Parts.{Pattern}
use Rattle.java_model.specs.Matches.TypePatterns.{qualification_of}
use Rattle.java_model.specs.Matches.Fits.{fits}
use Rattle.java_model.specs.Matches.Admits.{admits}
use Rattle.java_model.specs.Matches.Keys.{HasKey}
use Rattle.java_model.specs.Matches.Laws.{IsField}
use Rattle.java_laws.specs.Declarations.{IsContext}
use Rattle.java_laws.specs.Keys.{ref_key}

-- one of these keys is admitted
pub record IsPreselected (Has : Key → Type 0) (p : Pattern) : Type 0 where
  pub key : Key
  pub has : Has key
  pub admitted : admits p key.category key.text ≡ true

-- no dot stands in it
abbrev pub IsSimple : List ℕ → Type 0
IsSimple text = list_any (λ b. b == byte ".") text ≡ false

-- The identifiers of a unit have no dots (JLS 3.8).
abbrev pub HasSimpleNames : CompilationUnit → Type 0
HasSimpleNames u = (name : Identifier) → HasKey u (ref_key name) → IsSimple name

-- references to packages, types, fields and methods, and names that are bound to nothing
abbrev pub is_mention : OccKind → Bool
is_mention occ.PackageRef = true
is_mention occ.TypeRef = true
is_mention occ.MethodRef = true
is_mention occ.FieldRef = true
is_mention occ.NameRef = true
is_mention _ = false

-- A unit with a reference that fits a pattern has a key that the pattern admits. An identifier has no `/` and no dot.
abbrev pub FittingReferencesHaveKeys : Type 0
FittingReferencesHaveKeys = (C : Context) (u : CompilationUnit) (os : List Occurrence) → C.types ≡ u.types → Occurrences C u os → HasSimpleNames u
    → (o : Occurrence) → Contains os o → is_mention o.kind ≡ true → IsField o.name → o.count < 2 ^ 64
    → (p : Pattern) → fits C.env p o ≡ true → IsPreselected (HasKey u) p

-- a number counts the parameters of what it is bound to
abbrev pub HasFewParameters : Env → Occurrence → Type 0
HasFewParameters env o = (m : MethodId) → o.binding ≡ bindings.Method m → length (params env m) < 2 ^ 64

-- The qualifications of types have no `/`.
abbrev pub QualificationsAreFields : Env → Type 0
QualificationsAreFields env = (t : TypeId) (d : Declared) (q : List ℕ) → declared_at env t ≡ Some d → qualification_of d ≡ Some q → IsField q

-- The unit of a text, in an environment that has its outline, has a key that a pattern admits which one of its occurrences
-- fits. An identifier has no `/` and no dot.
abbrev pub FittingOccurrencesHaveKeys : Type 0
FittingOccurrencesHaveKeys = (tokens : List Sign) (u : CompilationUnit) (C : Context) → IsUnitOf tokens u → IsContext u C
    → (os : List Occurrence) → Occurrences C u os → HasSimpleNames u → QualificationsAreFields C.env
    → (o : Occurrence) → Contains os o → IsField o.name → o.count < 2 ^ 64 → HasFewParameters C.env o
    → (p : Pattern) → fits C.env p o ≡ true → IsPreselected (HasKey u) p
