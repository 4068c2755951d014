-- The documents of an environment, and their order.
use Rattle.std.specs.Prelude.{◌≡◌, ℕ, ◌<◌, true, false, List, map, length, get_or}
use Rattle.std.specs.declared.cmp.Ordering.{Ordering}
use Rattle.std.specs.declared.cmp.Ordering.TheVariants.{Less}
use Rattle.std.specs.Ordering.{nat_cmp, ordering_then}
use Rattle.std.specs.Cmp.Lexicographic.{slice_cmp}
use Rattle.std.specs.List.{AllByRecursion}
use Rattle.std.specs.List.Sorted.{IsStrictlySortedBy}
use Rattle.java_tree.specs.declared.doc_name.DocName.{DocName}
use Rattle.java_tree.specs.declared.types.DocPath.{DocPath}
use Rattle.java_model.specs.Names.Environments.{EnvDocument, Env, same_path}
use Rattle.java_types.specs.declared.documents.KeptDocument.{KeptDocument}

abbrev pub document_of : KeptDocument → EnvDocument
document_of d = record { path = d.path; outline = d.outline }

abbrev pub path_of : DocName → DocPath
path_of name = record { container = name.container; path = name.path }

-- by container, then by path, by bytes
abbrev pub path_cmp : DocPath → DocPath → Ordering
path_cmp a b = ordering_then (slice_cmp nat_cmp a.container b.container) (slice_cmp nat_cmp a.path b.path)

-- each document once, in order of container, then path
abbrev pub AreInOrder : Env → Type 0
AreInOrder env = IsStrictlySortedBy path_cmp (map (λ d. d.path) env)

-- a document with this path stands after all that are there
abbrev pub ComesAfter : Env → DocPath → Type 0
ComesAfter env path = AllByRecursion (λ d. path_cmp d.path path ≡ Less) env

-- the place of the document with this path
pub record IsPlaceOf (documents : List KeptDocument) (path : DocPath) (place : ℕ) : Type 0 where
  pub within : place < length documents
  pub same : (d : KeptDocument) → same_path path (get_or documents place d).path ≡ true

abbrev pub HasNone : List KeptDocument → DocPath → Type 0
HasNone documents path = AllByRecursion (λ d. same_path path d.path ≡ false) documents
