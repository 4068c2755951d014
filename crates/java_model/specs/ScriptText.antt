-- The bytes of the documents of a script.
use Rattle.std.specs.Prelude.{◌≡◌, ℕ, ◌≤◌, ◌==◌, List, [], ◌∷◌, ◌++◌, length, IsTrue, codes}
use Rattle.std.specs.Fmt.{decimal}
use Rattle.std.specs.List.{count_by}
use Rattle.std.specs.Str.{IsUtf8, bytes_eq}
use Rattle.java_tree.specs.declared.limits.TheConstants.{MAX_TEXT, MAX_DOCUMENTS, MAX_OPENING_STAMP}
use Rattle.java_tree.specs.Names.{is_container, is_source_path}
use Rattle.java_model.specs.Documents.{Document}

-- `doc CONTAINER PATH STAMP LEN`, and then LEN bytes of text and an LF
abbrev pub doc_text : Document → List ℕ
doc_text doc =
    codes "doc " ++ doc.container ++ codes " " ++ doc.path ++ codes " " ++ decimal doc.stamp ++ codes " " ++ decimal (length doc.text) ++ (10 ∷ [])
    ++ doc.text ++ (10 ∷ [])

-- a document of a `doc` line
pub record IsScriptDoc (doc : Document) : Type 0 where
  pub container : IsTrue (is_container doc.container) × IsUtf8 doc.container
  pub path : IsTrue (is_source_path doc.path) × IsUtf8 doc.path
  pub version : doc.version ≡ 0
  pub stamp : doc.stamp ≤ MAX_OPENING_STAMP
  pub text : (length doc.text ≤ MAX_TEXT) × IsUtf8 doc.text

-- the number of LF bytes
abbrev pub newlines : List ℕ → ℕ
newlines bytes = count_by (λ b. b == 10) bytes

-- how many of these documents a container has
abbrev pub count_in : List ℕ → List Document → ℕ
count_in container docs = count_by (λ doc. bytes_eq container doc.container) docs

-- no container has too many
abbrev pub AreFew : List Document → Type 0
AreFew docs = (container : List ℕ) → count_in container docs ≤ MAX_DOCUMENTS
