-- What a document is, and how a text becomes one.
use Rattle.std.specs.Prelude.{◌≡◌, ℕ, ◌&&◌, nat_le, cond, List, length}
use Rattle.java_tree.specs.Names.{is_source_path}
use Rattle.java_tree.specs.declared.limits.TheConstants.{MAX_TEXT}
use Rattle.java_tree.specs.declared.outline.Level.{Level}
use Rattle.java_model.specs.Texts.{IsOutlineOf}
use Rattle.java_document.specs.declared.document.Document.{Document}

-- a document of what was handed in, with the outline of its text
pub record IsDocument (level : Level) (container path text : List ℕ) (d : Document) : Type 0 where
  pub in_container : d.container ≡ container
  pub has_path : d.path ≡ path
  pub has_text : d.text ≡ text
  pub at_level : d.level ≡ level
  pub outline : IsOutlineOf level text d.outline

-- how many bytes are read: the text's, where the path is a source's and the text is short enough
abbrev pub bytes_read : List ℕ → List ℕ → ℕ
bytes_read path text = cond (is_source_path path && nat_le (length text) MAX_TEXT) (length text) 0
