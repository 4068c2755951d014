-- What the program's values stand for.
use Rattle.std.specs.Prelude.{List, [], ◌∷◌, Option, Some, None, map}
use Rattle.std.specs.List.{flat_map}
use Rattle.java_tree.specs.declared.outline.Outline.{Outline}
use Rattle.java_tree.specs.declared.types.DocPath.{DocPath}
use Rattle.java_model.specs.Documents.{Document}
use Rattle.java_model.specs.DocumentTexts.{path_of}
use Rattle.java_model.specs.Names.Environments.{Env, EnvDocument}
use Rattle.search_main.specs.declared.opening.Opened.{Opened}

-- an opening document that was read
abbrev pub document_read : Opened → Document
document_read opened = record {
  container = opened.document.container;
  path = opened.document.path;
  version = 0;
  stamp = opened.stamp;
  text = opened.document.text;
}

abbrev pub documents_read : List Opened → List Document
documents_read opened = map document_read opened

-- where an opened document is
abbrev pub path_read : Opened → DocPath
path_read opened = path_of (document_read opened)

-- an unreadable document is none of an environment
abbrev pub entries_at : DocPath → Option Outline → List EnvDocument
entries_at path None = []
entries_at path (Some outline) = record { path = path; outline = outline } ∷ []

abbrev pub entries_of : Opened → List EnvDocument
entries_of opened = entries_at (path_read opened) opened.document.outline

abbrev pub environment_of : List Opened → Env
environment_of opened = flat_map entries_of opened
