use Rattle.std.proofs.Common.{◌≡◌, map, take}
use Rattle.java_model.specs.Names.Environments.{declared_by}
use Rattle.java_types.specs.Documents.{document_of}
use Rattle.java_types.specs.Entries.{entry_of, firsts_of}
use Rattle.java_types.proofs.declared_types.add_documents.Given as goal

-- the types of the documents so far are added
abbrev pub invariant-loop-document : goal.invariant-loop-document
invariant-loop-document l = record {
  firsts : l.firsts ≡ firsts_of 0 (map document_of (take l.document-index l.documents));
  entries : l.entries ≡ map entry_of (declared_by 0 (map document_of (take l.document-index l.documents)));
}
