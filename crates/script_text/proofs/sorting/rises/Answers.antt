use Rattle.std.proofs.Common.{◌∙◌, sym, arith}
use Rattle.std.proofs.lemmas.List.{length-map}
use Rattle.java_model.specs.Documents.{document_cmp}
use Rattle.script_text.specs.Views.{document_of, documents_of}
use Rattle.script_text.proofs.SortedDocuments.{rises-short}
use Rattle.script_text.proofs.sorting.rises.Goals as goal

pub returns : goal.returns
returns c = sym (rises-short document_cmp (documents_of c.loop-rest.rest.now) (omega (arith, length-map c.loop-rest.rest.now document_of))) ∙ c.loop-rest.invariant
