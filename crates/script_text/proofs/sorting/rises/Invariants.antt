use Rattle.std.proofs.Common.{◌≡◌, length}
use Rattle.java_model.specs.Documents.{document_cmp}
use Rattle.script_text.specs.Views.{documents_of}
use Rattle.script_text.specs.Inner.Sorted.{rises}
use Rattle.script_text.proofs.sorting.rises.Given as goal

abbrev pub invariant-loop-rest : goal.invariant-loop-rest
invariant-loop-rest l = rises document_cmp (documents_of l.rest) ≡ rises document_cmp (documents_of l.docs)

abbrev pub decreases-loop-rest : goal.decreases-loop-rest
decreases-loop-rest l = length l.rest
