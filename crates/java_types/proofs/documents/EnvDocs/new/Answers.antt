use Rattle.std.proofs.Common.{map, sym, subst}
use Rattle.java_types.specs.Documents.{document_of, AreInOrder}
use Rattle.java_types.proofs.Paths.{order_none}
use Rattle.java_types.proofs.documents.EnvDocs.new.Goals as goal

pub invariant_of-result : goal.invariant_of-result
invariant_of-result c = subst (λ ds. AreInOrder (map document_of ds)) (sym c.new.ensures) order_none
