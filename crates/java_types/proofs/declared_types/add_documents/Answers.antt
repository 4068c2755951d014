use Rattle.std.proofs.Common.{rules, [], ◌∷◌, ◌++◌, ap, ◌∙◌}
use Rattle.java_types.proofs.Declaring.{entries_next, firsts_next}
use Rattle.java_types.proofs.declared_types.add_documents.Goals as goal

pub loop-document-preserved : goal.loop-document-preserved
loop-document-preserved c = record {
  firsts =
      firsts_next c.args.documents.now c.loop-document.document-index c.document-item.result c.loop-document.entries c.loop-document.firsts c.push.new.self
      (search rules) c.loop-document.invariant.entries c.loop-document.invariant.firsts (c.in_ok-push.ensures.ok ∙ ap (λ n. c.loop-document.firsts ++ n ∷ []) c.len.ensures);
  entries =
      entries_next c.args.documents.now c.loop-document.document-index c.document-item.result c.loop-document.entries c.add_types.new.entries
      (search rules) c.document-item.is c.loop-document.invariant.entries c.in_ok-add_types.ensures;
}
