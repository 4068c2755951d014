use Rattle.std.proofs.Common.{ap, ◌∙◌}
use Rattle.java_tree.specs.declared.types.NameKind.TheVariants as kinds
use Rattle.java_model.specs.Grammar.Forms.{last_or}
use Rattle.java_scope.proofs.NextKinds.{classified}
use Rattle.java_scope.proofs.name_kinds.classify.Goals as goal

pub returns : goal.returns
returns c =
    classified c.in_ok-kinds.kinds c.pop.new.self c.pop.result c.unwrap_or.result c.pop.ensures c.unwrap_or.ensures
    ∙ ap (last_or kinds.Nothing) c.in_ok-kinds.ensures
