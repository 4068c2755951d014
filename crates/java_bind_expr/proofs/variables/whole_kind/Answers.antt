use Rattle.std.proofs.Common.{◌≡◌, ◌-◌, IfOk, length, ◌∙◌, arith, subst}
use Rattle.java_tree.specs.declared.types.NameKind.TheVariants as kinds
use Rattle.java_bind_expr.proofs.Lasts.{get_or-last_or}
use Rattle.java_bind_expr.proofs.variables.whole_kind.Goals as goal

pub returns-in-len1-up : goal.returns-in-len1-up
returns-in-len1-up c =
    subst (λ x. IfOk c.copied_kind.result (λ k. k ≡ x))
    (c.last-item.is ∙ get_or-last_or kinds.Nothing c.last-item.result c.args.each.now (length c.args.each.now - 1) (omega arith))
    c.copied_kind.ensures
