use Rattle.std.proofs.Common.{ap, ◌∙◌}
use Rattle.std.specs.Prelude.{unwrap_or}
use Rattle.java_tree.specs.declared.types.NameKind.TheVariants as kinds
use Rattle.java_resolve.specs.Kinds.{is_package}
use Rattle.java_resolve.proofs.Packages.{last-kind}
use Rattle.java_resolve.proofs.kinds.ends_in_package.Goals as goal

pub returns-in-Some : goal.returns-in-Some
returns-in-Some c = c.is_package.ensures ∙ ap (λ o. is_package (unwrap_or o kinds.Nothing)) c.in-Some.ensures.value ∙ ap is_package (last-kind c.args.before.now)

pub returns-in-None : goal.returns-in-None
returns-in-None c = ap (λ o. is_package (unwrap_or o kinds.Nothing)) c.in-None.ensures.value ∙ ap is_package (last-kind c.args.before.now)
