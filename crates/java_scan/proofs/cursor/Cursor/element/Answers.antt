use Rattle.std.proofs.Common.{ap, ◌∙◌, subst}
use Rattle.java_scan.specs.Steps.{Step, Gives, family_step}
use Rattle.java_scan.proofs.NextSteps.{step_is}
use Rattle.java_scan.proofs.cursor.Cursor.element.Goals as goal

pub returns : goal.returns
returns c =
    let p = c.args.self.now in
    let e = ap (λ f. family_step c.args.level f p) c.family_of.ensures ∙ step_is c.args.level p c.args.c c.requires in
    subst (λ (s : Step). Gives c.begun.result c.begun.new.self s) e c.begun.ensures
