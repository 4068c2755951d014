use Rattle.std.proofs.Common.{◌≡◌, false, sym, ◌∙◌}
use Rattle.java_model.specs.Lexical.Escapes.{is_high}
use Rattle.java_scan.specs.Joining.{input_of}
use Rattle.java_scan.proofs.JoiningLaws.{started_high, started_plain}
use Rattle.java_scan.proofs.joining.Unescaped.start.Goals as goal

pub returns-then-is_high-clause-ok : goal.returns-then-is_high-clause-ok
returns-then-is_high-clause-ok c = λ units width r at. started_high c.args.unit width r at

pub returns-clause-ok : goal.returns-clause-ok
returns-clause-ok c = λ units width r at.
    let plain : is_high (input_of c.args.unit width) ≡ false = sym c.is_high.ensures ∙ c.if-is_high.false in
    started_plain c.args.unit width r plain c.in_ok-push.ensures.ok at
