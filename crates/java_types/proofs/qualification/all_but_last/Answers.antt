use Rattle.std.proofs.Common.{◌≡◌, ◌-◌, length, take, ap, ◌∙◌, arith}
use Rattle.java_types.proofs.Qualifying.{all_but_last}
use Rattle.java_types.proofs.qualification.all_but_last.Goals as goal

pub returns : goal.returns
returns c =
    let short : c.saturating_sub.result ≡ length c.args.names.now - 1 = omega arith in
    ap (λ k. take k c.args.names.now) short ∙ all_but_last c.args.names.now
