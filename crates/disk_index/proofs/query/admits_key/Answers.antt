use Rattle.std.proofs.Common.{List, ℕ, ap, ◌∙◌}
use Rattle.disk_index.proofs.ByteTests.{is_text, is_no_text}
use Rattle.disk_index.proofs.query.admits_key.Goals as goal

pub returns-in-Ok : goal.returns-in-Ok
returns-in-Ok g c =
    rw (is_text c.args.key.now c.in-Ok.ensures.cases.1) (c.admits.ensures ∙ ap (λ (t : List ℕ). g.P.Admit.admitted c.args.pattern.now c.category_at.result t) c.in-Ok.ensures.cases.0 ∙ ap (λ k. g.P.Admit.admitted c.args.pattern.now k c.args.key.now) c.category_at.ensures)

pub returns-in-Err : goal.returns-in-Err
returns-in-Err g c = rw (is_no_text c.args.key.now c.in-Err.ensures.cases.0)
