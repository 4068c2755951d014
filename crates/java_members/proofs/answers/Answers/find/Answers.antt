use Rattle.std.proofs.Common.{◌≡◌, sym, ap, subst, arith}
use Rattle.java_model.specs.Names.Environments.{type_id}
use Rattle.java_members.specs.Members.{Same}
use Rattle.java_members.proofs.answers.Answers.find.Goals as goal

pub returns-then-answer-t : goal.returns-then-answer-t
returns-then-answer-t c = λ all h.
    let number : c.in_ok-answer.answer.now.of.0 ≡ c.args.t.0 = omega (arith, c.if-answer-t.true) in
    subst (λ u. Same c.in_ok-answer.answer.now.members (all u)) (ap type_id number) (h c.in_ok-place.place c.in_ok-answer.answer.now (sym c.in_ok-answer.ensures.value))
