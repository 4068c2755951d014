use Rattle.java_supers.proofs.Noting.{declared-answer}
use Rattle.java_supers.proofs.answers.answer.Goals as goal

pub returns : goal.returns
returns c = declared-answer c.args.env.now c.args.of c.args.name.now c.in-Some.member c.in_ok-only_if.field-0 c.new.result c.new-2.result c.in-Some.ensures c.in_ok-only_if.ensures
