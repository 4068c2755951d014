use Rattle.std.proofs.Common.{rules}
use Rattle.java_model.specs.Grammar.YieldUnit.{yield_member}
use Rattle.java_document.proofs.InStatements.{keeps_next}
use Rattle.java_document.proofs.in_members.in_members.Goals as goal

pub loop-member-preserved : goal.loop-member-preserved
loop-member-preserved c =
    search (rules, keeps_next c.args.scope.now c.loop-member.scope c.in_member.new.scope yield_member c.args.members.now c.loop-member.member-index c.member-item.result)
