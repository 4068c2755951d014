use Rattle.java_types.proofs.ByName.{member_none, member_some, member_declared}
use Rattle.java_types.proofs.declared_types.DeclaredTypes.declared_member.Goals as goal

pub first_of-requires : goal.first_of-requires
first_of-requires c = member_declared c.args.self.now c.args.t c.args.name.now c.member_number.result c.in-Some.number c.member_number.ensures c.in-Some.is

pub returns-in-Some : goal.returns-in-Some
returns-in-Some c = member_some c.args.self.now c.args.t c.args.name.now c.member_number.result c.in-Some.number c.first_of.result c.member_number.ensures c.in-Some.is c.first_of.ensures

pub returns-in-None : goal.returns-in-None
returns-in-None c = member_none c.args.self.now c.args.t c.args.name.now c.member_number.result c.member_number.ensures c.in-None.is
