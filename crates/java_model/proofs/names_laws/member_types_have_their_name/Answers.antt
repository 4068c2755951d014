use Rattle.java_model.proofs.Names.MemberTypeLaws.{member_types_have_their_name}
use Rattle.java_model.proofs.names_laws.member_types_have_their_name.Goals as goal

pub returns : goal.returns
returns c = member_types_have_their_name
