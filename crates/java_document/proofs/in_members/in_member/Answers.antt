use Rattle.std.proofs.Common.{rules}
use Rattle.java_document.proofs.InMembers.{in_semicolon, in_initializer_block, in_member_type, in_method, in_constructor_member, in_field}
use Rattle.java_document.proofs.in_members.in_member.Goals as goal

pub returns-in-Empty : goal.returns-in-Empty
returns-in-Empty c = search (rules, in_semicolon)

pub returns-in-Initializer : goal.returns-in-Initializer
returns-in-Initializer c = search (rules, in_initializer_block)

pub returns-in-Type : goal.returns-in-Type
returns-in-Type c = search (rules, in_member_type)

pub returns-in-Method : goal.returns-in-Method
returns-in-Method c = search (rules, in_method)

pub returns-in-Constructor : goal.returns-in-Constructor
returns-in-Constructor c = search (rules, in_constructor_member)

pub returns-in-Field : goal.returns-in-Field
returns-in-Field c = search (rules, in_field)
