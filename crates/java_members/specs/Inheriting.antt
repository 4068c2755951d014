-- What types have, and what was found of them.
use Rattle.std.specs.Prelude.{◌≡◌, ℕ, List, Some, map, slice_get}
use Rattle.java_tree.specs.declared.occurrence.FieldId.{FieldId}
use Rattle.java_tree.specs.declared.occurrence.TypeId.{TypeId}
use Rattle.java_model.specs.Names.Environments.{Env, type_id}
use Rattle.java_model.specs.Names.Fields.{fields_by}
use Rattle.java_model.specs.Names.Lists.{Identifier}
use Rattle.java_model.specs.Names.MemberTypes.{member_types_by}
use Rattle.java_model.specs.Names.Supertypes.{count}
use Rattle.java_members.specs.Members.{Same}
use Rattle.java_members.specs.declared.answers.Answer.{Answer}
use Rattle.java_members.specs.declared.member.Member.{Member}

-- Each answer has the members of its type.
abbrev pub AreOf : (TypeId → List Member) → List Answer → Type 0
AreOf all answers = (i : ℕ) (a : Answer) → slice_get answers i ≡ Some a → Same a.members (all a.of)

-- what is looked for
pub record Sought : Type 0 where
  pub env : Env
  pub name : Identifier

-- fields and types as members
abbrev pub of_field : FieldId → Member
of_field f = record { of = f.of.0; place = f.place }

abbrev pub field_of : Member → FieldId
field_of m = record { of = type_id m.of; place = m.place }

abbrev pub of_type : TypeId → Member
of_type t = record { of = t.0; place = 0 }

abbrev pub type_of : Member → TypeId
type_of m = type_id m.of

-- all fields and member types of a name that a type has
unfoldable pub fields_had : Env → Identifier → TypeId → List Member
fields_had env name t = map of_field (fields_by (count env) env t name)

unfoldable pub types_had : Env → Identifier → TypeId → List Member
types_had env name t = map of_type (member_types_by (count env) env t name)
