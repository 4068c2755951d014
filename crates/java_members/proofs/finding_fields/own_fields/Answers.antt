use Rattle.std.proofs.Common.{map, sym, ap, ◌∙◌, true≢false}
use Rattle.java_members.specs.Inheriting.{of_field}
use Rattle.java_members.proofs.FieldsHad.{has-own}
use Rattle.java_members.proofs.finding_fields.own_fields.Goals as goal

pub returns : goal.returns
returns c =
    has-own c.args.env.now c.args.name.now c.args.t c.in_ok-as_members.field-0 c.supertypes_have_no_cycle.ensures c.sub_is_transitive.ensures
    (λ e. true≢false (sym (c.is_empty.ensures.1 (c.in_ok-own.ensures ∙ e)) ∙ c.if-is_empty.false))
    (c.in_ok-as_members.ensures ∙ ap (map of_field) (c.as_slice.ensures ∙ c.in_ok-own.ensures))
