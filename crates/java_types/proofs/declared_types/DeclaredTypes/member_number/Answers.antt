use Rattle.std.proofs.Common.{rules, of_calls, map, ap, ◌∙◌}
use Rattle.java_model.specs.Names.Environments.{declared}
use Rattle.java_types.specs.Entries.{entry_of}
use Rattle.java_types.specs.Keys.{entry_is_member}
use Rattle.java_types.proofs.ByName.{members_keyed, member_found}
use Rattle.java_types.proofs.declared_types.DeclaredTypes.member_number.Goals as goal

pub returns : goal.returns
returns c =
    member_found c.args.self.now c.args.t c.args.name.now c.self.inside.entries c.as_slice.result.now c.first_with_key.result c.as_slice.ensures
    (c.self.invariant.entries_are ∙ ap (λ env. map entry_of (declared env)) c.self.view_is)
    (c.first_with_key.ensures (entry_is_member c.args.t c.args.name.now) (λ x r k. search (rules, of_calls))
    (members_keyed c.args.t c.args.name.now c.self.inside.entries c.as_slice.result.now c.self.inside.members c.member_key-key.result c.as_slice.ensures c.self.invariant.members_are c.member_key-key.ensures))
