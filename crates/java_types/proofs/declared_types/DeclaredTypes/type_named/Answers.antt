use Rattle.std.proofs.Common.{rules, of_calls, map, ap, ◌∙◌}
use Rattle.java_model.specs.Names.Environments.{declared}
use Rattle.java_types.specs.Entries.{entry_of, entry_is_named}
use Rattle.java_types.proofs.ByName.{names_keyed, named_found}
use Rattle.java_types.proofs.declared_types.DeclaredTypes.type_named.Goals as goal

pub returns : goal.returns
returns c =
    c.as_id.ensures
    ∙ named_found c.args.self.now c.args.qualifier.now c.args.names.now c.self.inside.entries c.as_slice.result.now c.first_with_key-number.result c.as_slice.ensures
    (c.self.invariant.entries_are ∙ ap (λ env. map entry_of (declared env)) c.self.view_is)
    (c.first_with_key-number.ensures (entry_is_named c.args.qualifier.now c.args.names.now) (λ x r k. search (rules, of_calls))
    (names_keyed c.args.qualifier.now c.args.names.now c.self.inside.entries c.as_slice.result.now c.self.inside.names c.name_key-key.result c.as_slice.ensures c.self.invariant.names_are c.name_key-key.ensures))
