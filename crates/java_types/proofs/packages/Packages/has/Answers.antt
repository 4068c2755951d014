use Rattle.std.proofs.Common.{rules, of_calls, ap, sym, ◌∙◌}
use Rattle.std.specs.List.{list_any}
use Rattle.java_model.specs.Names.Lists.{same_name}
use Rattle.java_types.proofs.KnownPackages.{is_found, packages_keyed}
use Rattle.java_types.proofs.Longest.{none_as_long}
use Rattle.java_types.proofs.packages.Packages.has.Goals as goal

pub returns : goal.returns
returns c =
    is_found c.args.name.now c.self.inside.names c.as_slice.result.now c.first_with_key-found.result c.is_some.result c.as_slice.ensures c.is_some.ensures
    (c.first_with_key-found.ensures (same_name c.args.name.now) (λ x r k. search (rules, of_calls))
    (packages_keyed c.args.name.now c.self.inside.names c.as_slice.result.now c.self.inside.table c.name_key-key.result c.as_slice.ensures c.self.invariant.0 c.name_key-key.ensures))
    ∙ ap (list_any (same_name c.args.name.now)) c.self.view_is

pub returns-then-name-self : goal.returns-then-name-self
returns-then-name-self c =
    sym (none_as_long c.args.name.now c.self.inside.names c.self.inside.longest c.if-name-self.true c.self.invariant.1) ∙ ap (list_any (same_name c.args.name.now)) c.self.view_is
