use Rattle.std.proofs.Common.{rules, [], ◌∷◌, map, ap, ◌∙◌}
use Rattle.java_model.specs.Names.Environments.{declared}
use Rattle.java_model.specs.Names.Lists.{with_dots}
use Rattle.java_types.specs.Entries.{entry_of}
use Rattle.java_types.proofs.ByName.{none_with_key}
use Rattle.java_types.proofs.Longest.{none_in_longer}
use Rattle.java_types.proofs.declared_types.DeclaredTypes.type_in_package.Goals as goal

pub returns-then-is_longer : goal.returns-then-is_longer
returns-then-is_longer c =
    none_in_longer c.args.self.now (with_dots c.args.qualifier.now) (c.args.name.now ∷ []) c.self.inside.entries c.self.inside.longest
    (c.self.invariant.entries_are ∙ ap (λ env. map entry_of (declared env)) c.self.view_is) c.self.invariant.short (c.is_longer.ensures c.if-is_longer.true)

pub returns-then-is_none : goal.returns-then-is_none
returns-then-is_none c =
    none_with_key c.args.self.now (with_dots c.args.qualifier.now) (c.args.name.now ∷ []) c.self.inside.entries c.self.inside.names c.package_key-key.result c.first.result
    (c.self.invariant.entries_are ∙ ap (λ env. map entry_of (declared env)) c.self.view_is) c.self.invariant.names_are c.package_key-key.ensures c.first.ensures (search rules)
