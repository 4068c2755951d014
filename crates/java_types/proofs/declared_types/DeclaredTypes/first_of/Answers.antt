use Rattle.std.proofs.Common.{map, ap, ◌∙◌}
use Rattle.java_model.specs.Names.Environments.{declared, type_named}
use Rattle.java_types.specs.Entries.{entry_of}
use Rattle.java_types.proofs.ByName.{first_is_own, first_is_named}
use Rattle.java_types.proofs.declared_types.DeclaredTypes.first_of.Goals as goal

pub returns-then-entry : goal.returns-then-entry
returns-then-entry c = λ d at.
    first_is_own c.args.self.now c.args.id d c.self.inside.entries c.as_slice.result.now c.index-as_slice-id.result at c.as_slice.ensures
    (c.self.invariant.entries_are ∙ ap (λ env. map entry_of (declared env)) c.self.view_is) c.index-as_slice-id.is c.if-entry.true

pub returns : goal.returns
returns c = λ d at.
    c.unwrap_or.ensures
    ∙ first_is_named c.args.self.now c.args.id d c.self.inside.entries c.as_slice.result.now c.index-as_slice-id.result c.type_named-named.result at c.as_slice.ensures
    (c.self.invariant.entries_are ∙ ap (λ env. map entry_of (declared env)) c.self.view_is) c.index-as_slice-id.is c.if-entry.false
    (c.type_named-named.ensures ∙ ap (λ q. type_named c.args.self.now q c.as_slice-2.result.now) c.as_str-package.ensures ∙ ap (type_named c.args.self.now c.index-as_slice-id.result.info.«package») c.as_slice-2.ensures)
