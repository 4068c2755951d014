use Rattle.std.proofs.Common.{◌≡◌, true, subst, sym, ap, ◌∙◌}
use Rattle.java_model.specs.Names.Supertypes.{supers}
use Rattle.java_types.specs.Entries.{is_declared}
use Rattle.java_supers.proofs.Tables.{its-entry}
use Rattle.java_supers.proofs.hierarchy.Hierarchy.supers.Goals as goal

pub returns : goal.returns
returns c =
    c.as_slice-2.ensures
    ∙ its-entry (supers c.self.inside.declared) c.self.inside.declared c.self.inside.direct c.as_slice.result.now c.args.t c.index-as_slice-t.result c.self.invariant.direct_are c.as_slice.ensures
    (subst (λ e. is_declared e c.args.t ≡ true) (sym c.self.view_is) c.requires) c.index-as_slice-t.is
    ∙ ap (λ e. supers e c.args.t) c.self.view_is
