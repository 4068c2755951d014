use Rattle.std.proofs.Common.{refl, ap, ◌∙◌}
use Rattle.java_model.specs.Names.Environments.{same_id}
use Rattle.java_model.specs.Names.Lists.{is_among}
use Rattle.java_model.specs.Names.Supertypes.{is_sub}
use Rattle.java_supers.specs.Reaching.{reached_in}
use Rattle.java_supers.proofs.Tables.{its-ancestors}
use Rattle.java_supers.proofs.hierarchy.Hierarchy.is_sub.Goals as goal

pub returns : goal.returns
returns c =
    let e = c.self.inside in
    c.leads_to.ensures ∙ ap (λ ks. is_among same_id c.args.t (reached_in ks c.args.s)) c.as_slice.ensures
    ∙ ap (is_among same_id c.args.t) (its-ancestors e.declared e.direct e.known c.args.s (reached_in e.known c.args.s) c.self.invariant.direct_are c.self.invariant.known_are refl)
    ∙ ap (λ env. is_sub env c.args.s c.args.t) c.self.view_is
