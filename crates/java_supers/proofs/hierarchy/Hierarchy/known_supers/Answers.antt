use Rattle.std.proofs.Common.{ap, ◌∙◌}
use Rattle.java_model.specs.Names.Supertypes.{known_supers}
use Rattle.java_supers.specs.Reaching.{next_in}
use Rattle.java_supers.proofs.Tables.{known-next}
use Rattle.java_supers.proofs.hierarchy.Hierarchy.known_supers.Goals as goal

pub returns : goal.returns
returns c =
    let e = c.self.inside in
    c.next_in.ensures ∙ ap (λ ks. next_in ks c.args.t) c.as_slice.ensures ∙ known-next e.declared e.direct e.known c.args.t c.self.invariant.direct_are c.self.invariant.known_are
    ∙ ap (λ env. known_supers env c.args.t) c.self.view_is
