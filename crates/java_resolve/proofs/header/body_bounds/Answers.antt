use Rattle.std.proofs.Common.{◌∙◌, ap}
use Rattle.java_resolve.proofs.Scopes.{body_is}
use Rattle.java_resolve.proofs.header.body_bounds.Goals as goal

pub returns : goal.returns
returns c =
    body_is c.args.d.now c.as_slice.result.now c.number.result c.as_slice-bodies.result.now c.in_ok-locals.locals c.as_slice-2.result.now c.in_ok-bounds.bounds
    (c.as_slice.ensures ∙ ap (λ o. o.types) c.outline.ensures) c.number.ensures (c.as_slice-bodies.ensures.value ∙ c.in_ok-around.ensures) c.in_ok-locals.ensures c.as_slice-2.ensures c.in_ok-bounds.ensures
