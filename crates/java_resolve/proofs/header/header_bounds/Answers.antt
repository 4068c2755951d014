use Rattle.std.proofs.Common.{◌∙◌, ap}
use Rattle.java_model.specs.Names.TypeNames.{bounds_around}
use Rattle.java_resolve.proofs.Scopes.{header_is}
use Rattle.java_resolve.proofs.header.header_bounds.Goals as goal

pub returns : goal.returns
returns c =
    header_is c.args.d.now c.as_slice.result.now c.number.result c.as_slice-2.result.now c.past_first-outer.result.now c.in_ok-body.body c.in_ok-locals.locals c.of.result.now c.in_ok-bounds.bounds
    (c.as_slice.ensures ∙ ap (λ o. o.types) c.outline.ensures) c.number.ensures (c.as_slice-2.ensures.value ∙ c.in_ok-around.ensures) c.past_first-outer.ensures c.in_ok-body.ensures c.of.ensures c.in_ok-locals.ensures
    (c.in_ok-bounds.ensures ∙ ap (λ l. bounds_around c.args.d.now l c.past_first-outer.result.now) c.as_slice-3.ensures)
