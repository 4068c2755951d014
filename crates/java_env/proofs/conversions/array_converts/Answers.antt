use Rattle.std.proofs.Common.{◌<◌, arith, sym, ◌∙◌}
use Rattle.java_env.proofs.Converting.{array-same, array-less, array-more}
use Rattle.java_env.proofs.conversions.array_converts.Goals as goal

pub returns-then-from_dims-to_dims : goal.returns-then-from_dims-to_dims
returns-then-from_dims-to_dims c = c.element_converts.ensures ∙ sym (array-same c.args.env.now c.args.from_dims c.args.to_dims c.args.from.now c.args.to.now c.if-from_dims-to_dims.true)

pub returns-then-from_dims-to_dims-2 : goal.returns-then-from_dims-to_dims-2
returns-then-from_dims-to_dims-2 c = c.element_to_array.ensures ∙ sym (array-less c.args.env.now c.args.from_dims c.args.to_dims c.args.from.now c.args.to.now c.if-from_dims-to_dims-2.true)

pub returns-else-from_dims-to_dims-2 : goal.returns-else-from_dims-to_dims-2
returns-else-from_dims-to_dims-2 c =
    let more : c.args.to_dims < c.args.from_dims = omega (arith, c.if-from_dims-to_dims.false, c.if-from_dims-to_dims-2.false) in
    c.array_to_element.ensures ∙ sym (array-more c.args.env.now c.args.from_dims c.args.to_dims c.args.from.now c.args.to.now more)
