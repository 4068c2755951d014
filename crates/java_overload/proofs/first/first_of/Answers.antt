use Rattle.std.proofs.Common.{◌≡◌, length, take, rules, arith, ap, subst, ◌∙◌}
use Rattle.java_types.proofs.Numbers.{own_id}
use Rattle.java_env.proofs.Gathering.{take-whole}
use Rattle.java_overload.proofs.Firsts.{IsFirst, first-is, first-more, first-none}
use Rattle.java_overload.proofs.first.first_of.Goals as goal

pub loop-m-init : goal.loop-m-init
loop-m-init c = first-none c.args.env.now c.args.concrete

pub loop-m-preserved : goal.loop-m-preserved
loop-m-preserved c =
    first-more c.args.env.now c.args.concrete c.args.methods.now c.loop-m.m-index _ c.loop-m.first c.first_with-first.result (search rules) (search rules) c.loop-m.invariant c.first_with-first.ensures

pub returns : goal.returns
returns c =
    let end : c.loop-m.m-index ≡ length c.args.methods.now = omega (arith, c.loop-m-test.false, c.loop-m.auto.m-index-end) in
    first-is c.args.env.now c.args.concrete c.args.methods.now c.loop-m.first (own_id c.args.env.now)
    (subst (λ ms. IsFirst c.args.env.now c.args.concrete ms c.loop-m.first) (ap (λ n. take n c.args.methods.now) end ∙ take-whole c.args.methods.now) c.loop-m.invariant)
