use Rattle.std.proofs.Common.{◌<◌, ◌++◌, ap, sym, subst}
use Rattle.std.specs.List.{filter}
use Rattle.java_env.specs.Inheriting.{has_method}
use Rattle.java_env.specs.Members.{method_count, methods_of}
use Rattle.java_env.proofs.Declaring.{all-places, one-filtered}
use Rattle.java_env.proofs.inherited.add_methods.Goals as goal

pub loop-place-init : goal.loop-place-init
loop-place-init c = ap (λ ms. c.args.found.now ++ filter (has_method c.args.env.now c.args.t c.args.name.now) ms) (sym (all-places c.args.env.now c.args.owner))

pub loop-place-preserved : goal.loop-place-preserved
loop-place-preserved c =
    one-filtered (has_method c.args.env.now c.args.t c.args.name.now) c.args.owner c.loop-place.place (method_count c.args.env.now c.args.owner) c.loop-place.found c.add_method.new.found
    (c.args.found.now ++ filter (has_method c.args.env.now c.args.t c.args.name.now) (methods_of c.args.env.now c.args.owner))
    (subst (λ n. c.loop-place.place < n) c.method_count-place-end.ensures c.loop-place-test.true) c.in_ok-add_method.ensures c.loop-place.invariant
