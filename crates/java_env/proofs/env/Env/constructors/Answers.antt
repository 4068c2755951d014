use Rattle.std.proofs.Common.{◌<◌, ◌≤◌, ◌-◌, sym, subst, ◌∙◌}
use Rattle.java_env.specs.Members.{body_count, method_count, places}
use Rattle.java_env.proofs.Declaring.{constructors-are, ended, one-constructor}
use Rattle.java_env.proofs.env.Env.constructors.Goals as goal

pub loop-place-preserved : goal.loop-place-preserved
loop-place-preserved c =
    one-constructor c.args.t c.loop-place.place (body_count c.args.self.now c.args.t) c.loop-place.ids c.push.new.self
    (places c.args.t (method_count c.args.self.now c.args.t) (body_count c.args.self.now c.args.t - method_count c.args.self.now c.args.t))
    (subst (λ n. c.loop-place.place < n) c.body_count-place-end.ensures c.loop-place-test.true) c.in_ok-push.ensures.ok c.loop-place.invariant

pub returns : goal.returns
returns c =
    ended c.args.t c.loop-place.place (body_count c.args.self.now c.args.t) c.loop-place.ids
    (places c.args.t (method_count c.args.self.now c.args.t) (body_count c.args.self.now c.args.t - method_count c.args.self.now c.args.t))
    (subst (λ n. n ≤ c.loop-place.place) c.body_count-place-end.ensures c.loop-place-test.false) c.loop-place.invariant
    ∙ sym (constructors-are c.args.self.now c.args.t)
