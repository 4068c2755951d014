use Rattle.std.proofs.Common.{◌<◌, ◌-◌, ◌++◌, ap, sym, subst, ◌∙◌}
use Rattle.std.specs.List.{filter}
use Rattle.std.specs.Str.{bytes_eq}
use Rattle.java_model.specs.Names.Methods.{method_name}
use Rattle.java_env.specs.Members.{method_count, methods_of, places}
use Rattle.java_env.proofs.Declaring.{all-places, one-filtered}
use Rattle.java_env.proofs.env.Env.declared_methods.Goals as goal

pub loop-place-init : goal.loop-place-init
loop-place-init c =
    ap (λ ids. ids ++ filter (λ m. bytes_eq c.args.name.now (method_name c.args.self.now m)) (places c.args.t 0 (method_count c.args.self.now c.args.t - 0))) c.new-ids.ensures
    ∙ ap (filter (λ m. bytes_eq c.args.name.now (method_name c.args.self.now m))) (sym (all-places c.args.self.now c.args.t))

pub loop-place-preserved : goal.loop-place-preserved
loop-place-preserved c =
    one-filtered (λ m. bytes_eq c.args.name.now (method_name c.args.self.now m)) c.args.t c.loop-place.place (method_count c.args.self.now c.args.t) c.loop-place.ids c.add_named.new.ids
    (filter (λ m. bytes_eq c.args.name.now (method_name c.args.self.now m)) (methods_of c.args.self.now c.args.t))
    (subst (λ n. c.loop-place.place < n) c.method_count-place-end.ensures c.loop-place-test.true) c.in_ok-add_named.ensures c.loop-place.invariant
