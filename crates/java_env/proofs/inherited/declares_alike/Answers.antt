use Rattle.std.proofs.Common.{◌<◌, sym, ap, subst, ◌∙◌}
use Rattle.std.specs.List.{list_any}
use Rattle.java_model.specs.Names.Methods.{declared_methods, method_name, same_signature}
use Rattle.java_env.specs.Members.{method_count, methods_of}
use Rattle.java_env.proofs.Declaring.{all-places, any-alike-named, one-signature-less}
use Rattle.java_env.proofs.inherited.declares_alike.Goals as goal

pub loop-place-init : goal.loop-place-init
loop-place-init c =
    ap (list_any (same_signature c.args.env.now c.args.m)) (sym (all-places c.args.env.now c.args.t))
    ∙ sym (any-alike-named c.args.env.now c.args.m (methods_of c.args.env.now c.args.t))

pub loop-place-preserved : goal.loop-place-preserved
loop-place-preserved c =
    one-signature-less (same_signature c.args.env.now c.args.m) c.args.t c.loop-place.place (method_count c.args.env.now c.args.t)
    (list_any (same_signature c.args.env.now c.args.m) (declared_methods c.args.env.now c.args.t (method_name c.args.env.now c.args.m)))
    (subst (λ n. c.loop-place.place < n) c.method_count-place-end.ensures c.loop-place-test.true) (sym c.if-same_signature.ensures) c.loop-place.invariant
