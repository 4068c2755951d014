use Rattle.std.proofs.Common.{◌<◌, ◌≤◌, ap, sym, subst, ◌∙◌}
use Rattle.java_tree.specs.declared.occurrence.TypeId.{TypeId}
use Rattle.java_types.proofs.Numbers.{own_id}
use Rattle.java_env.proofs.Inheriting.{not-declared, not-of-object, of-object-is}
use Rattle.java_env.proofs.inherited.is_public_of_object.Goals as goal

pub returns-then-m-object : goal.returns-then-m-object
returns-then-m-object c = sym (not-of-object c.args.env.now c.args.m (own_id c.args.env.now) (λ e. c.if-m-object.true (e ∙ ap (λ (t : TypeId). t.0) (sym c.object.ensures))))

pub returns-then-m-method_count : goal.returns-then-m-method_count
returns-then-m-method_count c =
    sym (not-declared c.args.env.now c.args.m (subst (λ n. n ≤ c.args.m.place) c.method_count.ensures c.if-m-method_count.true) (c.if-m-object.false ∙ ap (λ (t : TypeId). t.0) c.object.ensures))

pub returns : goal.returns
returns c =
    of-object-is c.args.env.now c.args.m c.is_public.result (own_id c.args.env.now) (subst (λ n. c.args.m.place < n) c.method_count.ensures c.if-m-method_count.false)
    (c.if-m-object.false ∙ ap (λ (t : TypeId). t.0) c.object.ensures) c.is_public.ensures
