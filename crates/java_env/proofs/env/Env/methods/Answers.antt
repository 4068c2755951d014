use Rattle.std.proofs.Common.{◌++◌, ℕ, length, take, refl, ap, sym, ◌∙◌}
use Rattle.std.specs.List.{filter, flat_map}
use Rattle.std.specs.Map.Iter.{deref}
use Rattle.std.proofs.lemmas.List.{length_push}
use Rattle.std.proofs.lemmas.Map.Iter.{iter_end, iter_turn}
use Rattle.java_model.specs.Names.Environments.{type_id}
use Rattle.java_types.proofs.Numbers.{own_id}
use Rattle.java_env.specs.Inheriting.{has_method}
use Rattle.java_env.specs.Members.{methods_of}
use Rattle.java_env.proofs.Gathering.{gathered, one-type-more, take-whole}
use Rattle.java_env.proofs.env.Env.methods.Goals as goal

pub loop-number-preserved : goal.loop-number-preserved
loop-number-preserved c =
    let each = λ (n : ℕ). filter (has_method c.args.self.now c.args.t c.args.name.now) (methods_of c.args.self.now (type_id n)) in
    let all = c.into_iter-number-iterator.result in
    let turn = iter_turn deref all c.loop-number.yielded all c.loop-number.number-iterator c.next.new.self c.next.result refl c.loop-number.yielded_by c.in-Some.number c.in-Some.is c.next.ensures.steps in
    c.in_ok-add_methods.ensures
    ∙ ap (λ fs. fs ++ each c.in-Some.number.now) c.loop-number.invariant
    ∙ sym (one-type-more each all (length c.loop-number.yielded) c.in-Some.number.now turn.1)
    ∙ ap (λ n. flat_map each (take n all)) (sym (length_push c.loop-number.yielded c.in-Some.number))

pub returns : goal.returns
returns c =
    let each = λ (n : ℕ). filter (has_method c.args.self.now c.args.t c.args.name.now) (methods_of c.args.self.now (type_id n)) in
    let all = c.into_iter-number-iterator.result in
    let gives = c.into_iter-number-iterator.ensures.into_iter_gives in
    let end = iter_end deref all c.loop-number.yielded all c.loop-number.number-iterator c.next.new.self c.next.result refl c.loop-number.yielded_by c.in-None.is c.next.ensures.steps in
    c.loop-number.invariant
    ∙ ap (λ n. flat_map each (take n all)) end.1 ∙ ap (flat_map each) (take-whole all) ∙ ap (flat_map each) gives.0
    ∙ gathered c.args.self.now c.args.t c.args.name.now c.in_ok-types.types (own_id c.args.self.now) c.in_ok-types.ensures gives.4
