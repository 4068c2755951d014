use Rattle.std.proofs.Common.{rules, ◌-◌, nat_eq, suc, ap, subst, arith, ◌≡◌}
use Rattle.std.proofs.lemmas.Option.{slice_get-get_or}
use Rattle.std.specs.Map.{lookup}
use Rattle.indexmap.specs.IndexMap.{get}
use Rattle.java_types.specs.Tables.{AreLinked}
use Rattle.java_types.proofs.Linking.{none_linked, linked_next}
use Rattle.java_types.proofs.tables.link.Goals as goal

pub loop-left-init : goal.loop-left-init
loop-left-init c = none_linked c.args.keys.now (get nat_eq c.args.first.now) c.args.next.now c.requires.unlinked (λ k. ap (lookup (nat_eq k)) c.requires.none)

pub loop-left-preserved : goal.loop-left-preserved
loop-left-preserved c =
    let one : c.loop-left.left ≡ suc (c.loop-left.left - 1) = omega (arith, c.loop-left-test.true) in
    linked_next c.args.keys.now (c.loop-left.left - 1) _ c.first_of.result (get nat_eq c.loop-left.first) (get nat_eq c.note.new.first) c.loop-left.next c.push.new.self
    (slice_get-get_or c.args.keys.now (c.loop-left.left - 1) _ (search rules)) (subst (λ n. AreLinked c.args.keys.now n (get nat_eq c.loop-left.first) c.loop-left.next) one c.loop-left.invariant)
    c.first_of.ensures c.in_ok-push.ensures.ok c.in_ok-note.ensures

pub returns : goal.returns
returns c = subst (λ n. AreLinked c.args.keys.now n (get nat_eq c.loop-left.first) c.loop-left.next) (search rules) c.loop-left.invariant
