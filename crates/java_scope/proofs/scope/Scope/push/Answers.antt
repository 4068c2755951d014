use Rattle.std.proofs.Common.{nat_eq}
use Rattle.indexmap.specs.IndexMap.{get}
use Rattle.java_scope.proofs.Linking.{pushes, same_linked}
use Rattle.java_scope.proofs.scope.Scope.push.Goals as goal

pub invariant_of-self-in-Ok : goal.invariant_of-self-in-Ok
invariant_of-self-in-Ok c =
    pushes c.self.inside.entries c.push.new.self (get nat_eq c.self.inside.last) (get nat_eq c.note.new.last) c.args.self.now c.args.bound c.key_of-key.result c.last_of.result c.body.result c.around.result
    c.len-place.result c.self.view_is c.self.invariant c.key_of-key.ensures c.last_of.ensures c.body.ensures c.around.ensures c.len-place.ensures c.in_ok-push.ensures.ok c.in-Ok.ensures.ok

pub invariant_of-self-in-Err : goal.invariant_of-self-in-Err
invariant_of-self-in-Err c =
    same_linked c.take_off.new.entries c.self.inside.entries (get nat_eq c.self.inside.last) (get nat_eq c.note.new.last)
    (c.take_off.ensures c.self.inside.entries _ c.in_ok-push.ensures.ok) c.in-Err.ensures.err c.self.invariant
