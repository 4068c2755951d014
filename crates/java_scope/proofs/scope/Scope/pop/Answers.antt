use Rattle.std.proofs.Common.{nat_eq}
use Rattle.indexmap.specs.IndexMap.{get}
use Rattle.java_scope.proofs.Linking.{popped_linked, popped_noted, popped_view}
use Rattle.java_scope.proofs.scope.Scope.pop.Goals as goal

pub forget-requires : goal.forget-requires
forget-requires c = popped_noted c.pop-popped.result c.self.inside.entries c.pop-popped.new.self (get nat_eq c.self.inside.last) c.pop-popped.ensures c.self.invariant

pub invariant_of-self : goal.invariant_of-self
invariant_of-self c =
    popped_linked c.pop-popped.result c.self.inside.entries c.pop-popped.new.self (get nat_eq c.self.inside.last) (get nat_eq c.forget.new.last)
    c.pop-popped.ensures c.self.invariant c.forget.ensures.none c.forget.ensures.some

pub returns : goal.returns
returns c = popped_view c.pop-popped.result c.self.inside.entries c.pop-popped.new.self c.args.self.now c.pop-popped.ensures c.self.view_is
