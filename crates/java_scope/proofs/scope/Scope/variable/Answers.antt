use Rattle.std.proofs.Common.{length, sym, ◌∙◌, subst}
use Rattle.java_scope.specs.Linked.{has_key, IsLast}
use Rattle.java_scope.proofs.Linking.{follows, place_within, found, follows_on, follows_less, none_left}
use Rattle.java_scope.proofs.scope.Scope.variable.Goals as goal

pub loop-next-init : goal.loop-next-init
loop-next-init c =
    follows c.args.name.now c.args.self.now c.last-next.result
    (subst (λ k. IsLast (has_key k) c.args.self.now (length c.args.self.now) c.last-next.result) c.name_key.ensures c.last-next.ensures)

pub linked-entry-requires : goal.linked-entry-requires
linked-entry-requires c = place_within c.args.name.now c.args.self.now c.loop-next.next c.loop-next.invariant c.in-Some.place c.in-Some.is

pub returns-then-is_variable : goal.returns-then-is_variable
returns-then-is_variable c =
    found c.args.name.now c.args.self.now c.loop-next.next c.loop-next.invariant c.in-Some.place c.in-Some.is
    c.linked-entry.result.now.bound c.linked-entry.ensures.at (sym c.is_variable.ensures ∙ c.if-is_variable.true)

pub loop-next-preserved : goal.loop-next-preserved
loop-next-preserved c =
    follows_on c.args.name.now c.args.self.now c.loop-next.next c.loop-next.invariant c.in-Some.place c.in-Some.is
    c.linked-entry.result.now c.linked-entry.ensures (sym c.is_variable.ensures ∙ c.if-is_variable.false)

pub loop-next-smaller : goal.loop-next-smaller
loop-next-smaller c =
    follows_less c.args.name.now c.args.self.now c.loop-next.next c.loop-next.invariant c.in-Some.place c.in-Some.is
    c.linked-entry.result.now c.linked-entry.ensures (sym c.is_variable.ensures ∙ c.if-is_variable.false)

pub returns : goal.returns
returns c = none_left c.args.name.now c.args.self.now c.loop-next.next c.loop-next.invariant c.in_default.is
