use Rattle.std.proofs.Common.{Some, refl, sym, ◌∙◌}
use Rattle.java_scope.proofs.Seeking.{starts, has_place, goes_on, less, finds_some, ends}
use Rattle.java_scope.proofs.variables.variable_kind.Goals as goal

pub loop-place-init : goal.loop-place-init
loop-place-init c = starts c.args.unit.now.env.now c.args.name.now c.args.scope.now c.variable-local.result c.body-next.result c.variable-local.ensures c.body-next.ensures

pub linked-entry-requires : goal.linked-entry-requires
linked-entry-requires c =
    has_place c.args.unit.now.env.now c.args.name.now c.args.scope.now c.variable-local.result c.loop-place.next c.loop-place.invariant
    (Some c.in-Some.place) c.in-Some.ensures.a c.in-Some.ensures.b c.in-Some.ensures.one c.in-Some.place refl

pub returns-then-is_some : goal.returns-then-is_some
returns-then-is_some c =
    finds_some c.args.unit.now.env.now c.args.name.now c.args.scope.now c.variable-local.result c.loop-place.next c.loop-place.invariant
    (Some c.in-Some.place) c.in-Some.ensures.a c.in-Some.ensures.b c.in-Some.ensures.one c.in-Some.place c.linked-entry.result.now.bound c.in_ok-found.found
    refl c.linked-entry.ensures.at (sym c.is_some.ensures ∙ c.if-is_some.true) c.in_ok-found.ensures

pub loop-place-preserved : goal.loop-place-preserved
loop-place-preserved c =
    goes_on c.args.unit.now.env.now c.args.name.now c.args.scope.now c.variable-local.result c.loop-place.next c.loop-place.invariant
    (Some c.in-Some.place) c.in-Some.ensures.a c.in-Some.ensures.b c.in-Some.ensures.one c.in-Some.place c.linked-entry.result.now.bound
    refl c.linked-entry.ensures.at c.in_ok-found.found (sym c.is_some.ensures ∙ c.if-is_some.false) c.in_ok-found.ensures c.linked-entry.result.now.body c.linked-entry.ensures.body

pub loop-place-smaller : goal.loop-place-smaller
loop-place-smaller c =
    less c.args.unit.now.env.now c.args.name.now c.args.scope.now c.variable-local.result c.loop-place.next c.loop-place.invariant
    (Some c.in-Some.place) c.in-Some.ensures.a c.in-Some.ensures.b c.in-Some.ensures.one c.in-Some.place c.linked-entry.result.now.bound
    refl c.linked-entry.ensures.at c.in_ok-found.found (sym c.is_some.ensures ∙ c.if-is_some.false) c.in_ok-found.ensures c.linked-entry.result.now.body c.linked-entry.ensures.body

pub returns : goal.returns
returns c =
    ends c.args.unit.now.env.now c.args.name.now c.args.scope.now c.variable-local.result c.loop-place.next c.loop-place.invariant
    c.later.result c.later.ensures.a c.later.ensures.b c.later.ensures.one c.in_default.is
