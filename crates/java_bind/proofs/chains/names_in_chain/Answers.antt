use Rattle.std.proofs.Common.{inr, arith, ◌∙◌}
use Rattle.java_scope.specs.Units.{context}
use Rattle.java_bind.proofs.Selectors.{last_selector_in, next_selectors_in}
use Rattle.java_bind.proofs.chains.names_in_chain.Goals as goal

pub loop-left-preserved : goal.loop-left-preserved
loop-left-preserved c = record {
  same = c.in_ok-t.ensures.same ∙ c.loop-left.invariant.same;
  adds =
      next_selectors_in (context c.args.unit.now) c.args.scope.now c.args.how c.loop-left.t c.s-item.result c.types-item.result _
      c.loop-left.invariant.same c.loop-left.left.now c.loop-left.types_left.now _ _ _ _
      (omega arith) (omega arith) c.s-item.is c.types-item.is c.if-left-eq1.false c.if-types_left-eq1.false
      c.in_ok-t.ensures.adds c.in_ok-t.ensures.of c.loop-left.invariant.adds;
}

pub returns-then-types_left-eq1-clause-adds : goal.returns-then-types_left-eq1-clause-adds
returns-then-types_left-eq1-clause-adds c =
    last_selector_in (context c.args.unit.now) c.args.scope.now c.args.how c.loop-left.t c.s-item.result c.types-item.result _
    c.loop-left.invariant.same c.loop-left.left.now c.loop-left.types_left.now _ _ _ (omega arith) (omega arith) c.s-item.is c.types-item.is
    (inr c.if-types_left-eq1.true) c.in_ok-names_in_selector-2.ensures.adds c.loop-left.invariant.adds
