use Rattle.std.proofs.Common.{◌≡◌, ◌≢◌, ℕ, suc, ◌+◌, rules, arith, ap, sym, ◌∙◌}
use Rattle.std.proofs.lemmas.Grind.{common_steps}
use Rattle.java_expr_reading.specs.Input.{Done, Fail, shape, many, many_from}
use Rattle.java_expr_reading.specs.Reading.Operators.{operator_by}
use Rattle.java_expr_reading.specs.declared.operators.Operator.TheVariants.{Other}
use Rattle.java_parse_expr.specs.Chains.{chains}
use Rattle.java_parse_expr.proofs.ChainLaws.{first_fails, first_found, ends_chains, chain_fails, chain_found}
use Rattle.java_expr_reading.specs.Reading.Expressions as spec
use Rattle.java_expr_reading.specs.Reading.Expressions.{read_nest}
use Rattle.java_expr_reading.specs.declared.fault.ExprFault.TheVariants.{NoMemory}
use Rattle.java_parse_expr.proofs.Steps.{infix_of, infix_done, infix_fails}
use Rattle.java_expr_reading.proofs.Turns.{one_more, no_more}
use Rattle.java_parse_expr.proofs.grammar.Grammar.+levels.Goals as goal

pub operations-loop-turn-init : goal.operations-loop-turn-init
unfolding many
operations-loop-turn-init g t c = first_of (search rules, grind (arith, common_steps))

pub operations-returns-in_err-item : goal.operations-returns-in_err-item
unfolding many_from
operations-returns-in_err-item g t c =
    let e = one_more (λ n. many_from (spec.operation c.args.self.now.depth (read_nest c.args.self.now.depth) (suc c.args.below) (spec.binary c.args.self.now.depth (read_nest c.args.self.now.depth) c.args.below)) n c.loop-turn.found c.loop-turn.cursor) _ c.loop-turn._turn c.loop-turn-test.true c.loop-turn.invariant in
    first_of (search rules, grind (arith, common_steps))

pub operations-returns-in-None : goal.operations-returns-in-None
unfolding many_from
operations-returns-in-None g t c =
    let e = one_more (λ n. many_from (spec.operation c.args.self.now.depth (read_nest c.args.self.now.depth) (suc c.args.below) (spec.binary c.args.self.now.depth (read_nest c.args.self.now.depth) c.args.below)) n c.loop-turn.found c.loop-turn.cursor) _ c.loop-turn._turn c.loop-turn-test.true c.loop-turn.invariant in
    first_of (search rules, grind (arith, common_steps))

pub operations-loop-turn-preserved : goal.operations-loop-turn-preserved
unfolding many_from
operations-loop-turn-preserved g t c =
    let e = one_more (λ n. many_from (spec.operation c.args.self.now.depth (read_nest c.args.self.now.depth) (suc c.args.below) (spec.binary c.args.self.now.depth (read_nest c.args.self.now.depth) c.args.below)) n c.loop-turn.found c.loop-turn.cursor) _ c.loop-turn._turn c.loop-turn-test.true c.loop-turn.invariant in
    first_of (search rules, grind (arith, common_steps))

pub operations-returns : goal.operations-returns
unfolding many_from
operations-returns g t c =
    let e = no_more (λ n. many_from (spec.operation c.args.self.now.depth (read_nest c.args.self.now.depth) (suc c.args.below) (spec.binary c.args.self.now.depth (read_nest c.args.self.now.depth) c.args.below)) n c.loop-turn.found c.loop-turn.cursor) _ c.loop-turn._turn c.loop-turn-test.false c.loop-turn.invariant in
    first_of (search rules, grind (arith, common_steps))

pub operation-returns-in_err-operand-in-Infix : goal.operation-returns-in_err-operand-in-Infix
operation-returns-in_err-operand-in-Infix g t c =
    let nest = read_nest c.args.self.now.depth in
    let operand = spec.binary c.args.self.now.depth nest c.args.below in
    let above : c.args.below + 1 ≡ suc c.args.below = omega arith in
    let is_infix = infix_of _ _ _ _ _ c.in-Infix.op c.operator.ensures above c.shape.ensures c.in-Infix.is in
    let fails : c.in_err-operand-in-Infix.field-0.0 ≢ NoMemory → spec.operation c.args.self.now.depth nest (suc c.args.below) operand c.args.cursor.now ≡ Fail =
    λ other. infix_fails c.args.self.now.depth nest (suc c.args.below) operand c.args.cursor.now c.in-Infix.op is_infix
    (ap operand (sym c.take.ensures) ∙ c.in_err-operand-in-Infix.ensures other) in
    first_of (search rules, grind (arith, common_steps))

pub operation-returns-in_ok-operand-in-Infix : goal.operation-returns-in_ok-operand-in-Infix
operation-returns-in_ok-operand-in-Infix g t c =
    let nest = read_nest c.args.self.now.depth in
    let operand = spec.binary c.args.self.now.depth nest c.args.below in
    let above : c.args.below + 1 ≡ suc c.args.below = omega arith in
    let is_infix = infix_of _ _ _ _ _ c.in-Infix.op c.operator.ensures above c.shape.ensures c.in-Infix.is in
    infix_done c.args.self.now.depth nest (suc c.args.below) operand c.args.cursor.now c.in-Infix.op c.in_ok-operand-in-Infix.operand c.binary.new.cursor is_infix
    (ap operand (sym c.take.ensures) ∙ c.in_ok-operand-in-Infix.ensures)

pub binary-returns-in_err-first : goal.binary-returns-in_err-first
binary-returns-in_err-first g t c =
    let nest = read_nest c.args.self.now.depth in
    let fails : c.in_err-first.field-0.0 ≢ NoMemory → spec.binary c.args.self.now.depth nest c.args.level c.args.cursor.now ≡ Fail =
    λ other. first_fails c.args.self.now.depth nest c.args.level c.args.cursor.now (c.in_err-first.ensures other) in
    first_of (search rules, grind (arith, common_steps))

pub binary-returns-then-is_operator : goal.binary-returns-then-is_operator
binary-returns-then-is_operator g t c =
    rw (first_found c.args.self.now.depth (read_nest c.args.self.now.depth) c.args.level c.args.cursor.now c.unary.new.cursor c.in_ok-first.first c.in_ok-first.ensures)
    c.chains.ensures

pub binary-returns-else-is_operator : goal.binary-returns-else-is_operator
binary-returns-else-is_operator g t c =
    let nest = read_nest c.args.self.now.depth in
    let none : (k : ℕ) → operator_by k (shape c.unary.new.cursor) ≡ Other =
    λ k. ap (λ s. operator_by k s) (sym c.shape.ensures) ∙ c.is_operator.ensures.none c.if-is_operator.false k in
    first_found c.args.self.now.depth nest c.args.level c.args.cursor.now c.unary.new.cursor c.in_ok-first.first c.in_ok-first.ensures
    ∙ ends_chains c.args.self.now.depth nest c.unary.new.cursor none c.args.level c.in_ok-first.first

pub chains-loop-below-init : goal.chains-loop-below-init
unfolding chains
chains-loop-below-init g t c = ap (λ x. Done x c.args.cursor.now) (sym c.in_ok-value.ensures)

pub chains-returns-in_err-rest : goal.chains-returns-in_err-rest
chains-returns-in_err-rest g t c =
    let nest = read_nest c.args.self.now.depth in
    let fails : c.in_err-rest.field-0.0 ≢ NoMemory → chains c.args.self.now.depth nest c.args.level c.args.first c.args.cursor.now ≡ Fail =
    λ other. chain_fails c.args.self.now.depth nest c.args.first c.loop-below.value c.args.cursor.now c.loop-below.cursor c.loop-below.below c.args.level
    c.new-in-loop-below.result c.loop-below-test.true c.new-in-loop-below.ensures c.loop-below.invariant (c.in_err-rest.ensures other) in
    first_of (search rules, grind (arith, common_steps))

pub chains-loop-below-preserved : goal.chains-loop-below-preserved
chains-loop-below-preserved g t c =
    let nest = read_nest c.args.self.now.depth in
    chain_found c.args.self.now.depth nest c.args.first c.loop-below.value c.args.cursor.now c.loop-below.cursor c.operations.new.cursor c.loop-below.below
    (c.loop-below.below + 1) c.new-in-loop-below.result c.in_ok-rest.rest (omega arith) c.new-in-loop-below.ensures c.loop-below.invariant c.in_ok-rest.ensures
    ∙ ap (λ x. Done x c.operations.new.cursor) (sym c.in_ok-value-2.ensures)
