use Rattle.std.proofs.Common.{rules, arith}
use Rattle.std.proofs.lemmas.Grind.{common_steps}
use Rattle.java_expr_reading.proofs.Turns.{one_more, no_more}
use Rattle.java_parse_stmt.specs.Knot.{inside}
use Rattle.java_unit_reading.specs.Reading.Expressions.{exprs}
use Rattle.java_unit_reading.specs.Reading.Statements as spec
use Rattle.java_parse_stmt.proofs.grammar.Grammar.arms.Goals as goal

pub returns-then-not-sees : goal.returns-then-not-sees
unfolding spec.arms_from
returns-then-not-sees g c =
    let e = one_more (λ n. spec.arms_from exprs (inside c.args.self.now.depth) c.args.self.now.depth c.args.self.now.within
    n c.loop-turn.found c.loop-turn.reader) _ c.loop-turn._turn c.loop-turn-test.true c.loop-turn.invariant in
    first_of (search rules, grind (arith, common_steps))

pub returns-then-not-sees-2 : goal.returns-then-not-sees-2
unfolding spec.arms_from
returns-then-not-sees-2 g c =
    let e = one_more (λ n. spec.arms_from exprs (inside c.args.self.now.depth) c.args.self.now.depth c.args.self.now.within
    n c.loop-turn.found c.loop-turn.reader) _ c.loop-turn._turn c.loop-turn-test.true c.loop-turn.invariant in
    first_of (search rules, grind (arith, common_steps))

pub returns-in_err-arm : goal.returns-in_err-arm
unfolding spec.arms_from
returns-in_err-arm g c =
    let e = one_more (λ n. spec.arms_from exprs (inside c.args.self.now.depth) c.args.self.now.depth c.args.self.now.within
    n c.loop-turn.found c.loop-turn.reader) _ c.loop-turn._turn c.loop-turn-test.true c.loop-turn.invariant in
    first_of (search rules, grind (arith, common_steps))

pub loop-turn-preserved : goal.loop-turn-preserved
unfolding spec.arms_from
loop-turn-preserved g c =
    let e = one_more (λ n. spec.arms_from exprs (inside c.args.self.now.depth) c.args.self.now.depth c.args.self.now.within
    n c.loop-turn.found c.loop-turn.reader) _ c.loop-turn._turn c.loop-turn-test.true c.loop-turn.invariant in
    first_of (search rules, grind (arith, common_steps))

pub returns : goal.returns
unfolding spec.arms_from
returns g c =
    let e = no_more (λ n. spec.arms_from exprs (inside c.args.self.now.depth) c.args.self.now.depth c.args.self.now.within
    n c.loop-turn.found c.loop-turn.reader) _ c.loop-turn._turn c.loop-turn-test.false c.loop-turn.invariant in
    first_of (search rules, grind (arith, common_steps))
