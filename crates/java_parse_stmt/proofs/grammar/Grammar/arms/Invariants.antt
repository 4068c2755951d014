use Rattle.std.proofs.Common.{◌≡◌, ◌-◌, suc, length}
use Rattle.java_parse_stmt.specs.Knot.{inside}
use Rattle.java_unit_reading.specs.Reading.Expressions.{exprs}
use Rattle.java_unit_reading.specs.Reading.Statements.{arms_from}
use Rattle.java_parse_stmt.proofs.grammar.Grammar.arms.Given as goal

abbrev pub invariant-loop-turn : goal.invariant-loop-turn
invariant-loop-turn g l =
    arms_from exprs (inside l.self.depth) l.self.depth l.self.within (suc (length l.fn.reader.tokens)) l.fn.found l.fn.reader
    ≡ arms_from exprs (inside l.self.depth) l.self.depth l.self.within (l._turn-end - l._turn) l.found l.reader
