use Rattle.std.proofs.Common.{◌≡◌, map, drop}
use Rattle.java_unit_reading.specs.Bodies.{body_from}
use Rattle.java_parse_stmt.specs.Knot.{inside}
use Rattle.java_unit_reading.specs.Reading.Nested.{bodies}
use Rattle.java_unit_reading.specs.Reading.Expressions.{exprs}
use Rattle.java_parse_stmt.proofs.grammar.Grammar.read_bodies.Given as goal

abbrev pub invariant-loop-body : goal.invariant-loop-body
invariant-loop-body g l =
    bodies exprs (inside l.self.depth) l.self.depth l.self.within (map (body_from l.marked) l.fn.bodies) l.fn.types
    ≡ bodies exprs (inside l.self.depth) l.self.depth l.self.within (map (body_from l.marked) (drop l.body-index l.bodies)) l.found
