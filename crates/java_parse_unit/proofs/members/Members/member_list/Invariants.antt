use Rattle.std.proofs.Common.{◌≡◌, ◌-◌}
use Rattle.java_unit_reading.specs.Reading.Steps.{many, list_from, list}
use Rattle.java_unit_reading.specs.Reading.Members as spec
use Rattle.java_unit_reading.specs.Reading.Expressions.{exprs}
use Rattle.java_parse_stmt.specs.Knot.{inside}
use Rattle.java_parse_unit.proofs.members.Members.member_list.Given as goal

abbrev pub invariant-loop-turn : goal.invariant-loop-turn
invariant-loop-turn g l =
    list (spec.any_member exprs (inside l.self.nested.depth) l.self.nested.depth l.self.nested.within l.head) l.fn.reader
    ≡ many (spec.any_member exprs (inside l.self.nested.depth) l.self.nested.depth l.self.nested.within l.head) (l._turn-end - l._turn) l.found l.reader
