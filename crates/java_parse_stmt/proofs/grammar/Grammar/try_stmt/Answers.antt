use Rattle.java_parse_stmt.specs.Knot.{inside}
use Rattle.java_unit_reading.specs.Reading.Expressions.{exprs}
use Rattle.java_unit_reading.specs.Reading.Statements as spec
use Rattle.java_parse_stmt.proofs.grammar.Grammar.try_stmt.Goals as goal

pub returns : goal.returns
unfolding spec.try_stmt
returns g c =
    let d = c.args.self.now.depth in
    rw (c.in_ok-expect.ensures, c.in_ok-block.ensures, c.in_ok-catches.ensures, c.in_ok-finally.ensures)
    (c.tried.ensures exprs (inside d) d c.args.self.now.within c.any_finally.new.reader)
