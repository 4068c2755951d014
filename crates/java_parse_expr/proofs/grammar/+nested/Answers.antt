use Rattle.std.proofs.Common.{◌≡◌, ap, arith}
use Rattle.java_expr_reading.specs.Reading.Expressions.{read_nest}
use Rattle.java_expr_reading.proofs.Turns.{deeper}
use Rattle.java_parse_expr.proofs.grammar.+nested.Goals as goal

pub expr-returns-then-depth-eq0 : goal.expr-returns-then-depth-eq0
unfolding read_nest
expr-returns-then-depth-eq0 t c _ = let none : c.args.depth ≡ 0 = omega arith in ap (λ n. (read_nest n).expr c.args.cursor.now) none

pub expr-returns : goal.expr-returns
unfolding read_nest
expr-returns t c = rw (deeper (λ n. (read_nest n).expr c.args.cursor.now) c.args.depth (omega arith)) c.expr_over.ensures

pub prefix-returns-then-depth-eq0 : goal.prefix-returns-then-depth-eq0
unfolding read_nest
prefix-returns-then-depth-eq0 t c _ = let none : c.args.depth ≡ 0 = omega arith in ap (λ n. (read_nest n).prefix c.args.cursor.now) none

pub prefix-returns : goal.prefix-returns
unfolding read_nest
prefix-returns t c = rw (deeper (λ n. (read_nest n).prefix c.args.cursor.now) c.args.depth (omega arith)) c.prefix_over.ensures

pub braces-returns-then-depth-eq0 : goal.braces-returns-then-depth-eq0
unfolding read_nest
braces-returns-then-depth-eq0 t c _ = let none : c.args.depth ≡ 0 = omega arith in ap (λ n. (read_nest n).braces c.args.cursor.now) none

pub braces-returns : goal.braces-returns
unfolding read_nest
braces-returns t c = rw (deeper (λ n. (read_nest n).braces c.args.cursor.now) c.args.depth (omega arith)) c.braces_over.ensures

pub expr-expr_over-requires : goal.expr-expr_over-requires
expr-expr_over-requires t c = record {
  expr = record { callable = λ alloc old. (omega arith, tt); gives = λ alloc old new r p. p.1 };
  prefix = record { callable = λ alloc old. (omega arith, tt); gives = λ alloc old new r p. p.1 };
  braces = record { callable = λ alloc old. (omega arith, tt); gives = λ alloc old new r p. p.1 };
}

pub prefix-prefix_over-requires : goal.prefix-prefix_over-requires
prefix-prefix_over-requires t c = record {
  expr = record { callable = λ alloc old. (omega arith, tt); gives = λ alloc old new r p. p.1 };
  prefix = record { callable = λ alloc old. (omega arith, tt); gives = λ alloc old new r p. p.1 };
  braces = record { callable = λ alloc old. (omega arith, tt); gives = λ alloc old new r p. p.1 };
}

pub braces-braces_over-requires : goal.braces-braces_over-requires
braces-braces_over-requires t c = record {
  expr = record { callable = λ alloc old. (omega arith, tt); gives = λ alloc old new r p. p.1 };
  braces = record { callable = λ alloc old. (omega arith, tt); gives = λ alloc old new r p. p.1 };
}
