use Rattle.std.proofs.Common.{◌≡◌, ◌-◌, ap, sym, ◌∙◌, refl, arith, rules}
use Rattle.std.proofs.lemmas.Result.{err_from_is_err_and}
use Rattle.java_expr_reading.proofs.Turns.{deeper}
use Rattle.java_parse_stmt.specs.Knot.{inside}
use Rattle.java_unit_reading.specs.Reading.Expressions.{exprs}
use Rattle.java_unit_reading.specs.Reading.Steps.{Done}
use Rattle.java_unit_reading.specs.Reading.Units.{parts}
use Rattle.java_parse_unit.proofs.DepthLaws.{some_left, type_parts, no_members}
use Rattle.java_parse_unit.proofs.knot.+nested.Goals as goal

pub stmt-returns-then-depth-eq0 : goal.stmt-returns-then-depth-eq0
unfolding parts
stmt-returns-then-depth-eq0 t c _ = let none : c.args.depth ≡ 0 = omega arith in ap (λ n. (inside n).stmt c.args.within c.args.reader.now) none

pub stmt-returns : goal.stmt-returns
unfolding parts
stmt-returns t c = rw (deeper (λ n. (inside n).stmt c.args.within c.args.reader.now) c.args.depth (omega arith)) c.stmt_over.ensures

pub stmt-stmt_over-requires : goal.stmt-stmt_over-requires
stmt-stmt_over-requires t c = record {
  few = omega arith;
  stmt_callable = λ alloc old. (omega arith, omega arith);
  stmt_gives = λ alloc old new r p. p.2;
  type_callable = λ alloc old left place. (omega arith, omega arith);
  type_gives = λ alloc old new left place r p. p.3;
}

pub type_decl-members-requires : goal.type_decl-members-requires
type_decl-members-requires t c = record {
  few = omega arith;
  stmt_callable = λ alloc old. (omega arith, omega arith);
  stmt_gives = λ alloc old new r p. p.2;
  type_callable = λ alloc old left place. (omega arith, omega arith);
  type_gives = λ alloc old new left place r p. p.3;
}

pub type_decl-returns-in_err-members : goal.type_decl-returns-in_err-members
type_decl-returns-in_err-members t c =
    let p = err_from_is_err_and c.from_residual-in_err-members.result c.from_residual-in_err-members.ensures.1 in
    rw (p.1, p.2) (λ n. some_left exprs c.args.left c.args.depth c.args.place c.args.within c.args.reader.now (omega arith) (omega arith)
    ∙ no_members exprs (c.args.left - 1) c.args.place c.args.within _ _ _ _ _ _ _ c.in_ok-head.ensures c.in_ok-brace.ensures c.in_ok-number.ensures (c.in_err-members.ensures _ refl n))

pub type_decl-returns : goal.type_decl-returns
type_decl-returns t c =
    some_left exprs c.args.left c.args.depth c.args.place c.args.within c.args.reader.now (omega arith) (omega arith)
    ∙ type_parts exprs (c.args.left - 1) c.args.place c.args.within _ _ _ _ _ _ _ _ _ c.in_ok-head.ensures c.in_ok-brace.ensures c.in_ok-number.ensures (c.in_ok-members.ensures _ refl)
    ∙ ap (Done c.in_ok-brace.brace) (sym c.finish_type.ensures)
