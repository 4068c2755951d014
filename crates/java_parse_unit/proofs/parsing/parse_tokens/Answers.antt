use Rattle.std.proofs.Common.{◌≡◌, ap, ◌∙◌, sym}
use Rattle.std.proofs.lemmas.Result.{err_from_is_err_and}
use Rattle.java_unit_reading.specs.ReadingLaws.{read_unit}
use Rattle.java_parse_unit.proofs.ParseLaws.{tree_of_tokens, unit_refused}
use Rattle.java_parse_unit.proofs.parsing.parse_tokens.Goals as goal

pub returns-in_err-unit : goal.returns-in_err-unit
returns-in_err-unit c =
    let p = err_from_is_err_and c.from_residual-in_err-unit.result c.from_residual-in_err-unit.ensures.1 in
    rw (p.1, p.2) (unit_refused c.args.tokens.now c.in_ok-marked.marked c.in_err-unit.field-0.0 c.in_ok-marked.ensures c.in_err-unit.ensures)

pub returns : goal.returns
returns c = tree_of_tokens c.args.tokens.now c.in_ok-unit.unit (ap read_unit (sym c.in_ok-marked.ensures) ∙ c.in_ok-unit.ensures)
