-- The readers of expressions that java_expr_reading defines.
use Rattle.std.specs.Prelude.{List, []}
use Rattle.java_model.specs.Grammar.Signs.{Sign}
use Rattle.java_expr_reading.specs.Input.{Input, Outcome, Done, Fail}
use Rattle.java_expr_reading.specs.Reading.Expressions.{read_nest, read_goal, read_qualifier}
use Rattle.java_expr_reading.specs.declared.parsed.Goal.TheVariants as goals
use Rattle.java_unit_reading.specs.Reading.Nested.{Exprs, Found, Here, Nothing}

-- before these tokens, with no body so far
abbrev pub input : List Sign → Input
input ts = record { rest = ts; at = 0; bodies = [] }

abbrev pub found : {A : Type 0} → Outcome A → Found A
found (Done x i) = Here x i.rest
found Fail = Nothing

unfoldable pub exprs : Exprs
exprs = record {
  expr = λ d ts. found (read_goal goals.Any d (input ts));
  array = λ d ts. found ((read_nest d).braces (input ts));
  primary = λ d ts. found (read_qualifier d (input ts));
}
