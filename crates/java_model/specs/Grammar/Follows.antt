-- What would go on after a tree. A member and a unit are closed by their last token; after a unit
-- nothing stands.
use Rattle.std.specs.Prelude.{ℕ, Bool, true, false, List, [], ◌∷◌}
use Rattle.java_tree.specs.declared.mark.Mark.{Mark}
use Rattle.java_tree.specs.declared.mark.Mark.TheVariants as marks
use Rattle.java_model.specs.Grammar.Signs.{Sign, mark, left_brace, this, super, word, literal, stray}
use Rattle.java_model.specs.Grammar.Statements.{Ifs, any}

-- The productions of an expression that may go on after their last token, by numbers, so that a looser one is greater:
-- selectors and postfix operators (JLS 15.8, 15.14), the ten levels of binary operators from `level` of Forms
-- (JLS 15.17 to 15.24), `? :` (JLS 15.25), assignments (JLS 15.26), and none of them.
abbrev pub postfix_goes_on : ℕ
postfix_goes_on = 0

abbrev pub conditional_goes_on : ℕ
conditional_goes_on = 11

abbrev pub assignment_goes_on : ℕ
assignment_goes_on = 12

abbrev pub nothing_goes_on : ℕ
nothing_goes_on = 13

-- the production that goes on with a mark
abbrev pub goes_on_with : Mark → ℕ
goes_on_with marks.Dot = postfix_goes_on
goes_on_with marks.LeftParen = postfix_goes_on
goes_on_with marks.LeftBracket = postfix_goes_on
goes_on_with marks.Increment = postfix_goes_on
goes_on_with marks.Decrement = postfix_goes_on
goes_on_with marks.Star = 1
goes_on_with marks.Slash = 1
goes_on_with marks.Percent = 1
goes_on_with marks.Plus = 2
goes_on_with marks.Minus = 2
goes_on_with marks.LeftShift = 3
goes_on_with marks.RightShift = 3
goes_on_with marks.UnsignedRightShift = 3
goes_on_with marks.Less = 4
goes_on_with marks.Greater = 4
goes_on_with marks.LessEqual = 4
goes_on_with marks.GreaterEqual = 4
goes_on_with marks.InstanceOf = 4
goes_on_with marks.Equal = 5
goes_on_with marks.NotEqual = 5
goes_on_with marks.And = 6
goes_on_with marks.Caret = 7
goes_on_with marks.Or = 8
goes_on_with marks.AndAnd = 9
goes_on_with marks.OrOr = 10
goes_on_with marks.Question = conditional_goes_on
goes_on_with marks.Assign = assignment_goes_on
goes_on_with marks.PlusAssign = assignment_goes_on
goes_on_with marks.MinusAssign = assignment_goes_on
goes_on_with marks.StarAssign = assignment_goes_on
goes_on_with marks.SlashAssign = assignment_goes_on
goes_on_with marks.AndAssign = assignment_goes_on
goes_on_with marks.OrAssign = assignment_goes_on
goes_on_with marks.CaretAssign = assignment_goes_on
goes_on_with marks.PercentAssign = assignment_goes_on
goes_on_with marks.LeftShiftAssign = assignment_goes_on
goes_on_with marks.RightShiftAssign = assignment_goes_on
goes_on_with marks.UnsignedRightShiftAssign = assignment_goes_on
goes_on_with _ = nothing_goes_on

-- An expression of the level k ends before tokens where k is below this.
abbrev pub goes_on : List Sign → ℕ
goes_on [] = nothing_goes_on
goes_on (mark m ∷ ts) = goes_on_with m
goes_on (left_brace at ∷ ts) = postfix_goes_on
goes_on (this s ∷ ts) = nothing_goes_on
goes_on (super s ∷ ts) = nothing_goes_on
goes_on (word i ∷ ts) = nothing_goes_on
goes_on (literal l ∷ ts) = nothing_goes_on
goes_on (stray ∷ ts) = nothing_goes_on

-- A statement ends before tokens that begin neither with `catch` and `finally` nor, where a short `if`
-- may end it, with `else`.
abbrev pub ends_stmt_at : Ifs → Mark → Bool
ends_stmt_at ifs marks.Catch = false
ends_stmt_at ifs marks.Finally = false
ends_stmt_at any marks.Else = false
ends_stmt_at ifs m = true

abbrev pub ends_stmt : Ifs → List Sign → Bool
ends_stmt ifs [] = true
ends_stmt ifs (mark m ∷ ts) = ends_stmt_at ifs m
ends_stmt ifs (_ ∷ ts) = true
