-- An expression by itself, in a list of tokens: the body of an anonymous class is a run of tokens from
-- its `{` to the matching `}`, whatever stands between them.
use Rattle.std.specs.Prelude.{◌≡◌, ◌≤◌, ℕ, zero, suc, ◌+◌, ◌-◌, Bool, true, false, List, [], ◌∷◌, None, length, drop}
use Rattle.java_tree.specs.declared.limits.TheConstants.{MAX_DEPTH}
use Rattle.java_tree.specs.declared.mark.Mark.{Mark}
use Rattle.java_tree.specs.declared.mark.Mark.TheVariants as marks
use Rattle.java_tree.specs.declared.expr.Expr.{Expr}
use Rattle.java_model.specs.Grammar.Signs.{Sign, mark, left_brace}
use Rattle.java_model.specs.Grammar.Pieces.{Piece, token, hole, Hole, Around, deeper}
use Rattle.java_model.specs.Grammar.YieldExpr.{yield_expr}
use Rattle.java_model.specs.Grammar.Forms.{is_statement}
use Rattle.java_model.specs.Grammar.Expressions.{IsExpr}

-- what stands after the `}` that closes so many more braces, nothing where they aren't closed
abbrev pub after_body : List Sign → ℕ → List Sign
after_body [] depth = []
after_body (left_brace at ∷ ts) depth = after_body ts (suc depth)
after_body (mark marks.RightBrace ∷ ts) zero = ts
after_body (mark marks.RightBrace ∷ ts) (suc depth) = after_body ts depth
after_body (t ∷ ts) depth = after_body ts depth

-- the pieces stand at the head of a list of tokens, before the second list
abbrev pub Reads : List Piece → List Sign → List Sign → Type 0
Reads [] ts us = ts ≡ us
Reads (token s ∷ ps) ts us = (vs : List Sign) × (ts ≡ s ∷ vs) × Reads ps vs us
Reads (hole h ∷ ps) ts us = (vs : List Sign) × (ts ≡ left_brace h.brace ∷ vs) × Reads ps (after_body vs zero) us

-- what may follow an expression in a unit, but for that before the dot of `.super(..)` (JLS 8.8.5.1)
abbrev pub ends_expr_at : Mark → Bool
ends_expr_at marks.RightParen = true
ends_expr_at marks.RightBracket = true
ends_expr_at marks.RightBrace = true
ends_expr_at marks.Semicolon = true
ends_expr_at marks.Comma = true
ends_expr_at marks.Colon = true
ends_expr_at _ = false

abbrev pub ends_expr : List Sign → Bool
ends_expr [] = true
ends_expr (mark m ∷ ts) = ends_expr_at m
ends_expr (_ ∷ ts) = false

-- what is around an expression with so many counted symbols above it
abbrev pub above : ℕ → Around
above depth = record { left = MAX_DEPTH - depth; within = None; locals = [] }

-- The tokens from one place up to another are an expression, with so many counted symbols above it,
-- and what follows may follow an expression.
pub record StandsAt (tokens : List Sign) (at depth next : ℕ) (x : Expr) : Type 0 where
  pub shape : IsExpr (MAX_DEPTH - depth) x
  pub reads : Reads (yield_expr x (deeper (above depth))) (drop at tokens) (drop next tokens)
  pub ends : ends_expr (drop next tokens) ≡ true
  pub in_tokens : next ≤ length tokens

-- the same of an expression that may be a statement (JLS 14.8)
pub record StatementStandsAt (tokens : List Sign) (at depth next : ℕ) (x : Expr) : Type 0 where
  pub stands : StandsAt tokens at depth next x
  pub statement : is_statement x ≡ true

-- no two expressions stand at a place
abbrev pub AtMostOneExpr : List Sign → ℕ → ℕ → Type 0
AtMostOneExpr tokens at depth =
    (x y : Expr) (m n : ℕ) → StandsAt tokens at depth m x → StandsAt tokens at depth n y → (x ≡ y) × (m ≡ n)

-- the types that are declared in a tree, from left to right
abbrev pub holes_of : List Piece → List Hole
holes_of [] = []
holes_of (token s ∷ ps) = holes_of ps
holes_of (hole h ∷ ps) = h ∷ holes_of ps

-- The run of the body of an anonymous class: its first token, its last one, and the number of counted
-- symbols above the body.
pub record IsRunOf (tokens : List Sign) (h : Hole) (first last depth : ℕ) : Type 0 where
  pub rest : List Sign
  pub opens : drop first tokens ≡ left_brace h.brace ∷ rest
  pub closes : last + length (after_body rest zero) ≡ first + length rest
  pub counted : depth + h.around.left ≡ MAX_DEPTH
