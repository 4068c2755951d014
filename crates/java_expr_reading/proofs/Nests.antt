-- What is known of the parsers of what is nested.
use Rattle.std.proofs.Common.{◌≡◌, ℕ, ◌<◌, ◌≤◌, Bool, true, false, ◌||◌, List, [], ◌∷◌, ◌++◌, Some, map, refl, sym, ap, ◌∙◌, inl, inr, arith, append_assoc}
use Rattle.std.proofs.lemmas.Bool.{cases_Bool}
use Rattle.java_tree.specs.declared.mark.Mark.{Mark}
use Rattle.java_tree.specs.declared.mark.Mark.TheVariants as marks
use Rattle.java_tree.specs.declared.expr.Expr.{Expr}
use Rattle.java_tree.specs.declared.expr.ArrayInitializer.{ArrayInitializer}
use Rattle.java_tree.specs.declared.expr.Initializer.{Initializer}
use Rattle.java_tree.specs.declared.expr.Selector.{Selector}
use Rattle.java_model.specs.Grammar.Signs.{mark}
use Rattle.java_model.specs.Grammar.Pieces.{the, Around, Yield, less, deeper, each, parted, behind_commas}
use Rattle.java_model.specs.Grammar.YieldExpr.{yield_arguments, yield_sizes, yield_expr, yield_selector, yield_initializer, yield_array}
use Rattle.java_model.specs.Grammar.Expressions.{Nested}
use Rattle.java_model.specs.Grammar.Follows.{goes_on_with}
use Rattle.java_model.specs.Grammar.Forms.{begins_with_sign, is_sign}
use Rattle.java_model.specs.Grammar.Readings.{primitive_of}
use Rattle.java_tree.specs.declared.operators.PrefixOp.{PrefixOp}
use Rattle.std.specs.Prelude.{is_some}
use Rattle.java_expr_reading.specs.Shapes.{is_left_brace}
use Rattle.java_expr_reading.specs.Input.{Input, sign, shape, next, Done, sees}
use Rattle.java_expr_reading.specs.Reading.Operators.{prefix_by, begins_operand}
use Rattle.java_expr_reading.specs.Reading.Expressions.{skip_names, skip_dims, sees_cast}
use Rattle.java_expr_reading.specs.Reading.Primaries.{Nest}
use Rattle.java_expr_reading.specs.declared.shape.Shape.{Shape}
use Rattle.java_expr_reading.specs.declared.shape.Shape.TheVariants as shapes
use Rattle.java_expr_reading.proofs.Taken.{Taken}
use Rattle.java_expr_reading.proofs.Many.{spread, IsRead}
use Rattle.java_expr_reading.proofs.Tokens.{sees-is, true_is_not_false}

-- ---- sound

-- what the parsers read is nested
pub record NestSound (depth_left : ℕ) (N : Nest) (M : Nested) : Type 0 where
  pub expr : (x : Expr) (i j : Input) → N.expr i ≡ Done x j → IsRead M.expr yield_expr (less depth_left) i j x
  pub prefix : (x : Expr) (i j : Input) → N.prefix i ≡ Done x j → IsRead M.prefix yield_expr depth_left i j x
  pub braces : (b : ArrayInitializer) (i j : Input) → N.braces i ≡ Done b j → IsRead M.braces yield_array depth_left i j b

-- ---- where a production ends

-- the production that goes on so
abbrev pub goes : Shape → ℕ
goes (shapes.Mark m) = goes_on_with m
goes shapes.LeftBrace = 0
goes _ = 13

-- An expression of a level ends here. No operand begins here either: behind a name in parentheses it would
-- be that of a cast.
pub record Ends (k : ℕ) (j : Input) : Type 0 where
  pub goes_on : k < goes (shape j)
  pub operand : begins_operand (shape j) ≡ false

pub ends_looser : (k l : ℕ) (j : Input) → l ≤ k → Ends k j → Ends l j
ends_looser k l j h e = record { goes_on = let g = e.goes_on in omega arith; operand = e.operand }

pub ends-sees : (k : ℕ) (m : Mark) (j : Input) → goes_on_with m ≤ k → Ends k j → sees m j ≡ false
ends-sees k m j h e =
    elim (cases_Bool (sees m j)) [
      | inl is ↦ let g : k < goes_on_with m = rw (sees-is m j is) at e.goes_on in absurd (omega arith)
      | inr isnt ↦ isnt
    ]

left_brace-ends : (k : ℕ) (s : Shape) → k < goes s → is_left_brace s ≡ false
left_brace-ends k shapes.LeftBrace h = absurd (omega arith)
left_brace-ends k _ h = refl

-- a mark that stands here ends an expression of a level
pub ends-at : (k : ℕ) (m : Mark) (j : Input) → sign j ≡ Some (mark m) → k < goes_on_with m → begins_operand (shapes.Mark m) ≡ false → Ends k j
ends-at k m j h g o = record { goes_on = rw h g; operand = rw h o }

-- A primary expression ends here, also before `.` `super` that no dot follows.
pub record EndsPrimary (j : Input) : Type 0 where
  pub paren : sees marks.LeftParen j ≡ false
  pub bracket : sees marks.LeftBracket j ≡ false
  pub brace : is_left_brace (shape j) ≡ false
  pub dot : sees marks.Dot j ≡ true → (shape (next j) ≡ shapes.Super) × (sees marks.Dot (next (next j)) ≡ false)

pub primary_ends : (j : Input) → Ends 0 j → EndsPrimary j
primary_ends j e = record {
  paren = ends-sees 0 marks.LeftParen j (omega arith) e;
  bracket = ends-sees 0 marks.LeftBracket j (omega arith) e;
  brace = left_brace-ends 0 (shape j) e.goes_on;
  dot = λ is. true_is_not_false (sym is ∙ ends-sees 0 marks.Dot j (omega arith) e);
}

-- ---- complete

-- An expression begins with this.
abbrev pub begins_expr : Shape → Bool
begins_expr s = is_some (prefix_by s) || begins_operand s

-- Each nested tree that stands before such an end is read, and begins as its kind does. What looks like the
-- type of a cast is read as an expression only if it is a name.
pub record NestComplete (depth_left : ℕ) (N : Nest) (M : Nested) : Type 0 where
  pub expr : (x : Expr) (a : Around) (i j : Input) → a.left ≡ less depth_left → M.expr x → Taken (yield_expr x a) i j → Ends 12 j → N.expr i ≡ Done x j
  pub prefix : (x : Expr) (a : Around) (i j : Input) → a.left ≡ depth_left → M.prefix x → Taken (yield_expr x a) i j → Ends 0 j → N.prefix i ≡ Done x j
  pub braces : (b : ArrayInitializer) (a : Around) (i j : Input) → a.left ≡ depth_left → M.braces b → Taken (yield_array b a) i j → N.braces i ≡ Done b j
  pub begins : (x : Expr) (i j : Input) → N.expr i ≡ Done x j → begins_expr (shape i) ≡ true
  pub prefix_begins : (x : Expr) (a : Around) (i j : Input) → a.left ≡ depth_left → M.prefix x → Taken (yield_expr x a) i j → Ends 0 j
      → (is_some (prefix_by (shape i)) || sees_cast i) ≡ true
  pub signs : (x : Expr) (op : PrefixOp) (i j : Input) → N.prefix i ≡ Done x j → prefix_by (shape i) ≡ Some op → is_sign op ≡ true → begins_with_sign x ≡ true
  pub named : (x : Expr) (i k : Input) → N.expr i ≡ Done x k → shape i ≡ shapes.Word
      → sees marks.RightParen (skip_dims (skip_names (next i))) ≡ true → k ≡ skip_dims (skip_names (next i))
  pub primitive : (x : Expr) (m : Mark) (i k : Input) → N.expr i ≡ Done x k → shape i ≡ shapes.Mark m → is_some (primitive_of m) ≡ true
      → sees marks.RightParen (skip_dims (next i)) ≡ true → ⊥

-- ---- lists of pieces

pub each-spread : {A : Type 0} (f : A → Yield) (xs : List A) (a : Around) → each (map f xs) a ≡ spread (λ x. f x a) xs
each-spread f [] a = refl
each-spread f (x ∷ xs) a = ap (λ ps. f x a ++ ps) (each-spread f xs a)

abbrev pub comma_pieces : {A : Type 0} → (A → Yield) → A → Yield
comma_pieces f x a = the marks.Comma ∷ f x a

pub behind_commas-spread : {A : Type 0} (f : A → Yield) (xs : List A) (a : Around) → behind_commas (map f xs) a ≡ spread (λ x. comma_pieces f x a) xs
behind_commas-spread f [] a = refl
behind_commas-spread f (x ∷ xs) a = ap (λ ps. the marks.Comma ∷ (f x a ++ ps)) (behind_commas-spread f xs a)

abbrev pub bracket_pieces : Expr → Yield
bracket_pieces x a = the marks.LeftBracket ∷ (yield_expr x (deeper a) ++ the marks.RightBracket ∷ [])

pub sizes-spread : (xs : List Expr) (a : Around) → yield_sizes (map yield_expr xs) a ≡ spread (λ x. bracket_pieces x a) xs
sizes-spread [] a = refl
sizes-spread (x ∷ xs) a =
    ap (λ ps. the marks.LeftBracket ∷ (yield_expr x (deeper a) ++ the marks.RightBracket ∷ ps)) (sizes-spread xs a)
    ∙ ap (λ ps. the marks.LeftBracket ∷ ps) (sym (append_assoc (yield_expr x (deeper a)) (the marks.RightBracket ∷ []) (spread (λ y. bracket_pieces y a) xs)))

pub less-left : (a : Around) (n : ℕ) → a.left ≡ n → (deeper a).left ≡ less n
less-left a n e = ap less e

abbrev pub argument_pieces : List Expr → Yield
argument_pieces xs a = yield_arguments (map yield_expr xs) a

abbrev pub selector_pieces : List Selector → Yield
selector_pieces ss a = each (map yield_selector ss) a

abbrev pub element_pieces : List Initializer → Yield
element_pieces xs a = parted (map yield_initializer xs) a
