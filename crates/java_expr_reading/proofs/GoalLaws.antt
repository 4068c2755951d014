-- What the functions that read find are the expressions that stand there: each of them, and no other.
use Rattle.std.proofs.Common.{◌≡◌, ℕ, ◌<◌, ◌≤◌, true, false, ◌&&◌, List, [], ◌∷◌, refl, subst, inl, inr, arith}
use Rattle.std.proofs.lemmas.Bool.{cases_Bool}
use Rattle.java_tree.specs.declared.mark.Mark.{Mark}
use Rattle.java_tree.specs.declared.mark.Mark.TheVariants as marks
use Rattle.java_tree.specs.declared.expr.Expr.{Expr}
use Rattle.java_tree.specs.declared.expr.Primary.{Primary}
use Rattle.java_model.specs.Grammar.Signs.{Sign, mark, left_brace, this, super, word, literal, stray}
use Rattle.java_model.specs.Grammar.Pieces.{Around, less}
use Rattle.java_model.specs.Grammar.YieldExpr.{yield_expr, yield_primary}
use Rattle.java_model.specs.Grammar.Expressions.{IsExpr, IsPrimary, nested}
use Rattle.java_model.specs.Grammar.Runs.{ends_expr}
use Rattle.java_expr_reading.specs.Shapes.{same_mark, shape_by, is_super}
use Rattle.java_expr_reading.specs.Input.{Input, sign, first_of, shape, next, Done, sees}
use Rattle.java_expr_reading.specs.Reading.Operators.{begins_operand, ends_by}
use Rattle.java_expr_reading.specs.Reading.Expressions.{read_nest, read_expr, read_primary, meets, goal_end, read_goal, sees_super_call, qualifier_end, read_qualifier}
use Rattle.java_expr_reading.specs.declared.parsed.Goal.{Goal}
use Rattle.java_expr_reading.specs.declared.shape.Shape.{Shape}
use Rattle.java_expr_reading.specs.declared.shape.Shape.TheVariants as shapes
use Rattle.java_expr_reading.proofs.Taken.{Taken, inv, done, done_value, done_input}
use Rattle.java_expr_reading.proofs.Many.{IsRead}
use Rattle.java_expr_reading.proofs.Tokens.{fails, sees-is}
use Rattle.java_expr_reading.proofs.NameLaws.{both_true}
use Rattle.java_expr_reading.proofs.Nests.{goes, Ends, EndsPrimary}
use Rattle.java_expr_reading.proofs.PrimarySound.{primary-sound}
use Rattle.java_expr_reading.proofs.PrimaryComplete.{primary-complete, not_seen}
use Rattle.java_expr_reading.proofs.ExprSound.{nest-sound}
use Rattle.java_expr_reading.proofs.ExprComplete.{nest-complete}

-- ---- an Expr, with so much of the depth left outside it

pub read_expr-sound : (d : ℕ) → d ≤ 256 → (x : Expr) (i j : Input) → read_expr d i ≡ Done x j → IsRead (IsExpr d) yield_expr (less d) i j x
unfolding read_expr
read_expr-sound d fits x i j e = let known = nest-sound d fits in known.expr x i j e

pub read_expr-complete : (d : ℕ) (x : Expr) (a : Around) (i j : Input) → a.left ≡ less d → IsExpr d x → Taken (yield_expr x a) i j → Ends 12 j → read_expr d i ≡ Done x j
unfolding read_expr
read_expr-complete d x a i j l h t e = let known = nest-complete d in known.expr x a i j l h t e

-- ---- a Primary, where so much of the depth is left around it

pub read_primary-sound : (d : ℕ) → d ≤ 256 → (p : Primary) (i j : Input) → read_primary d i ≡ Done p j → IsRead (IsPrimary (nested d)) yield_primary d i j p
unfolding read_primary
read_primary-sound d fits p i j e = primary-sound d (read_nest d) (nested d) (nest-sound d fits) fits p i j e

pub read_primary-complete : (d : ℕ) (p : Primary) (a : Around) (i j : Input) → a.left ≡ d → IsPrimary (nested d) p → Taken (yield_primary p a) i j → EndsPrimary j
    → read_primary d i ≡ Done p j
unfolding read_primary
read_primary-complete d p a i j l h t e = primary-complete d (read_nest d) (nested d) (nest-complete d) p a i j l h t e

-- ---- what may follow an expression

pub record IsEnd (s : Shape) : Type 0 where
  pub goes_on : 12 < goes s
  pub operand : begins_operand s ≡ false

mark_ends : (m : Mark) → ends_by (shapes.Mark m) ≡ true → IsEnd (shapes.Mark m)
mark_ends marks.RightParen h = record { goes_on = omega arith; operand = refl }
mark_ends marks.RightBracket h = record { goes_on = omega arith; operand = refl }
mark_ends marks.RightBrace h = record { goes_on = omega arith; operand = refl }
mark_ends marks.Semicolon h = record { goes_on = omega arith; operand = refl }
mark_ends marks.Comma h = record { goes_on = omega arith; operand = refl }
mark_ends marks.Colon h = record { goes_on = omega arith; operand = refl }
mark_ends _ h = absurd cc

shape_ends : (s : Shape) → ends_by s ≡ true → IsEnd s
shape_ends (shapes.Mark m) h = mark_ends m h
shape_ends shapes.End h = record { goes_on = omega arith; operand = refl }
shape_ends _ h = absurd cc

pub goal_ends : (j : Input) → ends_by (shape j) ≡ true → Ends 12 j
goal_ends j h = let e = shape_ends (shape j) h in record { goes_on = e.goes_on; operand = e.operand }

-- the same of the tokens that are left
first_ends : (ts : List Sign) → ends_expr ts ≡ ends_by (shape_by (first_of ts))
first_ends [] = refl
first_ends (mark m ∷ ts) = refl
first_ends (left_brace at ∷ ts) = refl
first_ends (this s ∷ ts) = refl
first_ends (super s ∷ ts) = refl
first_ends (word i ∷ ts) = refl
first_ends (literal l ∷ ts) = refl
first_ends (stray ∷ ts) = refl

pub ends-rest : (j : Input) → ends_expr j.rest ≡ ends_by (shape j)
unfolding sign
ends-rest j = first_ends j.rest

-- ---- an expression of a goal

pub record IsGoalRead (goal : Goal) (d : ℕ) (x : Expr) (i j : Input) : Type 0 where
  pub read : read_expr d i ≡ Done x j
  pub ends : ends_by (shape j) ≡ true
  pub meets : meets goal x ≡ true

pub read_goal-parts : (goal : Goal) (d : ℕ) (x : Expr) (i j : Input) → read_goal goal d i ≡ Done x j → IsGoalRead goal d x i j
unfolding read_goal
read_goal-parts goal d x i j e =
    inv (read_expr d i) (goal_end goal) x j e (λ y k g r.
    elim (cases_Bool (ends_by (shape k) && meets goal y)) [
      | inl is ↦
          let both = both_true (ends_by (shape k)) (meets goal y) is in
          let s : done y k ≡ done x j = rw is at r in
          subst (λ z. IsGoalRead goal d z i j) (done_value y x k j s) (subst (λ z. IsGoalRead goal d y i z) (done_input y x k j s) (record { read = g; ends = both.0; meets = both.1 }))
      | inr isnt ↦ fails x j (rw isnt at r)
    ])

pub read_goal-from : (goal : Goal) (d : ℕ) (x : Expr) (i j : Input) → read_expr d i ≡ Done x j → ends_by (shape j) ≡ true → meets goal x ≡ true → read_goal goal d i ≡ Done x j
unfolding read_goal
read_goal-from goal d x i j e h g = rw (e, h, g) refl

-- ---- a primary expression before `.` `super` `(`

pub record IsQualifierRead (d : ℕ) (p : Primary) (i j : Input) : Type 0 where
  pub read : read_primary d i ≡ Done p j
  pub ends : sees_super_call j ≡ true

pub read_qualifier-parts : (d : ℕ) (p : Primary) (i j : Input) → read_qualifier d i ≡ Done p j → IsQualifierRead d p i j
unfolding read_qualifier
read_qualifier-parts d p i j e =
    inv (read_primary d i) qualifier_end p j e (λ q k g r.
    elim (cases_Bool (sees_super_call k)) [
      | inl is ↦
          let s : done q k ≡ done p j = rw is at r in
          subst (λ z. IsQualifierRead d z i j) (done_value q p k j s) (subst (λ z. IsQualifierRead d q i z) (done_input q p k j s) (record { read = g; ends = is }))
      | inr isnt ↦ fails p j (rw isnt at r)
    ])

pub read_qualifier-from : (d : ℕ) (p : Primary) (i j : Input) → read_primary d i ≡ Done p j → sees_super_call j ≡ true → read_qualifier d i ≡ Done p j
unfolding read_qualifier
read_qualifier-from d p i j e h = rw (e, h) refl

super_shape : (s : Shape) → is_super s ≡ true → s ≡ shapes.Super
super_shape shapes.Super h = refl
super_shape _ h = absurd cc

pub super_call_ends : (j : Input) → sees_super_call j ≡ true → EndsPrimary j
unfolding sees_super_call same_mark
super_call_ends j h =
    let both = both_true (sees marks.Dot j && is_super (shape (next j))) (sees marks.LeftParen (next (next j))) h in
    let front = both_true (sees marks.Dot j) (is_super (shape (next j))) both.0 in
    let dot = sees-is marks.Dot j front.0 in
    let paren = sees-is marks.LeftParen (next (next j)) both.1 in
    record {
      paren = not_seen marks.LeftParen marks.Dot j dot refl;
      bracket = not_seen marks.LeftBracket marks.Dot j dot refl;
      brace = rw dot refl;
      dot = λ is. (super_shape (shape (next j)) front.1, not_seen marks.Dot marks.LeftParen (next (next j)) paren refl);
    }
