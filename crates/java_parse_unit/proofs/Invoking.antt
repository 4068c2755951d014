-- How an explicit constructor invocation begins, and what is read then.
use Rattle.std.proofs.Common.{◌≡◌, ℕ, Bool, true, false, cond, List, [], ◌∷◌, Option, Some, None, refl, sym, ap, ◌∙◌}
use Rattle.std.specs.Prelude.{◌≢◌}
use Rattle.java_tree.specs.declared.mark.Mark.TheVariants as marks
use Rattle.java_tree.specs.declared.expr.Primary.{Primary}
use Rattle.java_tree.specs.declared.token.Span.{Span}
use Rattle.java_tree.specs.declared.unit.Callee.{Callee}
use Rattle.java_tree.specs.declared.unit.Callee.TheVariants as callees
use Rattle.java_tree.specs.declared.unit.Explicit.{Explicit}
use Rattle.java_model.specs.Grammar.Signs.{Sign, mark, left_brace, this, super, word, literal, stray}
use Rattle.java_model.specs.Grammar.YieldExpr.{yield_primary}
use Rattle.java_expr_reading.specs.Shapes.{shape_by}
use Rattle.java_expr_reading.specs.Input.{first_of, this_in, super_in}
use Rattle.java_expr_reading.specs.declared.shape.Shape.TheVariants as shapes
use Rattle.java_unit_reading.specs.Bodies.{qualifier_of, qualifier}
use Rattle.java_parse_unit.specs.Callees.{callee_of}
use Rattle.java_unit_reading.specs.Reading.Steps.{State, Outcome, Done, Fail, Parser, and_then, ◌>>=◌, pure, sees, tail, next}
use Rattle.java_unit_reading.specs.Reading.Nested.{Parts, Found, Here, Nothing, settle}
use Rattle.java_unit_reading.specs.Reading.Members.{Opening, with_this, with_super, other, opening, begins_super_call, explicit_rest, super_rest, qualified, explicit_by}
use Rattle.java_unit_reading.specs.Reading.Expressions.{exprs}
use Rattle.java_unit_reading.proofs.Expressions.Placed.{primary_begins}

-- ---- the first two tokens

pub not_called : (ts : List Sign) → sees marks.LeftParen (tail ts) ≡ false → callee_of (opening ts) ≡ None
not_called [] h = refl
not_called (mark n ∷ ts) h = refl
not_called (left_brace b ∷ ts) h = refl
not_called (this s ∷ ts) h = rw h refl
not_called (super s ∷ ts) h = rw h refl
not_called (word i ∷ ts) h = refl
not_called (literal l ∷ ts) h = refl
not_called (stray ∷ ts) h = refl

pub this_called : (ts : List Sign) (s : Span) → sees marks.LeftParen (tail ts) ≡ true
    → this_in (first_of ts) ≡ Some s → callee_of (opening ts) ≡ Some (callees.This s)
this_called [] s h e = absurd cc
this_called (mark n ∷ ts) s h e = absurd cc
this_called (left_brace b ∷ ts) s h e = absurd cc
this_called (this r ∷ ts) s h e = rw h (let same : r ≡ s = cc in rw same refl)
this_called (super r ∷ ts) s h e = absurd cc
this_called (word i ∷ ts) s h e = absurd cc
this_called (literal l ∷ ts) s h e = absurd cc
this_called (stray ∷ ts) s h e = absurd cc

pub super_called : (ts : List Sign) (s : Span) → sees marks.LeftParen (tail ts) ≡ true
    → super_in (first_of ts) ≡ Some s → callee_of (opening ts) ≡ Some (callees.Super None s)
super_called [] s h e = absurd cc
super_called (mark n ∷ ts) s h e = absurd cc
super_called (left_brace b ∷ ts) s h e = absurd cc
super_called (this r ∷ ts) s h e = absurd cc
super_called (super r ∷ ts) s h e = rw h (let same : r ≡ s = cc in rw same refl)
super_called (word i ∷ ts) s h e = absurd cc
super_called (literal l ∷ ts) s h e = absurd cc
super_called (stray ∷ ts) s h e = absurd cc

pub other_called : (ts : List Sign) → shape_by (first_of ts) ≢ shapes.This → shape_by (first_of ts) ≢ shapes.Super → callee_of (opening ts) ≡ None
other_called [] f g = refl
other_called (mark n ∷ ts) f g = refl
other_called (left_brace b ∷ ts) f g = refl
other_called (this s ∷ ts) f g = absurd (f refl)
other_called (super s ∷ ts) f g = absurd (g refl)
other_called (word i ∷ ts) f g = refl
other_called (literal l ∷ ts) f g = refl
other_called (stray ∷ ts) f g = refl

-- ---- what follows

module _ (P : Parts) (d : ℕ) (w : Option ℕ) where
  -- the rest, after a primary expression that was found
  abbrev pub after : Option Primary → Parser (Option Explicit)
  after (Some p) = super_rest exprs P d w p
  after None = pure None

  found_first : (o : Outcome Primary) → and_then (and_then o (λ q. pure (Some q))) after ≡ and_then o (super_rest exprs P d w)
  found_first (Done p s) = refl
  found_first Fail = refl

  by_found : (s : State) (f : Found Primary) → exprs.primary d s.tokens ≡ f
      → qualified exprs P d w f s ≡ and_then (qualifier_of exprs P d w f s) after
  by_found s Nothing e = refl
  by_found s (Here p us) e =
      rw (primary_begins d s.tokens us p e) (sym (found_first (settle exprs P d w yield_primary (Here p us) s)))

  pub other_explicit : (s : State) → explicit_by exprs P d w other s ≡ and_then (qualifier exprs P d w s) after
  unfolding qualifier
  other_explicit s = by_found s (exprs.primary d s.tokens) refl

  pub called : (o : Opening) (c : Callee) (s : State) → callee_of o ≡ Some c → explicit_by exprs P d w o s ≡ explicit_rest exprs P d w c (next s)
  called (with_this r) c s e = let same : callees.This r ≡ c = cc in ap (λ k. explicit_rest exprs P d w k (next s)) same
  called (with_super r) c s e = let same : callees.Super None r ≡ c = cc in ap (λ k. explicit_rest exprs P d w k (next s)) same
  called other c s e = absurd cc

  pub uncalled : (o : Opening) (s : State) → callee_of o ≡ None → explicit_by exprs P d w o s ≡ explicit_by exprs P d w other s
  uncalled (with_this r) s e = absurd cc
  uncalled (with_super r) s e = absurd cc
  uncalled other s e = refl
