-- Pieces that stand at the head of what is left: one after another.
use Rattle.std.proofs.Common.{◌≡◌, ℕ, zero, suc, ◌<◌, ◌≤◌, List, [], ◌∷◌, ◌++◌, length, drop, Some, refl, sym, ap, subst, arith}
use Rattle.java_tree.specs.declared.mark.Mark.TheVariants as marks
use Rattle.java_model.specs.Grammar.Signs.{Sign, mark, left_brace, this, super, word, literal, stray}
use Rattle.java_model.specs.Grammar.Pieces.{Piece, token, hole}
use Rattle.java_model.specs.Grammar.Runs.{after_body}
use Rattle.java_expr_reading.specs.Input.{Input, sign, first_of, left, next, past_body, Outcome, Done, Fail, Parser, and_then}

abbrev pub Taken : List Piece → Input → Input → Type 0
Taken [] i j = i ≡ j
Taken (token s ∷ ps) i j = (sign i ≡ Some s) × Taken ps (next i) j
Taken (hole h ∷ ps) i j = (sign i ≡ Some (left_brace h.brace)) × Taken ps (past_body h.around.left i) j

-- The same with holes that lie within the limit of the depth, as those are of what is read.
abbrev pub Fit : List Piece → Input → Input → Type 0
Fit [] i j = i ≡ j
Fit (token s ∷ ps) i j = (sign i ≡ Some s) × Fit ps (next i) j
Fit (hole h ∷ ps) i j = (sign i ≡ Some (left_brace h.brace)) × (h.around.left ≤ 256) × Fit ps (past_body h.around.left i) j

pub fit_both : (ps qs : List Piece) (i k j : Input) → Fit ps i k → Fit qs k j → Fit (ps ++ qs) i j
fit_both [] qs i k j h g = subst (λ x. Fit qs x j) (sym h) g
fit_both (token s ∷ ps) qs i k j h g = (h.0, fit_both ps qs (next i) k j h.1 g)
fit_both (hole n ∷ ps) qs i k j h g = (h.0, h.1, fit_both ps qs (past_body n.around.left i) k j h.2 g)

pub taken_both : (ps qs : List Piece) (i k j : Input) → Taken ps i k → Taken qs k j → Taken (ps ++ qs) i j
taken_both [] qs i k j h g = subst (λ x. Taken qs x j) (sym h) g
taken_both (token s ∷ ps) qs i k j h g = (h.0, taken_both ps qs (next i) k j h.1 g)
taken_both (hole n ∷ ps) qs i k j h g = (h.0, taken_both ps qs (past_body n.around.left i) k j h.1 g)

-- in continuation style, so that what is left between is a variable
pub taken_split : {C : Type 0} (ps qs : List Piece) (i j : Input) → Taken (ps ++ qs) i j
    → ((k : Input) → Taken ps i k → Taken qs k j → C) → C
taken_split [] qs i j h f = f i refl h
taken_split (token s ∷ ps) qs i j h f = taken_split ps qs (next i) j h.1 (λ k g r. f k (h.0, g) r)
taken_split (hole n ∷ ps) qs i j h f = taken_split ps qs (past_body n.around.left i) j h.1 (λ k g r. f k (h.0, g) r)

-- ---- each piece takes a token

pub after_body-shorter : (ts : List Sign) (d : ℕ) → length (after_body ts d) ≤ length ts
after_body-shorter [] d = omega arith
after_body-shorter (left_brace at ∷ ts) d = omega (arith, after_body-shorter ts (suc d))
after_body-shorter (mark marks.RightBrace ∷ ts) zero = omega arith
after_body-shorter (mark marks.RightBrace ∷ ts) (suc d) = omega (arith, after_body-shorter ts d)
after_body-shorter (mark m ∷ ts) d = omega (arith, after_body-shorter ts d)
after_body-shorter (this s ∷ ts) d = omega (arith, after_body-shorter ts d)
after_body-shorter (super s ∷ ts) d = omega (arith, after_body-shorter ts d)
after_body-shorter (word i ∷ ts) d = omega (arith, after_body-shorter ts d)
after_body-shorter (literal l ∷ ts) d = omega (arith, after_body-shorter ts d)
after_body-shorter (stray ∷ ts) d = omega (arith, after_body-shorter ts d)

tail_shorter : (ts : List Sign) (s : Sign) → first_of ts ≡ Some s → length (drop 1 ts) < length ts
tail_shorter [] s h = absurd cc
tail_shorter (t ∷ ts) s h = omega arith

pub next_shorter : (i : Input) (s : Sign) → sign i ≡ Some s → left (next i) < left i
unfolding sign left next
next_shorter i s h = tail_shorter i.rest s h

pub past_body_shorter : (n : ℕ) (i : Input) (s : Sign) → sign i ≡ Some s → left (past_body n i) < left i
unfolding sign left past_body
past_body_shorter n i s h = omega (arith, tail_shorter i.rest s h, after_body-shorter (drop 1 i.rest) zero)

pub taken_shorter : (ps : List Piece) (i j : Input) → Taken ps i j → left j ≤ left i
taken_shorter [] i j h = let e : left i ≡ left j = ap left h in omega arith
taken_shorter (token s ∷ ps) i j h = omega (arith, taken_shorter ps (next i) j h.1, next_shorter i s h.0)
taken_shorter (hole n ∷ ps) i j h = omega (arith, taken_shorter ps (past_body n.around.left i) j h.1, past_body_shorter n.around.left i (left_brace n.brace) h.0)

pub token_shorter : (s : Sign) (ps : List Piece) (i j : Input) → Taken (token s ∷ ps) i j → left j < left i
token_shorter s ps i j h = omega (arith, taken_shorter ps (next i) j h.1, next_shorter i s h.0)

-- ---- steps that were done

-- a step that was done, and then the steps behind it
pub inv : {A B C : Type 0} (o : Outcome A) (f : A → Parser B) (y : B) (j : Input) → and_then o f ≡ Done y j
    → ((x : A) (k : Input) → o ≡ Done x k → f x k ≡ Done y j → C) → C
inv (Done x k) f y j h g = g x k refl h
inv Fail f y j h g = absurd cc

abbrev pub done : {A : Type 0} → A → Input → Outcome A
done x j = Done x j

pub done_value : {A : Type 0} (x y : A) (i j : Input) → done x i ≡ done y j → x ≡ y
done_value x y i j e = cc

pub done_input : {A : Type 0} (x y : A) (i j : Input) → done x i ≡ done y j → i ≡ j
done_input x y i j e = cc

pub fit_shorter : (ps : List Piece) (i j : Input) → Fit ps i j → left j ≤ left i
fit_shorter [] i j h = let e : left i ≡ left j = ap left h in omega arith
fit_shorter (token s ∷ ps) i j h = omega (arith, fit_shorter ps (next i) j h.1, next_shorter i s h.0)
fit_shorter (hole n ∷ ps) i j h = omega (arith, fit_shorter ps (past_body n.around.left i) j h.2, past_body_shorter n.around.left i (left_brace n.brace) h.0)
