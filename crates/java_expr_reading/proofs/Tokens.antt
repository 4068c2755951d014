-- Steps that take one token.
use Rattle.std.proofs.Common.{◌≡◌, ℕ, ◌≤◌, arith, true, false, [], ◌∷◌, Option, Some, None, refl, sym, ap, ◌∙◌, rules, inl, inr}
use Rattle.std.proofs.lemmas.Bool.{cases_Bool}
use denote.Enum.Bare.{same_true}
use Rattle.java_tree.specs.contracts.mark.Mark.{the_type}
use Rattle.java_tree.specs.declared.mark.Mark.{Mark}
use Rattle.java_tree.specs.declared.names.Ident.{Ident}
use Rattle.java_tree.specs.declared.names.Literal.{Literal}
use Rattle.java_tree.specs.declared.token.Span.{Span}
use Rattle.java_model.specs.Grammar.Signs.{Sign, mark, left_brace, this, super, word, literal, stray}
use Rattle.java_model.specs.Grammar.Pieces.{token, the, hole, Hole}
use Rattle.java_expr_reading.specs.Shapes.{same_mark, is_mark, shape_by}
use Rattle.java_expr_reading.specs.Input.{Input, sign, next, past_body, Outcome, Done, Fail, sees, expect, ident_in, literal_in, this_in, super_in, offset_in, taken, body_at, ident, a_literal, a_this, a_super, brace, body}
use Rattle.java_expr_reading.proofs.Taken.{Taken, Fit, done, done_value, done_input}

-- nothing is done where a step fails
pub fails : {A C : Type 0} (y : A) (j : Input) → Fail ≡ done y j → C
fails y j e = absurd cc

-- what a step did, if anything
pub outcome : {A C : Type 0} (o : Outcome A) → ((x : A) (k : Input) → o ≡ Done x k → C) → (o ≡ Fail → C) → C
outcome (Done x k) f g = f x k refl
outcome Fail f g = g refl

pub true_is_not_false : {C : Type 0} → true ≡ false → C
true_is_not_false e = absurd cc

pub same_mark-is : (m n : Mark) → same_mark m n ≡ true → m ≡ n
unfolding same_mark
same_mark-is m n e = same_true the_type (search rules) _ _ e

mark_is : (m : Mark) (o : Option Sign) → is_mark m (shape_by o) ≡ true → o ≡ Some (mark m)
mark_is m None e = absurd cc
mark_is m (Some (mark n)) e = ap (λ x. Some (mark x)) (same_mark-is n m e)
mark_is m (Some (left_brace at)) e = absurd cc
mark_is m (Some (this s)) e = absurd cc
mark_is m (Some (super s)) e = absurd cc
mark_is m (Some (word i)) e = absurd cc
mark_is m (Some (literal l)) e = absurd cc
mark_is m (Some stray) e = absurd cc

pub sees-is : (m : Mark) (i : Input) → sees m i ≡ true → sign i ≡ Some (mark m)
unfolding sees
sees-is m i e = mark_is m (sign i) e

-- a mark that stands there is seen, and no other
pub sees-at : (m n : Mark) (i : Input) → sign i ≡ Some (mark n) → sees m i ≡ same_mark n m
unfolding sees
sees-at m n i e = rw e refl

pub expect-taken : (m : Mark) (i j : Input) (u : Unit {0}) → expect m i ≡ Done u j → Taken (the m ∷ []) i j
unfolding expect
expect-taken m i j u e =
    elim (cases_Bool (sees m i)) [
      | inl is ↦ (sees-is m i is, done_input tt u (next i) j (rw is at e))
      | inr isnt ↦ fails u j (rw isnt at e)
    ]

word_in : (o : Option Sign) (w : Ident) → ident_in o ≡ Some w → o ≡ Some (word w)
word_in None w e = absurd cc
word_in (Some (mark n)) w e = absurd cc
word_in (Some (left_brace at)) w e = absurd cc
word_in (Some (this s)) w e = absurd cc
word_in (Some (super s)) w e = absurd cc
word_in (Some (word i)) w e = cc
word_in (Some (literal l)) w e = absurd cc
word_in (Some stray) w e = absurd cc

a_literal_in : (o : Option Sign) (w : Literal) → literal_in o ≡ Some w → o ≡ Some (literal w)
a_literal_in None w e = absurd cc
a_literal_in (Some (mark n)) w e = absurd cc
a_literal_in (Some (left_brace at)) w e = absurd cc
a_literal_in (Some (this s)) w e = absurd cc
a_literal_in (Some (super s)) w e = absurd cc
a_literal_in (Some (word i)) w e = absurd cc
a_literal_in (Some (literal l)) w e = cc
a_literal_in (Some stray) w e = absurd cc

a_this_in : (o : Option Sign) (w : Span) → this_in o ≡ Some w → o ≡ Some (this w)
a_this_in None w e = absurd cc
a_this_in (Some (mark n)) w e = absurd cc
a_this_in (Some (left_brace at)) w e = absurd cc
a_this_in (Some (this s)) w e = cc
a_this_in (Some (super s)) w e = absurd cc
a_this_in (Some (word i)) w e = absurd cc
a_this_in (Some (literal l)) w e = absurd cc
a_this_in (Some stray) w e = absurd cc

a_super_in : (o : Option Sign) (w : Span) → super_in o ≡ Some w → o ≡ Some (super w)
a_super_in None w e = absurd cc
a_super_in (Some (mark n)) w e = absurd cc
a_super_in (Some (left_brace at)) w e = absurd cc
a_super_in (Some (this s)) w e = absurd cc
a_super_in (Some (super s)) w e = cc
a_super_in (Some (word i)) w e = absurd cc
a_super_in (Some (literal l)) w e = absurd cc
a_super_in (Some stray) w e = absurd cc

brace_in : (o : Option Sign) (w : ℕ) → offset_in o ≡ Some w → o ≡ Some (left_brace w)
brace_in None w e = absurd cc
brace_in (Some (mark n)) w e = absurd cc
brace_in (Some (left_brace at)) w e = cc
brace_in (Some (this s)) w e = absurd cc
brace_in (Some (super s)) w e = absurd cc
brace_in (Some (word i)) w e = absurd cc
brace_in (Some (literal l)) w e = absurd cc
brace_in (Some stray) w e = absurd cc

taken-is : {A : Type 0} (o : Option A) (i j : Input) (x : A) → taken o i ≡ Done x j → (o ≡ Some x) × (next i ≡ j)
taken-is None i j x e = fails x j e
taken-is (Some y) i j x e = (ap (λ z. Some z) (done_value y x (next i) j e), done_input y x (next i) j e)

pub ident-taken : (i j : Input) (w : Ident) → ident i ≡ Done w j → Taken (token (word w) ∷ []) i j
unfolding ident
ident-taken i j w e = let h = taken-is (ident_in (sign i)) i j w e in (word_in (sign i) w h.0, h.1)

pub literal-taken : (i j : Input) (l : Literal) → a_literal i ≡ Done l j → Taken (token (literal l) ∷ []) i j
unfolding a_literal
literal-taken i j l e = let h = taken-is (literal_in (sign i)) i j l e in (a_literal_in (sign i) l h.0, h.1)

pub this-taken : (i j : Input) (s : Span) → a_this i ≡ Done s j → Taken (token (this s) ∷ []) i j
unfolding a_this
this-taken i j s e = let h = taken-is (this_in (sign i)) i j s e in (a_this_in (sign i) s h.0, h.1)

pub super-taken : (i j : Input) (s : Span) → a_super i ≡ Done s j → Taken (token (super s) ∷ []) i j
unfolding a_super
super-taken i j s e = let h = taken-is (super_in (sign i)) i j s e in (a_super_in (sign i) s h.0, h.1)

pub brace-taken : (i j : Input) (at : ℕ) → brace i ≡ Done at j → Taken (token (left_brace at) ∷ []) i j
unfolding brace
brace-taken i j at e = let h = taken-is (offset_in (sign i)) i j at e in (brace_in (sign i) at h.0, h.1)

body_at-is : (d : ℕ) (o : Option ℕ) (i j : Input) (at : ℕ) → body_at d o i ≡ Done at j → (o ≡ Some at) × (past_body d i ≡ j)
body_at-is d None i j at e = fails at j e
body_at-is d (Some b) i j at e = (ap (λ z. Some z) (done_value b at (past_body d i) j e), done_input b at (past_body d i) j e)

pub body-fit : (d : ℕ) (i j : Input) (at : ℕ) (h : Hole) → d ≤ 256 → h.brace ≡ at → h.around.left ≡ d → body d i ≡ Done at j → Fit (hole h ∷ []) i j
unfolding body
body-fit d i j at h fits is left_is e =
    let g = body_at-is d (offset_in (sign i)) i j at e in
    (brace_in (sign i) at g.0 ∙ ap (λ n. Some (left_brace n)) (sym is), omega arith, ap (λ n. past_body n i) left_is ∙ g.1)

-- ---- what stands there is taken

pub expect-at : (m : Mark) (i : Input) → same_mark m m ≡ true → sign i ≡ Some (mark m) → expect m i ≡ Done tt (next i)
unfolding expect
expect-at m i same e = rw (sees-at m m i e, same) refl

pub ident-at : (i : Input) (w : Ident) → sign i ≡ Some (word w) → ident i ≡ Done w (next i)
unfolding ident
ident-at i w e = rw e refl

pub literal-at : (i : Input) (l : Literal) → sign i ≡ Some (literal l) → a_literal i ≡ Done l (next i)
unfolding a_literal
literal-at i l e = rw e refl

pub this-at : (i : Input) (s : Span) → sign i ≡ Some (this s) → a_this i ≡ Done s (next i)
unfolding a_this
this-at i s e = rw e refl

pub super-at : (i : Input) (s : Span) → sign i ≡ Some (super s) → a_super i ≡ Done s (next i)
unfolding a_super
super-at i s e = rw e refl

pub brace-at : (i : Input) (at : ℕ) → sign i ≡ Some (left_brace at) → brace i ≡ Done at (next i)
unfolding brace
brace-at i at e = rw e refl

pub body-at : (d : ℕ) (i : Input) (at : ℕ) → sign i ≡ Some (left_brace at) → body d i ≡ Done at (past_body d i)
unfolding body
body-at d i at e = rw e refl
