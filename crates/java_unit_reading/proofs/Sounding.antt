-- What readers give stands in the tokens: the steps that each reader is made of.
use Rattle.std.proofs.Common.{◌≡◌, Bool, true, false, cond, List, [], ◌∷◌, ◌++◌, length, refl, sym, ap, ◌∙◌, subst, append_assoc}
use Rattle.std.proofs.lemmas.List.{append-nil}
use Rattle.java_tree.specs.declared.mark.Mark.{Mark}
use Rattle.java_tree.specs.declared.unit.TypeDecl.{TypeDecl}
use Rattle.java_model.specs.Grammar.Signs.{Sign, mark, left_brace, this, super, word, literal, stray}
use Rattle.java_model.specs.Grammar.Pieces.{Piece, token, the, Around}
use Rattle.java_model.specs.Grammar.Units.{stage, Spells, spells_nothing, spells_token}
use Rattle.java_model.proofs.Grammar.Spells.{spells_both}
use Rattle.java_expr_reading.proofs.Tokens.{same_mark-is}
use Rattle.java_unit_reading.specs.Reading.Steps.{State, state, Outcome, Done, Fail, Parser, and_then, sees, tail, next, expect, brace, brace_in, identifier, word_in}

-- Pieces stand from one state up to another, whatever types begin behind them.
pub record Stands (ps : List Piece) (s t : State) : Type 0 where
  pub more : List TypeDecl
  pub grows : t.types ≡ s.types ++ more
  pub spells : (others : List TypeDecl) → Spells ps (stage (length s.types) (more ++ others) s.tokens) (stage (length t.types) others t.tokens)

pub stands_nothing : (s : State) → Stands [] s s
stands_nothing s = record { more = []; grows = sym (append-nil s.types); spells = λ others. spells_nothing _ }

pub stands_both : {ps qs : List Piece} {s m t : State} → Stands ps s m → Stands qs m t → Stands (ps ++ qs) s t
stands_both {ps = ps} {qs = qs} {s = s} {m = m} {t = t} h g = record {
  more = h.more ++ g.more;
  grows = g.grows ∙ ap (λ xs. xs ++ g.more) h.grows ∙ append_assoc s.types h.more g.more;
  spells = λ others. rw append_assoc (spells_both ps qs _ _ _ (h.spells (g.more ++ others)) (g.spells others));
}

-- one token
pub stands_one : (x : Sign) (s t : State) → s.tokens ≡ x ∷ t.tokens → t.types ≡ s.types → Stands (token x ∷ []) s t
stands_one x s t e g = record {
  more = [];
  grows = g ∙ sym (append-nil s.types);
  spells = λ others. spells_token x [] t.tokens _ _ e (rw (← g) (spells_nothing _));
}

-- what holds of a tree and of where it ends, if there is one
pub data IfDone {A : Type 0} (Q : A → State → Type 0) : Outcome A → Type 0 where
  done : {x : A} {s : State} → Q x s → IfDone Q (Done x s)
  fails : IfDone Q Fail

-- one step, and what follows it
pub then : {A B : Type 0} {Q : A → State → Type 0} {R : B → State → Type 0} {o : Outcome A} {f : A → Parser B}
    → IfDone Q o → ((x : A) (s : State) → Q x s → IfDone R (f x s)) → IfDone R (and_then o f)
then (done {x = x} {s = s} h) k = k x s h
then fails k = fails

-- one of two
pub either : {A : Type 0} {Q : A → State → Type 0} (b : Bool) {o p : Outcome A} → (b ≡ true → IfDone Q o)
    → (b ≡ false → IfDone Q p) → IfDone Q (cond b o p)
either true h k = h refl
either false h k = k refl

pub weaken : {A : Type 0} {Q R : A → State → Type 0} {o : Outcome A} → IfDone Q o → ((x : A) (s : State) → Q x s → R x s) → IfDone R o
weaken (done {x = x} {s = s} h) k = done (k x s h)
weaken fails k = fails

-- a mark that comes next
pub sees_is : (m : Mark) (ts : List Sign) → sees m ts ≡ true → ts ≡ mark m ∷ tail ts
unfolding sees
sees_is m [] h = absurd cc
sees_is m (mark n ∷ ts) h = ap (λ k. mark k ∷ ts) (same_mark-is n m h)
sees_is m (left_brace at ∷ ts) h = absurd cc
sees_is m (this s ∷ ts) h = absurd cc
sees_is m (super s ∷ ts) h = absurd cc
sees_is m (word i ∷ ts) h = absurd cc
sees_is m (literal l ∷ ts) h = absurd cc
sees_is m (stray ∷ ts) h = absurd cc

pub sound_expect : (m : Mark) (s : State) → IfDone (λ x t. Stands (the m ∷ []) s t) (expect m s)
unfolding expect
sound_expect m s = either (sees m s.tokens) (λ h. done (stands_one (mark m) s (next s) (sees_is m s.tokens h) refl)) (λ h. fails)

sound_brace_in : (types : List TypeDecl) (ts : List Sign)
    → IfDone (λ at t. Stands (token (left_brace at) ∷ []) (state types ts) t) (brace_in types ts)
sound_brace_in types [] = fails
sound_brace_in types (left_brace at ∷ ts) = done (stands_one (left_brace at) _ (state types ts) refl refl)
sound_brace_in types (mark m ∷ ts) = fails
sound_brace_in types (this s ∷ ts) = fails
sound_brace_in types (super s ∷ ts) = fails
sound_brace_in types (word i ∷ ts) = fails
sound_brace_in types (literal l ∷ ts) = fails
sound_brace_in types (stray ∷ ts) = fails

pub sound_brace : (s : State) → IfDone (λ at t. Stands (token (left_brace at) ∷ []) s t) (brace s)
unfolding brace
sound_brace s = sound_brace_in s.types s.tokens

sound_word_in : (types : List TypeDecl) (ts : List Sign) → IfDone (λ i t. Stands (token (word i) ∷ []) (state types ts) t) (word_in types ts)
sound_word_in types [] = fails
sound_word_in types (left_brace at ∷ ts) = fails
sound_word_in types (mark m ∷ ts) = fails
sound_word_in types (this s ∷ ts) = fails
sound_word_in types (super s ∷ ts) = fails
sound_word_in types (word i ∷ ts) = done (stands_one (word i) _ (state types ts) refl refl)
sound_word_in types (literal l ∷ ts) = fails
sound_word_in types (stray ∷ ts) = fails

pub sound_identifier : (s : State) → IfDone (λ i t. Stands (token (word i) ∷ []) s t) (identifier s)
unfolding identifier
sound_identifier s = sound_word_in s.types s.tokens

-- What a reader gives is of a production, and its pieces stand in the tokens wherever the place is one of these.
abbrev pub Sound : {A : Type 0} → (Around → Type 0) → (A → Type 0) → (A → Around → List Piece) → Parser A → Type 0
Sound In P Y p = (s : State) → IfDone (λ x t. P x × ((a : Around) → In a → Stands (Y x a) s t)) (p s)

abbrev pub Everywhere : Around → Type 0
Everywhere a = Unit {0}

abbrev pub Whatever : {A : Type 0} → A → Type 0
Whatever x = Unit {0}

pub stands_as : {ps qs : List Piece} {s t : State} → ps ≡ qs → Stands ps s t → Stands qs s t
stands_as {s = s} {t = t} e h = subst (λ xs. Stands xs s t) e h

-- the other grouping
pub stands_left : (ps qs rs : List Piece) {s t : State} → Stands (ps ++ (qs ++ rs)) s t → Stands ((ps ++ qs) ++ rs) s t
stands_left ps qs rs h = stands_as (sym (append_assoc ps qs rs)) h
