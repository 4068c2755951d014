-- What stands in the tokens is what readers give: the steps that each reader is made of.
use Rattle.std.proofs.Common.{◌≡◌, ℕ, Bool, true, false, cond, List, [], ◌∷◌, ◌++◌, length, refl, sym, ap, ◌∙◌, subst, append_assoc}
use denote.Enum.Bare.{true_same}
use Rattle.java_tree.specs.contracts.mark.Mark.{the_type}
use Rattle.java_tree.specs.declared.mark.Mark.{Mark}
use Rattle.java_tree.specs.declared.names.Ident.{Ident}
use Rattle.java_tree.specs.declared.unit.TypeDecl.{TypeDecl}
use Rattle.java_model.specs.Grammar.Signs.{Sign, mark, left_brace, word}
use Rattle.java_model.specs.Grammar.Pieces.{Piece, token, the}
use Rattle.java_model.specs.Grammar.Units.{Stage, stage, Spells, spells_nothing}
use Rattle.java_model.proofs.Grammar.Reads.{spells_split, spells_token_of}
use Rattle.java_expr_reading.specs.Shapes.{same_mark}
use Rattle.java_unit_reading.specs.Reading.Steps.{State, state, Outcome, Done, Fail, Parser, and_then, sees, tail, next, expect, brace, brace_in, identifier, word_in}

-- a state is at a stage of a unit with these types
pub record At (total : List TypeDecl) (s : State) (p : Stage) : Type 0 where
  pub tokens : s.tokens ≡ p.tokens
  pub number : length s.types ≡ p.number
  pub whole : s.types ++ p.types ≡ total

-- an outcome is this tree, at a stage
pub record Gives {A : Type 0} (total : List TypeDecl) (x : A) (to : Stage) (o : Outcome A) : Type 0 where
  pub end : State
  pub at : At total end to
  pub is : o ≡ Done x end

-- what a reader does where pieces of a tree stand before tokens of some kind
abbrev pub Complete : {A : Type 0} → Parser A → List Piece → A → (List Sign → Type 0) → Type 0
Complete p ps x F = (total : List TypeDecl) (s : State) (from to : Stage) → At total s from → Spells ps from to → F to.tokens → Gives total x to (p s)

-- whatever follows
abbrev pub Always : List Sign → Type 0
Always ts = Unit {0}

pub gives : {A : Type 0} {total : List TypeDecl} {x : A} {to : Stage} (s : State) → At total s to → Gives total x to (Done x s)
gives s h = record { end = s; at = h; is = refl }

-- one step that is known, and what follows it
pub then_gives : {A B : Type 0} {total : List TypeDecl} {x : A} {y : B} {mid to : Stage} (o : Outcome A) (f : A → Parser B) → Gives total x mid o
    → ((t : State) → At total t mid → Gives total y to (f x t)) → Gives total y to (and_then o f)
then_gives o f h k = let g = k h.end h.at in record { end = g.end; at = g.at; is = ap (λ p. and_then p f) h.is ∙ g.is }

-- one of two
pub first_gives : {A : Type 0} {total : List TypeDecl} {x : A} {to : Stage} (b : Bool) (o p : Outcome A)
    → b ≡ true → Gives total x to o → Gives total x to (cond b o p)
first_gives true o p e h = h
first_gives false o p e h = absurd cc

pub second_gives : {A : Type 0} {total : List TypeDecl} {x : A} {to : Stage} (b : Bool) (o p : Outcome A)
    → b ≡ false → Gives total x to p → Gives total x to (cond b o p)
second_gives true o p e h = absurd cc
second_gives false o p e h = h

-- a state at a stage by another name
pub at_end : {total : List TypeDecl} {s : State} {p q : Stage} → At total s p → Spells [] p q → At total s q
at_end h (spells_nothing _) = h

pub sees_same : (m : Mark) (ts : List Sign) → sees m (mark m ∷ ts) ≡ true
unfolding sees same_mark
sees_same m ts = true_same the_type m m refl

-- behind a token
pub at_next : {total : List TypeDecl} {s : State} {p : Stage} (x : Sign) (ts : List Sign) → At total s p → p.tokens ≡ x ∷ ts
    → At total (next s) (stage p.number p.types ts)
at_next {s = s} x ts h e = record { tokens = ap tail (h.tokens ∙ e); number = h.number; whole = h.whole }

-- what stands first in tokens
pub headed : (F : List Sign → Type 0) (x : Sign) (ps : List Piece) (p q : Stage)
    → ((ts : List Sign) → F (x ∷ ts)) → Spells (token x ∷ ps) p q → F p.tokens
headed F x ps p q f h = spells_token_of x ps p q h (λ ts e g. subst F (sym e) (f ts))

pub sees_next : (m : Mark) (ps : List Piece) {total : List TypeDecl} {s : State} {p q : Stage}
    → At total s p → Spells (the m ∷ ps) p q → sees m s.tokens ≡ true
sees_next m ps {s = s} {p = p} {q = q} h g = spells_token_of (mark m) ps p q g (λ ts e r. ap (sees m) (h.tokens ∙ e) ∙ sees_same m ts)

-- a mark, and what follows it, with the tokens behind it
pub expect_gives_behind : {B : Type 0} {total : List TypeDecl} {y : B} {s : State} {p q end : Stage} (m : Mark) (ps : List Piece) (f : Unit {0} → Parser B)
    → At total s p → Spells (the m ∷ ps) p q
    → ((t : State) (mid : Stage) → p.tokens ≡ mark m ∷ mid.tokens → At total t mid → Spells ps mid q → Gives total y end (f tt t))
    → Gives total y end (and_then (expect m s) f)
unfolding expect
expect_gives_behind {s = s} {p = p} {q = q} m ps f h g k =
    spells_token_of (mark m) ps p q g (λ ts e r.
    then_gives (cond (sees m s.tokens) (Done tt (next s)) Fail) f (first_gives (sees m s.tokens) _ _ (ap (sees m) (h.tokens ∙ e) ∙ sees_same m ts) (gives (next s) (at_next (mark m) ts h e)))
    (λ t at. k t _ e at r))

-- a mark, and what follows it
pub expect_gives : {B : Type 0} {total : List TypeDecl} {y : B} {s : State} {p q end : Stage} (m : Mark) (ps : List Piece) (f : Unit {0} → Parser B)
    → At total s p → Spells (the m ∷ ps) p q
    → ((t : State) (mid : Stage) → At total t mid → Spells ps mid q → Gives total y end (f tt t)) → Gives total y end (and_then (expect m s) f)
expect_gives m ps f h g k = expect_gives_behind m ps f h g (λ t mid e at r. k t mid at r)

brace_in_is : (types : List TypeDecl) (ts us : List Sign) (at : ℕ) → ts ≡ left_brace at ∷ us → brace_in types ts ≡ Done at (state types us)
brace_in_is types ts us at e = rw e

pub brace_gives : {B : Type 0} {total : List TypeDecl} {y : B} {s : State} {p q end : Stage} (at : ℕ) (ps : List Piece) (f : ℕ → Parser B)
    → At total s p → Spells (token (left_brace at) ∷ ps) p q
    → ((t : State) (mid : Stage) → At total t mid → Spells ps mid q → Gives total y end (f at t)) → Gives total y end (and_then (brace s) f)
unfolding brace
brace_gives {s = s} {p = p} {q = q} at ps f h g k =
    spells_token_of (left_brace at) ps p q g (λ ts e r.
    then_gives (brace_in s.types s.tokens) f (record { end = state s.types ts; at = record { tokens = refl; number = h.number; whole = h.whole }; is = brace_in_is s.types s.tokens ts at (h.tokens ∙ e) })
    (λ t a. k t _ a r))

word_in_is : (types : List TypeDecl) (ts us : List Sign) (i : Ident) → ts ≡ word i ∷ us → word_in types ts ≡ Done i (state types us)
word_in_is types ts us i e = rw e

pub word_gives : {B : Type 0} {total : List TypeDecl} {y : B} {s : State} {p q end : Stage} (i : Ident) (ps : List Piece) (f : Ident → Parser B)
    → At total s p → Spells (token (word i) ∷ ps) p q
    → ((t : State) (mid : Stage) → At total t mid → Spells ps mid q → Gives total y end (f i t)) → Gives total y end (and_then (identifier s) f)
unfolding identifier
word_gives {s = s} {p = p} {q = q} i ps f h g k =
    spells_token_of (word i) ps p q g (λ ts e r.
    then_gives (word_in s.types s.tokens) f (record { end = state s.types ts; at = record { tokens = refl; number = h.number; whole = h.whole }; is = word_in_is s.types s.tokens ts i (h.tokens ∙ e) })
    (λ t a. k t _ a r))

-- a part, and what follows it
pub part_gives : {A B : Type 0} {total : List TypeDecl} {x : A} {y : B} {s : State} {p q end : Stage} (part : Parser A) (ps qs : List Piece) (F : List Sign → Type 0) (f : A → Parser B)
    → Complete part ps x F → At total s p → Spells (ps ++ qs) p q → ((mid : Stage) → Spells qs mid q → F mid.tokens)
    → ((t : State) (mid : Stage) → At total t mid → Spells qs mid q → Gives total y end (f x t)) → Gives total y end (and_then (part s) f)
part_gives {s = s} {p = p} {q = q} part ps qs F f c h g follow k =
    spells_split ps qs p q g (λ mid l r. then_gives (part s) f (c _ s p mid h l (follow mid r)) (λ t at. k t mid at r))

-- a last part
pub last_gives : {A B : Type 0} {total : List TypeDecl} {x : A} {y : B} {s : State} {p q end : Stage} (part : Parser A) (ps : List Piece) (F : List Sign → Type 0) (f : A → Parser B)
    → Complete part ps x F → At total s p → Spells ps p q → F q.tokens
    → ((t : State) → At total t q → Gives total y end (f x t)) → Gives total y end (and_then (part s) f)
last_gives {s = s} {p = p} {q = q} part ps F f c h g follow k = then_gives (part s) f (c _ s p q h g follow) k

-- the other grouping
pub spells_right : (ps qs rs : List Piece) {p q : Stage} → Spells ((ps ++ qs) ++ rs) p q → Spells (ps ++ (qs ++ rs)) p q
spells_right ps qs rs {p = p} {q = q} h = subst (λ xs. Spells xs p q) (append_assoc ps qs rs) h

pub spells_as : {ps qs : List Piece} {p q : Stage} → ps ≡ qs → Spells ps p q → Spells qs p q
spells_as {p = p} {q = q} e h = subst (λ xs. Spells xs p q) e h
