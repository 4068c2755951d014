-- What a reader and its look ahead see of the tokens that are left.
use Rattle.std.proofs.Common.{◌≡◌, ℕ, zero, suc, ◌+◌, Bool, List, [], ◌∷◌, drop, Option, Some, None, refl, sym, ap, ◌∙◌, arith}
use Rattle.std.specs.Prelude.{◌≢◌}
use Rattle.java_tree.specs.declared.mark.Mark.{Mark}
use Rattle.java_tree.specs.declared.names.Ident.{Ident}
use Rattle.java_tree.specs.declared.token.Span.{Span}
use Rattle.java_tree.specs.declared.unit.TypeDecl.{TypeDecl}
use Rattle.java_model.specs.Grammar.Signs.{Sign, mark, left_brace, this, super, word, literal, stray}
use Rattle.java_expr_reading.specs.Shapes.{shape_by, is_mark}
use Rattle.java_expr_reading.specs.Input.{first_of, ident_in, offset_in, super_in}
use Rattle.java_expr_reading.specs.declared.shape.Shape.TheVariants as shapes
use Rattle.java_unit_reading.specs.Reading.Steps.{state, Done, Fail, sees, tail, next, brace, identifier}
use Rattle.java_unit_reading.specs.Reading.Members.{super_word}

tail_of_drop : (ts : List Sign) (n : ℕ) → tail (drop n ts) ≡ drop (suc n) ts
tail_of_drop [] zero = refl
tail_of_drop [] (suc n) = refl
tail_of_drop (t ∷ ts) zero = refl
tail_of_drop (t ∷ ts) (suc n) = tail_of_drop ts n

-- after the next token
pub drop_more : (n : ℕ) (ts : List Sign) → drop (n + 1) ts ≡ tail (drop n ts)
drop_more n ts = let more : n + 1 ≡ suc n = omega arith in ap (λ k. drop k ts) more ∙ sym (tail_of_drop ts n)

pub seen : (m : Mark) (ts : List Sign) → is_mark m (shape_by (first_of ts)) ≡ sees m ts
unfolding sees
seen m [] = refl
seen m (mark n ∷ ts) = refl
seen m (left_brace b ∷ ts) = refl
seen m (this s ∷ ts) = refl
seen m (super s ∷ ts) = refl
seen m (word i ∷ ts) = refl
seen m (literal l ∷ ts) = refl
seen m (stray ∷ ts) = refl

-- ---- an identifier

pub ident_found : (types : List TypeDecl) (ts : List Sign) (i : Ident) → ident_in (first_of ts) ≡ Some i
    → identifier (state types ts) ≡ Done i (next (state types ts))
unfolding identifier
ident_found types [] i e = absurd cc
ident_found types (mark n ∷ ts) i e = absurd cc
ident_found types (left_brace b ∷ ts) i e = absurd cc
ident_found types (this s ∷ ts) i e = absurd cc
ident_found types (super s ∷ ts) i e = absurd cc
ident_found types (word j ∷ ts) i e = let same : j ≡ i = cc in rw same refl
ident_found types (literal l ∷ ts) i e = absurd cc
ident_found types (stray ∷ ts) i e = absurd cc

pub no_ident : (types : List TypeDecl) (ts : List Sign) → ident_in (first_of ts) ≡ None → identifier (state types ts) ≡ Fail
unfolding identifier
no_ident types [] e = refl
no_ident types (mark n ∷ ts) e = refl
no_ident types (left_brace b ∷ ts) e = refl
no_ident types (this s ∷ ts) e = refl
no_ident types (super s ∷ ts) e = refl
no_ident types (word j ∷ ts) e = absurd cc
no_ident types (literal l ∷ ts) e = refl
no_ident types (stray ∷ ts) e = refl

-- ---- a `{`

pub brace_found : (types : List TypeDecl) (ts : List Sign) (at : ℕ) → offset_in (first_of ts) ≡ Some at
    → brace (state types ts) ≡ Done at (next (state types ts))
unfolding brace
brace_found types [] at e = absurd cc
brace_found types (mark n ∷ ts) at e = absurd cc
brace_found types (left_brace b ∷ ts) at e = let same : b ≡ at = cc in rw same refl
brace_found types (this s ∷ ts) at e = absurd cc
brace_found types (super s ∷ ts) at e = absurd cc
brace_found types (word j ∷ ts) at e = absurd cc
brace_found types (literal l ∷ ts) at e = absurd cc
brace_found types (stray ∷ ts) at e = absurd cc

pub no_brace : (types : List TypeDecl) (ts : List Sign) → shape_by (first_of ts) ≢ shapes.LeftBrace → brace (state types ts) ≡ Fail
unfolding brace
no_brace types [] f = refl
no_brace types (mark n ∷ ts) f = refl
no_brace types (left_brace b ∷ ts) f = absurd (f refl)
no_brace types (this s ∷ ts) f = refl
no_brace types (super s ∷ ts) f = refl
no_brace types (word j ∷ ts) f = refl
no_brace types (literal l ∷ ts) f = refl
no_brace types (stray ∷ ts) f = refl

-- ---- `super`

pub super_found : (types : List TypeDecl) (ts : List Sign) (at : Span) → super_in (first_of ts) ≡ Some at
    → super_word (state types ts) ≡ Done at (next (state types ts))
unfolding super_word
super_found types [] at e = absurd cc
super_found types (mark n ∷ ts) at e = absurd cc
super_found types (left_brace b ∷ ts) at e = absurd cc
super_found types (this s ∷ ts) at e = absurd cc
super_found types (super s ∷ ts) at e = let same : s ≡ at = cc in rw same refl
super_found types (word j ∷ ts) at e = absurd cc
super_found types (literal l ∷ ts) at e = absurd cc
super_found types (stray ∷ ts) at e = absurd cc

pub no_super : (types : List TypeDecl) (ts : List Sign) → shape_by (first_of ts) ≢ shapes.Super → super_word (state types ts) ≡ Fail
unfolding super_word
no_super types [] f = refl
no_super types (mark n ∷ ts) f = refl
no_super types (left_brace b ∷ ts) f = refl
no_super types (this s ∷ ts) f = refl
no_super types (super s ∷ ts) f = absurd (f refl)
no_super types (word j ∷ ts) f = refl
no_super types (literal l ∷ ts) f = refl
no_super types (stray ∷ ts) f = refl
