-- What a turn of a look ahead passes.
use Rattle.std.proofs.Common.{◌≡◌, ℕ, zero, suc, ◌≤◌, ◌<◌, Bool, true, false, ◌&&◌, cond, List, [], ◌∷◌, length, Option, Some, None, refl, sym, ap, ◌∙◌, arith}
use Rattle.std.specs.Prelude.{is_some}
use Rattle.java_tree.specs.declared.mark.Mark.{Mark}
use Rattle.java_tree.specs.declared.mark.Mark.TheVariants as marks
use Rattle.java_model.specs.Grammar.Signs.{Sign, mark, left_brace, this, super, word, literal, stray}
use Rattle.java_unit_reading.specs.Reading.Steps.{sees, tail}
use Rattle.java_unit_reading.specs.Reading.Words.{is_word, is_dotted, is_dim, modifier_at, skip_modifiers, skip_dotted, skip_dims}

never : (b : Bool) → b && false ≡ false
never true = refl
never false = refl

no_more : (ts : List Sign) → length ts ≤ 0 → ts ≡ []
no_more [] h = refl
no_more (t ∷ ts) h = absurd (omega arith)

-- ---- modifiers

pub modifiers_end : (ts : List Sign) → is_some (modifier_at ts) ≡ false → skip_modifiers ts ≡ ts
unfolding skip_modifiers
modifiers_end [] h = refl
modifiers_end (t ∷ ts) h = rw h refl

pub modifiers_pass : (ts : List Sign) → is_some (modifier_at ts) ≡ true → skip_modifiers ts ≡ skip_modifiers (tail ts)
unfolding skip_modifiers
modifiers_pass [] h = absurd cc
modifiers_pass (t ∷ ts) h = rw h refl

pub modifiers_none : (ts : List Sign) → length ts ≤ 0 → skip_modifiers ts ≡ ts
unfolding skip_modifiers
modifiers_none ts h = rw (no_more ts h) refl

-- ---- dots and identifiers

pub dotted_end : (ts : List Sign) → is_dotted ts ≡ false → skip_dotted ts ≡ ts
unfolding skip_dotted
dotted_end [] h = refl
dotted_end (t ∷ []) h = refl
dotted_end (t ∷ u ∷ ts) h = rw h refl

pub dotted_pass : (ts : List Sign) → is_dotted ts ≡ true → skip_dotted ts ≡ skip_dotted (tail (tail ts))
unfolding skip_dotted sees
dotted_pass [] h = absurd cc
dotted_pass (t ∷ []) h = absurd (let e = never (sees marks.Dot (t ∷ [])) in cc)
dotted_pass (t ∷ u ∷ ts) h = rw h refl

pub dotted_none : (ts : List Sign) → length ts ≤ 0 → skip_dotted ts ≡ ts
unfolding skip_dotted
dotted_none ts h = rw (no_more ts h) refl

-- ---- brackets

pub dims_end : (ts : List Sign) → is_dim ts ≡ false → skip_dims ts ≡ ts
unfolding skip_dims
dims_end [] h = refl
dims_end (t ∷ []) h = refl
dims_end (t ∷ u ∷ ts) h = rw h refl

pub dims_pass : (ts : List Sign) → is_dim ts ≡ true → skip_dims ts ≡ skip_dims (tail (tail ts))
unfolding skip_dims sees
dims_pass [] h = absurd cc
dims_pass (t ∷ []) h = absurd (let e = never (sees marks.LeftBracket (t ∷ [])) in cc)
dims_pass (t ∷ u ∷ ts) h = rw h refl

pub dims_none : (ts : List Sign) → length ts ≤ 0 → skip_dims ts ≡ ts
unfolding skip_dims
dims_none ts h = rw (no_more ts h) refl

-- ---- how many are left

pub fewer : (ts : List Sign) (n : ℕ) → length ts ≤ suc n → length (tail ts) ≤ n
fewer [] n h = omega arith
fewer (t ∷ ts) n h = omega arith

pub fewer_twice : (ts : List Sign) (n : ℕ) → length ts ≤ suc n → length (tail (tail ts)) ≤ n
fewer_twice [] n h = omega arith
fewer_twice (t ∷ []) n h = omega arith
fewer_twice (t ∷ u ∷ ts) n h = omega arith
