-- What the tests that look ahead answer where something stands.
use Rattle.std.proofs.Common.{◌≡◌, ℕ, zero, suc, Bool, true, false, List, [], ◌∷◌, ◌++◌, refl, sym, ap, ◌∙◌, subst}
use Rattle.java_tree.specs.declared.mark.Mark.{Mark}
use Rattle.java_tree.specs.declared.mark.Mark.TheVariants as marks
use Rattle.java_tree.specs.declared.names.ElementType.{ElementType}
use Rattle.java_tree.specs.declared.names.ElementType.TheVariants as elements
use Rattle.java_tree.specs.declared.names.Ident.{Ident}
use Rattle.java_tree.specs.declared.names.Modifier.{Modifier}
use Rattle.java_tree.specs.declared.names.Primitive.{Primitive}
use Rattle.java_tree.specs.declared.names.TypeUse.{TypeUse}
use Rattle.java_model.specs.Grammar.Signs.{Sign, mark, left_brace, this, super, word, literal, stray, primitive_mark, modifier_mark}
use Rattle.java_model.specs.Grammar.Pieces.{Piece, dotted as yield_dotted, yield_dims, yield_element, yield_type}
use Rattle.java_model.specs.Grammar.Expressions.{IsElement, IsType}
use Rattle.java_model.specs.Grammar.Follows.{ends_stmt}
use Rattle.java_model.specs.Grammar.Statements.{Ifs, any}
use Rattle.java_model.specs.Grammar.Units.{Stage, Spells, spells_nothing}
use Rattle.java_model.specs.Grammar.YieldUnit.{yield_modifiers}
use Rattle.java_model.proofs.Grammar.Readings.{primitive_of-mark, modifier_of-mark}
use Rattle.java_model.proofs.Grammar.Reads.{spells_token_of, spells_split}
use Rattle.java_expr_reading.specs.Shapes.{same_mark}
use Rattle.java_expr_reading.proofs.Tokens.{same_mark-is}
use Rattle.java_unit_reading.specs.Reading.Steps.{sees}
use Rattle.java_unit_reading.specs.Reading.Words.{skip_modifiers, skip_dotted, skip_dims, declares}
use Rattle.java_unit_reading.specs.Reading.Statements.{begins_class, begins_local, ends_block}
use Rattle.java_unit_reading.proofs.Completing.{headed, spells_right}
use Rattle.java_unit_reading.proofs.WordLaws.{NoModifier, NotDotted, WordNext, word_not_dotted, name_headed}

-- ---- modifiers

skip_one : (m : Modifier) (ts : List Sign) → skip_modifiers (mark (modifier_mark m) ∷ ts) ≡ skip_modifiers ts
unfolding skip_modifiers
skip_one m ts = rw modifier_of-mark

skip_none : (ts : List Sign) → NoModifier ts → skip_modifiers ts ≡ ts
unfolding skip_modifiers
skip_none [] h = refl
skip_none (t ∷ ts) h = rw h

pub skips_modifiers : (ms : List Modifier) (p q : Stage) → Spells (yield_modifiers ms) p q → NoModifier q.tokens → skip_modifiers p.tokens ≡ q.tokens
skips_modifiers [] p q (spells_nothing _) h = skip_none p.tokens h
skips_modifiers (m ∷ ms) p q g h =
    spells_token_of (mark (modifier_mark m)) (yield_modifiers ms) p q g (λ ts e r. ap skip_modifiers e ∙ skip_one m ts ∙ skips_modifiers ms _ q r h)

-- ---- types

pub type_headed : (F : List Sign → Type 0) (t : TypeUse) (qs : List Piece) (p q : Stage) → IsType t
    → ((x : Primitive) (ts : List Sign) → F (mark (primitive_mark x) ∷ ts))
    → ((i : Ident) (ts : List Sign) → F (word i ∷ ts))
    → Spells (yield_type t ++ qs) p q → F p.tokens
type_headed F t qs p q h f k g = by_element t.element h (spells_right (yield_element t.element) (yield_dims t.dims) qs g)
  where
    by_element : (e : ElementType) → IsElement e → Spells (yield_element e ++ (yield_dims t.dims ++ qs)) p q → F p.tokens
    by_element (elements.Primitive x) h2 r = headed F (mark (primitive_mark x)) _ p q (f x) r
    by_element (elements.Named n) h2 r = name_headed F n _ p q h2 k r

-- a word in front: nothing is skipped
skip_dims_word : (ts : List Sign) → WordNext ts → skip_dims ts ≡ ts
unfolding skip_dims sees
skip_dims_word [] h = refl
skip_dims_word (t ∷ []) h = refl
skip_dims_word (word i ∷ u ∷ ts) h = refl
skip_dims_word (mark m ∷ u ∷ ts) h = absurd cc
skip_dims_word (left_brace at ∷ u ∷ ts) h = absurd cc
skip_dims_word (this s ∷ u ∷ ts) h = absurd cc
skip_dims_word (super s ∷ u ∷ ts) h = absurd cc
skip_dims_word (literal l ∷ u ∷ ts) h = absurd cc
skip_dims_word (stray ∷ u ∷ ts) h = absurd cc

skip_one_dim : (ts : List Sign) → skip_dims (mark marks.LeftBracket ∷ mark marks.RightBracket ∷ ts) ≡ skip_dims ts
unfolding skip_dims sees same_mark
skip_one_dim ts = refl

skips_dims : (n : ℕ) (p q : Stage) → Spells (yield_dims n) p q → WordNext q.tokens → skip_dims p.tokens ≡ q.tokens
skips_dims zero p q (spells_nothing _) h = skip_dims_word p.tokens h
skips_dims (suc n) p q g h =
    spells_token_of (mark marks.LeftBracket) _ p q g (λ ts e r. spells_token_of (mark marks.RightBracket) _ _ q r (λ us e2 r2.
    ap skip_dims (e ∙ ap (λ xs. mark marks.LeftBracket ∷ xs) e2) ∙ skip_one_dim us ∙ skips_dims n _ q r2 h))

skip_dotted_none : (ts : List Sign) → NotDotted ts → skip_dotted ts ≡ ts
unfolding skip_dotted
skip_dotted_none [] h = refl
skip_dotted_none (t ∷ []) h = refl
skip_dotted_none (t ∷ u ∷ ts) h = rw h

skip_one_dotted : (i : Ident) (ts : List Sign) → skip_dotted (mark marks.Dot ∷ word i ∷ ts) ≡ skip_dotted ts
unfolding skip_dotted sees same_mark
skip_one_dotted i ts = refl

skips_dotted : (n : List Ident) (p q : Stage) → Spells (yield_dotted n) p q → NotDotted q.tokens → skip_dotted p.tokens ≡ q.tokens
skips_dotted [] p q (spells_nothing _) h = skip_dotted_none p.tokens h
skips_dotted (i ∷ n) p q g h =
    spells_token_of (mark marks.Dot) _ p q g (λ ts e r. spells_token_of (word i) _ _ q r (λ us e2 r2.
    ap skip_dotted (e ∙ ap (λ xs. mark marks.Dot ∷ xs) e2) ∙ skip_one_dotted i us ∙ skips_dotted n _ q r2 h))

dims_not_dotted : (n : ℕ) (p q : Stage) → Spells (yield_dims n) p q → WordNext q.tokens → NotDotted p.tokens
unfolding sees same_mark
dims_not_dotted zero p q (spells_nothing _) h = word_not_dotted p.tokens h
dims_not_dotted (suc n) p q g h = headed NotDotted (mark marks.LeftBracket) _ p q (λ ts. refl) g

declares_primitive : (x : Primitive) (ts : List Sign) → WordNext (skip_dims ts) → declares (mark (primitive_mark x) ∷ ts) ≡ true
unfolding declares
declares_primitive x ts h = rw primitive_of-mark h

declares_named : (i : Ident) (ts : List Sign) → WordNext (skip_dims (skip_dotted ts)) → declares (word i ∷ ts) ≡ true
unfolding declares
declares_named i ts h = h

-- a type and an identifier declare
pub type_declares : (t : TypeUse) (p q : Stage) → IsType t → Spells (yield_type t) p q → WordNext q.tokens → declares p.tokens ≡ true
type_declares t p q h g follow = spells_split (yield_element t.element) (yield_dims t.dims) p q g (λ m l r. by_element t.element m h l r)
  where
    start_at : {a b : Stage} → Spells [] a b → Spells (yield_dims t.dims) b q → Spells (yield_dims t.dims) a q
    start_at (spells_nothing _) r = r

    by_element : (e : ElementType) (m : Stage) → IsElement e → Spells (yield_element e) p m
        → Spells (yield_dims t.dims) m q → declares p.tokens ≡ true
    by_element (elements.Primitive x) m h2 l r =
        spells_token_of (mark (primitive_mark x)) [] p m l (λ ts e last.
        ap declares e ∙ declares_primitive x ts (subst WordNext (sym (skips_dims t.dims _ q (start_at last r) follow)) follow))
    by_element (elements.Named []) m h2 l r = absurd h2
    by_element (elements.Named (i ∷ n)) m h2 l r =
        spells_token_of (word i) (yield_dotted n) p m l (λ ts e last.
        ap declares e ∙ declares_named i ts (subst (λ xs. WordNext (skip_dims xs)) (sym (skips_dotted n _ m last (dims_not_dotted t.dims m q r follow)))
        (subst WordNext (sym (skips_dims t.dims m q r follow)) follow)))

-- ---- what a statement doesn't begin with

-- a test that `else`, `catch` and `finally` don't pass
module _ (test : List Sign → Bool)
    (no_else : (ts : List Sign) → test (mark marks.Else ∷ ts) ≡ false)
    (no_catch : (ts : List Sign) → test (mark marks.Catch ∷ ts) ≡ false)
    (no_finally : (ts : List Sign) → test (mark marks.Finally ∷ ts) ≡ false) where
  passed_ends : (ts : List Sign) → test ts ≡ true → ends_stmt any ts ≡ true
  passed_ends [] h = refl
  passed_ends (mark marks.Else ∷ ts) h = absurd (let e = no_else ts in cc)
  passed_ends (mark marks.Catch ∷ ts) h = absurd (let e = no_catch ts in cc)
  passed_ends (mark marks.Finally ∷ ts) h = absurd (let e = no_finally ts in cc)
  passed_ends (mark m ∷ ts) h = refl
  passed_ends (left_brace at ∷ ts) h = refl
  passed_ends (this s ∷ ts) h = refl
  passed_ends (super s ∷ ts) h = refl
  passed_ends (word i ∷ ts) h = refl
  passed_ends (literal l ∷ ts) h = refl
  passed_ends (stray ∷ ts) h = refl

pub end_ends : (ts : List Sign) → ends_block ts ≡ true → ends_stmt any ts ≡ true
unfolding sees same_mark
end_ends = passed_ends ends_block (λ ts. refl) (λ ts. refl) (λ ts. refl)

pub class_ends : (ts : List Sign) → begins_class ts ≡ true → ends_stmt any ts ≡ true
unfolding skip_modifiers sees same_mark
class_ends = passed_ends begins_class (λ ts. refl) (λ ts. refl) (λ ts. refl)

pub local_ends : (ts : List Sign) → begins_local ts ≡ true → ends_stmt any ts ≡ true
unfolding declares sees same_mark
local_ends = passed_ends begins_local (λ ts. refl) (λ ts. refl) (λ ts. refl)

-- what ends a statement is no mark that goes on with one
module _ (m : Mark) (ifs : Ifs) (goes_on : (ts : List Sign) → ends_stmt ifs (mark m ∷ ts) ≡ false) where
  another : (n : Mark) (ts : List Sign) → ends_stmt ifs (mark n ∷ ts) ≡ true → (b : Bool) → same_mark n m ≡ b → b ≡ false
  another n ts h false e = refl
  another n ts h true e = absurd (let same = ap (λ k. ends_stmt ifs (mark k ∷ ts)) (same_mark-is n m e) in let g = goes_on ts in cc)

  ends_no : (ts : List Sign) → ends_stmt ifs ts ≡ true → sees m ts ≡ false
  unfolding sees
  ends_no [] h = refl
  ends_no (mark n ∷ ts) h = another n ts h (same_mark n m) refl
  ends_no (left_brace at ∷ ts) h = refl
  ends_no (this s ∷ ts) h = refl
  ends_no (super s ∷ ts) h = refl
  ends_no (word i ∷ ts) h = refl
  ends_no (literal l ∷ ts) h = refl
  ends_no (stray ∷ ts) h = refl

pub ends_no_catch : (ifs : Ifs) (ts : List Sign) → ends_stmt ifs ts ≡ true → sees marks.Catch ts ≡ false
ends_no_catch ifs = ends_no marks.Catch ifs (λ ts. refl)

pub ends_no_finally : (ifs : Ifs) (ts : List Sign) → ends_stmt ifs ts ≡ true → sees marks.Finally ts ≡ false
ends_no_finally ifs = ends_no marks.Finally ifs (λ ts. refl)

pub ends_no_else : (ts : List Sign) → ends_stmt any ts ≡ true → sees marks.Else ts ≡ false
ends_no_else = ends_no marks.Else any (λ ts. refl)
