-- Where what a primary expression begins with ends: a name, `this`, and a primitive type or `super` that no dot follows.
use Rattle.std.proofs.Common.{◌≡◌, ℕ, zero, suc, ◌<◌, ◌≤◌, true, false, ◌&&◌, List, [], ◌∷◌, length, drop, Option, Some, None, refl, sym, ap, ◌∙◌, subst, inl, inr, arith}
use Rattle.std.specs.Prelude.{is_some}
use Rattle.std.proofs.lemmas.Bool.{cases_Bool}
use Rattle.java_tree.specs.declared.mark.Mark.{Mark}
use Rattle.java_tree.specs.declared.mark.Mark.TheVariants as marks
use Rattle.java_tree.specs.declared.names.ElementType.TheVariants as elements
use Rattle.java_tree.specs.declared.names.Ident.{Ident}
use Rattle.java_tree.specs.declared.names.Primitive.{Primitive}
use Rattle.java_tree.specs.declared.names.TypeUse.{TypeUse}
use Rattle.java_tree.specs.declared.expr.First.{First}
use Rattle.java_tree.specs.declared.expr.First.TheVariants as firsts
use Rattle.java_model.specs.Grammar.Signs.{Sign, mark, left_brace, this, super, word, literal, stray}
use Rattle.java_model.specs.Grammar.Readings.{primitive_of}
use Rattle.java_expr_reading.specs.Shapes.{same_mark, is_mark, is_word as is_word_shape, shape_by}
use Rattle.java_expr_reading.specs.Input.{Input, first_of, sign, shape, left, next, Done, and_then, ◌>>=◌, ◌>>◌, pure, expect, ident, a_this, a_super}
use Rattle.java_expr_reading.specs.Input.{sees as seen_by}
use Rattle.java_expr_reading.specs.Reading.Names.{sees_member, name, sees_dim, dims, element, type_use}
use Rattle.java_expr_reading.specs.Reading.Primaries as primaries
use Rattle.java_expr_reading.specs.Reading.Primaries.{Nest}
use Rattle.java_expr_reading.specs.Reading.Expressions.{skips_names, skip_names, skips_dims, skip_dims as skip_dims_there}
use Rattle.java_expr_reading.specs.declared.shape.Shape.TheVariants as shapes
use Rattle.java_expr_reading.proofs.Taken.{inv, done_input, next_shorter}
use Rattle.java_expr_reading.proofs.Tokens.{fails, outcome, true_is_not_false, sees-is, sees-at, this-taken, super-taken}
use Rattle.java_expr_reading.proofs.NameLaws.{both_true, mapped, sees_dim-both, shape_mark}
use Rattle.java_expr_reading.proofs.Beginnings.{name-skip, dims-skip, skip_dims-none}
use Rattle.java_unit_reading.specs.Reading.Steps.{sees, tail}
use Rattle.java_unit_reading.specs.Reading.Words.{is_word, is_dotted, is_dim, skip_dotted, skip_dims}
use Rattle.java_unit_reading.proofs.WordLaws.{and_right}

-- ---- the same tests, on tokens and on an input

seen_in : (m : Mark) (ts : List Sign) → is_mark m (shape_by (first_of ts)) ≡ sees m ts
unfolding sees same_mark
seen_in m [] = refl
seen_in m (mark n ∷ ts) = refl
seen_in m (left_brace at ∷ ts) = refl
seen_in m (this s ∷ ts) = refl
seen_in m (super s ∷ ts) = refl
seen_in m (word i ∷ ts) = refl
seen_in m (literal l ∷ ts) = refl
seen_in m (stray ∷ ts) = refl

pub sees_there : (m : Mark) (i : Input) → seen_by m i ≡ sees m i.rest
unfolding seen_by sign
sees_there m i = seen_in m i.rest

word_in : (ts : List Sign) → is_word_shape (shape_by (first_of ts)) ≡ is_word ts
word_in [] = refl
word_in (mark n ∷ ts) = refl
word_in (left_brace at ∷ ts) = refl
word_in (this s ∷ ts) = refl
word_in (super s ∷ ts) = refl
word_in (word i ∷ ts) = refl
word_in (literal l ∷ ts) = refl
word_in (stray ∷ ts) = refl

pub word_there : (i : Input) → is_word_shape (shape i) ≡ is_word i.rest
unfolding sign
word_there i = word_in i.rest

drop_is_tail : (ts : List Sign) → drop 1 ts ≡ tail ts
drop_is_tail [] = refl
drop_is_tail (t ∷ ts) = refl

pub next_there : (i : Input) → (next i).rest ≡ tail i.rest
unfolding next
next_there i = drop_is_tail i.rest

member_there : (i : Input) → sees_member i ≡ is_dotted i.rest
unfolding sees_member
member_there i = ap (λ b. b && is_word_shape (shape (next i))) (sees_there marks.Dot i) ∙ ap (λ b. sees marks.Dot i.rest && b) (word_there (next i) ∙ ap is_word (next_there i))

dim_there : (i : Input) → sees_dim i ≡ is_dim i.rest
unfolding sees_dim
dim_there i = ap (λ b. b && seen_by marks.RightBracket (next i)) (sees_there marks.LeftBracket i) ∙ ap (λ b. sees marks.LeftBracket i.rest && b) (sees_there marks.RightBracket (next i) ∙ ap (sees marks.RightBracket) (next_there i))

-- ---- what is skipped, on tokens and on an input

dotted_skips : (ts : List Sign) → is_dotted ts ≡ true → skip_dotted ts ≡ skip_dotted (tail (tail ts))
unfolding skip_dotted
dotted_skips [] h = refl
dotted_skips (t ∷ []) h = let b : false ≡ true = and_right (sees marks.Dot (t ∷ [])) false h in absurd cc
dotted_skips (t ∷ u ∷ ts) h = rw h refl

pub dotted_stays : (ts : List Sign) → is_dotted ts ≡ false → skip_dotted ts ≡ ts
unfolding skip_dotted
dotted_stays [] h = refl
dotted_stays (t ∷ []) h = refl
dotted_stays (t ∷ u ∷ ts) h = rw h refl

dims_skip : (ts : List Sign) → is_dim ts ≡ true → skip_dims ts ≡ skip_dims (tail (tail ts))
unfolding skip_dims sees
dims_skip [] h = refl
dims_skip (t ∷ []) h = let b : false ≡ true = and_right (sees marks.LeftBracket (t ∷ [])) false h in absurd cc
dims_skip (t ∷ u ∷ ts) h = rw h refl

pub dims_stay : (ts : List Sign) → is_dim ts ≡ false → skip_dims ts ≡ ts
unfolding skip_dims
dims_stay [] h = refl
dims_stay (t ∷ []) h = refl
dims_stay (t ∷ u ∷ ts) h = rw h refl

next_next : (i : Input) → (next (next i)).rest ≡ tail (tail i.rest)
next_next i = next_there (next i) ∙ ap tail (next_there i)

tail_no_longer : (ts : List Sign) → length (tail ts) ≤ length ts
tail_no_longer [] = omega arith
tail_no_longer (t ∷ ts) = omega arith

two_shorter : (m : Mark) (i : Input) → seen_by m i ≡ true → left (next (next i)) < left i
unfolding left
two_shorter m i h =
    let one = next_shorter i (mark m) (sees-is m i h) in
    let two : length ((next (next i)).rest) ≤ length ((next i).rest) = subst (λ ts. length ts ≤ length ((next i).rest)) (sym (next_there (next i))) (tail_no_longer (next i).rest) in
    omega arith

member_parts : (j : Input) → sees_member j ≡ true → (seen_by marks.Dot j && is_word_shape (shape (next j))) ≡ true
unfolding sees_member
member_parts j h = h

names_there : (n : ℕ) (i : Input) → left i < n → (skips_names n i).rest ≡ skip_dotted i.rest
unfolding skips_names
names_there zero i few = absurd (omega arith)
names_there (suc n) i few =
    elim (cases_Bool (sees_member i)) [
      | inl is ↦
          let both = both_true (seen_by marks.Dot i) (is_word_shape (shape (next i))) (member_parts i is) in
          rw is (names_there n (next (next i)) (omega (arith, two_shorter marks.Dot i both.0)) ∙ ap skip_dotted (next_next i) ∙ sym (dotted_skips i.rest (sym (member_there i) ∙ is)))
      | inr isnt ↦ rw isnt (sym (dotted_stays i.rest (sym (member_there i) ∙ isnt)))
    ]

pub skip_names_there : (i : Input) → (skip_names i).rest ≡ skip_dotted i.rest
unfolding skip_names
skip_names_there i = names_there (suc (left i)) i (omega arith)

all_dims_there : (n : ℕ) (i : Input) → left i < n → (skips_dims n i).rest ≡ skip_dims i.rest
unfolding skips_dims
all_dims_there zero i few = absurd (omega arith)
all_dims_there (suc n) i few =
    elim (cases_Bool (sees_dim i)) [
      | inl is ↦
          let both = sees_dim-both i is in
          rw is (all_dims_there n (next (next i)) (omega (arith, two_shorter marks.LeftBracket i both.0)) ∙ ap skip_dims (next_next i) ∙ sym (dims_skip i.rest (sym (dim_there i) ∙ is)))
      | inr isnt ↦ rw isnt (sym (dims_stay i.rest (sym (dim_there i) ∙ isnt)))
    ]

pub skip_dims_is : (i : Input) → (skip_dims_there i).rest ≡ skip_dims i.rest
unfolding skip_dims_there
skip_dims_is i = all_dims_there (suc (left i)) i (omega arith)

-- ---- the first of a primary expression

-- a name ends before this
pub record EndsName (k : Input) : Type 0 where
  pub bracket : seen_by marks.LeftBracket k ≡ false
  pub dot : seen_by marks.Dot k ≡ false
  pub paren : seen_by marks.LeftParen k ≡ false

paren_none : (j : Input) → seen_by marks.LeftBracket j ≡ true → seen_by marks.LeftParen j ≡ false
unfolding same_mark
paren_none j b = sees-at marks.LeftParen marks.LeftBracket j (sees-is marks.LeftBracket j b)

dot_none : (j : Input) → seen_by marks.LeftBracket j ≡ true → seen_by marks.Dot j ≡ false
unfolding same_mark
dot_none j b = sees-at marks.Dot marks.LeftBracket j (sees-is marks.LeftBracket j b)

module _ (d : ℕ) (N : Nest) where
  no_class_literal : {C : Type 0} (t : TypeUse) (f : First) (m k : Input) → seen_by marks.Dot m ≡ false → primaries.class_literal t m ≡ Done f k → C
  unfolding expect
  no_class_literal t f m k h e = fails f k (rw h at e)

  named_ends : (n : List Ident) (f : First) (l k : Input) → EndsName (skip_dims_there l)
      → primaries.named_first d N n l ≡ Done f k → k ≡ skip_dims_there l
  unfolding primaries.named_first
  named_ends n f l k h e =
      elim (cases_Bool (sees_dim l)) [
        | inl dim ↦
            let bracket = sees_dim-both l dim in
            let r : primaries.array_class d N n l ≡ Done f k = rw (paren_none l bracket.0, dot_none l bracket.0, dim) at e in
            inv (dims l) (λ m. primaries.class_literal (record { element = elements.Named n; dims = m })) f k r (λ m o g q.
            no_class_literal (record { element = elements.Named n; dims = m }) f o k (ap (seen_by marks.Dot) (dims-skip m l o g) ∙ h.dot) q)
        | inr none ↦
            let stays = skip_dims-none l none in
            let no_paren : seen_by marks.LeftParen l ≡ false = ap (seen_by marks.LeftParen) (sym stays) ∙ h.paren in
            let no_dot : seen_by marks.Dot l ≡ false = ap (seen_by marks.Dot) (sym stays) ∙ h.dot in
            sym (done_input (firsts.Name n) f l k (rw (no_paren, no_dot, none) at e)) ∙ sym stays
      ]

  pub first_word : (f : First) (i k : Input) → shape i ≡ shapes.Word → EndsName (skip_dims_there (skip_names (next i)))
      → primaries.first d N i ≡ Done f k → k ≡ skip_dims_there (skip_names (next i))
  unfolding primaries.first
  first_word f i k is h e =
      let r : primaries.first_by d N shapes.Word i ≡ Done f k = rw is at e in
      inv (name i) (primaries.named_first d N) f k r (λ n l g q.
      let end = name-skip n i l g in
      named_ends n f l k (subst (λ x. EndsName (skip_dims_there x)) (sym end) h) q ∙ ap skip_dims_there end)

  primitive_none : (o : Option Primitive) (m : Mark) (f : First) (i k : Input) → primitive_of m ≡ o → sign i ≡ Some (mark m)
      → seen_by marks.Dot (skip_dims_there (next i)) ≡ false → primaries.primitive_first d N o i ≡ Done f k → ⊥
  unfolding type_use element
  primitive_none None m f i k is at h e = fails f k e
  primitive_none (Some p) m f i k is at h e =
      let r : and_then (and_then (dims (next i)) (λ n. pure (record { element = elements.Primitive p; dims = n }))) primaries.class_literal ≡ Done f k = rw (at, is) at e in
      outcome (dims (next i))
      (λ n l g. no_class_literal (record { element = elements.Primitive p; dims = n }) f l k (ap (seen_by marks.Dot) (dims-skip n (next i) l g) ∙ h) (rw g at r))
      (λ g. fails f k (rw g at r))

  first_at_none : (m : Mark) (f : First) (i k : Input) → sign i ≡ Some (mark m) → is_some (primitive_of m) ≡ true
      → seen_by marks.Dot (skip_dims_there (next i)) ≡ false → primaries.first_at d N m i ≡ Done f k → ⊥
  first_at_none marks.LeftParen f i k at is h e = true_is_not_false (sym is)
  first_at_none marks.New f i k at is h e = true_is_not_false (sym is)
  first_at_none marks.Void f i k at is h e = true_is_not_false (sym is)
  first_at_none m f i k at is h e = primitive_none (primitive_of m) m f i k refl at h e

  -- a primitive type before anything but a dot begins nothing
  pub first_primitive : (m : Mark) (f : First) (i k : Input) → shape i ≡ shapes.Mark m → is_some (primitive_of m) ≡ true
      → seen_by marks.Dot (skip_dims_there (next i)) ≡ false → primaries.first d N i ≡ Done f k → ⊥
  unfolding primaries.first
  first_primitive m f i k is p h e = first_at_none m f i k (shape_mark m (sign i) is) p h (rw is at e)

  pub first_this : (f : First) (i k : Input) → shape i ≡ shapes.This → primaries.first d N i ≡ Done f k → k ≡ next i
  unfolding primaries.first
  first_this f i k is e =
      let r : primaries.first_by d N shapes.This i ≡ Done f k = rw is at e in
      mapped (a_this i) (λ s. firsts.This s) f k r (λ s h same. sym (this-taken i k s h).1)

  pub first_super : (f : First) (i k : Input) → shape i ≡ shapes.Super → seen_by marks.Dot (next i) ≡ false → primaries.first d N i ≡ Done f k → ⊥
  unfolding primaries.first primaries.super_first expect
  first_super f i k is h e =
      let r : primaries.super_first d N None i ≡ Done f k = rw is at e in
      inv (a_super i) (λ s. expect marks.Dot >> ident >>= λ w. primaries.super_end d N None s w) f k r (λ s l g q.
      let behind = super-taken i l s g in
      let there : seen_by marks.Dot l ≡ false = ap (seen_by marks.Dot) (sym behind.1) ∙ h in
      fails f k (rw there at q))
