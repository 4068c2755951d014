-- With which token what is read begins, and where what looks like the type of a cast ends.
use Rattle.std.proofs.Common.{◌≡◌, ℕ, zero, suc, ◌+◌, Bool, true, false, ◌&&◌, ◌||◌, List, [], ◌∷◌, ◌++◌, Option, Some, None, refl, sym, ap, ◌∙◌, subst, inl, inr}
use Rattle.std.specs.Prelude.{is_some}
use Rattle.std.proofs.lemmas.Bool.{cases_Bool}
use Rattle.java_tree.specs.declared.mark.Mark.{Mark}
use Rattle.java_tree.specs.declared.mark.Mark.TheVariants as marks
use Rattle.java_tree.specs.declared.names.ElementType.TheVariants as elements
use Rattle.java_tree.specs.declared.names.Ident.{Ident}
use Rattle.java_tree.specs.declared.names.Primitive.{Primitive}
use Rattle.java_tree.specs.declared.names.TypeUse.{TypeUse}
use Rattle.java_tree.specs.declared.operators.PrefixOp.{PrefixOp}
use Rattle.java_tree.specs.declared.expr.Expr.{Expr}
use Rattle.java_tree.specs.declared.expr.Expr.TheVariants as exprs
use Rattle.java_tree.specs.declared.expr.First.{First}
use Rattle.java_tree.specs.declared.expr.First.TheVariants as firsts
use Rattle.java_tree.specs.declared.expr.Primary.{Primary}
use Rattle.java_model.specs.Grammar.Signs.{Sign, mark}
use Rattle.java_model.specs.Grammar.Forms.{begins_with_sign, is_sign}
use Rattle.java_model.specs.Grammar.Readings.{primitive_of, prefix_of}
use Rattle.java_model.proofs.Grammar.Layers.{expr_layers}
use Rattle.java_expr_reading.specs.Shapes.{same_mark, shape_by}
use Rattle.java_expr_reading.specs.Input.{Input, sign, shape, left, next, looking, Done, Parser, and_then, ◌>>=◌, pure, sees, expect, ident, many_turn, many_from, many}
use Rattle.java_expr_reading.specs.Reading.Names.{some, sees_member, dotted_ident, name, sees_dim, dims_from, dims, element, type_use}
use Rattle.java_expr_reading.specs.Reading.Operators.{assign_by, prefix_by, begins_operand, begins_operand_at}
use Rattle.java_expr_reading.specs.Reading.Primaries as primaries
use Rattle.java_expr_reading.specs.Reading.Primaries.{Nest}
use Rattle.java_expr_reading.specs.Reading.Expressions as reading
use Rattle.java_expr_reading.specs.Reading.Expressions.{skips_names, skip_names, skips_dims, skip_dims, closes_name, cast_by, sees_cast, chain_of}
use Rattle.java_expr_reading.specs.declared.shape.Shape.{Shape}
use Rattle.java_expr_reading.specs.declared.shape.Shape.TheVariants as shapes
use Rattle.java_expr_reading.proofs.Taken.{inv, done_input}
use Rattle.java_expr_reading.proofs.Tokens.{fails, outcome, true_is_not_false, sees-is, sees-at, ident-taken}
use Rattle.java_expr_reading.proofs.NameLaws.{sees_dim-both, both_true, mapped, shape_mark}
use Rattle.java_expr_reading.proofs.Nests.{begins_expr}

-- ---- what looks like a type

names-skip : (n : ℕ) (found ws : List Ident) (i j : Input) → many_from dotted_ident n found i ≡ Done ws j → j ≡ skips_names n i
unfolding many_from dotted_ident skips_names
names-skip zero found ws i j e = fails ws j e
names-skip (suc n) found ws i j e =
    elim (cases_Bool (sees_member i)) [
      | inl is ↦
          let r : (and_then (and_then (ident (next i)) (λ w. pure (some w))) (many_turn found (many_from dotted_ident n))) ≡ Done ws j = rw is at e in
          outcome (ident (next i))
          (λ w k g. rw is (names-skip n (found ++ w ∷ []) ws (next (next i)) j (ap (many_from dotted_ident n (found ++ w ∷ [])) (ident-taken (next i) k w g).1 ∙ rw g at r)))
          (λ g. fails ws j (rw g at r))
      | inr isnt ↦ rw isnt (sym (done_input found ws i j (rw isnt at e)))
    ]

pub name-skip : (n : List Ident) (i j : Input) → name i ≡ Done n j → j ≡ skip_names (next i)
unfolding name many skip_names
name-skip n i j e =
    outcome (ident i)
    (λ w k g.
    let r : many_from dotted_ident (suc (left k)) (w ∷ []) k ≡ Done n j = rw g at e in
    names-skip (suc (left k)) (w ∷ []) n k j r ∙ ap (λ x. skips_names (suc (left x)) x) (sym (ident-taken i k w g).1))
    (λ g. fails n j (rw g at e))

dims_from-skip : (n found m : ℕ) (i j : Input) → dims_from n found i ≡ Done m j → j ≡ skips_dims n i
unfolding dims_from skips_dims
dims_from-skip zero found m i j e = fails m j e
dims_from-skip (suc n) found m i j e =
    elim (cases_Bool (sees_dim i)) [
      | inl is ↦ rw is (dims_from-skip n (found + 1) m (next (next i)) j (rw is at e))
      | inr isnt ↦ rw isnt (sym (done_input found m i j (rw isnt at e)))
    ]

pub dims-skip : (m : ℕ) (i j : Input) → dims i ≡ Done m j → j ≡ skip_dims i
unfolding dims skip_dims
dims-skip m i j e = dims_from-skip (suc (left i)) 0 m i j e

-- where no `[` `]` stands nothing is skipped
pub skip_dims-none : (i : Input) → sees_dim i ≡ false → skip_dims i ≡ i
unfolding skip_dims skips_dims
skip_dims-none i h = rw h refl

-- ---- looking ahead, only the tokens matter

skips_names-looking : (n : ℕ) (i : Input) → skips_names n (looking i) ≡ looking (skips_names n i)
unfolding skips_names looking sees_member sees sign next
skips_names-looking zero i = refl
skips_names-looking (suc n) i =
    elim (cases_Bool (sees_member i)) [
      | inl is ↦ rw is (skips_names-looking n (next (next i)))
      | inr isnt ↦ rw isnt refl
    ]

skips_dims-looking : (n : ℕ) (i : Input) → skips_dims n (looking i) ≡ looking (skips_dims n i)
unfolding skips_dims looking sees_dim sees sign next
skips_dims-looking zero i = refl
skips_dims-looking (suc n) i =
    elim (cases_Bool (sees_dim i)) [
      | inl is ↦ rw is (skips_dims-looking n (next (next i)))
      | inr isnt ↦ rw isnt refl
    ]

skip_names-looking : (i : Input) → skip_names (looking i) ≡ looking (skip_names i)
unfolding skip_names looking left
skip_names-looking i = skips_names-looking (suc (left i)) i

skip_dims-looking : (i : Input) → skip_dims (looking i) ≡ looking (skip_dims i)
unfolding skip_dims looking left
skip_dims-looking i = skips_dims-looking (suc (left i)) i

closes_name-looking : (i : Input) → closes_name (looking i) ≡ closes_name i
unfolding closes_name looking sees sign next
closes_name-looking i = refl

sees-looking : (m : Mark) (i : Input) → sees m (looking i) ≡ sees m i
unfolding looking sees sign
sees-looking m i = refl

cast_by-looking : (s : Shape) (i : Input) → cast_by s (looking i) ≡ cast_by s i
cast_by-looking shapes.Word i =
    ap (λ x. closes_name (skip_dims x)) (skip_names-looking i) ∙ ap closes_name (skip_dims-looking (skip_names i)) ∙ closes_name-looking (skip_dims (skip_names i))
cast_by-looking (shapes.Mark m) i = ap (λ x. is_some (primitive_of m) && sees marks.RightParen x) (skip_dims-looking i) ∙ ap (λ b. is_some (primitive_of m) && b) (sees-looking marks.RightParen (skip_dims i))
cast_by-looking _ i = refl

next-looking : (i : Input) → next (next (looking i)) ≡ looking (next (next i))
unfolding looking next
next-looking i = refl

-- a type in parentheses, in the tokens themselves
unfoldable pub looks_cast : Input → Bool
looks_cast i = sees marks.LeftParen i && cast_by (shape (next i)) (next (next i))

pub sees_cast-looks : (i : Input) → sees_cast i ≡ looks_cast i
unfolding sees_cast looks_cast
sees_cast-looks i = ap (λ b. sees marks.LeftParen i && b) (ap (cast_by (shape (next i))) (next-looking i) ∙ cast_by-looking (shape (next i)) (next (next i)))

-- ---- a mark that stands here is the only one

pub sees_both : {C : Type 0} (m n : Mark) (i : Input) → sees m i ≡ true → sees n i ≡ true → same_mark m n ≡ false → C
sees_both m n i h g e = true_is_not_false (sym g ∙ sees-at n m i (sees-is m i h) ∙ e)

pub no_dim-at : (m : Mark) (i : Input) → sees m i ≡ true → same_mark m marks.LeftBracket ≡ false → sees_dim i ≡ false
unfolding sees_dim
no_dim-at m i h e = rw (sees-at marks.LeftBracket m i (sees-is m i h), e) refl

-- ---- behind a parenthesis

-- What is known of a place at which `)` stands. A production that began with a given token ends only there.
pub record ClosesAt (G : Input → Type 0) : Type 0 where
  pub paren : (k : Input) → G k → sees marks.RightParen k ≡ true

abbrev pub EndsOnly : {A : Type 0} → Parser A → Input → (Input → Type 0) → Type 0
EndsOnly {A} p i G = (x : A) (k : Input) → p i ≡ Done x k → G k

module _ (d : ℕ) (N : Nest) where
  selectors-none : (k : Input) → sees marks.RightParen k ≡ true → primaries.selector d N k ≡ Done None k
  unfolding primaries.selector sees same_mark
  selectors-none k h = rw (sees-is marks.RightParen k h) refl

  many-none : {A : Type 0} (item : Parser (Option A)) (k : Input) → item k ≡ Done None k → many item [] k ≡ Done [] k
  unfolding many many_from
  many-none item k h = rw h refl

  primary-only : (G : Input → Type 0) (i : Input) → ClosesAt G → EndsOnly (primaries.first d N) i G → EndsOnly (primaries.primary d N) i G
  unfolding primaries.primary primaries.selectors_of
  primary-only G i closes head p k e =
      inv (primaries.first d N i) (λ f. primaries.selectors_of d N f >>= λ ss. pure (record { first = f; selectors = ss })) p k e (λ f l g r.
      mapped (primaries.selectors_of d N f l) (λ ss. record { first = f; selectors = ss }) p k r (λ ss h same.
      let here = head f l g in
      let closed = closes.paren l here in
      elim (cases_Bool (primaries.is_new_array f && sees marks.LeftBracket l)) [
        | inl is ↦ fails ss k (rw is at h)
        | inr isnt ↦
            let s : many (primaries.selector d N) [] l ≡ Done ss k = rw isnt at h in
            subst G (done_input [] ss l k (sym (many-none (primaries.selector d N) l (selectors-none l closed)) ∙ s)) here
      ]))

  postfix_ops-none : (k : Input) → sees marks.RightParen k ≡ true → reading.postfix_op d N k ≡ Done None k
  unfolding reading.postfix_op
  postfix_ops-none k h = rw (sees-is marks.RightParen k h) refl

  postfix-only : (G : Input → Type 0) (i : Input) → ClosesAt G → EndsOnly (primaries.first d N) i G → EndsOnly (reading.postfix d N) i G
  unfolding reading.postfix
  postfix-only G i closes head x k e =
      inv (primaries.primary d N i) (λ p. many (reading.postfix_op d N) [] >>= λ ops. pure (exprs.Postfix p ops)) x k e (λ p l g r.
      mapped (many (reading.postfix_op d N) [] l) (λ ops. exprs.Postfix p ops) x k r (λ ops h same.
      let here = primary-only G i closes head p l g in
      subst G (done_input [] ops l k (sym (many-none (reading.postfix_op d N) l (postfix_ops-none l (closes.paren l here))) ∙ h)) here))

  unary-only : (G : Input → Type 0) (i : Input) → ClosesAt G → reading.begins_prefix d N i ≡ false → EndsOnly (primaries.first d N) i G → EndsOnly (reading.unary d N) i G
  unfolding reading.unary
  unary-only G i closes plain head x k e = postfix-only G i closes head x k (rw plain at e)

  operations-none : (n : ℕ) (read : Parser Expr) (k : Input) → sees marks.RightParen k ≡ true → reading.operation d N n read k ≡ Done None k
  unfolding reading.operation
  operations-none n read k h = rw (sees-is marks.RightParen k h) refl

  binary-only : (n : ℕ) (G : Input → Type 0) (i : Input) → ClosesAt G → reading.begins_prefix d N i ≡ false → EndsOnly (primaries.first d N) i G → EndsOnly (reading.binary d N n) i G
  unfolding reading.binary
  binary-only zero G i closes plain head x k e = unary-only G i closes plain head x k e
  binary-only (suc n) G i closes plain head x k e =
      inv (reading.binary d N n i) (λ y. many (reading.operation d N (suc n) (reading.binary d N n)) [] >>= λ os. pure (chain_of y os)) x k e (λ y l g r.
      mapped (many (reading.operation d N (suc n) (reading.binary d N n)) [] l) (λ os. chain_of y os) x k r (λ os h same.
      let here = binary-only n G i closes plain head y l g in
      subst G (done_input [] os l k (sym (many-none (reading.operation d N (suc n) (reading.binary d N n)) l (operations-none (suc n) (reading.binary d N n) l (closes.paren l here))) ∙ h)) here))

  paren_is_no_question : (k : Input) → sees marks.RightParen k ≡ true → sees marks.Question k ≡ false
  unfolding same_mark
  paren_is_no_question k h = sees-at marks.Question marks.RightParen k (sees-is marks.RightParen k h)

  conditional-only : (G : Input → Type 0) (i : Input) → ClosesAt G → reading.begins_prefix d N i ≡ false → EndsOnly (primaries.first d N) i G → EndsOnly (reading.conditional d N) i G
  unfolding reading.conditional
  conditional-only G i closes plain head x k e =
      inv (reading.binary d N 10 i) (reading.conditional_end d N) x k e (λ c l g r.
      let here = binary-only 10 G i closes plain head c l g in
      subst G (done_input c x l k (rw (paren_is_no_question l (closes.paren l here)) at r)) here)

  assign_by-none : (k : Input) → sees marks.RightParen k ≡ true → assign_by (shape k) ≡ None
  assign_by-none k h = rw (sees-is marks.RightParen k h) refl

  pub expr-only : (G : Input → Type 0) (i : Input) → ClosesAt G → reading.begins_prefix d N i ≡ false → EndsOnly (primaries.first d N) i G → EndsOnly (reading.expr_over d N) i G
  unfolding reading.expr_over
  expr-only G i closes plain head x k e =
      inv (reading.conditional d N i) (reading.assignment_end d N) x k e (λ y l g r.
      let here = conditional-only G i closes plain head y l g in
      subst G (done_input y x l k (rw (assign_by-none l (closes.paren l here)) at r)) here)

  -- ---- a name or a primitive type before `)`

  class_literal-closed : {C : Type 0} (t : TypeUse) (f : First) (m k : Input) → sees marks.RightParen m ≡ true → primaries.class_literal t m ≡ Done f k → C
  unfolding expect same_mark
  class_literal-closed t f m k h e =
      fails f k (rw (sees-at marks.Dot marks.RightParen m (sees-is marks.RightParen m h)) at e)

  word_is : (i : Input) (o : Option Sign) → sign i ≡ o → shape i ≡ shapes.Word → shape_by o ≡ shapes.Word
  word_is i o e h = ap shape_by (sym e) ∙ h

  named_first-only : (n : List Ident) (f : First) (l k : Input) → sees marks.RightParen (skip_dims l) ≡ true → primaries.named_first d N n l ≡ Done f k → k ≡ skip_dims l
  unfolding primaries.named_first same_mark
  named_first-only n f l k h e =
      elim (cases_Bool (sees_dim l)) [
        | inl dim ↦
            let bracket = sees_dim-both l dim in
            let no_paren : sees marks.LeftParen l ≡ false = sees-at marks.LeftParen marks.LeftBracket l (sees-is marks.LeftBracket l bracket.0) in
            let no_dot : sees marks.Dot l ≡ false = sees-at marks.Dot marks.LeftBracket l (sees-is marks.LeftBracket l bracket.0) in
            let r : primaries.array_class d N n l ≡ Done f k = rw (no_paren, no_dot, dim) at e in
            inv (dims l) (λ m. primaries.class_literal (record { element = elements.Named n; dims = m })) f k r (λ m o g q.
            class_literal-closed (record { element = elements.Named n; dims = m }) f o k (ap (sees marks.RightParen) (dims-skip m l o g) ∙ h) q)
        | inr none ↦
            let stays = skip_dims-none l none in
            let closed : sees marks.RightParen l ≡ true = ap (sees marks.RightParen) (sym stays) ∙ h in
            let at = sees-is marks.RightParen l closed in
            let no_paren : sees marks.LeftParen l ≡ false = sees-at marks.LeftParen marks.RightParen l at in
            let no_dot : sees marks.Dot l ≡ false = sees-at marks.Dot marks.RightParen l at in
            sym (done_input (firsts.Name n) f l k (rw (no_paren, no_dot, none) at e)) ∙ sym stays
      ]

  pub first-named : (f : First) (i k : Input) → shape i ≡ shapes.Word → sees marks.RightParen (skip_dims (skip_names (next i))) ≡ true
      → primaries.first d N i ≡ Done f k → k ≡ skip_dims (skip_names (next i))
  unfolding primaries.first
  first-named f i k is h e =
      let r : primaries.first_by d N shapes.Word i ≡ Done f k = rw is at e in
      inv (name i) (primaries.named_first d N) f k r (λ n l g q.
      let end = name-skip n i l g in
      named_first-only n f l k (ap (λ x. sees marks.RightParen (skip_dims x)) end ∙ h) q ∙ ap skip_dims end)

  primitive_first-closed : (o : Option Primitive) (m : Mark) (f : First) (i k : Input) → primitive_of m ≡ o → sign i ≡ Some (mark m)
      → sees marks.RightParen (skip_dims (next i)) ≡ true → primaries.primitive_first d N o i ≡ Done f k → ⊥
  unfolding type_use element
  primitive_first-closed None m f i k is at h e = fails f k e
  primitive_first-closed (Some p) m f i k is at h e =
      let r : and_then (and_then (dims (next i)) (λ n. pure (record { element = elements.Primitive p; dims = n }))) primaries.class_literal ≡ Done f k = rw (at, is) at e in
      outcome (dims (next i))
      (λ n l g. class_literal-closed (record { element = elements.Primitive p; dims = n }) f l k (ap (sees marks.RightParen) (dims-skip n (next i) l g) ∙ h) (rw g at r))
      (λ g. fails f k (rw g at r))

  first_at-closed : (m : Mark) (f : First) (i k : Input) → sign i ≡ Some (mark m) → is_some (primitive_of m) ≡ true
      → sees marks.RightParen (skip_dims (next i)) ≡ true → primaries.first_at d N m i ≡ Done f k → ⊥
  first_at-closed marks.LeftParen f i k at is h e = true_is_not_false (sym is)
  first_at-closed marks.New f i k at is h e = true_is_not_false (sym is)
  first_at-closed marks.Void f i k at is h e = true_is_not_false (sym is)
  first_at-closed m f i k at is h e = primitive_first-closed (primitive_of m) m f i k refl at h e

  pub first-primitive : (m : Mark) (f : First) (i k : Input) → shape i ≡ shapes.Mark m → is_some (primitive_of m) ≡ true
      → sees marks.RightParen (skip_dims (next i)) ≡ true → primaries.first d N i ≡ Done f k → ⊥
  unfolding primaries.first
  first-primitive m f i k is p h e = first_at-closed m f i k (shape_mark m (sign i) is) p h (rw is at e)

  -- ---- with which token it begins

  primitive_first-begins : (o : Option Primitive) (f : First) (i j : Input) → primaries.primitive_first d N o i ≡ Done f j → is_some o ≡ true
  primitive_first-begins None f i j e = fails f j e
  primitive_first-begins (Some p) f i j e = refl

  first_at-begins : (m : Mark) (f : First) (i j : Input) → primaries.first_at d N m i ≡ Done f j → begins_operand_at m ≡ true
  first_at-begins marks.LeftParen f i j e = refl
  first_at-begins marks.New f i j e = refl
  first_at-begins marks.Void f i j e = refl
  first_at-begins marks.Bang f i j e = refl
  first_at-begins marks.Tilde f i j e = refl
  first_at-begins m f i j e = primitive_first-begins (primitive_of m) f i j e

  first_by-begins : (s : Shape) (f : First) (i j : Input) → primaries.first_by d N s i ≡ Done f j → begins_operand s ≡ true
  first_by-begins shapes.Literal f i j e = refl
  first_by-begins shapes.This f i j e = refl
  first_by-begins shapes.Super f i j e = refl
  first_by-begins shapes.Word f i j e = refl
  first_by-begins (shapes.Mark m) f i j e = first_at-begins m f i j e
  first_by-begins _ f i j e = fails f j e

  first_at-plain : (m : Mark) (f : First) (i j : Input) → primaries.first_at d N m i ≡ Done f j → prefix_of m ≡ None
  first_at-plain marks.Increment f i j e = fails f j e
  first_at-plain marks.Decrement f i j e = fails f j e
  first_at-plain marks.Plus f i j e = fails f j e
  first_at-plain marks.Minus f i j e = fails f j e
  first_at-plain marks.Tilde f i j e = fails f j e
  first_at-plain marks.Bang f i j e = fails f j e
  first_at-plain m f i j e = refl

  first_by-plain : (s : Shape) (f : First) (i j : Input) → primaries.first_by d N s i ≡ Done f j → prefix_by s ≡ None
  first_by-plain (shapes.Mark m) f i j e = first_at-plain m f i j e
  first_by-plain _ f i j e = refl

  pub record BeginsPlain (i : Input) : Type 0 where
    pub operand : begins_operand (shape i) ≡ true
    pub no_prefix : prefix_by (shape i) ≡ None

  pub primary-begins : (p : Primary) (i j : Input) → primaries.primary d N i ≡ Done p j → BeginsPlain i
  unfolding primaries.primary primaries.first
  primary-begins p i j e =
      inv (primaries.first d N i) (λ f. primaries.selectors_of d N f >>= λ ss. pure (record { first = f; selectors = ss })) p j e (λ f k g r.
      record { operand = first_by-begins (shape i) f i k g; no_prefix = first_by-plain (shape i) f i k g })

  pub postfix-begins : (x : Expr) (i j : Input) → reading.postfix d N i ≡ Done x j → BeginsPlain i
  unfolding reading.postfix
  postfix-begins x i j e =
      inv (primaries.primary d N i) (λ p. many (reading.postfix_op d N) [] >>= λ ops. pure (exprs.Postfix p ops)) x j e (λ p k g r. primary-begins p i k g)

  either_true : (a b : Bool) → (b ≡ true → a ≡ true) → (a || b) ≡ true → a ≡ true
  either_true true b f h = refl
  either_true false true f h = f refl
  either_true false false f h = absurd cc

  or_true : (a b : Bool) → b ≡ true → (a || b) ≡ true
  or_true true b h = refl
  or_true false b h = h

  pub cast_begins : (i : Input) → sees_cast i ≡ true → begins_operand (shape i) ≡ true
  unfolding sees_cast
  cast_begins i h =
      let both = both_true (sees marks.LeftParen i) (cast_by (shape (next i)) (next (next (looking i)))) h in
      rw (sees-is marks.LeftParen i both.0) refl

  prefix_or_operand : (p c o : Bool) → (c ≡ true → o ≡ true) → (p || c) ≡ true → (p || o) ≡ true
  prefix_or_operand true c o f h = refl
  prefix_or_operand false c o f h = f h

  unary-begins : (x : Expr) (i j : Input) → reading.unary d N i ≡ Done x j → begins_expr (shape i) ≡ true
  unfolding reading.unary reading.begins_prefix
  unary-begins x i j e =
      elim (cases_Bool (reading.begins_prefix d N i)) [
        | inl is ↦ prefix_or_operand (is_some (prefix_by (shape i))) (sees_cast i) (begins_operand (shape i)) (cast_begins i) is
        | inr isnt ↦ let h = postfix-begins x i j (rw isnt at e) in or_true (is_some (prefix_by (shape i))) (begins_operand (shape i)) h.operand
      ]

  binary-begins : (n : ℕ) (x : Expr) (i j : Input) → reading.binary d N n i ≡ Done x j → begins_expr (shape i) ≡ true
  unfolding reading.binary
  binary-begins zero x i j e = unary-begins x i j e
  binary-begins (suc n) x i j e =
      inv (reading.binary d N n i) (λ y. many (reading.operation d N (suc n) (reading.binary d N n)) [] >>= λ os. pure (chain_of y os)) x j e (λ y k g r. binary-begins n y i k g)

  pub expr-begins : (x : Expr) (i j : Input) → reading.expr_over d N i ≡ Done x j → begins_expr (shape i) ≡ true
  unfolding reading.expr_over reading.conditional
  expr-begins x i j e =
      inv (reading.conditional d N i) (reading.assignment_end d N) x j e (λ y k g r.
      inv (reading.binary d N 10 i) (reading.conditional_end d N) y k g (λ c l h q. binary-begins 10 c i l h))

  -- an operator before an operand is kept
  pub prefix-signs : (x : Expr) (op : PrefixOp) (i j : Input) → reading.prefix_over d N i ≡ Done x j → prefix_by (shape i) ≡ Some op → is_sign op ≡ true → begins_with_sign x ≡ true
  unfolding reading.prefix_over
  prefix-signs x op i j e is s =
      let r : reading.prefix_at d N (Some op) i ≡ Done x j = rw is at e in
      mapped (reading.unary d N (next i)) (λ y. exprs.Prefix op y) x j r (λ y g same. rw same (simp expr_layers s))
