-- An expression is told from a declaration, an explicit constructor invocation and a label.
use Rattle.std.proofs.Common.{◌≡◌, ℕ, zero, suc, Bool, true, false, ◌&&◌, ◌||◌, cond, List, [], ◌∷◌, Some, None, refl, sym, ap, ◌∙◌, subst}
use Rattle.std.specs.Prelude.{is_some}
use Rattle.java_tree.specs.declared.mark.Mark.{Mark}
use Rattle.java_tree.specs.declared.mark.Mark.TheVariants as marks
use Rattle.java_tree.specs.declared.expr.Expr.{Expr}
use Rattle.java_tree.specs.declared.expr.First.{First}
use Rattle.java_tree.specs.declared.expr.Primary.{Primary}
use Rattle.java_model.specs.Grammar.Signs.{Sign, mark, left_brace, this, super, word, literal, stray}
use Rattle.java_model.specs.Grammar.Readings.{primitive_of, prefix_of}
use Rattle.java_expr_reading.specs.Shapes.{same_mark, is_mark, is_word as is_word_shape, is_super, shape_by}
use Rattle.java_expr_reading.specs.Input.{Input, first_of, sign, shape, next, Done}
use Rattle.java_expr_reading.specs.Input.{sees as seen_by}
use Rattle.java_expr_reading.specs.Reading.Operators.{ends_by, prefix_by, begins_operand_at}
use Rattle.java_expr_reading.specs.Reading.Primaries as primaries
use Rattle.java_expr_reading.specs.Reading.Primaries.{Nest}
use Rattle.java_expr_reading.specs.Reading.Expressions as reading
use Rattle.java_expr_reading.specs.Reading.Expressions.{skip_names, skip_dims as skip_dims_there, sees_cast, read_nest, read_expr, read_primary, sees_super_call}
use Rattle.java_expr_reading.specs.declared.shape.Shape.{Shape}
use Rattle.java_expr_reading.specs.declared.shape.Shape.TheVariants as shapes
use Rattle.java_expr_reading.proofs.Tokens.{fails, true_is_not_false, sees-is, sees-at}
use Rattle.java_expr_reading.proofs.NameLaws.{both_true}
use Rattle.java_expr_reading.proofs.Nests.{begins_expr as begins_expr_there}
use Rattle.java_expr_reading.proofs.OperatorLaws.{primitive_is_plain}
use Rattle.java_expr_reading.proofs.Beginnings.{looks_cast, sees_cast-looks, expr-begins, primary-begins}
use Rattle.java_unit_reading.proofs.Expressions.Holding.{begins_expr_with, begins_expr, OpensExpr}
use Rattle.java_unit_reading.specs.Reading.Steps.{sees, tail}
use Rattle.java_unit_reading.specs.Reading.Words.{is_word, skip_dotted, skip_dims, declares}
use Rattle.java_unit_reading.specs.Reading.Statements.{begins_label}
use Rattle.java_unit_reading.specs.Reading.Members.{other, with_this, with_super, opening}
use Rattle.java_unit_reading.specs.Reading.Expressions.{input}
use Rattle.java_unit_reading.proofs.Sounding.{sees_is}
use Rattle.java_unit_reading.proofs.Expressions.Stops.{Quiet, operand_quiet, colon_quiet, quiet_stops, primary_stops, expr_stops}
use Rattle.java_unit_reading.proofs.Expressions.Firsts.{sees_there, word_there, next_there, dotted_stays, dims_stay, skip_names_there, skip_dims_is, EndsName, first_word, first_primitive, first_this, first_super}

-- ---- what it begins with

begins_at : (m : Mark) → (is_some (prefix_of m) || begins_operand_at m) ≡ true → begins_expr_with m ≡ true
begins_at marks.LeftParen h = refl
begins_at marks.New h = refl
begins_at marks.Void h = refl
begins_at marks.Increment h = refl
begins_at marks.Decrement h = refl
begins_at marks.Plus h = refl
begins_at marks.Minus h = refl
begins_at marks.Tilde h = refl
begins_at marks.Bang h = refl
begins_at marks.Boolean h = refl
begins_at marks.Byte h = refl
begins_at marks.Short h = refl
begins_at marks.Char h = refl
begins_at marks.Int h = refl
begins_at marks.Long h = refl
begins_at marks.Float h = refl
begins_at marks.Double h = refl
begins_at m h = absurd cc

begins_in : (ts : List Sign) → begins_expr_there (shape_by (first_of ts)) ≡ true → begins_expr ts ≡ true
begins_in [] h = absurd cc
begins_in (mark m ∷ ts) h = begins_at m h
begins_in (left_brace at ∷ ts) h = absurd cc
begins_in (this s ∷ ts) h = refl
begins_in (super s ∷ ts) h = refl
begins_in (word i ∷ ts) h = refl
begins_in (literal l ∷ ts) h = refl
begins_in (stray ∷ ts) h = absurd cc

-- ---- no operator and no cast

abbrev IsPlain : Input → Type 0
IsPlain i = (is_some (prefix_by (shape i)) || sees_cast i) ≡ false

plain_shape : (s : Shape) (i : Input) → shape i ≡ s → prefix_by s ≡ None → is_mark marks.LeftParen s ≡ false → IsPlain i
unfolding looks_cast seen_by
plain_shape s i h p q = rw (h, p, sees_cast-looks i, h, q) refl

plain_primitive : (m : Mark) (i : Input) → shape i ≡ shapes.Mark m → is_some (primitive_of m) ≡ true → IsPlain i
unfolding looks_cast seen_by
plain_primitive m i h p = let plain = primitive_is_plain m p in rw (h, plain.no_prefix, sees_cast-looks i, h, plain.no_paren) refl

no_prefix : (d : ℕ) (N : Nest) (i : Input) → IsPlain i → reading.begins_prefix d N i ≡ false
unfolding reading.begins_prefix
no_prefix d N i h = h

-- ---- what is read doesn't end there

-- What refutes a tree that was read from a place: that its first part ends where nothing goes on and no
-- tree ends, or that there is no first part.
record Refuted (i : Input) : Type 0 where
  left : ℕ
  nest : Nest
  at : (m : Input) → Quiet (shape m) → ends_by (shape m) ≡ false → IsPlain i
      → ((f : First) (k : Input) → primaries.first left nest i ≡ Done f k → k ≡ m) → ⊥
  none : IsPlain i → ((f : First) (k : Input) → primaries.first left nest i ≡ Done f k → ⊥) → ⊥

same_quiet : (m k : Input) → Quiet (shape m) → k ≡ m → Quiet (shape k)
same_quiet m k q e = subst (λ z. Quiet (shape z)) (sym e) q

pub over : {C : Type 0} (d : ℕ) (x : Expr) (i j : Input) → read_expr d i ≡ Done x j
    → ((b : ℕ) → reading.expr_over b (read_nest b) i ≡ Done x j → C) → C
unfolding read_expr read_nest
over zero x i j e k = fails x j e
over (suc b) x i j e k = k b e

expr_refuted : (d : ℕ) (x : Expr) (i j : Input) → read_expr d i ≡ Done x j → ends_by (shape j) ≡ true → Refuted i
expr_refuted d x i j e ends = over d x i j e (λ b r. record {
  left = b;
  nest = read_nest b;
  at = λ m q no_end plain head.
      let is : j ≡ m = expr_stops b (read_nest b) (λ k. k ≡ m) i (λ k g. quiet_stops b (read_nest b) k (same_quiet m k q g)) (no_prefix b (read_nest b) i plain)
      (primary_stops b (read_nest b) (λ k. k ≡ m) i (λ k g. quiet_stops b (read_nest b) k (same_quiet m k q g)) head) x j r in
      true_is_not_false (sym ends ∙ ap (λ z. ends_by (shape z)) is ∙ no_end);
  none = λ plain head.
      expr_stops b (read_nest b) (λ k. ⊥) i (λ k g. absurd g) (no_prefix b (read_nest b) i plain) (primary_stops b (read_nest b) (λ k. ⊥) i (λ k g. absurd g) head) x j r;
})

pub super_dot : (j : Input) → sees_super_call j ≡ true → seen_by marks.Dot j ≡ true
unfolding sees_super_call
super_dot j h =
    let both = both_true (seen_by marks.Dot j && is_super (shape (next j))) (seen_by marks.LeftParen (next (next j))) h in
    let front = both_true (seen_by marks.Dot j) (is_super (shape (next j))) both.0 in
    front.0

pub primary_ends_not : (d : ℕ) (p : Primary) (i j m : Input) → read_primary d i ≡ Done p j → sees_super_call j ≡ true → Quiet (shape m)
    → ((f : First) (k : Input) → primaries.first d (read_nest d) i ≡ Done f k → k ≡ m) → ⊥
unfolding read_primary seen_by
primary_ends_not d p i j m e call q head =
    let is : j ≡ m = primary_stops d (read_nest d) (λ k. k ≡ m) i (λ k g. quiet_stops d (read_nest d) k (same_quiet m k q g)) head p j e in
    true_is_not_false (sym (super_dot j call) ∙ ap (λ z. is_mark marks.Dot (shape z)) is ∙ q.dot)

primary_refuted : (d : ℕ) (p : Primary) (i j : Input) → read_primary d i ≡ Done p j → sees_super_call j ≡ true → Refuted i
unfolding read_primary
primary_refuted d p i j e call = record {
  left = d;
  nest = read_nest d;
  at = λ m q no_end plain head. primary_ends_not d p i j m e call q head;
  none = λ plain head. primary_stops d (read_nest d) (λ k. ⊥) i (λ k g. absurd g) head p j e;
}

-- ---- what begins in another way

record NoOther (i : Input) : Type 0 where
  named : shape i ≡ shapes.Word → is_word (skip_dims (skip_dotted (tail i.rest))) ≡ true → ⊥
  primitive : (m : Mark) → shape i ≡ shapes.Mark m → is_some (primitive_of m) ≡ true → is_word (skip_dims (tail i.rest)) ≡ true → ⊥
  called : shape i ≡ shapes.This → sees marks.LeftParen (tail i.rest) ≡ true → ⊥
  called_above : shape i ≡ shapes.Super → sees marks.LeftParen (tail i.rest) ≡ true → ⊥

word_shape : (s : Shape) → is_word_shape s ≡ true → s ≡ shapes.Word
word_shape shapes.Word h = refl
word_shape _ h = absurd cc

ends_name : (m : Input) (s : Shape) → shape m ≡ s → Quiet s → is_mark marks.LeftParen s ≡ false → EndsName m
unfolding seen_by
ends_name m s h q p = record { bracket = rw h (let o = q.operators in o.bracket); dot = rw h q.dot; paren = rw h p }

-- behind the names and the dims
past : Input → Input
past i = skip_dims_there (skip_names (next i))

past_rest : (i : Input) → (past i).rest ≡ skip_dims (skip_dotted (tail i.rest))
unfolding past
past_rest i = skip_dims_is (skip_names (next i)) ∙ ap skip_dims (skip_names_there (next i) ∙ ap skip_dotted (next_there i))

past_word : (f : First) (d : ℕ) (N : Nest) (i k : Input) → shape i ≡ shapes.Word → EndsName (past i) → primaries.first d N i ≡ Done f k → k ≡ past i
unfolding past
past_word f d N i k is ends e = first_word d N f i k is ends e

paren_at : (i : Input) → sees marks.LeftParen (tail i.rest) ≡ true → sign (next i) ≡ Some (mark marks.LeftParen)
paren_at i h = sees-is marks.LeftParen (next i) (sees_there marks.LeftParen (next i) ∙ ap (sees marks.LeftParen) (next_there i) ∙ h)

no_dot_at : (i : Input) → sign i ≡ Some (mark marks.LeftParen) → seen_by marks.Dot i ≡ false
unfolding same_mark
no_dot_at i h = sees-at marks.Dot marks.LeftParen i h

word_no_dot : (m : Input) → shape m ≡ shapes.Word → seen_by marks.Dot m ≡ false
unfolding seen_by
word_no_dot m h = rw h refl

no_other : (i : Input) → Refuted i → NoOther i
no_other i r = record {
  named = λ h w.
      let is : shape (past i) ≡ shapes.Word = word_shape (shape (past i)) (word_there (past i) ∙ ap is_word (past_rest i) ∙ w) in
      let quiet = operand_quiet shapes.Word refl in
      r.at (past i) (subst Quiet (sym is) quiet) (ap ends_by is) (plain_shape shapes.Word i h refl refl)
      (λ f k g. past_word f r.left r.nest i k h (ends_name (past i) shapes.Word is quiet refl) g);
  primitive = λ m h p w.
      let m2 = skip_dims_there (next i) in
      let is : shape m2 ≡ shapes.Word = word_shape (shape m2) (word_there m2 ∙ ap is_word (skip_dims_is (next i) ∙ ap skip_dims (next_there i)) ∙ w) in
      r.none (plain_primitive m i h p) (λ f k g. first_primitive r.left r.nest m f i k h p (word_no_dot m2 is) g);
  called = λ h w.
      let at = paren_at i w in
      let is : shape (next i) ≡ shapes.Mark marks.LeftParen = ap shape_by at in
      r.at (next i) (subst Quiet (sym is) (operand_quiet (shapes.Mark marks.LeftParen) refl)) (ap ends_by is) (plain_shape shapes.This i h refl refl)
      (λ f k g. first_this r.left r.nest f i k h g);
  called_above = λ h w.
      r.none (plain_shape shapes.Super i h refl refl) (λ f k g. first_super r.left r.nest f i k h (no_dot_at (next i) (paren_at i w)) g);
}

not_true : (b : Bool) → (b ≡ true → ⊥) → b ≡ false
not_true true h = absurd (h refl)
not_true false h = refl

no_declaration : (ts : List Sign) → NoOther (input ts) → declares ts ≡ false
unfolding declares sign
no_declaration [] o = refl
no_declaration (mark m ∷ ts) o = by_primitive (is_some (primitive_of m)) refl
  where
    by_primitive : (b : Bool) → is_some (primitive_of m) ≡ b → cond b (is_word (skip_dims ts)) false ≡ false
    by_primitive true e = not_true (is_word (skip_dims ts)) (o.primitive m refl e)
    by_primitive false e = refl
no_declaration (left_brace at ∷ ts) o = refl
no_declaration (this s ∷ ts) o = refl
no_declaration (super s ∷ ts) o = refl
no_declaration (word i ∷ ts) o = not_true (is_word (skip_dims (skip_dotted ts))) (o.named refl)
no_declaration (literal l ∷ ts) o = refl
no_declaration (stray ∷ ts) o = refl

no_invocation : (ts : List Sign) → NoOther (input ts) → opening ts ≡ other
unfolding sign
no_invocation [] o = refl
no_invocation (mark m ∷ ts) o = refl
no_invocation (left_brace at ∷ ts) o = refl
no_invocation (this s ∷ ts) o = ap (λ b. cond b (with_this s) other) (not_true (sees marks.LeftParen ts) (o.called refl))
no_invocation (super s ∷ ts) o = ap (λ b. cond b (with_super s) other) (not_true (sees marks.LeftParen ts) (o.called_above refl))
no_invocation (word i ∷ ts) o = refl
no_invocation (literal l ∷ ts) o = refl
no_invocation (stray ∷ ts) o = refl

opens : (ts : List Sign) → begins_expr_there (shape (input ts)) ≡ true → Refuted (input ts) → OpensExpr ts
unfolding sign
opens ts h r =
    let o = no_other (input ts) r in
    record { begins = begins_in ts h; no_declaration = no_declaration ts o; no_invocation = no_invocation ts o }

pub expr_opens : (d : ℕ) (x : Expr) (ts : List Sign) (j : Input) → read_expr d (input ts) ≡ Done x j → ends_by (shape j) ≡ true → OpensExpr ts
expr_opens d x ts j e ends =
    opens ts (over d x (input ts) j e (λ b r. expr-begins b (read_nest b) x (input ts) j r)) (expr_refuted d x (input ts) j e ends)

or_right : (a b : Bool) → b ≡ true → (a || b) ≡ true
or_right true b h = refl
or_right false b h = h

pub primary_opens : (d : ℕ) (p : Primary) (ts : List Sign) (j : Input)
    → read_primary d (input ts) ≡ Done p j → sees_super_call j ≡ true → OpensExpr ts
unfolding read_primary
primary_opens d p ts j e call =
    let b = primary-begins d (read_nest d) p (input ts) j e in
    opens ts (or_right (is_some (prefix_by (shape (input ts)))) _ b.operand) (primary_refuted d p (input ts) j e call)

-- ---- no label

colon_stays : (ts : List Sign) → skip_dims (skip_dotted (mark marks.Colon ∷ ts)) ≡ mark marks.Colon ∷ ts
unfolding sees same_mark
colon_stays ts = ap skip_dims (dotted_stays (mark marks.Colon ∷ ts) refl) ∙ dims_stay (mark marks.Colon ∷ ts) refl

past_colon : (i : Input) → sees marks.Colon (tail i.rest) ≡ true → shape (past i) ≡ shapes.Mark marks.Colon
unfolding sign
past_colon i h =
    let is = sees_is marks.Colon (tail i.rest) h in
    ap (λ ts. shape_by (first_of ts)) (past_rest i ∙ ap (λ ts. skip_dims (skip_dotted ts)) is ∙ colon_stays (tail (tail i.rest)))

colon_no_paren : is_mark marks.LeftParen (shapes.Mark marks.Colon) ≡ false
unfolding same_mark
colon_no_paren = refl

no_label_at : (d : ℕ) (p : Primary) (i j : Input) → read_primary d i ≡ Done p j → sees_super_call j ≡ true
    → shape i ≡ shapes.Word → sees marks.Colon (tail i.rest) ≡ true → ⊥
no_label_at d p i j e call h c =
    let is = past_colon i c in
    primary_ends_not d p i j (past i) e call (subst Quiet (sym is) colon_quiet)
    (λ f k g. past_word f d (read_nest d) i k h (ends_name (past i) (shapes.Mark marks.Colon) is colon_quiet colon_no_paren) g)

pub primary_labels_nothing : (d : ℕ) (p : Primary) (ts : List Sign) (j : Input)
    → read_primary d (input ts) ≡ Done p j → sees_super_call j ≡ true → begins_label ts ≡ false
unfolding sign
primary_labels_nothing d p [] j e call = refl
primary_labels_nothing d p (mark m ∷ ts) j e call = refl
primary_labels_nothing d p (left_brace at ∷ ts) j e call = refl
primary_labels_nothing d p (this s ∷ ts) j e call = refl
primary_labels_nothing d p (super s ∷ ts) j e call = refl
primary_labels_nothing d p (word i ∷ ts) j e call = not_true (sees marks.Colon ts) (no_label_at d p (input (word i ∷ ts)) j e call refl)
primary_labels_nothing d p (literal l ∷ ts) j e call = refl
primary_labels_nothing d p (stray ∷ ts) j e call = refl
