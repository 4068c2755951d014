-- Each expression is read.
use Rattle.std.proofs.Common.{◌≡◌, ℕ, zero, suc, ◌<◌, true, false, ◌&&◌, ◌||◌, not, List, [], ◌∷◌, ◌++◌, Option, Some, None, map, refl, sym, ap, ◌∙◌, subst, inl, inr, arith}
use Rattle.std.specs.Prelude.{is_some}
use Rattle.std.specs.List.{AllByRecursion}
use Rattle.std.proofs.lemmas.Bool.{cases_Bool}
use Rattle.std.proofs.lemmas.List.{append-nil}
use Rattle.java_tree.specs.declared.mark.Mark.{Mark}
use Rattle.java_tree.specs.declared.mark.Mark.TheVariants as marks
use Rattle.java_tree.specs.declared.names.ElementType.TheVariants as elements
use Rattle.java_tree.specs.declared.names.Ident.{Ident}
use Rattle.java_tree.specs.declared.names.Primitive.{Primitive}
use Rattle.java_tree.specs.declared.names.TypeUse.{TypeUse}
use Rattle.java_tree.specs.declared.operators.AssignOp.{AssignOp}
use Rattle.java_tree.specs.declared.operators.PostfixOp.{PostfixOp}
use Rattle.java_tree.specs.declared.operators.PostfixOp.TheVariants as postfixes
use Rattle.java_tree.specs.declared.operators.PrefixOp.{PrefixOp}
use Rattle.java_tree.specs.declared.expr.Expr.{Expr}
use Rattle.java_tree.specs.declared.expr.Expr.TheVariants as exprs
use Rattle.java_tree.specs.declared.expr.First.{First}
use Rattle.java_tree.specs.declared.expr.First.TheVariants as firsts
use Rattle.java_tree.specs.declared.expr.Operation.{Operation}
use Rattle.java_tree.specs.declared.expr.Primary.{Primary}
use Rattle.java_model.specs.Grammar.Signs.{mark, assign_mark, binary_mark, prefix_mark, postfix_mark}
use Rattle.java_model.specs.Grammar.Pieces.{the, Around, deeper, each, yield_name, yield_dims, yield_type}
use Rattle.java_model.specs.Grammar.YieldExpr.{yield_postfixes, yield_expr, yield_operation, yield_first, yield_primary}
use Rattle.java_model.specs.Grammar.Forms.{IsNonEmpty, is_assignment, is_target, begins_with_sign, is_sign}
use Rattle.java_model.specs.Grammar.Readings.{primitive_of}
use Rattle.java_model.specs.Grammar.Expressions.{Nested, IsType, IsPrimary, postfix, IsUnary, a_prefix, a_postfix, IsPrefixOver, prefix, cast_primitive, cast_name, IsOperation, infix_of, instance_of, chain, operand, IsBinary, IsConditional, conditional, unconditional, IsExprOver, assign, no_assign, nested}
use Rattle.java_model.proofs.Grammar.Yield.{yield_expr-Assign, yield_expr-Conditional, yield_expr-Binary, yield_expr-Prefix, yield_expr-Cast, yield_expr-Postfix, yield_operation-Infix, yield_operation-InstanceOf, yield_primary-parts}
use Rattle.java_model.proofs.Grammar.Layers.{expr_layers}
use Rattle.java_model.proofs.Grammar.Ends.{goes_on-binary, goes_on-assign, goes_on-postfix}
use Rattle.java_model.proofs.Grammar.Readings.{assign_of-mark, prefix_of-mark, postfix_of-mark, primitive_of-mark}
use Rattle.java_model.proofs.Grammar.Shapes.{binary_of_unary}
use Rattle.java_expr_reading.specs.Shapes.{same_mark}
use Rattle.java_expr_reading.specs.Input.{Input, sign, shape, left, next, Done, Parser, ◌>>=◌, ◌>>◌, pure, sees, expect, many}
use Rattle.java_expr_reading.specs.Reading.Operators.{assign_by, prefix_by, postfix_by, operator_by, begins_operand}
use Rattle.java_expr_reading.specs.Reading.Primaries as primaries
use Rattle.java_expr_reading.specs.Reading.Primaries.{Nest, primary}
use Rattle.java_expr_reading.specs.Reading.Expressions as reading
use Rattle.java_expr_reading.specs.Reading.Expressions.{skip_names, skip_dims, closes_name, cast_by, sees_cast, is_named, chain_of, target_of, read_nest}
use Rattle.java_expr_reading.specs.declared.operators.Operator.{Operator}
use Rattle.java_expr_reading.specs.declared.operators.Operator.TheVariants as kinds
use Rattle.java_expr_reading.specs.declared.shape.Shape.{Shape}
use Rattle.java_expr_reading.specs.declared.shape.Shape.TheVariants as shapes
use Rattle.java_expr_reading.proofs.Taken.{Taken, taken_split, token_shorter, inv}
use Rattle.java_expr_reading.proofs.Many.{spread, many-complete}
use Rattle.java_expr_reading.proofs.Tokens.{fails, true_is_not_false, sees-is, expect-taken, expect-at}
use Rattle.java_expr_reading.proofs.NameLaws.{both_true, mapped, name-complete, dims-complete, EndsType, dims-no_member, type_use-complete}
use Rattle.java_expr_reading.proofs.Nests.{NestComplete, goes, Ends, ends_looser, ends-sees, ends-at, EndsPrimary, primary_ends, each-spread, selector_pieces, less-left}
use Rattle.java_expr_reading.proofs.OperatorLaws.{assign_by-is, prefix_by-is, postfix_by-is, operator_by-infix, operator_by-instanceof, operator_by-binary, operator_by-relational, no_sign_is_operand, binary_is_no_operand, assign_is_no_operand, postfix_is_no_operand, primitive_is_plain}
use Rattle.java_expr_reading.proofs.ExprSound.{op_pieces, postfixes-spread}
use Rattle.java_expr_reading.proofs.Beginnings.{name-skip, dims-skip, looks_cast, sees_cast-looks, expr-only, first-named, first-primitive, postfix-begins, cast_begins, expr-begins, prefix-signs}
use Rattle.java_expr_reading.proofs.PrimaryComplete.{not_seen, seen, no_dim, no_member, first_of_primary, primary-complete, selectors_are_no_operand, braces_over-complete}

-- ---- where nothing goes on

ends_postfix : (s : Shape) (o : Option PostfixOp) → postfix_by s ≡ o → 0 < goes s → o ≡ None
ends_postfix s None e h = refl
ends_postfix s (Some op) e h =
    let g : 0 < goes (shapes.Mark (postfix_mark op)) = subst (λ x. 0 < goes x) (postfix_by-is s op e) h in
    let zero_ = goes_on-postfix op in absurd (omega arith)

ends_assign : (s : Shape) (o : Option AssignOp) → assign_by s ≡ o → 12 < goes s → o ≡ None
ends_assign s None e h = refl
ends_assign s (Some op) e h =
    let g : 12 < goes (shapes.Mark (assign_mark op)) = subst (λ x. 12 < goes x) (assign_by-is s op e) h in
    let twelve = goes_on-assign op in absurd (omega arith)

ends_operator : (k : ℕ) (s : Shape) (kind : Operator) → operator_by k s ≡ kind → k < goes s → kind ≡ kinds.Other
ends_operator k s (kinds.Infix op) e h =
    let it = operator_by-infix k s op e in
    let g : k < goes (shapes.Mark (binary_mark op)) = subst (λ x. k < goes x) it.mark h in
    let same = goes_on-binary op in
    let at = it.level in absurd (omega arith)
ends_operator k s kinds.InstanceOf e h =
    let it = operator_by-instanceof k s e in
    let g : k < goes (shapes.Mark marks.InstanceOf) = subst (λ x. k < goes x) it.mark h in
    let at = it.level in absurd (omega arith)
ends_operator k s kinds.Other e h = refl

postfix_ends : (op : PostfixOp) (k : Input) → sign k ≡ Some (mark (postfix_mark op)) → EndsPrimary k
unfolding same_mark
postfix_ends postfixes.Increment k h = record {
  paren = not_seen marks.LeftParen marks.Increment k h refl;
  bracket = not_seen marks.LeftBracket marks.Increment k h refl;
  brace = rw h refl;
  dot = λ is. true_is_not_false (sym is ∙ not_seen marks.Dot marks.Increment k h refl);
}
postfix_ends postfixes.Decrement k h = record {
  paren = not_seen marks.LeftParen marks.Decrement k h refl;
  bracket = not_seen marks.LeftBracket marks.Decrement k h refl;
  brace = rw h refl;
  dot = λ is. true_is_not_false (sym is ∙ not_seen marks.Dot marks.Decrement k h refl);
}

all_units : {A : Type 0} (xs : List A) → AllByRecursion (λ x. Unit {0}) xs
all_units [] = tt
all_units (x ∷ xs) = (tt, all_units xs)

type_ends : (k : Input) → sign k ≡ Some (mark marks.RightParen) → EndsType k
unfolding same_mark
type_ends k h = record { member = no_member k (not_seen marks.Dot marks.RightParen k h refl); dim = no_dim k (not_seen marks.LeftBracket marks.RightParen k h refl) }

ends_type : (k : ℕ) (j : Input) → Ends k j → EndsType j
ends_type k j e = record { member = no_member j (ends-sees k marks.Dot j (omega arith) e); dim = no_dim j (ends-sees k marks.LeftBracket j (omega arith) e) }

abbrev pub HasHeads : Nested → Type 0
HasHeads M = (p : Primary) (ops : List PostfixOp) → IsUnary M (exprs.Postfix p ops) → IsPrimary M p

module _ (d : ℕ) (N : Nest) (M : Nested) (known : NestComplete d N M) where
  -- ---- postfix expressions

  postfix_op-at : (op : PostfixOp) (i j : Input) → Taken (op_pieces op) i j → reading.postfix_op d N i ≡ Done (Some op) j
  unfolding reading.postfix_op
  postfix_op-at op i j t = rw (t.0, postfix_of-mark op, t.1) refl

  postfix_op-stop : (j : Input) → Ends 0 j → reading.postfix_op d N j ≡ Done None j
  unfolding reading.postfix_op
  postfix_op-stop j e = rw (ends_postfix (shape j) (postfix_by (shape j)) refl e.goes_on) refl

  postfixes_follow : (ops : List PostfixOp) (i j : Input) → Taken (yield_postfixes ops) i j → Ends 0 j → EndsPrimary i
  postfixes_follow [] i j t e = subst EndsPrimary (sym t) (primary_ends j e)
  postfixes_follow (op ∷ ops) i j t e = postfix_ends op i t.0

  postfixes_are_no_operand : (ops : List PostfixOp) (i j : Input) → Taken (yield_postfixes ops) i j → Ends 0 j → begins_operand (shape i) ≡ false
  postfixes_are_no_operand [] i j t e = ap (λ x. begins_operand (shape x)) t ∙ e.operand
  postfixes_are_no_operand (op ∷ ops) i j t e = rw t.0 (postfix_is_no_operand op)

  postfix-complete : (p : Primary) (ops : List PostfixOp) (a : Around) (i j : Input) → a.left ≡ d → IsPrimary M p
      → Taken (yield_primary p a ++ yield_postfixes ops) i j → Ends 0 j → reading.postfix d N i ≡ Done (exprs.Postfix p ops) j
  unfolding reading.postfix
  postfix-complete p ops a i j l h t e =
      taken_split (yield_primary p a) (yield_postfixes ops) i j t (λ k first others.
      rw (
        primary-complete d N M known p a i k l h first (postfixes_follow ops k j others e),
        many-complete (reading.postfix_op d N) op_pieces (λ op. Unit {0}) (Ends 0) (λ x. Unit {0}) (λ op x y u g f. postfix_op-at op x y g) postfix_op-stop (λ x s. tt) (λ op x y u g. tt)
            (λ op x y u g. token_shorter (mark (postfix_mark op)) [] x y g) ops [] k j (all_units ops) (subst (λ ps. Taken ps k j) (postfixes-spread ops) others) e,
      ) refl)

  -- ---- a primary expression is no cast

  cast_by_shape : (s : Shape) (y : Expr) (i m : Input) → shape (next i) ≡ s → N.expr (next i) ≡ Done y m → begins_operand (shape (next m)) ≡ false
      → cast_by s (next (next i)) ≡ true → ⊥
  unfolding closes_name
  cast_by_shape shapes.Word y i m is g no_operand h =
      let both = both_true (sees marks.RightParen (skip_dims (skip_names (next (next i))))) (begins_operand (shape (next (skip_dims (skip_names (next (next i))))))) h in
      let end = known.named y (next i) m g is both.0 in
      true_is_not_false (sym both.1 ∙ ap (λ x. begins_operand (shape (next x))) (sym end) ∙ no_operand)
  cast_by_shape (shapes.Mark t) y i m is g no_operand h =
      let both = both_true (is_some (primitive_of t)) (sees marks.RightParen (skip_dims (next (next i)))) h in
      known.primitive y t (next i) m g is both.0 both.1
  cast_by_shape _ y i m is g no_operand h = true_is_not_false (sym h)

  paren-parts : {C : Type 0} (f : First) (i k : Input) → sign i ≡ Some (mark marks.LeftParen) → primaries.first d N i ≡ Done f k
      → ((y : Expr) (m : Input) → N.expr (next i) ≡ Done y m → next m ≡ k → C) → C
  unfolding primaries.first
  paren-parts f i k h e g =
      let r : (N.expr >>= λ x. expect marks.RightParen >> pure (firsts.Parenthesized x)) (next i) ≡ Done f k = rw h at e in
      inv (N.expr (next i)) (λ x. expect marks.RightParen >> pure (firsts.Parenthesized x)) f k r (λ y m q o.
      mapped (expect marks.RightParen m) (λ u. firsts.Parenthesized y) f k o (λ u closed same.
      g y m q (expect-taken marks.RightParen m k u closed).1))

  no_cast : (p : Primary) (ops : List PostfixOp) (a : Around) (i j : Input) → a.left ≡ d → IsPrimary M p
      → Taken (yield_primary p a ++ yield_postfixes ops) i j → Ends 0 j → sees_cast i ≡ false
  unfolding looks_cast
  no_cast p ops a i j l h t e =
      elim (cases_Bool (sees_cast i)) [
        | inl is ↦
            let both = both_true (sees marks.LeftParen i) (cast_by (shape (next i)) (next (next i))) (sym (sees_cast-looks i) ∙ is) in
            taken_split (yield_primary p a) (yield_postfixes ops) i j t (λ l2 first others.
            taken_split (yield_first p.first a) (selector_pieces p.selectors a) i l2 (subst (λ ps. Taken ps i l2) (yield_primary-parts p a) first) (λ k head tail.
            let read = first_of_primary d N M known p a i k l2 l h head tail (postfixes_follow ops l2 j others e) in
            let no_operand = selectors_are_no_operand d N M known p a k l2 h tail (postfixes_are_no_operand ops l2 j others e) in
            paren-parts p.first i k (sees-is marks.LeftParen i both.0) read (λ y m g end.
            absurd (cast_by_shape (shape (next i)) y i m refl g (ap (λ x. begins_operand (shape x)) end ∙ no_operand) both.1))))
        | inr isnt ↦ isnt
      ]

  -- ---- unary expressions

  plain_unary : (i : Input) → prefix_by (shape i) ≡ None → sees_cast i ≡ false → reading.begins_prefix d N i ≡ false
  unfolding reading.begins_prefix
  plain_unary i h g = rw (h, g) refl

  pub unary-complete : (x : Expr) (a : Around) (i j : Input) → a.left ≡ d → IsUnary M x → Taken (yield_expr x a) i j → Ends 0 j → reading.unary d N i ≡ Done x j
  unfolding reading.unary reading.begins_prefix
  unary-complete x a i j l (a_prefix h) t e = rw (known.prefix_begins x a i j l h t e, known.prefix x a i j l h t e) refl
  unary-complete x a i j l (a_postfix (postfix p ops same h)) t e =
      let u : Taken (yield_primary p a ++ yield_postfixes ops) i j = rw (same, yield_expr-Postfix) at t in
      let read = postfix-complete p ops a i j l h u e in
      let plain = postfix-begins d N (exprs.Postfix p ops) i j read in
      rw (same, plain.no_prefix, no_cast p ops a i j l h u e) read

  -- ---- prefixes and casts

  operand_of_prefix : (y : Expr) (i j : Input) (o : Option PrefixOp) → prefix_by (shape i) ≡ o → (is_some o || sees_cast i) ≡ true → N.prefix i ≡ Done y j
      → begins_with_sign y ≡ false → begins_operand (shape i) ≡ true
  operand_of_prefix y i j None is h e s = cast_begins d N i h
  operand_of_prefix y i j (Some op) is h e s =
      elim (cases_Bool (is_sign op)) [
        | inl sign_ ↦ true_is_not_false (sym (known.signs y op i j e is sign_) ∙ s)
        | inr none ↦ ap begins_operand (prefix_by-is (shape i) op is) ∙ no_sign_is_operand op none
      ]

  operand_begins : (y : Expr) (i j : Input) → reading.unary d N i ≡ Done y j → begins_with_sign y ≡ false → begins_operand (shape i) ≡ true
  unfolding reading.unary reading.begins_prefix
  operand_begins y i j e s =
      elim (cases_Bool (reading.begins_prefix d N i)) [
        | inl is ↦ operand_of_prefix y i j (prefix_by (shape i)) refl is (rw is at e) s
        | inr isnt ↦ let b = postfix-begins d N y i j (rw isnt at e) in b.operand
      ]

  cast-complete : (t : TypeUse) (y : Expr) (i k j : Input) → IsType t → sign i ≡ Some (mark marks.LeftParen) → Taken (yield_type t) (next i) k
      → sign k ≡ Some (mark marks.RightParen) → reading.unary d N (next k) ≡ Done y j → (is_named t.element && not (begins_operand (shape (next k)))) ≡ false
      → reading.cast d N i ≡ Done (exprs.Cast t y) j
  unfolding reading.cast reading.cast_operand same_mark
  cast-complete t y i k j h opened named closed read ok =
      rw (expect-at marks.LeftParen i refl opened, type_use-complete t (next i) k h named (type_ends k closed), expect-at marks.RightParen k refl closed, ok, read) refl

  pub prefix_over-complete : (x : Expr) (a : Around) (i j : Input) → a.left ≡ suc d → IsPrefixOver M x → Taken (yield_expr x a) i j → Ends 0 j
      → reading.prefix_over d N i ≡ Done x j
  unfolding reading.prefix_over
  prefix_over-complete x a i j l (prefix op y same h) t e =
      let u : Taken (the (prefix_mark op) ∷ yield_expr y (deeper a)) i j = rw (same, yield_expr-Prefix) at t in
      rw (same, u.0, prefix_of-mark op, unary-complete y (deeper a) (next i) j (less-left a (suc d) l) h u.1 e) refl
  prefix_over-complete x a i j l (cast_primitive p n y same h) t e =
      let type : TypeUse = record { element = elements.Primitive p; dims = n } in
      let u : Taken (the marks.LeftParen ∷ (yield_type type ++ the marks.RightParen ∷ yield_expr y (deeper a))) i j = rw (same, yield_expr-Cast) at t in
      taken_split (yield_type type) (the marks.RightParen ∷ yield_expr y (deeper a)) (next i) j u.1 (λ k named end.
      rw (same, u.0) (cast-complete type y i k j tt u.0 named end.0 (unary-complete y (deeper a) (next k) j (less-left a (suc d) l) h end.1 e) refl))
  prefix_over-complete x a i j l (cast_name m n y same g s h) t e =
      let type : TypeUse = record { element = elements.Named m; dims = n } in
      let u : Taken (the marks.LeftParen ∷ (yield_type type ++ the marks.RightParen ∷ yield_expr y (deeper a))) i j = rw (same, yield_expr-Cast) at t in
      taken_split (yield_type type) (the marks.RightParen ∷ yield_expr y (deeper a)) (next i) j u.1 (λ k named end.
      let read = unary-complete y (deeper a) (next k) j (less-left a (suc d) l) h end.1 e in
      rw (same, u.0) (cast-complete type y i k j g u.0 named end.0 read (ap (λ b. true && not b) (operand_begins y (next k) j read s))))

  cast_begins_primitive : (p : Primitive) (n : ℕ) (i k : Input) → sign i ≡ Some (mark marks.LeftParen) → Taken (yield_type (record { element = elements.Primitive p; dims = n })) (next i) k
      → sign k ≡ Some (mark marks.RightParen) → looks_cast i ≡ true
  unfolding looks_cast same_mark
  cast_begins_primitive p n i k opened t closed =
      let sized = dims-complete n (next (next i)) k t.1 (let e = type_ends k closed in e.dim) in
      rw (seen marks.LeftParen i opened refl, t.0, primitive_of-mark p, ← dims-skip n (next (next i)) k sized, seen marks.RightParen k closed refl) refl

  cast_begins_name : (m : List Ident) (n : ℕ) (i k : Input) → IsNonEmpty m → sign i ≡ Some (mark marks.LeftParen)
      → Taken (yield_type (record { element = elements.Named m; dims = n })) (next i) k
      → sign k ≡ Some (mark marks.RightParen) → begins_operand (shape (next k)) ≡ true → looks_cast i ≡ true
  unfolding looks_cast closes_name same_mark
  cast_begins_name [] n i k g opened t closed operand_ = absurd g
  cast_begins_name (w ∷ ws) n i k g opened t closed operand_ =
      let type : TypeUse = record { element = elements.Named (w ∷ ws); dims = n } in
      let ends = type_ends k closed in
      taken_split (yield_name (w ∷ ws)) (yield_dims n) (next i) k t (λ l named sized.
      let read = name-complete (w ∷ ws) (next i) l g named (dims-no_member n l k sized ends.member) in
      let counted = dims-complete n l k sized ends.dim in
      rw (seen marks.LeftParen i opened refl, named.0, ← name-skip (w ∷ ws) (next i) l read, ← dims-skip n l k counted, seen marks.RightParen k closed refl, operand_) refl)

  pub prefix_over-begins : (x : Expr) (a : Around) (i j : Input) → a.left ≡ suc d → IsPrefixOver M x → Taken (yield_expr x a) i j → Ends 0 j
      → (is_some (prefix_by (shape i)) || sees_cast i) ≡ true
  prefix_over-begins x a i j l (prefix op y same h) t e =
      let u : Taken (the (prefix_mark op) ∷ yield_expr y (deeper a)) i j = rw (same, yield_expr-Prefix) at t in
      rw (u.0, prefix_of-mark op) refl
  prefix_over-begins x a i j l (cast_primitive p n y same h) t e =
      let type : TypeUse = record { element = elements.Primitive p; dims = n } in
      let u : Taken (the marks.LeftParen ∷ (yield_type type ++ the marks.RightParen ∷ yield_expr y (deeper a))) i j = rw (same, yield_expr-Cast) at t in
      taken_split (yield_type type) (the marks.RightParen ∷ yield_expr y (deeper a)) (next i) j u.1 (λ k named end.
      rw u.0 (sees_cast-looks i ∙ cast_begins_primitive p n i k u.0 named end.0))
  prefix_over-begins x a i j l (cast_name m n y same g s h) t e =
      let type : TypeUse = record { element = elements.Named m; dims = n } in
      let u : Taken (the marks.LeftParen ∷ (yield_type type ++ the marks.RightParen ∷ yield_expr y (deeper a))) i j = rw (same, yield_expr-Cast) at t in
      taken_split (yield_type type) (the marks.RightParen ∷ yield_expr y (deeper a)) (next i) j u.1 (λ k named end.
      let read = unary-complete y (deeper a) (next k) j (less-left a (suc d) l) h end.1 e in
      rw u.0 (sees_cast-looks i ∙ cast_begins_name m n i k g u.0 named end.0 (operand_begins y (next k) j read s)))

  -- ---- chains of binary operators

  operation-at : (k : ℕ) (Operand : Expr → Type 0) (read : Parser Expr)
      → ((x : Expr) (a : Around) (i j : Input) → a.left ≡ d → Operand x → Taken (yield_expr x a) i j → Ends k j → read i ≡ Done x j)
      → (o : Operation) (a : Around) (i j : Input) → a.left ≡ d → IsOperation (suc k) Operand o → Taken (yield_operation o a) i j → Ends k j
      → reading.operation d N (suc k) read i ≡ Done (Some o) j
  unfolding reading.operation
  operation-at k Operand read reads o a i j l (infix_of op y same at h) t e =
      let u : Taken (the (binary_mark op) ∷ yield_expr y a) i j = rw (same, yield_operation-Infix) at t in
      rw (same, u.0, operator_by-binary (suc k) op at, reads y a (next i) j l h u.1 e) refl
  operation-at k Operand read reads o a i j l (instance_of x same at h) t e =
      let u : Taken (the marks.InstanceOf ∷ yield_type x) i j = rw (same, yield_operation-InstanceOf) at t in
      rw (same, u.0, operator_by-relational (suc k) at, type_use-complete x (next i) j h u.1 (ends_type k j e)) refl

  operation-stop : (k : ℕ) (read : Parser Expr) (j : Input) → Ends k j → reading.operation d N k read j ≡ Done None j
  unfolding reading.operation
  operation-stop k read j e = rw (ends_operator k (shape j) (operator_by k (shape j)) refl e.goes_on) refl

  operation-begins : (k : ℕ) (Operand : Expr → Type 0) (o : Operation) (a : Around) (i j : Input) → IsOperation (suc k) Operand o → Taken (yield_operation o a) i j → Ends k i
  operation-begins k Operand o a i j (infix_of op y same at h) t =
      let u : Taken (the (binary_mark op) ∷ yield_expr y a) i j = rw (same, yield_operation-Infix) at t in
      let goes_ = goes_on-binary op in
      ends-at k (binary_mark op) i u.0 (omega arith) (binary_is_no_operand op)
  operation-begins k Operand o a i j (instance_of x same at h) t =
      let u : Taken (the marks.InstanceOf ∷ yield_type x) i j = rw (same, yield_operation-InstanceOf) at t in
      ends-at k marks.InstanceOf i u.0 (omega arith) refl

  operation-shorter : (k : ℕ) (Operand : Expr → Type 0) (o : Operation) (a : Around) (i j : Input) → IsOperation (suc k) Operand o → Taken (yield_operation o a) i j → left j < left i
  operation-shorter k Operand o a i j (infix_of op y same at h) t =
      let u : Taken (the (binary_mark op) ∷ yield_expr y a) i j = rw (same, yield_operation-Infix) at t in
      token_shorter (mark (binary_mark op)) (yield_expr y a) i j u
  operation-shorter k Operand o a i j (instance_of x same at h) t =
      let u : Taken (the marks.InstanceOf ∷ yield_type x) i j = rw (same, yield_operation-InstanceOf) at t in
      token_shorter (mark marks.InstanceOf) (yield_type x) i j u

  operations-complete : (k : ℕ) (Operand : Expr → Type 0) (read : Parser Expr)
      → ((x : Expr) (a : Around) (i j : Input) → a.left ≡ d → Operand x → Taken (yield_expr x a) i j → Ends k j → read i ≡ Done x j)
      → (os : List Operation) (a : Around) (i j : Input) → a.left ≡ d → AllByRecursion (IsOperation (suc k) Operand) os
      → Taken (spread (λ o. yield_operation o a) os) i j → Ends (suc k) j → many (reading.operation d N (suc k) read) [] i ≡ Done os j
  operations-complete k Operand read reads os a i j l h t e =
      many-complete (reading.operation d N (suc k) read) (λ o. yield_operation o a) (IsOperation (suc k) Operand) (Ends (suc k)) (Ends k)
      (λ o x y p g f. operation-at k Operand read reads o a x y l p g f) (λ x s. operation-stop (suc k) read x s) (λ x s. ends_looser (suc k) k x (omega arith) s)
      (λ o x y p g. operation-begins k Operand o a x y p g) (λ o x y p g. operation-shorter k Operand o a x y p g)
      os [] i j h t e

  operations_follow : (k : ℕ) (Operand : Expr → Type 0) (os : List Operation) (a : Around) (i j : Input) → AllByRecursion (IsOperation (suc k) Operand) os
      → Taken (spread (λ o. yield_operation o a) os) i j → Ends (suc k) j → Ends k i
  operations_follow k Operand [] a i j h t e = subst (Ends k) (sym t) (ends_looser (suc k) k j (omega arith) e)
  operations_follow k Operand (o ∷ os) a i j h t e =
      taken_split (yield_operation o a) (spread (λ x. yield_operation x a) os) i j t (λ m first others. operation-begins k Operand o a i m h.0 first)

  binary-complete : (k : ℕ) (x : Expr) (a : Around) (i j : Input) → a.left ≡ d → IsBinary M k x → Taken (yield_expr x a) i j → Ends k j → reading.binary d N k i ≡ Done x j
  unfolding reading.binary IsBinary
  binary-complete zero x a i j l h t e = unary-complete x a i j l h t e
  binary-complete (suc k) x a i j l (chain y o os same h p q) t e =
      let u : Taken (yield_expr y a ++ each (map yield_operation (o ∷ os)) a) i j = rw (same, yield_expr-Binary) at t in
      taken_split (yield_expr y a) (each (map yield_operation (o ∷ os)) a) i j u (λ m first others.
      let spread_ = subst (λ ps. Taken ps m j) (each-spread yield_operation (o ∷ os) a) others in
      let one = binary-complete k y a i m l h first (operations_follow k (IsBinary M k) (o ∷ os) a m j (p, q) spread_ e) in
      rw (same, one, operations-complete k (IsBinary M k) (reading.binary d N k) (binary-complete k) (o ∷ os) a m j l (p, q) spread_ e) refl)
  binary-complete (suc k) x a i j l (operand h) t e =
      rw (
        binary-complete k x a i j l h t (ends_looser (suc k) k j (omega arith) e),
        operations-complete k (IsBinary M k) (reading.binary d N k) (binary-complete k) [] a j j l tt refl e,
      ) refl

  -- ---- conditionals and assignments

  or-complete : (x : Expr) (a : Around) (i j : Input) → a.left ≡ d → IsBinary M 10 x → Taken (yield_expr x a) i j → Ends 11 j → reading.conditional d N i ≡ Done x j
  unfolding reading.conditional
  or-complete x a i j l h t e =
      rw (binary-complete 10 x a i j l h t (ends_looser 11 10 j (omega arith) e), ends-sees 11 marks.Question j (omega arith) e) refl

  choices-complete : (c y z : Expr) (a : Around) (i j : Input) → a.left ≡ d → M.expr y → M.expr z → is_assignment z ≡ false
      → Taken (yield_expr y (deeper a) ++ the marks.Colon ∷ yield_expr z (deeper a)) i j → Ends 12 j → reading.choices d N c i ≡ Done (exprs.Conditional c y z) j
  unfolding reading.choices same_mark
  choices-complete c y z a i j l h g s t e =
      taken_split (yield_expr y (deeper a)) (the marks.Colon ∷ yield_expr z (deeper a)) i j t (λ k first others.
      rw (
        known.expr y (deeper a) i k (less-left a d l) h first (ends-at 12 marks.Colon k others.0 (omega arith) refl),
        expect-at marks.Colon k refl others.0,
        known.expr z (deeper a) (next k) j (less-left a d l) g others.1 e,
        s,
      ) refl)

  conditional-complete : (x : Expr) (a : Around) (i j : Input) → a.left ≡ d → IsConditional M x → Taken (yield_expr x a) i j → Ends 12 j → reading.conditional d N i ≡ Done x j
  unfolding reading.conditional same_mark
  conditional-complete x a i j l (conditional c y z same h p q s) t e =
      let u : Taken (yield_expr c a ++ the marks.Question ∷ (yield_expr y (deeper a) ++ the marks.Colon ∷ yield_expr z (deeper a))) i j = rw (same, yield_expr-Conditional) at t in
      taken_split (yield_expr c a) (the marks.Question ∷ (yield_expr y (deeper a) ++ the marks.Colon ∷ yield_expr z (deeper a))) i j u (λ k first others.
      rw (
        same,
        binary-complete 10 c a i k l h first (ends-at 10 marks.Question k others.0 (omega arith) refl),
        seen marks.Question k others.0 refl,
        choices-complete c y z a (next k) j l p q s others.1 e,
      ) refl)
  conditional-complete x a i j l (unconditional h) t e = or-complete x a i j l h t (ends_looser 12 11 j (omega arith) e)

  target_is : (t : Primary) → is_target t ≡ true → target_of (exprs.Postfix t []) ≡ Some t
  unfolding target_of
  target_is t h = simp expr_layers (rw h refl)

  pub expr_over-complete : (x : Expr) (a : Around) (i j : Input) → a.left ≡ d → IsExprOver M x → Taken (yield_expr x a) i j → Ends 12 j → reading.expr_over d N i ≡ Done x j
  unfolding reading.expr_over
  expr_over-complete x a i j l (assign t op v same p q r) h e =
      let u : Taken (yield_primary t a ++ the (assign_mark op) ∷ yield_expr v (deeper a)) i j = rw (same, yield_expr-Assign) at h in
      taken_split (yield_primary t a) (the (assign_mark op) ∷ yield_expr v (deeper a)) i j u (λ k first others.
      let bare : Expr = exprs.Postfix t [] in
      let goes_ = goes_on-assign op in
      let whole : Taken (yield_expr bare a) i k = subst (λ ps. Taken ps i k) (sym (yield_expr-Postfix t [] a ∙ append-nil (yield_primary t a))) first in
      rw (
        same,
        or-complete bare a i k l (binary_of_unary M 10 bare (a_postfix (postfix t [] refl p))) whole (ends-at 11 (assign_mark op) k others.0 (omega arith) (assign_is_no_operand op)),
        others.0,
        assign_of-mark op,
        target_is t q,
        known.expr v (deeper a) (next k) j (less-left a d l) r others.1 e,
      ) refl)
  expr_over-complete x a i j l (no_assign h) t e =
      rw (conditional-complete x a i j l h t e, ends_assign (shape j) (assign_by (shape j)) refl e.goes_on) refl

-- ---- the knot

plain_word : (i : Input) → shape i ≡ shapes.Word → (is_some (prefix_by (shape i)) || sees_cast i) ≡ false
unfolding looks_cast sees
plain_word i h = rw (h, sees_cast-looks i, h) refl

plain_primitive : (m : Mark) (i : Input) → shape i ≡ shapes.Mark m → is_some (primitive_of m) ≡ true → (is_some (prefix_by (shape i)) || sees_cast i) ≡ false
unfolding looks_cast sees
plain_primitive m i h p = let plain = primitive_is_plain m p in rw (h, plain.no_prefix, sees_cast-looks i, h, plain.no_paren) refl

no_prefix : (d : ℕ) (N : Nest) (i : Input) → (is_some (prefix_by (shape i)) || sees_cast i) ≡ false → reading.begins_prefix d N i ≡ false
unfolding reading.begins_prefix
no_prefix d N i h = h

named-over : (d : ℕ) (N : Nest) (x : Expr) (i k : Input) → reading.expr_over d N i ≡ Done x k → shape i ≡ shapes.Word
    → sees marks.RightParen (skip_dims (skip_names (next i))) ≡ true → k ≡ skip_dims (skip_names (next i))
named-over d N x i k e is closed =
    expr-only d N (λ z. z ≡ skip_dims (skip_names (next i))) i (record { paren = λ z g. ap (sees marks.RightParen) g ∙ closed }) (no_prefix d N i (plain_word i is))
    (λ f z g. first-named d N f i z is closed g) x k e

primitive-over : (d : ℕ) (N : Nest) (x : Expr) (m : Mark) (i k : Input) → reading.expr_over d N i ≡ Done x k → shape i ≡ shapes.Mark m → is_some (primitive_of m) ≡ true
    → sees marks.RightParen (skip_dims (next i)) ≡ true → ⊥
primitive-over d N x m i k e is p closed =
    expr-only d N (λ z. ⊥) i (record { paren = λ z g. absurd g }) (no_prefix d N i (plain_primitive m i is p)) (λ f z g. first-primitive d N m f i z is p closed g) x k e

pub nest-complete : (d : ℕ) → NestComplete d (read_nest d) (nested d)
unfolding read_nest nested
nest-complete zero = record {
  expr = λ x a i j l h t e. absurd h;
  prefix = λ x a i j l h t e. absurd h;
  braces = λ b a i j l h t. absurd h;
  begins = λ x i j e. fails x j e;
  prefix_begins = λ x a i j l h t e. absurd h;
  signs = λ x op i j e h s. fails x j e;
  named = λ x i k e h s. fails x k e;
  primitive = λ x m i k e h p s. fails x k e;
}
nest-complete (suc d) =
    let inner = nest-complete d in
    record {
      expr = expr_over-complete d (read_nest d) (nested d) inner;
      prefix = prefix_over-complete d (read_nest d) (nested d) inner;
      braces = braces_over-complete d (read_nest d) (nested d) inner;
      begins = expr-begins d (read_nest d);
      prefix_begins = prefix_over-begins d (read_nest d) (nested d) inner;
      signs = prefix-signs d (read_nest d);
      named = named-over d (read_nest d);
      primitive = primitive-over d (read_nest d);
    }
