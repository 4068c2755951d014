-- Where a primary expression stands before `.super(`, no expression stands, whatever depth is left to each.
use Rattle.std.proofs.Common.{◌≡◌, ℕ, zero, suc, ◌≤◌, true, false, ◌&&◌, List, [], ◌∷◌, ◌++◌, drop, Option, Some, None, refl, sym, ap, ◌∙◌, subst, inl, inr, arith}
use Rattle.std.specs.Prelude.{is_some}
use Rattle.std.proofs.lemmas.Bool.{cases_Bool, cases_lt}
use Rattle.java_tree.specs.declared.mark.Mark.TheVariants as marks
use Rattle.java_tree.specs.declared.expr.Expr.{Expr}
use Rattle.java_tree.specs.declared.expr.First.{First}
use Rattle.java_tree.specs.declared.expr.First.TheVariants as firsts
use Rattle.java_tree.specs.declared.expr.Primary.{Primary}
use Rattle.java_tree.specs.declared.expr.Selector.TheVariants as selectors
use Rattle.java_model.specs.Grammar.Signs.{mark}
use Rattle.java_model.specs.Grammar.Readings.{primitive_of}
use Rattle.java_model.specs.Grammar.YieldExpr.{yield_primary}
use Rattle.java_model.specs.Grammar.Expressions.{nested}
use Rattle.java_expr_reading.specs.Shapes.{same_mark, is_mark, is_left_brace, shape_by}
use Rattle.java_expr_reading.specs.Input.{Input, first_of, sign, shape, left, next, Done, Parser, ◌>>=◌, ◌>>◌, pure, sees, expect, many_turn, many_from, many}
use Rattle.java_expr_reading.specs.Reading.Names.{some}
use Rattle.java_expr_reading.specs.Reading.Operators.{ends_by, begins_operand}
use Rattle.java_expr_reading.specs.Reading.Primaries as primaries
use Rattle.java_expr_reading.specs.Reading.Primaries.{Nest}
use Rattle.java_expr_reading.specs.Reading.Expressions as reading
use Rattle.java_expr_reading.specs.Reading.Expressions.{skip_names, skip_dims, closes_name, cast_by, sees_cast, read_nest, read_expr, read_primary, sees_super_call}
use Rattle.java_expr_reading.specs.declared.shape.Shape.{Shape}
use Rattle.java_expr_reading.specs.declared.shape.Shape.TheVariants as shapes
use Rattle.java_expr_reading.proofs.Taken.{inv, done_input}
use Rattle.java_expr_reading.proofs.Tokens.{fails, true_is_not_false, sees-is, expect-taken}
use Rattle.java_expr_reading.proofs.NameLaws.{both_true, mapped, none_is_not_some}
use Rattle.java_expr_reading.proofs.Nests.{EndsPrimary}
use Rattle.java_expr_reading.proofs.Beginnings.{looks_cast, sees_cast-looks, primary-begins}
use Rattle.java_expr_reading.proofs.ExprComplete.{nest-complete}
use Rattle.java_expr_reading.proofs.Places.{fit-reads, reads-taken}
use Rattle.java_expr_reading.proofs.GoalLaws.{read_primary-sound, read_primary-complete, super_call_ends}
use Rattle.java_unit_reading.specs.Reading.Nested.{around}
use Rattle.java_unit_reading.proofs.Expressions.Stops.{NoOperator, Quiet, operand_quiet, Stops, quiet_stops, primary_stops, expr_stops}
use Rattle.java_unit_reading.proofs.Expressions.Opens.{over, super_dot, primary_ends_not}
use Rattle.java_unit_reading.proofs.Expressions.Deeper.{primary_up, nested_up}
use Rattle.java_unit_reading.proofs.Expressions.Alike.{reads_alike, primaries_alike}

-- ---- a primary expression ends at the same token, whatever depth is left

ends_there : (j k : Input) → j.rest ≡ k.rest → EndsPrimary k → EndsPrimary j
unfolding sees sign next
ends_there j k e h = record {
  paren = ap (λ ts. is_mark marks.LeftParen (shape_by (first_of ts))) e ∙ h.paren;
  bracket = ap (λ ts. is_mark marks.LeftBracket (shape_by (first_of ts))) e ∙ h.bracket;
  brace = ap (λ ts. is_left_brace (shape_by (first_of ts))) e ∙ h.brace;
  dot = λ is.
      let g = h.dot (sym (ap (λ ts. is_mark marks.Dot (shape_by (first_of ts))) e) ∙ is) in
      (ap (λ ts. shape_by (first_of (drop 1 ts))) e ∙ g.0, ap (λ ts. is_mark marks.Dot (shape_by (first_of (drop 1 (drop 1 ts))))) e ∙ g.1);
}

same_end : (d e : ℕ) → d ≤ e → d ≤ 256 → (p q : Primary) (i j k : Input) → read_primary d i ≡ Done p j
    → EndsPrimary j → read_primary e i ≡ Done q k → k.rest ≡ j.rest
same_end d e below fits p q i j k f ends g =
    let read = read_primary-sound d fits p i j f in
    let here = fit-reads (yield_primary p (around d)) i j (read.taken (around d) refl) in
    let there = reads_alike (yield_primary p (around d)) (yield_primary p (around e)) i.rest j.rest (primaries_alike d p (around d) (around e) read.shape) here in
    reads-taken (yield_primary p (around e)) i j.rest there (λ m t rest.
    let again = read_primary-complete e p (around e) i m refl (primary_up (nested d) (nested e) (nested_up d e below) p read.shape) t (ends_there m j rest ends) in
    ap (λ z. z.rest) (sym (done_input p q m k (sym again ∙ g))) ∙ rest)

-- ---- where a primary expression ends, no selector begins

many_ends : {A : Type 0} (item : Parser (Option A)) → ((i j : Input) → item i ≡ Done None j → i ≡ j) → (n : ℕ) (found ys : List A) (i j : Input)
    → many_from item n found i ≡ Done ys j → item j ≡ Done None j
unfolding many_from
many_ends item stays zero found ys i j e = fails ys j e
many_ends item stays (suc n) found ys i j e =
    inv (item i) (many_turn found (many_from item n)) ys j e (λ o k.
    elim o as (λ o. item i ≡ Done o k → many_turn found (many_from item n) o k ≡ Done ys j → item j ≡ Done None j) [
      | None ↦ λ g r. subst (λ z. item z ≡ Done None z) (done_input found ys k j r) (subst (λ z. item z ≡ Done None k) (stays i k g) g)
      | Some x ↦ λ g r. many_ends item stays n (found ++ x ∷ []) ys k j r
    ])

module _ (d : ℕ) (N : Nest) where
  selector_by_none : (sh : Shape) (i j : Input) → primaries.selector_by d N sh i ≡ Done None j → i ≡ j
  selector_by_none shapes.Word i j e = mapped (primaries.member d N (next i)) some None j e (λ t g same. none_is_not_some t same)
  selector_by_none (shapes.Mark marks.New) i j e = mapped (primaries.inner_creation d N (next (next i))) some None j e (λ t g same. none_is_not_some t same)
  selector_by_none _ i j e = done_input None None i j e

  no_index : {C : Type 0} (i j : Input) → sees marks.LeftBracket i ≡ true → primaries.selector d N i ≡ Done None j → C
  unfolding primaries.selector
  no_index i j is e = mapped (primaries.in_brackets d N i) (λ x. Some (selectors.Index x)) None j (rw is at e) (λ x g same. none_is_not_some (selectors.Index x) same)

  selector_stays : (i j : Input) → primaries.selector d N i ≡ Done None j → i ≡ j
  unfolding primaries.selector
  selector_stays i j e =
      elim (cases_Bool (sees marks.LeftBracket i)) [
        | inl is ↦ no_index i j is e
        | inr no_bracket ↦
            elim (cases_Bool (sees marks.Dot i)) [
              | inl is ↦ selector_by_none (shape (next i)) i j (rw (no_bracket, is) at e)
              | inr no_dot ↦ done_input None None i j (rw (no_bracket, no_dot) at e)
            ]
      ]

  primary_selects : (p : Primary) (i k : Input) → primaries.primary d N i ≡ Done p k → primaries.selector d N k ≡ Done None k
  unfolding primaries.primary primaries.selectors_of many
  primary_selects p i k e =
      inv (primaries.first d N i) (λ f. primaries.selectors_of d N f >>= λ ss. pure (record { first = f; selectors = ss })) p k e (λ f l g r.
      mapped (primaries.selectors_of d N f l) (λ ss. record { first = f; selectors = ss }) p k r (λ ss h same.
      elim (cases_Bool (primaries.is_new_array f && sees marks.LeftBracket l)) [
        | inl is ↦ fails ss k (rw is at h)
        | inr isnt ↦ many_ends (primaries.selector d N) selector_stays (suc (left l)) [] ss l k (rw isnt at h)
      ]))

  -- an expression whose primary expression ends here ends here, where no expression ends
  record Ending (k : Input) : Type 0 where
    stops : Stops d N k
    no_end : ends_by (shape k) ≡ false

  dot_operators : NoOperator (shapes.Mark marks.Dot)
  unfolding same_mark
  dot_operators = record { bracket = refl; postfix = refl; operator = λ n. refl; question = refl; assign = refl }

  brace_quiet : Quiet shapes.LeftBrace
  brace_quiet = record { operators = record { bracket = refl; postfix = refl; operator = λ n. refl; question = refl; assign = refl }; dot = refl }

  brace_shape : (s : Shape) → is_left_brace s ≡ true → s ≡ shapes.LeftBrace
  brace_shape shapes.LeftBrace h = refl
  brace_shape _ h = absurd cc

  at_dot : (k : Input) → primaries.selector d N k ≡ Done None k → sees marks.Dot k ≡ true → Ending k
  at_dot k h is =
      let there : shape k ≡ shapes.Mark marks.Dot = ap shape_by (sees-is marks.Dot k is) in
      record { stops = record { selector = h; operators = subst NoOperator (sym there) dot_operators }; no_end = ap ends_by there }

  at_quiet : (k : Input) (s : Shape) → shape k ≡ s → Quiet s → ends_by s ≡ false → Ending k
  at_quiet k s there q h = record { stops = quiet_stops d N k (subst Quiet (sym there) q); no_end = ap ends_by there ∙ h }

  -- where a primary expression ends so that a dot follows if it may end there at all
  primary_stuck : (q : Primary) (i k : Input) → primaries.primary d N i ≡ Done q k → (EndsPrimary k → sees marks.Dot k ≡ true) → Ending k
  primary_stuck q i k e dotted =
      let none = primary_selects q i k e in
      elim (cases_Bool (sees marks.Dot k)) [
        | inl dot ↦ at_dot k none dot
        | inr no_dot ↦
            elim (cases_Bool (sees marks.LeftParen k)) [
              | inl paren ↦ at_quiet k (shapes.Mark marks.LeftParen) (ap shape_by (sees-is marks.LeftParen k paren)) (operand_quiet (shapes.Mark marks.LeftParen) refl) refl
              | inr no_paren ↦
                  elim (cases_Bool (is_left_brace (shape k))) [
                    | inl brace ↦ at_quiet k shapes.LeftBrace (brace_shape (shape k) brace) brace_quiet refl
                    | inr no_brace ↦
                        elim (cases_Bool (sees marks.LeftBracket k)) [
                          | inl bracket ↦ no_index k k bracket none
                          | inr no_bracket ↦
                              at_dot k none (dotted (record { paren = no_paren; bracket = no_bracket; brace = no_brace; dot = λ is. true_is_not_false (sym is ∙ no_dot) }))
                        ]
                  ]
            ]
      ]

-- ---- no cast

paren_parts : {C : Type 0} (d : ℕ) (N : Nest) (f : First) (i k : Input) → sign i ≡ Some (mark marks.LeftParen) → primaries.first d N i ≡ Done f k
    → ((y : Expr) (m : Input) → N.expr (next i) ≡ Done y m → next m ≡ k → C) → C
unfolding primaries.first
paren_parts d N f i k h e g =
    let r : (N.expr >>= λ x. expect marks.RightParen >> pure (firsts.Parenthesized x)) (next i) ≡ Done f k = rw h at e in
    inv (N.expr (next i)) (λ x. expect marks.RightParen >> pure (firsts.Parenthesized x)) f k r (λ y m q o.
    mapped (expect marks.RightParen m) (λ u. firsts.Parenthesized y) f k o (λ u closed same.
    g y m q (expect-taken marks.RightParen m k u closed).1))

module _ (d : ℕ) (p : Primary) (i j : Input) (read : read_primary d i ≡ Done p j) (call : sees_super_call j ≡ true) where
  no_first : ((f : First) (k : Input) → primaries.first d (read_nest d) i ≡ Done f k → ⊥) → ⊥
  unfolding read_primary
  no_first head = primary_stops d (read_nest d) (λ k. ⊥) i (λ k g. absurd g) head p j read

  cast_by_shape : (s : Shape) → shape (next i) ≡ s → sign i ≡ Some (mark marks.LeftParen) → cast_by s (next (next i)) ≡ true → ⊥
  unfolding closes_name
  cast_by_shape shapes.Word is opened h =
      let both = both_true (sees marks.RightParen (skip_dims (skip_names (next (next i))))) (begins_operand (shape (next (skip_dims (skip_names (next (next i))))))) h in
      let known = nest-complete d in
      primary_ends_not d p i j (next (skip_dims (skip_names (next (next i))))) read call (operand_quiet (shape (next (skip_dims (skip_names (next (next i)))))) both.1)
      (λ f k g. paren_parts d (read_nest d) f i k opened g (λ y m q closed. sym closed ∙ ap next (known.named y (next i) m q is both.0)))
  cast_by_shape (shapes.Mark t) is opened h =
      let both = both_true (is_some (primitive_of t)) (sees marks.RightParen (skip_dims (next (next i)))) h in
      let known = nest-complete d in
      no_first (λ f k g. paren_parts d (read_nest d) f i k opened g (λ y m q closed. known.primitive y t (next i) m q is both.0 both.1))
  cast_by_shape _ is opened h = true_is_not_false (sym h)

  no_cast : sees_cast i ≡ false
  unfolding looks_cast
  no_cast =
      elim (cases_Bool (sees_cast i)) [
        | inl is ↦
            let both = both_true (sees marks.LeftParen i) (cast_by (shape (next i)) (next (next i))) (sym (sees_cast-looks i) ∙ is) in
            absurd (cast_by_shape (shape (next i)) refl (sees-is marks.LeftParen i both.0) both.1)
        | inr isnt ↦ isnt
      ]

  plain : (b : ℕ) (N : Nest) → reading.begins_prefix b N i ≡ false
  unfolding read_primary reading.begins_prefix
  plain b N = let begins = primary-begins d (read_nest d) p i j read in rw (begins.no_prefix, no_cast) refl

  dot_behind : (k : Input) → k.rest ≡ j.rest → sees marks.Dot k ≡ true
  unfolding sees sign
  dot_behind k e = ap (λ ts. is_mark marks.Dot (shape_by (first_of ts))) e ∙ super_dot j call

  stuck : d ≤ 256 → (b : ℕ) (q : Primary) (k : Input) → primaries.primary b (read_nest b) i ≡ Done q k → Ending b (read_nest b) k
  unfolding read_primary
  stuck fits b q k e =
      primary_stuck b (read_nest b) q i k e (λ ends.
      elim (cases_lt d b) [
        | inl below ↦ dot_behind k (same_end d b (let low : d ≤ b = omega arith in low) fits p q i j k read (super_call_ends j call) e)
        | inr above ↦ dot_behind k (sym (same_end b d above (let low : b ≤ 256 = omega arith in low) q p i k j e ends read))
      ])

  pub no_expr : d ≤ 256 → (e : ℕ) (y : Expr) (l : Input) → read_expr e i ≡ Done y l → ends_by (shape l) ≡ true → ⊥
  no_expr fits e y l g ends =
      over e y i l g (λ b r.
      let last = expr_stops b (read_nest b) (Ending b (read_nest b)) i (λ k h. h.stops) (plain b (read_nest b)) (λ q k h. stuck fits b q k h) y l r in
      true_is_not_false (sym ends ∙ last.no_end))
