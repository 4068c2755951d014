-- Where nothing goes on: an expression whose primary expression ends there ends there too.
use Rattle.std.proofs.Common.{◌≡◌, ℕ, zero, suc, true, false, ◌&&◌, [], Option, None, refl, sym, ◌∙◌, subst, inl, inr}
use Rattle.std.proofs.lemmas.Bool.{cases_Bool}
use Rattle.java_tree.specs.declared.mark.Mark.TheVariants as marks
use Rattle.java_tree.specs.declared.expr.Expr.{Expr}
use Rattle.java_tree.specs.declared.expr.Expr.TheVariants as exprs
use Rattle.java_expr_reading.specs.Shapes.{same_mark, is_mark}
use Rattle.java_expr_reading.specs.Input.{Input, shape, Done, Parser, ◌>>=◌, pure, sees, many_from, many}
use Rattle.java_expr_reading.specs.Reading.Operators.{assign_by, postfix_by, operator_by, begins_operand}
use Rattle.java_expr_reading.specs.Reading.Primaries as primaries
use Rattle.java_expr_reading.specs.Reading.Primaries.{Nest}
use Rattle.java_expr_reading.specs.Reading.Expressions as reading
use Rattle.java_expr_reading.specs.Reading.Expressions.{chain_of}
use Rattle.java_expr_reading.specs.declared.operators.Operator.TheVariants as kinds
use Rattle.java_expr_reading.specs.declared.shape.Shape.{Shape}
use Rattle.java_expr_reading.specs.declared.shape.Shape.TheVariants as shapes
use Rattle.java_expr_reading.proofs.Taken.{inv, done_input}
use Rattle.java_expr_reading.proofs.Tokens.{fails}
use Rattle.java_expr_reading.proofs.NameLaws.{mapped}

-- no operator goes on with a token
pub record NoOperator (s : Shape) : Type 0 where
  pub bracket : is_mark marks.LeftBracket s ≡ false
  pub postfix : postfix_by s ≡ None
  pub operator : (n : ℕ) → operator_by n s ≡ kinds.Other
  pub question : is_mark marks.Question s ≡ false
  pub assign : assign_by s ≡ None

-- nor does a selector
pub record Quiet (s : Shape) : Type 0 where
  pub operators : NoOperator s
  pub dot : is_mark marks.Dot s ≡ false

pub operand_quiet : (s : Shape) → begins_operand s ≡ true → Quiet s
unfolding same_mark
operand_quiet shapes.Word h = record { operators = record { bracket = refl; postfix = refl; operator = λ n. refl; question = refl; assign = refl }; dot = refl }
operand_quiet shapes.This h = record { operators = record { bracket = refl; postfix = refl; operator = λ n. refl; question = refl; assign = refl }; dot = refl }
operand_quiet shapes.Super h = record { operators = record { bracket = refl; postfix = refl; operator = λ n. refl; question = refl; assign = refl }; dot = refl }
operand_quiet shapes.Literal h = record { operators = record { bracket = refl; postfix = refl; operator = λ n. refl; question = refl; assign = refl }; dot = refl }
operand_quiet (shapes.Mark marks.LeftParen) h = record { operators = record { bracket = refl; postfix = refl; operator = λ n. refl; question = refl; assign = refl }; dot = refl }
operand_quiet (shapes.Mark marks.New) h = record { operators = record { bracket = refl; postfix = refl; operator = λ n. refl; question = refl; assign = refl }; dot = refl }
operand_quiet (shapes.Mark marks.Void) h = record { operators = record { bracket = refl; postfix = refl; operator = λ n. refl; question = refl; assign = refl }; dot = refl }
operand_quiet (shapes.Mark marks.Bang) h = record { operators = record { bracket = refl; postfix = refl; operator = λ n. refl; question = refl; assign = refl }; dot = refl }
operand_quiet (shapes.Mark marks.Tilde) h = record { operators = record { bracket = refl; postfix = refl; operator = λ n. refl; question = refl; assign = refl }; dot = refl }
operand_quiet (shapes.Mark marks.Boolean) h = record { operators = record { bracket = refl; postfix = refl; operator = λ n. refl; question = refl; assign = refl }; dot = refl }
operand_quiet (shapes.Mark marks.Byte) h = record { operators = record { bracket = refl; postfix = refl; operator = λ n. refl; question = refl; assign = refl }; dot = refl }
operand_quiet (shapes.Mark marks.Short) h = record { operators = record { bracket = refl; postfix = refl; operator = λ n. refl; question = refl; assign = refl }; dot = refl }
operand_quiet (shapes.Mark marks.Char) h = record { operators = record { bracket = refl; postfix = refl; operator = λ n. refl; question = refl; assign = refl }; dot = refl }
operand_quiet (shapes.Mark marks.Int) h = record { operators = record { bracket = refl; postfix = refl; operator = λ n. refl; question = refl; assign = refl }; dot = refl }
operand_quiet (shapes.Mark marks.Long) h = record { operators = record { bracket = refl; postfix = refl; operator = λ n. refl; question = refl; assign = refl }; dot = refl }
operand_quiet (shapes.Mark marks.Float) h = record { operators = record { bracket = refl; postfix = refl; operator = λ n. refl; question = refl; assign = refl }; dot = refl }
operand_quiet (shapes.Mark marks.Double) h = record { operators = record { bracket = refl; postfix = refl; operator = λ n. refl; question = refl; assign = refl }; dot = refl }
operand_quiet (shapes.Mark m) h = absurd cc
operand_quiet _ h = absurd cc

pub colon_quiet : Quiet (shapes.Mark marks.Colon)
unfolding same_mark
colon_quiet = record { operators = record { bracket = refl; postfix = refl; operator = λ n. refl; question = refl; assign = refl }; dot = refl }

abbrev pub EndsOnly : {A : Type 0} → Parser A → Input → (Input → Type 0) → Type 0
EndsOnly {A} p i G = (x : A) (k : Input) → p i ≡ Done x k → G k

many_none : {A : Type 0} (item : Parser (Option A)) (k : Input) → item k ≡ Done None k → many item [] k ≡ Done [] k
unfolding many many_from
many_none item k h = rw h refl

module _ (d : ℕ) (N : Nest) where
  -- nothing goes on at a place
  pub record Stops (k : Input) : Type 0 where
    pub selector : primaries.selector d N k ≡ Done None k
    pub operators : NoOperator (shape k)

  pub quiet_stops : (k : Input) → Quiet (shape k) → Stops k
  unfolding primaries.selector sees
  quiet_stops k q = record { selector = rw (let o = q.operators in o.bracket, q.dot) refl; operators = q.operators }

  pub primary_stops : (G : Input → Type 0) (i : Input) → ((k : Input) → G k → Stops k)
      → EndsOnly (primaries.first d N) i G → EndsOnly (primaries.primary d N) i G
  unfolding primaries.primary primaries.selectors_of
  primary_stops G i stops head p k e =
      inv (primaries.first d N i) (λ f. primaries.selectors_of d N f >>= λ ss. pure (record { first = f; selectors = ss })) p k e (λ f l g r.
      mapped (primaries.selectors_of d N f l) (λ ss. record { first = f; selectors = ss }) p k r (λ ss h same.
      let here = head f l g in
      let stop = stops l here in
      elim (cases_Bool (primaries.is_new_array f && sees marks.LeftBracket l)) [
        | inl is ↦ fails ss k (rw is at h)
        | inr isnt ↦
            let s : many (primaries.selector d N) [] l ≡ Done ss k = rw isnt at h in
            subst G (done_input [] ss l k (sym (many_none (primaries.selector d N) l stop.selector) ∙ s)) here
      ]))

  module _ (G : Input → Type 0) (i : Input) (stops : (k : Input) → G k → Stops k) where
    postfix_op_none : (k : Input) → G k → reading.postfix_op d N k ≡ Done None k
    unfolding reading.postfix_op
    postfix_op_none k g = let s = stops k g in let o = s.operators in rw o.postfix refl

    postfix_stops : EndsOnly (primaries.primary d N) i G → EndsOnly (reading.postfix d N) i G
    unfolding reading.postfix
    postfix_stops head x k e =
        inv (primaries.primary d N i) (λ p. many (reading.postfix_op d N) [] >>= λ ops. pure (exprs.Postfix p ops)) x k e (λ p l g r.
        mapped (many (reading.postfix_op d N) [] l) (λ ops. exprs.Postfix p ops) x k r (λ ops h same.
        let here = head p l g in
        subst G (done_input [] ops l k (sym (many_none (reading.postfix_op d N) l (postfix_op_none l here)) ∙ h)) here))

    unary_stops : reading.begins_prefix d N i ≡ false → EndsOnly (primaries.primary d N) i G → EndsOnly (reading.unary d N) i G
    unfolding reading.unary
    unary_stops plain head x k e = postfix_stops head x k (rw plain at e)

    operation_none : (n : ℕ) (read : Parser Expr) (k : Input) → G k → reading.operation d N n read k ≡ Done None k
    unfolding reading.operation
    operation_none n read k g = let s = stops k g in let o = s.operators in rw (o.operator n) refl

    binary_stops : (n : ℕ) → reading.begins_prefix d N i ≡ false → EndsOnly (primaries.primary d N) i G → EndsOnly (reading.binary d N n) i G
    unfolding reading.binary
    binary_stops zero plain head x k e = unary_stops plain head x k e
    binary_stops (suc n) plain head x k e =
        inv (reading.binary d N n i) (λ y. many (reading.operation d N (suc n) (reading.binary d N n)) [] >>= λ os. pure (chain_of y os)) x k e (λ y l g r.
        mapped (many (reading.operation d N (suc n) (reading.binary d N n)) [] l) (λ os. chain_of y os) x k r (λ os h same.
        let here = binary_stops n plain head y l g in
        subst G (done_input [] os l k (sym (many_none (reading.operation d N (suc n) (reading.binary d N n)) l (operation_none (suc n) (reading.binary d N n) l here)) ∙ h)) here))

    conditional_stops : reading.begins_prefix d N i ≡ false → EndsOnly (primaries.primary d N) i G → EndsOnly (reading.conditional d N) i G
    unfolding reading.conditional sees
    conditional_stops plain head x k e =
        inv (reading.binary d N 10 i) (reading.conditional_end d N) x k e (λ c l g r.
        let here = binary_stops 10 plain head c l g in
        let s = stops l here in
        let o = s.operators in
        subst G (done_input c x l k (rw o.question at r)) here)

    pub expr_stops : reading.begins_prefix d N i ≡ false → EndsOnly (primaries.primary d N) i G → EndsOnly (reading.expr_over d N) i G
    unfolding reading.expr_over
    expr_stops plain head x k e =
        inv (reading.conditional d N i) (reading.assignment_end d N) x k e (λ y l g r.
        let here = conditional_stops plain head y l g in
        let s = stops l here in
        let o = s.operators in
        subst G (done_input y x l k (rw o.assign at r)) here)
