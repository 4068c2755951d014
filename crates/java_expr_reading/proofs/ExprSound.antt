-- What is read as an expression is one.
use Rattle.std.proofs.Common.{◌≡◌, ℕ, zero, suc, ◌≤◌, arith, Bool, true, false, cond, ◌&&◌, not, List, [], ◌∷◌, ◌++◌, Option, Some, None, map, refl, sym, ap, ◌∙◌, subst, inl, inr, append_assoc}
use Rattle.std.specs.List.{AllByRecursion}
use Rattle.std.proofs.lemmas.Bool.{cases_Bool}
use Rattle.std.proofs.lemmas.List.{append-nil}
use Rattle.std.proofs.lemmas.Option.{same_Some}
use Rattle.java_tree.specs.declared.mark.Mark.TheVariants as marks
use Rattle.java_tree.specs.declared.names.ElementType.{ElementType}
use Rattle.java_tree.specs.declared.names.ElementType.TheVariants as elements
use Rattle.java_tree.specs.declared.names.TypeUse.{TypeUse}
use Rattle.java_tree.specs.declared.operators.AssignOp.{AssignOp}
use Rattle.java_tree.specs.declared.operators.PostfixOp.{PostfixOp}
use Rattle.java_tree.specs.declared.operators.PrefixOp.{PrefixOp}
use Rattle.java_tree.specs.declared.expr.Expr.{Expr, out-Expr, roll-Expr, roll-out-Expr}
use Rattle.java_tree.specs.declared.expr.Expr.TheVariants as exprs
use Rattle.java_tree.specs.declared.expr.Expr.TheOpen.{Expr-F}
use Rattle.java_tree.specs.declared.expr.Operation.{Operation}
use Rattle.java_tree.specs.declared.expr.Operation.TheVariants as operations
use Rattle.java_tree.specs.declared.expr.Primary.{Primary}
use Rattle.java_model.specs.Grammar.Signs.{mark, assign_mark, binary_mark, prefix_mark, postfix_mark}
use Rattle.java_model.specs.Grammar.Pieces.{Piece, the, Around, Yield, deeper, each, yield_type}
use Rattle.java_model.specs.Grammar.YieldExpr.{yield_postfixes, yield_expr, yield_operation, yield_primary}
use Rattle.java_model.specs.Grammar.Forms.{ExprLayer, is_assignment, is_target, begins_with_sign, begins_with_sign_in}
use Rattle.java_model.specs.Grammar.Expressions.{Nested, IsElement, IsType, IsPrimary, postfix, IsUnary, a_prefix, a_postfix, IsPrefixOver, prefix, cast_primitive, cast_name, IsOperation, infix_of, instance_of, chain, operand, IsBinary, IsConditional, conditional, unconditional, IsExprOver, assign, no_assign, nested}
use Rattle.java_model.proofs.Grammar.Yield.{yield_expr-Assign, yield_expr-Conditional, yield_expr-Binary, yield_expr-Prefix, yield_expr-Cast, yield_expr-Postfix, yield_operation-Infix, yield_operation-InstanceOf}
use Rattle.java_model.proofs.Grammar.Heads.{of_postfix, no_conditional, unary_in_binary, primary_in_unary}
use Rattle.java_expr_reading.specs.Shapes.{shape_by}
use Rattle.java_expr_reading.specs.Input.{Input, sign, shape, next, Done, Parser, ◌>>=◌, ◌>>◌, pure, sees, expect, many}
use Rattle.java_expr_reading.specs.Reading.Names.{type_use}
use Rattle.java_expr_reading.specs.Reading.Operators.{assign_by, prefix_by, postfix_by, operator_by, begins_operand}
use Rattle.java_expr_reading.specs.Reading.Primaries.{Nest, primary}
use Rattle.java_expr_reading.specs.Reading.Expressions as reading
use Rattle.java_expr_reading.specs.Reading.Expressions.{is_named, chain_of, target_in, target_of, read_nest, read_expr, read_primary}
use Rattle.java_expr_reading.specs.declared.operators.Operator.{Operator}
use Rattle.java_expr_reading.specs.declared.operators.Operator.TheVariants as kinds
use Rattle.java_expr_reading.proofs.Taken.{Fit, fit_both, inv, done, done_value, done_input}
use Rattle.java_expr_reading.proofs.Many.{spread, IsRead, many-sound}
use Rattle.java_expr_reading.proofs.Tokens.{fails, sees-is, expect-taken}
use Rattle.java_expr_reading.proofs.NameLaws.{mapped, none_is_not_some, shape_mark, type_use-sound}
use Rattle.java_expr_reading.proofs.Nests.{NestSound, each-spread, less-left}
use Rattle.java_expr_reading.proofs.OperatorLaws.{assign_by-is, prefix_by-is, postfix_by-is, operator_by-infix, operator_by-instanceof, sign_is_no_operand}
use Rattle.java_expr_reading.proofs.PrimarySound.{primary-sound, braces_over-sound}

-- ---- targets

pub layer_is : (x : Expr) (l : ExprLayer) → out-Expr x ≡ l → x ≡ roll-Expr l
layer_is x l e = sym (roll-out-Expr x) ∙ ap roll-Expr e

pub record IsTargetOf (x : Expr) (t : Primary) : Type 0 where
  pub bare : x ≡ exprs.Postfix t []
  pub target : is_target t ≡ true

bare_target : (p t : Primary) (b : Bool) → is_target p ≡ b → cond b (Some p) None ≡ Some t → (p ≡ t) × (is_target p ≡ true)
bare_target p t true is e = (same_Some p t e, is)
bare_target p t false is e = absurd cc

target_in-is : (x : Expr) (t : Primary) (l : ExprLayer) → out-Expr x ≡ l → target_in l ≡ Some t → IsTargetOf x t
target_in-is x t (Expr-F.Postfix p []) is e =
    let b = bare_target p t (is_target p) refl e in
    subst (λ u. IsTargetOf x u) b.0 (record { bare = layer_is x (Expr-F.Postfix p []) is ∙ exprs.rolls-Postfix p []; target = b.1 })
target_in-is x t _ is e = absurd cc

pub target_of-is : (x : Expr) (t : Primary) → target_of x ≡ Some t → IsTargetOf x t
unfolding target_of
target_of-is x t e = target_in-is x t (out-Expr x) refl e

abbrev pub op_pieces : PostfixOp → List Piece
op_pieces op = the (postfix_mark op) ∷ []

pub postfixes-spread : (ops : List PostfixOp) → yield_postfixes ops ≡ spread op_pieces ops
postfixes-spread [] = refl
postfixes-spread (op ∷ ops) = ap (λ ps. the (postfix_mark op) ∷ ps) (postfixes-spread ops)

-- how the productions of a tree that may be a target follow from that of a unary expression
abbrev pub HasHeads : Nested → Type 0
HasHeads M = (p : Primary) (ops : List PostfixOp) → IsUnary M (exprs.Postfix p ops) → IsPrimary M p

module _ (d : ℕ) (N : Nest) (M : Nested) (known : NestSound d N M) (fits : d ≤ 256) (heads : HasHeads M) where
  -- ---- unary expressions

  postfix_at-some : (o : Option PostfixOp) (op : PostfixOp) (i j : Input) → postfix_by (shape i) ≡ o → reading.postfix_at d N o i ≡ Done (Some op) j
      → Fit (op_pieces op) i j
  postfix_at-some None op i j is e = none_is_not_some op (done_value None (Some op) i j e)
  postfix_at-some (Some x) op i j is e =
      let same = same_Some x op (done_value (Some x) (Some op) (next i) j e) in
      (shape_mark (postfix_mark op) (sign i) (postfix_by-is (shape i) op (is ∙ ap (λ y. Some y) same)), done_input (Some x) (Some op) (next i) j e)

  postfix_op-some : (op : PostfixOp) (i j : Input) → reading.postfix_op d N i ≡ Done (Some op) j → IsRead (λ x. Unit {0}) (λ x a. op_pieces x) d i j op
  unfolding reading.postfix_op
  postfix_op-some op i j e = record { shape = tt; taken = λ a b. postfix_at-some (postfix_by (shape i)) op i j refl e }

  postfix_at-none : (o : Option PostfixOp) (i j : Input) → reading.postfix_at d N o i ≡ Done None j → i ≡ j
  postfix_at-none None i j e = done_input None None i j e
  postfix_at-none (Some x) i j e = none_is_not_some x (sym (done_value (Some x) None (next i) j e))

  postfix_op-none : (i j : Input) → reading.postfix_op d N i ≡ Done None j → i ≡ j
  unfolding reading.postfix_op
  postfix_op-none i j e = postfix_at-none (postfix_by (shape i)) i j e

  postfix-sound : (x : Expr) (i j : Input) → reading.postfix d N i ≡ Done x j → IsRead (IsUnary M) yield_expr d i j x
  unfolding reading.postfix
  postfix-sound x i j e =
      inv (primary d N i) (λ p. many (reading.postfix_op d N) [] >>= λ ops. pure (exprs.Postfix p ops)) x j e (λ p k g r.
      mapped (many (reading.postfix_op d N) [] k) (λ ops. exprs.Postfix p ops) x j r (λ ops h same.
      many-sound (reading.postfix_op d N) (λ y a. op_pieces y) (λ y. Unit {0}) d postfix_op-some postfix_op-none [] ops k j h (λ zs is read stop.
      let first = primary-sound d N M known fits p i k g in
      subst (λ y. IsRead (IsUnary M) yield_expr d i j y) (sym (same ∙ ap (λ ys. exprs.Postfix p ys) is))
      (record {
        shape = a_postfix (postfix p zs refl first.shape);
        taken = λ a b. rw yield_expr-Postfix (fit_both (yield_primary p a) (yield_postfixes zs) i k j (first.taken a b) (subst (λ ps. Fit ps k j) (sym (postfixes-spread zs)) (read.taken a b)));
      }))))

  unary-sound : (x : Expr) (i j : Input) → reading.unary d N i ≡ Done x j → IsRead (IsUnary M) yield_expr d i j x
  unfolding reading.unary
  unary-sound x i j e =
      elim (cases_Bool (reading.begins_prefix d N i)) [
        | inl is ↦ let read = known.prefix x i j (rw is at e) in record { shape = a_prefix read.shape; taken = read.taken }
        | inr isnt ↦ postfix-sound x i j (rw isnt at e)
      ]

  -- ---- prefixes and casts

  unsigned_layer : (x : Expr) (k j : Input) (l : ExprLayer) → out-Expr x ≡ l → IsRead (IsUnary M) yield_expr d k j x → begins_operand (shape k) ≡ true
      → begins_with_sign_in l ≡ false
  unsigned_layer x k j (Expr-F.Prefix op y) is read h =
      let same : x ≡ exprs.Prefix op y = layer_is x (Expr-F.Prefix op y) is ∙ exprs.rolls-Prefix op y in
      let somewhere : Around = record { left = d; within = None; locals = [] } in
      let t : Fit (the (prefix_mark op) ∷ yield_expr y (deeper somewhere)) k j = rw (same, yield_expr-Prefix) at (read.taken somewhere refl) in
      sign_is_no_operand op (ap (λ o. begins_operand (shape_by o)) (sym t.0) ∙ h)
  unsigned_layer x k j _ is read h = refl

  unsigned : (x : Expr) (k j : Input) → IsRead (IsUnary M) yield_expr d k j x → begins_operand (shape k) ≡ true → begins_with_sign x ≡ false
  unsigned x k j read h = unsigned_layer x k j (out-Expr x) refl read h

  cast_is : (el : ElementType) (n : ℕ) (y : Expr) → IsElement el → IsUnary M y → (is_named el ≡ true → begins_with_sign y ≡ false)
      → IsPrefixOver M (exprs.Cast (record { element = el; dims = n }) y)
  cast_is (elements.Primitive p) n y h g s = cast_primitive p n y refl g
  cast_is (elements.Named name) n y h g s = cast_name name n y refl h (s refl) g

  cast_operand-sound : (t : TypeUse) (x : Expr) (i k j : Input) → IsType t
      → Fit (the marks.LeftParen ∷ (yield_type t ++ the marks.RightParen ∷ [])) i k → reading.cast_operand d N t k ≡ Done x j
      → IsRead (IsPrefixOver M) yield_expr (suc d) i j x
  unfolding reading.cast_operand
  cast_operand-sound t x i k j h before e =
      elim (cases_Bool (is_named t.element && not (begins_operand (shape k)))) [
        | inl is ↦ fails x j (rw is at e)
        | inr isnt ↦
            mapped (reading.unary d N k) (λ y. exprs.Cast t y) x j (rw isnt at e) (λ y g same.
            let read = unary-sound y k j g in
            subst (λ z. IsRead (IsPrefixOver M) yield_expr (suc d) i j z) (sym same)
            (record {
              shape = cast_is t.element t.dims y h read.shape (λ is. unsigned y k j read (operand_begins (is_named t.element) (begins_operand (shape k)) is isnt));
              taken = λ a b. rw yield_expr-Cast (cast_taken t y i k j (deeper a) before (read.taken (deeper a) (less-left a (suc d) b)));
            }))
      ]
    where
      operand_begins : (a b : Bool) → a ≡ true → (a && not b) ≡ false → b ≡ true
      operand_begins true true p q = refl
      operand_begins true false p q = absurd cc
      operand_begins false b p q = absurd cc

      cast_taken : (t : TypeUse) (y : Expr) (i k j : Input) (a : Around) → Fit (the marks.LeftParen ∷ (yield_type t ++ the marks.RightParen ∷ [])) i k
          → Fit (yield_expr y a) k j → Fit (the marks.LeftParen ∷ (yield_type t ++ the marks.RightParen ∷ yield_expr y a)) i j
      cast_taken t y i k j a p q = (
        p.0,
        subst (λ ps. Fit ps (next i) j) (append_assoc (yield_type t) (the marks.RightParen ∷ []) (yield_expr y a))
            (fit_both (yield_type t ++ the marks.RightParen ∷ []) (yield_expr y a) (next i) k j p.1 q),
      )

  cast-sound : (x : Expr) (i j : Input) → reading.cast d N i ≡ Done x j → IsRead (IsPrefixOver M) yield_expr (suc d) i j x
  unfolding reading.cast
  cast-sound x i j e =
      inv (expect marks.LeftParen i) (λ u. type_use >>= λ t. expect marks.RightParen >> reading.cast_operand d N t) x j e (λ u k g r.
      inv (type_use k) (λ t. expect marks.RightParen >> reading.cast_operand d N t) x j r (λ t l h q.
      inv (expect marks.RightParen l) (λ v. reading.cast_operand d N t) x j q (λ v m p o.
      let opened = expect-taken marks.LeftParen i k u g in
      let type = type_use-sound t k l h in
      cast_operand-sound t x i m j type.shape
      (opened.0, subst (λ z. Fit (yield_type t ++ the marks.RightParen ∷ []) z m) (sym opened.1) (fit_both (yield_type t) (the marks.RightParen ∷ []) k l m type.taken (expect-taken marks.RightParen l m v p)))
      o)))

  prefix_at-sound : (o : Option PrefixOp) (x : Expr) (i j : Input) → prefix_by (shape i) ≡ o → reading.prefix_at d N o i ≡ Done x j
      → IsRead (IsPrefixOver M) yield_expr (suc d) i j x
  prefix_at-sound None x i j is e = cast-sound x i j e
  prefix_at-sound (Some op) x i j is e =
      mapped (reading.unary d N (next i)) (λ y. exprs.Prefix op y) x j e (λ y g same.
      let read = unary-sound y (next i) j g in
      subst (λ z. IsRead (IsPrefixOver M) yield_expr (suc d) i j z) (sym same)
      (record {
        shape = prefix op y refl read.shape;
        taken = λ a b. rw yield_expr-Prefix (shape_mark (prefix_mark op) (sign i) (prefix_by-is (shape i) op is), read.taken (deeper a) (less-left a (suc d) b));
      }))

  pub prefix_over-sound : (x : Expr) (i j : Input) → reading.prefix_over d N i ≡ Done x j → IsRead (IsPrefixOver M) yield_expr (suc d) i j x
  unfolding reading.prefix_over
  prefix_over-sound x i j e = prefix_at-sound (prefix_by (shape i)) x i j refl e

  -- ---- chains of binary operators

  operation_by-some : (k : ℕ) (Operand : Expr → Type 0) (read : Parser Expr) → ((x : Expr) (i j : Input) → read i ≡ Done x j → IsRead Operand yield_expr d i j x)
      → (kind : Operator) (o : Operation) (i j : Input) → operator_by k (shape i) ≡ kind → reading.operation_by d N read kind i ≡ Done (Some o) j
      → IsRead (IsOperation k Operand) yield_operation d i j o
  operation_by-some k Operand read sound (kinds.Infix op) o i j is e =
      mapped (read (next i)) (λ y. Some (operations.Infix op y)) (Some o) j e (λ y g same.
      let inner = sound y (next i) j g in
      let it = operator_by-infix k (shape i) op is in
      subst (λ z. IsRead (IsOperation k Operand) yield_operation d i j z) (sym (same_Some o (operations.Infix op y) same))
      (record {
        shape = infix_of op y refl it.level inner.shape;
        taken = λ a b. rw yield_operation-Infix (shape_mark (binary_mark op) (sign i) it.mark, inner.taken a b);
      }))
  operation_by-some k Operand read sound kinds.InstanceOf o i j is e =
      mapped (type_use (next i)) (λ t. Some (operations.InstanceOf t)) (Some o) j e (λ t g same.
      let inner = type_use-sound t (next i) j g in
      let it = operator_by-instanceof k (shape i) is in
      subst (λ z. IsRead (IsOperation k Operand) yield_operation d i j z) (sym (same_Some o (operations.InstanceOf t) same))
      (record {
        shape = instance_of t refl it.level inner.shape;
        taken = λ a b. rw yield_operation-InstanceOf (shape_mark marks.InstanceOf (sign i) it.mark, inner.taken);
      }))
  operation_by-some k Operand read sound kinds.Other o i j is e = none_is_not_some o (done_value None (Some o) i j e)

  operation_by-none : (read : Parser Expr) (kind : Operator) (i j : Input) → reading.operation_by d N read kind i ≡ Done None j → i ≡ j
  operation_by-none read (kinds.Infix op) i j e = mapped (read (next i)) (λ y. Some (operations.Infix op y)) None j e (λ y g same. none_is_not_some (operations.Infix op y) same)
  operation_by-none read kinds.InstanceOf i j e = mapped (type_use (next i)) (λ t. Some (operations.InstanceOf t)) None j e (λ t g same. none_is_not_some (operations.InstanceOf t) same)
  operation_by-none read kinds.Other i j e = done_input None None i j e

  operation-some : (k : ℕ) (Operand : Expr → Type 0) (read : Parser Expr) → ((x : Expr) (i j : Input) → read i ≡ Done x j → IsRead Operand yield_expr d i j x)
      → (o : Operation) (i j : Input) → reading.operation d N k read i ≡ Done (Some o) j → IsRead (IsOperation k Operand) yield_operation d i j o
  unfolding reading.operation
  operation-some k Operand read sound o i j e = operation_by-some k Operand read sound (operator_by k (shape i)) o i j refl e

  operation-none : (k : ℕ) (read : Parser Expr) (i j : Input) → reading.operation d N k read i ≡ Done None j → i ≡ j
  unfolding reading.operation
  operation-none k read i j e = operation_by-none read (operator_by k (shape i)) i j e

  abbrev pub operation_pieces : List Operation → Yield
  operation_pieces os a = spread (λ o. yield_operation o a) os

  chain-sound : (k : ℕ) (x : Expr) (os : List Operation) (i l j : Input) → IsRead (IsBinary M k) yield_expr d i l x
      → IsRead (AllByRecursion (IsOperation (suc k) (IsBinary M k))) operation_pieces d l j os → IsRead (IsBinary M (suc k)) yield_expr d i j (chain_of x os)
  unfolding IsBinary
  chain-sound k x [] i l j first rest = record { shape = operand first.shape; taken = λ a b. subst (λ z. Fit (yield_expr x a) i z) (rest.taken a b) (first.taken a b) }
  chain-sound k x (o ∷ os) i l j first rest = record {
    shape = chain x o os refl first.shape rest.shape.0 rest.shape.1;
    taken = λ a b. rw yield_expr-Binary (fit_both (yield_expr x a) (each (map yield_operation (o ∷ os)) a) i l j (first.taken a b) (subst (λ ps. Fit ps l j) (sym (each-spread yield_operation (o ∷ os) a)) (rest.taken a b)));
  }

  binary-sound : (k : ℕ) (x : Expr) (i j : Input) → reading.binary d N k i ≡ Done x j → IsRead (IsBinary M k) yield_expr d i j x
  unfolding reading.binary IsBinary
  binary-sound zero x i j e = unary-sound x i j e
  binary-sound (suc k) x i j e =
      inv (reading.binary d N k i) (λ y. many (reading.operation d N (suc k) (reading.binary d N k)) [] >>= λ os. pure (chain_of y os)) x j e (λ y l g r.
      mapped (many (reading.operation d N (suc k) (reading.binary d N k)) [] l) (λ os. chain_of y os) x j r (λ os h same.
      many-sound (reading.operation d N (suc k) (reading.binary d N k)) yield_operation (IsOperation (suc k) (IsBinary M k)) d
      (operation-some (suc k) (IsBinary M k) (reading.binary d N k) (binary-sound k)) (operation-none (suc k) (reading.binary d N k)) [] os l j h (λ zs is rest stop.
      subst (λ z. IsRead (IsBinary M (suc k)) yield_expr d i j z) (sym (same ∙ ap (λ ys. chain_of y ys) is))
      (chain-sound k y zs i l j (binary-sound k y i l g) rest))))

  -- ---- conditionals and assignments

  conditional_of-sound : (c y z x : Expr) (i j : Input) → reading.conditional_of d N c y z i ≡ Done x j → (is_assignment z ≡ false) × (done (exprs.Conditional c y z) i ≡ Done x j)
  conditional_of-sound c y z x i j e =
      elim (cases_Bool (is_assignment z)) [
        | inl is ↦ fails x j (rw is at e)
        | inr isnt ↦ (isnt, rw isnt at e)
      ]

  choices-sound : (c x : Expr) (i l j : Input) → IsRead (IsBinary M 10) yield_expr d i l c → sign l ≡ Some (mark marks.Question)
      → reading.choices d N c (next l) ≡ Done x j → IsRead (IsConditional M) yield_expr d i j x
  unfolding reading.choices
  choices-sound c x i l j test h e =
      inv (N.expr (next l)) (λ y. expect marks.Colon >> (N.expr >>= λ z. reading.conditional_of d N c y z)) x j e (λ y m g r.
      inv (expect marks.Colon m) (λ u. N.expr >>= λ z. reading.conditional_of d N c y z) x j r (λ u n q o.
      inv (N.expr n) (λ z. reading.conditional_of d N c y z) x j o (λ z w p v.
      let end = conditional_of-sound c y z x w j v in
      let then_ = known.expr y (next l) m g in
      let colon = expect-taken marks.Colon m n u q in
      let else_ = known.expr z n w p in
      subst (λ t. IsRead (IsConditional M) yield_expr d i j t) (done_value (exprs.Conditional c y z) x w j end.1)
      (record {
        shape = conditional c y z refl test.shape then_.shape else_.shape end.0;
        taken = λ a b.
            let third : Fit (yield_expr z (deeper a)) n j = subst (λ t. Fit (yield_expr z (deeper a)) n t) (done_input (exprs.Conditional c y z) x w j end.1) (else_.taken (deeper a) (less-left a d b)) in
            rw yield_expr-Conditional (fit_both (yield_expr c a) (the marks.Question ∷ (yield_expr y (deeper a) ++ the marks.Colon ∷ yield_expr z (deeper a))) i l j (test.taken a b)
            (h, fit_both (yield_expr y (deeper a)) (the marks.Colon ∷ yield_expr z (deeper a)) (next l) m j (then_.taken (deeper a) (less-left a d b)) (fit_both (the marks.Colon ∷ []) (yield_expr z (deeper a)) m n j colon third)));
      }))))

  conditional-sound : (x : Expr) (i j : Input) → reading.conditional d N i ≡ Done x j → IsRead (IsConditional M) yield_expr d i j x
  unfolding reading.conditional
  conditional-sound x i j e =
      inv (reading.binary d N 10 i) (λ c. reading.conditional_end d N c) x j e (λ c l g r.
      let test = binary-sound 10 c i l g in
      elim (cases_Bool (sees marks.Question l)) [
        | inl is ↦ choices-sound c x i l j test (sees-is marks.Question l is) (rw is at r)
        | inr isnt ↦
            let q : done c l ≡ done x j = rw isnt at r in
            subst (λ z. IsRead (IsConditional M) yield_expr d i j z) (done_value c x l j q)
            (record { shape = unconditional test.shape; taken = λ a b. subst (λ z. Fit (yield_expr c a) i z) (done_input c x l j q) (test.taken a b) })
      ])

  primary_of_conditional : (t : Primary) (x : Expr) → x ≡ exprs.Postfix t [] → IsConditional M x → IsPrimary M t
  primary_of_conditional t x same (conditional c y z e p q r s) = absurd (no_conditional x c y z (of_postfix t [] same) e)
  primary_of_conditional t x same (unconditional h) = heads t [] (subst (IsUnary M) same (unary_in_binary M 10 x (of_postfix t [] same) h))

  assign_to-sound : (op : AssignOp) (o : Option Primary) (y x : Expr) (i l j : Input) → target_of y ≡ o → IsRead (IsConditional M) yield_expr d i l y
      → sign l ≡ Some (mark (assign_mark op)) → reading.assign_to d N op o l ≡ Done x j → IsRead (IsExprOver M) yield_expr d i j x
  assign_to-sound op None y x i l j is before h e = fails x j e
  assign_to-sound op (Some t) y x i l j is before h e =
      mapped (N.expr (next l)) (λ v. exprs.Assign t op v) x j e (λ v g same.
      let target = target_of-is y t is in
      let inner = known.expr v (next l) j g in
      subst (λ z. IsRead (IsExprOver M) yield_expr d i j z) (sym same)
      (record {
        shape = assign t op v refl (primary_of_conditional t y target.bare before.shape) target.target inner.shape;
        taken = λ a b.
            let whole : yield_expr y a ≡ yield_primary t a = ap (λ z. yield_expr z a) target.bare ∙ yield_expr-Postfix t [] a ∙ append-nil (yield_primary t a) in
            rw yield_expr-Assign (fit_both (yield_primary t a) (the (assign_mark op) ∷ yield_expr v (deeper a)) i l j (subst (λ ps. Fit ps i l) whole (before.taken a b)) (h, inner.taken (deeper a) (less-left a d b)));
      }))

  assigned-sound : (o : Option AssignOp) (y x : Expr) (i l j : Input) → assign_by (shape l) ≡ o → IsRead (IsConditional M) yield_expr d i l y
      → reading.assigned d N y o l ≡ Done x j → IsRead (IsExprOver M) yield_expr d i j x
  assigned-sound None y x i l j is before e =
      subst (λ z. IsRead (IsExprOver M) yield_expr d i j z) (done_value y x l j e)
      (record { shape = no_assign before.shape; taken = λ a b. subst (λ z. Fit (yield_expr y a) i z) (done_input y x l j e) (before.taken a b) })
  assigned-sound (Some op) y x i l j is before e = assign_to-sound op (target_of y) y x i l j refl before (shape_mark (assign_mark op) (sign l) (assign_by-is (shape l) op is)) e

  pub expr_over-sound : (x : Expr) (i j : Input) → reading.expr_over d N i ≡ Done x j → IsRead (IsExprOver M) yield_expr d i j x
  unfolding reading.expr_over
  expr_over-sound x i j e =
      inv (reading.conditional d N i) (λ y. reading.assignment_end d N y) x j e (λ y l g r.
      assigned-sound (assign_by (shape l)) y x i l j refl (conditional-sound y i l g) r)

-- ---- the knot

pub nest-sound : (d : ℕ) → d ≤ 256 → NestSound d (read_nest d) (nested d)
unfolding read_nest nested
nest-sound zero fits = record { expr = λ x i j e. fails x j e; prefix = λ x i j e. fails x j e; braces = λ b i j e. fails b j e }
nest-sound (suc d) fits =
    let within : d ≤ 256 = omega arith in
    let inner = nest-sound d within in
    record {
      expr = expr_over-sound d (read_nest d) (nested d) inner within (primary_in_unary d);
      prefix = prefix_over-sound d (read_nest d) (nested d) inner within (primary_in_unary d);
      braces = braces_over-sound d (read_nest d) (nested d) inner within;
    }
