-- An expression with less of the depth left is one with more of it too.
use Rattle.std.proofs.Common.{ℕ, zero, suc, ◌≤◌, List, [], ◌∷◌, arith}
use Rattle.std.specs.List.{AllByRecursion}
use Rattle.java_tree.specs.declared.expr.ArrayInitializer.{ArrayInitializer}
use Rattle.java_tree.specs.declared.expr.Expr.{Expr}
use Rattle.java_tree.specs.declared.expr.First.{First}
use Rattle.java_tree.specs.declared.expr.Initializer.{Initializer}
use Rattle.java_tree.specs.declared.expr.Operation.{Operation}
use Rattle.java_tree.specs.declared.expr.Primary.{Primary}
use Rattle.java_tree.specs.declared.expr.Selector.{Selector}
use Rattle.java_model.specs.Grammar.Expressions.{Nested, IsFirst, literal, this, parenthesized, class_literal, void_class, qualified_this, super_field, call, super_call, new, new_array_of, IsNewArray, new_array, IsSelector, field, member_call, index, qualified_new, IsPrimary, primary_of, primary_of_name, primary_of_array, postfix, IsUnary, a_prefix, a_postfix, IsPrefixOver, prefix, cast_primitive, cast_name, IsOperation, infix_of, instance_of, chain, operand, IsBinary, IsConditional, conditional, unconditional, IsExprOver, assign, no_assign, IsInitializer, value, of_array, nest, nested}

-- what is nested in one way is nested in another one
pub record Below (N M : Nested) : Type 0 where
  pub expr : (x : Expr) → N.expr x → M.expr x
  pub prefix : (x : Expr) → N.prefix x → M.prefix x
  pub braces : (b : ArrayInitializer) → N.braces b → M.braces b

all_up : {X : Type 0} (P R : X → Type 0) → ((x : X) → P x → R x) → (xs : List X) → AllByRecursion P xs → AllByRecursion R xs
all_up P R f [] h = tt
all_up P R f (x ∷ xs) h = (f x h.0, all_up P R f xs h.1)

module _ (N M : Nested) (up : Below N M) where
  exprs_up : (xs : List Expr) → AllByRecursion N.expr xs → AllByRecursion M.expr xs
  exprs_up xs h = all_up N.expr M.expr up.expr xs h

  first_up : (f : First) → IsFirst N f → IsFirst M f
  first_up f (literal l e) = literal l e
  first_up f (this s e) = this s e
  first_up f (parenthesized x e h) = parenthesized x e (up.expr x h)
  first_up f (class_literal t e h) = class_literal t e h
  first_up f (void_class e) = void_class e
  first_up f (qualified_this n s e h) = qualified_this n s e h
  first_up f (super_field n s i e h) = super_field n s i e h
  first_up f (call n args e h g) = call n args e h (exprs_up args g)
  first_up f (super_call n s i args e h g) = super_call n s i args e h (exprs_up args g)
  first_up f (new c e h) = new c e (h.0, exprs_up c.arguments h.1)
  first_up f (new_array_of t n b e h g) = new_array_of t n b e h (up.braces b g)

  new_array_up : (f : First) → IsNewArray N f → IsNewArray M f
  new_array_up f (new_array t size sizes n e h g gs) = new_array t size sizes n e h (up.expr size g) (exprs_up sizes gs)

  selector_up : (s : Selector) → IsSelector N s → IsSelector M s
  selector_up s (field i e) = field i e
  selector_up s (member_call i args e h) = member_call i args e (exprs_up args h)
  selector_up s (index x e h) = index x e (up.expr x h)
  selector_up s (qualified_new c e h) = qualified_new c e (h.0, exprs_up c.arguments h.1)

  selectors_up : (ss : List Selector) → AllByRecursion (IsSelector N) ss → AllByRecursion (IsSelector M) ss
  selectors_up ss h = all_up (IsSelector N) (IsSelector M) selector_up ss h

  pub primary_up : (p : Primary) → IsPrimary N p → IsPrimary M p
  primary_up p (primary_of h g) = primary_of (first_up p.first h) (selectors_up p.selectors g)
  primary_up p (primary_of_name n e h g k) = primary_of_name n e h g (selectors_up p.selectors k)
  primary_up p (primary_of_array h g k) = primary_of_array (new_array_up p.first h) g (selectors_up p.selectors k)

  unary_up : (x : Expr) → IsUnary N x → IsUnary M x
  unary_up x (a_prefix h) = a_prefix (up.prefix x h)
  unary_up x (a_postfix (postfix p ops e h)) = a_postfix (postfix p ops e (primary_up p h))

  prefix_up : (x : Expr) → IsPrefixOver N x → IsPrefixOver M x
  prefix_up x (prefix op y e h) = prefix op y e (unary_up y h)
  prefix_up x (cast_primitive p n y e h) = cast_primitive p n y e (unary_up y h)
  prefix_up x (cast_name name n y e h g k) = cast_name name n y e h g (unary_up y k)

  operation_up : (k : ℕ) (P R : Expr → Type 0) → ((x : Expr) → P x → R x) → (o : Operation) → IsOperation k P o → IsOperation k R o
  operation_up k P R f o (infix_of op y e l h) = infix_of op y e l (f y h)
  operation_up k P R f o (instance_of t e l h) = instance_of t e l h

  binary_up : (k : ℕ) (x : Expr) → IsBinary N k x → IsBinary M k x
  unfolding IsBinary
  binary_up zero x h = unary_up x h
  binary_up (suc k) x (chain y o os e h p q) =
      chain y o os e (binary_up k y h) (operation_up (suc k) (IsBinary N k) (IsBinary M k) (binary_up k) o p)
      (all_up (IsOperation (suc k) (IsBinary N k)) (IsOperation (suc k) (IsBinary M k)) (operation_up (suc k) (IsBinary N k) (IsBinary M k) (binary_up k)) os q)
  binary_up (suc k) x (operand h) = operand (binary_up k x h)

  conditional_up : (x : Expr) → IsConditional N x → IsConditional M x
  conditional_up x (conditional c y z e h p q s) = conditional c y z e (binary_up 10 c h) (up.expr y p) (up.expr z q) s
  conditional_up x (unconditional h) = unconditional (binary_up 10 x h)

  expr_up : (x : Expr) → IsExprOver N x → IsExprOver M x
  expr_up x (assign t op v e h s g) = assign t op v e (primary_up t h) s (up.expr v g)
  expr_up x (no_assign h) = no_assign (conditional_up x h)

  initializer_up : (i : Initializer) → IsInitializer N i → IsInitializer M i
  initializer_up i (value x e h) = value x e (up.expr x h)
  initializer_up i (of_array b e h) = of_array b e (up.braces b h)

  nest_up : Below (nest N) (nest M)
  nest_up = record { expr = expr_up; prefix = prefix_up; braces = λ b h. all_up (IsInitializer N) (IsInitializer M) initializer_up b.elements h }

pub nested_up : (d e : ℕ) → d ≤ e → Below (nested d) (nested e)
unfolding nested
nested_up zero e h = record { expr = λ x g. absurd g; prefix = λ x g. absurd g; braces = λ b g. absurd g }
nested_up (suc d) zero h = absurd (omega arith)
nested_up (suc d) (suc e) h = let low : d ≤ e = omega arith in nest_up (nested d) (nested e) (nested_up d e low)
