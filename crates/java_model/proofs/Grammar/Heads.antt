-- A tree of one form has a shape only by the productions of that form.
use Rattle.std.proofs.Common.{◌≡◌, ℕ, zero, suc, List, ◌∷◌, ap, subst, refl}
use Rattle.java_tree.specs.declared.names.TypeUse.{TypeUse}
use Rattle.java_tree.specs.declared.operators.AssignOp.{AssignOp}
use Rattle.java_tree.specs.declared.operators.PostfixOp.{PostfixOp}
use Rattle.java_tree.specs.declared.operators.PrefixOp.{PrefixOp}
use Rattle.java_tree.specs.declared.expr.Expr.{Expr, out-Expr}
use Rattle.java_tree.specs.declared.expr.Expr.TheVariants as exprs
use Rattle.java_tree.specs.declared.expr.Operation.{Operation}
use Rattle.java_tree.specs.declared.expr.Primary.{Primary}
use Rattle.java_model.specs.Grammar.Pieces.{less}
use Rattle.java_model.specs.Grammar.Expressions.{Nested, IsExpr, IsPrefixOver, prefix, cast_primitive, cast_name, IsUnary, a_prefix, a_postfix, postfix, IsPrimary, IsBinary, chain, operand, conditional, unconditional, IsExprOver, assign, no_assign, nested}
use Rattle.java_model.proofs.Grammar.Layers.{expr_layers}

-- the forms that no operator of the grammar's binary levels has
pub data IsUnaryForm (x : Expr) : Type 0 where
  of_prefix : (op : PrefixOp) (y : Expr) → x ≡ exprs.Prefix op y → IsUnaryForm x
  of_cast : (t : TypeUse) (y : Expr) → x ≡ exprs.Cast t y → IsUnaryForm x
  of_postfix : (p : Primary) (ops : List PostfixOp) → x ≡ exprs.Postfix p ops → IsUnaryForm x

pub no_binary : (x y : Expr) (os : List Operation) → IsUnaryForm x → x ≡ exprs.Binary y os → ⊥
no_binary x y os (of_prefix op z e) h = cc
no_binary x y os (of_cast t z e) h = cc
no_binary x y os (of_postfix p ops e) h = cc

pub no_conditional : (x c y z : Expr) → IsUnaryForm x → x ≡ exprs.Conditional c y z → ⊥
no_conditional x c y z (of_prefix op w e) h = cc
no_conditional x c y z (of_cast t w e) h = cc
no_conditional x c y z (of_postfix p ops e) h = cc

pub no_assignment : (x : Expr) (t : Primary) (op : AssignOp) (v : Expr) → IsUnaryForm x → x ≡ exprs.Assign t op v → ⊥
no_assignment x t op v (of_prefix o w e) h = cc
no_assignment x t op v (of_cast u w e) h = cc
no_assignment x t op v (of_postfix p ops e) h = cc

pub unary_in_binary : (N : Nested) (k : ℕ) (x : Expr) → IsUnaryForm x → IsBinary N k x → IsUnary N x
unfolding IsBinary
unary_in_binary N zero x form h = h
unary_in_binary N (suc k) x form (chain y o os e g p q) = absurd (no_binary x y (o ∷ os) form e)
unary_in_binary N (suc k) x form (operand h) = unary_in_binary N k x form h

pub unary_in_expr : (N : Nested) (x : Expr) → IsUnaryForm x → IsExprOver N x → IsUnary N x
unary_in_expr N x form (assign t op v e p q r) = absurd (no_assignment x t op v form e)
unary_in_expr N x form (no_assign (conditional c y z e p q r s)) = absurd (no_conditional x c y z form e)
unary_in_expr N x form (no_assign (unconditional h)) = unary_in_binary N 10 x form h

postfix_inner : (p q : Primary) (ops os : List PostfixOp) → exprs.Postfix p ops ≡ exprs.Postfix q os → q ≡ p
postfix_inner p q ops os e = cc (simp expr_layers at (ap out-Expr e))

no_prefix : (N : Nested) (p : Primary) (ops : List PostfixOp) → IsPrefixOver N (exprs.Postfix p ops) → ⊥
no_prefix N p ops (prefix op y e h) = cc
no_prefix N p ops (cast_primitive t n y e h) = cc
no_prefix N p ops (cast_name t n y e g s h) = cc

-- a primary expression has its shape with one less of the depth left
pub primary_in_unary : (d : ℕ) (p : Primary) (ops : List PostfixOp) → IsUnary (nested d) (exprs.Postfix p ops) → IsPrimary (nested d) p
unfolding nested
primary_in_unary zero p ops (a_prefix h) = absurd h
primary_in_unary (suc d) p ops (a_prefix h) = absurd (no_prefix (nested d) p ops h)
primary_in_unary d p ops (a_postfix (postfix q os e h)) = subst (IsPrimary (nested d)) (postfix_inner p q ops os e) h

pub primary_in_expr : (d : ℕ) (p : Primary) (ops : List PostfixOp) → IsExpr d (exprs.Postfix p ops) → IsPrimary (nested (less d)) p
unfolding nested
primary_in_expr zero p ops h = absurd h
primary_in_expr (suc d) p ops h = primary_in_unary d p ops (unary_in_expr (nested d) _ (of_postfix p ops refl) h)

prefix_form : (N : Nested) (x : Expr) → IsPrefixOver N x → IsUnaryForm x
prefix_form N x (prefix op y e h) = of_prefix op y e
prefix_form N x (cast_primitive t n y e h) = of_cast _ y e
prefix_form N x (cast_name t n y e g s h) = of_cast _ y e

pub unary_form : (d : ℕ) (x : Expr) → IsUnary (nested d) x → IsUnaryForm x
unfolding nested
unary_form zero x (a_prefix h) = absurd h
unary_form (suc d) x (a_prefix h) = prefix_form (nested d) x h
unary_form d x (a_postfix (postfix p ops e h)) = of_postfix p ops e
