-- Shapes of expressions, from the tighter productions to the looser ones.
use Rattle.std.proofs.Common.{◌≡◌, ℕ, zero, suc, List, [], ◌∷◌, refl}
use Rattle.java_tree.specs.declared.names.Ident.{Ident}
use Rattle.java_tree.specs.declared.expr.Expr.{Expr}
use Rattle.java_tree.specs.declared.expr.Expr.TheVariants as exprs
use Rattle.java_tree.specs.declared.expr.First.TheVariants as firsts
use Rattle.java_tree.specs.declared.expr.Primary.{Primary}
use Rattle.java_tree.specs.declared.expr.First.{First}
use Rattle.java_tree.specs.declared.expr.Selector.{Selector}
use Rattle.java_model.specs.Grammar.Expressions.{Nested, IsExpr, IsUnary, a_postfix, postfix, IsPrimary, primary_of_name, IsBinary, operand, unconditional, no_assign, nest, nested}

-- one more of the depth
pub nested-suc : (d : ℕ) → nested (suc d) ≡ nest (nested d)
unfolding nested
nested-suc d = refl

pub binary_of_unary : (N : Nested) (k : ℕ) (x : Expr) → IsUnary N x → IsBinary N k x
unfolding IsBinary
binary_of_unary N zero x h = h
binary_of_unary N (suc k) x h = operand (binary_of_unary N k x h)

pub expr_of_or : (d : ℕ) (x : Expr) → IsBinary (nested d) 10 x → IsExpr (suc d) x
unfolding nested
expr_of_or d x h = no_assign (unconditional h)

pub expr_of_unary : (d : ℕ) (x : Expr) → IsUnary (nested d) x → IsExpr (suc d) x
expr_of_unary d x h = expr_of_or d x (binary_of_unary (nested d) 10 x h)

pub expr_of_primary : (d : ℕ) (p : Primary) → IsPrimary (nested d) p → IsExpr (suc d) (exprs.Postfix p [])
expr_of_primary d p h = expr_of_unary d _ (a_postfix (postfix p [] refl h))

abbrev pub primary : First → List Selector → Primary
primary first selectors = record { first = first; selectors = selectors }

-- one identifier as an expression
abbrev pub simple : Ident → Expr
simple i = exprs.Postfix (primary (firsts.Name (i ∷ [])) []) []

pub unary-simple : (N : Nested) (i : Ident) → IsUnary N (simple i)
unary-simple N i = a_postfix (postfix _ [] refl (primary_of_name (i ∷ []) refl tt refl tt))

pub expr-simple : (d : ℕ) (i : Ident) → IsExpr (suc d) (simple i)
expr-simple d i = expr_of_unary d (simple i) (unary-simple (nested d) i)
