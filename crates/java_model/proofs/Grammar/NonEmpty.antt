-- An expression yields a token or more.
use Rattle.std.proofs.Common.{ℕ, zero, suc, List, [], ◌∷◌, ◌++◌, Option, Some, None}
use Rattle.java_tree.specs.declared.names.ElementType.{ElementType}
use Rattle.java_tree.specs.declared.names.ElementType.TheVariants as elements
use Rattle.java_tree.specs.declared.names.Ident.{Ident}
use Rattle.java_tree.specs.declared.names.TypeUse.{TypeUse}
use Rattle.java_tree.specs.declared.token.Span.{Span}
use Rattle.java_tree.specs.declared.expr.Expr.{Expr}
use Rattle.java_tree.specs.declared.expr.First.{First}
use Rattle.java_tree.specs.declared.expr.Primary.{Primary}
use Rattle.java_model.specs.Grammar.Pieces.{Piece, Around, yield_name, yield_element, yield_type}
use Rattle.java_model.specs.Grammar.YieldExpr.{yield_super, yield_expr, yield_first, yield_primary}
use Rattle.java_model.specs.Grammar.Forms.{IsNonEmpty}
use Rattle.java_model.specs.Grammar.Expressions.{Nested, IsElement, IsQualifier, IsExpr, IsFirst, literal, this, parenthesized, class_literal, void_class, qualified_this, super_field, call, super_call, new, new_array_of, new_array, IsPrimary, primary_of, primary_of_name, primary_of_array, postfix, IsUnary, a_prefix, a_postfix, IsPrefixOver, prefix, cast_primitive, cast_name, IsBinary, chain, operand, conditional, unconditional, assign, no_assign, nested}
use Rattle.java_model.proofs.Grammar.Yield.{expr_yields, yield_first-Name, yield_first-ClassLiteral, yield_first-QualifiedThis, yield_first-SuperField, yield_first-Call, yield_first-SuperCall, yield_expr-Assign, yield_expr-Conditional, yield_expr-Binary, yield_expr-Postfix, yield_primary-parts}

abbrev HasTokens : List Piece → Type 0
HasTokens = IsNonEmpty

-- what begins with a token has one
pub has_first : (xs ys : List Piece) → HasTokens xs → HasTokens (xs ++ ys)
has_first [] ys h = absurd h
has_first (x ∷ xs) ys h = tt

pub name_has_tokens : (n : List Ident) → IsNonEmpty n → HasTokens (yield_name n)
name_has_tokens [] h = absurd h
name_has_tokens (i ∷ more) h = tt

pub element_has_tokens : (t : ElementType) → IsElement t → HasTokens (yield_element t)
element_has_tokens (elements.Primitive p) h = tt
element_has_tokens (elements.Named n) h = name_has_tokens n h

pub type_has_tokens : (t : TypeUse) → IsElement t.element → HasTokens (yield_type t)
type_has_tokens t h = has_first _ _ (element_has_tokens t.element h)

super_has_tokens : (n : Option (List Ident)) (s : Span) (i : Ident) → IsQualifier n → HasTokens (yield_super n s i)
super_has_tokens None s i h = tt
super_has_tokens (Some n) s i h = has_first (yield_name n) _ (name_has_tokens n h)

first_has_tokens : (N : Nested) (f : First) (a : Around) → IsFirst N f → HasTokens (yield_first f a)
first_has_tokens N f a (literal l e) = rw e (simp expr_yields tt)
first_has_tokens N f a (this s e) = rw e (simp expr_yields tt)
first_has_tokens N f a (parenthesized x e h) = rw e (simp expr_yields tt)
first_has_tokens N f a (class_literal t e h) = rw (e, yield_first-ClassLiteral) (has_first _ _ (type_has_tokens t h))
first_has_tokens N f a (void_class e) = rw e (simp expr_yields tt)
first_has_tokens N f a (qualified_this n s e h) = rw (e, yield_first-QualifiedThis) (has_first _ _ (name_has_tokens n h))
first_has_tokens N f a (super_field n s i e h) = rw (e, yield_first-SuperField) (super_has_tokens n s i h)
first_has_tokens N f a (call n args e h hs) = rw (e, yield_first-Call) (has_first _ _ (name_has_tokens n h))
first_has_tokens N f a (super_call n s i args e h hs) = rw (e, yield_first-SuperCall) (has_first _ _ (super_has_tokens n s i h))
first_has_tokens N f a (new c e h) = rw e (simp expr_yields tt)
first_has_tokens N f a (new_array_of t n b e h g) = rw e (simp expr_yields tt)

primary_has_tokens : (N : Nested) (p : Primary) (a : Around) → IsPrimary N p → HasTokens (yield_primary p a)
primary_has_tokens N p a (primary_of h hs) = rw yield_primary-parts (has_first _ _ (first_has_tokens N p.first a h))
primary_has_tokens N p a (primary_of_name n e h m hs) = rw (yield_primary-parts, e, yield_first-Name) (has_first _ _ (name_has_tokens n h))
primary_has_tokens N p a (primary_of_array (new_array t size sizes n e h g gs) i hs) = rw (yield_primary-parts, e) (simp expr_yields tt)

prefix_has_tokens : (N : Nested) (x : Expr) (a : Around) → IsPrefixOver N x → HasTokens (yield_expr x a)
prefix_has_tokens N x a (prefix op y e h) = rw e (simp expr_yields tt)
prefix_has_tokens N x a (cast_primitive p n y e h) = rw e (simp expr_yields tt)
prefix_has_tokens N x a (cast_name name n y e g s h) = rw e (simp expr_yields tt)

unary_has_tokens : (d : ℕ) (x : Expr) (a : Around) → IsUnary (nested d) x → HasTokens (yield_expr x a)
unfolding nested
unary_has_tokens zero x a (a_prefix h) = absurd h
unary_has_tokens (suc d) x a (a_prefix h) = prefix_has_tokens (nested d) x a h
unary_has_tokens d x a (a_postfix (postfix p ops e h)) = rw (e, yield_expr-Postfix) (has_first _ _ (primary_has_tokens (nested d) p a h))

binary_has_tokens : (d k : ℕ) (x : Expr) (a : Around) → IsBinary (nested d) k x → HasTokens (yield_expr x a)
unfolding IsBinary
binary_has_tokens d zero x a h = unary_has_tokens d x a h
binary_has_tokens d (suc k) x a (chain y o os e h p q) = rw (e, yield_expr-Binary) (has_first _ _ (binary_has_tokens d k y a h))
binary_has_tokens d (suc k) x a (operand h) = binary_has_tokens d k x a h

pub expr_has_tokens : (d : ℕ) (x : Expr) (a : Around) → IsExpr d x → HasTokens (yield_expr x a)
unfolding nested
expr_has_tokens zero x a h = absurd h
expr_has_tokens (suc d) x a (assign t op v e p q r) = rw (e, yield_expr-Assign) (has_first _ _ (primary_has_tokens (nested d) t a p))
expr_has_tokens (suc d) x a (no_assign (conditional c y z e p q r s)) = rw (e, yield_expr-Conditional) (has_first _ _ (binary_has_tokens d 10 c a p))
expr_has_tokens (suc d) x a (no_assign (unconditional h)) = binary_has_tokens d 10 x a h
