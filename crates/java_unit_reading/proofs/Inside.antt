-- The types that an expression declares: anonymous classes, in the type that the expression stands in, with
-- no more of the depth left.
use Rattle.std.proofs.Common.{◌≡◌, ℕ, zero, suc, ◌≤◌, Bool, true, false, List, [], ◌∷◌, ◌++◌, Option, Some, None, map, refl, arith}
use Rattle.std.specs.List.{AllByRecursion}
use Rattle.java_tree.specs.declared.mark.Mark.TheVariants as marks
use Rattle.java_tree.specs.declared.names.ElementType.{ElementType}
use Rattle.java_tree.specs.declared.names.ElementType.TheVariants as elements
use Rattle.java_tree.specs.declared.names.Ident.{Ident}
use Rattle.java_tree.specs.declared.names.TypeUse.{TypeUse}
use Rattle.java_tree.specs.declared.operators.PostfixOp.{PostfixOp}
use Rattle.java_tree.specs.declared.token.Span.{Span}
use Rattle.java_tree.specs.declared.unit.TypePlace.TheVariants as places
use Rattle.java_tree.specs.declared.expr.Expr.{Expr}
use Rattle.java_tree.specs.declared.expr.First.{First}
use Rattle.java_tree.specs.declared.expr.Initializer.{Initializer}
use Rattle.java_tree.specs.declared.expr.Operation.{Operation}
use Rattle.java_tree.specs.declared.expr.Selector.{Selector}
use Rattle.java_tree.specs.declared.expr.ArrayInitializer.{ArrayInitializer}
use Rattle.java_tree.specs.declared.expr.Creation.{Creation}
use Rattle.java_tree.specs.declared.expr.Primary.{Primary}
use Rattle.java_model.specs.Grammar.Pieces.{Yield, Piece, token, hole, Hole, the, Around, less, deeper, each, behind_commas, parted, dotted, yield_name, yield_dims, yield_element, yield_type}
use Rattle.java_model.specs.Grammar.YieldExpr.{yield_arguments, yield_sizes, yield_super, yield_body, yield_postfixes, yield_comma, yield_expr, yield_first, yield_initializer, yield_operation, yield_selector, yield_array, yield_creation, yield_primary}
use Rattle.java_model.specs.Grammar.Expressions.{Nested, IsFirst, literal as a_literal, this as a_this, parenthesized, class_literal, void_class, qualified_this, super_field, call, super_call, new, new_array_of, IsNewArray, new_array, IsSelector, field, member_call, index, qualified_new, IsPrimary, primary_of, primary_of_name, primary_of_array, postfix, IsUnary, a_prefix, a_postfix, IsPrefixOver, prefix, cast_primitive, cast_name, IsOperation, infix_of, instance_of, IsBinary, chain, operand, conditional, unconditional, IsExprOver, assign, no_assign, IsInitializer, value, of_array, IsBracesOver, nest, nested}
use Rattle.java_model.proofs.Grammar.Yield.{yield_expr-Assign, yield_expr-Conditional, yield_expr-Binary, yield_expr-Prefix, yield_expr-Cast, yield_expr-Postfix, yield_operation-Infix, yield_operation-InstanceOf, yield_first-Literal, yield_first-This, yield_first-Name, yield_first-Parenthesized, yield_first-ClassLiteral, yield_first-VoidClass, yield_first-QualifiedThis, yield_first-SuperField, yield_first-Call, yield_first-SuperCall, yield_first-New, yield_first-NewArray, yield_first-NewArrayOf, yield_selector-Field, yield_selector-MemberCall, yield_selector-Index, yield_selector-QualifiedNew, yield_initializer-Value, yield_initializer-Array, yield_primary-parts, yield_creation-parts, yield_array-parts}

pub record IsInside (a : Around) (h : Hole) : Type 0 where
  pub anonymous : h.place ≡ places.Anonymous
  pub within : h.around.within ≡ a.within
  pub left : h.around.left ≤ a.left

abbrev pub AreInside : Around → List Piece → Type 0
AreInside a [] = Unit {0}
AreInside a (token s ∷ ps) = AreInside a ps
AreInside a (hole h ∷ ps) = IsInside a h × AreInside a ps

pub inside_both : (a : Around) (xs ys : List Piece) → AreInside a xs → AreInside a ys → AreInside a (xs ++ ys)
inside_both a [] ys h g = g
inside_both a (token s ∷ xs) ys h g = inside_both a xs ys h g
inside_both a (hole k ∷ xs) ys h g = (h.0, inside_both a xs ys h.1 g)

less_is_less : (d : ℕ) → less d ≤ d
less_is_less zero = omega arith
less_is_less (suc d) = omega arith

pub inside_deeper : (a : Around) (xs : List Piece) → AreInside (deeper a) xs → AreInside a xs
inside_deeper a [] h = tt
inside_deeper a (token s ∷ xs) h = inside_deeper a xs h
inside_deeper a (hole k ∷ xs) h =
    (record { anonymous = h.0.anonymous; within = h.0.within; left = omega (arith, h.0.left, less_is_less a.left) }, inside_deeper a xs h.1)

in_dotted : (a : Around) (n : List Ident) → AreInside a (dotted n)
in_dotted a [] = tt
in_dotted a (i ∷ n) = in_dotted a n

in_name : (a : Around) (n : List Ident) → AreInside a (yield_name n)
in_name a [] = tt
in_name a (i ∷ n) = in_dotted a n

in_dims : (a : Around) (n : ℕ) → AreInside a (yield_dims n)
in_dims a zero = tt
in_dims a (suc n) = in_dims a n

in_element : (a : Around) (t : ElementType) → AreInside a (yield_element t)
in_element a (elements.Primitive p) = tt
in_element a (elements.Named n) = in_name a n

in_type : (a : Around) (t : TypeUse) → AreInside a (yield_type t)
in_type a t = inside_both a (yield_element t.element) (yield_dims t.dims) (in_element a t.element) (in_dims a t.dims)

in_super : (a : Around) (n : Option (List Ident)) (s : Span) (i : Ident) → AreInside a (yield_super n s i)
in_super a None s i = tt
in_super a (Some n) s i = inside_both a (yield_name n) _ (in_name a n) tt

in_postfixes : (a : Around) (ops : List PostfixOp) → AreInside a (yield_postfixes ops)
in_postfixes a [] = tt
in_postfixes a (op ∷ ops) = in_postfixes a ops

in_comma : (a : Around) (b : Bool) → AreInside a (yield_comma b)
in_comma a true = tt
in_comma a false = tt

in_body : (n : List Ident) (body : Option ℕ) (a : Around) → AreInside a (yield_body n body a)
in_body n None a = tt
in_body n (Some at) a = (record { anonymous = refl; within = refl; left = omega arith }, tt)

-- everywhere inside
abbrev AreAllInside : List Yield → Type 0
AreAllInside = AllByRecursion (λ y. (a : Around) → AreInside a (y a))

all_inside : {X : Type 0} (P : X → Type 0) (f : X → Yield)
    → ((x : X) → P x → (a : Around) → AreInside a (f x a)) → (xs : List X) → AllByRecursion P xs
    → AreAllInside (map f xs)
all_inside P f k [] h = tt
all_inside P f k (x ∷ xs) h = (k x h.0, all_inside P f k xs h.1)

in_each : (ys : List Yield) (a : Around) → AreAllInside ys → AreInside a (each ys a)
in_each [] a h = tt
in_each (y ∷ ys) a h = inside_both a (y a) (each ys a) (h.0 a) (in_each ys a h.1)

in_commas : (ys : List Yield) (a : Around) → AreAllInside ys → AreInside a (behind_commas ys a)
in_commas [] a h = tt
in_commas (y ∷ ys) a h = inside_both a (y a) (behind_commas ys a) (h.0 a) (in_commas ys a h.1)

in_parted : (ys : List Yield) (a : Around) → AreAllInside ys → AreInside a (parted ys a)
in_parted [] a h = tt
in_parted (y ∷ ys) a h = inside_both a (y a) (behind_commas ys a) (h.0 a) (in_commas ys a h.1)

in_arguments : (ys : List Yield) (a : Around) → AreAllInside ys → AreInside a (yield_arguments ys a)
in_arguments ys a h = inside_both a (parted ys (deeper a)) _ (inside_deeper a (parted ys (deeper a)) (in_parted ys (deeper a) h)) tt

in_sizes : (ys : List Yield) (a : Around) → AreAllInside ys → AreInside a (yield_sizes ys a)
in_sizes [] a h = tt
in_sizes (y ∷ ys) a h = inside_both a (y (deeper a)) _ (inside_deeper a (y (deeper a)) (h.0 (deeper a))) (in_sizes ys a h.1)

pub record IsIn (N : Nested) : Type 0 where
  pub expr : (x : Expr) → N.expr x → (a : Around) → AreInside a (yield_expr x a)
  pub prefix : (x : Expr) → N.prefix x → (a : Around) → AreInside a (yield_expr x a)
  pub braces : (b : ArrayInitializer) → N.braces b → (a : Around) → AreInside a (yield_array b a)

module _ (N : Nested) (closed : IsIn N) where
  args_in : (args : List Expr) (a : Around) → AllByRecursion N.expr args → AreInside a (yield_arguments (map yield_expr args) a)
  args_in args a h = in_arguments (map yield_expr args) a (all_inside N.expr yield_expr closed.expr args h)

  creation_in : (c : Creation) (a : Around) → AllByRecursion N.expr c.arguments → AreInside a (yield_creation c a)
  creation_in c a h =
      rw yield_creation-parts
      (inside_both a (yield_name c.class ++ yield_arguments (map yield_expr c.arguments) a) (yield_body c.class c.body a)
      (inside_both a (yield_name c.class) _ (in_name a c.class) (args_in c.arguments a h))
      (in_body c.class c.body a))

  first_in : (f : First) (a : Around) → IsFirst N f → AreInside a (yield_first f a)
  first_in f a (a_literal l e) = rw (e, yield_first-Literal) tt
  first_in f a (a_this s e) = rw (e, yield_first-This) tt
  first_in f a (parenthesized x e h) = rw (e, yield_first-Parenthesized) (inside_both a (yield_expr x (deeper a)) _ (inside_deeper a (yield_expr x (deeper a)) (closed.expr x h (deeper a))) tt)
  first_in f a (class_literal t e h) = rw (e, yield_first-ClassLiteral) (inside_both a (yield_type t) _ (in_type a t) tt)
  first_in f a (void_class e) = rw (e, yield_first-VoidClass) tt
  first_in f a (qualified_this n s e h) = rw (e, yield_first-QualifiedThis) (inside_both a (yield_name n) _ (in_name a n) tt)
  first_in f a (super_field n s i e h) = rw (e, yield_first-SuperField) (in_super a n s i)
  first_in f a (call n args e h hs) = rw (e, yield_first-Call) (inside_both a (yield_name n) _ (in_name a n) (args_in args a hs))
  first_in f a (super_call n s i args e h hs) = rw (e, yield_first-SuperCall) (inside_both a (yield_super n s i) _ (in_super a n s i) (args_in args a hs))
  first_in f a (new c e h) = rw (e, yield_first-New) (creation_in c a h.1)
  first_in f a (new_array_of t n b e h g) =
      rw (e, yield_first-NewArrayOf)
      (inside_both a (yield_element t ++ yield_dims (suc n)) (yield_array b a)
      (inside_both a (yield_element t) _ (in_element a t) (in_dims a (suc n))) (closed.braces b g a))

  new_array_in : (f : First) (a : Around) → IsNewArray N f → AreInside a (yield_first f a)
  new_array_in f a (new_array t size sizes n e h g gs) =
      rw (e, yield_first-NewArray)
      (inside_both a (yield_element t ++ yield_sizes (map yield_expr (size ∷ sizes)) a) (yield_dims n)
      (inside_both a (yield_element t) _ (in_element a t)
      (in_sizes (map yield_expr (size ∷ sizes)) a (all_inside N.expr yield_expr closed.expr (size ∷ sizes) (g, gs))))
      (in_dims a n))

  selector_in : (s : Selector) → IsSelector N s → (a : Around) → AreInside a (yield_selector s a)
  selector_in s (field i e) a = rw (e, yield_selector-Field) tt
  selector_in s (member_call i args e h) a = rw (e, yield_selector-MemberCall) (args_in args a h)
  selector_in s (index x e h) a = rw (e, yield_selector-Index) (inside_both a (yield_expr x (deeper a)) _ (inside_deeper a (yield_expr x (deeper a)) (closed.expr x h (deeper a))) tt)
  selector_in s (qualified_new c e h) a = rw (e, yield_selector-QualifiedNew) (creation_in c a h.1)

  selectors_in : (ss : List Selector) (a : Around) → AllByRecursion (IsSelector N) ss → AreInside a (each (map yield_selector ss) a)
  selectors_in ss a h = in_each (map yield_selector ss) a (all_inside (IsSelector N) yield_selector selector_in ss h)

  pub primary_in : (p : Primary) → IsPrimary N p → (a : Around) → AreInside a (yield_primary p a)
  primary_in p (primary_of h hs) a =
      rw yield_primary-parts (inside_both a (yield_first p.first a) _ (first_in p.first a h) (selectors_in p.selectors a hs))
  primary_in p (primary_of_name n e h m hs) a =
      rw (yield_primary-parts, e, yield_first-Name) (inside_both a (yield_name n) _ (in_name a n) (selectors_in p.selectors a hs))
  primary_in p (primary_of_array h i hs) a =
      rw yield_primary-parts (inside_both a (yield_first p.first a) _ (new_array_in p.first a h) (selectors_in p.selectors a hs))

  unary_in : (x : Expr) (a : Around) → IsUnary N x → AreInside a (yield_expr x a)
  unary_in x a (a_prefix h) = closed.prefix x h a
  unary_in x a (a_postfix (postfix p ops e h)) =
      rw (e, yield_expr-Postfix) (inside_both a (yield_primary p a) _ (primary_in p h a) (in_postfixes a ops))

  cast_in : (t : TypeUse) (y : Expr) (a : Around) → IsUnary N y
      → AreInside a (the marks.LeftParen ∷ (yield_type t ++ the marks.RightParen ∷ yield_expr y (deeper a)))
  cast_in t y a h = inside_both a (yield_type t) _ (in_type a t) (inside_deeper a (yield_expr y (deeper a)) (unary_in y (deeper a) h))

  prefix_in : (x : Expr) → IsPrefixOver N x → (a : Around) → AreInside a (yield_expr x a)
  prefix_in x (prefix op y e h) a = rw (e, yield_expr-Prefix) (inside_deeper a (yield_expr y (deeper a)) (unary_in y (deeper a) h))
  prefix_in x (cast_primitive p n y e h) a = rw (e, yield_expr-Cast) (cast_in (record { element = elements.Primitive p; dims = n }) y a h)
  prefix_in x (cast_name name n y e g s h) a = rw (e, yield_expr-Cast) (cast_in (record { element = elements.Named name; dims = n }) y a h)

  operation_in : (k : ℕ) (Operand : Expr → Type 0) → ((x : Expr) (a : Around) → Operand x → AreInside a (yield_expr x a))
      → (o : Operation) → IsOperation k Operand o → (a : Around) → AreInside a (yield_operation o a)
  operation_in k Operand f o (infix_of op y e l h) a = rw (e, yield_operation-Infix) (f y a h)
  operation_in k Operand f o (instance_of t e l h) a = rw (e, yield_operation-InstanceOf) (in_type a t)

  binary_in : (k : ℕ) (x : Expr) (a : Around) → IsBinary N k x → AreInside a (yield_expr x a)
  unfolding IsBinary
  binary_in zero x a h = unary_in x a h
  binary_in (suc k) x a (chain y o os e h p q) =
      rw (e, yield_expr-Binary)
      (inside_both a (yield_expr y a) _ (binary_in k y a h)
      (in_each (map yield_operation (o ∷ os)) a
      (all_inside (IsOperation (suc k) (IsBinary N k)) yield_operation (operation_in (suc k) (IsBinary N k) (binary_in k)) (o ∷ os) (p, q))))
  binary_in (suc k) x a (operand h) = binary_in k x a h

  expr_in : (x : Expr) → IsExprOver N x → (a : Around) → AreInside a (yield_expr x a)
  expr_in x (assign t op v e p q r) a =
      rw (e, yield_expr-Assign) (inside_both a (yield_primary t a) _ (primary_in t p a) (inside_deeper a (yield_expr v (deeper a)) (closed.expr v r (deeper a))))
  expr_in x (no_assign (conditional c y z e p q r s)) a =
      rw (e, yield_expr-Conditional)
      (inside_both a (yield_expr c a) _ (binary_in 10 c a p)
      (inside_both a (yield_expr y (deeper a)) _ (inside_deeper a (yield_expr y (deeper a)) (closed.expr y q (deeper a))) (inside_deeper a (yield_expr z (deeper a)) (closed.expr z r (deeper a)))))
  expr_in x (no_assign (unconditional h)) a = binary_in 10 x a h

  initializer_in : (i : Initializer) → IsInitializer N i → (a : Around) → AreInside a (yield_initializer i a)
  initializer_in i (value x e h) a = rw (e, yield_initializer-Value) (inside_deeper a (yield_expr x (deeper a)) (closed.expr x h (deeper a)))
  initializer_in i (of_array b e h) a = rw (e, yield_initializer-Array) (closed.braces b h a)

  braces_in : (b : ArrayInitializer) → IsBracesOver N b → (a : Around) → AreInside a (yield_array b a)
  braces_in b h a =
      rw yield_array-parts
      (inside_both a (parted (map yield_initializer b.elements) (deeper a) ++ yield_comma b.comma) _
      (inside_both a (parted (map yield_initializer b.elements) (deeper a)) _
      (inside_deeper a (parted (map yield_initializer b.elements) (deeper a)) (in_parted (map yield_initializer b.elements) (deeper a) (all_inside (IsInitializer N) yield_initializer initializer_in b.elements h)))
      (in_comma a b.comma)) tt)

  nest_in : IsIn (nest N)
  nest_in = record { expr = expr_in; prefix = prefix_in; braces = braces_in }

pub nested_in : (d : ℕ) → IsIn (nested d)
unfolding nested
nested_in zero = record { expr = λ x h a. absurd h; prefix = λ x h a. absurd h; braces = λ b h a. absurd h }
nested_in (suc d) = nest_in (nested d) (nested_in d)
