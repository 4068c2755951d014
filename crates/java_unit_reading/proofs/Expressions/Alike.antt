-- An expression stands in the same tokens whatever is around it.
use Rattle.std.proofs.Common.{◌≡◌, ℕ, zero, suc, List, [], ◌∷◌, ◌++◌, Option, Some, None, map, refl, ap, subst}
use Rattle.std.specs.List.{AllByRecursion}
use Rattle.java_tree.specs.declared.mark.Mark.TheVariants as marks
use Rattle.java_tree.specs.declared.names.Ident.{Ident}
use Rattle.java_tree.specs.declared.names.ElementType.TheVariants as elements
use Rattle.java_tree.specs.declared.names.TypeUse.{TypeUse}
use Rattle.java_tree.specs.declared.unit.TypePlace.TheVariants as places
use Rattle.java_tree.specs.declared.expr.ArrayInitializer.{ArrayInitializer}
use Rattle.java_tree.specs.declared.expr.Creation.{Creation}
use Rattle.java_tree.specs.declared.expr.Expr.{Expr}
use Rattle.java_tree.specs.declared.expr.Expr.TheVariants as exprs
use Rattle.java_tree.specs.declared.expr.First.{First}
use Rattle.java_tree.specs.declared.expr.Initializer.{Initializer}
use Rattle.java_tree.specs.declared.expr.Operation.{Operation}
use Rattle.java_tree.specs.declared.expr.Primary.{Primary}
use Rattle.java_tree.specs.declared.expr.Selector.{Selector}
use Rattle.java_model.specs.Grammar.Signs.{Sign}
use Rattle.java_model.specs.Grammar.Pieces.{Yield, Piece, token, hole, Hole, the, Around, deeper, each, behind_commas, parted, yield_type}
use Rattle.java_model.specs.Grammar.YieldExpr.{yield_sizes, yield_body, yield_expr, yield_first, yield_initializer, yield_operation, yield_selector, yield_array, yield_creation, yield_primary}
use Rattle.java_model.specs.Grammar.Runs.{Reads, after_body}
use Rattle.java_model.specs.Grammar.Expressions.{Nested, IsFirst, literal, this, parenthesized, class_literal, void_class, qualified_this, super_field, call, super_call, new, new_array_of, IsNewArray, new_array, IsSelector, field, member_call, index, qualified_new, IsPrimary, primary_of, primary_of_name, primary_of_array, postfix, IsUnary, a_prefix, a_postfix, IsPrefixOver, prefix, cast_primitive, cast_name, IsOperation, infix_of, instance_of, chain, operand, IsBinary, IsExprOver, assign, no_assign, conditional, unconditional, IsInitializer, value, of_array, nest, nested}
use Rattle.java_model.proofs.Grammar.Yield.{expr_yields, yield_expr-Assign, yield_expr-Conditional, yield_expr-Binary, yield_expr-Prefix, yield_expr-Cast, yield_expr-Postfix, yield_operation-Infix, yield_operation-InstanceOf, yield_first-Name, yield_first-New, yield_first-NewArray, yield_first-NewArrayOf, yield_selector-Index, yield_selector-QualifiedNew, yield_initializer-Value, yield_initializer-Array, yield_primary-parts, yield_creation-parts, yield_array-parts}

-- pieces, with what is around each hole left out
bare : ℕ → Piece
bare brace = hole (record { brace = brace; place = places.Anonymous; created = []; around = record { left = zero; within = None; locals = [] } })

bones : List Piece → List Piece
bones [] = []
bones (token s ∷ ps) = token s ∷ bones ps
bones (hole h ∷ ps) = bare h.brace ∷ bones ps

bones_none : bones [] ≡ []
unfolding bones
bones_none = refl

bones_token : (s : Sign) (ps : List Piece) → bones (token s ∷ ps) ≡ token s ∷ bones ps
unfolding bones
bones_token s ps = refl

bones_hole : (h : Hole) (ps : List Piece) → bones (hole h ∷ ps) ≡ bare h.brace ∷ bones ps
unfolding bones
bones_hole h ps = refl

bones_both : (ps qs : List Piece) → bones (ps ++ qs) ≡ bones ps ++ bones qs
unfolding bones
bones_both [] qs = refl
bones_both (token s ∷ ps) qs = ap (λ rs. token s ∷ rs) (bones_both ps qs)
bones_both (hole h ∷ ps) qs = ap (λ rs. bare h.brace ∷ rs) (bones_both ps qs)

ruleset bone_rules = (bones_none, bones_token, bones_hole, bones_both)

pub AreAlike : List Piece → List Piece → Type 0
AreAlike ps qs = bones ps ≡ bones qs

abbrev Alike : Yield → Type 0
Alike y = (a b : Around) → bones (y a) ≡ bones (y b)

alike_from : (ps qs : List Piece) (ts us : List Sign) → Reads ps ts us → Reads (bones ps) ts us
unfolding bones bare
alike_from [] qs ts us h = h
alike_from (token s ∷ ps) qs ts us h = (h.0, h.1, alike_from ps qs h.0 us h.2)
alike_from (hole k ∷ ps) qs ts us h = (h.0, h.1, alike_from ps qs (after_body h.0 zero) us h.2)

alike_to : (ps : List Piece) (ts us : List Sign) → Reads (bones ps) ts us → Reads ps ts us
unfolding bones bare
alike_to [] ts us h = h
alike_to (token s ∷ ps) ts us h = (h.0, h.1, alike_to ps h.0 us h.2)
alike_to (hole k ∷ ps) ts us h = (h.0, h.1, alike_to ps (after_body h.0 zero) us h.2)

pub reads_alike : (ps qs : List Piece) (ts us : List Sign) → AreAlike ps qs → Reads ps ts us → Reads qs ts us
unfolding AreAlike
reads_alike ps qs ts us e h = alike_to qs ts us (subst (λ rs. Reads rs ts us) e (alike_from ps qs ts us h))

record AllAlike (N : Nested) : Type 0 where
  expr : (x : Expr) → N.expr x → Alike (yield_expr x)
  prefix : (x : Expr) → N.prefix x → Alike (yield_expr x)
  braces : (b : ArrayInitializer) → N.braces b → Alike (yield_array b)

abbrev AlikeList : List Yield → Type 0
AlikeList = AllByRecursion Alike

all_alike : {X : Type 0} (P : X → Type 0) (f : X → Yield) → ((x : X) → P x → Alike (f x)) → (xs : List X) → AllByRecursion P xs → AlikeList (map f xs)
all_alike P f k [] h = tt
all_alike P f k (x ∷ xs) h = (k x h.0, all_alike P f k xs h.1)

each_alike : (ys : List Yield) (a b : Around) → AlikeList ys → bones (each ys a) ≡ bones (each ys b)
each_alike [] a b h = refl
each_alike (y ∷ ys) a b h = simp (bone_rules, h.0 a b, each_alike ys a b h.1) refl

commas_alike : (ys : List Yield) (a b : Around) → AlikeList ys → bones (behind_commas ys a) ≡ bones (behind_commas ys b)
commas_alike [] a b h = refl
commas_alike (y ∷ ys) a b h = simp (bone_rules, h.0 a b, commas_alike ys a b h.1) refl

parted_alike : (ys : List Yield) (a b : Around) → AlikeList ys → bones (parted ys a) ≡ bones (parted ys b)
parted_alike [] a b h = refl
parted_alike (y ∷ ys) a b h = simp (bone_rules, h.0 a b, commas_alike ys a b h.1) refl

sizes_alike : (ys : List Yield) (a b : Around) → AlikeList ys → bones (yield_sizes ys a) ≡ bones (yield_sizes ys b)
sizes_alike [] a b h = refl
sizes_alike (y ∷ ys) a b h = simp (bone_rules, h.0 (deeper a) (deeper b), sizes_alike ys a b h.1) refl

body_alike : (n : List Ident) (o : Option ℕ) (a b : Around) → bones (yield_body n o a) ≡ bones (yield_body n o b)
unfolding bones
body_alike n None a b = refl
body_alike n (Some at) a b = refl

behind_type : (ps qs rs : List Piece) → bones qs ≡ bones rs
    → bones (the marks.LeftParen ∷ (ps ++ the marks.RightParen ∷ qs)) ≡ bones (the marks.LeftParen ∷ (ps ++ the marks.RightParen ∷ rs))
behind_type ps qs rs e = simp (bone_rules, e) refl

module _ (N : Nested) (alike : AllAlike N) where
  args_alike : (args : List Expr) (a b : Around) → AllByRecursion N.expr args
      → bones (parted (map yield_expr args) (deeper a)) ≡ bones (parted (map yield_expr args) (deeper b))
  args_alike args a b h = parted_alike (map yield_expr args) (deeper a) (deeper b) (all_alike N.expr yield_expr alike.expr args h)

  creation_alike : (c : Creation) (a b : Around) → AllByRecursion N.expr c.arguments → bones (yield_creation c a) ≡ bones (yield_creation c b)
  creation_alike c a b h = simp (bone_rules, yield_creation-parts, args_alike c.arguments a b h, body_alike c.class c.body a b) refl

  first_alike : (f : First) (a b : Around) → IsFirst N f → bones (yield_first f a) ≡ bones (yield_first f b)
  first_alike f a b (literal l e) = rw e (simp expr_yields refl)
  first_alike f a b (this s e) = rw e (simp expr_yields refl)
  first_alike f a b (parenthesized x e h) = rw e (simp (expr_yields, bone_rules, alike.expr x h (deeper a) (deeper b)) refl)
  first_alike f a b (class_literal t e h) = rw e (simp expr_yields refl)
  first_alike f a b (void_class e) = rw e (simp expr_yields refl)
  first_alike f a b (qualified_this n s e h) = rw e (simp expr_yields refl)
  first_alike f a b (super_field n s i e h) = rw e (simp expr_yields refl)
  first_alike f a b (call n args e h g) = rw e (simp (expr_yields, bone_rules, args_alike args a b g) refl)
  first_alike f a b (super_call n s i args e h g) = rw e (simp (expr_yields, bone_rules, args_alike args a b g) refl)
  first_alike f a b (new c e h) = rw e (simp (yield_first-New, bone_rules, creation_alike c a b h.1) refl)
  first_alike f a b (new_array_of t n c e h g) = rw e (simp (yield_first-NewArrayOf, bone_rules, alike.braces c g a b) refl)

  new_array_alike : (f : First) (a b : Around) → IsNewArray N f → bones (yield_first f a) ≡ bones (yield_first f b)
  new_array_alike f a b (new_array t size sizes n e h g gs) =
      rw e (simp (yield_first-NewArray, bone_rules, alike.expr size g (deeper a) (deeper b), sizes_alike (map yield_expr sizes) a b (all_alike N.expr yield_expr alike.expr sizes gs)) refl)

  selector_alike : (s : Selector) → IsSelector N s → Alike (yield_selector s)
  selector_alike s (field i e) a b = rw e (simp expr_yields refl)
  selector_alike s (member_call i args e h) a b = rw e (simp (expr_yields, bone_rules, args_alike args a b h) refl)
  selector_alike s (index x e h) a b = rw e (simp (yield_selector-Index, bone_rules, alike.expr x h (deeper a) (deeper b)) refl)
  selector_alike s (qualified_new c e h) a b = rw e (simp (yield_selector-QualifiedNew, bone_rules, creation_alike c a b h.1) refl)

  selectors_alike : (ss : List Selector) (a b : Around) → AllByRecursion (IsSelector N) ss
      → bones (each (map yield_selector ss) a) ≡ bones (each (map yield_selector ss) b)
  selectors_alike ss a b h = each_alike (map yield_selector ss) a b (all_alike (IsSelector N) yield_selector selector_alike ss h)

  primary_alike : (p : Primary) (a b : Around) → IsPrimary N p → bones (yield_primary p a) ≡ bones (yield_primary p b)
  primary_alike p a b (primary_of h g) = simp (yield_primary-parts, bone_rules, first_alike p.first a b h, selectors_alike p.selectors a b g) refl
  primary_alike p a b (primary_of_name n e h m g) = simp (yield_primary-parts, e, yield_first-Name, bone_rules, selectors_alike p.selectors a b g) refl
  primary_alike p a b (primary_of_array h m g) = simp (yield_primary-parts, bone_rules, new_array_alike p.first a b h, selectors_alike p.selectors a b g) refl

  unary_alike : (x : Expr) (a b : Around) → IsUnary N x → bones (yield_expr x a) ≡ bones (yield_expr x b)
  unary_alike x a b (a_prefix h) = alike.prefix x h a b
  unary_alike x a b (a_postfix (postfix p ops e h)) = rw e (simp (yield_expr-Postfix, bone_rules, primary_alike p a b h) refl)

  cast_alike : (t : TypeUse) (y : Expr) (a b : Around) → IsUnary N y → bones (yield_expr (exprs.Cast t y) a) ≡ bones (yield_expr (exprs.Cast t y) b)
  cast_alike t y a b h = rw (yield_expr-Cast t y a, yield_expr-Cast t y b) (behind_type (yield_type t) (yield_expr y (deeper a)) (yield_expr y (deeper b)) (unary_alike y (deeper a) (deeper b) h))

  prefix_alike : (x : Expr) → IsPrefixOver N x → Alike (yield_expr x)
  prefix_alike x (prefix op y e h) a b = rw e (simp (yield_expr-Prefix, bone_rules, unary_alike y (deeper a) (deeper b) h) refl)
  prefix_alike x (cast_primitive p n y e h) a b = rw e (cast_alike (record { element = elements.Primitive p; dims = n }) y a b h)
  prefix_alike x (cast_name name n y e h g k) a b = rw e (cast_alike (record { element = elements.Named name; dims = n }) y a b k)

  operation_alike : (k : ℕ) (P : Expr → Type 0) → ((x : Expr) (a b : Around) → P x → bones (yield_expr x a) ≡ bones (yield_expr x b))
      → (o : Operation) → IsOperation k P o → Alike (yield_operation o)
  operation_alike k P f o (infix_of op y e l h) a b = rw e (simp (yield_operation-Infix, bone_rules, f y a b h) refl)
  operation_alike k P f o (instance_of t e l h) a b = rw e (simp yield_operation-InstanceOf refl)

  binary_alike : (k : ℕ) (x : Expr) (a b : Around) → IsBinary N k x → bones (yield_expr x a) ≡ bones (yield_expr x b)
  unfolding IsBinary
  binary_alike zero x a b h = unary_alike x a b h
  binary_alike (suc k) x a b (chain y o os e h p q) =
      let first = binary_alike k y a b h in
      let others = each_alike (map yield_operation (o ∷ os)) a b (all_alike (IsOperation (suc k) (IsBinary N k)) yield_operation (operation_alike (suc k) (IsBinary N k) (binary_alike k)) (o ∷ os) (p, q)) in
      rw (e, yield_expr-Binary y (o ∷ os) a, yield_expr-Binary y (o ∷ os) b, bones_both (yield_expr y a) (each (map yield_operation (o ∷ os)) a), bones_both (yield_expr y b) (each (map yield_operation (o ∷ os)) b), first, others) refl
  binary_alike (suc k) x a b (operand h) = binary_alike k x a b h

  expr_alike : (x : Expr) → IsExprOver N x → Alike (yield_expr x)
  expr_alike x (assign t op v e h s g) a b = rw e (simp (yield_expr-Assign, bone_rules, primary_alike t a b h, alike.expr v g (deeper a) (deeper b)) refl)
  expr_alike x (no_assign (conditional c y z e p q r s)) a b =
      rw e (simp (yield_expr-Conditional, bone_rules, binary_alike 10 c a b p, alike.expr y q (deeper a) (deeper b), alike.expr z r (deeper a) (deeper b)) refl)
  expr_alike x (no_assign (unconditional h)) a b = binary_alike 10 x a b h

  initializer_alike : (i : Initializer) → IsInitializer N i → Alike (yield_initializer i)
  initializer_alike i (value x e h) a b = rw e (simp (yield_initializer-Value, alike.expr x h (deeper a) (deeper b)) refl)
  initializer_alike i (of_array c e h) a b = rw e (simp (yield_initializer-Array, alike.braces c h a b) refl)

  braces_alike : (c : ArrayInitializer) → AllByRecursion (IsInitializer N) c.elements → Alike (yield_array c)
  braces_alike c h a b =
      simp (yield_array-parts, bone_rules, parted_alike (map yield_initializer c.elements) (deeper a) (deeper b) (all_alike (IsInitializer N) yield_initializer initializer_alike c.elements h)) refl

  nest_alike : AllAlike (nest N)
  nest_alike = record { expr = expr_alike; prefix = prefix_alike; braces = braces_alike }

nested_alike : (d : ℕ) → AllAlike (nested d)
unfolding nested
nested_alike zero = record { expr = λ x g. absurd g; prefix = λ x g. absurd g; braces = λ b g. absurd g }
nested_alike (suc d) = nest_alike (nested d) (nested_alike d)

pub primaries_alike : (d : ℕ) (p : Primary) (a b : Around) → IsPrimary (nested d) p → AreAlike (yield_primary p a) (yield_primary p b)
unfolding AreAlike
primaries_alike d p a b h = primary_alike (nested d) (nested_alike d) p a b h
