-- Expressions that the side rules refuse, whatever of the depth is left.
use Rattle.std.proofs.Common.{◌≡◌, ℕ, zero, suc, true, false, List, [], ◌∷◌, None, refl, ap, sym, ◌∙◌, subst, arith}
use Rattle.java_tree.specs.declared.names.ElementType.{ElementType}
use Rattle.java_tree.specs.declared.names.ElementType.TheVariants as elements
use Rattle.java_tree.specs.declared.names.Ident.{Ident}
use Rattle.java_tree.specs.declared.names.Primitive.{Primitive}
use Rattle.java_tree.specs.declared.names.Primitive.TheVariants as primitives
use Rattle.java_tree.specs.declared.names.TypeUse.{TypeUse}
use Rattle.java_tree.specs.declared.operators.AssignOp.{AssignOp}
use Rattle.java_tree.specs.declared.operators.AssignOp.TheVariants as assigns
use Rattle.java_tree.specs.declared.operators.BinaryOp.{BinaryOp}
use Rattle.java_tree.specs.declared.operators.BinaryOp.TheVariants as binaries
use Rattle.java_tree.specs.declared.operators.PrefixOp.TheVariants as prefixes
use Rattle.java_tree.specs.declared.expr.Creation.{Creation}
use Rattle.java_tree.specs.declared.expr.Expr.{Expr, out-Expr}
use Rattle.java_tree.specs.declared.expr.Expr.TheVariants as exprs
use Rattle.java_tree.specs.declared.expr.First.{First, out-First}
use Rattle.java_tree.specs.declared.expr.First.TheVariants as firsts
use Rattle.java_tree.specs.declared.expr.Operation.{Operation}
use Rattle.java_tree.specs.declared.expr.Operation.TheVariants as operations
use Rattle.java_tree.specs.declared.expr.Selector.{Selector, out-Selector}
use Rattle.java_tree.specs.declared.expr.Selector.TheVariants as selectors
use Rattle.java_tree.specs.declared.expr.Primary.{Primary}
use Rattle.java_model.specs.Grammar.Pieces.{less}
use Rattle.java_model.specs.Grammar.Forms.{IsSingle, is_assignment, begins_with_sign, is_statement, is_target, begins_with_member, begins_with_index, level}
use Rattle.java_model.specs.Grammar.Expressions.{Nested, IsExpr, IsPrefixOver, prefix, cast_primitive, cast_name, IsUnary, a_prefix, a_postfix, postfix, IsFirst, literal, this, parenthesized, class_literal, void_class, qualified_this, super_field, call, super_call, new, new_array_of, new_array, IsSelector, field, member_call, index, qualified_new, IsPrimary, primary_of, primary_of_name, primary_of_array, IsBinary, chain, operand, IsOperation, infix_of, instance_of, conditional, unconditional, assign, no_assign, nested}
use Rattle.java_model.proofs.Grammar.Layers.{expr_layers}
use Rattle.java_model.proofs.Grammar.Targets.{targets}
use Rattle.java_model.proofs.Grammar.Heads.{of_cast, no_conditional, no_binary, no_assignment, unary_form, unary_in_expr, primary_in_expr}
use Rattle.java_model.proofs.Grammar.Shapes.{primary, simple}
use Rattle.java_model.proofs.Grammar.Examples.{a, b, c}

pub true_is_not_false : true ≡ false → ⊥
true_is_not_false e = cc

-- Only an assignment, `++`, `--`, a call or a creation may be a statement: `a` may not (JLS 14.8).
pub name_is_no_statement : is_statement (simple a) ≡ false
name_is_no_statement = simp expr_layers

-- The third part of `?:` is no assignment: `a ? b : c = a` (JLS 15.25).
abbrev assignment : Expr
assignment = exprs.Assign (primary (firsts.Name (c ∷ [])) []) assigns.Assign (simple a)

is_assigned : is_assignment assignment ≡ true
is_assigned = simp expr_layers

same_last : (c1 c2 y1 y2 z1 z2 : Expr) → exprs.Conditional c1 y1 z1 ≡ exprs.Conditional c2 y2 z2 → z1 ≡ z2
same_last c1 c2 y1 y2 z1 z2 e = cc (simp expr_layers at (ap out-Expr e))

no_conditional_operand : (d k : ℕ) (x y z : Expr) → IsBinary (nested d) k (exprs.Conditional x y z) → ⊥
unfolding IsBinary
no_conditional_operand d zero x y z h = no_conditional _ x y z (unary_form d _ h) refl
no_conditional_operand d (suc k) x y z (chain w o os e h p q) = cc
no_conditional_operand d (suc k) x y z (operand h) = no_conditional_operand d k x y z h

assigned_last-refused : (d : ℕ) → IsExpr d (exprs.Conditional (simple a) (simple b) assignment) → ⊥
unfolding nested
assigned_last-refused zero h = h
assigned_last-refused (suc d) (assign t op v e p q r) = cc
assigned_last-refused (suc d) (no_assign (conditional x y z e p q r s)) =
    true_is_not_false (sym is_assigned ∙ ap is_assignment (same_last _ _ _ _ _ _ e) ∙ s)
assigned_last-refused (suc d) (no_assign (unconditional h)) = no_conditional_operand d 10 _ _ _ h

-- A call is no target: `a() = b` (JLS 15.26).
abbrev called : Primary
called = primary (firsts.Call (a ∷ []) []) []

call_is_no_target : is_target called ≡ false
call_is_no_target = simp targets

same_target : (t u : Primary) (o p : AssignOp) (v w : Expr) → exprs.Assign t o v ≡ exprs.Assign u p w → t ≡ u
same_target t u o p v w e = cc (simp expr_layers at (ap out-Expr e))

no_assignment_operand : (d k : ℕ) (t : Primary) (op : AssignOp) (v : Expr) → IsBinary (nested d) k (exprs.Assign t op v) → ⊥
unfolding IsBinary
no_assignment_operand d zero t op v h = no_assignment _ t op v (unary_form d _ h) refl
no_assignment_operand d (suc k) t op v (chain w o os e h p q) = cc
no_assignment_operand d (suc k) t op v (operand h) = no_assignment_operand d k t op v h

called_target-refused : (d : ℕ) → IsExpr d (exprs.Assign called assigns.Assign (simple b)) → ⊥
unfolding nested
called_target-refused zero h = h
called_target-refused (suc d) (assign t op v e p q r) =
    true_is_not_false (sym q ∙ ap is_target (sym (same_target _ _ _ _ _ _ e)) ∙ call_is_no_target)
called_target-refused (suc d) (no_assign (conditional x y z e p q r s)) = cc
called_target-refused (suc d) (no_assign (unconditional h)) = no_assignment_operand d 10 _ _ _ h

-- No sign begins the operand of a cast to a name: `(a) - b` is no cast (JLS 15.16).
abbrev signed : Expr
signed = exprs.Prefix prefixes.Minus (simple b)

abbrev signed_cast : Expr
signed_cast = exprs.Cast (record { element = elements.Named (a ∷ []); dims = 0 }) signed

same_operand : (t u : TypeUse) (y z : Expr) → exprs.Cast t y ≡ exprs.Cast u z → y ≡ z
same_operand t u y z e = cc (simp expr_layers at (ap out-Expr e))

same_type : (t u : TypeUse) (y z : Expr) → exprs.Cast t y ≡ exprs.Cast u z → t ≡ u
same_type t u y z e = cc

named_is_not_primitive : (n : List Ident) (p : Primitive) → elements.Named n ≡ elements.Primitive p → ⊥
named_is_not_primitive n p e = cc

minus_is_a_sign : begins_with_sign signed ≡ true
minus_is_a_sign = simp expr_layers

signed_cast-prefix : (N : Nested) → IsPrefixOver N signed_cast → ⊥
signed_cast-prefix N (prefix op y e h) = cc
signed_cast-prefix N (cast_primitive p n y e h) = named_is_not_primitive (a ∷ []) p (ap (λ t. t.element) (same_type _ _ _ _ e))
signed_cast-prefix N (cast_name name n y e g s h) =
    true_is_not_false (sym minus_is_a_sign ∙ ap begins_with_sign (same_operand _ _ _ _ e) ∙ s)

signed_cast-unary : (d : ℕ) → IsUnary (nested d) signed_cast → ⊥
unfolding nested
signed_cast-unary zero (a_prefix h) = absurd h
signed_cast-unary (suc d) (a_prefix h) = signed_cast-prefix (nested d) h
signed_cast-unary d (a_postfix (postfix p ops e h)) = cc

signed_cast-refused : (d : ℕ) → IsExpr d signed_cast → ⊥
unfolding nested
signed_cast-refused zero h = h
signed_cast-refused (suc d) h = signed_cast-unary d (unary_in_expr (nested d) _ (of_cast _ _ refl) h)

-- A name takes as many identifiers as it can: `.b` behind the name `a` is no selector (JLS 6.5).
abbrev pub cut_name : Primary
cut_name = primary (firsts.Name (a ∷ [])) (selectors.Field b ∷ [])

field_is_a_member : begins_with_member (selectors.Field b ∷ []) ≡ true
field_is_a_member = simp expr_layers

pub name_is_no_first : (N : Nested) (n : List Ident) → IsFirst N (firsts.Name n) → ⊥
name_is_no_first N n (literal l e) = cc
name_is_no_first N n (this s e) = cc
name_is_no_first N n (parenthesized x e h) = cc
name_is_no_first N n (class_literal t e h) = cc
name_is_no_first N n (void_class e) = cc
name_is_no_first N n (qualified_this m s e h) = cc
name_is_no_first N n (super_field m s i e h) = cc
name_is_no_first N n (call m args e h hs) = cc
name_is_no_first N n (super_call m s i args e h hs) = cc
name_is_no_first N n (new k e h) = cc
name_is_no_first N n (new_array_of t m k e h g) = cc

pub cut_name-primary : (N : Nested) → IsPrimary N cut_name → ⊥
cut_name-primary N (primary_of h hs) = name_is_no_first N _ h
cut_name-primary N (primary_of_name n e h m hs) = true_is_not_false (sym field_is_a_member ∙ m)
cut_name-primary N (primary_of_array (new_array t size sizes n e h g gs) i hs) = cc

cut_name-refused : (d : ℕ) → IsExpr d (exprs.Postfix cut_name []) → ⊥
cut_name-refused d h = cut_name-primary (nested (less d)) (primary_in_expr d _ _ h)

-- The creation behind a primary expression and a dot has a name of one identifier:
-- `this.new a.b()` (JLS 15.9).
abbrev far_creation : Selector
far_creation = selectors.QualifiedNew (record { class = a ∷ b ∷ []; arguments = []; body = None })

same_creation : (k l : Creation) → selectors.QualifiedNew k ≡ selectors.QualifiedNew l → k ≡ l
same_creation k l e = cc (simp expr_layers at (ap out-Selector e))

far_creation-selector : (N : Nested) → IsSelector N far_creation → ⊥
far_creation-selector N (field i e) = cc
far_creation-selector N (member_call i args e h) = cc
far_creation-selector N (index x e h) = cc
far_creation-selector N (qualified_new k e h) = subst (λ k. IsSingle k.class) (sym (same_creation _ _ e)) h.0

far_creation-first : (N : Nested) (f : First) (ss : List Selector) → IsPrimary N (primary f (far_creation ∷ ss)) → ⊥
far_creation-first N f ss (primary_of h hs) = far_creation-selector N hs.0
far_creation-first N f ss (primary_of_name n e h m hs) = far_creation-selector N hs.0
far_creation-first N f ss (primary_of_array h i hs) = far_creation-selector N hs.0

far_creation-refused : (d : ℕ) (f : First) (ss : List Selector) → IsExpr d (exprs.Postfix (primary f (far_creation ∷ ss)) []) → ⊥
far_creation-refused d f ss h = far_creation-first (nested (less d)) f ss (primary_in_expr d _ _ h)

-- An array creation without initializer has no index directly behind it: `new int[a][][b]`, which
-- would be a creation with an index behind it (JLS 15.13).
abbrev indexed : Primary
indexed = primary (firsts.NewArray (elements.Primitive primitives.Int) (simple a ∷ []) 1) (selectors.Index (simple b) ∷ [])

index_is_an_index : begins_with_index (selectors.Index (simple b) ∷ []) ≡ true
index_is_an_index = simp expr_layers

array_is_no_first : (N : Nested) (t : ElementType) (xs : List Expr) (n : ℕ) → IsFirst N (firsts.NewArray t xs n) → ⊥
array_is_no_first N t xs n (literal l e) = cc
array_is_no_first N t xs n (this s e) = cc
array_is_no_first N t xs n (parenthesized x e h) = cc
array_is_no_first N t xs n (class_literal u e h) = cc
array_is_no_first N t xs n (void_class e) = cc
array_is_no_first N t xs n (qualified_this m s e h) = cc
array_is_no_first N t xs n (super_field m s i e h) = cc
array_is_no_first N t xs n (call m args e h hs) = cc
array_is_no_first N t xs n (super_call m s i args e h hs) = cc
array_is_no_first N t xs n (new k e h) = cc
array_is_no_first N t xs n (new_array_of u m k e h g) = cc

indexed-primary : (N : Nested) → IsPrimary N indexed → ⊥
indexed-primary N (primary_of h hs) = array_is_no_first N _ _ _ h
indexed-primary N (primary_of_name n e h m hs) = cc
indexed-primary N (primary_of_array h i hs) = true_is_not_false (sym index_is_an_index ∙ i)

indexed-refused : (d : ℕ) → IsExpr d (exprs.Postfix indexed []) → ⊥
indexed-refused d h = indexed-primary (nested (less d)) (primary_in_expr d _ _ h)

-- The depth: so many parentheses nest one deeper than the depth that is left.
abbrev deep : ℕ → Expr
deep zero = simple a
deep (suc n) = exprs.Postfix (primary (firsts.Parenthesized (deep n)) []) []

same_inside : (x y : Expr) → firsts.Parenthesized x ≡ firsts.Parenthesized y → x ≡ y
same_inside x y e = cc (simp expr_layers at (ap out-First e))

inside_of : (N : Nested) (x : Expr) → IsPrimary N (primary (firsts.Parenthesized x) []) → N.expr x
inside_of N x (primary_of (literal l e) hs) = absurd cc
inside_of N x (primary_of (this s e) hs) = absurd cc
inside_of N x (primary_of (parenthesized y e h) hs) = subst N.expr (sym (same_inside x y e)) h
inside_of N x (primary_of (class_literal u e h) hs) = absurd cc
inside_of N x (primary_of (void_class e) hs) = absurd cc
inside_of N x (primary_of (qualified_this m s e h) hs) = absurd cc
inside_of N x (primary_of (super_field m s i e h) hs) = absurd cc
inside_of N x (primary_of (call m args e h gs) hs) = absurd cc
inside_of N x (primary_of (super_call m s i args e h gs) hs) = absurd cc
inside_of N x (primary_of (new k e h) hs) = absurd cc
inside_of N x (primary_of (new_array_of u m k e h g) hs) = absurd cc
inside_of N x (primary_of_name n e h m hs) = absurd cc
inside_of N x (primary_of_array (new_array t size sizes n e h g gs) i hs) = absurd cc

deep-refused : (n : ℕ) → IsExpr n (deep n) → ⊥
unfolding nested
deep-refused zero h = h
deep-refused (suc n) h = deep-refused n (inside_of (nested n) (deep n) (primary_in_expr (suc n) _ [] h))

too_deep : IsExpr 256 (deep 256) → ⊥
too_deep = deep-refused 256

-- A chain of one level is one node: `a + b + c` is no sum of a sum (JLS 15.18).
abbrev sum : Expr
sum = exprs.Binary (simple a) (operations.Infix binaries.Add (simple b) ∷ [])

abbrev nested_sum : Expr
nested_sum = exprs.Binary sum (operations.Infix binaries.Add (simple c) ∷ [])

same_start : (x y : Expr) (xs ys : List Operation) → exprs.Binary x xs ≡ exprs.Binary y ys → x ≡ y
same_start x y xs ys e = cc (simp expr_layers at (ap out-Expr e))

same_next : (x y : Expr) (o p : Operation) (os ps : List Operation) → exprs.Binary x (o ∷ os) ≡ exprs.Binary y (p ∷ ps) → o ≡ p
same_next x y o p os ps e = cc (simp expr_layers at (ap out-Expr e))

same_infix : (o p : BinaryOp) (x y : Expr) → operations.Infix o x ≡ operations.Infix p y → o ≡ p
same_infix o p x y e = cc

added : (k : ℕ) (Operand : Expr → Type 0) (x : Expr) → IsOperation k Operand (operations.Infix binaries.Add x) → 2 ≡ k
added k Operand x (infix_of op y e l h) = ap level (same_infix binaries.Add op x y e) ∙ l
added k Operand x (instance_of t e l h) = absurd cc

sum-low : (d k : ℕ) → k ≡ 1 → IsBinary (nested d) k sum → ⊥
unfolding IsBinary
sum-low d zero e h = absurd (omega arith)
sum-low d (suc zero) e (chain y o os g h p q) =
    let l = added 1 _ (simple b) (subst (IsOperation 1 (IsUnary (nested d))) (sym (same_next _ _ _ _ _ _ g)) p) in omega arith
sum-low d (suc zero) e (operand h) = no_binary sum _ _ (unary_form d sum h) refl
sum-low d (suc (suc k)) e h = absurd (omega arith)

nested_sum-level : (d k : ℕ) → IsBinary (nested d) k nested_sum → ⊥
unfolding IsBinary
nested_sum-level d zero h = no_binary nested_sum _ _ (unary_form d nested_sum h) refl
nested_sum-level d (suc k) (chain y o os g h p q) =
    let l = added (suc k) _ (simple c) (subst (IsOperation (suc k) (IsBinary (nested d) k)) (sym (same_next _ _ _ _ _ _ g)) p) in
    sum-low d k (omega arith) (subst (IsBinary (nested d) k) (sym (same_start _ _ _ _ g)) h)
nested_sum-level d (suc k) (operand h) = nested_sum-level d k h

nested_sum-refused : (d : ℕ) → IsExpr d nested_sum → ⊥
unfolding nested
nested_sum-refused zero h = h
nested_sum-refused (suc d) (assign t op v e p q r) = cc
nested_sum-refused (suc d) (no_assign (conditional x y z e p q r s)) = cc
nested_sum-refused (suc d) (no_assign (unconditional h)) = nested_sum-level d 10 h
