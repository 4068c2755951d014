-- What holds of all pieces that an expression yields, by a law for each way to put pieces together.
use Rattle.std.proofs.Common.{◌≡◌, ℕ, zero, suc, Bool, true, false, List, [], ◌∷◌, ◌++◌, Option, Some, None, map, refl}
use Rattle.std.specs.List.{AllByRecursion}
use Rattle.java_tree.specs.declared.mark.Mark.{Mark}
use Rattle.java_tree.specs.declared.mark.Mark.TheVariants as marks
use Rattle.java_tree.specs.declared.names.ElementType.{ElementType}
use Rattle.java_tree.specs.declared.names.ElementType.TheVariants as elements
use Rattle.java_tree.specs.declared.names.Ident.{Ident}
use Rattle.java_tree.specs.declared.names.Primitive.{Primitive}
use Rattle.java_tree.specs.declared.names.Primitive.TheVariants as primitives
use Rattle.java_tree.specs.declared.names.TypeUse.{TypeUse}
use Rattle.java_tree.specs.declared.operators.AssignOp.{AssignOp}
use Rattle.java_tree.specs.declared.operators.AssignOp.TheVariants as assigns
use Rattle.java_tree.specs.declared.operators.BinaryOp.{BinaryOp}
use Rattle.java_tree.specs.declared.operators.BinaryOp.TheVariants as binaries
use Rattle.java_tree.specs.declared.operators.PrefixOp.{PrefixOp}
use Rattle.java_tree.specs.declared.operators.PrefixOp.TheVariants as prefixes
use Rattle.java_tree.specs.declared.operators.PostfixOp.{PostfixOp}
use Rattle.java_tree.specs.declared.operators.PostfixOp.TheVariants as postfixes
use Rattle.java_tree.specs.declared.token.Span.{Span}
use Rattle.java_tree.specs.declared.unit.TypePlace.TheVariants as places
use Rattle.java_tree.specs.declared.expr.Expr.{Expr}
use Rattle.java_tree.specs.declared.expr.First.{First}
use Rattle.java_tree.specs.declared.expr.Initializer.{Initializer}
use Rattle.java_tree.specs.declared.expr.Operation.{Operation}
use Rattle.java_tree.specs.declared.expr.Selector.{Selector}
use Rattle.java_tree.specs.declared.expr.ArrayInitializer.{ArrayInitializer}
use Rattle.java_tree.specs.declared.expr.Creation.{Creation}
use Rattle.java_tree.specs.declared.expr.Primary.{Primary}
use Rattle.java_model.specs.Grammar.Signs.{Sign, mark, left_brace, this, super, word, literal, primitive_mark, assign_mark, binary_mark, prefix_mark, postfix_mark}
use Rattle.java_model.specs.Grammar.Pieces.{Yield, Piece, token, hole, Hole, the, Around, deeper, each, behind_commas, parted, dotted, yield_name, yield_dims, yield_element, yield_type}
use Rattle.java_model.specs.Grammar.YieldExpr.{yield_arguments, yield_sizes, yield_super, yield_body, yield_postfixes, yield_comma, yield_expr, yield_first, yield_initializer, yield_operation, yield_selector, yield_array, yield_creation, yield_primary}
use Rattle.java_model.specs.Grammar.Expressions.{Nested, IsFirst, literal as a_literal, this as a_this, parenthesized, class_literal, void_class, qualified_this, super_field, call, super_call, new, new_array_of, IsNewArray, new_array, IsSelector, field, member_call, index, qualified_new, IsPrimary, primary_of, primary_of_name, primary_of_array, postfix, IsUnary, a_prefix, a_postfix, IsPrefixOver, prefix, cast_primitive, cast_name, IsOperation, infix_of, instance_of, IsBinary, chain, operand, conditional, unconditional, IsExprOver, assign, no_assign, IsInitializer, value, of_array, IsBracesOver, nest, nested}
use Rattle.java_model.specs.Grammar.Braces.{open_behind}
use Rattle.java_model.proofs.Grammar.Yield.{yield_expr-Assign, yield_expr-Conditional, yield_expr-Binary, yield_expr-Prefix, yield_expr-Cast, yield_expr-Postfix, yield_operation-Infix, yield_operation-InstanceOf, yield_first-Literal, yield_first-This, yield_first-Name, yield_first-Parenthesized, yield_first-ClassLiteral, yield_first-VoidClass, yield_first-QualifiedThis, yield_first-SuperField, yield_first-Call, yield_first-SuperCall, yield_first-New, yield_first-NewArray, yield_first-NewArrayOf, yield_selector-Field, yield_selector-MemberCall, yield_selector-Index, yield_selector-QualifiedNew, yield_initializer-Value, yield_initializer-Array, yield_primary-parts, yield_creation-parts, yield_array-parts}

-- a sign that is no brace
abbrev pub IsNeutral : Sign → Type 0
IsNeutral x = (d : ℕ) (qs : List Piece) → open_behind (token x ∷ qs) d ≡ open_behind qs d

-- a property that pieces keep when they are put together
pub record IsKept (Q : List Piece → Type 0) : Type 0 where
  pub nothing : Q []
  pub both : (xs ys : List Piece) → Q xs → Q ys → Q (xs ++ ys)
  pub next : (x : Sign) (ps : List Piece) → IsNeutral x → Q ps → Q (token x ∷ ps)
  pub braced : (at : ℕ) (ps : List Piece) → Q ps → Q (token (left_brace at) ∷ (ps ++ the marks.RightBrace ∷ []))
  pub anonymous : (h : Hole) → h.place ≡ places.Anonymous → Q (hole h ∷ [])

pub assign_neutral : (op : AssignOp) → IsNeutral (mark (assign_mark op))
assign_neutral assigns.Assign d qs = refl
assign_neutral assigns.Multiply d qs = refl
assign_neutral assigns.Divide d qs = refl
assign_neutral assigns.Remainder d qs = refl
assign_neutral assigns.Add d qs = refl
assign_neutral assigns.Subtract d qs = refl
assign_neutral assigns.LeftShift d qs = refl
assign_neutral assigns.RightShift d qs = refl
assign_neutral assigns.UnsignedRightShift d qs = refl
assign_neutral assigns.And d qs = refl
assign_neutral assigns.Xor d qs = refl
assign_neutral assigns.Or d qs = refl

pub binary_neutral : (op : BinaryOp) → IsNeutral (mark (binary_mark op))
binary_neutral binaries.ConditionalOr d qs = refl
binary_neutral binaries.ConditionalAnd d qs = refl
binary_neutral binaries.Or d qs = refl
binary_neutral binaries.Xor d qs = refl
binary_neutral binaries.And d qs = refl
binary_neutral binaries.Equal d qs = refl
binary_neutral binaries.NotEqual d qs = refl
binary_neutral binaries.Less d qs = refl
binary_neutral binaries.Greater d qs = refl
binary_neutral binaries.LessEqual d qs = refl
binary_neutral binaries.GreaterEqual d qs = refl
binary_neutral binaries.LeftShift d qs = refl
binary_neutral binaries.RightShift d qs = refl
binary_neutral binaries.UnsignedRightShift d qs = refl
binary_neutral binaries.Add d qs = refl
binary_neutral binaries.Subtract d qs = refl
binary_neutral binaries.Multiply d qs = refl
binary_neutral binaries.Divide d qs = refl
binary_neutral binaries.Remainder d qs = refl

pub prefix_neutral : (op : PrefixOp) → IsNeutral (mark (prefix_mark op))
prefix_neutral prefixes.Increment d qs = refl
prefix_neutral prefixes.Decrement d qs = refl
prefix_neutral prefixes.Plus d qs = refl
prefix_neutral prefixes.Minus d qs = refl
prefix_neutral prefixes.Complement d qs = refl
prefix_neutral prefixes.Not d qs = refl

pub postfix_neutral : (op : PostfixOp) → IsNeutral (mark (postfix_mark op))
postfix_neutral postfixes.Increment d qs = refl
postfix_neutral postfixes.Decrement d qs = refl

pub primitive_neutral : (p : Primitive) → IsNeutral (mark (primitive_mark p))
primitive_neutral primitives.Boolean d qs = refl
primitive_neutral primitives.Byte d qs = refl
primitive_neutral primitives.Short d qs = refl
primitive_neutral primitives.Char d qs = refl
primitive_neutral primitives.Int d qs = refl
primitive_neutral primitives.Long d qs = refl
primitive_neutral primitives.Float d qs = refl
primitive_neutral primitives.Double d qs = refl

-- everywhere kept
abbrev pub AreKept : (List Piece → Type 0) → List Yield → Type 0
AreKept Q = AllByRecursion (λ y. (a : Around) → Q (y a))

-- kept by what is nested
pub record Keeps (Q : List Piece → Type 0) (N : Nested) : Type 0 where
  pub expr : (x : Expr) → N.expr x → (a : Around) → Q (yield_expr x a)
  pub prefix : (x : Expr) → N.prefix x → (a : Around) → Q (yield_expr x a)
  pub braces : (b : ArrayInitializer) → N.braces b → (a : Around) → Q (yield_array b a)

module _ (Q : List Piece → Type 0) (law : IsKept Q) where
  -- one token
  pub kept_one : (x : Sign) → IsNeutral x → Q (token x ∷ [])
  kept_one x h = law.next x [] h law.nothing

  -- between two marks
  pub kept_between : (m n : Mark) (ps : List Piece) → IsNeutral (mark m) → IsNeutral (mark n) → Q ps → Q (the m ∷ (ps ++ the n ∷ []))
  kept_between m n ps h k g = law.next (mark m) (ps ++ the n ∷ []) h (law.both ps (the n ∷ []) g (kept_one (mark n) k))

  kept_dotted : (n : List Ident) → Q (dotted n)
  kept_dotted [] = law.nothing
  kept_dotted (i ∷ n) = law.next (mark marks.Dot) _ (λ d qs. refl) (law.next (word i) _ (λ d qs. refl) (kept_dotted n))

  pub kept_name : (n : List Ident) → Q (yield_name n)
  kept_name [] = law.nothing
  kept_name (i ∷ n) = law.next (word i) _ (λ d qs. refl) (kept_dotted n)

  pub kept_dims : (n : ℕ) → Q (yield_dims n)
  kept_dims zero = law.nothing
  kept_dims (suc n) = law.next (mark marks.LeftBracket) _ (λ d qs. refl) (law.next (mark marks.RightBracket) _ (λ d qs. refl) (kept_dims n))

  pub kept_element : (t : ElementType) → Q (yield_element t)
  kept_element (elements.Primitive p) = kept_one (mark (primitive_mark p)) (primitive_neutral p)
  kept_element (elements.Named n) = kept_name n

  pub kept_type : (t : TypeUse) → Q (yield_type t)
  kept_type t = law.both (yield_element t.element) (yield_dims t.dims) (kept_element t.element) (kept_dims t.dims)

  kept_super : (n : Option (List Ident)) (s : Span) (i : Ident) → Q (yield_super n s i)
  kept_super None s i = law.next (super s) _ (λ d qs. refl) (law.next (mark marks.Dot) _ (λ d qs. refl) (kept_one (word i) (λ d qs. refl)))
  kept_super (Some n) s i = law.both (yield_name n) _ (kept_name n) (law.next (mark marks.Dot) _ (λ d qs. refl) (law.next (super s) _ (λ d qs. refl) (law.next (mark marks.Dot) _ (λ d qs. refl) (kept_one (word i) (λ d qs. refl)))))

  kept_postfixes : (ops : List PostfixOp) → Q (yield_postfixes ops)
  kept_postfixes [] = law.nothing
  kept_postfixes (op ∷ ops) = law.next (mark (postfix_mark op)) (yield_postfixes ops) (postfix_neutral op) (kept_postfixes ops)

  kept_comma : (b : Bool) → Q (yield_comma b)
  kept_comma true = kept_one (mark marks.Comma) (λ d qs. refl)
  kept_comma false = law.nothing

  kept_body : (n : List Ident) (body : Option ℕ) (a : Around) → Q (yield_body n body a)
  kept_body n None a = law.nothing
  kept_body n (Some at) a = law.anonymous _ refl

  pub all_kept : {X : Type 0} (P : X → Type 0) (f : X → Yield) → ((x : X) → P x → (a : Around) → Q (f x a))
      → (xs : List X) → AllByRecursion P xs → AreKept Q (map f xs)
  all_kept P f k [] h = tt
  all_kept P f k (x ∷ xs) h = (k x h.0, all_kept P f k xs h.1)

  pub kept_each : (ys : List Yield) (a : Around) → AreKept Q ys → Q (each ys a)
  kept_each [] a h = law.nothing
  kept_each (y ∷ ys) a h = law.both (y a) (each ys a) (h.0 a) (kept_each ys a h.1)

  kept_commas : (ys : List Yield) (a : Around) → AreKept Q ys → Q (behind_commas ys a)
  kept_commas [] a h = law.nothing
  kept_commas (y ∷ ys) a h =
      law.next (mark marks.Comma) (y a ++ behind_commas ys a) (λ d qs. refl) (law.both (y a) (behind_commas ys a) (h.0 a) (kept_commas ys a h.1))

  pub kept_parted : (ys : List Yield) (a : Around) → AreKept Q ys → Q (parted ys a)
  kept_parted [] a h = law.nothing
  kept_parted (y ∷ ys) a h = law.both (y a) (behind_commas ys a) (h.0 a) (kept_commas ys a h.1)

  pub kept_arguments : (ys : List Yield) (a : Around) → AreKept Q ys → Q (yield_arguments ys a)
  kept_arguments ys a h =
      kept_between marks.LeftParen marks.RightParen (parted ys (deeper a)) (λ d qs. refl) (λ d qs. refl) (kept_parted ys (deeper a) h)

  kept_sizes : (ys : List Yield) (a : Around) → AreKept Q ys → Q (yield_sizes ys a)
  kept_sizes [] a h = law.nothing
  kept_sizes (y ∷ ys) a h =
      law.next (mark marks.LeftBracket) (y (deeper a) ++ the marks.RightBracket ∷ yield_sizes ys a) (λ d qs. refl)
      (law.both (y (deeper a)) (the marks.RightBracket ∷ yield_sizes ys a) (h.0 (deeper a))
      (law.next (mark marks.RightBracket) (yield_sizes ys a) (λ d qs. refl) (kept_sizes ys a h.1)))

  module _ (N : Nested) (closed : Keeps Q N) where
    pub arguments_closed : (args : List Expr) (a : Around) → AllByRecursion N.expr args → Q (yield_arguments (map yield_expr args) a)
    arguments_closed args a h = kept_arguments (map yield_expr args) a (all_kept N.expr yield_expr closed.expr args h)

    creation_closed : (c : Creation) (a : Around) → AllByRecursion N.expr c.arguments → Q (yield_creation c a)
    creation_closed c a h =
        rw yield_creation-parts
        (law.both (yield_name c.class ++ yield_arguments (map yield_expr c.arguments) a) (yield_body c.class c.body a)
        (law.both (yield_name c.class) _ (kept_name c.class) (arguments_closed c.arguments a h))
        (kept_body c.class c.body a))

    first_closed : (f : First) (a : Around) → IsFirst N f → Q (yield_first f a)
    first_closed f a (a_literal l e) = rw (e, yield_first-Literal) (kept_one (literal l) (λ d qs. refl))
    first_closed f a (a_this s e) = rw (e, yield_first-This) (kept_one (this s) (λ d qs. refl))
    first_closed f a (parenthesized x e h) =
        rw (e, yield_first-Parenthesized) (kept_between marks.LeftParen marks.RightParen _ (λ d qs. refl) (λ d qs. refl) (closed.expr x h (deeper a)))
    first_closed f a (class_literal t e h) = rw (e, yield_first-ClassLiteral) (law.both (yield_type t) _ (kept_type t) (law.next (mark marks.Dot) _ (λ d qs. refl) (kept_one (mark marks.Class) (λ d qs. refl))))
    first_closed f a (void_class e) = rw (e, yield_first-VoidClass) (law.next (mark marks.Void) _ (λ d qs. refl) (law.next (mark marks.Dot) _ (λ d qs. refl) (kept_one (mark marks.Class) (λ d qs. refl))))
    first_closed f a (qualified_this n s e h) = rw (e, yield_first-QualifiedThis) (law.both (yield_name n) _ (kept_name n) (law.next (mark marks.Dot) _ (λ d qs. refl) (kept_one (this s) (λ d qs. refl))))
    first_closed f a (super_field n s i e h) = rw (e, yield_first-SuperField) (kept_super n s i)
    first_closed f a (call n args e h hs) = rw (e, yield_first-Call) (law.both (yield_name n) _ (kept_name n) (arguments_closed args a hs))
    first_closed f a (super_call n s i args e h hs) = rw (e, yield_first-SuperCall) (law.both (yield_super n s i) _ (kept_super n s i) (arguments_closed args a hs))
    first_closed f a (new c e h) = rw (e, yield_first-New) (law.next (mark marks.New) _ (λ d qs. refl) (creation_closed c a h.1))
    first_closed f a (new_array_of t n b e h g) =
        rw (e, yield_first-NewArrayOf)
        (law.next (mark marks.New) _ (λ d qs. refl)
        (law.both (yield_element t ++ yield_dims (suc n)) (yield_array b a)
        (law.both (yield_element t) _ (kept_element t) (kept_dims (suc n))) (closed.braces b g a)))

    new_array_closed : (f : First) (a : Around) → IsNewArray N f → Q (yield_first f a)
    new_array_closed f a (new_array t size sizes n e h g gs) =
        rw (e, yield_first-NewArray)
        (law.next (mark marks.New) _ (λ d qs. refl)
        (law.both (yield_element t ++ yield_sizes (map yield_expr (size ∷ sizes)) a) (yield_dims n)
        (law.both (yield_element t) _ (kept_element t)
        (kept_sizes (map yield_expr (size ∷ sizes)) a (all_kept N.expr yield_expr closed.expr (size ∷ sizes) (g, gs))))
        (kept_dims n)))

    selector_closed : (s : Selector) → IsSelector N s → (a : Around) → Q (yield_selector s a)
    selector_closed s (field i e) a = rw (e, yield_selector-Field) (law.next (mark marks.Dot) _ (λ d qs. refl) (kept_one (word i) (λ d qs. refl)))
    selector_closed s (member_call i args e h) a = rw (e, yield_selector-MemberCall) (law.next (mark marks.Dot) _ (λ d qs. refl) (law.next (word i) _ (λ d qs. refl) (arguments_closed args a h)))
    selector_closed s (index x e h) a =
        rw (e, yield_selector-Index) (kept_between marks.LeftBracket marks.RightBracket _ (λ d qs. refl) (λ d qs. refl) (closed.expr x h (deeper a)))
    selector_closed s (qualified_new c e h) a = rw (e, yield_selector-QualifiedNew) (law.next (mark marks.Dot) _ (λ d qs. refl) (law.next (mark marks.New) _ (λ d qs. refl) (creation_closed c a h.1)))

    selectors_closed : (ss : List Selector) (a : Around) → AllByRecursion (IsSelector N) ss → Q (each (map yield_selector ss) a)
    selectors_closed ss a h = kept_each (map yield_selector ss) a (all_kept (IsSelector N) yield_selector selector_closed ss h)

    pub primary_closed : (p : Primary) (a : Around) → IsPrimary N p → Q (yield_primary p a)
    primary_closed p a (primary_of h hs) =
        rw yield_primary-parts (law.both (yield_first p.first a) _ (first_closed p.first a h) (selectors_closed p.selectors a hs))
    primary_closed p a (primary_of_name n e h m hs) =
        rw (yield_primary-parts, e, yield_first-Name) (law.both (yield_name n) _ (kept_name n) (selectors_closed p.selectors a hs))
    primary_closed p a (primary_of_array h i hs) =
        rw yield_primary-parts (law.both (yield_first p.first a) _ (new_array_closed p.first a h) (selectors_closed p.selectors a hs))

    unary_closed : (x : Expr) (a : Around) → IsUnary N x → Q (yield_expr x a)
    unary_closed x a (a_prefix h) = closed.prefix x h a
    unary_closed x a (a_postfix (postfix p ops e h)) =
        rw (e, yield_expr-Postfix) (law.both (yield_primary p a) _ (primary_closed p a h) (kept_postfixes ops))

    cast_closed : (t : TypeUse) (y : Expr) (a : Around) → IsUnary N y
        → Q (the marks.LeftParen ∷ (yield_type t ++ the marks.RightParen ∷ yield_expr y (deeper a)))
    cast_closed t y a h =
        law.next (mark marks.LeftParen) _ (λ d qs. refl)
        (law.both (yield_type t) _ (kept_type t) (law.next (mark marks.RightParen) _ (λ d qs. refl) (unary_closed y (deeper a) h)))

    prefix_closed : (x : Expr) → IsPrefixOver N x → (a : Around) → Q (yield_expr x a)
    prefix_closed x (prefix op y e h) a = rw (e, yield_expr-Prefix) (law.next (mark (prefix_mark op)) _ (prefix_neutral op) (unary_closed y (deeper a) h))
    prefix_closed x (cast_primitive p n y e h) a = rw (e, yield_expr-Cast) (cast_closed (record { element = elements.Primitive p; dims = n }) y a h)
    prefix_closed x (cast_name name n y e g s h) a = rw (e, yield_expr-Cast) (cast_closed (record { element = elements.Named name; dims = n }) y a h)

    operation_closed : (k : ℕ) (Operand : Expr → Type 0) → ((x : Expr) (a : Around) → Operand x → Q (yield_expr x a))
        → (o : Operation) → IsOperation k Operand o → (a : Around) → Q (yield_operation o a)
    operation_closed k Operand f o (infix_of op y e l h) a =
        rw (e, yield_operation-Infix) (law.next (mark (binary_mark op)) _ (binary_neutral op) (f y a h))
    operation_closed k Operand f o (instance_of t e l h) a = rw (e, yield_operation-InstanceOf) (law.next (mark marks.InstanceOf) _ (λ d qs. refl) (kept_type t))

    binary_closed : (k : ℕ) (x : Expr) (a : Around) → IsBinary N k x → Q (yield_expr x a)
    unfolding IsBinary
    binary_closed zero x a h = unary_closed x a h
    binary_closed (suc k) x a (chain y o os e h p q) =
        rw (e, yield_expr-Binary)
        (law.both (yield_expr y a) _ (binary_closed k y a h)
        (kept_each (map yield_operation (o ∷ os)) a
        (all_kept (IsOperation (suc k) (IsBinary N k)) yield_operation (operation_closed (suc k) (IsBinary N k) (binary_closed k)) (o ∷ os) (p, q))))
    binary_closed (suc k) x a (operand h) = binary_closed k x a h

    expr_closed : (x : Expr) → IsExprOver N x → (a : Around) → Q (yield_expr x a)
    expr_closed x (assign t op v e p q r) a =
        rw (e, yield_expr-Assign)
        (law.both (yield_primary t a) _ (primary_closed t a p) (law.next (mark (assign_mark op)) _ (assign_neutral op) (closed.expr v r (deeper a))))
    expr_closed x (no_assign (conditional c y z e p q r s)) a =
        rw (e, yield_expr-Conditional)
        (law.both (yield_expr c a) _ (binary_closed 10 c a p)
        (law.next (mark marks.Question) _ (λ d qs. refl)
        (law.both (yield_expr y (deeper a)) _ (closed.expr y q (deeper a))
        (law.next (mark marks.Colon) _ (λ d qs. refl) (closed.expr z r (deeper a))))))
    expr_closed x (no_assign (unconditional h)) a = binary_closed 10 x a h

    pub initializer_closed : (i : Initializer) → IsInitializer N i → (a : Around) → Q (yield_initializer i a)
    initializer_closed i (value x e h) a = rw (e, yield_initializer-Value) (closed.expr x h (deeper a))
    initializer_closed i (of_array b e h) a = rw (e, yield_initializer-Array) (closed.braces b h a)

    braces_closed : (b : ArrayInitializer) → IsBracesOver N b → (a : Around) → Q (yield_array b a)
    braces_closed b h a =
        rw yield_array-parts
        (law.braced b.brace (parted (map yield_initializer b.elements) (deeper a) ++ yield_comma b.comma)
        (law.both (parted (map yield_initializer b.elements) (deeper a)) _
        (kept_parted (map yield_initializer b.elements) (deeper a) (all_kept (IsInitializer N) yield_initializer initializer_closed b.elements h))
        (kept_comma b.comma)))

    pub nest_closed : Keeps Q (nest N)
    nest_closed = record { expr = expr_closed; prefix = prefix_closed; braces = braces_closed }

  pub nested_closed : (d : ℕ) → Keeps Q (nested d)
  unfolding nested
  nested_closed zero = record { expr = λ x h a. absurd h; prefix = λ x h a. absurd h; braces = λ b h a. absurd h }
  nested_closed (suc d) = nest_closed (nested d) (nested_closed d)
