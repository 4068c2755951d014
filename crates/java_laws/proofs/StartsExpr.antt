-- What tokens weigh in expressions.
use Rattle.std.proofs.Common.{◌≡◌, ◌+◌, ℕ, Bool, true, false, List, [], ◌∷◌, ◌++◌, Option, Some, None, map, refl, ap, arith, length}
use Rattle.java_tree.specs.declared.mark.Mark.TheVariants as marks
use Rattle.java_tree.specs.declared.names.ElementType.{ElementType}
use Rattle.java_tree.specs.declared.names.ElementType.TheVariants as elements
use Rattle.java_tree.specs.declared.names.Ident.{Ident}
use Rattle.java_tree.specs.declared.names.TypeUse.{TypeUse}
use Rattle.java_tree.specs.declared.occurrence.Access.{Access}
use Rattle.java_tree.specs.declared.operators.PostfixOp.{PostfixOp}
use Rattle.java_tree.specs.declared.token.Span.{Span}
use Rattle.java_tree.specs.declared.expr.ArrayInitializer.{ArrayInitializer}
use Rattle.java_tree.specs.declared.expr.Creation.{Creation}
use Rattle.java_tree.specs.declared.expr.Expr.{Expr, out-Expr, fold_out-Expr, map-Expr}
use Rattle.java_tree.specs.declared.expr.Expr.TheOpen.{Expr-F, First-F, Selector-F, Operation-F, Initializer-F}
use Rattle.java_tree.specs.declared.expr.First.{First, out-First, fold_out-First, map-First}
use Rattle.java_tree.specs.declared.expr.Initializer.{Initializer, out-Initializer, fold_out-Initializer, map-Initializer}
use Rattle.java_tree.specs.declared.expr.Operation.{Operation, out-Operation, fold_out-Operation, map-Operation}
use Rattle.java_tree.specs.declared.expr.Primary.{Primary}
use Rattle.java_tree.specs.declared.expr.Selector.{Selector, out-Selector, fold_out-Selector, map-Selector}
use Rattle.java_tree.specs.declared.unit.Callee.{Callee}
use Rattle.java_tree.specs.declared.unit.Callee.TheVariants as callees
use Rattle.java_tree.specs.declared.unit.Member.{Member}
use Rattle.java_tree.specs.declared.unit.Member.TheVariants as members
use Rattle.java_tree.specs.declared.unit.TypeDecl.{TypeDecl}
use Rattle.java_tree.specs.declared.unit.TypeHead.{TypeHead}
use Rattle.java_tree.specs.declared.unit.TypeHead.TheVariants as heads
use Rattle.java_model.specs.Tree.Nodes.{Node}
use Rattle.java_model.specs.Tree.Nodes as nodes
use Rattle.java_model.specs.Tree.Children.{Numbered, numbered, children}
use Rattle.java_model.specs.Tree.InExpressions.{reads, spelled, assigned, prefixed, postfixed, selected, initializer, initializer_in, operand, operand_in, in_expression, in_first, in_selector, InitializerLayer, OperationLayer}
use Rattle.java_model.specs.Grammar.Forms.{IsNonEmpty, ExprLayer, FirstLayer, SelectorLayer}
use Rattle.java_model.specs.Grammar.Signs.{Sign, mark, left_brace, this, super, word, literal, postfix_mark, assign_mark, binary_mark, prefix_mark}
use Rattle.java_model.specs.Grammar.Pieces.{Yield, Piece, token, hole, Hole, Around, deeper, each, parted, yield_name, yield_dims, yield_element, yield_type}
use Rattle.java_model.specs.Grammar.YieldExpr.{yield_arguments, yield_sizes, yield_super, yield_body, yield_postfixes, yield_comma, yield_expr, yield_first, yield_initializer, yield_operation, yield_selector, yield_array, yield_creation, yield_primary, expr_step, first_step, initializer_step, operation_step, selector_step, array_step, creation_step, primary_step}
use Rattle.java_model.specs.Grammar.YieldStmt.{yield_stmt, yield_block, yield_catch, yield_arm, yield_group, yield_local, yield_variable, yield_parameter}
use Rattle.java_model.specs.Grammar.YieldUnit.{yield_member, yield_explicit}
use Rattle.java_model.specs.Occurrences.References.{no_span}
use Rattle.java_model.proofs.Grammar.Yield.{yield_primary-parts, yield_creation-parts, yield_array-parts}
use Rattle.java_laws.proofs.Starts.{Weight, idents, Holds, nothing, both, fit, next, skip, one-token, behind, before-plain, name-holds, dims-hold, between, each-holds, parted-holds}

-- what a node spells itself and may name
abbrev pub own-option : Weight → Option (List Ident) → ℕ
own-option at None = 0
own-option at (Some n) = idents at n

abbrev pub own-first : Weight → FirstLayer → ℕ
own-first at (First-F.Name n) = idents at n
own-first at (First-F.QualifiedThis n s) = idents at n
own-first at (First-F.SuperField n s i) = own-option at n + at.weigh i.span
own-first at (First-F.Call n xs) = idents at n
own-first at (First-F.SuperCall n s i xs) = own-option at n + at.weigh i.span
own-first at _ = 0

abbrev pub own-selector : Weight → SelectorLayer → ℕ
own-selector at (Selector-F.Field i) = at.weigh i.span
own-selector at (Selector-F.MemberCall i xs) = at.weigh i.span
own-selector at _ = 0

abbrev pub own-element : Weight → ElementType → ℕ
own-element at (elements.Primitive p) = 0
own-element at (elements.Named n) = idents at n

abbrev pub own-callee : Weight → Callee → ℕ
own-callee at (callees.This s) = at.weigh s
own-callee at (callees.Super p s) = at.weigh s

abbrev pub own-member : Weight → Member → ℕ
own-member at (members.Method m) = at.weigh m.name.span
own-member at (members.Constructor c) = at.weigh c.name.span
own-member at _ = 0

abbrev pub own-head : Weight → TypeHead → ℕ
own-head at (heads.Class c) = at.weigh c.name.span
own-head at (heads.Interface i) = at.weigh i.name.span
own-head at heads.Anonymous = 0

abbrev pub own-declared : Weight → Option Numbered → ℕ
own-declared at None = 0
own-declared at (Some t) = own-head at t.type.head

abbrev pub own-package : Weight → List Ident → ℕ
own-package at [] = at.weigh no_span
own-package at (i ∷ is) = idents at (i ∷ is)

abbrev pub own : Weight → List TypeDecl → Node → ℕ
own at types (nodes.package_clause n) = own-package at n
own at types (nodes.imported i) = idents at i.name
own at types (nodes.declaration brace) = own-declared at (numbered types brace)
own at types (nodes.supertype number n) = idents at n
own at types (nodes.member number m) = own-member at m
own at types (nodes.field number v) = at.weigh v.name.span
own at types (nodes.type_use e dims) = own-element at e
own at types (nodes.explicit number e) = own-callee at e.callee
own at types (nodes.first how f) = own-first at (out-First f)
own at types (nodes.selector x) = own-selector at (out-Selector x)
own at types (nodes.creation c) = idents at c.class
own at types _ = 0

-- what stands for a node counts all that the node counts
abbrev pub Alone : Weight → List TypeDecl → (Node → ℕ) → List Piece → Node → Type 0
Alone at types T ps n = Holds at types T ps 0 (n ∷ [])

abbrev pub InBody : Weight → List TypeDecl → (Node → ℕ) → ℕ → Type 0
InBody at types T brace =
    (t : Numbered) → numbered types brace ≡ Some t → (a : Around) → Alone at types T (each (map yield_member t.type.members) a) (nodes.body brace)

abbrev pub InHole : Weight → List TypeDecl → (Node → ℕ) → ℕ → Node → Type 0
InHole at types T brace n = (h : Hole) → h.brace ≡ brace → Alone at types T (hole h ∷ []) n

abbrev pub Good : Weight → List TypeDecl → (Node → ℕ) → Node → Type 0
Good at types T (nodes.unit u) = Unit {0}
Good at types T (nodes.package_clause n) = IsNonEmpty n → Alone at types T (yield_name n) (nodes.package_clause n)
Good at types T (nodes.imported i) = Alone at types T (yield_name i.name) (nodes.imported i)
Good at types T (nodes.declaration brace) = InHole at types T brace (nodes.declaration brace)
Good at types T (nodes.supertype number n) = Alone at types T (yield_name n) (nodes.supertype number n)
Good at types T (nodes.body brace) = InHole at types T brace (nodes.body brace) × InBody at types T brace
Good at types T (nodes.member number m) = (a : Around) → Alone at types T (yield_member m a) (nodes.member number m)
Good at types T (nodes.field number v) = (a : Around) → Alone at types T (yield_variable v a) (nodes.field number v)
Good at types T (nodes.variable t v) = (a : Around) → Alone at types T (yield_variable v a) (nodes.variable t v)
Good at types T (nodes.parameter p) = (a : Around) → Alone at types T (yield_parameter p a) (nodes.parameter p)
Good at types T (nodes.type_use e dims) = Alone at types T (yield_element e) (nodes.type_use e dims)
Good at types T (nodes.explicit number e) = (a : Around) → Alone at types T (yield_explicit (Some e) a) (nodes.explicit number e)
Good at types T (nodes.block b) = (a : Around) → Alone at types T (yield_block b a) (nodes.block b)
Good at types T (nodes.statement s) = (a : Around) → Alone at types T (yield_stmt s a) (nodes.statement s)
Good at types T (nodes.locals l) = (a : Around) → Alone at types T (yield_local l a) (nodes.locals l)
Good at types T (nodes.arm x) = (a : Around) → Alone at types T (yield_arm x a) (nodes.arm x)
Good at types T (nodes.group g) = (a : Around) → Alone at types T ((yield_group g).yields a) (nodes.group g)
Good at types T (nodes.catch_clause c) = (a : Around) → Alone at types T (yield_catch c a) (nodes.catch_clause c)
Good at types T (nodes.expression how x) = (a : Around) → Alone at types T (yield_expr x a) (nodes.expression how x)
Good at types T (nodes.primary how p) = (a : Around) → Alone at types T (yield_primary p a) (nodes.primary how p)
Good at types T (nodes.first how f) = (a : Around) → Alone at types T (yield_first f a) (nodes.first how f)
Good at types T (nodes.selector x) = (a : Around) → Alone at types T (yield_selector x a) (nodes.selector x)
Good at types T (nodes.creation c) = (a : Around) → Alone at types T (yield_creation c a) (nodes.creation c)
Good at types T (nodes.array b) = (a : Around) → Alone at types T (yield_array b a) (nodes.array b)

abbrev opened-first : FirstLayer → Yield
opened-first l = first_step
    (map-First Expr First Initializer Operation Selector ArrayInitializer Creation Primary Yield Yield Yield Yield Yield Yield Yield Yield
    yield_expr yield_first yield_initializer yield_operation yield_selector yield_array yield_creation yield_primary l)

yields-first : (f : First) (a : Around) → yield_first f a ≡ opened-first (out-First f) a
unfolding yield_expr yield_first yield_initializer yield_operation yield_selector yield_array yield_creation yield_primary
yields-first f a = ap (λ y. y a)
    (fold_out-First Yield Yield Yield Yield Yield Yield Yield Yield
    expr_step first_step initializer_step operation_step selector_step array_step creation_step primary_step f)

abbrev opened-expr : ExprLayer → Yield
opened-expr l = expr_step (map-Expr Expr First Initializer Operation Selector ArrayInitializer Creation Primary Yield Yield Yield Yield Yield Yield Yield Yield
    yield_expr yield_first yield_initializer yield_operation yield_selector yield_array yield_creation yield_primary l)

yields-expr : (f : Expr) (a : Around) → yield_expr f a ≡ opened-expr (out-Expr f) a
unfolding yield_expr yield_first yield_initializer yield_operation yield_selector yield_array yield_creation yield_primary
yields-expr f a = ap (λ y. y a)
    (fold_out-Expr Yield Yield Yield Yield Yield Yield Yield Yield
    expr_step first_step initializer_step operation_step selector_step array_step creation_step primary_step f)

abbrev opened-selector : SelectorLayer → Yield
opened-selector l = selector_step
    (map-Selector Expr First Initializer Operation Selector ArrayInitializer Creation Primary Yield Yield Yield Yield Yield Yield Yield Yield
    yield_expr yield_first yield_initializer yield_operation yield_selector yield_array yield_creation yield_primary l)

yields-selector : (f : Selector) (a : Around) → yield_selector f a ≡ opened-selector (out-Selector f) a
unfolding yield_expr yield_first yield_initializer yield_operation yield_selector yield_array yield_creation yield_primary
yields-selector f a = ap (λ y. y a)
    (fold_out-Selector Yield Yield Yield Yield Yield Yield Yield Yield
    expr_step first_step initializer_step operation_step selector_step array_step creation_step primary_step f)

abbrev opened-initializer : InitializerLayer → Yield
opened-initializer l = initializer_step
    (map-Initializer Expr First Initializer Operation Selector ArrayInitializer Creation Primary Yield Yield Yield Yield Yield Yield Yield Yield
    yield_expr yield_first yield_initializer yield_operation yield_selector yield_array yield_creation yield_primary l)

yields-initializer : (f : Initializer) (a : Around) → yield_initializer f a ≡ opened-initializer (out-Initializer f) a
unfolding yield_expr yield_first yield_initializer yield_operation yield_selector yield_array yield_creation yield_primary
yields-initializer f a = ap (λ y. y a)
    (fold_out-Initializer Yield Yield Yield Yield Yield Yield Yield Yield
    expr_step first_step initializer_step operation_step selector_step array_step creation_step primary_step f)

abbrev opened-operation : OperationLayer → Yield
opened-operation l = operation_step
    (map-Operation Expr First Initializer Operation Selector ArrayInitializer Creation Primary Yield Yield Yield Yield Yield Yield Yield Yield
    yield_expr yield_first yield_initializer yield_operation yield_selector yield_array yield_creation yield_primary l)

yields-operation : (f : Operation) (a : Around) → yield_operation f a ≡ opened-operation (out-Operation f) a
unfolding yield_expr yield_first yield_initializer yield_operation yield_selector yield_array yield_creation yield_primary
yields-operation f a = ap (λ y. y a)
    (fold_out-Operation Yield Yield Yield Yield Yield Yield Yield Yield
    expr_step first_step initializer_step operation_step selector_step array_step creation_step primary_step f)

module _ (at : Weight) (types : List TypeDecl) (T : Node → ℕ) (G : (n : Node) → Good at types T n) where
  pub type-holds : (t : TypeUse) (d : ℕ) → Holds at types T (yield_type t) 0 (nodes.type_use t.element d ∷ [])
  type-holds t d = before-plain at types T (yield_element t.element) (yield_dims t.dims) 0 _ (G (nodes.type_use t.element d)) (dims-hold at types T t.dims)

  pub arguments-hold : (xs : List Expr) (a : Around) → Holds at types T (yield_arguments (map yield_expr xs) a) 0 (map reads xs)
  arguments-hold xs a = between at types T (mark marks.LeftParen) (mark marks.RightParen) _ (map reads xs)
      (parted-holds at types T yield_expr reads (λ x b. G (reads x) b) xs (deeper a))

  sizes-hold : (xs : List Expr) (a : Around) → Holds at types T (yield_sizes (map yield_expr xs) a) 0 (map reads xs)
  sizes-hold [] a = nothing at types T
  sizes-hold (x ∷ xs) a = skip at types T (mark marks.LeftBracket) _ 0 _
      (behind at types T (yield_expr x (deeper a)) _ (reads x ∷ []) (map reads xs) (G (reads x) (deeper a))
      (skip at types T (mark marks.RightBracket) _ 0 _ (sizes-hold xs a)))

  initializer-layer : (l : InitializerLayer) (a : Around) → Holds at types T (opened-initializer l a) 0 (initializer_in l ∷ [])
  initializer-layer (Initializer-F.Value x) a = G (reads x) (deeper a)
  initializer-layer (Initializer-F.Array b) a = G (nodes.array b) a

  pub initializer-holds : (i : Initializer) (a : Around) → Holds at types T (yield_initializer i a) 0 (initializer i ∷ [])
  initializer-holds i a = rw (yields-initializer i a) (initializer-layer (out-Initializer i) a)

  operation-layer : (l : OperationLayer) (a : Around) → Holds at types T (opened-operation l a) 0 (operand_in l ∷ [])
  operation-layer (Operation-F.Infix op x) a = skip at types T (mark (binary_mark op)) _ 0 _ (G (reads x) a)
  operation-layer (Operation-F.InstanceOf t) a = skip at types T (mark marks.InstanceOf) _ 0 _ (type-holds t t.dims)

  operation-holds : (i : Operation) (a : Around) → Holds at types T (yield_operation i a) 0 (operand i ∷ [])
  operation-holds i a = rw (yields-operation i a) (operation-layer (out-Operation i) a)

  postfixes-hold : (ops : List PostfixOp) → Holds at types T (yield_postfixes ops) 0 []
  postfixes-hold [] = nothing at types T
  postfixes-hold (op ∷ ops) = skip at types T (mark (postfix_mark op)) _ 0 [] (postfixes-hold ops)

  expr-layer : (how : Access) (l : ExprLayer) (a : Around) → Holds at types T (opened-expr l a) 0 (in_expression how l)
  expr-layer how (Expr-F.Assign target op value) a =
      behind at types T (yield_primary target a) _ (nodes.primary (assigned op) target ∷ []) (reads value ∷ []) (G (nodes.primary (assigned op) target) a)
      (skip at types T (mark (assign_mark op)) _ 0 _ (G (reads value) (deeper a)))
  expr-layer how (Expr-F.Conditional test x y) a =
      behind at types T (yield_expr test a) _ (reads test ∷ []) (reads x ∷ reads y ∷ []) (G (reads test) a)
      (skip at types T (mark marks.Question) _ 0 _
      (behind at types T (yield_expr x (deeper a)) _ (reads x ∷ []) (reads y ∷ []) (G (reads x) (deeper a))
      (skip at types T (mark marks.Colon) _ 0 _ (G (reads y) (deeper a)))))
  expr-layer how (Expr-F.Binary x rest) a =
      behind at types T (yield_expr x a) _ (reads x ∷ []) (map operand rest) (G (reads x) a)
      (each-holds at types T yield_operation operand operation-holds rest a)
  expr-layer how (Expr-F.Prefix op x) a = skip at types T (mark (prefix_mark op)) _ 0 _ (G (nodes.expression (prefixed op) x) (deeper a))
  expr-layer how (Expr-F.Cast t x) a = skip at types T (mark marks.LeftParen) _ 0 _
      (behind at types T (yield_type t) _ (spelled t ∷ []) (reads x ∷ []) (type-holds t t.dims)
      (skip at types T (mark marks.RightParen) _ 0 _ (G (reads x) (deeper a))))
  expr-layer how (Expr-F.Postfix p ops) a =
      before-plain at types T (yield_primary p a) (yield_postfixes ops) 0 _ (G (nodes.primary (postfixed how ops) p) a) (postfixes-hold ops)

  pub expr-parts : (how : Access) (x : Expr) (a : Around) → Holds at types T (yield_expr x a) 0 (in_expression how (out-Expr x))
  expr-parts how x a = rw (yields-expr x a) (expr-layer how (out-Expr x) a)

  super-holds : (n : Option (List Ident)) (s : Span) (i : Ident) → Holds at types T (yield_super n s i) (own-option at n + at.weigh i.span) []
  super-holds None s i = skip at types T (super s) _ _ [] (skip at types T (mark marks.Dot) _ _ [] (
      fit at types T _ (at.weigh i.span + 0) _ [] [] (omega arith) (next at types T (word i) _ _ [] (nothing at types T))))
  super-holds (Some n) s i = both at types T (yield_name n) _ (idents at n) (at.weigh i.span) [] [] (name-holds at types T n)
      (skip at types T (mark marks.Dot) _ _ [] (skip at types T (super s) _ _ [] (skip at types T (mark marks.Dot) _ _ [] (
      fit at types T _ (at.weigh i.span + 0) _ [] [] (omega arith) (next at types T (word i) _ _ [] (nothing at types T))))))

  named : (ps qs : List Piece) (k : ℕ) (ns : List Node) → Holds at types T ps k [] → Holds at types T qs 0 ns → Holds at types T (ps ++ qs) k ns
  named ps qs k ns h g = fit at types T (ps ++ qs) (k + 0) k ns ns (omega arith) (both at types T ps qs k 0 [] ns h g)

  plain-after : (x y : Sign) → Holds at types T (token x ∷ token y ∷ []) 0 []
  plain-after x y = skip at types T x _ 0 [] (one-token at types T y)

  first-layer : (how : Access) (l : FirstLayer) (a : Around) → Holds at types T (opened-first l a) (own-first at l) (in_first how l)
  first-layer how (First-F.Literal l) a = one-token at types T (literal l)
  first-layer how (First-F.This s) a = one-token at types T (this s)
  first-layer how (First-F.Name n) a = name-holds at types T n
  first-layer how (First-F.Parenthesized x) a = between at types T (mark marks.LeftParen) (mark marks.RightParen) _ _ (G (nodes.expression how x) (deeper a))
  first-layer how (First-F.ClassLiteral t) a =
      before-plain at types T (yield_type t) _ 0 _ (type-holds t t.dims) (plain-after (mark marks.Dot) (mark marks.Class))
  first-layer how First-F.VoidClass a = skip at types T (mark marks.Void) _ 0 [] (plain-after (mark marks.Dot) (mark marks.Class))
  first-layer how (First-F.QualifiedThis n s) a = named (yield_name n) _ _ [] (name-holds at types T n) (plain-after (mark marks.Dot) (this s))
  first-layer how (First-F.SuperField n s i) a = super-holds n s i
  first-layer how (First-F.Call n xs) a = named (yield_name n) _ _ (map reads xs) (name-holds at types T n) (arguments-hold xs a)
  first-layer how (First-F.SuperCall n s i xs) a = named (yield_super n s i) _ _ (map reads xs) (super-holds n s i) (arguments-hold xs a)
  first-layer how (First-F.New c) a = skip at types T (mark marks.New) _ 0 _ (G (nodes.creation c) a)
  first-layer how (First-F.NewArray e sizes dims) a = skip at types T (mark marks.New) _ 0 _
      (before-plain at types T (yield_element e ++ yield_sizes (map yield_expr sizes) a) (yield_dims dims) 0 _
      (behind at types T (yield_element e) _ (nodes.type_use e (length sizes + dims) ∷ []) (map reads sizes) (G (nodes.type_use e (length sizes + dims)))
      (sizes-hold sizes a)) (dims-hold at types T dims))
  first-layer how (First-F.NewArrayOf e dims b) a = skip at types T (mark marks.New) _ 0 _
      (behind at types T (yield_element e ++ yield_dims dims) _ (nodes.type_use e dims ∷ []) (nodes.array b ∷ [])
      (before-plain at types T (yield_element e) (yield_dims dims) 0 _ (G (nodes.type_use e dims)) (dims-hold at types T dims)) (G (nodes.array b) a))

  pub first-parts : (how : Access) (x : First) (a : Around) → Holds at types T (yield_first x a) (own-first at (out-First x)) (in_first how (out-First x))
  first-parts how x a = rw (yields-first x a) (first-layer how (out-First x) a)

  selector-layer : (l : SelectorLayer) (a : Around) → Holds at types T (opened-selector l a) (own-selector at l) (in_selector l)
  selector-layer (Selector-F.Field i) a = skip at types T (mark marks.Dot) _ _ [] (
      fit at types T _ (at.weigh i.span + 0) _ [] [] (omega arith) (next at types T (word i) _ _ [] (nothing at types T)))
  selector-layer (Selector-F.MemberCall i xs) a = skip at types T (mark marks.Dot) _ _ _ (
      fit at types T _ (at.weigh i.span + 0) _ (map reads xs) (map reads xs) (omega arith) (next at types T (word i) _ 0 _ (arguments-hold xs a)))
  selector-layer (Selector-F.Index x) a = between at types T (mark marks.LeftBracket) (mark marks.RightBracket) _ _ (G (reads x) (deeper a))
  selector-layer (Selector-F.QualifiedNew c) a = skip at types T (mark marks.Dot) _ 0 _ (skip at types T (mark marks.New) _ 0 _ (G (nodes.creation c) a))

  pub selector-parts : (x : Selector) (a : Around) → Holds at types T (yield_selector x a) (own-selector at (out-Selector x)) (in_selector (out-Selector x))
  selector-parts x a = rw (yields-selector x a) (selector-layer (out-Selector x) a)

  pub primary-parts : (how : Access) (p : Primary) (a : Around) → Holds at types T (yield_primary p a) 0 (children types (nodes.primary how p))
  primary-parts how p a = rw (yield_primary-parts p a)
      (behind at types T (yield_first p.first a) _ (nodes.first (selected how p.selectors) p.first ∷ []) (map nodes.selector p.selectors)
      (G (nodes.first (selected how p.selectors) p.first) a)
      (each-holds at types T yield_selector nodes.selector (λ x b. G (nodes.selector x) b) p.selectors a))

  body-holds : (n : List Ident) (o : Option ℕ) (a : Around)
      → Holds at types T (yield_body n o a) 0 (children types (nodes.creation (record { class = n; arguments = []; body = o })))
  body-holds n None a = nothing at types T
  body-holds n (Some brace) a = (G (nodes.body brace)).0 _ refl

  pub creation-parts : (c : Creation) (a : Around) → Holds at types T (yield_creation c a) (idents at c.class) (children types (nodes.creation c))
  creation-parts c a = rw (yield_creation-parts c a)
      (fit at types T _ (idents at c.class + 0) (idents at c.class) _ _ (omega arith)
      (both at types T (yield_name c.class ++ yield_arguments (map yield_expr c.arguments) a) _ (idents at c.class) 0 (map reads c.arguments) _
      (named (yield_name c.class) _ _ (map reads c.arguments) (name-holds at types T c.class) (arguments-hold c.arguments a))
      (body-holds c.class c.body a)))

  comma-holds : (b : Bool) → Holds at types T (yield_comma b) 0 []
  comma-holds true = one-token at types T (mark marks.Comma)
  comma-holds false = nothing at types T

  pub array-parts : (b : ArrayInitializer) (a : Around) → Holds at types T (yield_array b a) 0 (map initializer b.elements)
  array-parts b a = rw (yield_array-parts b a) (skip at types T (left_brace b.brace) _ 0 _
      (before-plain at types T (parted (map yield_initializer b.elements) (deeper a) ++ yield_comma b.comma) _ 0 _
      (before-plain at types T (parted (map yield_initializer b.elements) (deeper a)) (yield_comma b.comma) 0 _
      (parted-holds at types T yield_initializer initializer initializer-holds b.elements (deeper a)) (comma-holds b.comma))
      (one-token at types T (mark marks.RightBrace))))
