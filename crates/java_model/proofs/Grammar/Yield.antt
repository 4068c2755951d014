-- What each form of an expression yields.
use Rattle.std.proofs.Common.{◌≡◌, ℕ, List, [], ◌∷◌, ◌++◌, Option, map, sym, ap, ◌∙◌}
use Rattle.java_tree.specs.declared.mark.Mark.TheVariants as marks
use Rattle.java_tree.specs.declared.names.ElementType.{ElementType}
use Rattle.java_tree.specs.declared.names.Ident.{Ident}
use Rattle.java_tree.specs.declared.names.Literal.{Literal}
use Rattle.java_tree.specs.declared.names.TypeUse.{TypeUse}
use Rattle.java_tree.specs.declared.operators.AssignOp.{AssignOp}
use Rattle.java_tree.specs.declared.operators.BinaryOp.{BinaryOp}
use Rattle.java_tree.specs.declared.operators.PrefixOp.{PrefixOp}
use Rattle.java_tree.specs.declared.operators.PostfixOp.{PostfixOp}
use Rattle.java_tree.specs.declared.token.Span.{Span}
use Rattle.java_tree.specs.declared.expr.Expr.{Expr, fold-roll-Expr}
use Rattle.java_tree.specs.declared.expr.Expr.TheVariants as exprs
use Rattle.java_tree.specs.declared.expr.Expr.TheOpen.{Expr-F, First-F, Initializer-F, Operation-F, Selector-F}
use Rattle.java_tree.specs.declared.expr.First.{fold-roll-First}
use Rattle.java_tree.specs.declared.expr.First.TheVariants as firsts
use Rattle.java_tree.specs.declared.expr.Initializer.{fold-roll-Initializer}
use Rattle.java_tree.specs.declared.expr.Initializer.TheVariants as initializers
use Rattle.java_tree.specs.declared.expr.Operation.{Operation, fold-roll-Operation}
use Rattle.java_tree.specs.declared.expr.Operation.TheVariants as operations
use Rattle.java_tree.specs.declared.expr.Selector.{fold-roll-Selector}
use Rattle.java_tree.specs.declared.expr.Selector.TheVariants as selectors
use Rattle.java_tree.specs.declared.expr.ArrayInitializer.{ArrayInitializer, fold_out-ArrayInitializer}
use Rattle.java_tree.specs.declared.expr.Creation.{Creation, fold_out-Creation}
use Rattle.java_tree.specs.declared.expr.Primary.{Primary, fold_out-Primary}
use Rattle.java_model.specs.Grammar.Signs.{left_brace, this, word, literal, assign_mark, binary_mark, prefix_mark}
use Rattle.java_model.specs.Grammar.Pieces.{Yield, token, the, Around, deeper, each, parted, yield_name, yield_dims, yield_element, yield_type}
use Rattle.java_model.specs.Grammar.YieldExpr.{yield_arguments, yield_sizes, yield_super, yield_body, yield_postfixes, yield_comma, expr_step, first_step, initializer_step, operation_step, selector_step, array_step, creation_step, primary_step, yield_expr, yield_first, yield_initializer, yield_operation, yield_selector, yield_array, yield_creation, yield_primary}

pub yield_expr-Assign : (target : Primary) (op : AssignOp) (value : Expr) (a : Around) → yield_expr (exprs.Assign target op value) a ≡ yield_primary target a ++ the (assign_mark op) ∷ yield_expr value (deeper a)
unfolding yield_expr yield_first yield_initializer yield_operation yield_selector yield_array yield_creation yield_primary
yield_expr-Assign target op value a = ap (λ y. y a) (ap yield_expr (sym (exprs.rolls-Assign target op value)) ∙ fold-roll-Expr Yield Yield Yield Yield Yield Yield Yield Yield expr_step first_step initializer_step operation_step selector_step array_step creation_step primary_step (Expr-F.Assign target op value))

pub yield_expr-Conditional : (test : Expr) (then : Expr) (other : Expr) (a : Around) → yield_expr (exprs.Conditional test then other) a ≡ yield_expr test a ++ the marks.Question ∷ (yield_expr then (deeper a) ++ the marks.Colon ∷ yield_expr other (deeper a))
unfolding yield_expr yield_first yield_initializer yield_operation yield_selector yield_array yield_creation yield_primary
yield_expr-Conditional test then other a = ap (λ y. y a) (ap yield_expr (sym (exprs.rolls-Conditional test then other)) ∙ fold-roll-Expr Yield Yield Yield Yield Yield Yield Yield Yield expr_step first_step initializer_step operation_step selector_step array_step creation_step primary_step (Expr-F.Conditional test then other))

pub yield_expr-Binary : (first : Expr) (rest : List Operation) (a : Around) → yield_expr (exprs.Binary first rest) a ≡ yield_expr first a ++ each (map yield_operation rest) a
unfolding yield_expr yield_first yield_initializer yield_operation yield_selector yield_array yield_creation yield_primary
yield_expr-Binary first rest a = ap (λ y. y a) (ap yield_expr (sym (exprs.rolls-Binary first rest)) ∙ fold-roll-Expr Yield Yield Yield Yield Yield Yield Yield Yield expr_step first_step initializer_step operation_step selector_step array_step creation_step primary_step (Expr-F.Binary first rest))

pub yield_expr-Prefix : (op : PrefixOp) (operand : Expr) (a : Around) → yield_expr (exprs.Prefix op operand) a ≡ the (prefix_mark op) ∷ yield_expr operand (deeper a)
unfolding yield_expr yield_first yield_initializer yield_operation yield_selector yield_array yield_creation yield_primary
yield_expr-Prefix op operand a = ap (λ y. y a) (ap yield_expr (sym (exprs.rolls-Prefix op operand)) ∙ fold-roll-Expr Yield Yield Yield Yield Yield Yield Yield Yield expr_step first_step initializer_step operation_step selector_step array_step creation_step primary_step (Expr-F.Prefix op operand))

pub yield_expr-Cast : (type : TypeUse) (operand : Expr) (a : Around) → yield_expr (exprs.Cast type operand) a ≡ the marks.LeftParen ∷ (yield_type type ++ the marks.RightParen ∷ yield_expr operand (deeper a))
unfolding yield_expr yield_first yield_initializer yield_operation yield_selector yield_array yield_creation yield_primary
yield_expr-Cast type operand a = ap (λ y. y a) (ap yield_expr (sym (exprs.rolls-Cast type operand)) ∙ fold-roll-Expr Yield Yield Yield Yield Yield Yield Yield Yield expr_step first_step initializer_step operation_step selector_step array_step creation_step primary_step (Expr-F.Cast type operand))

pub yield_expr-Postfix : (primary : Primary) (ops : List PostfixOp) (a : Around) → yield_expr (exprs.Postfix primary ops) a ≡ yield_primary primary a ++ yield_postfixes ops
unfolding yield_expr yield_first yield_initializer yield_operation yield_selector yield_array yield_creation yield_primary
yield_expr-Postfix primary ops a = ap (λ y. y a) (ap yield_expr (sym (exprs.rolls-Postfix primary ops)) ∙ fold-roll-Expr Yield Yield Yield Yield Yield Yield Yield Yield expr_step first_step initializer_step operation_step selector_step array_step creation_step primary_step (Expr-F.Postfix primary ops))

pub yield_operation-Infix : (op : BinaryOp) (operand : Expr) (a : Around) → yield_operation (operations.Infix op operand) a ≡ the (binary_mark op) ∷ yield_expr operand a
unfolding yield_expr yield_first yield_initializer yield_operation yield_selector yield_array yield_creation yield_primary
yield_operation-Infix op operand a = ap (λ y. y a) (ap yield_operation (sym (operations.rolls-Infix op operand)) ∙ fold-roll-Operation Yield Yield Yield Yield Yield Yield Yield Yield expr_step first_step initializer_step operation_step selector_step array_step creation_step primary_step (Operation-F.Infix op operand))

pub yield_operation-InstanceOf : (type : TypeUse) (a : Around) → yield_operation (operations.InstanceOf type) a ≡ the marks.InstanceOf ∷ yield_type type
unfolding yield_expr yield_first yield_initializer yield_operation yield_selector yield_array yield_creation yield_primary
yield_operation-InstanceOf type a = ap (λ y. y a) (ap yield_operation (sym (operations.rolls-InstanceOf type)) ∙ fold-roll-Operation Yield Yield Yield Yield Yield Yield Yield Yield expr_step first_step initializer_step operation_step selector_step array_step creation_step primary_step (Operation-F.InstanceOf type))

pub yield_first-Literal : (l : Literal) (a : Around) → yield_first (firsts.Literal l) a ≡ token (literal l) ∷ []
unfolding yield_expr yield_first yield_initializer yield_operation yield_selector yield_array yield_creation yield_primary
yield_first-Literal l a = ap (λ y. y a) (ap yield_first (sym (firsts.rolls-Literal l)) ∙ fold-roll-First Yield Yield Yield Yield Yield Yield Yield Yield expr_step first_step initializer_step operation_step selector_step array_step creation_step primary_step (First-F.Literal l))

pub yield_first-This : (s : Span) (a : Around) → yield_first (firsts.This s) a ≡ token (this s) ∷ []
unfolding yield_expr yield_first yield_initializer yield_operation yield_selector yield_array yield_creation yield_primary
yield_first-This s a = ap (λ y. y a) (ap yield_first (sym (firsts.rolls-This s)) ∙ fold-roll-First Yield Yield Yield Yield Yield Yield Yield Yield expr_step first_step initializer_step operation_step selector_step array_step creation_step primary_step (First-F.This s))

pub yield_first-Name : (n : List Ident) (a : Around) → yield_first (firsts.Name n) a ≡ yield_name n
unfolding yield_expr yield_first yield_initializer yield_operation yield_selector yield_array yield_creation yield_primary
yield_first-Name n a = ap (λ y. y a) (ap yield_first (sym (firsts.rolls-Name n)) ∙ fold-roll-First Yield Yield Yield Yield Yield Yield Yield Yield expr_step first_step initializer_step operation_step selector_step array_step creation_step primary_step (First-F.Name n))

pub yield_first-Parenthesized : (x : Expr) (a : Around) → yield_first (firsts.Parenthesized x) a ≡ the marks.LeftParen ∷ (yield_expr x (deeper a) ++ the marks.RightParen ∷ [])
unfolding yield_expr yield_first yield_initializer yield_operation yield_selector yield_array yield_creation yield_primary
yield_first-Parenthesized x a = ap (λ y. y a) (ap yield_first (sym (firsts.rolls-Parenthesized x)) ∙ fold-roll-First Yield Yield Yield Yield Yield Yield Yield Yield expr_step first_step initializer_step operation_step selector_step array_step creation_step primary_step (First-F.Parenthesized x))

pub yield_first-ClassLiteral : (type : TypeUse) (a : Around) → yield_first (firsts.ClassLiteral type) a ≡ yield_type type ++ the marks.Dot ∷ the marks.Class ∷ []
unfolding yield_expr yield_first yield_initializer yield_operation yield_selector yield_array yield_creation yield_primary
yield_first-ClassLiteral type a = ap (λ y. y a) (ap yield_first (sym (firsts.rolls-ClassLiteral type)) ∙ fold-roll-First Yield Yield Yield Yield Yield Yield Yield Yield expr_step first_step initializer_step operation_step selector_step array_step creation_step primary_step (First-F.ClassLiteral type))

pub yield_first-VoidClass : (a : Around) → yield_first firsts.VoidClass a ≡ the marks.Void ∷ the marks.Dot ∷ the marks.Class ∷ []
unfolding yield_expr yield_first yield_initializer yield_operation yield_selector yield_array yield_creation yield_primary
yield_first-VoidClass a = ap (λ y. y a) (ap yield_first (sym firsts.rolls-VoidClass) ∙ fold-roll-First Yield Yield Yield Yield Yield Yield Yield Yield expr_step first_step initializer_step operation_step selector_step array_step creation_step primary_step First-F.VoidClass)

pub yield_first-QualifiedThis : (n : List Ident) (s : Span) (a : Around) → yield_first (firsts.QualifiedThis n s) a ≡ yield_name n ++ the marks.Dot ∷ token (this s) ∷ []
unfolding yield_expr yield_first yield_initializer yield_operation yield_selector yield_array yield_creation yield_primary
yield_first-QualifiedThis n s a = ap (λ y. y a) (ap yield_first (sym (firsts.rolls-QualifiedThis n s)) ∙ fold-roll-First Yield Yield Yield Yield Yield Yield Yield Yield expr_step first_step initializer_step operation_step selector_step array_step creation_step primary_step (First-F.QualifiedThis n s))

pub yield_first-SuperField : (n : Option (List Ident)) (s : Span) (i : Ident) (a : Around) → yield_first (firsts.SuperField n s i) a ≡ yield_super n s i
unfolding yield_expr yield_first yield_initializer yield_operation yield_selector yield_array yield_creation yield_primary
yield_first-SuperField n s i a = ap (λ y. y a) (ap yield_first (sym (firsts.rolls-SuperField n s i)) ∙ fold-roll-First Yield Yield Yield Yield Yield Yield Yield Yield expr_step first_step initializer_step operation_step selector_step array_step creation_step primary_step (First-F.SuperField n s i))

pub yield_first-Call : (n : List Ident) (args : List Expr) (a : Around) → yield_first (firsts.Call n args) a ≡ yield_name n ++ yield_arguments (map yield_expr args) a
unfolding yield_expr yield_first yield_initializer yield_operation yield_selector yield_array yield_creation yield_primary
yield_first-Call n args a = ap (λ y. y a) (ap yield_first (sym (firsts.rolls-Call n args)) ∙ fold-roll-First Yield Yield Yield Yield Yield Yield Yield Yield expr_step first_step initializer_step operation_step selector_step array_step creation_step primary_step (First-F.Call n args))

pub yield_first-SuperCall : (n : Option (List Ident)) (s : Span) (i : Ident) (args : List Expr) (a : Around) → yield_first (firsts.SuperCall n s i args) a ≡ yield_super n s i ++ yield_arguments (map yield_expr args) a
unfolding yield_expr yield_first yield_initializer yield_operation yield_selector yield_array yield_creation yield_primary
yield_first-SuperCall n s i args a = ap (λ y. y a) (ap yield_first (sym (firsts.rolls-SuperCall n s i args)) ∙ fold-roll-First Yield Yield Yield Yield Yield Yield Yield Yield expr_step first_step initializer_step operation_step selector_step array_step creation_step primary_step (First-F.SuperCall n s i args))

pub yield_first-New : (creation : Creation) (a : Around) → yield_first (firsts.New creation) a ≡ the marks.New ∷ yield_creation creation a
unfolding yield_expr yield_first yield_initializer yield_operation yield_selector yield_array yield_creation yield_primary
yield_first-New creation a = ap (λ y. y a) (ap yield_first (sym (firsts.rolls-New creation)) ∙ fold-roll-First Yield Yield Yield Yield Yield Yield Yield Yield expr_step first_step initializer_step operation_step selector_step array_step creation_step primary_step (First-F.New creation))

pub yield_first-NewArray : (element : ElementType) (sizes : List Expr) (dims : ℕ) (a : Around) → yield_first (firsts.NewArray element sizes dims) a ≡ the marks.New ∷ (yield_element element ++ yield_sizes (map yield_expr sizes) a ++ yield_dims dims)
unfolding yield_expr yield_first yield_initializer yield_operation yield_selector yield_array yield_creation yield_primary
yield_first-NewArray element sizes dims a = ap (λ y. y a) (ap yield_first (sym (firsts.rolls-NewArray element sizes dims)) ∙ fold-roll-First Yield Yield Yield Yield Yield Yield Yield Yield expr_step first_step initializer_step operation_step selector_step array_step creation_step primary_step (First-F.NewArray element sizes dims))

pub yield_first-NewArrayOf : (element : ElementType) (dims : ℕ) (array : ArrayInitializer) (a : Around) → yield_first (firsts.NewArrayOf element dims array) a ≡ the marks.New ∷ (yield_element element ++ yield_dims dims ++ yield_array array a)
unfolding yield_expr yield_first yield_initializer yield_operation yield_selector yield_array yield_creation yield_primary
yield_first-NewArrayOf element dims array a = ap (λ y. y a) (ap yield_first (sym (firsts.rolls-NewArrayOf element dims array)) ∙ fold-roll-First Yield Yield Yield Yield Yield Yield Yield Yield expr_step first_step initializer_step operation_step selector_step array_step creation_step primary_step (First-F.NewArrayOf element dims array))

pub yield_selector-Field : (i : Ident) (a : Around) → yield_selector (selectors.Field i) a ≡ the marks.Dot ∷ token (word i) ∷ []
unfolding yield_expr yield_first yield_initializer yield_operation yield_selector yield_array yield_creation yield_primary
yield_selector-Field i a = ap (λ y. y a) (ap yield_selector (sym (selectors.rolls-Field i)) ∙ fold-roll-Selector Yield Yield Yield Yield Yield Yield Yield Yield expr_step first_step initializer_step operation_step selector_step array_step creation_step primary_step (Selector-F.Field i))

pub yield_selector-MemberCall : (i : Ident) (args : List Expr) (a : Around) → yield_selector (selectors.MemberCall i args) a ≡ the marks.Dot ∷ token (word i) ∷ yield_arguments (map yield_expr args) a
unfolding yield_expr yield_first yield_initializer yield_operation yield_selector yield_array yield_creation yield_primary
yield_selector-MemberCall i args a = ap (λ y. y a) (ap yield_selector (sym (selectors.rolls-MemberCall i args)) ∙ fold-roll-Selector Yield Yield Yield Yield Yield Yield Yield Yield expr_step first_step initializer_step operation_step selector_step array_step creation_step primary_step (Selector-F.MemberCall i args))

pub yield_selector-Index : (x : Expr) (a : Around) → yield_selector (selectors.Index x) a ≡ the marks.LeftBracket ∷ (yield_expr x (deeper a) ++ the marks.RightBracket ∷ [])
unfolding yield_expr yield_first yield_initializer yield_operation yield_selector yield_array yield_creation yield_primary
yield_selector-Index x a = ap (λ y. y a) (ap yield_selector (sym (selectors.rolls-Index x)) ∙ fold-roll-Selector Yield Yield Yield Yield Yield Yield Yield Yield expr_step first_step initializer_step operation_step selector_step array_step creation_step primary_step (Selector-F.Index x))

pub yield_selector-QualifiedNew : (creation : Creation) (a : Around) → yield_selector (selectors.QualifiedNew creation) a ≡ the marks.Dot ∷ the marks.New ∷ yield_creation creation a
unfolding yield_expr yield_first yield_initializer yield_operation yield_selector yield_array yield_creation yield_primary
yield_selector-QualifiedNew creation a = ap (λ y. y a) (ap yield_selector (sym (selectors.rolls-QualifiedNew creation)) ∙ fold-roll-Selector Yield Yield Yield Yield Yield Yield Yield Yield expr_step first_step initializer_step operation_step selector_step array_step creation_step primary_step (Selector-F.QualifiedNew creation))

pub yield_initializer-Value : (x : Expr) (a : Around) → yield_initializer (initializers.Value x) a ≡ yield_expr x (deeper a)
unfolding yield_expr yield_first yield_initializer yield_operation yield_selector yield_array yield_creation yield_primary
yield_initializer-Value x a = ap (λ y. y a) (ap yield_initializer (sym (initializers.rolls-Value x)) ∙ fold-roll-Initializer Yield Yield Yield Yield Yield Yield Yield Yield expr_step first_step initializer_step operation_step selector_step array_step creation_step primary_step (Initializer-F.Value x))

pub yield_initializer-Array : (array : ArrayInitializer) (a : Around) → yield_initializer (initializers.Array array) a ≡ yield_array array a
unfolding yield_expr yield_first yield_initializer yield_operation yield_selector yield_array yield_creation yield_primary
yield_initializer-Array array a = ap (λ y. y a) (ap yield_initializer (sym (initializers.rolls-Array array)) ∙ fold-roll-Initializer Yield Yield Yield Yield Yield Yield Yield Yield expr_step first_step initializer_step operation_step selector_step array_step creation_step primary_step (Initializer-F.Array array))

pub yield_primary-parts : (p : Primary) (a : Around) → yield_primary p a ≡ yield_first p.first a ++ each (map yield_selector p.selectors) a
unfolding yield_expr yield_first yield_initializer yield_operation yield_selector yield_array yield_creation yield_primary
yield_primary-parts p a = ap (λ y. y a) (fold_out-Primary Yield Yield Yield Yield Yield Yield Yield Yield expr_step first_step initializer_step operation_step selector_step array_step creation_step primary_step p)

pub yield_creation-parts : (c : Creation) (a : Around) → yield_creation c a ≡ yield_name c.class ++ yield_arguments (map yield_expr c.arguments) a ++ yield_body c.class c.body a
unfolding yield_expr yield_first yield_initializer yield_operation yield_selector yield_array yield_creation yield_primary
yield_creation-parts c a = ap (λ y. y a) (fold_out-Creation Yield Yield Yield Yield Yield Yield Yield Yield expr_step first_step initializer_step operation_step selector_step array_step creation_step primary_step c)

pub yield_array-parts : (b : ArrayInitializer) (a : Around) → yield_array b a ≡ token (left_brace b.brace) ∷ (parted (map yield_initializer b.elements) (deeper a) ++ yield_comma b.comma ++ the marks.RightBrace ∷ [])
unfolding yield_expr yield_first yield_initializer yield_operation yield_selector yield_array yield_creation yield_primary
yield_array-parts b a = ap (λ y. y a) (fold_out-ArrayInitializer Yield Yield Yield Yield Yield Yield Yield Yield expr_step first_step initializer_step operation_step selector_step array_step creation_step primary_step b)

-- all of them
pub ruleset expr_yields = (yield_expr-Assign, yield_expr-Conditional, yield_expr-Binary, yield_expr-Prefix, yield_expr-Cast, yield_expr-Postfix, yield_operation-Infix, yield_operation-InstanceOf, yield_first-Literal, yield_first-This, yield_first-Name, yield_first-Parenthesized, yield_first-ClassLiteral, yield_first-VoidClass, yield_first-QualifiedThis, yield_first-SuperField, yield_first-Call, yield_first-SuperCall, yield_first-New, yield_first-NewArray, yield_first-NewArrayOf, yield_selector-Field, yield_selector-MemberCall, yield_selector-Index, yield_selector-QualifiedNew, yield_initializer-Value, yield_initializer-Array, yield_primary-parts, yield_creation-parts, yield_array-parts)
