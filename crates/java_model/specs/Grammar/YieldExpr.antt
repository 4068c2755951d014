-- What an expression yields: its tokens from left to right, and a hole for each anonymous class.
use Rattle.std.specs.Prelude.{ℕ, Bool, true, false, List, [], ◌∷◌, ◌++◌, Option, Some, None, map}
use Rattle.java_tree.specs.declared.mark.Mark.TheVariants as marks
use Rattle.java_tree.specs.declared.names.Ident.{Ident}
use Rattle.java_tree.specs.declared.operators.PostfixOp.{PostfixOp}
use Rattle.java_tree.specs.declared.token.Span.{Span}
use Rattle.java_tree.specs.declared.unit.TypePlace.TheVariants as places
use Rattle.java_tree.specs.declared.expr.Expr.{Expr, fold-Expr}
use Rattle.java_tree.specs.declared.expr.Expr.TheOpen.{Expr-F, First-F, Initializer-F, Operation-F, Selector-F, ArrayInitializer-F, Creation-F, Primary-F}
use Rattle.java_tree.specs.declared.expr.First.{First, fold-First}
use Rattle.java_tree.specs.declared.expr.Initializer.{Initializer, fold-Initializer}
use Rattle.java_tree.specs.declared.expr.Operation.{Operation, fold-Operation}
use Rattle.java_tree.specs.declared.expr.Selector.{Selector, fold-Selector}
use Rattle.java_tree.specs.declared.expr.ArrayInitializer.{ArrayInitializer, fold-ArrayInitializer}
use Rattle.java_tree.specs.declared.expr.Creation.{Creation, fold-Creation}
use Rattle.java_tree.specs.declared.expr.Primary.{Primary, fold-Primary}
use Rattle.java_model.specs.Grammar.Signs.{left_brace, this, super, word, literal, assign_mark, binary_mark, prefix_mark, postfix_mark}
use Rattle.java_model.specs.Grammar.Pieces.{Yield, Piece, token, hole, the, deeper, each, parted, yield_name, yield_dims, yield_element, yield_type}

-- '(' [ArgumentList] ')' = '(' [Expression {',' Expression}] ')', each an Expression
abbrev pub yield_arguments : List Yield → Yield
yield_arguments args a = the marks.LeftParen ∷ (parted args (deeper a) ++ the marks.RightParen ∷ [])

-- {'[' Expression ']'}
abbrev pub yield_sizes : List Yield → Yield
yield_sizes [] a = []
yield_sizes (s ∷ ss) a = the marks.LeftBracket ∷ (s (deeper a) ++ the marks.RightBracket ∷ yield_sizes ss a)

-- [Name '.'] 'super' '.' Identifier
abbrev pub yield_super : Option (List Ident) → Span → Ident → List Piece
yield_super None s i = token (super s) ∷ the marks.Dot ∷ token (word i) ∷ []
yield_super (Some n) s i = yield_name n ++ the marks.Dot ∷ token (super s) ∷ the marks.Dot ∷ token (word i) ∷ []

-- the body of an anonymous class, of which the creation gives the name
abbrev pub yield_body : List Ident → Option ℕ → Yield
yield_body created None a = []
yield_body created (Some brace) a = hole (record { brace = brace; place = places.Anonymous; created = created; around = a }) ∷ []

-- {'++' | '--'}
abbrev pub yield_postfixes : List PostfixOp → List Piece
yield_postfixes = map (λ op. the (postfix_mark op))

-- a comma that separates nothing
abbrev pub yield_comma : Bool → List Piece
yield_comma true = the marks.Comma ∷ []
yield_comma false = []

-- One layer of a tree, with what each part yields in its place. A part that is an Expression of the grammar is
-- deeper by one, and so is each part of a unary operator or cast with its operand, or an ArrayInitializer.
abbrev pub expr_step : Expr-F Yield Yield Yield Yield Yield Yield Yield Yield → Yield
expr_step (Expr-F.Assign target op value) a = target a ++ the (assign_mark op) ∷ value (deeper a)
expr_step (Expr-F.Conditional test yes_part no_part) a =
    test a ++ the marks.Question ∷ (yes_part (deeper a) ++ the marks.Colon ∷ no_part (deeper a))
expr_step (Expr-F.Binary first rest) a = first a ++ each rest a
expr_step (Expr-F.Prefix op operand) a = the (prefix_mark op) ∷ operand (deeper a)
expr_step (Expr-F.Cast type operand) a = the marks.LeftParen ∷ (yield_type type ++ the marks.RightParen ∷ operand (deeper a))
expr_step (Expr-F.Postfix primary ops) a = primary a ++ yield_postfixes ops

abbrev pub operation_step : Operation-F Yield Yield Yield Yield Yield Yield Yield Yield → Yield
operation_step (Operation-F.Infix op operand) a = the (binary_mark op) ∷ operand a
operation_step (Operation-F.InstanceOf type) a = the marks.InstanceOf ∷ yield_type type

abbrev pub first_step : First-F Yield Yield Yield Yield Yield Yield Yield Yield → Yield
first_step (First-F.Literal l) a = token (literal l) ∷ []
first_step (First-F.This s) a = token (this s) ∷ []
first_step (First-F.Name n) a = yield_name n
first_step (First-F.Parenthesized x) a = the marks.LeftParen ∷ (x (deeper a) ++ the marks.RightParen ∷ [])
first_step (First-F.ClassLiteral type) a = yield_type type ++ the marks.Dot ∷ the marks.Class ∷ []
first_step First-F.VoidClass a = the marks.Void ∷ the marks.Dot ∷ the marks.Class ∷ []
first_step (First-F.QualifiedThis n s) a = yield_name n ++ the marks.Dot ∷ token (this s) ∷ []
first_step (First-F.SuperField n s i) a = yield_super n s i
first_step (First-F.Call n args) a = yield_name n ++ yield_arguments args a
first_step (First-F.SuperCall n s i args) a = yield_super n s i ++ yield_arguments args a
first_step (First-F.New creation) a = the marks.New ∷ creation a
first_step (First-F.NewArray element sizes dims) a = the marks.New ∷ (yield_element element ++ yield_sizes sizes a ++ yield_dims dims)
first_step (First-F.NewArrayOf element dims array) a = the marks.New ∷ (yield_element element ++ yield_dims dims ++ array a)

abbrev pub selector_step : Selector-F Yield Yield Yield Yield Yield Yield Yield Yield → Yield
selector_step (Selector-F.Field i) a = the marks.Dot ∷ token (word i) ∷ []
selector_step (Selector-F.MemberCall i args) a = the marks.Dot ∷ token (word i) ∷ yield_arguments args a
selector_step (Selector-F.Index x) a = the marks.LeftBracket ∷ (x (deeper a) ++ the marks.RightBracket ∷ [])
selector_step (Selector-F.QualifiedNew creation) a = the marks.Dot ∷ the marks.New ∷ creation a

abbrev pub primary_step : Primary-F Yield Yield Yield Yield Yield Yield Yield Yield → Yield
primary_step p a = p.first a ++ each p.selectors a

abbrev pub creation_step : Creation-F Yield Yield Yield Yield Yield Yield Yield Yield → Yield
creation_step c a = yield_name c.class ++ yield_arguments c.arguments a ++ yield_body c.class c.body a

abbrev pub initializer_step : Initializer-F Yield Yield Yield Yield Yield Yield Yield Yield → Yield
initializer_step (Initializer-F.Value x) a = x (deeper a)
initializer_step (Initializer-F.Array array) a = array a

abbrev pub array_step : ArrayInitializer-F Yield Yield Yield Yield Yield Yield Yield Yield → Yield
array_step b a = token (left_brace b.brace) ∷ (parted b.elements (deeper a) ++ yield_comma b.comma ++ the marks.RightBrace ∷ [])

unfoldable pub yield_expr : Expr → Yield
yield_expr = fold-Expr Yield Yield Yield Yield Yield Yield Yield Yield
    expr_step first_step initializer_step operation_step selector_step array_step creation_step primary_step

unfoldable pub yield_first : First → Yield
yield_first = fold-First Yield Yield Yield Yield Yield Yield Yield Yield
    expr_step first_step initializer_step operation_step selector_step array_step creation_step primary_step

unfoldable pub yield_initializer : Initializer → Yield
yield_initializer = fold-Initializer Yield Yield Yield Yield Yield Yield Yield Yield
    expr_step first_step initializer_step operation_step selector_step array_step creation_step primary_step

unfoldable pub yield_operation : Operation → Yield
yield_operation = fold-Operation Yield Yield Yield Yield Yield Yield Yield Yield
    expr_step first_step initializer_step operation_step selector_step array_step creation_step primary_step

unfoldable pub yield_selector : Selector → Yield
yield_selector = fold-Selector Yield Yield Yield Yield Yield Yield Yield Yield
    expr_step first_step initializer_step operation_step selector_step array_step creation_step primary_step

unfoldable pub yield_array : ArrayInitializer → Yield
yield_array = fold-ArrayInitializer Yield Yield Yield Yield Yield Yield Yield Yield
    expr_step first_step initializer_step operation_step selector_step array_step creation_step primary_step

unfoldable pub yield_creation : Creation → Yield
yield_creation = fold-Creation Yield Yield Yield Yield Yield Yield Yield Yield
    expr_step first_step initializer_step operation_step selector_step array_step creation_step primary_step

unfoldable pub yield_primary : Primary → Yield
yield_primary = fold-Primary Yield Yield Yield Yield Yield Yield Yield Yield
    expr_step first_step initializer_step operation_step selector_step array_step creation_step primary_step
