-- What lies directly inside a part of an expression, in order.
use Rattle.std.specs.Prelude.{◌+◌, List, [], ◌∷◌, map, length}
use Rattle.java_tree.specs.declared.names.ElementType.TheVariants as elements
use Rattle.java_tree.specs.declared.names.Ident.{Ident}
use Rattle.java_tree.specs.declared.names.TypeUse.{TypeUse}
use Rattle.java_tree.specs.declared.occurrence.Access.{Access}
use Rattle.java_tree.specs.declared.occurrence.Access.TheVariants.{Read, Write, Update}
use Rattle.java_tree.specs.declared.operators.AssignOp.{AssignOp}
use Rattle.java_tree.specs.declared.operators.AssignOp.TheVariants as assigns
use Rattle.java_tree.specs.declared.operators.PostfixOp.{PostfixOp}
use Rattle.java_tree.specs.declared.operators.PrefixOp.{PrefixOp}
use Rattle.java_tree.specs.declared.operators.PrefixOp.TheVariants as prefixes
use Rattle.java_tree.specs.declared.expr.ArrayInitializer.{ArrayInitializer}
use Rattle.java_tree.specs.declared.expr.Creation.{Creation}
use Rattle.java_tree.specs.declared.expr.Expr.{Expr}
use Rattle.java_tree.specs.declared.expr.Expr.TheOpen.{Expr-F, First-F, Initializer-F, Operation-F, Selector-F}
use Rattle.java_tree.specs.declared.expr.First.{First}
use Rattle.java_tree.specs.declared.expr.Initializer.{Initializer, out-Initializer}
use Rattle.java_tree.specs.declared.expr.Operation.{Operation, out-Operation}
use Rattle.java_tree.specs.declared.expr.Primary.{Primary}
use Rattle.java_tree.specs.declared.expr.Selector.{Selector}
use Rattle.java_model.specs.Grammar.Forms.{ExprLayer, FirstLayer, SelectorLayer}
use Rattle.java_model.specs.Tree.Nodes.{Node, type_use, expression, primary, creation, array}

abbrev pub spelled : TypeUse → Node
spelled t = type_use t.element t.dims

-- a name where a type alone can stand (JLS 6.5.5)
abbrev pub type_name : List Ident → Node
type_name n = type_use (elements.Named n) 0

-- the access of a target (JLS 15.26): `=` writes, all else reads and writes
abbrev pub assigned : AssignOp → Access
assigned assigns.Assign = Write
assigned _ = Update

-- the access of an operand (JLS 15.15)
abbrev pub prefixed : PrefixOp → Access
prefixed prefixes.Increment = Update
prefixed prefixes.Decrement = Update
prefixed _ = Read

-- the access of a primary expression before these operators (JLS 15.14)
abbrev pub postfixed : Access → List PostfixOp → Access
postfixed how [] = how
postfixed how (op ∷ ops) = Update

-- the access of what a primary expression begins with, before these selectors
abbrev pub selected : Access → List Selector → Access
selected how [] = how
selected how (s ∷ more) = Read

abbrev pub reads : Expr → Node
reads = expression Read

abbrev pub InitializerLayer : Type 0
InitializerLayer = Initializer-F Expr First Initializer Operation Selector ArrayInitializer Creation Primary

abbrev pub OperationLayer : Type 0
OperationLayer = Operation-F Expr First Initializer Operation Selector ArrayInitializer Creation Primary

abbrev pub initializer_in : InitializerLayer → Node
initializer_in (Initializer-F.Value x) = reads x
initializer_in (Initializer-F.Array a) = array a

-- JLS 8.3, 10.6
abbrev pub initializer : Initializer → Node
initializer i = initializer_in (out-Initializer i)

abbrev pub operand_in : OperationLayer → Node
operand_in (Operation-F.Infix op x) = reads x
operand_in (Operation-F.InstanceOf t) = spelled t

-- what stands to the right of an operator (JLS 15.17 to 15.24)
abbrev pub operand : Operation → Node
operand o = operand_in (out-Operation o)

abbrev pub in_expression : Access → ExprLayer → List Node
in_expression how (Expr-F.Assign target op value) = primary (assigned op) target ∷ reads value ∷ []
in_expression how (Expr-F.Conditional test first_one second_one) = reads test ∷ reads first_one ∷ reads second_one ∷ []
in_expression how (Expr-F.Binary x rest) = reads x ∷ map operand rest
in_expression how (Expr-F.Prefix op x) = expression (prefixed op) x ∷ []
in_expression how (Expr-F.Cast t x) = spelled t ∷ reads x ∷ []
in_expression how (Expr-F.Postfix p ops) = primary (postfixed how ops) p ∷ []

abbrev pub in_first : Access → FirstLayer → List Node
in_first how (First-F.Parenthesized x) = expression how x ∷ []
in_first how (First-F.ClassLiteral t) = spelled t ∷ []
in_first how (First-F.Call n arguments) = map reads arguments
in_first how (First-F.SuperCall n s i arguments) = map reads arguments
in_first how (First-F.New c) = creation c ∷ []
in_first how (First-F.NewArray e sizes dims) = type_use e (length sizes + dims) ∷ map reads sizes
in_first how (First-F.NewArrayOf e dims a) = type_use e dims ∷ array a ∷ []
in_first how _ = []

abbrev pub in_selector : SelectorLayer → List Node
in_selector (Selector-F.Field i) = []
in_selector (Selector-F.MemberCall i arguments) = map reads arguments
in_selector (Selector-F.Index x) = reads x ∷ []
in_selector (Selector-F.QualifiedNew c) = creation c ∷ []
