-- Each form of an expression, opened: its parts can be read off, so a tree has its form in one way.
use Rattle.std.proofs.Common.{◌≡◌, ℕ, List, Option, sym, ap, ◌∙◌}
use Rattle.java_tree.specs.declared.names.ElementType.{ElementType}
use Rattle.java_tree.specs.declared.names.Ident.{Ident}
use Rattle.java_tree.specs.declared.names.Literal.{Literal}
use Rattle.java_tree.specs.declared.names.TypeUse.{TypeUse}
use Rattle.java_tree.specs.declared.operators.AssignOp.{AssignOp}
use Rattle.java_tree.specs.declared.operators.BinaryOp.{BinaryOp}
use Rattle.java_tree.specs.declared.operators.PrefixOp.{PrefixOp}
use Rattle.java_tree.specs.declared.operators.PostfixOp.{PostfixOp}
use Rattle.java_tree.specs.declared.token.Span.{Span}
use Rattle.java_tree.specs.declared.expr.Expr.{Expr, out-Expr, out-roll-Expr}
use Rattle.java_tree.specs.declared.expr.Expr.TheVariants as exprs
use Rattle.java_tree.specs.declared.expr.Expr.TheOpen.{Expr-F, First-F, Initializer-F, Operation-F, Selector-F}
use Rattle.java_tree.specs.declared.expr.First.{out-First, out-roll-First}
use Rattle.java_tree.specs.declared.expr.First.TheVariants as firsts
use Rattle.java_tree.specs.declared.expr.Initializer.{out-Initializer, out-roll-Initializer}
use Rattle.java_tree.specs.declared.expr.Initializer.TheVariants as initializers
use Rattle.java_tree.specs.declared.expr.Operation.{Operation, out-Operation, out-roll-Operation}
use Rattle.java_tree.specs.declared.expr.Operation.TheVariants as operations
use Rattle.java_tree.specs.declared.expr.Selector.{out-Selector, out-roll-Selector}
use Rattle.java_tree.specs.declared.expr.Selector.TheVariants as selectors
use Rattle.java_tree.specs.declared.expr.ArrayInitializer.{ArrayInitializer}
use Rattle.java_tree.specs.declared.expr.Creation.{Creation}
use Rattle.java_tree.specs.declared.expr.Primary.{Primary}

pub out-expr-Assign : (target : Primary) (op : AssignOp) (value : Expr) → out-Expr (exprs.Assign target op value) ≡ Expr-F.Assign target op value
out-expr-Assign target op value = ap out-Expr (sym (exprs.rolls-Assign target op value)) ∙ out-roll-Expr (Expr-F.Assign target op value)

pub out-expr-Conditional : (test : Expr) (then : Expr) (other : Expr) → out-Expr (exprs.Conditional test then other) ≡ Expr-F.Conditional test then other
out-expr-Conditional test then other = ap out-Expr (sym (exprs.rolls-Conditional test then other)) ∙ out-roll-Expr (Expr-F.Conditional test then other)

pub out-expr-Binary : (first : Expr) (rest : List Operation) → out-Expr (exprs.Binary first rest) ≡ Expr-F.Binary first rest
out-expr-Binary first rest = ap out-Expr (sym (exprs.rolls-Binary first rest)) ∙ out-roll-Expr (Expr-F.Binary first rest)

pub out-expr-Prefix : (op : PrefixOp) (operand : Expr) → out-Expr (exprs.Prefix op operand) ≡ Expr-F.Prefix op operand
out-expr-Prefix op operand = ap out-Expr (sym (exprs.rolls-Prefix op operand)) ∙ out-roll-Expr (Expr-F.Prefix op operand)

pub out-expr-Cast : (type : TypeUse) (operand : Expr) → out-Expr (exprs.Cast type operand) ≡ Expr-F.Cast type operand
out-expr-Cast type operand = ap out-Expr (sym (exprs.rolls-Cast type operand)) ∙ out-roll-Expr (Expr-F.Cast type operand)

pub out-expr-Postfix : (primary : Primary) (ops : List PostfixOp) → out-Expr (exprs.Postfix primary ops) ≡ Expr-F.Postfix primary ops
out-expr-Postfix primary ops = ap out-Expr (sym (exprs.rolls-Postfix primary ops)) ∙ out-roll-Expr (Expr-F.Postfix primary ops)

pub out-operation-Infix : (op : BinaryOp) (operand : Expr) → out-Operation (operations.Infix op operand) ≡ Operation-F.Infix op operand
out-operation-Infix op operand = ap out-Operation (sym (operations.rolls-Infix op operand)) ∙ out-roll-Operation (Operation-F.Infix op operand)

pub out-operation-InstanceOf : (type : TypeUse) → out-Operation (operations.InstanceOf type) ≡ Operation-F.InstanceOf type
out-operation-InstanceOf type = ap out-Operation (sym (operations.rolls-InstanceOf type)) ∙ out-roll-Operation (Operation-F.InstanceOf type)

pub out-first-Literal : (l : Literal) → out-First (firsts.Literal l) ≡ First-F.Literal l
out-first-Literal l = ap out-First (sym (firsts.rolls-Literal l)) ∙ out-roll-First (First-F.Literal l)

pub out-first-This : (s : Span) → out-First (firsts.This s) ≡ First-F.This s
out-first-This s = ap out-First (sym (firsts.rolls-This s)) ∙ out-roll-First (First-F.This s)

pub out-first-Name : (n : List Ident) → out-First (firsts.Name n) ≡ First-F.Name n
out-first-Name n = ap out-First (sym (firsts.rolls-Name n)) ∙ out-roll-First (First-F.Name n)

pub out-first-Parenthesized : (x : Expr) → out-First (firsts.Parenthesized x) ≡ First-F.Parenthesized x
out-first-Parenthesized x = ap out-First (sym (firsts.rolls-Parenthesized x)) ∙ out-roll-First (First-F.Parenthesized x)

pub out-first-ClassLiteral : (type : TypeUse) → out-First (firsts.ClassLiteral type) ≡ First-F.ClassLiteral type
out-first-ClassLiteral type = ap out-First (sym (firsts.rolls-ClassLiteral type)) ∙ out-roll-First (First-F.ClassLiteral type)

pub out-first-VoidClass : out-First firsts.VoidClass ≡ First-F.VoidClass
out-first-VoidClass = ap out-First (sym firsts.rolls-VoidClass) ∙ out-roll-First First-F.VoidClass

pub out-first-QualifiedThis : (n : List Ident) (s : Span) → out-First (firsts.QualifiedThis n s) ≡ First-F.QualifiedThis n s
out-first-QualifiedThis n s = ap out-First (sym (firsts.rolls-QualifiedThis n s)) ∙ out-roll-First (First-F.QualifiedThis n s)

pub out-first-SuperField : (n : Option (List Ident)) (s : Span) (i : Ident) → out-First (firsts.SuperField n s i) ≡ First-F.SuperField n s i
out-first-SuperField n s i = ap out-First (sym (firsts.rolls-SuperField n s i)) ∙ out-roll-First (First-F.SuperField n s i)

pub out-first-Call : (n : List Ident) (args : List Expr) → out-First (firsts.Call n args) ≡ First-F.Call n args
out-first-Call n args = ap out-First (sym (firsts.rolls-Call n args)) ∙ out-roll-First (First-F.Call n args)

pub out-first-SuperCall : (n : Option (List Ident)) (s : Span) (i : Ident) (args : List Expr) → out-First (firsts.SuperCall n s i args) ≡ First-F.SuperCall n s i args
out-first-SuperCall n s i args = ap out-First (sym (firsts.rolls-SuperCall n s i args)) ∙ out-roll-First (First-F.SuperCall n s i args)

pub out-first-New : (creation : Creation) → out-First (firsts.New creation) ≡ First-F.New creation
out-first-New creation = ap out-First (sym (firsts.rolls-New creation)) ∙ out-roll-First (First-F.New creation)

pub out-first-NewArray : (element : ElementType) (sizes : List Expr) (dims : ℕ) → out-First (firsts.NewArray element sizes dims) ≡ First-F.NewArray element sizes dims
out-first-NewArray element sizes dims = ap out-First (sym (firsts.rolls-NewArray element sizes dims)) ∙ out-roll-First (First-F.NewArray element sizes dims)

pub out-first-NewArrayOf : (element : ElementType) (dims : ℕ) (array : ArrayInitializer) → out-First (firsts.NewArrayOf element dims array) ≡ First-F.NewArrayOf element dims array
out-first-NewArrayOf element dims array = ap out-First (sym (firsts.rolls-NewArrayOf element dims array)) ∙ out-roll-First (First-F.NewArrayOf element dims array)

pub out-selector-Field : (i : Ident) → out-Selector (selectors.Field i) ≡ Selector-F.Field i
out-selector-Field i = ap out-Selector (sym (selectors.rolls-Field i)) ∙ out-roll-Selector (Selector-F.Field i)

pub out-selector-MemberCall : (i : Ident) (args : List Expr) → out-Selector (selectors.MemberCall i args) ≡ Selector-F.MemberCall i args
out-selector-MemberCall i args = ap out-Selector (sym (selectors.rolls-MemberCall i args)) ∙ out-roll-Selector (Selector-F.MemberCall i args)

pub out-selector-Index : (x : Expr) → out-Selector (selectors.Index x) ≡ Selector-F.Index x
out-selector-Index x = ap out-Selector (sym (selectors.rolls-Index x)) ∙ out-roll-Selector (Selector-F.Index x)

pub out-selector-QualifiedNew : (creation : Creation) → out-Selector (selectors.QualifiedNew creation) ≡ Selector-F.QualifiedNew creation
out-selector-QualifiedNew creation = ap out-Selector (sym (selectors.rolls-QualifiedNew creation)) ∙ out-roll-Selector (Selector-F.QualifiedNew creation)

pub out-initializer-Value : (x : Expr) → out-Initializer (initializers.Value x) ≡ Initializer-F.Value x
out-initializer-Value x = ap out-Initializer (sym (initializers.rolls-Value x)) ∙ out-roll-Initializer (Initializer-F.Value x)

pub out-initializer-Array : (array : ArrayInitializer) → out-Initializer (initializers.Array array) ≡ Initializer-F.Array array
out-initializer-Array array = ap out-Initializer (sym (initializers.rolls-Array array)) ∙ out-roll-Initializer (Initializer-F.Array array)

-- all of them
pub ruleset expr_layers = (out-expr-Assign, out-expr-Conditional, out-expr-Binary, out-expr-Prefix, out-expr-Cast, out-expr-Postfix, out-operation-Infix, out-operation-InstanceOf, out-first-Literal, out-first-This, out-first-Name, out-first-Parenthesized, out-first-ClassLiteral, out-first-VoidClass, out-first-QualifiedThis, out-first-SuperField, out-first-Call, out-first-SuperCall, out-first-New, out-first-NewArray, out-first-NewArrayOf, out-selector-Field, out-selector-MemberCall, out-selector-Index, out-selector-QualifiedNew, out-initializer-Value, out-initializer-Array)
