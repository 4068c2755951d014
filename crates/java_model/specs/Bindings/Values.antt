-- The types of the nodes of a unit, from those of their parts (JLS 15).
use Rattle.std.specs.Prelude.{List, [], ◌∷◌, drop}
use Rattle.std.specs.List.{zip}
use Rattle.java_tree.specs.declared.bound.Bound.{Bound}
use Rattle.java_tree.specs.declared.expr.Expr.{out-Expr}
use Rattle.java_tree.specs.declared.expr.Expr.TheOpen.{Expr-F, Operation-F}
use Rattle.java_tree.specs.declared.expr.First.{out-First}
use Rattle.java_tree.specs.declared.expr.Operation.{Operation, out-Operation}
use Rattle.java_tree.specs.declared.types.JType.{JType}
use Rattle.java_model.specs.Grammar.Forms.{ExprLayer}
use Rattle.java_model.specs.Names.Environments.{Env}
use Rattle.java_model.specs.Tree.Nodes.{Node, type_use, expression, primary, first, selector, creation}
use Rattle.java_model.specs.Tree.InExpressions.{OperationLayer}
use Rattle.java_model.specs.Scopes.Contexts.{Context, type_at_place}
use Rattle.java_model.specs.Bindings.Arithmetic.{boolean, infix_type, prefix_type}
use Rattle.java_model.specs.Bindings.Conditionals.{conditional_type, int_literal}
use Rattle.java_model.specs.Bindings.Chains.{Types, sole, part, flat_types, first_type, chain_type}

abbrev pub operation_type : Env → JType → OperationLayer → JType → JType
operation_type env t (Operation-F.Infix op x) u = infix_type env op t u
operation_type env t (Operation-F.InstanceOf of) u = boolean

-- a chain of operators of one level, from left to right (JLS 15.7)
abbrev pub operations_type : Env → JType → List (Operation × Types) → JType
operations_type env t [] = t
operations_type env t (x ∷ xs) = operations_type env (operation_type env t (out-Operation x.0) (sole x.1)) xs

-- the type of an expression, from those of its parts (JLS 15)
abbrev pub expression_type : Env → ExprLayer → List Types → JType
expression_type env (Expr-F.Assign target op value) parts = part 0 parts
expression_type env (Expr-F.Conditional test x y) parts = conditional_type env (part 1 parts) (int_literal x) (part 2 parts) (int_literal y)
expression_type env (Expr-F.Binary x rest) parts = operations_type env (part 0 parts) (zip rest (drop 1 parts))
expression_type env (Expr-F.Prefix op x) parts = prefix_type op (part 0 parts)
expression_type env (Expr-F.Cast t x) parts = part 0 parts
expression_type env (Expr-F.Postfix p ops) parts = part 0 parts

-- the types that a node has at a place
abbrev pub node_types : Context → List Bound → Node → List Types → Types
node_types C s (type_use e dims) parts = type_at_place C s e dims ∷ []
node_types C s (expression how x) parts = expression_type C.env (out-Expr x) parts ∷ []
node_types C s (primary how p) parts = chain_type C s (part 0 parts) (zip p.selectors (drop 1 parts)) ∷ []
node_types C s (first how f) parts = first_type C s (out-First f) parts ∷ []
node_types C s (selector x) parts = flat_types parts
node_types C s (creation c) parts = flat_types parts
node_types C s _ parts = []
