-- What lies directly inside a node of a unit's tree, in order. Each walk through a tree stands on this one.
use Rattle.std.specs.Prelude.{ℕ, ◌+◌, ◌==◌, List, [], ◌∷◌, ◌++◌, Option, Some, None, map, position, slice_get}
use Rattle.std.specs.List.{flat_map}
use Rattle.std.specs.Option.{option_to_list, option_and_then, option_map}
use Rattle.java_tree.specs.declared.names.Ident.{Ident}
use Rattle.java_tree.specs.declared.occurrence.Access.TheVariants.{Read}
use Rattle.java_tree.specs.declared.expr.Creation.{Creation}
use Rattle.java_tree.specs.declared.expr.Expr.{out-Expr}
use Rattle.java_tree.specs.declared.expr.First.{out-First}
use Rattle.java_tree.specs.declared.expr.Selector.{out-Selector}
use Rattle.java_tree.specs.declared.stmt.Stmt.{out-Stmt}
use Rattle.java_tree.specs.declared.unit.Callee.{Callee}
use Rattle.java_tree.specs.declared.unit.Callee.TheVariants as callees
use Rattle.java_tree.specs.declared.unit.Member.{Member}
use Rattle.java_tree.specs.declared.unit.Member.TheVariants as members
use Rattle.java_tree.specs.declared.unit.ResultType.{ResultType}
use Rattle.java_tree.specs.declared.unit.ResultType.TheVariants as results
use Rattle.java_tree.specs.declared.unit.TopLevel.{TopLevel}
use Rattle.java_tree.specs.declared.unit.TopLevel.TheVariants as tops
use Rattle.java_tree.specs.declared.unit.TypeDecl.{TypeDecl}
use Rattle.java_tree.specs.declared.unit.TypeHead.{TypeHead}
use Rattle.java_tree.specs.declared.unit.TypeHead.TheVariants as heads
use Rattle.java_tree.specs.declared.unit.Unit.{Unit as CompilationUnit}
use Rattle.java_model.specs.Tree.Nodes.{Node, unit, package_clause, imported, declaration, supertype, body, member, field, variable, parameter, type_use, explicit, block, statement, locals, arm, group, catch_clause, expression, primary, first, selector, creation, array}
use Rattle.java_model.specs.Tree.InExpressions.{reads, initializer, spelled, type_name, in_expression, in_first, in_selector, selected}
use Rattle.java_model.specs.Tree.InStatements.{in_variable, in_statement, in_label, block_statement, optional_block}

-- the type whose body begins at this `{`, with its number
pub record Numbered : Type 0 where
  pub number : ℕ
  pub type : TypeDecl

abbrev pub number_of : List TypeDecl → ℕ → Option ℕ
number_of types brace = position (λ t. t.brace == brace) types

abbrev pub numbered : List TypeDecl → ℕ → Option Numbered
numbered types brace = option_and_then (λ n. option_map (λ t. record { number = n; type = t }) (slice_get types n)) (number_of types brace)

-- the names after `extends` and `implements` (JLS 8.1.3, 8.1.4, 9.1.2)
abbrev pub header_names : TypeHead → List (List Ident)
header_names (heads.Class c) = option_to_list c.extends ++ c.implements
header_names (heads.Interface i) = i.extends
header_names heads.Anonymous = []

abbrev pub in_declaration : ℕ → Option Numbered → List Node
in_declaration brace None = []
in_declaration brace (Some t) = map (supertype t.number) (header_names t.type.head) ++ body brace ∷ []

abbrev pub in_body : Option Numbered → List Node
in_body None = []
in_body (Some t) = map (member t.number) t.type.members

abbrev pub in_result : ResultType → ℕ → List Node
in_result results.Void dims = []
in_result (results.Of t) dims = type_use t.element (t.dims + dims) ∷ []

abbrev pub in_member : ℕ → Member → List Node
in_member number members.Empty = []
in_member number (members.Initializer is_static b) = block b ∷ []
in_member number (members.Type brace) = declaration brace ∷ []
in_member number (members.Method m) = in_result m.result m.dims ++ map parameter m.parameters ++ map type_name m.throws ++ optional_block m.body
in_member number (members.Constructor c) =
    map parameter c.parameters ++ map type_name c.throws ++ map (explicit number) (option_to_list c.explicit) ++ map block_statement c.statements
in_member number (members.Field f) = spelled f.of ∷ map (field number) f.variables

abbrev pub in_callee : Callee → List Node
in_callee (callees.Super (Some p) s) = primary Read p ∷ []
in_callee _ = []

abbrev pub top_level : TopLevel → List Node
top_level (tops.Type brace) = declaration brace ∷ []
top_level tops.Empty = []

abbrev pub in_unit : CompilationUnit → List Node
in_unit u = map package_clause (option_to_list u.package) ++ map imported u.imports ++ flat_map top_level u.declarations

-- the body of an anonymous class (JLS 15.9.5)
abbrev pub in_creation : Creation → List Node
in_creation c = map reads c.arguments ++ map body (option_to_list c.body)

-- the nodes directly inside a node of a unit with these types
abbrev pub children : List TypeDecl → Node → List Node
children types (unit u) = in_unit u
children types (declaration brace) = in_declaration brace (numbered types brace)
children types (body brace) = in_body (numbered types brace)
children types (member number m) = in_member number m
children types (field number v) = in_variable v
children types (variable t v) = in_variable v
children types (parameter p) = spelled p.of ∷ []
children types (explicit number e) = in_callee e.callee ++ map reads e.arguments
children types (block b) = map block_statement b.statements
children types (statement s) = in_statement (out-Stmt s)
children types (locals l) = spelled l.of ∷ map (variable l.of) l.variables
children types (arm a) = reads a.condition ∷ statement a.then ∷ []
children types (group g) = in_label g.label ++ map block_statement g.statements
children types (catch_clause c) = parameter c.parameter ∷ block c.block ∷ []
children types (expression how x) = in_expression how (out-Expr x)
children types (primary how p) = first (selected how p.selectors) p.first ∷ map selector p.selectors
children types (first how f) = in_first how (out-First f)
children types (selector s) = in_selector (out-Selector s)
children types (creation c) = in_creation c
children types (array a) = map initializer a.elements
children types _ = []
