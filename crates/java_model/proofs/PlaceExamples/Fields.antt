-- `class A{int x;}class B extends A{int x;int f(){return x;}int g(int x){return x;}int h(){A A=null;return A.x;}}`
use Rattle.std.proofs.Common.{◌≡◌, List, [], ◌∷◌, ◌++◌, Some, None, false, codes, refl}
use Rattle.java_tree.specs.declared.bound.Bound.{Bound}
use Rattle.java_tree.specs.declared.bound.Bound.TheVariants as bounds
use Rattle.java_tree.specs.declared.stmt.BlockStatement.{BlockStatement}
use Rattle.java_tree.specs.declared.stmt.Stmt.TheVariants as stmts
use Rattle.java_tree.specs.declared.stmt.Variable.{Variable}
use Rattle.java_tree.specs.declared.expr.First.TheVariants as firsts
use Rattle.java_tree.specs.declared.names.Literal.TheVariants as literals
use Rattle.java_tree.specs.declared.occurrence.Access.TheVariants.{NoAccess, Read}
use Rattle.java_tree.specs.declared.occurrence.Binding.TheVariants as bindings
use Rattle.java_tree.specs.declared.occurrence.OccKind.TheVariants as occurs
use Rattle.java_tree.specs.declared.types.JType.TheVariants as types
use Rattle.java_tree.specs.declared.unit.Unit.{Unit as CompilationUnit}
use Rattle.java_model.specs.Names.Environments.{type_id}
use Rattle.java_model.specs.Scopes.Contexts.{Context}
use Rattle.java_model.specs.Scopes.Scoping.{inside}
use Rattle.java_model.specs.Tree.InExpressions.{spelled}
use Rattle.java_model.specs.Tree.Nodes as nodes
use Rattle.java_model.specs.Bindings.Arithmetic.{int}
use Rattle.java_model.specs.Occurrences.Occurrences.{node_names}
use Rattle.java_model.proofs.PlaceExamples.Outs.{outs}
use Rattle.java_model.proofs.PlaceExamples.Kit.{id, int_use, named_use, primary, name, plain, set_to, field, param, local, returns, method, top_class, unit_of, alone, found}

abbrev null_A : Variable
null_A = set_to (id (codes "A") 90) (primary (firsts.Literal literals.Null) [])

abbrev statements_of_h : List BlockStatement
statements_of_h = local (named_use (id (codes "A") 88)) null_A ∷ returns (name (id (codes "A") 104 ∷ id (codes "x") 106 ∷ [])) ∷ []

abbrev two : CompilationUnit
two = unit_of None [] (
    top_class (id (codes "A") 6) None 7 (field int_use (plain (id (codes "x") 12)) ∷ [])
    ∷ top_class (id (codes "B") 21) (Some (id (codes "A") 31 ∷ [])) 32 (
    field int_use (plain (id (codes "x") 37))
    ∷ method (id (codes "f") 43) [] (returns (name (id (codes "x") 54 ∷ [])) ∷ [])
    ∷ method (id (codes "g") 61) (param int_use (id (codes "x") 67) ∷ []) (returns (name (id (codes "x") 77 ∷ [])) ∷ [])
    ∷ method (id (codes "h") 84) [] statements_of_h
    ∷ [])
    ∷ [])

abbrev C : Context
C = alone two

-- `A` in the header of B
header : node_names C [] (nodes.supertype 1 (id (codes "A") 31 ∷ [])) []
    ≡ found occurs.TypeRef 31 (codes "A") (bindings.Class (type_id 0)) NoAccess ∷ found occurs.Super 31 (codes "A") (bindings.Class (type_id 0)) NoAccess ∷ []
header = refl

-- in f and g
field_in_f : node_names C (bounds.Members (type_id 1) ∷ []) (nodes.first Read (firsts.Name (id (codes "x") 54 ∷ []))) []
    ≡ found occurs.FieldRef 54 (codes "x") (bindings.Field (record { of = type_id 1; place = 0 })) Read ∷ []
field_in_f = simp outs

parameter_in_g : node_names C (bounds.Members (type_id 1) ∷ bounds.Variable (codes "x") int ∷ []) (nodes.first Read (firsts.Name (id (codes "x") 77 ∷ []))) [] ≡ []
parameter_in_g = simp outs

-- in h the variable hides the class, but not where a type is meant
type_in_h : node_names C (bounds.Members (type_id 1) ∷ bounds.Variable (codes "A") (types.Class (type_id 0)) ∷ []) (spelled (named_use (id (codes "A") 88))) []
    ≡ found occurs.TypeRef 88 (codes "A") (bindings.Class (type_id 0)) NoAccess ∷ []
type_in_h = refl

-- what stands in the block of h, and what is in scope there
abbrev in_body : List Bound
in_body = bounds.Members (type_id 1) ∷ []

block_of_h : inside C (record { scope = in_body; node = nodes.block (record { brace = 87; statements = statements_of_h }) }) ≡
    record { scope = in_body; node = nodes.locals (record { is_final = false; of = named_use (id (codes "A") 88); variables = null_A ∷ [] }) }
    ∷ record { scope = in_body ++ bounds.Variable (codes "A") (types.Class (type_id 0)) ∷ []; node = nodes.statement (stmts.Return (Some (name (id (codes "A") 104 ∷ id (codes "x") 106 ∷ [])))) }
    ∷ []
block_of_h = simp outs

names_in_h : node_names C (bounds.Members (type_id 1) ∷ bounds.Variable (codes "A") (types.Class (type_id 0)) ∷ [])
    (nodes.first Read (firsts.Name (id (codes "A") 104 ∷ id (codes "x") 106 ∷ []))) []
    ≡ found occurs.FieldRef 106 (codes "x") (bindings.Field (record { of = type_id 0; place = 0 })) Read ∷ []
names_in_h = simp outs
