-- Local classes and local variables in scope.
use Rattle.std.proofs.Common.{◌≡◌, List, [], ◌∷◌, ◌++◌, Some, None, false, codes, refl}
use Rattle.java_tree.specs.declared.bound.Bound.{Bound}
use Rattle.java_tree.specs.declared.bound.Bound.TheVariants as bounds
use Rattle.java_tree.specs.declared.occurrence.Access.TheVariants.{Read}
use Rattle.java_tree.specs.declared.stmt.Block.{Block}
use Rattle.java_tree.specs.declared.stmt.BlockStatement.TheVariants as block_statements
use Rattle.java_tree.specs.declared.stmt.ForInit.TheVariants as inits
use Rattle.java_tree.specs.declared.stmt.LocalVariables.{LocalVariables}
use Rattle.java_tree.specs.declared.stmt.Stmt.TheVariants as stmts
use Rattle.java_tree.specs.declared.stmt.SwitchGroup.{SwitchGroup}
use Rattle.java_tree.specs.declared.stmt.SwitchLabel.TheVariants as labels
use Rattle.java_tree.specs.declared.types.JType.TheVariants as types
use Rattle.java_tree.specs.declared.unit.Member.TheVariants as members
use Rattle.java_tree.specs.declared.unit.TypePlace.TheVariants as places
use Rattle.java_tree.specs.declared.unit.Unit.{Unit as CompilationUnit}
use Rattle.java_model.specs.Names.Environments.{type_id}
use Rattle.java_model.specs.Scopes.Contexts.{Context, resolve_at}
use Rattle.java_model.specs.Scopes.Scoping.{inside, opens, leaves}
use Rattle.java_model.specs.Tree.Nodes as nodes
use Rattle.java_model.specs.Bindings.Arithmetic.{int}
use Rattle.java_model.proofs.PlaceExamples.Kit.{id, int_use, name, set_to, class, top_class, unit_of, outline, document}
use Rattle.java_model.proofs.PlaceExamples.Outs.{outs}

-- `package p;class L{}` and `import p.L;class A{class L{} {class L{} class L extends L{}}}`
abbrev in_p : CompilationUnit
in_p = unit_of (Some (id (codes "p") 8 ∷ [])) [] (top_class (id (codes "L") 16) None 17 [] ∷ [])

abbrev block : Block
block = record { brace = 30; statements = block_statements.LocalClass 38 ∷ block_statements.LocalClass 58 ∷ [] }

abbrev nested : CompilationUnit
nested = unit_of None (record { name = id (codes "p") 7 ∷ id (codes "L") 9 ∷ []; star = false } ∷ []) (
    top_class (id (codes "A") 17) None 18 (members.Type 26 ∷ members.Initializer false block ∷ [])
    ∷ class (Some 0) places.Member (id (codes "L") 25) None 26 []
    ∷ class (Some 0) places.Local (id (codes "L") 37) None 38 []
    ∷ class (Some 0) places.Local (id (codes "L") 47) (Some (id (codes "L") 57 ∷ [])) 58 []
    ∷ [])

abbrev C : Context
C = record { env = document (codes "p/L.java") in_p ∷ document (codes "q/A.java") nested ∷ []; outline = outline nested; first = 1; types = nested.types }

abbrev in_A : List Bound
in_A = bounds.Members (type_id 1) ∷ []

-- the import, hidden by the member class, hidden by the first local class, and that by the second
outermost : resolve_at C [] (codes "L" ∷ []) ≡ types.Class (type_id 0)
outermost = refl

in_the_body : resolve_at C in_A (codes "L" ∷ []) ≡ types.Class (type_id 2)
in_the_body = refl

behind_the_first : resolve_at C (in_A ++ bounds.Class (type_id 3) ∷ []) (codes "L" ∷ []) ≡ types.Class (type_id 3)
behind_the_first = refl

behind_both : resolve_at C (in_A ++ bounds.Class (type_id 3) ∷ bounds.Class (type_id 4) ∷ []) (codes "L" ∷ []) ≡ types.Class (type_id 4)
behind_both = refl

-- the second one's declaration has the first one in scope
declared_in_turn : inside C (record { scope = in_A; node = nodes.block block })
    ≡ record { scope = in_A; node = nodes.declaration 38 } ∷ record { scope = in_A ++ bounds.Class (type_id 3) ∷ []; node = nodes.declaration 58 } ∷ []
declared_in_turn = simp outs

-- its header lies outside its own scope, its body inside
header_and_body : inside C (record { scope = in_A ++ bounds.Class (type_id 3) ∷ []; node = nodes.declaration 58 })
    ≡ record { scope = in_A ++ bounds.Class (type_id 3) ∷ []; node = nodes.supertype 3 (id (codes "L") 57 ∷ []) }
    ∷ record { scope = in_A ++ bounds.Class (type_id 3) ∷ []; node = nodes.body 58 } ∷ []
header_and_body = refl

body_opens : opens C [] (nodes.body 58) ≡ bounds.Class (type_id 4) ∷ bounds.Members (type_id 4) ∷ []
body_opens = refl

-- `int x = x, y = x;`: a variable is in scope in its own initializer and in the declarators after it
abbrev two_variables : LocalVariables
two_variables = record {
  is_final = false;
  of = int_use;
  variables = set_to (id (codes "x") 4) (name (id (codes "x") 8 ∷ [])) ∷ set_to (id (codes "y") 11) (name (id (codes "x") 15 ∷ [])) ∷ [];
}

x_in_scope : Bound
x_in_scope = bounds.Variable (codes "x") int

in_declarators : inside C (record { scope = []; node = nodes.locals two_variables })
    ≡ record { scope = []; node = nodes.type_use int_use.element 0 }
    ∷ record { scope = []; node = nodes.variable int_use (set_to (id (codes "x") 4) (name (id (codes "x") 8 ∷ []))) }
    ∷ record { scope = x_in_scope ∷ []; node = nodes.variable int_use (set_to (id (codes "y") 11) (name (id (codes "x") 15 ∷ []))) } ∷ []
unfolding x_in_scope
in_declarators = refl

in_initializer : inside C (record { scope = []; node = nodes.variable int_use (set_to (id (codes "x") 4) (name (id (codes "x") 8 ∷ []))) })
    ≡ record { scope = x_in_scope ∷ []; node = nodes.expression Read (name (id (codes "x") 8 ∷ [])) } ∷ []
unfolding x_in_scope
in_initializer = simp outs

-- `for (int x = x, y = x; x; ) return;`: the whole of the `for` has them in scope
behind_init : inside C (record { scope = []; node = nodes.statement (stmts.For (inits.Local two_variables) (Some (name (id (codes "x") 18 ∷ []))) [] (stmts.Return None)) })
    ≡ record { scope = []; node = nodes.locals two_variables }
    ∷ record { scope = x_in_scope ∷ bounds.Variable (codes "y") int ∷ []; node = nodes.expression Read (name (id (codes "x") 18 ∷ [])) }
    ∷ record { scope = x_in_scope ∷ bounds.Variable (codes "y") int ∷ []; node = nodes.statement (stmts.Return None) } ∷ []
unfolding x_in_scope
behind_init = simp outs

-- the groups of a `switch` are one block
abbrev group : SwitchGroup
group = record { label = labels.Default; statements = block_statements.Local two_variables ∷ block_statements.LocalClass 38 ∷ [] }

group_leaves : leaves C [] (nodes.group group) ≡ x_in_scope ∷ bounds.Variable (codes "y") int ∷ bounds.Class (type_id 3) ∷ []
unfolding x_in_scope
group_leaves = simp outs
