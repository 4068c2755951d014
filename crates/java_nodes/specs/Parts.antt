-- What lies inside some nodes from one of their parts on.
use Rattle.std.specs.Prelude.{ℕ, List, [], ◌∷◌, ◌++◌, Option, map}
use Rattle.std.specs.Option.{option_to_list}
use Rattle.java_tree.specs.declared.expr.Expr.{Expr}
use Rattle.java_tree.specs.declared.stmt.Stmt.{Stmt}
use Rattle.java_tree.specs.declared.unit.Constructor.{Constructor}
use Rattle.java_tree.specs.declared.unit.Method.{Method}
use Rattle.java_model.specs.Tree.Nodes.{Node, parameter, explicit, statement}
use Rattle.java_model.specs.Tree.InExpressions.{reads, type_name}
use Rattle.java_model.specs.Tree.InStatements.{block_statement, optional_expression, optional_block}

-- a method after its parameters, and after its result (JLS 8.4)
abbrev pub after_parameters : Method → List Node
after_parameters m = map type_name m.throws ++ optional_block m.body

abbrev pub after_result : Method → List Node
after_result m = map parameter m.parameters ++ after_parameters m

-- a ConstructorBody, and a constructor after its parameters (JLS 8.8)
abbrev pub constructor_body : ℕ → Constructor → List Node
constructor_body number c = map (explicit number) (option_to_list c.explicit) ++ map block_statement c.statements

abbrev pub after_constructor_parameters : ℕ → Constructor → List Node
after_constructor_parameters number c = map type_name c.throws ++ constructor_body number c

-- a `for` after its test, and after its ForInit (JLS 14.13)
abbrev pub after_test : List Expr → Stmt → List Node
after_test update inner = map reads update ++ statement inner ∷ []

abbrev pub after_init : Option Expr → List Expr → Stmt → List Node
after_init test update inner = optional_expression test ++ after_test update inner
