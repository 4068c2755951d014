-- The nodes of a unit's tree.
use Rattle.std.specs.Prelude.{ℕ, List}
use Rattle.java_tree.specs.declared.names.ElementType.{ElementType}
use Rattle.java_tree.specs.declared.names.Ident.{Ident}
use Rattle.java_tree.specs.declared.names.TypeUse.{TypeUse}
use Rattle.java_tree.specs.declared.occurrence.Access.{Access}
use Rattle.java_tree.specs.declared.expr.ArrayInitializer.{ArrayInitializer}
use Rattle.java_tree.specs.declared.expr.Creation.{Creation}
use Rattle.java_tree.specs.declared.expr.Expr.{Expr}
use Rattle.java_tree.specs.declared.expr.First.{First}
use Rattle.java_tree.specs.declared.expr.Primary.{Primary}
use Rattle.java_tree.specs.declared.expr.Selector.{Selector}
use Rattle.java_tree.specs.declared.stmt.Block.{Block}
use Rattle.java_tree.specs.declared.stmt.Catch.{Catch}
use Rattle.java_tree.specs.declared.stmt.IfArm.{IfArm}
use Rattle.java_tree.specs.declared.stmt.LocalVariables.{LocalVariables}
use Rattle.java_tree.specs.declared.stmt.Parameter.{Parameter}
use Rattle.java_tree.specs.declared.stmt.Stmt.{Stmt}
use Rattle.java_tree.specs.declared.stmt.SwitchGroup.{SwitchGroup}
use Rattle.java_tree.specs.declared.stmt.Variable.{Variable}
use Rattle.java_tree.specs.declared.unit.Explicit.{Explicit}
use Rattle.java_tree.specs.declared.unit.Import.{Import}
use Rattle.java_tree.specs.declared.unit.Member.{Member}
use Rattle.java_tree.specs.declared.unit.Unit.{Unit as CompilationUnit}

-- A type is named by the offset of the `{` of its body; a number is that of the type around the node,
-- in the list of the unit; an access is that of what the node spells last.
pub data Node : Type 0 where
  unit : CompilationUnit → Node
  package_clause : List Ident → Node
  imported : Import → Node
  -- a ClassDeclaration or an InterfaceDeclaration (JLS 8.1, 9.1)
  declaration : ℕ → Node
  -- a name after `extends` or `implements`, in the header of the type of that number
  supertype : ℕ → List Ident → Node
  -- a ClassBody or an InterfaceBody
  body : ℕ → Node
  member : ℕ → Member → Node
  -- a VariableDeclarator of a field or of a local variable (JLS 8.3, 14.4)
  field : ℕ → Variable → Node
  variable : TypeUse → Variable → Node
  -- a FormalParameter, or that of a CatchClause
  parameter : Parameter → Node
  -- an element type and the number of `[]` after it
  type_use : ElementType → ℕ → Node
  explicit : ℕ → Explicit → Node
  block : Block → Node
  statement : Stmt → Node
  locals : LocalVariables → Node
  arm : IfArm → Node
  group : SwitchGroup → Node
  catch_clause : Catch → Node
  expression : Access → Expr → Node
  primary : Access → Primary → Node
  first : Access → First → Node
  selector : Selector → Node
  creation : Creation → Node
  array : ArrayInitializer → Node
