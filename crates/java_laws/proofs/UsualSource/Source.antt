-- The tree of `p/Main.java`, alone in its environment. A line ends in one byte, so the offsets are those of the text.
use Rattle.std.proofs.Common.{ℕ, ◌+◌, List, [], ◌∷◌, Some, None, true, false, length, codes, map}
use Rattle.java_tree.specs.declared.bound.Bound.{Bound}
use Rattle.java_tree.specs.declared.bound.Bound.TheVariants as bounds
use Rattle.java_tree.specs.declared.expr.Creation.{Creation}
use Rattle.java_tree.specs.declared.expr.Expr.{Expr}
use Rattle.java_tree.specs.declared.expr.Expr.TheVariants as exprs
use Rattle.java_tree.specs.declared.expr.First.{First}
use Rattle.java_tree.specs.declared.expr.First.TheVariants as firsts
use Rattle.java_tree.specs.declared.expr.Initializer.TheVariants as initializers
use Rattle.java_tree.specs.declared.expr.Primary.{Primary}
use Rattle.java_tree.specs.declared.names.ElementType.TheVariants as elements
use Rattle.java_tree.specs.declared.names.Ident.{Ident}
use Rattle.java_tree.specs.declared.names.Literal.TheVariants as literals
use Rattle.java_tree.specs.declared.names.Modifier.TheVariants as modifiers
use Rattle.java_tree.specs.declared.names.TypeUse.{TypeUse}
use Rattle.java_tree.specs.declared.outline.Outline.{Outline}
use Rattle.java_tree.specs.declared.stmt.Block.{Block}
use Rattle.java_tree.specs.declared.stmt.BlockStatement.TheVariants as block_statements
use Rattle.java_tree.specs.declared.stmt.LocalVariables.{LocalVariables}
use Rattle.java_tree.specs.declared.stmt.Parameter.{Parameter}
use Rattle.java_tree.specs.declared.stmt.Stmt.{Stmt}
use Rattle.java_tree.specs.declared.stmt.Stmt.TheVariants as stmts
use Rattle.java_tree.specs.declared.stmt.Variable.{Variable}
use Rattle.java_tree.specs.declared.types.ArrayElement.TheVariants as array_elements
use Rattle.java_tree.specs.declared.types.DocPath.{DocPath}
use Rattle.java_tree.specs.declared.types.JType.TheVariants as types
use Rattle.java_tree.specs.declared.unit.Import.{Import}
use Rattle.java_tree.specs.declared.unit.Member.{Member}
use Rattle.java_tree.specs.declared.unit.Member.TheVariants as members
use Rattle.java_tree.specs.declared.unit.ResultType.TheVariants as results
use Rattle.java_tree.specs.declared.unit.TopLevel.TheVariants as tops
use Rattle.java_tree.specs.declared.unit.TypeDecl.{TypeDecl}
use Rattle.java_tree.specs.declared.unit.TypeHead.TheVariants as heads
use Rattle.java_tree.specs.declared.unit.TypePlace.TheVariants as places
use Rattle.java_tree.specs.declared.unit.Unit.{Unit as CompilationUnit}
use Rattle.java_model.specs.Grammar.Pieces.{Hole}
use Rattle.java_model.specs.Grammar.YieldUnit.{outermost}
use Rattle.java_model.specs.Outlines.{outline_type, package_name, import_name}
use Rattle.java_model.specs.Names.Environments.{type_id}
use Rattle.java_model.specs.Scopes.Contexts.{Context}

abbrev pub id : List ℕ → ℕ → Ident
id name at = record { name = name; span = record { start = at; end = at + length name } }

abbrev pub use_of : Ident → ℕ → TypeUse
use_of i dims = record { element = elements.Named (i ∷ []); dims = dims }

-- an expression that is only this
abbrev pub primary : First → Primary
primary f = record { first = f; selectors = [] }

abbrev pub plain : First → Expr
plain f = exprs.Postfix (primary f) []

abbrev pub creation : Ident → Creation
creation i = record { class = i ∷ []; arguments = []; body = None }

abbrev pub new : Ident → First
new i = firsts.New (creation i)

-- a variable that is set to a new object
abbrev pub set_to_new : Ident → Ident → Variable
set_to_new i class = record { name = i; dims = 0; initializer = Some (initializers.Value (plain (new class))) }

-- `private List items = new ArrayList();`
abbrev pub list_use : TypeUse
list_use = use_of (id (codes "List") 61) 0

unfoldable pub items : Variable
items = set_to_new (id (codes "items") 66) (id (codes "ArrayList") 78)

unfoldable pub items_field : Member
items_field = members.Field (record { modifiers = modifiers.Private ∷ []; of = list_use; variables = items ∷ [] })

-- `String[] args`
abbrev pub string_use : TypeUse
string_use = use_of (id (codes "String") 117) 1

unfoldable pub args : Parameter
args = record { is_final = false; of = string_use; name = id (codes "args") 126; dims = 0 }

-- `Main m = new Main();`
abbrev pub main_use : TypeUse
main_use = use_of (id (codes "Main") 138) 0

unfoldable pub m : Variable
m = set_to_new (id (codes "m") 143) (id (codes "Main") 151)

unfoldable pub declaring_m : LocalVariables
declaring_m = record { is_final = false; of = main_use; variables = m ∷ [] }

-- `m.items.add("x");`
unfoldable pub x : First
x = firsts.Literal (literals.String (34 ∷ 120 ∷ 34 ∷ []))

unfoldable pub add : First
add = firsts.Call (id (codes "m") 163 ∷ id (codes "items") 165 ∷ id (codes "add") 171 ∷ []) (plain x ∷ [])

unfoldable pub adding : Stmt
adding = stmts.Expression (plain add)

-- `System.out.println(m.items.size());`
unfoldable pub size : First
size = firsts.Call (id (codes "m") 204 ∷ id (codes "items") 206 ∷ id (codes "size") 212 ∷ []) []

unfoldable pub println : First
println = firsts.Call (id (codes "System") 185 ∷ id (codes "out") 192 ∷ id (codes "println") 196 ∷ []) (plain size ∷ [])

unfoldable pub printing : Stmt
printing = stmts.Expression (plain println)

-- `public static void main(String[] args) {..}`
unfoldable pub block : Block
block = record {
  brace = 132;
  statements = block_statements.Local declaring_m ∷ block_statements.Statement adding ∷ block_statements.Statement printing ∷ [];
}

unfoldable pub main : Member
main = members.Method (record {
  modifiers = modifiers.Public ∷ modifiers.Static ∷ [];
  result = results.Void;
  name = id (codes "main") 112;
  parameters = args ∷ [];
  dims = 0;
  throws = [];
  body = Some block;
})

abbrev pub in_p : List Ident
in_p = id (codes "p") 8 ∷ []

abbrev pub java_util : Import
java_util = record { name = id (codes "java") 18 ∷ id (codes "util") 23 ∷ []; star = true }

unfoldable pub class : TypeDecl
class = record {
  parent = None;
  place = places.TopLevel;
  head = heads.Class (record { modifiers = modifiers.Public ∷ []; name = id (codes "Main") 44; extends = None; implements = [] });
  brace = 49;
  members = items_field ∷ main ∷ [];
}

unfoldable pub source : CompilationUnit
source = record {
  «package» = Some in_p;
  imports = java_util ∷ [];
  declarations = tops.Type 49 ∷ [];
  types = class ∷ [];
}

-- `unfolding the_tree` opens each part of it
unfoldable pub the_tree : Unit {0}
unfolding source class items_field items main args block declaring_m m adding printing add println size x
the_tree = tt

-- where the body of the class stands
unfoldable pub hole : Hole
hole = record { brace = 49; place = places.TopLevel; created = []; around = outermost }

unfoldable pub outlined : Outline
unfolding the_tree hole
outlined = record {
  «package» = package_name source.«package»;
  imports = map import_name source.imports;
  types = map (outline_type source.types hole) source.types;
}

abbrev pub path : DocPath
path = record { container = codes "src"; path = codes "p/Main.java" }

unfoldable pub C : Context
unfolding outlined source class
C = record {
  env = record { path = path; outline = outlined } ∷ [];
  outline = outlined;
  first = 0;
  types = source.types;
}

-- What is in scope in the body of the class, in that of the method, and after the declaration of `m`. The types of an
-- environment are those of its documents, then `java.lang.Object` and `java.lang.String`.
abbrev pub in_class : List Bound
in_class = bounds.Members (type_id 0) ∷ []

abbrev pub args_bound : Bound
args_bound = bounds.Variable (codes "args") (types.Array (array_elements.Class (type_id 2)) 1)

abbrev pub m_bound : Bound
m_bound = bounds.Variable (codes "m") (types.Class (type_id 0))

abbrev pub in_method : List Bound
in_method = bounds.Members (type_id 0) ∷ args_bound ∷ []

abbrev pub in_main : List Bound
in_main = bounds.Members (type_id 0) ∷ args_bound ∷ m_bound ∷ []
