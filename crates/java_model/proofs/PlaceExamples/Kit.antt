-- Small trees for the examples of names, and their environments.
use Rattle.std.proofs.Common.{ℕ, ◌+◌, List, [], ◌∷◌, Option, Some, None, false, length, codes, map}
use Rattle.java_tree.specs.declared.names.ElementType.TheVariants as elements
use Rattle.java_tree.specs.declared.names.Ident.{Ident}
use Rattle.java_tree.specs.declared.names.Primitive.TheVariants as primitives
use Rattle.java_tree.specs.declared.names.TypeUse.{TypeUse}
use Rattle.java_tree.specs.declared.occurrence.Access.{Access}
use Rattle.java_tree.specs.declared.occurrence.Access.TheVariants.{Read}
use Rattle.java_tree.specs.declared.occurrence.Binding.{Binding}
use Rattle.java_tree.specs.declared.occurrence.OccKind.{OccKind}
use Rattle.java_tree.specs.declared.occurrence.Occurrence.{Occurrence}
use Rattle.java_tree.specs.declared.expr.Expr.{Expr}
use Rattle.java_tree.specs.declared.expr.Expr.TheVariants as exprs
use Rattle.java_tree.specs.declared.expr.First.{First}
use Rattle.java_tree.specs.declared.expr.First.TheVariants as firsts
use Rattle.java_tree.specs.declared.expr.Initializer.TheVariants as initializers
use Rattle.java_tree.specs.declared.expr.Selector.{Selector}
use Rattle.java_tree.specs.declared.outline.Outline.{Outline}
use Rattle.java_tree.specs.declared.stmt.BlockStatement.{BlockStatement}
use Rattle.java_tree.specs.declared.stmt.BlockStatement.TheVariants as block_statements
use Rattle.java_tree.specs.declared.stmt.Parameter.{Parameter}
use Rattle.java_tree.specs.declared.stmt.Stmt.{Stmt}
use Rattle.java_tree.specs.declared.stmt.Stmt.TheVariants as stmts
use Rattle.java_tree.specs.declared.stmt.Variable.{Variable}
use Rattle.java_tree.specs.declared.types.DocPath.{DocPath}
use Rattle.java_tree.specs.declared.unit.Import.{Import}
use Rattle.java_tree.specs.declared.unit.Member.{Member}
use Rattle.java_tree.specs.declared.unit.Member.TheVariants as members
use Rattle.java_tree.specs.declared.unit.ResultType.TheVariants as results
use Rattle.java_tree.specs.declared.unit.TopLevel.TheVariants as tops
use Rattle.java_tree.specs.declared.unit.TypeDecl.{TypeDecl}
use Rattle.java_tree.specs.declared.unit.TypeHead.TheVariants as heads
use Rattle.java_tree.specs.declared.unit.TypePlace.{TypePlace}
use Rattle.java_tree.specs.declared.unit.TypePlace.TheVariants as places
use Rattle.java_tree.specs.declared.unit.Unit.{Unit as CompilationUnit}
use Rattle.java_model.specs.Grammar.Pieces.{Hole}
use Rattle.java_model.specs.Outlines.{outline_type, package_name, import_name}
use Rattle.java_model.specs.Names.Environments.{EnvDocument}
use Rattle.java_model.specs.Tree.Nodes.{Node}
use Rattle.java_model.specs.Tree.Nodes as nodes
use Rattle.java_model.specs.Scopes.Contexts.{Context}
use Rattle.java_model.specs.Occurrences.References.{occurrence}

abbrev pub id : List ℕ → ℕ → Ident
id name at = record { name = name; span = record { start = at; end = at + length name } }

abbrev pub int_use : TypeUse
int_use = record { element = elements.Primitive primitives.Int; dims = 0 }

abbrev pub named_use : Ident → TypeUse
named_use i = record { element = elements.Named (i ∷ []); dims = 0 }

abbrev pub primary : First → List Selector → Expr
primary f selectors = exprs.Postfix (record { first = f; selectors = selectors }) []

abbrev pub name : List Ident → Expr
name n = primary (firsts.Name n) []

abbrev pub plain : Ident → Variable
plain i = record { name = i; dims = 0; initializer = None }

abbrev pub set_to : Ident → Expr → Variable
set_to i x = record { name = i; dims = 0; initializer = Some (initializers.Value x) }

abbrev pub field : TypeUse → Variable → Member
field t v = members.Field (record { modifiers = []; of = t; variables = v ∷ [] })

abbrev pub param : TypeUse → Ident → Parameter
param t i = record { is_final = false; of = t; name = i; dims = 0 }

abbrev pub local : TypeUse → Variable → BlockStatement
local t v = block_statements.Local (record { is_final = false; of = t; variables = v ∷ [] })

abbrev pub does : Stmt → BlockStatement
does = block_statements.Statement

abbrev pub returns : Expr → BlockStatement
returns x = does (stmts.Return (Some x))

abbrev pub runs : Expr → BlockStatement
runs x = does (stmts.Expression x)

abbrev pub method : Ident → List Parameter → List BlockStatement → Member
method i params statements = members.Method (record {
  modifiers = [];
  result = results.Of int_use;
  name = i;
  parameters = params;
  dims = 0;
  throws = [];
  body = Some (record { brace = 0; statements = statements });
})

abbrev pub class : Option ℕ → TypePlace → Ident → Option (List Ident) → ℕ → List Member → TypeDecl
class parent place i extends brace members = record {
  parent = parent;
  place = place;
  head = heads.Class (record { modifiers = []; name = i; extends = extends; implements = [] });
  brace = brace;
  members = members;
}

abbrev pub top_class : Ident → Option (List Ident) → ℕ → List Member → TypeDecl
top_class = class None places.TopLevel

abbrev pub unit_of : Option (List Ident) → List Import → List TypeDecl → CompilationUnit
unit_of p imports types = record { «package» = p; imports = imports; declarations = map (λ t. tops.Type t.brace) types; types = types }

abbrev pub plain_hole : Hole
plain_hole = record { brace = 0; place = places.TopLevel; created = []; around = record { left = 0; within = None; locals = [] } }

-- the outline of a unit whose types are all named, with no local class at a header
abbrev pub outline : CompilationUnit → Outline
outline u = record { «package» = package_name u.«package»; imports = map import_name u.imports; types = map (outline_type u.types plain_hole) u.types }

abbrev pub path : List ℕ → DocPath
path name = record { container = codes "src"; path = name }

abbrev pub document : List ℕ → CompilationUnit → EnvDocument
document name u = record { path = path name; outline = outline u }

-- the context of the only unit
abbrev pub alone : CompilationUnit → Context
alone u = record { env = document (codes "A.java") u ∷ []; outline = outline u; first = 0; types = u.types }

abbrev pub found : OccKind → ℕ → List ℕ → Binding → Access → Occurrence
found kind at name binding how = occurrence kind (record { start = at; end = at + length name }) name 0 binding how

abbrev pub call : List Ident → List Expr → Node
call n arguments = nodes.first Read (firsts.Call n arguments)

abbrev pub name_node : Access → List Ident → Node
name_node how n = nodes.first how (firsts.Name n)
