-- What each part of a unit brings into scope (JLS 6.3), and the spots of a unit: its nodes with what is
-- in scope at them.
use Rattle.std.specs.Prelude.{ℕ, ◌+◌, List, [], ◌∷◌, ◌++◌, Option, Some, None, map}
use Rattle.java_tree.specs.declared.bound.Bound.{Bound}
use Rattle.java_tree.specs.declared.bound.Bound.TheVariants as bounds
use Rattle.java_tree.specs.declared.names.TypeUse.{TypeUse}
use Rattle.java_tree.specs.declared.stmt.Parameter.{Parameter}
use Rattle.java_tree.specs.declared.stmt.Variable.{Variable}
use Rattle.java_tree.specs.declared.unit.TypePlace.{TypePlace}
use Rattle.java_tree.specs.declared.unit.TypePlace.TheVariants as places
use Rattle.java_model.specs.Tree.Nodes.{Node, declaration, body, variable, parameter, locals, group, creation}
use Rattle.java_model.specs.Tree.InStatements.{block_statement}
use Rattle.java_model.specs.Tree.Children.{Numbered, numbered, number_of, children}
use Rattle.java_model.specs.Scopes.Contexts.{Context, numbered_id, type_at_place}

-- a local class (JLS 14.3)
abbrev pub local_class : Context → ℕ → TypePlace → List Bound
local_class C number places.Local = bounds.Class (numbered_id C number) ∷ []
local_class C number _ = []

abbrev pub declared_locally : Context → Option Numbered → List Bound
declared_locally C None = []
declared_locally C (Some t) = local_class C t.number t.type.place

-- within its body a local class itself, and the members of the type (JLS 8.1.5, 14.3)
abbrev pub within_body : Context → Option Numbered → List Bound
within_body C None = []
within_body C (Some t) = local_class C t.number t.type.place ++ bounds.Members (numbered_id C t.number) ∷ []

abbrev pub local_variable : Context → List Bound → TypeUse → Variable → Bound
local_variable C s t v = bounds.Variable v.name.name (type_at_place C s t.element (t.dims + v.dims))

abbrev pub parameter_bound : Context → List Bound → Parameter → Bound
parameter_bound C s p = bounds.Variable p.name.name (type_at_place C s p.of.element (p.of.dims + p.dims))

abbrev pub arguments_of : Context → Option ℕ → List Bound
arguments_of C None = []
arguments_of C (Some number) = bounds.Arguments (numbered_id C number) ∷ []

abbrev pub creation_bound : Context → Option ℕ → List Bound
creation_bound C None = []
creation_bound C (Some brace) = arguments_of C (number_of C.types brace)

-- What a node brings into scope inside itself: a local variable is in scope in its own initializer (JLS 14.4.2).
abbrev pub opens : Context → List Bound → Node → List Bound
opens C s (body brace) = within_body C (numbered C.types brace)
opens C s (variable t v) = local_variable C s t v ∷ []
opens C s (creation c) = creation_bound C c.body
opens C s _ = []

-- What a node brings into scope after itself, up to the end of the node around it: a local class the rest of its
-- block (JLS 14.3), a local variable too (JLS 14.4.2), a parameter its body (JLS 8.4.1, 8.8.1, 14.19), a local
-- variable of a `for` the rest of the `for` (JLS 14.13).
abbrev pub leaves_one : Context → List Bound → Node → List Bound
leaves_one C s (declaration brace) = declared_locally C (numbered C.types brace)
leaves_one C s (variable t v) = local_variable C s t v ∷ []
leaves_one C s (parameter p) = parameter_bound C s p ∷ []
leaves_one C s (locals l) = map (local_variable C s l.of) l.variables
leaves_one C s _ = []

abbrev pub leaves_each : Context → List Bound → List Node → List Bound
leaves_each C s [] = []
leaves_each C s (n ∷ ns) = leaves_one C s n ++ leaves_each C (s ++ leaves_one C s n) ns

-- The braces of a `switch` are one block: what a group declares is in scope in the groups after it (JLS 14.10).
abbrev pub leaves : Context → List Bound → Node → List Bound
leaves C s (group g) = leaves_each C s (map block_statement g.statements)
leaves C s n = leaves_one C s n

pub record Spot : Type 0 where
  pub scope : List Bound
  pub node : Node

abbrev pub spots : Context → List Bound → List Node → List Spot
spots C s [] = []
spots C s (n ∷ ns) = record { scope = s; node = n } ∷ spots C (s ++ leaves C s n) ns

-- the spots directly inside a spot
abbrev pub inside : Context → Spot → List Spot
inside C x = spots C (x.scope ++ opens C x.scope x.node) (children C.types x.node)
