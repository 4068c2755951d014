-- A unit in its environment, and look-ups in what is in scope at a place (JLS 6.3).
use Rattle.std.specs.Prelude.{ℕ, ◌+◌, cond, List, [], ◌∷◌, ◌++◌, Option, Some, None, length}
use Rattle.std.specs.Option.{option_or}
use Rattle.java_tree.specs.declared.bound.Bound.{Bound}
use Rattle.java_tree.specs.declared.bound.Bound.TheVariants as bounds
use Rattle.java_tree.specs.declared.names.ElementType.{ElementType}
use Rattle.java_tree.specs.declared.names.ElementType.TheVariants as elements
use Rattle.java_tree.specs.declared.occurrence.TypeId.{TypeId}
use Rattle.java_tree.specs.declared.outline.Outline.{Outline}
use Rattle.java_tree.specs.declared.types.DocPath.{DocPath}
use Rattle.java_tree.specs.declared.types.JType.{JType}
use Rattle.java_tree.specs.declared.types.JType.TheVariants as types
use Rattle.java_tree.specs.declared.unit.TypeDecl.{TypeDecl}
use Rattle.java_tree.specs.declared.unit.Unit.{Unit as CompilationUnit}
use Rattle.java_model.specs.Names.Lists.{Identifiers}
use Rattle.java_model.specs.Names.Environments.{Env, EnvDocument, same_path, type_id}
use Rattle.java_model.specs.Names.TypeNames.{TypeScope, TypeBound, LocalClass, Body}
use Rattle.java_model.specs.Names.MemberTypes.{resolve}
use Rattle.java_model.specs.Names.Types.{with_dims}
use Rattle.java_model.specs.Outlines.{spelled_name}

-- A unit in an environment: its outline there, the number that its first type has there, and its types.
pub record Context : Type 0 where
  pub env : Env
  pub outline : Outline
  pub first : ℕ
  pub types : List TypeDecl

-- the context of a unit whose document has this path, among the documents from a number on
abbrev pub context_among : Env → DocPath → CompilationUnit → ℕ → List EnvDocument → Option Context
context_among env path u first [] = None
context_among env path u first (d ∷ ds) =
    cond (same_path d.path path) (Some (record { env = env; outline = d.outline; first = first; types = u.types }))
    (context_among env path u (first + length d.outline.types) ds)

abbrev pub context_of : Env → DocPath → CompilationUnit → Option Context
context_of env path u = context_among env path u 0 env

-- the type with this number in the unit
abbrev pub numbered_id : Context → ℕ → TypeId
numbered_id C number = type_id (C.first + number)

-- The innermost answer counts. What is in scope stands outermost first.
abbrev pub innermost : {A : Type 0} → (Bound → Option A) → List Bound → Option A
innermost answer [] = None
innermost answer (b ∷ bs) = option_or (innermost answer bs) (answer b)

abbrev pub body_of : Bound → Option TypeId
body_of (bounds.Members t) = Some t
body_of _ = None

-- the innermost type around a place
abbrev pub this_type : List Bound → Option TypeId
this_type = innermost body_of

-- Type names ask for local classes and for the bodies of types, innermost first.
abbrev pub type_bound : Bound → List TypeBound
type_bound (bounds.Class t) = LocalClass t ∷ []
type_bound (bounds.Members t) = Body t ∷ []
type_bound _ = []

abbrev pub type_bounds : List Bound → List TypeBound
type_bounds [] = []
type_bounds (b ∷ bs) = type_bounds bs ++ type_bound b

abbrev pub type_scope : Context → List Bound → TypeScope
type_scope C s = record { outline = C.outline; bounds = type_bounds s }

-- what a type name means at a place: Class or Absent (JLS 6.5.5)
abbrev pub resolve_at : Context → List Bound → Identifiers → JType
resolve_at C s = resolve C.env (type_scope C s)

abbrev pub element_at : Context → List Bound → ElementType → JType
element_at C s (elements.Primitive p) = types.Primitive p
element_at C s (elements.Named n) = resolve_at C s (spelled_name n)

-- a type with so many `[]` after it (JLS 8.3, 10.2)
abbrev pub type_at_place : Context → List Bound → ElementType → ℕ → JType
type_at_place C s e dims = with_dims (element_at C s e) dims
