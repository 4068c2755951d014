-- The occurrences of a unit: what all its places name, each place once, in order.
use Rattle.std.specs.Prelude.{◌≡◌, ℕ, ◌+◌, ◌*◌, ◌^◌, List, [], ◌∷◌, Option, Some, None, length, drop}
use Rattle.std.specs.List.{zip}
use Rattle.std.specs.List.Sorted.{IsPermutation, IsNonDecreasingBy}
use Rattle.java_tree.specs.declared.bound.Bound.{Bound}
use Rattle.java_tree.specs.declared.occurrence.Occurrence.{Occurrence}
use Rattle.java_tree.specs.declared.occurrence.OccKind.{OccKind}
use Rattle.java_tree.specs.declared.occurrence.OccKind.TheVariants as occurs
use Rattle.java_tree.specs.declared.occurrence.TypeId.{TypeId}
use Rattle.java_tree.specs.declared.expr.Expr.TheOpen.{First-F}
use Rattle.java_tree.specs.declared.expr.First.{out-First}
use Rattle.java_tree.specs.declared.types.JType.{JType}
use Rattle.java_tree.specs.declared.types.JType.TheVariants as types
use Rattle.java_tree.specs.declared.types.NameKind.{NameKind}
use Rattle.java_tree.specs.declared.unit.Unit.{Unit as CompilationUnit}
use Rattle.java_model.specs.Grammar.Forms.{FirstLayer}
use Rattle.java_model.specs.Names.Lists.{Identifiers}
use Rattle.java_model.specs.Names.Environments.{Env, Declared, declared_at}
use Rattle.java_model.specs.Names.TypeNames.{import_type}
use Rattle.java_model.specs.Names.MemberTypes.{member_types}
use Rattle.java_model.specs.Names.Supertypes.{resolve_in_header}
use Rattle.java_model.specs.Places.{Rules, lead, AreAll, LeadsTo, Name}
use Rattle.java_model.specs.Tree.Nodes.{Node, unit, package_clause, imported, declaration, supertype, member, field, type_use, explicit, primary, first}
use Rattle.java_model.specs.Tree.Children.{numbered}
use Rattle.java_model.specs.Scopes.Contexts.{Context, numbered_id, resolve_at}
use Rattle.java_model.specs.Scopes.NameKinds.{classify}
use Rattle.java_model.specs.Scopes.TypeNames.{created_type}
use Rattle.java_model.specs.Scopes.Scoping.{Spot, inside}
use Rattle.java_model.specs.Bindings.Chains.{Types, part, sole, anonymous_class}
use Rattle.java_model.specs.Bindings.Values.{node_types}
use Rattle.java_model.specs.Occurrences.Expressions.{in_element, names_in_first, names_in_chain}
use Rattle.java_model.specs.Occurrences.Declarations.{package_declaration, in_import, field_declaration, names_in_member, names_in_explicit, names_in_declaration, in_supertype}

-- the occurrences that a node itself has at a place, given the types of its parts
abbrev pub node_names : Context → List Bound → Node → List Types → List Occurrence
node_names C s (package_clause n) parts = package_declaration n ∷ []
node_names C s (imported i) parts = in_import C.env i
node_names C s (declaration brace) parts = names_in_declaration C s (numbered C.types brace)
node_names C s (supertype number n) parts = in_supertype C (numbered_id C number) n (declared_at C.env (numbered_id C number))
node_names C s (member number m) parts = names_in_member C s number m
node_names C s (field number v) parts = field_declaration C number v.name ∷ []
node_names C s (type_use e dims) parts = in_element C s e
node_names C s (explicit number e) parts = names_in_explicit C s number (length e.arguments) e.callee parts ∷ []
node_names C s (primary how p) parts = names_in_chain C s how (part 0 parts) (zip p.selectors (drop 1 parts))
node_names C s (first how f) parts = names_in_first C s how (out-First f) parts
node_names C s _ parts = []

-- what is inside a spot of a unit, its types, and what it names
abbrev pub java_rules : Context → Rules Spot Types Occurrence
java_rules C = record {
  inside = inside C;
  value = λ x parts. node_types C x.scope x.node parts;
  names = λ x parts. node_names C x.scope x.node parts;
}

-- A unit is the root of its tree, where nothing is in scope but what type names ask for anyway.
abbrev pub root_spot : CompilationUnit → Spot
root_spot u = record { scope = []; node = unit u }

-- the spot to which a place leads
abbrev pub spot_at : Context → CompilationUnit → List ℕ → Option Spot
spot_at C u = lead (java_rules C) (Some (root_spot u))

-- The number of a kind, and an order by start, end and kind.
abbrev pub kind_number : OccKind → ℕ
kind_number occurs.PackageDecl = 1
kind_number occurs.PackageRef = 2
kind_number occurs.TypeDecl = 3
kind_number occurs.TypeRef = 4
kind_number occurs.Super = 5
kind_number occurs.MethodDecl = 6
kind_number occurs.MethodRef = 7
kind_number occurs.CtorDecl = 8
kind_number occurs.CtorRef = 9
kind_number occurs.FieldDecl = 10
kind_number occurs.FieldRef = 11
kind_number occurs.NameRef = 12

abbrev pub rank : Occurrence → ℕ
rank o = (o.span.start * 2 ^ 32 + o.span.end) * 16 + kind_number o.kind

-- The occurrences of a unit: each place of its tree is gone to once, and what they all name stands in order.
pub record Occurrences (C : Context) (u : CompilationUnit) (os : List Occurrence) : Type 0 where
  pub places : List (List ℕ)
  pub all : AreAll (spot_at C u) places
  pub named : List Occurrence
  pub name : Name (java_rules C) (spot_at C u) places named
  pub same : IsPermutation named os
  pub rise : IsNonDecreasingBy rank os

-- in the header of a type of the unit
abbrev pub header_type : Env → TypeId → Option Declared → Identifiers → JType
header_type env t None name = types.Absent name
header_type env t (Some d) name = resolve_in_header env d t name

-- What a type name means in a node: no scope is asked by an import and what stands before it (JLS 6.3, 7.5), and
-- headers have their own look-up (JLS 8.1.3, 8.1.4, 9.1.2, 15.9.5).
abbrev pub type_in_first : Context → List Bound → FirstLayer → Identifiers → JType
type_in_first C s (First-F.New c) = created_type C s (anonymous_class C c)
type_in_first C s _ = resolve_at C s

abbrev pub type_in_node : Context → List Bound → Node → Identifiers → JType
type_in_node C s (package_clause n) = import_type C.env (member_types C.env)
type_in_node C s (imported i) = import_type C.env (member_types C.env)
type_in_node C s (supertype number n) = header_type C.env (numbered_id C number) (declared_at C.env (numbered_id C number))
type_in_node C s (first how f) = type_in_first C s (out-First f)
type_in_node C s _ = resolve_at C s

-- what a type name means at a place of a unit
pub record MeansType (C : Context) (u : CompilationUnit) (place : List ℕ) (name : Identifiers) (t : JType) : Type 0 where
  pub spot : Spot
  pub leads : spot_at C u place ≡ Some spot
  pub is : t ≡ type_in_node C spot.scope spot.node name

-- what an ambiguous name means at a place of a unit
pub record MeansKind (C : Context) (u : CompilationUnit) (place : List ℕ) (name : Identifiers) (kind : NameKind) : Type 0 where
  pub spot : Spot
  pub leads : spot_at C u place ≡ Some spot
  pub is : kind ≡ classify C spot.scope name

-- the type of the node at a place of a unit, and the occurrences that it has itself
pub record HasType (C : Context) (u : CompilationUnit) (place : List ℕ) (t : JType) (os : List Occurrence) : Type 0 where
  pub spot : Spot
  pub parts : List Types
  pub leads : LeadsTo (java_rules C) (spot_at C u) place spot parts
  pub is : t ≡ sole (node_types C spot.scope spot.node parts)
  pub names : os ≡ node_names C spot.scope spot.node parts
