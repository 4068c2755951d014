-- References to constructors: spelled, implicit, and in creations.
use Rattle.std.proofs.Common.{◌≡◌, ℕ, List, [], ◌∷◌, Some, None, codes, refl}
use Rattle.java_tree.specs.declared.bound.Bound.{Bound}
use Rattle.java_tree.specs.declared.bound.Bound.TheVariants as bounds
use Rattle.java_tree.specs.declared.expr.Creation.{Creation}
use Rattle.java_tree.specs.declared.expr.First.TheVariants as firsts
use Rattle.java_tree.specs.declared.names.Ident.{Ident}
use Rattle.java_tree.specs.declared.names.Modifier.{Modifier}
use Rattle.java_tree.specs.declared.names.Modifier.TheVariants as modifiers
use Rattle.java_tree.specs.declared.occurrence.Access.TheVariants.{NoAccess, Read}
use Rattle.java_tree.specs.declared.occurrence.Binding.{Binding}
use Rattle.java_tree.specs.declared.occurrence.Binding.TheVariants as bindings
use Rattle.java_tree.specs.declared.occurrence.OccKind.TheVariants as occurs
use Rattle.java_tree.specs.declared.outline.Outline.{Outline}
use Rattle.java_tree.specs.declared.types.JType.TheVariants as types
use Rattle.java_tree.specs.declared.unit.Callee.TheVariants as callees
use Rattle.java_tree.specs.declared.unit.Constructor.{Constructor}
use Rattle.java_tree.specs.declared.unit.Explicit.{Explicit}
use Rattle.java_tree.specs.declared.unit.Member.TheVariants as members
use Rattle.java_tree.specs.declared.unit.TypeHead.TheVariants as heads
use Rattle.java_tree.specs.declared.unit.TypePlace.TheVariants as places
use Rattle.java_tree.specs.declared.unit.Unit.{Unit as CompilationUnit}
use Rattle.java_model.specs.Grammar.Pieces.{Hole}
use Rattle.java_model.specs.Outlines.{outline_type}
use Rattle.java_model.specs.Names.Environments.{type_id}
use Rattle.java_model.specs.Scopes.Contexts.{Context}
use Rattle.java_model.specs.Scopes.Scoping.{opens}
use Rattle.java_model.specs.Tree.Nodes as nodes
use Rattle.java_model.specs.Bindings.Values.{node_types}
use Rattle.java_model.specs.Occurrences.Occurrences.{node_names}
use Rattle.java_model.proofs.PlaceExamples.Kit.{id, top_class, unit_of, outline, document, alone, plain_hole, found}
use Rattle.java_model.proofs.PlaceExamples.Outs.{outs, out-first-New}

-- `class B extends A {}` beside `class A {}`: the default constructor of B invokes that of A
abbrev a : CompilationUnit
a = unit_of None [] (top_class (id (codes "A") 6) None 8 [] ∷ [])

abbrev b : CompilationUnit
b = unit_of None [] (top_class (id (codes "B") 6) (Some (id (codes "A") 16 ∷ [])) 18 [] ∷ [])

abbrev in_b : Context
in_b = record { env = document (codes "A.java") a ∷ document (codes "B.java") b ∷ []; outline = outline b; first = 1; types = b.types }

abbrev constructor : ℕ → ℕ → Binding
constructor of place = bindings.Method (record { of = type_id of; place = place })

implicit : node_names in_b [] (nodes.declaration 18) []
    ≡ found occurs.TypeDecl 6 (codes "B") (bindings.Class (type_id 1)) NoAccess
    ∷ record (found occurs.CtorRef 6 (codes "A") (constructor 0 0) NoAccess) { span = record { start = 6; end = 7 } } ∷ []
implicit = refl

-- where no superclass is spelled there is none
none_without_extends : node_names (alone a) [] (nodes.declaration 8) [] ≡ found occurs.TypeDecl 6 (codes "A") (bindings.Class (type_id 0)) NoAccess ∷ []
none_without_extends = refl

-- `class A{protected A(int i){}}` in another package: from `new A(1){}` its constructor is accessible, from `new A(1)` it isn't
abbrev of_A : List Modifier → Constructor
of_A ms = record { modifiers = ms; name = id (codes "A") 20; parameters = []; throws = []; brace = 23; explicit = None; statements = [] }

abbrev guarded : CompilationUnit
guarded = unit_of (Some (id (codes "p") 8 ∷ [])) [] (top_class (id (codes "A") 16) None 17 (members.Constructor (of_A (modifiers.Protected ∷ [])) ∷ []) ∷ [])

abbrev p_A : List Ident
p_A = id (codes "p") 40 ∷ id (codes "A") 42 ∷ []

abbrev creates : CompilationUnit
creates = unit_of None [] (
    top_class (id (codes "M") 6) None 8 []
    ∷ record { parent = Some 0; place = places.Anonymous; head = heads.Anonymous; brace = 45; members = [] } ∷ [])

abbrev creation_hole : Hole
creation_hole = record plain_hole { brace = 45; place = places.Anonymous; created = p_A }

abbrev its_outline : Outline
its_outline = record (outline creates) {
  types = outline_type creates.types plain_hole (top_class (id (codes "M") 6) None 8 [])
      ∷ outline_type creates.types creation_hole (record { parent = Some 0; place = places.Anonymous; head = heads.Anonymous; brace = 45; members = [] }) ∷ [];
}

abbrev in_M : Context
in_M = record {
  env = document (codes "p/A.java") guarded ∷ record { path = (document (codes "q/M.java") creates).path; outline = its_outline } ∷ [];
  outline = its_outline;
  first = 1;
  types = creates.types;
}

abbrev body_of_M : List Bound
body_of_M = bounds.Members (type_id 1) ∷ []

abbrev plain_creation : Creation
plain_creation = record { class = p_A; arguments = []; body = None }

abbrev anonymous : Creation
anonymous = record { class = p_A; arguments = []; body = Some 45 }

protected_constructor : node_names in_M body_of_M (nodes.first Read (firsts.New plain_creation)) ([] ∷ [])
    ≡ found occurs.PackageRef 40 (codes "p") (bindings.Package (codes "p")) NoAccess
    ∷ found occurs.TypeRef 42 (codes "A") (bindings.Class (type_id 0)) NoAccess
    ∷ found occurs.CtorRef 42 (codes "A") bindings.Nothing NoAccess ∷ []
protected_constructor = simp outs

of_an_anonymous_class : node_names in_M body_of_M (nodes.first Read (firsts.New anonymous)) ([] ∷ [])
    ≡ found occurs.PackageRef 40 (codes "p") (bindings.Package (codes "p")) NoAccess
    ∷ found occurs.TypeRef 42 (codes "A") (bindings.Class (type_id 0)) NoAccess
    ∷ found occurs.Super 42 (codes "A") (bindings.Class (type_id 0)) NoAccess
    ∷ found occurs.CtorRef 42 (codes "A") (constructor 0 0) NoAccess ∷ []
of_an_anonymous_class = rw out-first-New

-- the created type is the anonymous class, whose arguments reach what its body reaches
its_type : node_types in_M body_of_M (nodes.first Read (firsts.New anonymous)) ([] ∷ []) ≡ types.Class (type_id 2) ∷ []
its_type = rw out-first-New

its_arguments : opens in_M body_of_M (nodes.creation anonymous) ≡ bounds.Arguments (type_id 2) ∷ []
its_arguments = refl

-- an anonymous class in an explicit constructor invocation, `super(new p.A(){})`, of a class without `extends`
abbrev explicit : Explicit
explicit = record { callee = callees.Super None (record { start = 30; end = 35 }); arguments = [] }

of_object : node_names in_M body_of_M (nodes.explicit 0 explicit) []
    ≡ record (found occurs.CtorRef 30 (codes "Object") bindings.Nothing NoAccess) { span = record { start = 30; end = 35 } } ∷ []
of_object = refl
