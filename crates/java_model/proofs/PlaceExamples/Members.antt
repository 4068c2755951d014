-- Members that are declared twice, inherited, or named in their own initializers.
use Rattle.std.proofs.Common.{◌≡◌, [], ◌∷◌, Some, None, false, codes, refl}
use Rattle.java_tree.specs.declared.bound.Bound.TheVariants as bounds
use Rattle.java_tree.specs.declared.occurrence.Access.TheVariants.{NoAccess, Read}
use Rattle.java_tree.specs.declared.occurrence.Binding.TheVariants as bindings
use Rattle.java_tree.specs.declared.occurrence.OccKind.TheVariants as occurs
use Rattle.java_tree.specs.declared.types.NameKind.TheVariants as kinds
use Rattle.java_tree.specs.declared.unit.Member.TheVariants as members
use Rattle.java_tree.specs.declared.unit.TypePlace.TheVariants as places
use Rattle.java_tree.specs.declared.unit.Unit.{Unit as CompilationUnit}
use Rattle.java_model.specs.Names.Environments.{type_id}
use Rattle.java_model.specs.Scopes.Contexts.{Context}
use Rattle.java_model.specs.Scopes.NameKinds.{classify}
use Rattle.java_model.specs.Scopes.Scoping.{inside}
use Rattle.java_model.specs.Tree.Nodes as nodes
use Rattle.java_model.specs.Occurrences.Occurrences.{node_names}
use Rattle.java_model.proofs.PlaceExamples.Kit.{id, int_use, name, plain, set_to, field, class, top_class, unit_of, outline, document, alone, name_node, found}
use Rattle.java_model.proofs.PlaceExamples.Outs.{outs}

-- `class A{int x;int x;}class B extends A{}`
abbrev twice : CompilationUnit
twice = unit_of None [] (
    top_class (id (codes "A") 6) None 7 (field int_use (plain (id (codes "x") 12)) ∷ field int_use (plain (id (codes "x") 18)) ∷ [])
    ∷ top_class (id (codes "B") 27) (Some (id (codes "A") 37 ∷ [])) 38 [] ∷ [])

-- where they are declared the first counts, a subclass inherits both, and so the name means nothing there
declared_twice : classify (alone twice) (bounds.Members (type_id 0) ∷ []) (codes "x" ∷ []) ≡ kinds.Field (record { of = type_id 0; place = 0 })
declared_twice = refl

inherited_twice : classify (alone twice) (bounds.Members (type_id 1) ∷ []) (codes "x" ∷ []) ≡ kinds.Nothing
inherited_twice = refl

-- both are declarations
second_declared : node_names (alone twice) [] (nodes.field 0 (plain (id (codes "x") 18))) []
    ≡ found occurs.FieldDecl 18 (codes "x") (bindings.Field (record { of = type_id 0; place = 1 })) NoAccess ∷ []
second_declared = refl

-- `class A{int x=x;}`: the initializer reads the field
abbrev itself : CompilationUnit
itself = unit_of None [] (top_class (id (codes "A") 6) None 7 (field int_use (set_to (id (codes "x") 12) (name (id (codes "x") 14 ∷ []))) ∷ []) ∷ [])

in_initializer : inside (alone itself) (record { scope = bounds.Members (type_id 0) ∷ []; node = nodes.field 0 (set_to (id (codes "x") 12) (name (id (codes "x") 14 ∷ []))) })
    ≡ record { scope = bounds.Members (type_id 0) ∷ []; node = nodes.expression Read (name (id (codes "x") 14 ∷ [])) } ∷ []
in_initializer = simp outs

names_itself : node_names (alone itself) (bounds.Members (type_id 0) ∷ []) (name_node Read (id (codes "x") 14 ∷ [])) []
    ≡ found occurs.FieldRef 14 (codes "x") (bindings.Field (record { of = type_id 0; place = 0 })) Read ∷ []
names_itself = simp outs

-- `package p;class A{class I{}}class B extends A{}` and `import p.B.I;`: an import finds inherited member types
abbrev with_member : CompilationUnit
with_member = unit_of (Some (id (codes "p") 8 ∷ [])) [] (
    top_class (id (codes "A") 16) None 17 (members.Type 25 ∷ [])
    ∷ class (Some 0) places.Member (id (codes "I") 24) None 25 []
    ∷ top_class (id (codes "B") 34) (Some (id (codes "A") 44 ∷ [])) 45 [] ∷ [])

abbrev importing : CompilationUnit
importing = unit_of None (record { name = id (codes "p") 7 ∷ id (codes "B") 9 ∷ id (codes "I") 11 ∷ []; star = false } ∷ []) []

abbrev C : Context
C = record { env = document (codes "a/A.java") importing ∷ document (codes "p/A.java") with_member ∷ []; outline = outline importing; first = 0; types = [] }

inherited_import : node_names C [] (nodes.imported (record { name = id (codes "p") 7 ∷ id (codes "B") 9 ∷ id (codes "I") 11 ∷ []; star = false })) []
    ≡ found occurs.PackageRef 7 (codes "p") (bindings.Package (codes "p")) NoAccess
    ∷ found occurs.TypeRef 9 (codes "B") (bindings.Class (type_id 2)) NoAccess
    ∷ found occurs.TypeRef 11 (codes "I") (bindings.Class (type_id 1)) NoAccess ∷ []
inherited_import = refl
