-- Packages, types that no document declares, and names that are bound to nothing.
use Rattle.std.proofs.Common.{◌≡◌, List, [], ◌∷◌, ◌++◌, Some, None, true, false, codes, refl}
use Rattle.java_tree.specs.declared.names.Ident.{Ident}
use Rattle.java_tree.specs.declared.occurrence.Access.TheVariants.{NoAccess, Read, Write}
use Rattle.java_tree.specs.declared.occurrence.Binding.TheVariants as bindings
use Rattle.java_tree.specs.declared.occurrence.OccKind.TheVariants as occurs
use Rattle.java_tree.specs.declared.occurrence.Occurrence.{Occurrence}
use Rattle.java_tree.specs.declared.types.JType.TheVariants as types
use Rattle.java_tree.specs.declared.types.NameKind.TheVariants as kinds
use Rattle.java_tree.specs.declared.unit.Import.{Import}
use Rattle.java_tree.specs.declared.unit.Unit.{Unit as CompilationUnit}
use Rattle.java_model.specs.Names.Environments.{type_id}
use Rattle.java_model.specs.Scopes.Contexts.{Context, resolve_at}
use Rattle.java_model.specs.Scopes.NameKinds.{classify}
use Rattle.java_model.specs.Tree.Nodes as nodes
use Rattle.java_model.specs.Tree.InExpressions.{spelled, type_name}
use Rattle.java_model.specs.Occurrences.Occurrences.{node_names}
use Rattle.java_model.proofs.PlaceExamples.Kit.{id, named_use, top_class, unit_of, outline, document, call, name_node, found}
use Rattle.java_model.proofs.PlaceExamples.Outs.{outs}

-- `package p;class A{}` and a unit that imports from everywhere
abbrev in_p : CompilationUnit
in_p = unit_of (Some (id (codes "p") 8 ∷ [])) [] (top_class (id (codes "A") 16) None 17 [] ∷ [])

abbrev imports : List Ident → Import
imports n = record { name = n; star = false }

abbrev imports_all : List Ident → Import
imports_all n = record { name = n; star = true }

abbrev java_util : List Ident
java_util = id (codes "java") 7 ∷ id (codes "util") 12 ∷ []

abbrev java_util_List : List Ident
java_util_List = java_util ++ id (codes "List") 17 ∷ []

abbrev p_A : List Ident
p_A = id (codes "p") 7 ∷ id (codes "A") 9 ∷ []

abbrev p_C : List Ident
p_C = id (codes "p") 7 ∷ id (codes "C") 9 ∷ []

abbrev in_q : CompilationUnit
in_q = unit_of (Some (id (codes "q") 8 ∷ [])) (imports (id (codes "x") 30 ∷ id (codes "Foo") 32 ∷ []) ∷ []) []

abbrev C : Context
C = record { env = document (codes "p/A.java") in_p ∷ document (codes "q/B.java") in_q ∷ []; outline = outline in_q; first = 1; types = [] }

abbrev package_p : Occurrence
package_p = found occurs.PackageRef 7 (codes "p") (bindings.Package (codes "p")) NoAccess

-- `import p.A;`
import_of_a_type : node_names C [] (nodes.imported (imports p_A)) []
    ≡ package_p ∷ found occurs.TypeRef 9 (codes "A") (bindings.Class (type_id 0)) NoAccess ∷ []
import_of_a_type = refl

-- `import java.util.List;`: no document is in `java.util`
import_of_nothing : node_names C [] (nodes.imported (imports java_util_List)) []
    ≡ found occurs.NameRef 12 (codes "util") bindings.Nothing Read ∷ found occurs.TypeRef 17 (codes "List") bindings.Nothing NoAccess ∷ []
import_of_nothing = refl

-- `import java.util.*;` and `import p.*;`
import_of_no_package : node_names C [] (nodes.imported (imports_all java_util)) [] ≡ found occurs.NameRef 12 (codes "util") bindings.Nothing Read ∷ []
import_of_no_package = refl

import_of_a_package : node_names C [] (nodes.imported (imports_all (id (codes "p") 7 ∷ []))) [] ≡ package_p ∷ []
import_of_a_package = refl

-- `p.C x;` without a class C
a_package_before_an_absent_type : node_names C [] (type_name p_C) []
    ≡ package_p ∷ found occurs.TypeRef 9 (codes "C") bindings.Nothing NoAccess ∷ []
a_package_before_an_absent_type = refl

its_name : resolve_at C [] (codes "p" ∷ codes "C" ∷ []) ≡ types.Absent (codes "p" ∷ codes "C" ∷ [])
its_name = refl

-- `p.f()`: nothing at `p`
a_package_before_a_method : node_names C [] (call (id (codes "p") 7 ∷ id (codes "f") 9 ∷ []) []) []
    ≡ found occurs.MethodRef 9 (codes "f") bindings.Nothing NoAccess ∷ []
a_package_before_a_method = simp outs

-- a package named as a type is none
a_package_as_a_type : node_names C [] (spelled (named_use (id (codes "p") 7))) [] ≡ found occurs.TypeRef 7 (codes "p") bindings.Nothing NoAccess ∷ []
a_package_as_a_type = refl

-- `import x.Foo; Foo.f();` without such a type, and the same name as a type
an_absent_type_before_a_method : node_names C [] (call (id (codes "Foo") 7 ∷ id (codes "f") 11 ∷ []) []) []
    ≡ found occurs.NameRef 7 (codes "Foo") bindings.Nothing Read ∷ found occurs.MethodRef 11 (codes "f") bindings.Nothing NoAccess ∷ []
an_absent_type_before_a_method = simp outs

an_imported_absent_type : resolve_at C [] (codes "Foo" ∷ []) ≡ types.Absent (codes "x" ∷ codes "Foo" ∷ [])
an_imported_absent_type = refl

-- `p.A + 1`: an expression name is a variable or nothing
a_class_as_a_value : node_names C [] (name_node Read p_A) [] ≡ found occurs.FieldRef 9 (codes "A") bindings.Nothing Read ∷ []
a_class_as_a_value = simp outs

-- `a.b.c = 1` with no `a`
behind_an_unbound_name : node_names C [] (name_node Write (id (codes "a") 1 ∷ id (codes "b") 3 ∷ id (codes "c") 5 ∷ [])) []
    ≡ found occurs.NameRef 1 (codes "a") bindings.Nothing Read ∷ found occurs.NameRef 3 (codes "b") bindings.Nothing Read
    ∷ found occurs.FieldRef 5 (codes "c") bindings.Nothing Write ∷ []
behind_an_unbound_name = simp outs

kind_of_p : classify C [] (codes "p" ∷ []) ≡ kinds.Package
kind_of_p = refl

kind_of_p_A : classify C [] (codes "p" ∷ codes "A" ∷ []) ≡ kinds.Class (type_id 0)
kind_of_p_A = refl

kind_of_no_name : classify C [] (codes "System" ∷ codes "out" ∷ []) ≡ kinds.Nothing
kind_of_no_name = refl

-- `System.out.println()` without such a class
a_call_on_nothing : node_names C [] (call (id (codes "System") 1 ∷ id (codes "out") 8 ∷ id (codes "println") 12 ∷ []) []) []
    ≡ found occurs.NameRef 1 (codes "System") bindings.Nothing Read ∷ found occurs.NameRef 8 (codes "out") bindings.Nothing Read
    ∷ found occurs.MethodRef 12 (codes "println") bindings.Nothing NoAccess ∷ []
a_call_on_nothing = simp outs

-- `class p{}` in the unnamed package, and `package p.x;class A{}`: what the class p lacks is in the package p
abbrev of_class_p : CompilationUnit
of_class_p = unit_of None [] (top_class (id (codes "p") 6) None 7 [] ∷ [])

abbrev in_p_x : CompilationUnit
in_p_x = unit_of (Some (id (codes "p") 8 ∷ id (codes "x") 10 ∷ [])) [] (top_class (id (codes "A") 18) None 19 [] ∷ [])

abbrev D : Context
D = record { env = document (codes "p.java") of_class_p ∷ document (codes "p/x/A.java") in_p_x ∷ []; outline = outline of_class_p; first = 0; types = [] }

abbrev p_x : List Ident
p_x = id (codes "p") 7 ∷ id (codes "x") 9 ∷ []

abbrev package_p_x : Occurrence
package_p_x = found occurs.PackageRef 7 (codes "p.x") (bindings.Package (codes "p.x")) NoAccess

-- `p.x.M m;` without a class M
a_package_after_the_name_of_a_class : node_names D [] (type_name (p_x ++ id (codes "M") 11 ∷ [])) []
    ≡ package_p_x ∷ found occurs.TypeRef 11 (codes "M") bindings.Nothing NoAccess ∷ []
a_package_after_the_name_of_a_class = refl

-- `import p.x.M;` and `import p.x.*;`
its_import : node_names D [] (nodes.imported (imports (p_x ++ id (codes "M") 11 ∷ []))) []
    ≡ package_p_x ∷ found occurs.TypeRef 11 (codes "M") bindings.Nothing NoAccess ∷ []
its_import = refl

its_import_on_demand : node_names D [] (nodes.imported (imports_all p_x)) [] ≡ package_p_x ∷ []
its_import_on_demand = refl

-- `p.x y;`: to the left of the last dot stands a class
a_class_without_the_member : node_names D [] (type_name p_x) []
    ≡ found occurs.TypeRef 7 (codes "p") (bindings.Class (type_id 0)) NoAccess ∷ found occurs.TypeRef 9 (codes "x") bindings.Nothing NoAccess ∷ []
a_class_without_the_member = refl

-- `p.y.M m;` without a package `p.y`
no_package_after_the_name_of_a_class : node_names D [] (type_name (id (codes "p") 7 ∷ id (codes "y") 9 ∷ id (codes "M") 11 ∷ [])) []
    ≡ found occurs.TypeRef 7 (codes "p") (bindings.Class (type_id 0)) NoAccess ∷ found occurs.NameRef 9 (codes "y") bindings.Nothing Read
    ∷ found occurs.TypeRef 11 (codes "M") bindings.Nothing NoAccess ∷ []
no_package_after_the_name_of_a_class = refl
