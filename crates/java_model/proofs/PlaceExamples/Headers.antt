-- What names mean in imports, in headers and in the creations of anonymous classes.
use Rattle.std.proofs.Common.{◌≡◌, ℕ, List, [], ◌∷◌, Some, None, false, codes, refl, map}
use Rattle.java_tree.specs.declared.bound.Bound.{Bound}
use Rattle.java_tree.specs.declared.bound.Bound.TheVariants as bounds
use Rattle.java_tree.specs.declared.expr.Creation.{Creation}
use Rattle.java_tree.specs.declared.expr.First.TheVariants as firsts
use Rattle.java_tree.specs.declared.names.Ident.{Ident}
use Rattle.java_tree.specs.declared.occurrence.Access.TheVariants.{NoAccess, Read}
use Rattle.java_tree.specs.declared.occurrence.Binding.TheVariants as bindings
use Rattle.java_tree.specs.declared.occurrence.OccKind.TheVariants as occurs
use Rattle.java_tree.specs.declared.types.JType.TheVariants as types
use Rattle.java_model.specs.Names.Environments.{EnvDocument, type_id}
use Rattle.java_model.specs.Names.Supertypes.{supers}
use Rattle.java_model.specs.Scopes.Contexts.{Context, resolve_at}
use Rattle.java_model.specs.Tree.Nodes.{Node}
use Rattle.java_model.specs.Tree.Nodes as nodes
use Rattle.java_model.specs.Occurrences.Occurrences.{node_names, type_in_node}
use Rattle.java_model.proofs.Names.Building.{named, class, interface, anonymous, extends, implements, within, document}
use Rattle.java_model.proofs.PlaceExamples.Kit.{id, top_class, found}
use Rattle.java_model.proofs.PlaceExamples.Outs.{outs, out-first-New}

-- a unit with nothing but the `{` of its types
abbrev context : EnvDocument → List ℕ → Context
context d braces = record { env = d ∷ []; outline = d.outline; first = 0; types = map (λ b. top_class (id [] 0) None b []) braces }

-- `package q;import q.A;class A{}`: in the name of an import no type of the package is in scope
abbrev in_q : Context
in_q = context (document (codes "q/A.java") (named (codes "q")) [] (class (codes "A") ∷ [])) []

abbrev an_import : Node
an_import = nodes.imported (record { name = id (codes "q") 17 ∷ id (codes "A") 19 ∷ []; star = false })

a_simple_name_in_an_import : type_in_node in_q [] an_import (named (codes "A")) ≡ types.Absent (named (codes "A"))
a_simple_name_in_an_import = refl

a_qualified_name_in_an_import : type_in_node in_q [] an_import (named (codes "q.A")) ≡ types.Class (type_id 0)
a_qualified_name_in_an_import = refl

a_name_in_a_package_clause : type_in_node in_q [] (nodes.package_clause (id (codes "q") 8 ∷ [])) (named (codes "A")) ≡ types.Absent (named (codes "A"))
a_name_in_a_package_clause = refl

a_name_in_a_declaration : type_in_node in_q [] (nodes.declaration 25) (named (codes "A")) ≡ types.Class (type_id 0)
a_name_in_a_declaration = refl

-- `class A extends B.M implements I{}class B extends A{}interface I{class M{}}`: in the header of A it is in hand
abbrev in_hand : Context
in_hand = context (document (codes "A.java") [] [] (
    implements (codes "I") (extends (codes "B.M") (class (codes "A"))) ∷ extends (codes "A") (class (codes "B")) ∷ interface (codes "I")
    ∷ within 2 (class (codes "M")) ∷ [])) []

abbrev B_M : List Ident
B_M = id (codes "B") 16 ∷ id (codes "M") 18 ∷ []

a_name_in_a_header : type_in_node in_hand [] (nodes.supertype 0 B_M) (named (codes "B.M")) ≡ types.Absent (named (codes "B.M"))
a_name_in_a_header = refl

the_same_elsewhere : resolve_at in_hand [] (named (codes "B.M")) ≡ types.Class (type_id 3)
the_same_elsewhere = refl

-- `class A extends B{class I{}}class B extends C{Object o=new I(){};}class C extends A{}`: the anonymous class sees
-- through the cycle, and so does its name
abbrev on_cycle : Context
on_cycle = context (document (codes "A.java") [] [] (
    extends (codes "B") (class (codes "A")) ∷ within 0 (class (codes "I")) ∷ extends (codes "C") (class (codes "B"))
    ∷ within 2 (anonymous (codes "I")) ∷ extends (codes "A") (class (codes "C")) ∷ [])) (17 ∷ 25 ∷ 45 ∷ 63 ∷ 84 ∷ [])

abbrev body_of_B : List Bound
body_of_B = bounds.Members (type_id 2) ∷ []

abbrev creation : Creation
creation = record { class = id (codes "I") 59 ∷ []; arguments = []; body = Some 63 }

its_supertype : supers on_cycle.env (type_id 3) ≡ types.Class (type_id 1) ∷ []
its_supertype = refl

its_name : node_names on_cycle body_of_B (nodes.first Read (firsts.New creation)) ([] ∷ [])
    ≡ found occurs.TypeRef 59 (codes "I") (bindings.Class (type_id 1)) NoAccess
    ∷ found occurs.Super 59 (codes "I") (bindings.Class (type_id 1)) NoAccess
    ∷ found occurs.CtorRef 59 (codes "I") (bindings.Method (record { of = type_id 1; place = 0 })) NoAccess ∷ []
its_name = rw out-first-New

its_type_there : type_in_node on_cycle body_of_B (nodes.first Read (firsts.New creation)) (named (codes "I")) ≡ types.Class (type_id 1)
its_type_there = rw out-first-New

-- without a body the name is one of the body of B
without_a_body : node_names on_cycle body_of_B (nodes.first Read (firsts.New (record creation { body = None }))) ([] ∷ [])
    ≡ found occurs.TypeRef 59 (codes "I") bindings.Nothing NoAccess
    ∷ found occurs.CtorRef 59 (codes "I") bindings.Nothing NoAccess ∷ []
without_a_body = simp outs
