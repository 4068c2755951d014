-- Supertypes: anonymous classes, private member types, cycles.
use Rattle.std.proofs.Common.{◌≡◌, ℕ, true, List, [], ◌∷◌, Some, codes, refl}
use Rattle.std.specs.Option.{option_map_or}
use Rattle.java_tree.specs.declared.types.JType.{JType}
use Rattle.java_tree.specs.declared.types.JType.TheVariants as types
use Rattle.java_model.specs.Names.Environments.{Env, declared_at}
use Rattle.java_model.specs.Names.Supertypes.{supers, superclass, is_on_cycle, resolve_in_header}
use Rattle.java_model.specs.Names.MemberTypes.{resolve_in_body}
use Rattle.java_model.proofs.Names.Building.{named, class, interface, anonymous, extends, implements, within, with_modifiers, document, the_type}

-- in the body of a type, and in its header
abbrev in_body : Env → ℕ → List ℕ → JType
in_body env t name = option_map_or (λ d. resolve_in_body env d (named name)) (declared_at env (the_type t)) types.Unknown

abbrev in_header : Env → ℕ → List ℕ → JType
in_header env t name = option_map_or (λ d. resolve_in_header env d (the_type t) (named name)) (declared_at env (the_type t)) types.Unknown

abbrev is : ℕ → JType
is n = types.Class (the_type n)

abbrev absent : List ℕ → JType
absent name = types.Absent (named name)

-- `o.new B(){}` has the supertypes of what `B` means there: an anonymous class of an interface extends Object.
abbrev anonymous_of_interface : Env
anonymous_of_interface =
    document (codes "A.java") [] [] (class (codes "A") ∷ within 0 (anonymous (codes "I")) ∷ interface (codes "I") ∷ within 0 (anonymous (codes "B")) ∷ []) ∷ []

an-interface-and-object : supers anonymous_of_interface (the_type 1) ≡ is 4 ∷ is 2 ∷ []
an-interface-and-object = refl

an-absent-class : supers anonymous_of_interface (the_type 3) ≡ absent (codes "B") ∷ []
an-absent-class = refl

-- `class A extends I` with an interface `I`
abbrev class_extends_interface : Env
class_extends_interface = document (codes "A.java") [] [] (extends (codes "I") (class (codes "A")) ∷ interface (codes "I") ∷ []) ∷ []

its-supertype-is-the-interface : supers class_extends_interface (the_type 0) ≡ is 1 ∷ []
its-supertype-is-the-interface = refl

-- A private member type is found by its name, but isn't inherited: `class A{private class P{}}class B extends A{}`.
abbrev private_member : Env
private_member =
    document (codes "A.java") [] [] (class (codes "A") ∷ with_modifiers 8 (within 0 (class (codes "P"))) ∷ extends (codes "A") (class (codes "B")) ∷ []) ∷ []

a-private-type-is-found : in_body private_member 2 (codes "A.P") ≡ is 1
a-private-type-is-found = refl

a-private-type-is-not-inherited : in_body private_member 2 (codes "P") ≡ absent (codes "P")
a-private-type-is-not-inherited = refl

-- `class A extends B{class I{}}class B extends C{}class C extends A{}class D extends B{}`, a cycle of three and one beside it
abbrev cycle : Env
cycle =
    document (codes "A.java") [] []
    (extends (codes "B") (class (codes "A")) ∷ within 0 (class (codes "I")) ∷ extends (codes "C") (class (codes "B"))
    ∷ extends (codes "A") (class (codes "C")) ∷ extends (codes "B") (class (codes "D")) ∷ extends (codes "I") (within 2 (class (codes "J"))) ∷ [])
    ∷ []

a-type-on-a-cycle : is_on_cycle cycle (the_type 2) ≡ true
a-type-on-a-cycle = refl

its-superclass-is-absent : superclass cycle (the_type 2) ≡ Some (types.Absent [])
its-superclass-is-absent = refl

a-type-beside-the-cycle : supers cycle (the_type 4) ≡ is 2 ∷ []
a-type-beside-the-cycle = refl

-- the name in the header of the member `J` of `B` is found through the cycle, that in its body isn't
a-header-sees-through-the-cycle : supers cycle (the_type 5) ≡ is 1 ∷ []
a-header-sees-through-the-cycle = refl

a-body-does-not : in_body cycle 2 (codes "I") ≡ absent (codes "I")
a-body-does-not = refl

-- `class A extends B.M implements I{}class B extends A{}interface I{class M{}}`: while the header of A is looked up, B is
-- asked for M, and B asks A, which is in hand and has declared no M. A body finds it by way of I.
abbrev in_hand : Env
in_hand =
    document (codes "A.java") [] []
    (implements (codes "I") (extends (codes "B.M") (class (codes "A"))) ∷ extends (codes "A") (class (codes "B")) ∷ interface (codes "I")
    ∷ within 2 (class (codes "M")) ∷ [])
    ∷ []

in-hand-the-declared-ones-count : supers in_hand (the_type 0) ≡ absent (codes "B.M") ∷ is 2 ∷ []
in-hand-the-declared-ones-count = refl

a-body-finds-it : in_body in_hand 0 (codes "B.M") ≡ is 3
a-body-finds-it = refl
