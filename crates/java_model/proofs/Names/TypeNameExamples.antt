-- What type names mean.
use Rattle.std.proofs.Common.{◌≡◌, ℕ, true, List, [], ◌∷◌, codes, refl}
use Rattle.std.specs.Option.{option_map_or}
use Rattle.java_tree.specs.declared.types.JType.{JType}
use Rattle.java_tree.specs.declared.types.JType.TheVariants as types
use Rattle.java_model.specs.Names.Environments.{Env, declared_at, is_known_package}
use Rattle.java_model.specs.Names.TypeNames.{TypeScope, LocalClass, Body}
use Rattle.java_model.specs.Names.Supertypes.{supers, resolve_in_header}
use Rattle.java_model.specs.Names.MemberTypes.{resolve, resolve_in_body}
use Rattle.java_model.proofs.Names.Building.{named, class, extends, within, local, import, import_all, document, the_type}

-- in the body of a type, and in its header
abbrev in_body : Env → ℕ → List ℕ → JType
in_body env t name = option_map_or (λ d. resolve_in_body env d (named name)) (declared_at env (the_type t)) types.Unknown

abbrev in_header : Env → ℕ → List ℕ → JType
in_header env t name = option_map_or (λ d. resolve_in_header env d (the_type t) (named name)) (declared_at env (the_type t)) types.Unknown

abbrev is : ℕ → JType
is n = types.Class (the_type n)

abbrev absent : List ℕ → JType
absent name = types.Absent (named name)

-- `package p;class A{class I{}}`, `package p;class B extends A{}` and `import p.B.I;class C extends I{}`
abbrev inherited_import : Env
inherited_import =
    document (codes "C.java") [] (import (codes "p.B.I") ∷ []) (extends (codes "I") (class (codes "C")) ∷ [])
    ∷ document (codes "p/A.java") (named (codes "p")) [] (class (codes "A") ∷ within 0 (class (codes "I")) ∷ [])
    ∷ document (codes "p/B.java") (named (codes "p")) [] (extends (codes "A") (class (codes "B")) ∷ [])
    ∷ []

an-import-names-an-inherited-type : supers inherited_import (the_type 0) ≡ is 2 ∷ []
an-import-names-an-inherited-type = refl

-- An import begins with a type of the unnamed package: `class p{class A{}}`, `package p;class A{}`, and in package q
-- `import p.A;class B extends A{}`.
abbrev import_of_unnamed : Env
import_of_unnamed =
    document (codes "p.java") [] [] (class (codes "p") ∷ within 0 (class (codes "A")) ∷ [])
    ∷ document (codes "p/A.java") (named (codes "p")) [] (class (codes "A") ∷ [])
    ∷ document (codes "q/B.java") (named (codes "q")) (import (codes "p.A") ∷ []) (extends (codes "A") (class (codes "B")) ∷ [])
    ∷ []

an-import-begins-with-a-type : supers import_of_unnamed (the_type 3) ≡ is 1 ∷ []
an-import-begins-with-a-type = refl

-- `import x.A;import p.A;class A{}class B extends A{}`: the first import counts, also where its type is absent
abbrev two_imports : Env
two_imports =
    document (codes "B.java") [] (import (codes "x.A") ∷ import (codes "p.A") ∷ []) (class (codes "A") ∷ extends (codes "A") (class (codes "B")) ∷ [])
    ∷ document (codes "p/A.java") (named (codes "p")) [] (class (codes "A") ∷ [])
    ∷ []

the-first-import-counts : supers two_imports (the_type 1) ≡ absent (codes "x.A") ∷ []
the-first-import-counts = refl

-- `class A{class B{}}` in two documents, the second with a class `C` too: in its own body `B` means the first one's
abbrev declared_twice : Env
declared_twice =
    document (codes "A.java") [] [] (class (codes "A") ∷ within 0 (class (codes "B")) ∷ [])
    ∷ document (codes "B.java") [] [] (class (codes "A") ∷ within 0 (class (codes "B")) ∷ within 0 (class (codes "C")) ∷ [])
    ∷ []

the-first-declaration-counts : in_body declared_twice 2 (codes "B") ≡ is 1
the-first-declaration-counts = refl

its-own-member-counts : in_body declared_twice 2 (codes "C") ≡ is 4
its-own-member-counts = refl

the-first-one-has-no-c : in_body declared_twice 2 (codes "A.C") ≡ absent (codes "A.C")
the-first-one-has-no-c = refl

-- `class A{void f(){class L extends L{}}}` and a top level class L: the header of a local class lies outside its scope
abbrev local_header : Env
local_header =
    document (codes "A.java") [] [] (class (codes "A") ∷ local [] (within 0 (extends (codes "L") (class (codes "L")))) ∷ class (codes "L") ∷ []) ∷ []

a-local-class-extends-the-outer-one : supers local_header (the_type 1) ≡ is 2 ∷ []
a-local-class-extends-the-outer-one = refl

in-its-body-it-means-itself : in_body local_header 1 (codes "L") ≡ is 1
in-its-body-it-means-itself = refl

-- `class A{void f(){class L{}class L{}class M extends L{}}}`: the later one counts
abbrev two_locals : Env
two_locals =
    document (codes "A.java") [] []
    (class (codes "A") ∷ local [] (within 0 (class (codes "L"))) ∷ local (1 ∷ []) (within 0 (class (codes "L")))
    ∷ local (2 ∷ 1 ∷ []) (within 0 (extends (codes "L") (class (codes "M")))) ∷ [])
    ∷ []

the-later-local-class-counts : supers two_locals (the_type 3) ≡ is 2 ∷ []
the-later-local-class-counts = refl

-- `class A{class L{class M{}}void f(){class L{class M{}}}}`: the member of the local class isn't that of the member class
abbrev member_of_local : Env
member_of_local =
    document (codes "A.java") [] []
    (class (codes "A") ∷ within 0 (class (codes "L")) ∷ within 1 (class (codes "M")) ∷ local [] (within 0 (class (codes "L"))) ∷ within 3 (class (codes "M")) ∷ [])
    ∷ []

a-member-of-a-local-class : in_body member_of_local 3 (codes "M") ≡ is 4
a-member-of-a-local-class = refl

a-member-of-a-member-class : in_body member_of_local 0 (codes "L.M") ≡ is 2
a-member-of-a-member-class = refl

-- A local class shadows a member class, which shadows an import: `import p.X;class A{class X{}void f(){class X{}..}}`.
abbrev shadowing : Env
shadowing =
    document (codes "A.java") [] (import (codes "p.X") ∷ []) (class (codes "A") ∷ within 0 (class (codes "X")) ∷ local [] (within 0 (class (codes "X"))) ∷ class (codes "B") ∷ [])
    ∷ document (codes "p/X.java") (named (codes "p")) [] (class (codes "X") ∷ [])
    ∷ []

in_method : TypeScope
in_method = record {
  outline = record { «package» = []; imports = import (codes "p.X") ∷ []; types = [] };
  bounds = LocalClass (the_type 2) ∷ Body (the_type 0) ∷ [];
}

a-local-class-shadows : resolve shadowing in_method (named (codes "X")) ≡ is 2
unfolding in_method
a-local-class-shadows = refl

a-member-class-shadows : in_body shadowing 0 (codes "X") ≡ is 1
a-member-class-shadows = refl

an-import-is-left : in_body shadowing 3 (codes "X") ≡ is 4
an-import-is-left = refl

-- The left part of a name is a type without such a member, and then a package: `class p{}`, `package p;class A{}`.
abbrev left_is_a_type : Env
left_is_a_type =
    document (codes "B.java") [] [] (class (codes "p") ∷ extends (codes "p.A") (class (codes "B")) ∷ [])
    ∷ document (codes "p/A.java") (named (codes "p")) [] (class (codes "A") ∷ [])
    ∷ []

then-it-is-a-package : supers left_is_a_type (the_type 1) ≡ is 2 ∷ []
then-it-is-a-package = refl

-- Two types of one name by on-demand imports are none: `import p.*;import q.*;class B extends A{}`.
abbrev two_on_demand : Env
two_on_demand =
    document (codes "B.java") [] (import_all (codes "p") ∷ import_all (codes "q") ∷ []) (extends (codes "A") (class (codes "B")) ∷ [])
    ∷ document (codes "p/A.java") (named (codes "p")) [] (class (codes "A") ∷ [])
    ∷ document (codes "q/A.java") (named (codes "q")) [] (class (codes "A") ∷ [])
    ∷ []

two-on-demand-are-none : supers two_on_demand (the_type 0) ≡ absent (codes "A") ∷ []
two-on-demand-are-none = refl

-- what a package is named doesn't matter to the types in it
a-package-is-known : is_known_package left_is_a_type (named (codes "p")) ≡ true
a-package-is-known = refl
