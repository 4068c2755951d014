-- Fields, methods and what overrides what.
use Rattle.std.proofs.Common.{◌≡◌, true, false, [], ◌∷◌, Some, None, codes, refl, option_map}
use Rattle.java_tree.specs.declared.types.ArrayElement.TheVariants as elements
use Rattle.java_tree.specs.declared.types.JType.TheVariants as types
use Rattle.java_model.specs.Names.Environments.{Env, string}
use Rattle.java_model.specs.Names.Supertypes.{supers}
use Rattle.java_model.specs.Names.Fields.{fields, field_named, field_info}
use Rattle.java_model.specs.Names.Methods.{methods, constructors, method_info, overridden}
use Rattle.java_model.specs.Names.Accessibility.{is_accessible}
use Rattle.java_model.proofs.Names.Building.{named, class, interface, extends, implements, within, with_modifiers, field, method, constructor, import, document, the_type, the_field, the_method}

-- `class A{int x;}class B extends A{int x;}class C extends B{}`: the field of B hides that of A
abbrev hiding : Env
hiding =
    document (codes "A.java") [] []
    (field 0 (codes "int") (codes "x") (class (codes "A")) ∷ field 0 (codes "int") (codes "x") (extends (codes "A") (class (codes "B")))
    ∷ extends (codes "B") (class (codes "C")) ∷ [])
    ∷ []

a-field-hides : fields hiding (the_type 1) (codes "x") ≡ the_field 1 0 ∷ []
a-field-hides = refl

the-inherited-field : field_named hiding (the_type 2) (codes "x") ≡ Some (the_field 1 0)
the-inherited-field = refl

-- `class A{int x;long x;}class B extends A{}`: the first counts in A, and none in B
abbrev two_fields : Env
two_fields =
    document (codes "A.java") [] []
    (field 0 (codes "long") (codes "x") (field 0 (codes "int") (codes "x") (class (codes "A"))) ∷ extends (codes "A") (class (codes "B")) ∷ [])
    ∷ []

the-first-field-counts : field_named two_fields (the_type 0) (codes "x") ≡ Some (the_field 0 0)
the-first-field-counts = refl

two-inherited-fields-are-none : field_named two_fields (the_type 1) (codes "x") ≡ None
two-inherited-fields-are-none = refl

both-are-members : fields two_fields (the_type 1) (codes "x") ≡ the_field 0 0 ∷ the_field 0 1 ∷ []
both-are-members = refl

-- `interface K{int c;}interface I extends K{}interface J extends K{}class A implements I,J{}`: one field by two ways
abbrev one_constant : Env
one_constant =
    document (codes "A.java") [] []
    (field 0 (codes "int") (codes "c") (interface (codes "K")) ∷ extends (codes "K") (interface (codes "I")) ∷ extends (codes "K") (interface (codes "J"))
    ∷ implements (codes "J") (implements (codes "I") (class (codes "A"))) ∷ [])
    ∷ []

one-field-by-two-ways : field_named one_constant (the_type 3) (codes "c") ≡ Some (the_field 0 0)
one-field-by-two-ways = refl

-- the type of a field: `class A{}` in package p, and `import p.A;class B{A[] a;}` with an array
abbrev array_field : Env
array_field =
    document (codes "B.java") [] (import (codes "p.A") ∷ [])
    (record (class (codes "B")) {
      fields = record { name = codes "a"; of = record { name = named (codes "A"); dims = 2 }; modifiers = 0; span = record { start = 0; end = 0 } } ∷ [];
    } ∷ [])
    ∷ document (codes "p/A.java") (named (codes "p")) [] (class (codes "A") ∷ [])
    ∷ []

its-type-is-an-array : option_map (λ i. i.of) (field_info array_field (the_field 0 0)) ≡ Some (types.Array (elements.Class (the_type 1)) 2)
its-type-is-an-array = refl

-- Default access isn't inherited across packages, also not by way of one between (JLS 8.2.1): in package p
-- `class A{int d;void f(){}}` and `class C extends q.B{void f(){}}`, in package q `class B extends p.A{void f(){}}`.
abbrev across : Env
across =
    document (codes "p/A.java") (named (codes "p")) [] (field 0 (codes "int") (codes "d") (method 0 (codes "f") [] (class (codes "A"))) ∷ [])
    ∷ document (codes "p/C.java") (named (codes "p")) [] (method 0 (codes "f") [] (extends (codes "q.B") (class (codes "C"))) ∷ [])
    ∷ document (codes "q/B.java") (named (codes "q")) [] (method 0 (codes "f") [] (extends (codes "p.A") (class (codes "B"))) ∷ [])
    ∷ []

a-default-field-is-lost : fields across (the_type 1) (codes "d") ≡ []
a-default-field-is-lost = refl

-- C.f has the access to A.f, B.f has none
an-override-across-packages : overridden across (the_method 1 0) ≡ the_method 0 0 ∷ []
an-override-across-packages = refl

no-override-across-packages : overridden across (the_method 2 0) ≡ []
no-override-across-packages = refl

-- By way of one between: in package p `class A{void f(){}}` and `class B extends A{public void f(){}}`, in package q
-- `class C extends p.B{public void f(){}}`.
abbrev between : Env
between =
    document (codes "p/A.java") (named (codes "p")) [] (method 0 (codes "f") [] (class (codes "A")) ∷ [])
    ∷ document (codes "p/B.java") (named (codes "p")) [] (method 32 (codes "f") [] (extends (codes "A") (class (codes "B"))) ∷ [])
    ∷ document (codes "q/C.java") (named (codes "q")) [] (method 32 (codes "f") [] (extends (codes "p.B") (class (codes "C"))) ∷ [])
    ∷ []

by-way-of-one-between : overridden between (the_method 2 0) ≡ the_method 0 0 ∷ the_method 1 0 ∷ []
by-way-of-one-between = refl

-- `class A{static void f(){}}class B extends A{void f(){}static void g(){}}class C extends B{static void g(){}}`
abbrev statics : Env
statics =
    document (codes "A.java") [] []
    (method 64 (codes "f") [] (class (codes "A"))
    ∷ method 64 (codes "g") [] (method 0 (codes "f") [] (extends (codes "A") (class (codes "B"))))
    ∷ method 64 (codes "g") [] (extends (codes "B") (class (codes "C"))) ∷ [])
    ∷ []

a-static-method-is-not-overridden : overridden statics (the_method 1 0) ≡ []
a-static-method-is-not-overridden = refl

a-static-method-overrides-nothing : overridden statics (the_method 2 0) ≡ []
a-static-method-overrides-nothing = refl

-- but it hides
a-static-method-hides : methods statics (the_type 2) (codes "g") ≡ the_method 2 0 ∷ []
a-static-method-hides = refl

-- An interface has the public methods of Object: `package java.lang;class Object{public void h();void p();}`.
abbrev of_object : Env
of_object =
    document (codes "I.java") [] [] (interface (codes "I") ∷ [])
    ∷ document (codes "Object.java") (named (codes "java.lang")) []
    (method 0 (codes "p") [] (method 32 (codes "h") [] (extends (codes "I") (class (codes "Object")))) ∷ [])
    ∷ []

a-public-method-of-object : methods of_object (the_type 0) (codes "h") ≡ the_method 1 0 ∷ []
a-public-method-of-object = refl

no-other-method-of-object : methods of_object (the_type 0) (codes "p") ≡ []
no-other-method-of-object = refl

-- A method of an interface overrides that method as a member of an interface, and so does one of a class with an absent
-- superclass: `interface I{void h();}interface J extends K{void h();void p();}interface K{}`,
-- `class A extends N implements K{public void h(){}}class B extends N{public void h(){}}`.
abbrev overrides_object : Env
overrides_object =
    document (codes "I.java") [] []
    (method 0 (codes "h") [] (interface (codes "I")) ∷ method 0 (codes "p") [] (method 0 (codes "h") [] (extends (codes "K") (interface (codes "J"))))
    ∷ interface (codes "K") ∷ method 32 (codes "h") [] (implements (codes "K") (extends (codes "N") (class (codes "A"))))
    ∷ method 32 (codes "h") [] (extends (codes "N") (class (codes "B"))) ∷ [])
    ∷ document (codes "Object.java") (named (codes "java.lang")) []
    (method 0 (codes "p") [] (method 32 (codes "h") [] (class (codes "Object"))) ∷ [])
    ∷ []

in-an-interface : overridden overrides_object (the_method 0 0) ≡ the_method 5 0 ∷ []
in-an-interface = refl

in-an-interface-of-an-interface : overridden overrides_object (the_method 1 0) ≡ the_method 5 0 ∷ []
in-an-interface-of-an-interface = refl

none-that-is-not-public : overridden overrides_object (the_method 1 1) ≡ []
none-that-is-not-public = refl

in-a-class-of-an-interface : overridden overrides_object (the_method 3 0) ≡ the_method 5 0 ∷ []
in-a-class-of-an-interface = refl

an-absent-superclass-has-none : overridden overrides_object (the_method 4 0) ≡ []
an-absent-superclass-has-none = refl

none-of-object-itself : overridden overrides_object (the_method 5 0) ≡ []
none-of-object-itself = refl

object-has-no-supertype : supers of_object (the_type 1) ≡ []
object-has-no-supertype = refl

-- A default constructor has its place after the methods, and the access of its class: `public class A{void f(){}}`.
abbrev default_one : Env
default_one = document (codes "A.java") [] [] (with_modifiers 33 (method 0 (codes "f") [] (class (codes "A"))) ∷ interface (codes "I") ∷ []) ∷ []

the-default-constructor : constructors default_one (the_type 0) ≡ the_method 0 1 ∷ []
the-default-constructor = refl

its-access : option_map (λ i. i.modifiers) (method_info default_one (the_method 0 1)) ≡ Some 32
its-access = refl

an-interface-has-no-constructor : constructors default_one (the_type 1) ≡ []
an-interface-has-no-constructor = refl

nor-has-an-undeclared-class : constructors default_one (string default_one) ≡ []
nor-has-an-undeclared-class = refl

-- A private constructor is accessible in the same top level type, a protected one of another package in a subclass.
abbrev access : Env
access =
    document (codes "p/A.java") (named (codes "p")) []
    (constructor 16 (codes "int" ∷ []) (constructor 8 [] (class (codes "A"))) ∷ within 0 (class (codes "B")) ∷ [])
    ∷ document (codes "q/C.java") (named (codes "q")) [] (extends (codes "p.A") (class (codes "C")) ∷ class (codes "D") ∷ [])
    ∷ []

in-the-same-top-level-type : is_accessible access (the_type 1 ∷ the_type 0 ∷ []) (codes "p") (the_method 0 0) ≡ true
in-the-same-top-level-type = refl

not-in-a-subclass : is_accessible access (the_type 2 ∷ []) (codes "q") (the_method 0 0) ≡ false
not-in-a-subclass = refl

protected-in-a-subclass : is_accessible access (the_type 2 ∷ []) (codes "q") (the_method 0 1) ≡ true
protected-in-a-subclass = refl

not-in-another-class : is_accessible access (the_type 3 ∷ []) (codes "q") (the_method 0 1) ≡ false
not-in-another-class = refl
