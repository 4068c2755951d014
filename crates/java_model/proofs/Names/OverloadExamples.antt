-- Conversions and the choice of overloads.
use Rattle.std.proofs.Common.{◌≡◌, true, false, List, [], ◌∷◌, codes, refl}
use Rattle.java_tree.specs.declared.names.Primitive.TheVariants as primitives
use Rattle.java_tree.specs.declared.types.ArrayElement.TheVariants as elements
use Rattle.java_tree.specs.declared.types.Choice.{Choice}
use Rattle.java_tree.specs.declared.types.Choice.TheVariants as choices
use Rattle.java_tree.specs.declared.types.JType.{JType}
use Rattle.java_tree.specs.declared.types.JType.TheVariants as types
use Rattle.java_model.specs.Names.Environments.{Env, object, string}
use Rattle.java_model.specs.Names.Conversions.{converts}
use Rattle.java_model.specs.Names.Methods.{methods}
use Rattle.java_model.specs.Names.Overloads.{choose}
use Rattle.java_model.proofs.Names.Building.{named, class, interface, extends, implements, method, document, the_type, the_method}

abbrev int : JType
int = types.Primitive primitives.Int

-- the choice among the methods `f` of the first type
abbrev choice : Env → List JType → Choice
choice env args = choose env (methods env (the_type 0) (codes "f")) args

-- `class A{void f(long a){}void f(Object a){}void f(String a){}}`
abbrev three : Env
three =
    document (codes "A.java") [] []
    (method 0 (codes "f") (codes "String" ∷ []) (method 0 (codes "f") (codes "Object" ∷ []) (method 0 (codes "f") (codes "long" ∷ []) (class (codes "A")))) ∷ [])
    ∷ []

null-is-a-string : choice three (types.Null ∷ []) ≡ choices.One (the_method 0 2)
null-is-a-string = refl

an-int-is-a-long : choice three (int ∷ []) ≡ choices.One (the_method 0 0)
an-int-is-a-long = refl

a-boolean-is-none : choice three (types.Primitive primitives.Boolean ∷ []) ≡ choices.NoMethod
a-boolean-is-none = refl

-- an argument of a type that isn't known, and one of a type that no document declares
unknown-arguments : choice three (types.Unknown ∷ []) ≡ choices.UnknownArgs
unknown-arguments = refl

an-absent-argument : choice three (types.Absent (named (codes "T")) ∷ []) ≡ choices.One (the_method 0 2)
an-absent-argument = refl

-- the same with `void f(A a){}`
abbrev four : Env
four =
    document (codes "A.java") [] []
    (method 0 (codes "f") (codes "A" ∷ [])
    (method 0 (codes "f") (codes "String" ∷ []) (method 0 (codes "f") (codes "Object" ∷ []) (method 0 (codes "f") (codes "long" ∷ []) (class (codes "A"))))) ∷ [])
    ∷ []

null-is-ambiguous : choice four (types.Null ∷ []) ≡ choices.Ambiguous (the_method 0 2 ∷ the_method 0 3 ∷ [])
null-is-ambiguous = refl

-- `abstract class A extends B implements I,J{abstract void f(Object a);}class C extends B implements I,J{}`, where B, I
-- and J have `void f(Object a)` too
abbrev of_one_signature : Env
of_one_signature =
    document (codes "A.java") [] []
    (method 1 (codes "f") (codes "Object" ∷ []) (implements (codes "J") (implements (codes "I") (extends (codes "B") (class (codes "A")))))
    ∷ method 0 (codes "f") (codes "Object" ∷ []) (interface (codes "I")) ∷ method 0 (codes "f") (codes "Object" ∷ []) (interface (codes "J"))
    ∷ method 0 (codes "f") (codes "Object" ∷ []) (class (codes "B"))
    ∷ implements (codes "J") (implements (codes "I") (extends (codes "B") (class (codes "C")))) ∷ [])
    ∷ []

its-own-alone : methods of_one_signature (the_type 0) (codes "f") ≡ the_method 0 0 ∷ []
its-own-alone = refl

three-are-members : methods of_one_signature (the_type 4) (codes "f") ≡ the_method 1 0 ∷ the_method 2 0 ∷ the_method 3 0 ∷ []
three-are-members = refl

-- The types of I, J and B don't convert to one another, so all three are maximal; the first that isn't abstract counts.
the-one-with-a-body : choose of_one_signature (methods of_one_signature (the_type 4) (codes "f")) (types.Null ∷ []) ≡ choices.One (the_method 3 0)
the-one-with-a-body = refl

-- `class A{void f(int a){}void f(int b){}}`
abbrev twice : Env
twice =
    document (codes "A.java") [] [] (method 0 (codes "f") (codes "int" ∷ []) (method 0 (codes "f") (codes "int" ∷ []) (class (codes "A"))) ∷ []) ∷ []

the-first-counts : choice twice (int ∷ []) ≡ choices.One (the_method 0 0)
the-first-counts = refl

-- In a ring of three with an absent X none is maximal:
-- `class A{void f(S a,A b,X c){}void f(A a,X b,S c){}void f(X a,S b,A c){}}class S extends A{}`.
abbrev ring : Env
ring =
    document (codes "A.java") [] []
    (method 0 (codes "f") (codes "X" ∷ codes "S" ∷ codes "A" ∷ [])
    (method 0 (codes "f") (codes "A" ∷ codes "X" ∷ codes "S" ∷ [])
    (method 0 (codes "f") (codes "S" ∷ codes "A" ∷ codes "X" ∷ []) (class (codes "A"))))
    ∷ extends (codes "A") (class (codes "S")) ∷ [])
    ∷ []

none-is-maximal : choice ring (types.Null ∷ types.Null ∷ types.Null ∷ []) ≡ choices.Ambiguous []
none-is-maximal = refl

-- A class with an absent supertype converts to no unrelated class: `class A extends X{}class B{}`.
abbrev absent_super : Env
absent_super = document (codes "A.java") [] [] (extends (codes "X") (class (codes "A")) ∷ class (codes "B") ∷ []) ∷ []

to-no-unrelated-class : converts absent_super (types.Class (the_type 0)) (types.Class (the_type 1)) ≡ false
to-no-unrelated-class = refl

to-an-absent-one : converts absent_super (types.Class (the_type 1)) (types.Absent (named (codes "X"))) ≡ true
to-an-absent-one = refl

to-object : converts absent_super (types.Class (the_type 0)) (types.Class (object absent_super)) ≡ true
to-object = refl

-- arrays
an-array-is-an-object : converts absent_super (types.Array (elements.Primitive primitives.Int) 1) (types.Class (object absent_super)) ≡ true
an-array-is-an-object = refl

arrays-of-arrays-are-arrays-of-objects :
    converts absent_super (types.Array (elements.Primitive primitives.Int) 2) (types.Array (elements.Class (object absent_super)) 1) ≡ true
arrays-of-arrays-are-arrays-of-objects = refl

ints-are-no-objects : converts absent_super (types.Array (elements.Primitive primitives.Int) 1) (types.Array (elements.Class (object absent_super)) 1) ≡ false
ints-are-no-objects = refl

ints-are-no-longs : converts absent_super (types.Array (elements.Primitive primitives.Int) 1) (types.Array (elements.Primitive primitives.Long) 1) ≡ false
ints-are-no-longs = refl

null-is-no-int : converts absent_super types.Null int ≡ false
null-is-no-int = refl

a-string-is-an-object : converts absent_super (types.Class (string absent_super)) (types.Class (object absent_super)) ≡ true
a-string-is-an-object = refl
