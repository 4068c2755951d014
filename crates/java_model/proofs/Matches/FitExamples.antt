-- What fits a pattern, and which keys it asks for.
use Rattle.std.proofs.Common.{◌≡◌, ℕ, Bool, true, false, List, [], ◌∷◌, Result, Ok, Err, codes, refl}
use Rattle.std.specs.Str.{chars}
use Rattle.std.specs.Fmt.{digits}
use Rattle.java_tree.specs.declared.key.Category.TheVariants as categories
use Rattle.java_tree.specs.declared.occurrence.Access.{Access}
use Rattle.java_tree.specs.declared.occurrence.Access.TheVariants as accesses
use Rattle.java_tree.specs.declared.occurrence.Accuracy.TheVariants as accuracies
use Rattle.java_tree.specs.declared.occurrence.Binding.{Binding}
use Rattle.java_tree.specs.declared.occurrence.Binding.TheVariants as bindings
use Rattle.java_tree.specs.declared.occurrence.OccKind.{OccKind}
use Rattle.java_tree.specs.declared.occurrence.OccKind.TheVariants as occ
use Rattle.java_tree.specs.declared.occurrence.Occurrence.{Occurrence}
use Rattle.java_tree.specs.declared.search.Limit.{Limit}
use Rattle.java_tree.specs.declared.search.Limit.TheVariants as limits
use Rattle.java_tree.specs.declared.search.Rule.{Rule}
use Rattle.java_tree.specs.declared.search.Rule.TheVariants.{Exact, Prefix, Wild}
use Rattle.java_tree.specs.declared.search.What.{What}
use Rattle.java_tree.specs.declared.search.What.TheVariants as whats
use Rattle.java_model.specs.Names.Environments.{Env}
use Rattle.java_model.specs.SearchPattern.Parts.{Pattern, PatternFault, pattern_of}
use Rattle.java_model.specs.Matches.Fits.{fits}
use Rattle.java_model.specs.Matches.Admits.{admits}
use Rattle.java_model.proofs.Names.Building.{named, class, anonymous, extends, within, local, field, method, import, document, the_type, the_field, the_method, no_span}

-- an occurrence that is bound, and one that isn't
abbrev bound : OccKind → Binding → List ℕ → ℕ → Access → Occurrence
bound kind binding name count how =
    record { kind = kind; span = no_span; name = name; count = count; binding = binding; accuracy = accuracies.Accurate; access = how }

abbrev unbound : OccKind → List ℕ → ℕ → Access → Occurrence
unbound kind name count how =
    record { kind = kind; span = no_span; name = name; count = count; binding = bindings.Nothing; accuracy = accuracies.Inaccurate; access = how }

-- a pattern by its text, read with `case`
abbrev is_found : Env → Occurrence → Result Pattern PatternFault → Bool
is_found env o (Ok p) = fits env p o
is_found env o (Err fault) = false

abbrev finds : Env → What → Limit → Rule → List ℕ → Occurrence → Bool
finds env what limit rule text o = is_found env o (pattern_of what limit rule true text)

abbrev is_admitted : List ℕ → Result Pattern PatternFault → (Pattern → Bool) → Bool
is_admitted key (Ok p) test = test p
is_admitted key (Err fault) test = false

-- `class A{void f(){}}class B extends A{void f(){}void g(B b){b.f();}}`
abbrev overriding : Env
overriding =
    document (codes "A.java") [] []
    (method 0 (codes "f") [] (class (codes "A"))
    ∷ method 0 (codes "g") (codes "B" ∷ []) (method 0 (codes "f") [] (extends (codes "A") (class (codes "B")))) ∷ [])
    ∷ []

abbrev call : Occurrence
call = bound occ.MethodRef (bindings.Method (the_method 1 0)) (codes "f") 0 accesses.NoAccess

of-the-overridden-method : finds overriding whats.Method limits.References Exact (codes "A.f()") call ≡ true
of-the-overridden-method = refl

of-the-method-itself : finds overriding whats.Method limits.References Exact (codes "B.f()") call ≡ true
of-the-method-itself = refl

of-other-parameters : finds overriding whats.Method limits.References Exact (codes "f(int)") call ≡ false
of-other-parameters = refl

-- a declaration is one of itself alone
a-declaration : finds overriding whats.Method limits.Declarations Exact (codes "A.f()") (bound occ.MethodDecl (bindings.Method (the_method 1 0)) (codes "f") 0 accesses.NoAccess) ≡ false
a-declaration = refl

-- `package p;class A{}`, `package q;import p.A;class B extends A{}`
abbrev two_packages : Env
two_packages =
    document (codes "p/A.java") (named (codes "p")) [] (class (codes "A") ∷ [])
    ∷ document (codes "q/B.java") (named (codes "q")) (import (codes "p.A") ∷ []) (extends (codes "A") (class (codes "B")) ∷ [])
    ∷ []

a-reference : finds two_packages whats.Class limits.References Exact (codes "p.A") (bound occ.TypeRef (bindings.Class (the_type 0)) (codes "A") 0 accesses.NoAccess) ≡ true
a-reference = refl

an-implementor : finds two_packages whats.Class limits.Implementors Exact (codes "p.A") (bound occ.Super (bindings.Class (the_type 0)) (codes "A") 0 accesses.NoAccess) ≡ true
an-implementor = refl

a-package : finds two_packages whats.Package limits.References Exact (codes "p") (bound occ.PackageRef (bindings.Package (codes "p")) (codes "p") 0 accesses.NoAccess) ≡ true
a-package = refl

not-of-another-package : finds two_packages whats.Class limits.References Exact (codes "q.A") (bound occ.TypeRef (bindings.Class (the_type 0)) (codes "A") 0 accesses.NoAccess) ≡ false
not-of-another-package = refl

-- what isn't bound fits by its simple name, whatever the qualification, and by its count of arguments
unbound-fits-by-its-name : finds two_packages whats.Class limits.References Exact (codes "x.y.T") (unbound occ.TypeRef (codes "T") 0 accesses.NoAccess) ≡ true
unbound-fits-by-its-name = refl

unbound-of-another-count : finds two_packages whats.Method limits.References Exact (codes "f(int,int)") (unbound occ.MethodRef (codes "f") 1 accesses.NoAccess) ≡ false
unbound-of-another-count = refl

-- a name that is bound to nothing is of a type or a field, and reads
a-name-as-a-type : finds two_packages whats.Class limits.References Exact (codes "n") (unbound occ.NameRef (codes "n") 0 accesses.Read) ≡ true
a-name-as-a-type = refl

a-name-is-read : finds two_packages whats.Field limits.Reads Exact (codes "n") (unbound occ.NameRef (codes "n") 0 accesses.Read) ≡ true
a-name-is-read = refl

a-name-is-not-written : finds two_packages whats.Field limits.Writes Exact (codes "n") (unbound occ.NameRef (codes "n") 0 accesses.Read) ≡ false
a-name-is-not-written = refl

-- `class A{int x;void f(A a){}}class B{void g(){class L{int y;}new A(){void h(){}};}}`
abbrev members : Env
members =
    document (codes "A.java") [] []
    (method 0 (codes "f") (codes "A" ∷ []) (field 0 (codes "int") (codes "x") (class (codes "A")))
    ∷ method 0 (codes "g") [] (class (codes "B")) ∷ field 0 (codes "int") (codes "y") (local [] (within 1 (class (codes "L"))))
    ∷ method 0 (codes "h") [] (within 1 (anonymous (codes "A"))) ∷ [])
    ∷ []

-- `class A{int x;}class B extends A{int x;..}`: a read of one isn't a read of the other
abbrev hiding : Env
hiding =
    document (codes "A.java") [] []
    (field 0 (codes "int") (codes "x") (class (codes "A")) ∷ field 0 (codes "int") (codes "x") (extends (codes "A") (class (codes "B"))) ∷ [])
    ∷ []

abbrev read_of_b : Occurrence
read_of_b = bound occ.FieldRef (bindings.Field (the_field 1 0)) (codes "x") 0 accesses.Read

the-field-of-b : finds hiding whats.Field limits.References Exact (codes "B.x") read_of_b ≡ true
the-field-of-b = refl

not-the-field-of-a : finds hiding whats.Field limits.References Exact (codes "A.x") read_of_b ≡ false
not-the-field-of-a = refl

-- the constructor that `class B extends A {}` invokes without a word is the default one of A
a-default-constructor : finds hiding whats.Constructor limits.References Exact (codes "A()") (bound occ.CtorRef (bindings.Method (the_method 0 0)) (codes "A") 0 accesses.NoAccess) ≡ true
a-default-constructor = refl

an-update-is-read : finds members whats.Field limits.Reads Exact (codes "A.x") (bound occ.FieldRef (bindings.Field (the_field 0 0)) (codes "x") 0 accesses.Update) ≡ true
an-update-is-read = refl

an-update-is-written : finds members whats.Field limits.Writes Exact (codes "x") (bound occ.FieldRef (bindings.Field (the_field 0 0)) (codes "x") 0 accesses.Update) ≡ true
an-update-is-written = refl

-- An empty qualification is that of a type of the unnamed package, and fits no local type.
abbrev of_f : Occurrence
of_f = bound occ.MethodDecl (bindings.Method (the_method 0 0)) (codes "f") 0 accesses.NoAccess

an-empty-qualification : finds members whats.Method limits.Declarations Exact (codes "f(.A)") of_f ≡ true
an-empty-qualification = refl

abbrev of_y : Occurrence
of_y = bound occ.FieldDecl (bindings.Field (the_field 2 0)) (codes "y") 0 accesses.NoAccess

a-local-type : finds members whats.Field limits.Declarations Exact (codes "L.y") of_y ≡ true
a-local-type = refl

a-local-type-has-none : finds members whats.Field limits.Declarations Exact (codes "B.L.y") of_y ≡ false
a-local-type-has-none = refl

a-local-type-has-not-the-empty-one : finds members whats.Field limits.Declarations Wild (codes ".L.y") of_y ≡ false
unfolding chars
a-local-type-has-not-the-empty-one = refl

-- `*` as a declaring type fits an anonymous class, and a name that is empty none.
abbrev of_h : Occurrence
of_h = bound occ.MethodDecl (bindings.Method (the_method 3 0)) (codes "h") 0 accesses.NoAccess

a-star-fits-anonymous-classes : finds members whats.Method limits.Declarations Wild (codes "*.h") of_h ≡ true
unfolding chars
a-star-fits-anonymous-classes = refl

no-type-has-an-empty-name : finds members whats.Method limits.Declarations Wild (codes "A..h") of_h ≡ false
unfolding chars
no-type-has-an-empty-name = refl

-- keys
abbrev asks_for : What → Limit → Rule → Bool → List ℕ → (Pattern → Bool) → Bool
asks_for what limit rule case text test = is_admitted [] (pattern_of what limit rule case text) test

a-reference-to-a-package : asks_for whats.Package limits.References Exact true (codes "java.util") (λ p. admits p categories.Ref (codes "util")) ≡ true
a-reference-to-a-package = refl

any-reference : asks_for whats.Package limits.References Prefix true (codes "java.util") (λ p. admits p categories.Ref (codes "x")) ≡ true
any-reference = refl

a-method-of-one-parameter : asks_for whats.Method limits.References Exact true (codes "f(int)") (λ p. admits p categories.MethodRef (codes "f/1")) ≡ true
unfolding digits
a-method-of-one-parameter = refl

not-of-two : asks_for whats.Method limits.References Exact true (codes "f(int)") (λ p. admits p categories.MethodRef (codes "f/2")) ≡ false
unfolding digits
not-of-two = refl

a-type-by-its-qualification : asks_for whats.Class limits.Declarations Exact true (codes "util.A") (λ p. admits p categories.TypeDecl (codes "A/java.util/c")) ≡ true
a-type-by-its-qualification = refl

not-a-local-one : asks_for whats.Class limits.Declarations Exact true (codes "util.A") (λ p. admits p categories.TypeDecl (codes "A//l")) ≡ false
not-a-local-one = refl

a-subtype : asks_for whats.Class limits.Implementors Exact true (codes "p.A") (λ p. admits p categories.SuperRef (codes "A/B/q/e")) ≡ true
a-subtype = refl
