-- That a document has the keys of its occurrences, and so one that a pattern admits which an occurrence fits.
use Rattle.std.specs.Prelude.{◌≡◌, ℕ, Bool, true, false, List, [], ◌∷◌, Some, Contains}
use Rattle.std.specs.List.{AllByRecursion}
use Rattle.java_tree.specs.declared.key.Category.TheVariants as categories
use Rattle.java_tree.specs.declared.key.Key.{Key}
use Rattle.java_tree.specs.declared.occurrence.Binding.{Binding}
use Rattle.java_tree.specs.declared.occurrence.Binding.TheVariants as bindings
use Rattle.java_tree.specs.declared.occurrence.OccKind.{OccKind}
use Rattle.java_tree.specs.declared.occurrence.OccKind.TheVariants as occ
use Rattle.java_tree.specs.declared.occurrence.Occurrence.{Occurrence}
use Rattle.java_tree.specs.declared.unit.Unit.{Unit as CompilationUnit}
use Rattle.java_model.specs.Names.Lists.{Identifier, Identifiers, with_dots}
use Rattle.java_model.specs.Scopes.Contexts.{Context}
use Rattle.java_model.specs.Occurrences.Occurrences.{Occurrences}
use Rattle.java_model.specs.Matches.Keys.{key_of, HasKey}
use Rattle.java_model.specs.Matches.Laws.{reference_key}

-- the key of a reference by one identifier
abbrev pub ref_key : Identifier → Key
ref_key name = key_of categories.Ref (name ∷ [])

-- a package's name, whose identifiers are keys
pub record IsPackageOf (Has : Key → Type 0) (name : List ℕ) : Type 0 where
  pub first : Identifier
  pub rest : Identifiers
  pub is : name ≡ with_dots (first ∷ rest)
  pub each : AllByRecursion (λ x. Has (ref_key x)) (first ∷ rest)

-- the keys of a reference are among these
pub record IsKeyed (Has : Key → Type 0) (o : Occurrence) : Type 0 where
  pub referred : (key : Key) → reference_key o.kind o.name o.count ≡ Some key → Has key
  pub packaged : o.kind ≡ occ.PackageRef → IsPackageOf Has o.name

-- A unit has the keys of its references.
abbrev pub ReferencesHaveKeys : Type 0
ReferencesHaveKeys = (C : Context) (u : CompilationUnit) (os : List Occurrence) → C.types ≡ u.types → Occurrences C u os
    → (o : Occurrence) → Contains os o → IsKeyed (HasKey u) o

-- what an occurrence of a kind may be bound to
abbrev pub names_package : OccKind → Bool
names_package occ.PackageDecl = true
names_package occ.PackageRef = true
names_package _ = false

abbrev pub names_type : OccKind → Bool
names_type occ.TypeDecl = true
names_type occ.TypeRef = true
names_type occ.Super = true
names_type _ = false

abbrev pub names_method : OccKind → Bool
names_method occ.MethodDecl = true
names_method occ.MethodRef = true
names_method occ.CtorDecl = true
names_method occ.CtorRef = true
names_method _ = false

abbrev pub names_field : OccKind → Bool
names_field occ.FieldDecl = true
names_field occ.FieldRef = true
names_field _ = false

-- a package by its name, a type, a field, a method or constructor, or nothing
abbrev pub IsOfKind : OccKind → List ℕ → Binding → Type 0
IsOfKind kind name (bindings.Package q) = (names_package kind ≡ true) × (q ≡ name)
IsOfKind kind name (bindings.Class t) = names_type kind ≡ true
IsOfKind kind name (bindings.Field f) = names_field kind ≡ true
IsOfKind kind name (bindings.Method m) = names_method kind ≡ true
IsOfKind kind name bindings.Nothing = Unit {0}

-- What an occurrence is bound to is of its kind.
abbrev pub BindingsAreOfTheirKind : Type 0
BindingsAreOfTheirKind = (C : Context) (u : CompilationUnit) (os : List Occurrence) → C.types ≡ u.types → Occurrences C u os
    → (o : Occurrence) → Contains os o → IsOfKind o.kind o.name o.binding
