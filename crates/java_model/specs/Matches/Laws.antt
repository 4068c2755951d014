-- Laws of searches.
use Rattle.std.specs.Prelude.{◌≡◌, ◌<◌, ◌^◌, ◌==◌, ℕ, true, false, List, [], ◌∷◌, Option, Some, None, length, option_map}
use Rattle.std.specs.List.{list_any}
use Rattle.std.specs.Str.{byte}
use Rattle.java_tree.specs.declared.key.Category.TheVariants as categories
use Rattle.java_tree.specs.declared.key.Key.{Key}
use Rattle.java_tree.specs.declared.occurrence.Binding.{Binding}
use Rattle.java_tree.specs.declared.occurrence.Binding.TheVariants as bindings
use Rattle.java_tree.specs.declared.occurrence.FieldId.{FieldId}
use Rattle.java_tree.specs.declared.occurrence.MethodId.{MethodId}
use Rattle.java_tree.specs.declared.occurrence.OccKind.{OccKind}
use Rattle.java_tree.specs.declared.occurrence.OccKind.TheVariants as occ
use Rattle.java_tree.specs.declared.occurrence.Occurrence.{Occurrence}
use Rattle.java_tree.specs.declared.occurrence.TypeId.{TypeId}
use Rattle.java_model.specs.Names.Lists.{Identifier}
use Rattle.java_model.specs.Names.Environments.{Env, Declared, declared_at, name_at}
use Rattle.java_model.specs.Names.Fields.{field_at}
use Rattle.java_model.specs.Names.Methods.{method_name, params}
use Rattle.java_model.specs.SearchPattern.Parts.{Pattern}
use Rattle.java_model.specs.Matches.Fits.{fits}
use Rattle.java_model.specs.Matches.Admits.{key_qualification, admits}
use Rattle.java_model.specs.Matches.TypePatterns.{qualification_of}
use Rattle.java_model.specs.Matches.Keys.{key_of, counted}

-- the key of a reference, by what it spells
abbrev pub reference_key : OccKind → List ℕ → ℕ → Option Key
reference_key occ.TypeRef name count = Some (key_of categories.Ref (name ∷ []))
reference_key occ.NameRef name count = Some (key_of categories.Ref (name ∷ []))
reference_key occ.FieldRef name count = Some (key_of categories.Ref (name ∷ []))
reference_key occ.MethodRef name count = Some (counted categories.MethodRef name count)
reference_key occ.CtorRef name count = Some (counted categories.ConstructorRef name count)
reference_key _ name count = None

-- What is bound has the name that is spelled there, and a method or constructor a parameter for each argument.
abbrev pub CallIsSpelled : (MethodId → Option Identifier) → Env → Occurrence → Binding → Type 0
CallIsSpelled name env o (bindings.Method m) = (name m ≡ Some o.name) × (length (params env m) ≡ o.count)
CallIsSpelled name env o bindings.Nothing = Unit {0}
CallIsSpelled name env o _ = ⊥

abbrev pub NameIsSpelled : Env → Occurrence → Binding → Type 0
NameIsSpelled env o (bindings.Package name) = name ≡ o.name
NameIsSpelled env o (bindings.Class t) = name_at env t ≡ Some o.name
NameIsSpelled env o (bindings.Field f) = option_map (λ x. x.name) (field_at env f) ≡ Some o.name
NameIsSpelled env o _ = Unit {0}

abbrev pub IsSpelled : Env → Occurrence → OccKind → Binding → Type 0
IsSpelled env o occ.MethodRef = CallIsSpelled (λ m. Some (method_name env m)) env o
IsSpelled env o occ.CtorRef = CallIsSpelled (λ m. name_at env m.of) env o
IsSpelled env o _ = NameIsSpelled env o

-- no separator of fields stands in it
abbrev pub IsField : List ℕ → Type 0
IsField text = list_any (λ b. b == byte "/") text ≡ false

-- A pattern that a reference fits asks for its key. An identifier has no `/`.
abbrev pub FittingReferencesAreAdmitted : Type 0
FittingReferencesAreAdmitted = (env : Env) (p : Pattern) (o : Occurrence) (key : Key)
    → reference_key o.kind o.name o.count ≡ Some key
    → IsSpelled env o o.kind o.binding
    → IsField o.name
    → o.count < 2 ^ 64
    → fits env p o ≡ true
    → admits p key.category key.text ≡ true

-- the key of a declaration, or of a supertype, that is bound to what it declares or names
pub data IsDeclarationKey (env : Env) (o : Occurrence) (key : Key) : Type 0 where
  of_package : (name : List ℕ) → o.kind ≡ occ.PackageDecl → o.binding ≡ bindings.Package name
      → key ≡ key_of categories.PackageDecl (name ∷ []) → IsDeclarationKey env o key
  of_type : (t : TypeId) (d : Declared) (qualification kind : List ℕ) → o.kind ≡ occ.TypeDecl → o.binding ≡ bindings.Class t
      → declared_at env t ≡ Some d → key_qualification qualification kind ≡ qualification_of d
      → IsField d.type.name → IsField qualification → IsField kind
      → key ≡ key_of categories.TypeDecl (d.type.name ∷ qualification ∷ kind ∷ []) → IsDeclarationKey env o key
  of_method : (m : MethodId) → o.kind ≡ occ.MethodDecl → o.binding ≡ bindings.Method m
      → IsField (method_name env m) → length (params env m) < 2 ^ 64
      → key ≡ counted categories.MethodDecl (method_name env m) (length (params env m)) → IsDeclarationKey env o key
  of_constructor : (m : MethodId) (name : List ℕ) → o.kind ≡ occ.CtorDecl → o.binding ≡ bindings.Method m → name_at env m.of ≡ Some name
      → IsField name → length (params env m) < 2 ^ 64
      → key ≡ counted categories.ConstructorDecl name (length (params env m)) → IsDeclarationKey env o key
  of_field : (f : FieldId) (name : List ℕ) → o.kind ≡ occ.FieldDecl → o.binding ≡ bindings.Field f
      → option_map (λ x. x.name) (field_at env f) ≡ Some name → IsField name
      → key ≡ key_of categories.FieldDecl (name ∷ []) → IsDeclarationKey env o key
  of_super : (next : List ℕ) (more : List (List ℕ)) → o.kind ≡ occ.Super → NameIsSpelled env o o.binding → IsField o.name
      → key ≡ key_of categories.SuperRef (o.name ∷ next ∷ more) → IsDeclarationKey env o key

-- A pattern that a declaration or a supertype fits asks for its key.
abbrev pub FittingDeclarationsAreAdmitted : Type 0
FittingDeclarationsAreAdmitted = (env : Env) (p : Pattern) (o : Occurrence) (key : Key)
    → IsDeclarationKey env o key → fits env p o ≡ true → admits p key.category key.text ≡ true
