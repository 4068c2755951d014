-- What laws on occurrences say.
use Rattle.std.specs.Prelude.{◌≡◌, ℕ, Bool, true, false, Some, length, option_map}
use Rattle.java_tree.specs.declared.names.Ident.{Ident}
use Rattle.java_tree.specs.declared.occurrence.FieldId.{FieldId}
use Rattle.java_tree.specs.declared.occurrence.MethodId.{MethodId}
use Rattle.java_tree.specs.declared.occurrence.Binding.{Binding}
use Rattle.java_tree.specs.declared.occurrence.Binding.TheVariants.{Method}
use Rattle.java_tree.specs.declared.occurrence.Binding.TheVariants as bindings
use Rattle.java_tree.specs.declared.occurrence.OccKind.{OccKind}
use Rattle.java_tree.specs.declared.occurrence.OccKind.TheVariants as occurs
use Rattle.java_tree.specs.declared.occurrence.Occurrence.{Occurrence}
use Rattle.java_tree.specs.declared.occurrence.TypeId.{TypeId}
use Rattle.java_tree.specs.declared.outline.OutlineField.{OutlineField}
use Rattle.java_tree.specs.declared.outline.OutlineMethod.{OutlineMethod}
use Rattle.java_tree.specs.declared.unit.TypeDecl.{TypeDecl}
use Rattle.java_model.specs.Scopes.Contexts.{Context, numbered_id}
use Rattle.java_model.specs.Occurrences.Declarations.{simple_name}
use Rattle.java_model.specs.Names.Lists.{Identifier}
use Rattle.java_model.specs.Names.Environments.{Declared, Env, declared_at, name_at}
use Rattle.java_model.specs.Names.Fields.{field_at}
use Rattle.java_model.specs.Names.Methods.{method_at, method_name, params}

-- what the occurrence of a declared name is bound to has that name, and stands there
pub record FieldDeclared (env : Env) (i : Ident) (f : FieldId) : Type 0 where
  pub field : OutlineField
  pub at : field_at env f ≡ Some field
  pub name : field.name ≡ i.name
  pub span : field.span ≡ i.span

pub record MethodDeclared (env : Env) (i : Ident) (parameters : ℕ) (m : MethodId) : Type 0 where
  pub method : OutlineMethod
  pub at : method_at env m ≡ Some method
  pub name : method.name ≡ i.name
  pub span : method.span ≡ i.span
  pub as_many : length method.params ≡ parameters

-- a type of a unit is declared under its number, with its simple name
pub record TypeDeclared (C : Context) (number : ℕ) (t : TypeDecl) : Type 0 where
  pub type : Declared
  pub at : declared_at C.env (numbered_id C number) ≡ Some type
  pub name : type.type.name ≡ simple_name t.head

abbrev pub is_call : OccKind → Bool
is_call occurs.MethodRef = true
is_call occurs.CtorRef = true
is_call _ = false

-- what a call or a creation is bound to has as many parameters as there are arguments
abbrev pub IsCounted : Env → Occurrence → Type 0
IsCounted env o = (m : MethodId) → is_call o.kind ≡ true → o.binding ≡ Method m → length (params env m) ≡ o.count

-- a declared type of this simple name
abbrev pub Called : Env → Identifier → TypeId → Type 0
Called env name t = name_at env t ≡ Some name

-- what an occurrence refers to has the name that is spelled there, for each kind of reference but that to a constructor
abbrev pub ClassNamed : Env → Identifier → Binding → Type 0
ClassNamed env name (bindings.Class t) = Called env name t
ClassNamed env name _ = Unit {0}

abbrev pub FieldNamed : Env → Identifier → Binding → Type 0
FieldNamed env name (bindings.Field f) = option_map (λ o. o.name) (field_at env f) ≡ Some name
FieldNamed env name _ = Unit {0}

abbrev pub MethodNamed : Env → Identifier → Binding → Type 0
MethodNamed env name (bindings.Method m) = method_name env m ≡ name
MethodNamed env name _ = Unit {0}

abbrev pub Refers : Env → Identifier → OccKind → Binding → Type 0
Refers env name occurs.TypeRef binding = ClassNamed env name binding
Refers env name occurs.Super binding = ClassNamed env name binding
Refers env name occurs.FieldRef binding = FieldNamed env name binding
Refers env name occurs.MethodRef binding = MethodNamed env name binding
Refers env name _ binding = Unit {0}

abbrev pub IsNamed : Env → Occurrence → Type 0
IsNamed env o = Refers env o.name o.kind o.binding
