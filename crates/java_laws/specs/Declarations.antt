-- That the occurrence of a declared name is bound to its own declaration.
use Rattle.std.specs.Prelude.{◌≡◌, ℕ, Some, length, slice_get, Contains}
use Rattle.java_tree.specs.declared.occurrence.Binding.{Binding}
use Rattle.java_tree.specs.declared.occurrence.Binding.TheVariants as bindings
use Rattle.java_tree.specs.declared.occurrence.FieldId.{FieldId}
use Rattle.java_tree.specs.declared.occurrence.MethodId.{MethodId}
use Rattle.java_tree.specs.declared.stmt.Variable.{Variable}
use Rattle.java_tree.specs.declared.types.DocPath.{DocPath}
use Rattle.java_tree.specs.declared.unit.Constructor.{Constructor}
use Rattle.java_tree.specs.declared.unit.Fields.{Fields}
use Rattle.java_tree.specs.declared.unit.Member.TheVariants as members
use Rattle.java_tree.specs.declared.unit.Method.{Method}
use Rattle.java_tree.specs.declared.unit.TypeDecl.{TypeDecl}
use Rattle.java_tree.specs.declared.unit.Unit.{Unit as CompilationUnit}
use Rattle.java_model.specs.Outlines.{IsOutline}
use Rattle.java_model.specs.Names.Environments.{Env}
use Rattle.java_model.specs.Scopes.Contexts.{Context, context_of, numbered_id}
use Rattle.java_model.specs.Occurrences.Declarations.{field_declaration, method_declaration, constructor_declaration}

-- a unit in an environment that has its outline
pub record IsContext (u : CompilationUnit) (C : Context) : Type 0 where
  pub env : Env
  pub path : DocPath
  pub of_env : context_of env path u ≡ Some C
  pub outlined : IsOutline u C.outline

-- bound to a field, or to a method or constructor, of a type of the unit
pub record IsFieldOf (C : Context) (number : ℕ) (b : Binding) : Type 0 where
  pub field : FieldId
  pub is : b ≡ bindings.Field field
  pub of : field.of ≡ numbered_id C number

pub record IsMethodOf (C : Context) (number : ℕ) (b : Binding) : Type 0 where
  pub method : MethodId
  pub is : b ≡ bindings.Method method
  pub of : method.of ≡ numbered_id C number

-- A declared field is bound (JLS 8.3, 9.3), and so is a declared method (JLS 8.4, 9.4) and a declared constructor (JLS 8.8).
abbrev pub FieldsAreBound : Type 0
FieldsAreBound = (u : CompilationUnit) (C : Context) → IsContext u C → (number : ℕ) (t : TypeDecl) (f : Fields) (v : Variable)
    → slice_get u.types number ≡ Some t → Contains t.members (members.Field f) → Contains f.variables v
    → IsFieldOf C number (field_declaration C number v.name).binding

abbrev pub MethodsAreBound : Type 0
MethodsAreBound = (u : CompilationUnit) (C : Context) → IsContext u C → (number : ℕ) (t : TypeDecl) (m : Method)
    → slice_get u.types number ≡ Some t → Contains t.members (members.Method m)
    → IsMethodOf C number (method_declaration C number m.name (length m.parameters)).binding

abbrev pub ConstructorsAreBound : Type 0
ConstructorsAreBound = (u : CompilationUnit) (C : Context) → IsContext u C → (number : ℕ) (t : TypeDecl) (c : Constructor)
    → slice_get u.types number ≡ Some t → Contains t.members (members.Constructor c)
    → IsMethodOf C number (constructor_declaration C number c.name (length c.parameters)).binding
