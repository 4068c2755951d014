-- That what an occurrence is bound to is there.
use Rattle.std.specs.Prelude.{◌≡◌, Bool, true, false, List, Some, Contains}
use Rattle.java_tree.specs.declared.occurrence.Binding.{Binding}
use Rattle.java_tree.specs.declared.occurrence.Binding.TheVariants as bindings
use Rattle.java_tree.specs.declared.occurrence.OccKind.{OccKind}
use Rattle.java_tree.specs.declared.occurrence.OccKind.TheVariants as occ
use Rattle.java_tree.specs.declared.occurrence.Occurrence.{Occurrence}
use Rattle.java_tree.specs.declared.outline.OutlineField.{OutlineField}
use Rattle.java_tree.specs.declared.outline.OutlineMethod.{OutlineMethod}
use Rattle.java_tree.specs.declared.unit.Unit.{Unit as CompilationUnit}
use Rattle.java_model.specs.Grammar.Signs.{Sign}
use Rattle.java_model.specs.Grammar.Units.{IsUnitOf}
use Rattle.java_model.specs.Names.Environments.{Env, Declared, declared_at}
use Rattle.java_model.specs.Names.Fields.{field_at}
use Rattle.java_model.specs.Names.Methods.{method_at}
use Rattle.java_model.specs.Scopes.Contexts.{Context}
use Rattle.java_model.specs.Occurrences.Occurrences.{Occurrences}
use Rattle.java_laws.specs.Declarations.{IsContext}

-- an environment has the type, the field, or the method or constructor
abbrev pub IsThere : Env → Binding → Type 0
IsThere env (bindings.Class t) = (d : Declared) × (declared_at env t ≡ Some d)
IsThere env (bindings.Field f) = (x : OutlineField) × (field_at env f ≡ Some x)
IsThere env (bindings.Method m) = (x : OutlineMethod) × (method_at env m ≡ Some x)
IsThere env _ = Unit {0}

-- What an occurrence is bound to is in the environment.
abbrev pub BindingsAreThere : Type 0
BindingsAreThere = (tokens : List Sign) (u : CompilationUnit) (C : Context) → IsUnitOf tokens u → IsContext u C
    → (os : List Occurrence) → Occurrences C u os → (o : Occurrence) → Contains os o → IsThere C.env o.binding

abbrev pub is_declaring : OccKind → Bool
is_declaring occ.PackageDecl = true
is_declaring occ.TypeDecl = true
is_declaring occ.MethodDecl = true
is_declaring occ.CtorDecl = true
is_declaring occ.FieldDecl = true
is_declaring _ = false

-- The occurrence of a declared name is bound.
abbrev pub DeclarationsAreBound : Type 0
DeclarationsAreBound = (tokens : List Sign) (u : CompilationUnit) (C : Context) → IsUnitOf tokens u → IsContext u C
    → (os : List Occurrence) → Occurrences C u os → (o : Occurrence) → Contains os o → is_declaring o.kind ≡ true → o.binding ≡ bindings.Nothing → ⊥
