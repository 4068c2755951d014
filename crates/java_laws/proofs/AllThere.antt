-- What an occurrence is bound to is in the environment, and a declaration is bound.
use Rattle.std.proofs.Common.{◌≡◌, refl, sym, ap, ◌∙◌, subst, true, false, true≢false}
use Rattle.java_tree.specs.declared.occurrence.Binding.{Binding}
use Rattle.java_tree.specs.declared.occurrence.Binding.TheVariants as bindings
use Rattle.java_tree.specs.declared.occurrence.MethodId.{MethodId}
use Rattle.java_tree.specs.declared.occurrence.OccKind.{OccKind}
use Rattle.java_tree.specs.declared.occurrence.OccKind.TheVariants as occ
use Rattle.java_tree.specs.declared.occurrence.Occurrence.{Occurrence}
use Rattle.java_tree.specs.declared.unit.Unit.{Unit as CompilationUnit}
use Rattle.java_model.specs.Names.Lists.{Identifier}
use Rattle.java_model.specs.Names.Environments.{Env, declared_at}
use Rattle.java_model.specs.Names.Fields.{field_at}
use Rattle.java_model.specs.Occurrences.Laws.{Refers}
use Rattle.java_model.specs.Matches.Keys.{HasKey}
use Rattle.java_laws.specs.Keys.{IsOfKind, names_type, names_field, names_method}
use Rattle.java_laws.specs.Bindings.{IsThere, BindingsAreThere, is_declaring, DeclarationsAreBound}
use Rattle.java_laws.proofs.Numbers.{types-of}
use Rattle.java_laws.proofs.UnitKeys.{told}
use Rattle.java_laws.proofs.Preselecting.{facts}
use Rattle.java_laws.proofs.There.{IsMethod}
use Rattle.java_laws.proofs.Made.{Laws, MadeAs, IsMade}
use Rattle.java_laws.proofs.MadeNodes.{is-made}
use Rattle.java_laws.proofs.Declares.{DeclaredAs, IsDeclared, by-name}
use Rattle.java_laws.proofs.Whole.{is-declared}

type-there : (env : Env) (name : Identifier) (b : Binding) → IsOfKind occ.TypeRef name b → Refers env name occ.TypeRef b → IsThere env b
type-there env name (bindings.Package q) k r = tt
type-there env name (bindings.Class t) k r = by-name (λ d. d.type.name) (declared_at env t) name r
type-there env name (bindings.Field f) k r = absurd (true≢false (sym k))
type-there env name (bindings.Method m) k r = absurd (true≢false (sym k))
type-there env name bindings.Nothing k r = tt

field-there : (env : Env) (name : Identifier) (b : Binding) → IsOfKind occ.FieldRef name b → Refers env name occ.FieldRef b → IsThere env b
field-there env name (bindings.Package q) k r = tt
field-there env name (bindings.Class t) k r = absurd (true≢false (sym k))
field-there env name (bindings.Field f) k r = by-name (λ o. o.name) (field_at env f) name r
field-there env name (bindings.Method m) k r = absurd (true≢false (sym k))
field-there env name bindings.Nothing k r = tt

method-there : (env : Env) (kind : OccKind) (name : Identifier) (b : Binding) → names_type kind ≡ false → names_field kind ≡ false → IsOfKind kind name b
    → ((m : MethodId) → b ≡ bindings.Method m → IsMethod env m) → IsThere env b
method-there env kind name (bindings.Package q) c f k r = tt
method-there env kind name (bindings.Class t) c f k r = absurd (true≢false (sym k ∙ c))
method-there env kind name (bindings.Field g) c f k r = absurd (true≢false (sym k ∙ f))
method-there env kind name (bindings.Method m) c f k r = r m refl
method-there env kind name bindings.Nothing c f k r = tt

name-there : (env : Env) (kind : OccKind) (name : Identifier) (b : Binding) → names_type kind ≡ false → names_field kind ≡ false → names_method kind ≡ false
    → IsOfKind kind name b → IsThere env b
name-there env kind name (bindings.Package q) c f m k = tt
name-there env kind name (bindings.Class t) c f m k = absurd (true≢false (sym k ∙ c))
name-there env kind name (bindings.Field g) c f m k = absurd (true≢false (sym k ∙ f))
name-there env kind name (bindings.Method x) c f m k = absurd (true≢false (sym k ∙ m))
name-there env kind name bindings.Nothing c f m k = tt

by-kind : (u : CompilationUnit) (env : Env) (o : Occurrence) (k : OccKind) → o.kind ≡ k → IsOfKind o.kind o.name o.binding → Refers env o.name o.kind o.binding
    → IsMade env o → IsDeclared (HasKey u) env o → IsThere env o.binding
by-kind u env o occ.PackageRef e t r m d = name-there env occ.PackageRef o.name o.binding refl refl refl (subst (λ x. IsOfKind x o.name o.binding) e t)
by-kind u env o occ.NameRef e t r m d = name-there env occ.NameRef o.name o.binding refl refl refl (subst (λ x. IsOfKind x o.name o.binding) e t)
by-kind u env o occ.TypeRef e t r m d =
    type-there env o.name o.binding (subst (λ x. IsOfKind x o.name o.binding) e t) (subst (λ x. Refers env o.name x o.binding) e r)
by-kind u env o occ.FieldRef e t r m d =
    field-there env o.name o.binding (subst (λ x. IsOfKind x o.name o.binding) e t) (subst (λ x. Refers env o.name x o.binding) e r)
by-kind u env o occ.MethodRef e t r m d =
    method-there env occ.MethodRef o.name o.binding refl refl (subst (λ x. IsOfKind x o.name o.binding) e t) (subst (λ x. MadeAs env o x) e m)
by-kind u env o occ.CtorRef e t r m d =
    method-there env occ.CtorRef o.name o.binding refl refl (subst (λ x. IsOfKind x o.name o.binding) e t)
    (λ x b. (subst (λ y. MadeAs env o y) e m x b).there)
by-kind u env o occ.PackageDecl e t r m d = (subst (λ x. DeclaredAs (HasKey u) env o x) e d).there
by-kind u env o occ.TypeDecl e t r m d = (subst (λ x. DeclaredAs (HasKey u) env o x) e d).there
by-kind u env o occ.Super e t r m d = (subst (λ x. DeclaredAs (HasKey u) env o x) e d).there
by-kind u env o occ.MethodDecl e t r m d = (subst (λ x. DeclaredAs (HasKey u) env o x) e d).there
by-kind u env o occ.CtorDecl e t r m d = (subst (λ x. DeclaredAs (HasKey u) env o x) e d).there
by-kind u env o occ.FieldDecl e t r m d = (subst (λ x. DeclaredAs (HasKey u) env o x) e d).there

pub bindings-are-there : Laws → BindingsAreThere
bindings-are-there law tokens u C unit c os h o a =
    by-kind u C.env o o.kind refl (told C u os (types-of c.env c.path u C c.of_env) h o a).of_kind (facts C u os h o a).named
    (is-made law tokens u C unit c os h o a) (is-declared law tokens u C unit c os h o a)

bound-by : (u : CompilationUnit) (env : Env) (o : Occurrence) (k : OccKind) → o.kind ≡ k → is_declaring k ≡ true → IsDeclared (HasKey u) env o
    → o.binding ≡ bindings.Nothing → ⊥
bound-by u env o occ.PackageDecl e h d n = (subst (λ x. DeclaredAs (HasKey u) env o x) e d).bound (ap is_declaring e) n
bound-by u env o occ.TypeDecl e h d n = (subst (λ x. DeclaredAs (HasKey u) env o x) e d).bound (ap is_declaring e) n
bound-by u env o occ.MethodDecl e h d n = (subst (λ x. DeclaredAs (HasKey u) env o x) e d).bound (ap is_declaring e) n
bound-by u env o occ.CtorDecl e h d n = (subst (λ x. DeclaredAs (HasKey u) env o x) e d).bound (ap is_declaring e) n
bound-by u env o occ.FieldDecl e h d n = (subst (λ x. DeclaredAs (HasKey u) env o x) e d).bound (ap is_declaring e) n
bound-by u env o _ e h d n = absurd (true≢false (sym h))

pub declarations-are-bound : Laws → DeclarationsAreBound
declarations-are-bound law tokens u C unit c os h o a d n = bound-by u C.env o o.kind refl d (is-declared law tokens u C unit c os h o a) n
