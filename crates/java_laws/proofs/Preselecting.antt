-- A unit with a reference that fits a pattern has a key that the pattern admits.
use Rattle.std.proofs.Common.{◌≡◌, ◌<◌, ◌^◌, true, List, Some, length, Contains, refl, sym, ap, ◌∙◌, subst, true≢false}
use Rattle.java_tree.specs.declared.key.Key.{Key}
use Rattle.java_tree.specs.declared.occurrence.Binding.{Binding}
use Rattle.java_tree.specs.declared.occurrence.Binding.TheVariants as bindings
use Rattle.java_tree.specs.declared.occurrence.MethodId.{MethodId}
use Rattle.java_tree.specs.declared.occurrence.OccKind.{OccKind}
use Rattle.java_tree.specs.declared.occurrence.OccKind.TheVariants as occ
use Rattle.java_tree.specs.declared.occurrence.Occurrence.{Occurrence}
use Rattle.java_tree.specs.declared.unit.Unit.{Unit as CompilationUnit}
use Rattle.java_model.specs.Names.Lists.{Identifier}
use Rattle.java_model.specs.Names.Environments.{Env}
use Rattle.java_model.specs.Names.Methods.{method_name, params}
use Rattle.java_model.specs.Scopes.Contexts.{Context}
use Rattle.java_model.specs.Occurrences.Laws.{IsCounted, IsNamed, Refers, is_call}
use Rattle.java_model.specs.Occurrences.Occurrences.{Occurrences, node_names}
use Rattle.java_model.specs.SearchPattern.Parts.{Pattern}
use Rattle.java_model.specs.Matches.Fits.{fits}
use Rattle.java_model.specs.Matches.Keys.{HasKey}
use Rattle.java_model.specs.Matches.Laws.{reference_key, NameIsSpelled, CallIsSpelled, IsSpelled, IsField, FittingReferencesAreAdmitted}
use Rattle.java_model.proofs.NodeLaws.{spot-counted}
use Rattle.java_model.proofs.SpelledNodes.{node-named}
use Rattle.java_laws.specs.Keys.{ref_key, IsOfKind}
use Rattle.java_laws.specs.Preselection.{IsSimple, IsPreselected, is_mention, FittingReferencesHaveKeys}
use Rattle.java_laws.proofs.Lists.{each-of}
use Rattle.java_laws.proofs.NameKeys.{Told}
use Rattle.java_laws.proofs.UnitKeys.{occurrence-at, told}
use Rattle.java_laws.proofs.PackageRefs.{package-preselected}

-- what an occurrence is bound to has the name that is spelled there
pub record Facts (env : Env) (o : Occurrence) : Type 0 where
  pub named : IsNamed env o
  pub counted : IsCounted env o

pub facts : (C : Context) (u : CompilationUnit) (os : List Occurrence) → Occurrences C u os → (o : Occurrence) → Contains os o → Facts C.env o
facts C u os h o c =
    let r = occurrence-at C u os h o c in
    record {
      named = each-of (IsNamed C.env) (node_names C r.1.scope r.1.node r.2) o (node-named C r.1.scope r.1.node r.2) r.4;
      counted = each-of (IsCounted C.env) (node_names C r.1.scope r.1.node r.2) o (spot-counted C r.1 r.2 r.3.have) r.4;
    }

type-spelled : (env : Env) (o : Occurrence) (b : Binding) → IsOfKind occ.TypeRef o.name b → Refers env o.name occ.TypeRef b → NameIsSpelled env o b
type-spelled env o (bindings.Package q) k r = absurd (true≢false (sym k.0))
type-spelled env o (bindings.Class t) k r = r
type-spelled env o (bindings.Field f) k r = absurd (true≢false (sym k))
type-spelled env o (bindings.Method m) k r = tt
type-spelled env o bindings.Nothing k r = tt

field-spelled : (env : Env) (o : Occurrence) (b : Binding) → IsOfKind occ.FieldRef o.name b → Refers env o.name occ.FieldRef b → NameIsSpelled env o b
field-spelled env o (bindings.Package q) k r = absurd (true≢false (sym k.0))
field-spelled env o (bindings.Class t) k r = absurd (true≢false (sym k))
field-spelled env o (bindings.Field f) k r = r
field-spelled env o (bindings.Method m) k r = tt
field-spelled env o bindings.Nothing k r = tt

name-spelled : (env : Env) (o : Occurrence) (b : Binding) → IsOfKind occ.NameRef o.name b → NameIsSpelled env o b
name-spelled env o (bindings.Package q) k = absurd (true≢false (sym k.0))
name-spelled env o (bindings.Class t) k = absurd (true≢false (sym k))
name-spelled env o (bindings.Field f) k = absurd (true≢false (sym k))
name-spelled env o (bindings.Method m) k = tt
name-spelled env o bindings.Nothing k = tt

method-spelled : (env : Env) (o : Occurrence) (b : Binding) → IsOfKind occ.MethodRef o.name b → Refers env o.name occ.MethodRef b
    → ((m : MethodId) → b ≡ bindings.Method m → length (params env m) ≡ o.count) → CallIsSpelled (λ m. Some (method_name env m)) env o b
method-spelled env o (bindings.Package q) k r c = absurd (true≢false (sym k.0))
method-spelled env o (bindings.Class t) k r c = absurd (true≢false (sym k))
method-spelled env o (bindings.Field f) k r c = absurd (true≢false (sym k))
method-spelled env o (bindings.Method m) k r c = (ap Some r, c m refl)
method-spelled env o bindings.Nothing k r c = tt

-- a reference with its one key
pub reference-preselected : FittingReferencesAreAdmitted → (Has : Key → Type 0) (env : Env) (p : Pattern) (o : Occurrence) (k : OccKind) (key : Key)
    → o.kind ≡ k
    → reference_key k o.name o.count ≡ Some key → Told Has o → IsSpelled env o k o.binding → IsField o.name → o.count < 2 ^ 64
    → fits env p o ≡ true → IsPreselected Has p
reference-preselected law Has env p o k key e r t s w l f =
    let asked : reference_key o.kind o.name o.count ≡ Some key = ap (λ x. reference_key x o.name o.count) e ∙ r in
    record { key = key; has = t.keyed.referred key asked; admitted = law env p o key asked (subst (λ x. IsSpelled env o x o.binding) (sym e) s) w l f }

by-kind : FittingReferencesAreAdmitted → (Has : Key → Type 0) (env : Env) (p : Pattern) (o : Occurrence) (k : OccKind) → o.kind ≡ k → is_mention k ≡ true
    → ((name : Identifier) → Has (ref_key name) → IsSimple name) → Told Has o → Facts env o → IsField o.name → o.count < 2 ^ 64
    → fits env p o ≡ true → IsPreselected Has p
by-kind law Has env p o occ.PackageRef e i simple t a w l f = package-preselected Has env p o simple e (t.keyed.packaged e) t.of_kind f
by-kind law Has env p o occ.TypeRef e i simple t a w l f = reference-preselected law Has env p o occ.TypeRef _ e refl t
    (type-spelled env o o.binding (subst (λ x. IsOfKind x o.name o.binding) e t.of_kind) (subst (λ x. Refers env o.name x o.binding) e a.named)) w l f
by-kind law Has env p o occ.FieldRef e i simple t a w l f = reference-preselected law Has env p o occ.FieldRef _ e refl t
    (field-spelled env o o.binding (subst (λ x. IsOfKind x o.name o.binding) e t.of_kind) (subst (λ x. Refers env o.name x o.binding) e a.named)) w l f
by-kind law Has env p o occ.NameRef e i simple t a w l f = reference-preselected law Has env p o occ.NameRef _ e refl t
    (name-spelled env o o.binding (subst (λ x. IsOfKind x o.name o.binding) e t.of_kind)) w l f
by-kind law Has env p o occ.MethodRef e i simple t a w l f = reference-preselected law Has env p o occ.MethodRef _ e refl t
    (method-spelled env o o.binding (subst (λ x. IsOfKind x o.name o.binding) e t.of_kind) (subst (λ x. Refers env o.name x o.binding) e a.named)
    (λ m b. a.counted m (ap is_call e) b)) w l f
by-kind law Has env p o _ e i simple t a w l f = absurd (true≢false (sym i))

pub fitting-references-have-keys : FittingReferencesAreAdmitted → FittingReferencesHaveKeys
fitting-references-have-keys law C u os same h simple o c i w l p f =
    by-kind law (HasKey u) C.env p o o.kind refl i simple (told C u os same h o c) (facts C u os h o c) w l f
