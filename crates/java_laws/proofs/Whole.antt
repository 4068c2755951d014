-- A unit with an occurrence that fits a pattern has a key that the pattern admits.
use Rattle.std.proofs.Common.{◌≡◌, ◌<◌, ◌^◌, true, List, Some, length, Contains, refl, sym, ap, subst, true≢false}
use Rattle.java_tree.specs.declared.occurrence.Binding.{Binding}
use Rattle.java_tree.specs.declared.occurrence.Binding.TheVariants as bindings
use Rattle.java_tree.specs.declared.occurrence.MethodId.{MethodId}
use Rattle.java_tree.specs.declared.occurrence.OccKind.{OccKind}
use Rattle.java_tree.specs.declared.occurrence.OccKind.TheVariants as occ
use Rattle.java_tree.specs.declared.occurrence.Occurrence.{Occurrence}
use Rattle.java_tree.specs.declared.unit.Unit.{Unit as CompilationUnit}
use Rattle.java_model.specs.Grammar.Signs.{Sign}
use Rattle.java_model.specs.Grammar.Units.{IsUnitOf}
use Rattle.java_model.specs.Names.Environments.{Env, name_at}
use Rattle.java_model.specs.Names.Methods.{params}
use Rattle.java_model.specs.Scopes.Contexts.{Context}
use Rattle.java_model.specs.Occurrences.Laws.{is_call}
use Rattle.java_model.specs.Occurrences.Occurrences.{Occurrences, node_names}
use Rattle.java_model.specs.SearchPattern.Parts.{Pattern}
use Rattle.java_model.specs.Matches.Fits.{fits}
use Rattle.java_model.specs.Matches.Keys.{HasKey}
use Rattle.java_model.specs.Matches.Laws.{CallIsSpelled, IsField, FittingReferencesAreAdmitted, FittingDeclarationsAreAdmitted}
use Rattle.java_laws.specs.Keys.{IsOfKind}
use Rattle.java_laws.specs.Declarations.{IsContext}
use Rattle.java_laws.specs.Preselection.{IsPreselected, QualificationsAreFields, HasFewParameters, is_mention, FittingOccurrencesHaveKeys}
use Rattle.java_laws.proofs.Lists.{each-of}
use Rattle.java_laws.proofs.Numbers.{types-of}
use Rattle.java_laws.proofs.Shapes.{types-shaped}
use Rattle.java_laws.proofs.Stands.{good-spot}
use Rattle.java_laws.proofs.UnitKeys.{occurrence-at, told}
use Rattle.java_laws.proofs.NameKeys.{Told}
use Rattle.java_laws.proofs.Preselecting.{Facts, facts, reference-preselected, fitting-references-have-keys}
use Rattle.java_laws.proofs.Made.{Laws, MadeAs, IsMade}
use Rattle.java_laws.proofs.MadeNodes.{Premises, is-made}
use Rattle.java_laws.proofs.Declares.{HasDeclarationKey, DeclaredAs, IsDeclared}
use Rattle.java_laws.proofs.DeclaresNodes.{node-declared}

pub is-declared : Laws → (tokens : List Sign) (u : CompilationUnit) (C : Context) → IsUnitOf tokens u → IsContext u C → (os : List Occurrence)
    → Occurrences C u os
    → (o : Occurrence) → Contains os o → IsDeclared (HasKey u) C.env o
is-declared law tokens u C unit c os h o a =
    let r = occurrence-at C u os h o a in
    let same = types-of c.env c.path u C c.of_env in
    let p : Premises u C = record { law = law; context = c; same = same; shaped = types-shaped tokens u unit } in
    let g = good-spot C u same r.0 r.1 r.3.is in
    each-of (IsDeclared (HasKey u) C.env) (node_names C r.1.scope r.1.node r.2) o (node-declared u C p r.1.scope r.1.node r.2 g.stands g.at) r.4

constructor-spelled : (env : Env) (o : Occurrence) (b : Binding) → IsOfKind occ.CtorRef o.name b
    → ((m : MethodId) → b ≡ bindings.Method m → name_at env m.of ≡ Some o.name)
    → ((m : MethodId) → b ≡ bindings.Method m → length (params env m) ≡ o.count) → CallIsSpelled (λ m. name_at env m.of) env o b
constructor-spelled env o (bindings.Package q) k n c = absurd (true≢false (sym k.0))
constructor-spelled env o (bindings.Class t) k n c = absurd (true≢false (sym k))
constructor-spelled env o (bindings.Field f) k n c = absurd (true≢false (sym k))
constructor-spelled env o (bindings.Method m) k n c = (n m refl, c m refl)
constructor-spelled env o bindings.Nothing k n c = tt

-- what is known of an occurrence
record Whole (u : CompilationUnit) (C : Context) (p : Pattern) (o : Occurrence) : Type 0 where
  references : FittingReferencesAreAdmitted
  declarations : FittingDeclarationsAreAdmitted
  told_of : Told (HasKey u) o
  facts_of : Facts C.env o
  made : IsMade C.env o
  declared : IsDeclared (HasKey u) C.env o
  field : IsField o.name
  count : o.count < 2 ^ 64
  few : HasFewParameters C.env o
  fields : QualificationsAreFields C.env
  spelled : is_mention o.kind ≡ true → IsPreselected (HasKey u) p

by-declaration : (u : CompilationUnit) (C : Context) (p : Pattern) (o : Occurrence) → Whole u C p o → HasDeclarationKey (HasKey u) C.env o
    → fits C.env p o ≡ true → IsPreselected (HasKey u) p
by-declaration u C p o w h f =
    let k = h.keyed w.field w.few w.fields in record { key = k.0; has = k.1; admitted = w.declarations C.env p o k.0 k.2 f }

by-kind : (u : CompilationUnit) (C : Context) (p : Pattern) (o : Occurrence) → Whole u C p o → (k : OccKind) → o.kind ≡ k → fits C.env p o ≡ true
    → IsPreselected (HasKey u) p
by-kind u C p o w occ.PackageRef e f = w.spelled (ap is_mention e)
by-kind u C p o w occ.TypeRef e f = w.spelled (ap is_mention e)
by-kind u C p o w occ.FieldRef e f = w.spelled (ap is_mention e)
by-kind u C p o w occ.NameRef e f = w.spelled (ap is_mention e)
by-kind u C p o w occ.MethodRef e f = w.spelled (ap is_mention e)
by-kind u C p o w occ.CtorRef e f = reference-preselected w.references (HasKey u) C.env p o occ.CtorRef _ e refl w.told_of
    (constructor-spelled C.env o o.binding (subst (λ x. IsOfKind x o.name o.binding) e w.told_of.of_kind)
    (λ m b. (subst (λ x. MadeAs C.env o x) e w.made m b).named)
    (λ m b. w.facts_of.counted m (ap is_call e) b)) w.field w.count f
by-kind u C p o w occ.PackageDecl e f = by-declaration u C p o w (subst (λ x. DeclaredAs (HasKey u) C.env o x) e w.declared) f
by-kind u C p o w occ.TypeDecl e f = by-declaration u C p o w (subst (λ x. DeclaredAs (HasKey u) C.env o x) e w.declared) f
by-kind u C p o w occ.Super e f = by-declaration u C p o w (subst (λ x. DeclaredAs (HasKey u) C.env o x) e w.declared) f
by-kind u C p o w occ.MethodDecl e f = by-declaration u C p o w (subst (λ x. DeclaredAs (HasKey u) C.env o x) e w.declared) f
by-kind u C p o w occ.CtorDecl e f = by-declaration u C p o w (subst (λ x. DeclaredAs (HasKey u) C.env o x) e w.declared) f
by-kind u C p o w occ.FieldDecl e f = by-declaration u C p o w (subst (λ x. DeclaredAs (HasKey u) C.env o x) e w.declared) f

pub fitting-occurrences-have-keys : FittingReferencesAreAdmitted → FittingDeclarationsAreAdmitted → Laws → FittingOccurrencesHaveKeys
fitting-occurrences-have-keys references declarations law tokens u C unit c os h simple fields o a field count few p f =
    let same = types-of c.env c.path u C c.of_env in
    by-kind u C p o (record {
      references = references;
      declarations = declarations;
      told_of = told C u os same h o a;
      facts_of = facts C u os h o a;
      made = is-made law tokens u C unit c os h o a;
      declared = is-declared law tokens u C unit c os h o a;
      field = field;
      count = count;
      few = few;
      fields = fields;
      spelled = λ i. fitting-references-have-keys references C u os same h simple o a i field count p f;
    }) o.kind refl f
