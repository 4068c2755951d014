-- The source as the one document: its environment, its occurrences, and what a full scan gives.
use Rattle.std.proofs.Common.{◌≡◌, List, [], ◌∷◌, Some, refl, sym, ap, ◌∙◌, subst, inl, inr, lit<, append-nil}
use Rattle.std.specs.List.{AllZip}
use Rattle.std.proofs.lemmas.Option.{same_Some}
use Rattle.java_tree.specs.declared.doc_name.Scope.TheVariants.{All}
use Rattle.java_tree.specs.declared.occurrence.Match.{Match}
use Rattle.java_tree.specs.declared.occurrence.Occurrence.{Occurrence}
use Rattle.java_tree.specs.declared.outline.Level.TheVariants.{Java14}
use Rattle.java_tree.specs.declared.outline.Outline.{Outline}
use Rattle.java_tree.specs.declared.outline.OutlineType.{OutlineType}
use Rattle.java_tree.specs.declared.unit.Unit.{Unit as CompilationUnit}
use Rattle.java_model.specs.Documents.{Document}
use Rattle.java_model.specs.DocumentTexts.{Levels, IsEnvOf, no_documents, unreadable, readable, AreOccurrencesOf, no_occurrences, named_in_unit, HasOccurrencesAt, IsScanOf}
use Rattle.java_model.specs.Matches.Scans.{matches_of, matches_among, IsScan}
use Rattle.java_model.specs.Names.Environments.{Env}
use Rattle.java_model.specs.Occurrences.Occurrences.{Occurrences}
use Rattle.java_model.specs.Outlines.{IsOutline, AreOutlineTypes}
use Rattle.java_model.specs.Scopes.Contexts.{Context, context_of}
use Rattle.java_model.specs.SearchPattern.Parts.{Pattern}
use Rattle.java_model.specs.Texts.{HasOutline}
use Rattle.java_laws.specs.Documents.{AtMostOneUnitOfText}
use Rattle.java_laws.proofs.Lists.{Among, among}
use Rattle.java_laws.proofs.UsualSource.Source.{C, source, class, outlined, path}
use Rattle.java_laws.proofs.UsualSource.Expected.{expected}
use Rattle.java_laws.proofs.UsualSource.Whole.{all, alone}
use Rattle.java_laws.proofs.UsualSource.Text.{text}
use Rattle.java_laws.proofs.UsualSource.Tree.{its-unit, has-outline}

abbrev pub at_1_4 : Levels
at_1_4 container = Java14

abbrev document : Document
document = record { container = path.container; path = path.path; version = 0; stamp = 1; text = text }

abbrev pub documents : List Document
documents = document ∷ []

its-environment : IsEnvOf at_1_4 documents C.env
unfolding C
its-environment = readable document outlined [] [] has-outline no_documents

its-context : context_of C.env path source ≡ Some C
unfolding C
its-context = refl

its-occurrences : AreOccurrencesOf at_1_4 C.env document expected
its-occurrences = named_in_unit source C expected its-unit its-context all

-- It has no other outline: that of a class which isn't in a block asks nothing of its place.
one-type : (os : List OutlineType) → AreOutlineTypes source source.types os → outlined.types ≡ os
unfolding outlined source class
one-type [] h = absurd h
one-type (o ∷ []) h = ap (λ p. p ∷ []) (sym h.0.is)
one-type (o ∷ p ∷ os) h = absurd h.1

same-parts : (o q : Outline) → o.«package» ≡ q.«package» → o.imports ≡ q.imports → o.types ≡ q.types → o ≡ q
same-parts o q e f g =
    ap (λ x. record o { «package» = x }) e ∙ (ap (λ x. record q { imports = x; types = o.types }) f ∙ ap (λ x. record q { types = x }) g)

one-outline : (o : Outline) → IsOutline source o → outlined ≡ o
unfolding outlined
one-outline o h = same-parts outlined o (sym h.in_package) (sym h.imports) (one-type o.types h.types)

no-more : (env : Env) → IsEnvOf at_1_4 [] env → [] ≡ env
no-more env no_documents = refl

the-document : (d : Document) → Among documents d → document ≡ d
the-document d (inl e) = e
the-document d (inr a) = absurd a

-- nor another environment, and no other occurrences, where a text has one unit
module _ (one : AtMostOneUnitOfText) where
  outline-alone : (o : Outline) → HasOutline Java14 text o → outlined ≡ o
  outline-alone o h = one-outline o (subst (λ u. IsOutline u o) (one Java14 text h.unit source h.is_unit its-unit) h.is_outline)

  environment-alone : (env : Env) → IsEnvOf at_1_4 documents env → C.env ≡ env
  unfolding C
  environment-alone env (unreadable _ _ _ h more) = absurd (h source its-unit)
  environment-alone env (readable _ o _ rest h more) =
      ap (λ p. record { path = path; outline = p } ∷ []) (outline-alone o h) ∙ ap (λ ds. record { path = path; outline = o } ∷ ds) (no-more rest more)

  of-unit : (u : CompilationUnit) (D : Context) (os : List Occurrence) → source ≡ u
      → context_of C.env path u ≡ Some D → Occurrences D u os → expected ≡ os
  of-unit u D os e c h =
      let d : C ≡ D = same_Some C D (sym its-context ∙ (ap (context_of C.env path) e ∙ c)) in
      alone os (subst (λ E. Occurrences E source os) (sym d) (subst (λ v. Occurrences D v os) (sym e) h))

  occurrences-alone : (os : List Occurrence) → AreOccurrencesOf at_1_4 C.env document os → expected ≡ os
  occurrences-alone os (no_occurrences h) = absurd (h source its-unit)
  occurrences-alone os (named_in_unit u D _ unit c h) = of-unit u D os (one Java14 text source u its-unit unit) c h

  at-path : (os : List Occurrence) → HasOccurrencesAt at_1_4 documents C.env path os → expected ≡ os
  at-path os h =
      let e : document ≡ h.document = the-document h.document (among documents h.document h.stands) in
      occurrences-alone os (subst (λ d. AreOccurrencesOf at_1_4 C.env d os) (sym e) h.are)

  found-alone : (found : List (List Occurrence))
      → AllZip (λ d os. HasOccurrencesAt at_1_4 documents C.env d.path os) C.env found → (expected ∷ []) ≡ found
  unfolding C
  found-alone [] h = absurd h
  found-alone (os ∷ []) h = ap (λ us. us ∷ []) (at-path os h.0)
  found-alone (os ∷ us ∷ more) h = absurd h.1

  among-alone : (p : Pattern) (ms : List Match)
      → IsScan (HasOccurrencesAt at_1_4 documents C.env) C.env All p ms → matches_of C.env p path expected ≡ ms
  unfolding C
  among-alone p ms s =
      sym (append-nil (matches_of C.env p path expected)) ∙ (ap (matches_among C.env All p C.env) (found-alone s.found s.each) ∙ sym s.matches)

  pub scanned-alone : (p : Pattern) (ms : List Match) → IsScanOf at_1_4 documents All p ms → matches_of C.env p path expected ≡ ms
  scanned-alone p ms s =
      among-alone p ms (subst (λ env. IsScan (HasOccurrencesAt at_1_4 documents env) env All p ms) (sym (environment-alone s.env s.is_env)) s.scan)

-- the full scan
found-at : HasOccurrencesAt at_1_4 documents C.env path expected
found-at = record { document = document; stands = (0, lit< tt, refl); named = refl; are = its-occurrences }

pub scanned : (p : Pattern) (ms : List Match) → matches_of C.env p path expected ≡ ms → IsScanOf at_1_4 documents All p ms
unfolding C
scanned p ms e = record {
  env = C.env;
  is_env = its-environment;
  scan = record { found = expected ∷ []; each = (found-at, tt); matches = sym e ∙ sym (append-nil (matches_of C.env p path expected)) };
}
