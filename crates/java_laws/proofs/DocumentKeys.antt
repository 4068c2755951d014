-- A document with an occurrence that fits a pattern has a key that the pattern admits.
use Rattle.std.proofs.Common.{◌≡◌, ◌<◌, ◌^◌, ℕ, ◌+◌, Bool, true, false, cond, List, ◌∷◌, Option, Some, length, Contains, bytes_eq, inl, inr, refl, ap, ◌∙◌, subst}
use Rattle.std.proofs.lemmas.Bool.{and_parts}
use Rattle.std.proofs.lemmas.Option.{none-some, same_Some}
use Rattle.std.proofs.lemmas.Slice.Eq.{bytes_eq-Decides}
use Rattle.java_tree.specs.declared.key.Key.{Key}
use Rattle.java_tree.specs.declared.occurrence.Occurrence.{Occurrence}
use Rattle.java_tree.specs.declared.outline.Outline.{Outline}
use Rattle.java_tree.specs.declared.types.DocPath.{DocPath}
use Rattle.java_tree.specs.declared.unit.Unit.{Unit as CompilationUnit}
use Rattle.java_model.specs.Documents.{Document}
use Rattle.java_model.specs.DocumentTexts.{Levels, level_of, path_of, IsEnvOf, no_documents, unreadable, readable, no_occurrences, named_in_unit, AreKeysOf, no_keys, given_in_unit}
use Rattle.java_model.specs.Grammar.Signs.{signs}
use Rattle.java_model.specs.Outlines.{IsOutline}
use Rattle.java_model.specs.Texts.{IsUnitOfText, HasOutline}
use Rattle.java_model.specs.Names.Environments.{Env, same_path}
use Rattle.java_model.specs.Scopes.Contexts.{Context, context_among, context_of}
use Rattle.java_model.specs.Occurrences.Occurrences.{Occurrences}
use Rattle.java_model.specs.SearchPattern.Parts.{Pattern}
use Rattle.java_model.specs.Matches.Fits.{fits}
use Rattle.java_model.specs.Matches.Keys.{AreKeys}
use Rattle.java_model.specs.Matches.Laws.{IsField}
use Rattle.java_laws.specs.Declarations.{IsContext}
use Rattle.java_laws.specs.Preselection.{IsPreselected, QualificationsAreFields, HasFewParameters, FittingOccurrencesHaveKeys}
use Rattle.java_laws.specs.Documents.{AtMostOneUnitOfText, HaveOwnNames, HaveSimpleNames, FittingDocumentsArePreselected}
use Rattle.java_laws.proofs.Lists.{Among, contained, among}
use Rattle.java_laws.proofs.Numbers.{env-of}

same-path : (a b : DocPath) → same_path a b ≡ true → a ≡ b
same-path a b h =
    let p = and_parts (bytes_eq a.container b.container) (bytes_eq a.path b.path) h in
    ap (λ x. record { container = x; path = a.path }) ((bytes_eq-Decides a.container b.container).0 p.0)
    ∙ ap (λ x. record { container = b.container; path = x }) ((bytes_eq-Decides a.path b.path).0 p.1)

-- the document whose outline a context has
record Source (levels : Levels) (docs : List Document) (path : DocPath) (C : Context) : Type 0 where
  document : Document
  stands : Among docs document
  named : path_of document ≡ path
  has : HasOutline (level_of levels document) document.text C.outline

first-source : (levels : Levels) (d : Document) (docs : List Document) (env : Env) (outline : Outline) (path : DocPath) (u : CompilationUnit) (first : ℕ)
    (C : Context)
    → HasOutline (level_of levels d) d.text outline → (b : Bool) → same_path (path_of d) path ≡ b → (more : Option Context)
    → (more ≡ Some C → Source levels docs path C)
    → cond b (Some (record { env = env; outline = outline; first = first; types = u.types })) more ≡ Some C → Source levels (d ∷ docs) path C
first-source levels d docs env outline path u first C h true s more rest e = record {
  document = d;
  stands = inl refl;
  named = same-path (path_of d) path s;
  has = subst (λ x. HasOutline (level_of levels d) d.text x.outline) (same_Some _ C e) h;
}
first-source levels d docs env outline path u first C h false s more rest e =
    let r = rest e in record { document = r.document; stands = inr r.stands; named = r.named; has = r.has }

source : (levels : Levels) (docs : List Document) (env : Env) → IsEnvOf levels docs env
    → (whole : Env) (path : DocPath) (u : CompilationUnit) (first : ℕ) (C : Context)
    → context_among whole path u first env ≡ Some C → Source levels docs path C
source levels docs env no_documents whole path u first C e = absurd (none-some C e)
source levels docs env (unreadable d rest _ x more) whole path u first C e =
    let r = source levels rest env more whole path u first C e in record { document = r.document; stands = inr r.stands; named = r.named; has = r.has }
source levels docs _ (readable d outline rest env h more) whole path u first C e =
    first-source levels d rest whole outline path u first C h (same_path (path_of d) path) refl (context_among whole path u (first + length outline.types) env)
    (λ f. source levels rest env more whole path u (first + length outline.types) C f) e

outlined : AtMostOneUnitOfText → (levels : Levels) (docs : List Document) (env : Env) → HaveOwnNames docs → IsEnvOf levels docs env → (d : Document)
    → Contains docs d
    → (u : CompilationUnit) (C : Context) → IsUnitOfText (level_of levels d) d.text u → context_of env (path_of d) u ≡ Some C → IsOutline u C.outline
outlined one levels docs env own is d c u C text e =
    let s = source levels docs env is env (path_of d) u 0 C e in
    let h = subst (λ x. HasOutline (level_of levels x) x.text C.outline) (own s.document d (contained docs s.document s.stands) c s.named) s.has in
    subst (λ x. IsOutline x C.outline) (one (level_of levels d) d.text h.unit u h.is_unit text) h.is_outline

by-keys : FittingOccurrencesHaveKeys → AtMostOneUnitOfText → (levels : Levels) (env : Env) (d : Document) (u : CompilationUnit) (C : Context)
    → IsUnitOfText (level_of levels d) d.text u → IsContext u C → env ≡ C.env → (os : List Occurrence) → Occurrences C u os
    → QualificationsAreFields env → (keys : List Key) → AreKeysOf (level_of levels d) d.text keys → HaveSimpleNames keys
    → (o : Occurrence) → Contains os o → IsField o.name → o.count < 2 ^ 64 → HasFewParameters env o
    → (p : Pattern) → fits env p o ≡ true → IsPreselected (Contains keys) p
by-keys law one levels env d u C text c same os h quals keys (no_keys x) simple o a field count few p f = absurd (x u text)
by-keys law one levels env d u C text c same os h quals keys (given_in_unit v ks other are) simple o a field count few p f =
    let keys_of = subst (λ x. AreKeys x keys) (one (level_of levels d) d.text v u other text) are in
    let r = law (signs text.tokens) u C text.unit c os h (λ name k. simple name ((keys_of _).1 k)) (subst QualificationsAreFields same quals) o a field count
    (subst (λ x. HasFewParameters x o) same few) p (subst (λ x. fits x p o ≡ true) same f) in
    record { key = r.key; has = (keys_of r.key).1 r.has; admitted = r.admitted }

pub fitting-documents-are-preselected : FittingOccurrencesHaveKeys → FittingDocumentsArePreselected
fitting-documents-are-preselected law one levels docs env own is quals d c os (no_occurrences x) keys k simple o a field count few p f = absurd (among os o a)
fitting-documents-are-preselected law one levels docs env own is quals d c os (named_in_unit u C _ text e h) keys k simple o a field count few p f =
    by-keys law one levels env d u C text
    (record { env = env; path = path_of d; of_env = e; outlined = outlined one levels docs env own is d c u C text e })
    (env-of env (path_of d) u C e) os h quals keys k simple o a field count few p f
