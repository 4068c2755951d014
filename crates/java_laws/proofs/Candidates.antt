-- Each match of a scan stands in a document whose keys have one that the pattern admits.
use Rattle.std.proofs.Common.{◌≡◌, Bool, true, false, cond, List, [], ◌∷◌, filter, inl, inr, refl, sym, ap, ◌∙◌, subst}
use Rattle.std.specs.List.{AllZip}
use Rattle.java_tree.specs.declared.doc_name.Scope.{Scope}
use Rattle.java_tree.specs.declared.occurrence.Match.{Match}
use Rattle.java_tree.specs.declared.occurrence.Occurrence.{Occurrence}
use Rattle.java_tree.specs.declared.types.DocPath.{DocPath}
use Rattle.java_model.specs.DocumentTexts.{HasOccurrencesAt}
use Rattle.java_model.specs.Names.Environments.{Env, EnvDocument}
use Rattle.java_model.specs.SearchPattern.Parts.{Pattern}
use Rattle.java_model.specs.Matches.Fits.{fits}
use Rattle.java_model.specs.Matches.Scans.{is_in_scope, match_of, matches_of, matches_among}
use Rattle.java_laws.specs.Documents.{FittingDocumentsArePreselected, MatchesAreOfCandidates}
use Rattle.java_laws.proofs.Lists.{Among, among, contained, among-append}
use Rattle.java_laws.proofs.Stands.{among-map}

kept-by : {X : Type 0} (p : X → Bool) (y : X) (ys zs : List X) (x : X) (b : Bool) → p y ≡ b → (Among zs x → Among ys x × (p x ≡ true))
    → Among (cond b (y ∷ zs) zs) x → Among (y ∷ ys) x × (p x ≡ true)
kept-by p y ys zs x true e rest (inl f) = (inl f, ap p (sym f) ∙ e)
kept-by p y ys zs x true e rest (inr a) = let r = rest a in (inr r.0, r.1)
kept-by p y ys zs x false e rest a = let r = rest a in (inr r.0, r.1)

-- what is kept passes the test
among-kept : {X : Type 0} (p : X → Bool) (xs : List X) (x : X) → Among (filter p xs) x → Among xs x × (p x ≡ true)
among-kept p [] x a = absurd a
among-kept p (y ∷ ys) x a = kept-by p y ys (filter p ys) x (p y) refl (among-kept p ys x) a

in-scope : {X : Type 0} (b : Bool) (xs : List X) (x : X) → Among (cond b xs []) x → Among xs x
in-scope true xs x a = a
in-scope false xs x a = absurd a

-- the occurrence of a match
record IsFrom (Has : DocPath → List Occurrence → Type 0) (env : Env) (p : Pattern) (m : Match) : Type 0 where
  path : DocPath
  found : List Occurrence
  has : Has path found
  occurrence : Occurrence
  among : Among found occurrence
  fitting : fits env p occurrence ≡ true
  is : match_of path occurrence ≡ m

match-from : (Has : DocPath → List Occurrence → Type 0) (env : Env) (scope : Scope) (p : Pattern) (ds : List EnvDocument) (found : List (List Occurrence))
    (m : Match)
    → AllZip (λ d os. Has d.path os) ds found → Among (matches_among env scope p ds found) m → IsFrom Has env p m
match-from Has env scope p [] found m h a = absurd a
match-from Has env scope p (d ∷ ds) [] m h a = absurd a
match-from Has env scope p (d ∷ ds) (os ∷ found) m h a =
    elim (among-append (cond (is_in_scope scope d.path) (matches_of env p d.path os) []) (matches_among env scope p ds found) m a) [
      | inl b ↦
          let r = among-map (match_of d.path) (filter (fits env p) os) m (in-scope (is_in_scope scope d.path) (matches_of env p d.path os) m b) in
          let k = among-kept (fits env p) os r.0 r.1 in
          record { path = d.path; found = os; has = h.0; occurrence = r.0; among = k.0; fitting = k.1; is = r.2 }
      | inr b ↦ match-from Has env scope p ds found m h.1 b
    ]

pub matches-are-of-candidates : FittingDocumentsArePreselected → MatchesAreOfCandidates
matches-are-of-candidates law one levels docs scope p ms own scan spelled m c =
    let s = scan.scan in
    let f = match-from (HasOccurrencesAt levels docs scan.env) scan.env scope p scan.env s.found m s.each
    (subst (λ xs. Among xs m) s.matches (among ms m c)) in
    let d = f.has.document in
    let a = contained f.found f.occurrence f.among in
    record {
      document = d;
      stands = f.has.stands;
      container = sym (ap (λ x. x.container) f.is) ∙ ap (λ x. x.container) f.has.named;
      path = sym (ap (λ x. x.path) f.is) ∙ ap (λ x. x.path) f.has.named;
      preselected = λ keys k.
          law one levels docs scan.env own scan.is_env spelled.qualifications d f.has.stands f.found f.has.are keys k (spelled.keys d f.has.stands keys k)
          f.occurrence a (spelled.fields d f.has.stands f.found f.has.are f.occurrence a) (spelled.counts d f.has.stands f.found f.has.are f.occurrence a)
          (spelled.few d f.has.stands f.found f.has.are f.occurrence a) p f.fitting;
    }
