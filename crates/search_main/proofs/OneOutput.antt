-- A script has one legal output, and bytes have one answer.
use Rattle.std.proofs.Common.{◌≡◌, ℕ, ◌<◌, ◌≤◌, ◌^◌, Bool, true, false, cond, List, [], ◌∷◌, ◌++◌, length, Ok, Err, refl, sym, ap, subst, ◌∙◌, inl, inr, arith}
use Rattle.std.specs.Prelude.{◌⊎◌}
use Rattle.std.specs.declared.cmp.Ordering.{Ordering}
use Rattle.std.specs.declared.cmp.Ordering.TheVariants.{Less, Equal, Greater}
use Rattle.std.specs.Ordering.{nat_cmp, ordering_reverse, ordering_then}
use Rattle.std.specs.Cmp.{IsTotalOrder}
use Rattle.std.specs.Cmp.Lexicographic.{slice_cmp}
use Rattle.std.specs.List.{AllByRecursion, AllZip}
use Rattle.std.specs.List.Sorted.{IsPermutation, IsStrictlySortedBy}
use Rattle.std.proofs.lemmas.Cmp.{nat_list_cmp_total, then_total, on_total}
use Rattle.std.proofs.lemmas.List.Sorted.{IsPermutation-sym, IsPermutation-trans}
use Rattle.java_tree.specs.declared.doc_name.Scope.{Scope}
use Rattle.java_tree.specs.declared.limits.TheConstants.{MAX_TEXT}
use Rattle.java_tree.specs.declared.occurrence.Match.{Match}
use Rattle.java_tree.specs.declared.occurrence.Occurrence.{Occurrence}
use Rattle.java_tree.specs.declared.types.DocPath.{DocPath}
use Rattle.java_model.specs.Documents.{Document, document_cmp, AreInOrder}
use Rattle.java_model.specs.DocumentTexts.{path_of, AreOccurrencesOf, HasOccurrencesAt, AtMostOneOutline}
use Rattle.java_model.specs.Grammar.Signs.{Sign, signs}
use Rattle.java_model.specs.Grammar.Units.{IsUnit}
use Rattle.java_model.specs.Names.Environments.{Env}
use Rattle.java_model.specs.Matches.Scans.{is_in_scope, matches_of, matches_among}
use Rattle.java_model.specs.Output.{Report}
use Rattle.java_model.specs.ScriptText.{IsScriptDoc}
use Rattle.java_model.specs.SearchPattern.Parts.{Pattern, PatternFault}
use Rattle.java_model.proofs.DocumentTextLaws.{environments-unique}
use Rattle.java_model.proofs.Lexical.Laws.{tokens_are_unique}
use Rattle.java_laws.specs.Documents.{AtMostOneUnitOfText, OccurrencesOfDocumentsAreUnique}
use Rattle.java_unit_reading.specs.ReadingLaws.{AtMostOneUnit}
use Rattle.script_text.specs.declared.script.Search.{Search}
use Rattle.script_text.specs.Replies.{Reply, reported, refused, Output, output_text}
use Rattle.script_text.specs.Scripts.{Script}
use Rattle.script_text.specs.Spelling.{IsScript}
use Rattle.search_main.specs.Accepted.{AnswersScript}
use Rattle.search_main.specs.Legal.{at_1_4, pattern_in, NamesInScope, AreMatches, IsReport, Answers, answers, refuses, IsLegal}
use Rattle.search_main.proofs.Orders.{Among, among, each_of, all_permuted}

-- ---- lists in order with the same elements

module _ {K : Type 0} where
  among_more : (y : K) (ys zs : List K) → AllByRecursion (Among ys) zs → AllByRecursion (Among (y ∷ ys)) zs
  among_more y ys [] all = tt
  among_more y ys (z ∷ zs) all = (inr all.0, among_more y ys zs all.1)

  among_themselves : (xs : List K) → AllByRecursion (Among xs) xs
  among_themselves [] = tt
  among_themselves (x ∷ xs) = (inl refl, among_more x xs xs (among_themselves xs))

  module _ (cmp : K → K → Ordering) (o : IsTotalOrder cmp) where
    not_both : (r s : Ordering) → r ≡ Less → s ≡ Less → r ≡ ordering_reverse s → ⊥
    not_both r Less e f back = absurd cc
    not_both r Equal e f back = absurd cc
    not_both r Greater e f back = absurd cc

    below_itself : (x : K) → cmp x x ≡ Less → ⊥
    below_itself x e = not_both (cmp x x) (cmp x x) e e (o.antisymm x x)

    -- an element of a list is above what is below the whole list
    above : (x y : K) (ys : List K) → AllByRecursion (λ z. cmp y z ≡ Less) ys → Among ys x → cmp y x ≡ Less
    above x y ys all is = each_of (λ z. cmp y z ≡ Less) ys x all is

    same_head : (x y : K) (xs ys : List K) → AllByRecursion (λ z. cmp x z ≡ Less) xs → AllByRecursion (λ z. cmp y z ≡ Less) ys
        → Among (y ∷ ys) x → Among (x ∷ xs) y → x ≡ y
    same_head x y xs ys low high (inl e) right = sym e
    same_head x y xs ys low high (inr is) (inl e) = e
    same_head x y xs ys low high (inr is) (inr has) = absurd (not_both (cmp y x) (cmp x y) (above x y ys high is) (above y x xs low has) (o.antisymm y x))

    -- elements above the first stand in the rest
    among_rest : (x : K) (ys zs : List K) → AllByRecursion (λ z. cmp x z ≡ Less) zs → AllByRecursion (Among (x ∷ ys)) zs → AllByRecursion (Among ys) zs
    among_rest x ys [] high all = tt
    among_rest x ys (z ∷ zs) high all = (later all.0, among_rest x ys zs high.1 all.1)
      where
        later : (x ≡ z) ⊎ Among ys z → Among ys z
        later (inl e) = absurd (below_itself x (subst (λ w. cmp x w ≡ Less) (sym e) high.0))
        later (inr is) = is

    same_sorted : (xs ys : List K) → AllByRecursion (Among ys) xs → AllByRecursion (Among xs) ys
        → IsStrictlySortedBy cmp xs → IsStrictlySortedBy cmp ys → xs ≡ ys
    unfolding IsStrictlySortedBy
    same_sorted [] [] left right low high = refl
    same_sorted [] (y ∷ ys) left right low high = absurd right.0
    same_sorted (x ∷ xs) [] left right low high = absurd left.0
    same_sorted (x ∷ xs) (y ∷ ys) left right low high =
        let e : x ≡ y = same_head x y xs ys low.0 high.0 left.0 right.0 in
        let left_rest = among_rest x ys xs low.0 (subst (λ w. AllByRecursion (Among (w ∷ ys)) xs) (sym e) left.1) in
        let right_rest = among_rest y xs ys high.0 (subst (λ w. AllByRecursion (Among (w ∷ xs)) ys) e right.1) in
        let rest : xs ≡ ys = same_sorted xs ys left_rest right_rest low.1 high.1 in
        cc (e, rest)

    pub same_order : (xs ys : List K) → IsPermutation xs ys → IsStrictlySortedBy cmp xs → IsStrictlySortedBy cmp ys → xs ≡ ys
    same_order xs ys moved low high =
        same_sorted xs ys (all_permuted (Among ys) ys xs (IsPermutation-sym xs ys moved) (among_themselves ys))
        (all_permuted (Among xs) xs ys moved (among_themselves xs)) low high

-- ---- the opening documents

document_total : IsTotalOrder document_cmp
document_total = then_total (on_total (λ (d : Document). d.container) nat_list_cmp_total) (on_total (λ (d : Document). d.path) nat_list_cmp_total)

same_opening : (docs ds es : List Document) → IsPermutation docs ds → IsPermutation docs es → AreInOrder ds → AreInOrder es → ds ≡ es
same_opening docs ds es first second low high =
    same_order document_cmp document_total ds es (IsPermutation-trans ds docs es (IsPermutation-sym docs ds first) second) low high

-- a document that stands after another one has another path
other_path : (d e : Document) → document_cmp d e ≡ Less → path_of d ≡ path_of e → ⊥
other_path d e less same =
    let alike : document_cmp d d ≡ document_cmp d e
    = ap (λ (p : DocPath). ordering_then (slice_cmp nat_cmp d.container p.container) (slice_cmp nat_cmp d.path p.path)) same in
    below_itself document_cmp document_total d (alike ∙ less)

own_names : (docs : List Document) → AreInOrder docs → (d e : Document) → Among docs d → Among docs e → path_of d ≡ path_of e → d ≡ e
unfolding IsStrictlySortedBy
own_names [] order d e i j same = absurd i
own_names (x ∷ xs) order d e (inl p) (inl q) same = sym p ∙ q
own_names (x ∷ xs) order d e (inl p) (inr j) same =
    absurd (other_path d e (subst (λ z. document_cmp z e ≡ Less) p (each_of (λ z. document_cmp x z ≡ Less) xs e order.0 j)) same)
own_names (x ∷ xs) order d e (inr i) (inl q) same =
    absurd (other_path e d (subst (λ z. document_cmp z d ≡ Less) q (each_of (λ z. document_cmp x z ≡ Less) xs d order.0 i)) (sym same))
own_names (x ∷ xs) order d e (inr i) (inr j) same = own_names xs order.1 d e i j same

-- ---- one unit of a text

pub at_most_one_unit : ((tokens : List Sign) → AtMostOneUnit tokens) → AtMostOneUnitOfText
at_most_one_unit one level text u v first second =
    let same = tokens_are_unique level text second.tokens first.tokens second.scanned first.scanned in
    one (signs first.tokens) u v first.unit (subst (λ ts. IsUnit ts v) same second.unit)

short : (n : ℕ) → n ≤ MAX_TEXT → n < 2 ^ 32
short n h = omega (arith, h)

-- ---- what the program stands on: texts have one outline and one unit, and documents one list of occurrences
pub record AreUnique : Type 0 where
  pub outlines : AtMostOneOutline
  pub units : (tokens : List Sign) → AtMostOneUnit tokens
  pub occurrences : OccurrencesOfDocumentsAreUnique

module _ (laws : AreUnique) (docs : List Document) (legal : AllByRecursion IsScriptDoc docs) (order : AreInOrder docs) where
  same_of_document : (env : Env) (d : Document) → Among docs d → (os us : List Occurrence) → AreOccurrencesOf at_1_4 env d os
      → AreOccurrencesOf at_1_4 env d us → os ≡ us
  same_of_document env d i os us first second =
      let formed = each_of IsScriptDoc docs d legal i in
      laws.occurrences (at_most_one_unit laws.units) at_1_4 env d formed.text.1 (short (length d.text) formed.text.0) os us first second

  same_at : (env : Env) (path : DocPath) (os us : List Occurrence) → HasOccurrencesAt at_1_4 docs env path os → HasOccurrencesAt at_1_4 docs env path us
      → os ≡ us
  same_at env path os us first second =
      let i = among docs first.document first.stands in
      let j = among docs second.document second.stands in
      let e : second.document ≡ first.document = own_names docs order second.document first.document j i (sym second.named ∙ first.named) in
      same_of_document env first.document i os us first.are (subst (λ d. AreOccurrencesOf at_1_4 env d us) e second.are)

  same_among : (env : Env) (scope : Scope) (p : Pattern) (es : Env) (found more : List (List Occurrence))
      → AllZip (λ e os. NamesInScope docs env scope e.path os) es found → AllZip (λ e os. NamesInScope docs env scope e.path os) es more
      → matches_among env scope p es found ≡ matches_among env scope p es more
  same_among env scope p [] found more h k = refl
  same_among env scope p (e ∷ es) [] more h k = absurd h
  same_among env scope p (e ∷ es) (os ∷ found) [] h k = absurd k
  same_among env scope p (e ∷ es) (os ∷ found) (us ∷ more) h k =
      ap (λ ms. ms ++ matches_among env scope p es found) (here (is_in_scope scope e.path) refl)
      ∙ ap (λ ms. cond (is_in_scope scope e.path) (matches_of env p e.path us) [] ++ ms) (same_among env scope p es found more h.1 k.1)
    where
      here : (b : Bool) → is_in_scope scope e.path ≡ b → cond b (matches_of env p e.path os) [] ≡ cond b (matches_of env p e.path us) []
      here true q = ap (matches_of env p e.path) (same_at env e.path os us (h.0 q) (k.0 q))
      here false q = refl

  same_matches : (scope : Scope) (p : Pattern) (ms ns : List Match) → AreMatches docs scope p ms → AreMatches docs scope p ns → ms ≡ ns
  same_matches scope p ms ns first second =
      let e : second.env ≡ first.env = environments-unique laws.outlines at_1_4 docs second.env first.env second.is_env first.is_env in
      in_env second.env e second.scan.found second.scan.each second.scan.matches
    where
      in_env : (env : Env) → env ≡ first.env → (found : List (List Occurrence)) → AllZip (λ d os. NamesInScope docs env scope d.path os) env found
          → ns ≡ matches_among env scope p env found → ms ≡ ns
      in_env env e found each matches =
          let moved = subst (λ x. AllZip (λ d os. NamesInScope docs x scope d.path os) x found) e each in
          first.scan.matches ∙ same_among first.env scope p first.env first.scan.found found first.scan.each moved
          ∙ sym (matches ∙ ap (λ x. matches_among x scope p x found) e)

  -- ---- the replies

  no_version : (v w : ℕ) → v ≤ 0 → w ≤ 0 → v ≡ w
  no_version v w low high = omega arith

  same_report : (s : Search) (p : Pattern) (a b : Report) → IsReport docs [] s p a → IsReport docs [] s p b → a ≡ b
  same_report s p a b first second =
      let line : a.line ≡ b.line = first.line ∙ sym second.line in
      let version : a.version ≡ b.version = no_version a.version b.version first.version second.version in
      let matches : a.matches ≡ b.matches = same_matches s.scope p a.matches b.matches first.matches second.matches in
      let resolved : a.resolved ≡ b.resolved = first.resolved ∙ sym second.resolved in
      let newer : a.newer ≡ b.newer = first.newer ∙ sym second.newer in
      let skipped : a.skipped ≡ b.skipped = first.skipped ∙ sym second.skipped in
      λ i. record { line = line i; version = version i; matches = matches i; resolved = resolved i; newer = newer i; skipped = skipped i }

  same_pattern : (s : Search) (p q : Pattern) → pattern_in s ≡ Ok p → pattern_in s ≡ Ok q → p ≡ q
  same_pattern s p q e f = cc

  same_fault : (s : Search) (p q : PatternFault) → pattern_in s ≡ Err p → pattern_in s ≡ Err q → p ≡ q
  same_fault s p q e f = cc

  read_or_refused : (s : Search) (p : Pattern) (q : PatternFault) → pattern_in s ≡ Ok p → pattern_in s ≡ Err q → ⊥
  read_or_refused s p q e f = absurd cc

  same_reply : (s : Search) (a b : Reply) → Answers docs [] s a → Answers docs [] s b → a ≡ b
  same_reply s _ _ (answers p a e first) (answers q b f second) =
      ap reported (same_report s p a b first (subst (λ x. IsReport docs [] s x b) (same_pattern s q p f e) second))
  same_reply s _ _ (answers p a e first) (refuses fault f) = absurd (read_or_refused s p fault e f)
  same_reply s _ _ (refuses fault e) (answers q b f second) = absurd (read_or_refused s q fault f e)
  same_reply s _ _ (refuses x e) (refuses y f) = ap (refused s.line) (same_fault s x y e f)

  same_replies : (searches : List Search) (rs qs : List Reply) → AllZip (Answers docs []) searches rs → AllZip (Answers docs []) searches qs → rs ≡ qs
  same_replies [] [] [] first second = refl
  same_replies [] (a ∷ rs) qs first second = absurd first
  same_replies [] [] (b ∷ qs) first second = absurd second
  same_replies (s ∷ ss) [] qs first second = absurd first
  same_replies (s ∷ ss) (a ∷ rs) [] first second = absurd second
  same_replies (s ∷ ss) (a ∷ rs) (b ∷ qs) first second =
      let here : a ≡ b = same_reply s a b first.0 second.0 in
      let rest : rs ≡ qs = same_replies ss rs qs first.1 second.1 in
      cc (here, rest)

pub same_output : AreUnique → (script : Script) (a b : Output) → AllByRecursion IsScriptDoc script.docs → IsLegal script a → IsLegal script b → a ≡ b
same_output laws script a b docs first second =
    let opening : second.opening ≡ first.opening
    = same_opening script.docs second.opening first.opening second.same first.same second.in_order first.in_order in
    let legal = all_permuted IsScriptDoc script.docs first.opening first.same docs in
    let replies_a = subst (λ j. AllZip (Answers first.opening j) script.searches a.replies) first.journal first.replies in
    let replies_b = subst (λ j. AllZip (Answers second.opening j) script.searches b.replies) second.journal second.replies in
    let moved = subst (λ ds. AllZip (Answers ds []) script.searches b.replies) opening replies_b in
    let journal : a.journal ≡ b.journal = first.journal ∙ sym second.journal in
    let replies : a.replies ≡ b.replies = same_replies laws first.opening legal first.in_order script.searches a.replies b.replies replies_a moved in
    λ i. record { journal = journal i; replies = replies i }

pub same_answer : AreUnique → ((bytes : List ℕ) (s t : Script) → IsScript bytes s → IsScript bytes t → s ≡ t)
    → (bytes a b : List ℕ) → AnswersScript bytes a → AnswersScript bytes b → a ≡ b
same_answer laws one_script bytes a b first second =
    let script : second.script ≡ first.script = one_script bytes second.script first.script second.is_script first.is_script in
    let legal = subst (λ s. IsLegal s second.output) script second.legal in
    first.printed ∙ ap output_text (same_output laws first.script first.output second.output first.is_script.docs first.legal legal) ∙ sym second.printed
