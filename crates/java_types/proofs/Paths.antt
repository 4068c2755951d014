-- Documents by container and path.
use Rattle.std.proofs.Common.{◌≡◌, ◌+◌, ◌<◌, ℕ, zero, suc, Bool, true, false, ◌&&◌, List, [], ◌∷◌, ◌++◌, Result, Ok, Err, map, length, get_or, bytes_eq, inl, inr, refl, sym, ap, ◌∙◌, subst, arith, true≢false}
use Rattle.std.specs.declared.cmp.Ordering.{Ordering}
use Rattle.std.specs.declared.cmp.Ordering.TheVariants.{Less, Equal, Greater}
use Rattle.std.specs.Ordering.{is_lt, is_eq, nat_cmp, ordering_then, ordering_reverse}
use Rattle.std.specs.Cmp.{IsTotalOrder}
use Rattle.std.specs.Cmp.Lexicographic.{slice_cmp}
use Rattle.std.specs.List.{AllByRecursion}
use Rattle.std.specs.List.Sorted.{IsStrictlySortedBy, IsBinarySearchResult, IsNonDecreasingBy}
use Rattle.std.specs.Ordering.{ordering_index}
use Rattle.std.proofs.lemmas.Bool.{and_parts, cases_lt}
use Rattle.std.proofs.lemmas.Cmp.{nat_list_cmp_total, then_total, on_total}
use Rattle.std.proofs.lemmas.List.Sorted.{searchable_from_sorted}
use Rattle.std.proofs.lemmas.List.{map-append}
use Rattle.std.proofs.lemmas.Map.Text.{is_eq-slice_cmp}
use Rattle.java_tree.specs.declared.types.DocPath.{DocPath}
use Rattle.java_model.specs.Names.Environments.{EnvDocument, Env, same_path}
use Rattle.java_types.specs.Documents.{document_of, path_cmp, AreInOrder, ComesAfter, HasNone, IsPlaceOf}
use Rattle.java_types.specs.declared.documents.KeptDocument.{KeptDocument}

pub path_total : IsTotalOrder path_cmp
path_total = then_total (on_total (λ (p : DocPath). p.container) nat_list_cmp_total) (on_total (λ (p : DocPath). p.path) nat_list_cmp_total)

-- ---- equal paths

tied_then : (r s : Ordering) → is_eq (ordering_then r s) ≡ true → (is_eq r ≡ true) × (is_eq s ≡ true)
tied_then Less s h = absurd (true≢false (sym h))
tied_then Equal s h = (refl, h)
tied_then Greater s h = absurd (true≢false (sym h))

both_tied : (r s : Ordering) → is_eq r ≡ true → is_eq s ≡ true → ordering_then r s ≡ Equal
both_tied Equal Equal h k = refl
both_tied Equal Less h k = absurd (true≢false (sym k))
both_tied Equal Greater h k = absurd (true≢false (sym k))
both_tied Less s h k = absurd (true≢false (sym h))
both_tied Greater s h k = absurd (true≢false (sym h))

equal_from : (r : Ordering) → r ≡ Equal → is_eq r ≡ true
equal_from r e = ap is_eq e

both_true : (a b : Bool) → a ≡ true → b ≡ true → (a && b) ≡ true
both_true true true h k = refl
both_true true false h k = absurd (true≢false (sym k))
both_true false b h k = absurd (true≢false (sym h))

-- a path that is tied with another is the same
pub same_from_tie : (p q : DocPath) → path_cmp p q ≡ Equal → same_path p q ≡ true
same_from_tie p q e =
    let parts = tied_then (slice_cmp nat_cmp p.container q.container) (slice_cmp nat_cmp p.path q.path) (ap is_eq e) in
    both_true (bytes_eq p.container q.container) (bytes_eq p.path q.path) (sym (is_eq-slice_cmp p.container q.container) ∙ parts.0) (sym (is_eq-slice_cmp p.path q.path) ∙ parts.1)

pub tie_from_same : (p q : DocPath) → same_path p q ≡ true → path_cmp p q ≡ Equal
tie_from_same p q e =
    let parts = and_parts (bytes_eq p.container q.container) (bytes_eq p.path q.path) e in
    both_tied (slice_cmp nat_cmp p.container q.container) (slice_cmp nat_cmp p.path q.path) (is_eq-slice_cmp p.container q.container ∙ parts.0) (is_eq-slice_cmp p.path q.path ∙ parts.1)

tie_back : (p q : DocPath) → path_cmp p q ≡ Equal → path_cmp q p ≡ Equal
tie_back p q e = path_total.antisymm q p ∙ ap ordering_reverse e

pub not_true : (b : Bool) → (b ≡ true → ⊥) → b ≡ false
not_true true h = absurd (h refl)
not_true false h = refl

-- two paths of which one is below the other aren't both the same as a third
apart : (p a b : DocPath) → path_cmp a b ≡ Less → same_path p a ≡ true → same_path p b ≡ true → ⊥
apart p a b below first second =
    let t = path_total.congr p a b (tie_from_same p a first) in
    let tied : Less ≡ Equal = sym below ∙ sym t ∙ tie_from_same p b second in
    absurd cc

pub only_later : (p a b : DocPath) → path_cmp a b ≡ Less → same_path p b ≡ true → same_path p a ≡ false
only_later p a b below same = not_true (same_path p a) (λ h. apart p a b below h same)

pub only_earlier : (p a b : DocPath) → path_cmp a b ≡ Less → same_path p a ≡ true → same_path p b ≡ false
only_earlier p a b below same = not_true (same_path p b) (λ h. apart p a b below same h)

not_same : (p q : DocPath) (r : Ordering) → path_cmp q p ≡ r → (r ≡ Equal → ⊥) → same_path p q ≡ false
not_same p q r e h = not_true (same_path p q) (λ s. h (sym e ∙ tie_back p q (tie_from_same p q s)))

-- ---- sorted lists

pub paths_of : (ds : List KeptDocument) → map (λ d. d.path) (map document_of ds) ≡ map (λ d. d.path) ds
paths_of [] = refl
paths_of (d ∷ ds) = ap (λ ps. d.path ∷ ps) (paths_of ds)

pub all_at : {X : Type 0} (P : DocPath → Type 0) (key : X → DocPath) (xs : List X) (i : ℕ) (d : X) → AllByRecursion P (map key xs) → i < length xs → P (key (get_or xs i d))
all_at P key [] i d all h = absurd (omega arith)
all_at P key (x ∷ xs) zero d all h = all.0
all_at P key (x ∷ xs) (suc i) d all h = all_at P key xs i d all.1 (omega arith)

pub below_later : {X : Type 0} (key : X → DocPath) (xs : List X) (i j : ℕ) (d : X) → IsStrictlySortedBy path_cmp (map key xs) → i < j → j < length xs
    → path_cmp (key (get_or xs i d)) (key (get_or xs j d)) ≡ Less
unfolding IsStrictlySortedBy
below_later key [] i j d sorted lt h = absurd (omega arith)
below_later key (x ∷ xs) zero zero d sorted lt h = absurd (omega arith)
below_later key (x ∷ xs) zero (suc j) d sorted lt h = all_at (λ p. path_cmp (key x) p ≡ Less) key xs j d sorted.0 (omega arith)
below_later key (x ∷ xs) (suc i) zero d sorted lt h = absurd (omega arith)
below_later key (x ∷ xs) (suc i) (suc j) d sorted lt h = below_later key xs i j d sorted.1 (omega arith) (omega arith)

not_above : (r s : Ordering) → r ≡ ordering_reverse s → s ≡ Less → is_lt r ≡ false
not_above r s e l = ap is_lt (e ∙ ap ordering_reverse l)

rises_to : (ds : List KeptDocument) (p : DocPath) → IsStrictlySortedBy path_cmp (map (λ d. d.path) ds) → IsNonDecreasingBy (λ (y : KeptDocument). ordering_index (path_cmp y.path p)) ds
rises_to ds p sorted = searchable_from_sorted path_total (λ d. d.path) ds p (λ k d a b.
    let here = (get_or ds k d).path in let next = (get_or ds (k + 1) d).path in
    not_above (path_cmp next here) (path_cmp here next) (path_total.antisymm next here) (below_later (λ d. d.path) ds k (k + 1) d sorted (omega arith) b))

none_from : (ds : List KeptDocument) (p : DocPath) → ((k : ℕ) (d : KeptDocument) → k < length ds → same_path p (get_or ds k d).path ≡ false) → HasNone ds p
none_from [] p h = tt
none_from (d ∷ ds) p h = (h 0 d (omega arith), none_from ds p (λ k e l. h (suc k) e (omega arith)))

pub found_place : (ds : List KeptDocument) (p : DocPath) (i : ℕ) (r : Result ℕ ℕ) → r ≡ Ok i → i < length ds
    → IsBinarySearchResult (λ d. path_cmp d.path p) ds r → IsPlaceOf ds p i
found_place ds p i r e h b = record {
  within = h;
  same = λ d. same_from_tie p (get_or ds i d).path (tie_back (get_or ds i d).path p ((subst (IsBinarySearchResult (λ d. path_cmp d.path p) ds) e b) d));
}

pub no_place : (ds : List KeptDocument) (p : DocPath) (i : ℕ) (r : Result ℕ ℕ) → r ≡ Err i → AreInOrder (map document_of ds)
    → IsBinarySearchResult (λ d. path_cmp d.path p) ds r → HasNone ds p
no_place ds p i r e order b =
    let parted = (subst (IsBinarySearchResult (λ d. path_cmp d.path p) ds) e b) (rises_to ds p (subst (IsStrictlySortedBy path_cmp) (paths_of ds) order)) in
    none_from ds p (λ k d l. elim (cases_lt k i) as (λ _. same_path p (get_or ds k d).path ≡ false) [
      | inl lt ↦ not_same p (get_or ds k d).path Less (parted.0 k d (omega arith) lt) (λ x. absurd cc)
      | inr le ↦ not_same p (get_or ds k d).path Greater (parted.1 k d le l) (λ x. absurd cc)
    ])

-- ---- a document more

all_more : (P : DocPath → Type 0) (ps : List DocPath) (p : DocPath) → AllByRecursion P ps → P p → AllByRecursion P (ps ++ p ∷ [])
all_more P [] p all h = (h, tt)
all_more P (q ∷ ps) p all h = (all.0, all_more P ps p all.1 h)

sorted_more : (ps : List DocPath) (p : DocPath) → IsStrictlySortedBy path_cmp ps → AllByRecursion (λ q. path_cmp q p ≡ Less) ps → IsStrictlySortedBy path_cmp (ps ++ p ∷ [])
unfolding IsStrictlySortedBy
sorted_more [] p sorted all = (tt, tt)
sorted_more (q ∷ ps) p sorted all = (all_more (λ r. path_cmp q r ≡ Less) ps p sorted.0 all.0, sorted_more ps p sorted.1 all.1)

all_paths : (env : Env) (p : DocPath) → ComesAfter env p → AllByRecursion (λ q. path_cmp q p ≡ Less) (map (λ d. d.path) env)
all_paths [] p all = tt
all_paths (d ∷ env) p all = (all.0, all_paths env p all.1)

paths_more : (env : Env) (d : EnvDocument) → map (λ e. e.path) (env ++ d ∷ []) ≡ map (λ e. e.path) env ++ d.path ∷ []
paths_more [] d = refl
paths_more (e ∷ env) d = ap (λ ps. e.path ∷ ps) (paths_more env d)

pub order_more : (env : Env) (d : EnvDocument) → AreInOrder env → ComesAfter env d.path → AreInOrder (env ++ d ∷ [])
order_more env d order after = subst (IsStrictlySortedBy path_cmp) (sym (paths_more env d)) (sorted_more (map (λ e. e.path) env) d.path order (all_paths env d.path after))

-- a document that is after the last is after all
pub after_last : (ds : List KeptDocument) (p : DocPath) (n : ℕ) (x : KeptDocument) → AreInOrder (map document_of ds) → n + 1 ≡ length ds
    → path_cmp (get_or ds n x).path p ≡ Less → ComesAfter (map document_of ds) p
after_last ds p n x order long below =
    let sorted = subst (IsStrictlySortedBy path_cmp) (paths_of ds) order in
    collect ds (λ k h. elim (cases_lt k n) as (λ _. path_cmp (get_or ds k x).path p ≡ Less) [
      | inl lt ↦ path_total.trans (get_or ds k x).path (get_or ds n x).path p (below_later (λ d. d.path) ds k n x sorted lt (omega arith)) below
      | inr le ↦ let same : k ≡ n = omega arith in ap (λ i. path_cmp (get_or ds i x).path p) same ∙ below
    ])
  where
    collect : (es : List KeptDocument) → ((k : ℕ) → k < length es → path_cmp (get_or es k x).path p ≡ Less) → ComesAfter (map document_of es) p
    collect [] h = tt
    collect (e ∷ es) h = (h 0 (omega arith), collect es (λ k l. h (suc k) (omega arith)))

pub last_of_all : (ds : List KeptDocument) (p : DocPath) (n : ℕ) (x : KeptDocument) → n < length ds → ComesAfter (map document_of ds) p → path_cmp (get_or ds n x).path p ≡ Less
last_of_all [] p n x h all = absurd (omega arith)
last_of_all (d ∷ ds) p zero x h all = all.0
last_of_all (d ∷ ds) p (suc n) x h all = last_of_all ds p n x (omega arith) all.1

pub order_none : AreInOrder []
unfolding IsStrictlySortedBy
order_none = tt

pub order_pushed : (env : Env) (ds ds' : List KeptDocument) (d : KeptDocument) (p : DocPath) → map document_of ds ≡ env → AreInOrder (map document_of ds) → ds' ≡ ds ++ d ∷ []
    → d.path ≡ p → ComesAfter env p → AreInOrder (map document_of ds')
order_pushed env ds ds' d p are order pushed at after =
    subst AreInOrder (sym (ap (map document_of) pushed ∙ map-append document_of ds (d ∷ [])))
    (order_more (map document_of ds) (document_of d) order (subst (ComesAfter (map document_of ds)) (sym at) (subst (λ e. ComesAfter e p) (sym are) after)))

less_from : (r : Ordering) → is_lt r ≡ true → r ≡ Less
less_from Less e = refl
less_from Equal e = absurd cc
less_from Greater e = absurd cc

pub takes_last : (env : Env) (ds seen : List KeptDocument) (p : DocPath) (n : ℕ) (x : KeptDocument) (r : Ordering) (b : Bool) → map document_of ds ≡ env → seen ≡ ds → AreInOrder (map document_of ds)
    → n + 1 ≡ length seen → r ≡ path_cmp (get_or seen n x).path p → b ≡ is_lt r → (b ≡ true → ComesAfter env p) × (ComesAfter env p → b ≡ true)
takes_last env ds seen p n x r b are same order long is tested =
    let here : path_cmp (get_or ds n x).path p ≡ r = ap (λ xs. path_cmp (get_or xs n x).path p) (sym same) ∙ sym is in
    let last : n + 1 ≡ length ds = long ∙ ap length same in
    let within : n < length ds = omega arith in (
      λ h. subst (λ e. ComesAfter e p) are (after_last ds p n x order last (here ∙ less_from r (sym tested ∙ h))),
      λ h. tested ∙ ap is_lt (sym here ∙ last_of_all ds p n x within (subst (λ e. ComesAfter e p) (sym are) h)),
    )
