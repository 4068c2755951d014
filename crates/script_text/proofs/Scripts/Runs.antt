-- In documents that are in order each container's stand together, so its run tells how many it has.
use Rattle.std.proofs.Common.{◌≡◌, ◌≢◌, ℕ, ◌+◌, ◌<◌, ◌≤◌, Bool, true, false, cond, ltb, List, [], ◌∷◌, refl, sym, subst, ◌∙◌, arith}
use Rattle.std.specs.declared.cmp.Ordering.{Ordering}
use Rattle.std.specs.declared.cmp.Ordering.TheVariants.{Less, Equal, Greater}
use Rattle.std.specs.Cmp.Lexicographic.{slice_cmp}
use Rattle.std.specs.List.{AllByRecursion}
use Rattle.std.specs.List.Sorted.{IsPermutation, IsStrictlySortedBy}
use Rattle.std.specs.Ordering.{nat_cmp, ordering_reverse, ordering_then, is_eq}
use Rattle.std.specs.Str.{bytes_eq}
use Rattle.std.proofs.lemmas.Bool.{and_parts, ltb-true, lt-ltb}
use Rattle.std.proofs.lemmas.Cmp.{nat_list_cmp_total}
use Rattle.std.proofs.lemmas.List.Sorted.{sum_by-IsPermutation}
use Rattle.std.proofs.lemmas.List.Sums.{sum_by-cons}
use Rattle.std.proofs.lemmas.Map.Text.{is_eq-slice_cmp}
use Rattle.std.proofs.lemmas.Slice.Eq.{bytes_eq-Decides}
use Rattle.java_tree.specs.declared.limits.TheConstants.{MAX_DOCUMENTS}
use Rattle.java_model.specs.Documents.{Document, document_cmp, AreInOrder}
use Rattle.java_model.specs.ScriptText.{count_in, AreFew}
use Rattle.script_text.specs.Inner.Checks.{run_before, runs_fit}

-- one document more
count_in-cons : (container : List ℕ) (doc : Document) (docs : List Document)
    → count_in container (doc ∷ docs) ≡ cond (bytes_eq container doc.container) 1 0 + count_in container docs
count_in-cons container doc docs = sum_by-cons (λ (d : Document). cond (bytes_eq container d.container) 1 0) doc docs

-- the order in which documents stand doesn't count
pub few_permuted : (docs others : List Document) → IsPermutation docs others → AreFew docs → AreFew others
few_permuted docs others moved few container =
    omega (arith, few container, sum_by-IsPermutation (λ (d : Document). cond (bytes_eq container d.container) 1 0) docs others moved)

-- ---- a container that was left doesn't come again

-- a container isn't above those of documents
IsBelow : List ℕ → List Document → Type 0
IsBelow container docs = AllByRecursion (λ d. slice_cmp nat_cmp container d.container ≢ Greater) docs

not_above : (r s : Ordering) → ordering_then r s ≡ Less → r ≢ Greater
not_above Less s e f = absurd cc
not_above Equal s e f = absurd cc
not_above Greater s e f = absurd cc

below_rest : (doc : Document) (docs : List Document) → AllByRecursion (λ z. document_cmp doc z ≡ Less) docs → IsBelow doc.container docs
unfolding IsBelow
below_rest doc [] above = tt
below_rest doc (z ∷ docs) above = (not_above (slice_cmp nat_cmp doc.container z.container) _ above.0, below_rest doc docs above.1)

below_first : (docs : List Document) → IsBelow [] docs
unfolding IsBelow
below_first [] = tt
below_first (doc ∷ docs) = (least doc.container, below_first docs)
  where
    least : (c : List ℕ) → slice_cmp nat_cmp [] c ≢ Greater
    least [] e = absurd cc
    least (b ∷ bs) e = absurd cc

-- what is neither above nor equal is below, the other way round
reversed : (r s : Ordering) → s ≡ ordering_reverse r → r ≢ Greater → is_eq r ≡ false → s ≡ Greater
reversed Less s back isnt other = back
reversed Equal s back isnt other = absurd cc
reversed Greater s back isnt other = absurd (isnt refl)

then_greater : (r s : Ordering) → r ≡ Greater → ordering_then r s ≡ Less → ⊥
then_greater r s e f = (let g : ordering_then Greater s ≡ Less = subst (λ x. ordering_then x s ≡ Less) e f in absurd cc)

left_behind : (container : List ℕ) (doc : Document) (docs : List Document) → slice_cmp nat_cmp doc.container container ≡ Greater
    → AllByRecursion (λ z. document_cmp doc z ≡ Less) docs → count_in container docs ≡ 0
left_behind container doc [] over above = refl
left_behind container doc (z ∷ docs) over above =
    count_in-cons container z docs ∙ rw (other (bytes_eq container z.container) refl, left_behind container doc docs over above.1) refl
  where
    other : (b : Bool) → bytes_eq container z.container ≡ b → bytes_eq container z.container ≡ false
    other false e = e
    other true e =
        let same : container ≡ z.container = (bytes_eq-Decides container z.container).0 e in
        absurd (then_greater (slice_cmp nat_cmp doc.container z.container) _ (subst (λ c. slice_cmp nat_cmp doc.container c ≡ Greater) same over) above.0)

-- ---- a container's run, and what follows

-- no container has too many documents, where one has some already
FewAfter : List ℕ → ℕ → List Document → Type 0
FewAfter container count docs = (other : List ℕ) → cond (bytes_eq container other) count 0 + count_in other docs ≤ MAX_DOCUMENTS

module _ {P : Type 0} where
  by_test : (b : Bool) → (b ≡ true → P) → (b ≡ false → P) → P
  by_test true yes_then no_then = yes_then refl
  by_test false yes_then no_then = no_then refl

equal_itself : (bytes : List ℕ) → bytes_eq bytes bytes ≡ true
equal_itself bytes = (bytes_eq-Decides bytes bytes).1 refl

equal_sym : (xs ys : List ℕ) → bytes_eq xs ys ≡ bytes_eq ys xs
equal_sym xs ys = by_test (bytes_eq xs ys)
    (λ e. e ∙ sym ((bytes_eq-Decides ys xs).1 (sym ((bytes_eq-Decides xs ys).0 e))))
    (λ e. e ∙ sym (by_test (bytes_eq ys xs) (λ f. absurd (apart e f)) (λ f. f)))
  where
    apart : bytes_eq xs ys ≡ false → bytes_eq ys xs ≡ true → ⊥
    apart e f = (let t = (bytes_eq-Decides xs ys).1 (sym ((bytes_eq-Decides ys xs).0 f)) in absurd cc)

equal_false : (xs ys : List ℕ) → bytes_eq xs ys ≡ false → bytes_eq ys xs ≡ false
equal_false xs ys e = equal_sym ys xs ∙ e

-- the container of a document has one more than before it
its_own : (container : List ℕ) (count : ℕ) (doc : Document) (docs : List Document)
    → cond (bytes_eq container doc.container) count 0 + count_in doc.container (doc ∷ docs) ≡ cond (bytes_eq doc.container doc.container) (run_before container count doc + 1) 0 + count_in doc.container docs
its_own container count doc docs =
    let more = count_in-cons doc.container doc docs in
    rw (more, equal_itself doc.container, equal_sym doc.container container) (omega arith)

-- another one has as many in the rest
another : (other : List ℕ) (doc : Document) (docs : List Document) → bytes_eq doc.container other ≡ false → count_in other (doc ∷ docs) ≡ count_in other docs
another other doc docs differs = count_in-cons other doc docs ∙ rw (equal_false doc.container other differs) (omega arith)

gone : (container : List ℕ) (doc : Document) (docs : List Document) → slice_cmp nat_cmp container doc.container ≢ Greater → bytes_eq doc.container container ≡ false
    → AllByRecursion (λ z. document_cmp doc z ≡ Less) docs → count_in container docs ≡ 0
gone container doc docs below differs above =
    let isnt : is_eq (slice_cmp nat_cmp container doc.container) ≡ false = is_eq-slice_cmp container doc.container ∙ equal_false doc.container container differs in
    left_behind container doc docs (reversed _ _ (nat_list_cmp_total.antisymm doc.container container) below isnt) above

few_before : (container : List ℕ) (count : ℕ) (doc : Document) (docs : List Document) → slice_cmp nat_cmp container doc.container ≢ Greater
    → AllByRecursion (λ z. document_cmp doc z ≡ Less) docs → count ≤ MAX_DOCUMENTS
    → FewAfter doc.container (run_before container count doc + 1) docs → FewAfter container count (doc ∷ docs)
unfolding FewAfter
few_before container count doc docs below above small rest other =
    by_test (bytes_eq doc.container other)
    (λ same. subst (λ c. cond (bytes_eq container c) count 0 + count_in c (doc ∷ docs) ≤ MAX_DOCUMENTS) ((bytes_eq-Decides doc.container other).0 same)
    (omega (arith, its_own container count doc docs, rest doc.container)))
    (λ differs. by_test (bytes_eq container other)
    (λ same. subst (λ c. cond (bytes_eq container c) count 0 + count_in c (doc ∷ docs) ≤ MAX_DOCUMENTS) ((bytes_eq-Decides container other).0 same)
    (left ((bytes_eq-Decides container other).0 same) differs))
    (λ apart. rw (apart, another other doc docs differs) (omega (arith, rw differs at (rest other)))))
  where
    left : container ≡ other → bytes_eq doc.container other ≡ false → cond (bytes_eq container container) count 0 + count_in container (doc ∷ docs) ≤ MAX_DOCUMENTS
    left same differs =
        let apart : bytes_eq doc.container container ≡ false = subst (λ c. bytes_eq doc.container c ≡ false) (sym same) differs in
        rw (equal_itself container, another container doc docs apart, gone container doc docs below apart above) (omega (arith, small))

few_behind : (container : List ℕ) (count : ℕ) (doc : Document) (docs : List Document) → FewAfter container count (doc ∷ docs) → FewAfter doc.container (run_before container count doc + 1) docs
unfolding FewAfter
few_behind container count doc docs few other =
    by_test (bytes_eq doc.container other)
    (λ same. subst (λ c. cond (bytes_eq doc.container c) (run_before container count doc + 1) 0 + count_in c docs ≤ MAX_DOCUMENTS) ((bytes_eq-Decides doc.container other).0 same)
    (omega (arith, its_own container count doc docs, few doc.container)))
    (λ differs. rw differs (omega (arith, few other, another other doc docs differs)))

few_runs : (container : List ℕ) (count : ℕ) (docs : List Document) → FewAfter container count docs → runs_fit container count docs ≡ true
unfolding FewAfter
few_runs container count [] few = refl
few_runs container count (doc ∷ docs) few =
    let rest = few_behind container count doc docs few in
    let here : run_before container count doc < MAX_DOCUMENTS = below rest in
    rw (lt-ltb _ _ here, few_runs doc.container (run_before container count doc + 1) docs rest) refl
  where
    below : FewAfter doc.container (run_before container count doc + 1) docs → run_before container count doc < MAX_DOCUMENTS
    below rest = omega (arith, rw (equal_itself doc.container) at (rest doc.container))

runs_few : (container : List ℕ) (count : ℕ) (docs : List Document) → IsBelow container docs → IsStrictlySortedBy document_cmp docs → count ≤ MAX_DOCUMENTS
    → runs_fit container count docs ≡ true → FewAfter container count docs
unfolding IsBelow IsStrictlySortedBy FewAfter
runs_few container count [] below up small fit = none_left
  where
    none_left : FewAfter container count []
    none_left other = by_test (bytes_eq container other) (λ e. rw e (omega (arith, small))) (λ e. rw e (omega arith))
runs_few container count (doc ∷ docs) below up small fit =
    let parts = and_parts (ltb (run_before container count doc) MAX_DOCUMENTS) (runs_fit doc.container (run_before container count doc + 1) docs) fit in
    let here = ltb-true _ _ parts.0 in
    few_before container count doc docs below.0 up.0 small
    (runs_few doc.container (run_before container count doc + 1) docs (below_rest doc docs up.0) up.1 (omega (arith, here)) parts.1)

-- ---- all documents

pub few_from_runs : (docs : List Document) → AreInOrder docs → runs_fit [] 0 docs ≡ true → AreFew docs
unfolding FewAfter
few_from_runs docs up fit container = omega (arith, runs_few [] 0 docs (below_first docs) up (omega arith) fit container)

pub runs_from_few : (docs : List Document) → AreFew docs → runs_fit [] 0 docs ≡ true
unfolding FewAfter
runs_from_few docs few = few_runs [] 0 docs few_after
  where
    few_after : FewAfter [] 0 docs
    few_after other = by_test (bytes_eq [] other) (λ e. rw e (omega (arith, few other))) (λ e. rw e (omega (arith, few other)))
