-- Numbers that were sorted, as those of live entries, each once.
use Rattle.std.proofs.Common.{◌≡◌, ◌≢◌, inl, inr, ℕ, zero, suc, ◌+◌, ◌-◌, ◌<◌, ◌≤◌, Bool, true, false, cond, List, [], ◌∷◌, ◌++◌, length, get_or, drop, refl, sym, ap, ◌∙◌, arith, length-drop}
use Rattle.std.specs.Prelude.{◌&&◌, ◌||◌, ◌==◌, filter}
use Rattle.std.specs.List.Sorted.{IsNonDecreasing, IsPermutation}
use Rattle.std.proofs.lemmas.List.Sorted.{list_any-IsPermutation}
use Rattle.std.proofs.lemmas.List.Folds.{list_any_at}
use Rattle.std.proofs.Math.ListN.{drop_of_length-le}
use Rattle.std.proofs.lemmas.Bool.{eqb-true}
use Rattle.std.proofs.lemmas.List.{append-nil, drop_more, get_or-drop}
use Rattle.disk_index.specs.Part.{numbers_from}
use Rattle.disk_index.specs.Named.{has, IsPushed}

or_none : (a b : Bool) → a ≡ false → (a || b) ≡ b
or_none false b e = refl
or_none true b e = absurd cc

and_none : (a b : Bool) → b ≡ false → (a && b) ≡ false
and_none true b e = e
and_none false b e = refl

apart_test : (x k : ℕ) → x ≢ k → (x == k) ≡ false
apart_test x k apart = elim (x == k) as (λ b. (x == k) ≡ b → b ≡ false) [
  | true ↦ λ t. absurd (apart (eqb-true x k t))
  | false ↦ λ f. refl
] refl

-- what isn't at any place isn't there
not_there : (xs : List ℕ) (k : ℕ) → ((i : ℕ) → i < length xs → get_or xs i 0 ≢ k) → has xs k ≡ false
not_there [] k apart = refl
not_there (x ∷ xs) k apart =
    or_none (x == k) (has xs k) (apart_test x k (apart 0 (omega arith))) ∙ not_there xs k (λ i inside. apart (suc i) (omega arith))

-- smaller numbers than one of a sorted list don't stand from its place on
below_rest : (hits : List ℕ) (i k : ℕ) → IsNonDecreasing hits → i < length hits → k < get_or hits i 0 → has (drop i hits) k ≡ false
below_rest hits i k sorted inside low =
    not_there (drop i hits) k (λ j there. let at : get_or (drop i hits) j 0 ≡ get_or hits (i + j) 0 = get_or-drop i hits j 0 in
    let le : get_or hits i 0 ≤ get_or hits (i + j) 0 = sorted i (i + j) 0 (omega arith) (omega (arith, length-drop i hits)) in
    omega (arith, at))

-- ---- numbers of entries in order

numbers_both : (m a b : ℕ) → numbers_from m (a + b) ≡ numbers_from m a ++ numbers_from (m + a) b
numbers_both m zero b =
    let e : 0 + b ≡ b = omega arith in
    let f : m ≡ m + 0 = omega arith in
    (λ i. numbers_from (f i) (e i))
numbers_both m (suc a) b =
    let e : suc a + b ≡ suc (a + b) = omega arith in
    let f : suc m + a ≡ m + suc a = omega arith in
    ap (numbers_from m) e ∙ ap (λ (t : List ℕ). m ∷ t) (numbers_both (suc m) a b ∙ ap (λ (k : ℕ). numbers_from (suc m) a ++ numbers_from k b) f)

filter-append : (p : ℕ → Bool) (xs ys : List ℕ) → filter p (xs ++ ys) ≡ filter p xs ++ filter p ys
filter-append p [] ys = refl
filter-append p (x ∷ xs) ys = by_test (p x) x (filter p (xs ++ ys)) (filter p xs) (filter p ys) (filter-append p xs ys)
  where
    by_test : (b : Bool) (x : ℕ) (all front rest : List ℕ) → all ≡ front ++ rest → cond b (x ∷ all) all ≡ cond b (x ∷ front) front ++ rest
    by_test true x all front rest e = ap (λ (t : List ℕ). x ∷ t) e
    by_test false x all front rest e = e

none_chosen : (p : ℕ → Bool) (m n : ℕ) → ((k : ℕ) → m ≤ k → k < m + n → p k ≡ false) → filter p (numbers_from m n) ≡ []
none_chosen p m zero none = refl
none_chosen p m (suc n) none = rw (none m (omega arith) (omega arith)) (none_chosen p (suc m) n (λ k low high. none k (omega arith) (omega arith)))

-- the numbers below one are chosen up to it, and it is
chosen_to : (p : ℕ → Bool) (next x : ℕ) → next ≤ x → ((k : ℕ) → next ≤ k → k < x → p k ≡ false) → filter p (numbers_from 0 (suc x)) ≡ filter p (numbers_from 0 next) ++ cond (p x) (x ∷ []) []
chosen_to p next x le none =
    let split : suc x ≡ next + ((x - next) + 1) = omega arith in
    let at : next + (x - next) ≡ x = omega arith in
    let start : 0 + next ≡ next = omega arith in
    let middle : filter p (numbers_from next (x - next)) ≡ [] = none_chosen p next (x - next) (λ k low high. none k low (omega arith)) in
    ap (λ (n : ℕ). filter p (numbers_from 0 n)) split ∙ ap (filter p) (numbers_both 0 next ((x - next) + 1)) ∙ filter-append p (numbers_from 0 next) (numbers_from (0 + next) ((x - next) + 1))
    ∙ ap (λ (n : ℕ). filter p (numbers_from 0 next) ++ filter p (numbers_from n ((x - next) + 1))) start
    ∙ ap (λ (l : List ℕ). filter p (numbers_from 0 next) ++ filter p l) (numbers_both next (x - next) 1)
    ∙ ap (λ (l : List ℕ). filter p (numbers_from 0 next) ++ l) (filter-append p (numbers_from next (x - next)) (numbers_from (next + (x - next)) 1)
    ∙ (λ i. middle i ++ filter p (numbers_from (at i) 1)))

-- what a loop over the sorted numbers keeps
pub record Chosen (live : List Bool) (hits rest numbers : List ℕ) (next : ℕ) : Type 0 where
  pub within : next ≤ length live
  pub chosen : numbers ≡ filter (λ n. get_or live n false && has hits n) (numbers_from 0 next)
  pub later : (k : ℕ) → next ≤ k → has hits k ≡ has rest k

pub chosen_begins : (live : List Bool) (hits numbers : List ℕ) → numbers ≡ [] → Chosen live hits (drop 0 hits) numbers 0
chosen_begins live hits numbers none = record { within = omega arith; chosen = none; later = λ k le. refl }

same_false : (a b : Bool) (c : Bool) → a ≡ b → b ≡ false → (c && a) ≡ false
same_false a b c e f = and_none c a (e ∙ f)

same_test : (n : ℕ) → (n == n) ≡ true
same_test n = grind arith

and_true : (a : Bool) → (a && true) ≡ a
and_true true = refl
and_true false = refl

pub chosen_goes_on : (live : List Bool) (hits numbers new : List ℕ) (next i after x : ℕ) → IsNonDecreasing hits → i < length hits → x ≡ get_or hits i 0 → x < length live → IsPushed live next x numbers new after
    → Chosen live hits (drop i hits) numbers next → Chosen live hits (drop (i + 1) hits) new after
chosen_goes_on live hits numbers new next i after x sorted inside x-is below pushed so_far = either pushed
  where
    rest : drop i hits ≡ x ∷ drop (i + 1) hits
    rest = drop_more hits i 0 inside ∙ ap (λ (n : ℕ). n ∷ drop (i + 1) hits) (sym x-is)

    past : (k : ℕ) → next ≤ k → x < k → has hits k ≡ has (drop (i + 1) hits) k
    past k le lt = so_far.later k le ∙ ap (λ (l : List ℕ). has l k) rest ∙ or_none (x == k) (has (drop (i + 1) hits) k) (apart_test x k (omega arith))

    either : IsPushed live next x numbers new after → Chosen live hits (drop (i + 1) hits) new after
    either (inl skipped) = record {
      within = omega (arith, skipped.1, so_far.within);
      chosen = skipped.2 ∙ so_far.chosen ∙ ap (λ (n : ℕ). filter (λ k. get_or live k false && has hits k) (numbers_from 0 n)) (sym skipped.1);
      later = λ k le. past k (omega (arith, skipped.1)) (omega (arith, skipped.0, skipped.1));
    }
    either (inr taken) =
        let here : has hits x ≡ true = so_far.later x taken.0 ∙ ap (λ (l : List ℕ). has l x) rest ∙ ap (λ (b : Bool). b || has (drop (i + 1) hits) x) (same_test x) in
        let test : (get_or live x false && has hits x) ≡ get_or live x false = ap (λ (b : Bool). get_or live x false && b) here ∙ and_true (get_or live x false) in
        record {
          within = omega (arith, taken.1);
          chosen =
              taken.2 ∙ (λ j. so_far.chosen j ++ cond (sym test j) (x ∷ []) [])
              ∙ sym (chosen_to (λ k. get_or live k false && has hits k) next x taken.0
              (λ k low high. same_false (has hits k) (has (drop i hits) k) (get_or live k false) (so_far.later k low) (below_rest hits i k sorted inside (omega (arith, x-is)))))
              ∙ ap (λ (n : ℕ). filter (λ k. get_or live k false && has hits k) (numbers_from 0 n)) (sym taken.1);
          later = λ k le. past k (omega (arith, taken.0, taken.1)) (omega (arith, taken.1));
        }

filter_same : (p q : ℕ → Bool) (xs : List ℕ) → ((n : ℕ) → p n ≡ q n) → filter p xs ≡ filter q xs
filter_same p q [] same = refl
filter_same p q (x ∷ xs) same = λ i. cond (same x i) (x ∷ filter_same p q xs same i) (filter_same p q xs same i)

-- all were looked at; the numbers were sorted from some others
pub chosen_ends : (live : List Bool) (hits given numbers : List ℕ) (next i : ℕ) → length hits ≤ i → ((k : ℕ) → has given k ≡ has hits k) → Chosen live hits (drop i hits) numbers next
    → numbers ≡ filter (λ n. get_or live n false && has given n) (numbers_from 0 (length live))
chosen_ends live hits given numbers next i end same so_far =
    let split : length live ≡ next + (length live - next) = omega (arith, so_far.within) in
    let start : 0 + next ≡ next = omega arith in
    let none : drop i hits ≡ [] = drop_of_length-le hits end in
    let p : ℕ → Bool = λ n. get_or live n false && has hits n in
    let others : filter p (numbers_from next (length live - next)) ≡ [] =
    none_chosen p next (length live - next) (λ k low high. and_none (get_or live k false) (has hits k) (so_far.later k low ∙ ap (λ (l : List ℕ). has l k) none)) in
    so_far.chosen ∙ sym (append-nil (filter p (numbers_from 0 next))) ∙ ap (λ (l : List ℕ). filter p (numbers_from 0 next) ++ l) (sym others)
    ∙ ap (λ (n : ℕ). filter p (numbers_from 0 next) ++ filter p (numbers_from n (length live - next))) (sym start)
    ∙ sym (filter-append p (numbers_from 0 next) (numbers_from (0 + next) (length live - next))) ∙ ap (filter p) (sym (numbers_both 0 next (length live - next)))
    ∙ ap (λ (n : ℕ). filter p (numbers_from 0 n)) (sym split)
    ∙ filter_same p (λ n. get_or live n false && has given n) (numbers_from 0 (length live)) (λ n. ap (λ (b : Bool). get_or live n false && b) (sym (same n)))

-- each sorted number is one of those that were given
pub there : (given hits : List ℕ) (i : ℕ) → i < length hits → IsPermutation given hits → has given (get_or hits i 0) ≡ true
there given hits i inside moved = list_any-IsPermutation (λ n. n == get_or hits i 0) given hits moved ∙ list_any_at (λ n. n == get_or hits i 0) hits i 0 inside (same_test (get_or hits i 0))

pub same_hits : (given hits : List ℕ) (k : ℕ) → IsPermutation given hits → has given k ≡ has hits k
same_hits given hits k moved = list_any-IsPermutation (λ n. n == k) given hits moved
