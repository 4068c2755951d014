-- Which members a list has, and lists of them that rise.
use Rattle.std.proofs.Common.{◌≡◌, ℕ, ◌==◌, ◌&&◌, ◌||◌, Bool, true, false, cond, List, [], ◌∷◌, ◌++◌, filter, Contains, inl, inr, refl, sym, ap, ◌∙◌, subst, arith, true≢false}
use Rattle.std.specs.Cmp.{IsTotalOrder, IsEquivalence}
use Rattle.std.specs.List.{AllByRecursion, dedup, list_any}
use Rattle.std.specs.List.Sorted.{IsPermutation, IsSorted, IsStrictlySortedBy}
use Rattle.std.specs.Ordering.{eq_by_cmp, is_eq, nat_cmp, ordering_then}
use Rattle.std.specs.declared.cmp.Ordering.{Ordering}
use Rattle.std.specs.declared.cmp.Ordering.TheVariants.{Less, Equal, Greater}
use Rattle.std.proofs.lemmas.Bool.{and_from, and_parts, eq-eqb, eqb-true, ne_eqb, or_cases}
use Rattle.std.proofs.lemmas.Cmp.{by_ranked, nat_cmp_total, on_total, ranked, then_total, tied_itself}
use Rattle.std.proofs.lemmas.List.Folds.{list_any-append}
use Rattle.std.proofs.lemmas.List.Kept.{Contains-dedup, Contains-from_dedup, IsStrictlySortedBy-dedup}
use Rattle.std.proofs.lemmas.List.Sorted.{Contains-permutation, IsPermutation-sym}
use Rattle.std.proofs.lemmas.Map.Views.{Contains-from_any, list_any-from_Contains}
use Rattle.java_model.specs.Names.Lists.{is_among}
use Rattle.java_members.specs.Members.{Rising, Same, order, same_member}
use Rattle.java_members.specs.declared.member.Member.{Member}

-- ---- one member

pub sound : (m n : Member) → same_member m n ≡ true → m ≡ n
sound m n e =
    let p = and_parts (m.of == n.of) (m.place == n.place) e in
    let of = eqb-true m.of n.of p.0 in
    let place = eqb-true m.place n.place p.1 in
    λ i. record { of = of i; place = place i }

pub alike : (m : Member) → same_member m m ≡ true
alike m = and_from (m.of == m.of) (m.place == m.place) (eq-eqb m.of m.of refl) (eq-eqb m.place m.place refl)

other-way : (m n : Member) → same_member m n ≡ true → same_member n m ≡ true
other-way m n e = subst (λ k. same_member k m ≡ true) (sound m n e) (alike m)

same-test : (s t : Bool) → (s ≡ true → t ≡ true) → (t ≡ true → s ≡ true) → s ≡ t
same-test true t f g = sym (f refl)
same-test false true f g = g refl
same-test false false f g = refl

pub equivalence : IsEquivalence same_member
equivalence = record {
  refl = alike;
  symm = λ m n. same-test (same_member m n) (same_member n m) (other-way m n) (other-way n m);
  congr = λ m n k e. ap (λ x. same_member x k) (sound m n e);
}

-- ---- which members a list has

pub same-refl : (ms : List Member) → Same ms ms
same-refl ms = record { each = λ m. refl }

pub same-if : (ms ns : List Member) → ms ≡ ns → Same ms ns
same-if ms ns e = record { each = λ m. ap (is_among same_member m) e }

pub same-back : (ms ns : List Member) → Same ms ns → Same ns ms
same-back ms ns s = record { each = λ m. sym (s.each m) }

pub same-both : (ms ns ks : List Member) → Same ms ns → Same ns ks → Same ms ks
same-both ms ns ks s t = record { each = λ m. s.each m ∙ t.each m }

pub same-append : (ms ns ks ls : List Member) → Same ms ns → Same ks ls → Same (ms ++ ks) (ns ++ ls)
same-append ms ns ks ls s t = record {
  each = λ m.
      list_any-append (same_member m) ms ks ∙ ap (λ b. b || is_among same_member m ks) (s.each m) ∙ ap (λ b. is_among same_member m ns || b) (t.each m)
      ∙ sym (list_any-append (same_member m) ns ls);
}

pub among-filter : (q : Member → Bool) (m : Member) (ms : List Member) → is_among same_member m (filter q ms) ≡ (q m && is_among same_member m ms)
among-filter q m [] = by (q m)
  where
    by : (b : Bool) → false ≡ (b && false)
    by true = refl
    by false = refl
among-filter q m (n ∷ ms) = by (same_member m n) (q n) (q m) refl refl refl (among-filter q m ms)
  where
    alike-pass : same_member m n ≡ true → q m ≡ q n
    alike-pass e = ap q (sound m n e)

    by : (e a b : Bool) → same_member m n ≡ e → q n ≡ a → q m ≡ b → is_among same_member m (filter q ms) ≡ (b && is_among same_member m ms)
        → list_any (same_member m) (cond a (n ∷ filter q ms) (filter q ms)) ≡ (b && (e || is_among same_member m ms))
    by true true true he ha hb h = ap (λ x. x || is_among same_member m (filter q ms)) he
    by true true false he ha hb h = absurd (true≢false (sym ha ∙ sym (alike-pass he) ∙ hb))
    by true false true he ha hb h = absurd (true≢false (sym hb ∙ alike-pass he ∙ ha))
    by true false false he ha hb h = h
    by false true b he ha hb h = ap (λ x. x || is_among same_member m (filter q ms)) he ∙ h
    by false false b he ha hb h = h

pub same-filter : (q : Member → Bool) (ms ns : List Member) → Same ms ns → Same (filter q ms) (filter q ns)
same-filter q ms ns s = record { each = λ m. among-filter q m ms ∙ ap (λ b. q m && b) (s.each m) ∙ sym (among-filter q m ns) }

-- ---- the order

pub total : IsTotalOrder order
total = then_total (on_total (λ m. m.of) nat_cmp_total) (on_total (λ m. m.place) nat_cmp_total)

tied : (a b : ℕ) → is_eq (nat_cmp a b) ≡ (a == b)
tied a b = by_ranked _ _ _ (nat_cmp a b) (ranked a b (nat_cmp a b) refl)
    (λ e l. ap is_eq e ∙ sym (ne_eqb a b (λ q. absurd (omega (arith, l, q)))))
    (λ e q. ap is_eq e ∙ sym (eq-eqb a b q))
    (λ e g. ap is_eq e ∙ sym (ne_eqb a b (λ q. absurd (omega (arith, g, q)))))

then-tied : (o p : Ordering) → is_eq (ordering_then o p) ≡ (is_eq o && is_eq p)
then-tied Less p = refl
then-tied Equal p = refl
then-tied Greater p = refl

pub ties : (m n : Member) → same_member m n ≡ eq_by_cmp order m n
ties m n = sym (then-tied (nat_cmp m.of n.of) (nat_cmp m.place n.place) ∙ ap (λ b. b && is_eq (nat_cmp m.place n.place)) (tied m.of n.of) ∙ ap (λ b. (m.of == n.of) && b) (tied m.place n.place))

not-before-itself : (m : Member) → order m m ≡ Less → ⊥
not-before-itself m e = let q = tied_itself total m in cc

not-both : (m n : Member) → order m n ≡ Less → order n m ≡ Less → ⊥
not-both m n a b = not-before-itself m (total.trans m n m a b)

-- ---- lists that rise

of-all : (P : Member → Type 0) (ms : List Member) → AllByRecursion P ms → (n : Member) → is_among same_member n ms ≡ true → P n
of-all P [] a n h = absurd (true≢false (sym h))
of-all P (m ∷ ms) a n h = elim (or_cases (same_member n m) (list_any (same_member n) ms) h) [
  | inl e ↦ subst P (sym (sound n m e)) a.0
  | inr e ↦ of-all P ms a.1 n e
]

pub rising : (ms : List Member) → IsStrictlySortedBy order ms → Rising ms
unfolding IsStrictlySortedBy
rising [] s = tt
rising (m ∷ ms) s = (of-all (λ y. order m y ≡ Less) ms s.0, rising ms s.1)

second : (a b : Bool) → b ≡ true → (a || b) ≡ true
second true b h = refl
second false b h = h

among-kept : (q : Member → Bool) (n : Member) (ms : List Member) → is_among same_member n (filter q ms) ≡ true → is_among same_member n ms ≡ true
among-kept q n ms h = (and_parts (q n) (is_among same_member n ms) (sym (among-filter q n ms) ∙ h)).1

pub rising-filter : (q : Member → Bool) (ms : List Member) → Rising ms → Rising (filter q ms)
rising-filter q [] r = tt
rising-filter q (m ∷ ms) r = by (q m) (rising-filter q ms r.1)
  where
    by : (b : Bool) → Rising (filter q ms) → Rising (cond b (m ∷ filter q ms) (filter q ms))
    by true f = (λ n h. r.0 n (among-kept q n ms h), f)
    by false f = f

first : (m : Member) (ms : List Member) → is_among same_member m (m ∷ ms) ≡ true
first m ms = ap (λ b. b || list_any (same_member m) ms) (alike m)

-- none stands in a list after itself
not-later : (m : Member) (ms : List Member) → Rising (m ∷ ms) → is_among same_member m ms ≡ true → ⊥
not-later m ms r h = not-before-itself m (r.0 m h)

same-first : (m n : Member) (ms ns : List Member) → Rising (m ∷ ms) → Rising (n ∷ ns) → Same (m ∷ ms) (n ∷ ns) → m ≡ n
same-first m n ms ns r t s =
    elim (or_cases (same_member m n) (list_any (same_member m) ns) (sym (s.each m) ∙ first m ms)) [
      | inl e ↦ sound m n e
      | inr e ↦ elim (or_cases (same_member n m) (list_any (same_member n) ms) (s.each n ∙ first n ns)) [
        | inl f ↦ sym (sound n m f)
        | inr f ↦ absurd (not-both m n (r.0 n f) (t.0 m e))
      ]
    ]

same-rest : (m : Member) (ms ns : List Member) → Rising (m ∷ ms) → Rising (m ∷ ns) → Same (m ∷ ms) (m ∷ ns) → Same ms ns
same-rest m ms ns r t s = record { each = λ k. by k (same_member k m) refl }
  where
    off : (b : Bool) → (b ≡ true → ⊥) → b ≡ false
    off true h = absurd (h refl)
    off false h = refl

    by : (k : Member) (b : Bool) → same_member k m ≡ b → is_among same_member k ms ≡ is_among same_member k ns
    by k true e =
        let is = sound k m e in
        ap (λ x. is_among same_member x ms) is ∙ off (is_among same_member m ms) (not-later m ms r) ∙ sym (off (is_among same_member m ns) (not-later m ns t))
        ∙ ap (λ x. is_among same_member x ns) (sym is)
    by k false e = ap (λ b. b || is_among same_member k ms) (sym e) ∙ s.each k ∙ ap (λ b. b || is_among same_member k ns) e

-- Lists that rise and have the same members are the same.
pub same-list : (ms ns : List Member) → Rising ms → Rising ns → Same ms ns → ms ≡ ns
same-list [] [] r t s = refl
same-list [] (n ∷ ns) r t s = absurd (true≢false (sym (first n ns) ∙ sym (s.each n)))
same-list (m ∷ ms) [] r t s = absurd (true≢false (sym (first m ms) ∙ s.each m))
same-list (m ∷ ms) (n ∷ ns) r t s =
    let e = same-first m n ms ns r t s in
    let r2 = subst (λ x. Rising (x ∷ ms)) e r in
    let s2 = subst (λ x. Same (x ∷ ms) (n ∷ ns)) e s in
    ap (λ x. x ∷ ms) e ∙ ap (λ xs. n ∷ xs) (same-list ms ns r2.1 t.1 (same-rest n ms ns r2 t s2))

-- ---- sorted, each once

pub sorted-rises : (ms ns : List Member) → IsSorted order ms → ns ≡ dedup same_member ms → Rising ns
sorted-rises ms ns s e = subst Rising (sym e) (rising (dedup same_member ms) (IsStrictlySortedBy-dedup total ties ms s))

pub sorted-same : (ms sorted ns : List Member) → IsPermutation ms sorted → ns ≡ dedup same_member sorted → Same ns ms
sorted-same ms sorted ns p e = record {
  each = λ m. same-test (is_among same_member m ns) (is_among same_member m ms)
      (λ h. list_any-from_Contains equivalence m ms (Contains-permutation sorted ms m (IsPermutation-sym ms sorted p) (Contains-from_dedup same_member sorted m (subst (λ xs. Contains xs m) e (Contains-from_any sound m ns h)))))
      (λ h. list_any-from_Contains equivalence m ns (subst (λ xs. Contains xs m) (sym e) (Contains-dedup equivalence sound sorted m (Contains-permutation ms sorted m p (Contains-from_any sound m ms h)))));
}
