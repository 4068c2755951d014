-- The number of a type, where the types stand in the order of their `{`.
use Rattle.std.proofs.Common.{◌≡◌, ◌↔◌, ◌+◌, ◌-◌, ◌<◌, ◌≤◌, ◌==◌, ℕ, zero, suc, Bool, true, false, IsTrue, cond, nat_lt, nat_cmp, List, [], ◌∷◌, Some, None, length, get_or, inl, inr, refl, sym, ap, ◌∙◌, subst, tests, ltb-true, le-ltb, lt-ltb, eq-eqb, ne_eqb, arith}
use Rattle.std.specs.List.{HoldsAt, IsAllAdjacentAnswer}
use Rattle.std.specs.List.Sorted.{IsNonDecreasingBy, IsPartitionPoint}
use Rattle.std.specs.Ordering.{ordering_index, MatchOrdering}
use Rattle.std.specs.declared.cmp.Ordering.TheVariants.{Less, Equal, Greater}
use Rattle.std.proofs.lemmas.Bool.{cases_lt}
use Rattle.std.proofs.lemmas.List.Sums.{position_or_len_is}
use Rattle.std.specs.Cmp.{ranks}
use Rattle.std.proofs.Math.Nat.{eq-or-lt_of_le}
use Rattle.java_tree.specs.declared.unit.TypeDecl.{TypeDecl}
use Rattle.java_model.specs.Tree.Children.{number_of}
use Rattle.java_nodes.specs.Holes.{AreInOrder}

-- each is below those after it, where each is below the next
apart : (ts : List TypeDecl) → ((k : ℕ) (d : TypeDecl) → k + 1 < length ts → (get_or ts k d).brace < (get_or ts (k + 1) d).brace)
    → (m i j : ℕ) (d : TypeDecl) → j ≡ i + 1 + m → j < length ts → (get_or ts i d).brace < (get_or ts j d).brace
apart ts h zero i j d e lt =
    let next : j ≡ i + 1 = omega (arith, e) in
    subst (λ k. (get_or ts i d).brace < (get_or ts k d).brace) (sym next) (h i d (omega (arith, next, lt)))
apart ts h (suc m) i j d e lt =
    let last : j ≡ i + 1 + m + 1 = omega (arith, e) in
    let before = apart ts h m i (i + 1 + m) d refl (omega (arith, last, lt)) in
    let step = h (i + 1 + m) d (omega (arith, last, lt)) in
    subst (λ k. (get_or ts i d).brace < (get_or ts k d).brace) (sym last) (omega (arith, before, step))

out_of_order : (ts : List TypeDecl) (k : ℕ) → k + 1 < length ts → ((d : TypeDecl) → false ≡ nat_lt (get_or ts k d).brace (get_or ts (k + 1) d).brace)
    → AreInOrder ts → false ≡ true
out_of_order [] k h f o = absurd (omega (arith, h))
out_of_order (t ∷ ts) k h f o =
    let before : k < k + 1 = omega arith in
    f t ∙ lt-ltb (get_or (t ∷ ts) k t).brace (get_or (t ∷ ts) (k + 1) t).brace (o k (k + 1) t before h)

pub in_order : (ts : List TypeDecl) (r : Bool) → IsAllAdjacentAnswer (λ x y b. b ≡ nat_lt x.brace y.brace) ts r → IsTrue r ↔ AreInOrder ts
in_order ts true h = (
  (λ t i j d lt within. apart ts (λ k e l. ltb-true _ _ (sym (h k e l))) (j - (i + 1)) i j d (omega (arith, lt)) within),
  λ o. refl,
)
in_order ts false h = ((λ t. cc), λ o. out_of_order ts h.0 h.1 h.2 o)

equal : (a b : ℕ) → nat_cmp a b ≡ Equal → a ≡ b
equal a b e = subst (λ o. MatchOrdering o (a < b) (a ≡ b) (b < a)) e (ranks a b)

less : (a b : ℕ) → nat_cmp a b ≡ Less → a < b
less a b e = subst (λ o. MatchOrdering o (a < b) (a ≡ b) (b < a)) e (ranks a b)

greater : (a b : ℕ) → nat_cmp a b ≡ Greater → b < a
greater a b e = subst (λ o. MatchOrdering o (a < b) (a ≡ b) (b < a)) e (ranks a b)

higher : (a b x : ℕ) → a ≤ b → ordering_index (nat_cmp a x) ≤ ordering_index (nat_cmp b x)
higher a b x le = grind (arith, tests)

rises : (ts : List TypeDecl) (x : ℕ) → AreInOrder ts → IsNonDecreasingBy (λ t. ordering_index (nat_cmp t.brace x)) ts
rises ts x o i j d le lt = elim (eq-or-lt_of_le le)
    as (λ _. ordering_index (nat_cmp (get_or ts i d).brace x) ≤ ordering_index (nat_cmp (get_or ts j d).brace x)) [
      | inl e ↦ higher (get_or ts i d).brace (get_or ts j d).brace x (let same = ap (λ n. (get_or ts n d).brace) e in omega (arith, same))
      | inr h ↦ higher (get_or ts i d).brace (get_or ts j d).brace x (let b = o i j d h lt in omega (arith, b))
    ]

found_at : (ts : List TypeDecl) (d : TypeDecl) (x i : ℕ) → AreInOrder ts → i < length ts → HoldsAt (λ t. nat_cmp t.brace x ≡ Equal) ts i
    → Some i ≡ number_of ts x
found_at ts d x i o within h =
    let here = equal (get_or ts i d).brace x (h d) in
    let first = position_or_len_is (λ t. t.brace == x) ts i d (omega (arith, within))
    (λ k lt. ne_eqb (get_or ts k d).brace x (λ q. let lower = o k i d lt within in absurd (omega (arith, lower, here, q))))
    (λ _. eq-eqb (get_or ts i d).brace x here) in
    let test : nat_lt i (length ts) ≡ true = lt-ltb i (length ts) within in
    sym (ap (λ n. cond (nat_lt n (length ts)) (Some n) None) first ∙ ap (λ b. cond b (Some i) None) test)

pub found : (ts : List TypeDecl) (x i : ℕ) → AreInOrder ts → i < length ts → HoldsAt (λ t. nat_cmp t.brace x ≡ Equal) ts i → Some i ≡ number_of ts x
found [] x i o within h = absurd (omega (arith, within))
found (t ∷ ts) x i o within h = found_at (t ∷ ts) t x i o within h

none_at : (ts : List TypeDecl) (d : TypeDecl) (x i : ℕ)
    → IsPartitionPoint (λ t. nat_cmp t.brace x ≡ Less) (λ t. nat_cmp t.brace x ≡ Greater) ts i → None ≡ number_of ts x
none_at ts d x i parted =
    let all : length ts ≤ length ts = omega arith in
    let first = position_or_len_is (λ t. t.brace == x) ts (length ts) d all
    (λ k h. ne_eqb (get_or ts k d).brace x (λ q. elim (cases_lt k i) as (λ _. ⊥) [
      | inl lt ↦ let lower = less (get_or ts k d).brace x (parted.0 k d (omega arith) lt) in absurd (omega (arith, lower, q))
      | inr le ↦ let upper = greater (get_or ts k d).brace x (parted.1 k d le h) in absurd (omega (arith, upper, q))
    ]))
    (λ h. absurd (omega (arith, h))) in
    let test : nat_lt (length ts) (length ts) ≡ false = le-ltb (length ts) (length ts) all in
    sym (ap (λ n. cond (nat_lt n (length ts)) (Some n) None) first ∙ ap (λ b. cond b (Some (length ts)) None) test)

pub none : (ts : List TypeDecl) (x i : ℕ) → AreInOrder ts
    → (IsNonDecreasingBy (λ t. ordering_index (nat_cmp t.brace x)) ts
    → IsPartitionPoint (λ t. nat_cmp t.brace x ≡ Less) (λ t. nat_cmp t.brace x ≡ Greater) ts i)
    → None ≡ number_of ts x
none [] x i o h = refl
none (t ∷ ts) x i o h = none_at (t ∷ ts) t x i (h (rises (t ∷ ts) x o))
