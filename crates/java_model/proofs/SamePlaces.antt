-- Two lists of all places name the same occurrences, in some order.
use Rattle.std.proofs.Common.{◌≡◌, ℕ, zero, suc, ◌+◌, Bool, true, false, ◌&&◌, cond, List, [], ◌∷◌, ◌++◌, Option, refl, ap, sym, subst, ◌∙◌, arith, append_assoc}
use Rattle.std.specs.List.Sorted.{IsPermutation}
use Rattle.std.proofs.lemmas.List.Sorted.{IsPermutation-refl, IsPermutation-append_comm, IsPermutation-append_left, IsPermutation-append_right, IsPermutation-trans}
use Rattle.java_model.specs.Places.{Rules, same_number, same_place, times, AreAll, LeadsTo, Name, no_paths, a_path}
use Rattle.java_model.proofs.DeclaredLaws.{both}
use Rattle.java_model.proofs.Places.{told, leads-unique}
use Rattle.java_model.proofs.Walks.{times-append, names-append}

same-number : (i j : ℕ) → same_number i j ≡ true → i ≡ j
same-number zero zero e = refl
same-number zero (suc j) e = absurd cc
same-number (suc i) zero e = absurd cc
same-number (suc i) (suc j) e = ap suc (same-number i j e)

same-place : (p q : List ℕ) → same_place p q ≡ true → p ≡ q
same-place [] [] e = refl
same-place [] (j ∷ q) e = absurd cc
same-place (i ∷ p) [] e = absurd cc
same-place (i ∷ p) (j ∷ q) e =
    let h = both (same_number i j) (same_place p q) e in
    ap (λ k. k ∷ p) (same-number i j h.0) ∙ ap (λ r. j ∷ r) (same-place p q h.1)

alike-number : (i : ℕ) → same_number i i ≡ true
alike-number zero = refl
alike-number (suc i) = alike-number i

alike-place : (p : List ℕ) → same_place p p ≡ true
alike-place [] = refl
alike-place (i ∷ p) = ap (λ b. b && same_place p p) (alike-number i) ∙ alike-place p

-- a path that stands in a list
record Split (p : List ℕ) (qs : List (List ℕ)) : Type 0 where
  before : List (List ℕ)
  after : List (List ℕ)
  is : qs ≡ before ++ p ∷ after

split-at : (p q : List ℕ) (qs : List (List ℕ)) (b : Bool) (n : ℕ) → same_place p q ≡ b → ((m : ℕ) → times p qs ≡ suc m → Split p qs)
    → cond b (suc (times p qs)) (times p qs) ≡ suc n → Split p (q ∷ qs)
split-at p q qs true n e more h = record { before = []; after = qs; is = ap (λ r. r ∷ qs) (sym (same-place p q e)) }
split-at p q qs false n e more h = let s = more n h in record { before = q ∷ s.before; after = s.after; is = ap (λ rs. q ∷ rs) s.is }

split : (p : List ℕ) (qs : List (List ℕ)) (n : ℕ) → times p qs ≡ suc n → Split p qs
split p [] n h = absurd (omega (arith, h))
split p (q ∷ qs) n h = split-at p q qs (same_place p q) n refl (split p qs) h

-- what the paths around one of them name
record Around {X V O : Type 0} (rules : Rules X V O) (leads : List ℕ → Option X) (p : List ℕ) (before after : List (List ℕ)) (os : List O) : Type 0 where
  item : X
  parts : List V
  first : List O
  rest : List O
  leads_to : LeadsTo rules leads p item parts
  name_first : Name rules leads before first
  name_rest : Name rules leads after rest
  is : first ++ (rules.names item parts ++ rest) ≡ os

around : {X V O : Type 0} (rules : Rules X V O) (leads : List ℕ → Option X) (p : List ℕ) (before after : List (List ℕ)) (os : List O)
    → Name rules leads (before ++ p ∷ after) os → Around rules leads p before after os
around rules leads p [] after os h =
    let t = told rules leads h in
    record { item = t.0; parts = t.1; first = []; rest = t.2; leads_to = t.3; name_first = no_paths; name_rest = t.4; is = t.5 }
around rules leads p (q ∷ before) after os h =
    let t = told rules leads h in
    let a = around rules leads p before after t.2 t.4 in
    record {
      item = a.item;
      parts = a.parts;
      first = rules.names t.0 t.1 ++ a.first;
      rest = a.rest;
      leads_to = a.leads_to;
      name_first = a_path q before t.0 t.1 a.first t.3 a.name_first;
      name_rest = a.name_rest;
      is = append_assoc (rules.names t.0 t.1) a.first (rules.names a.item a.parts ++ a.rest) ∙ (ap (λ rs. rules.names t.0 t.1 ++ rs) a.is ∙ t.5);
    }

-- each other path stands as often around it
less-one : (b : Bool) (t u v : ℕ) → cond b (suc t) t ≡ u + cond b (suc v) v → t ≡ u + v
less-one true t u v e = omega (arith, e)
less-one false t u v e = e

others : (p path : List ℕ) (ps before after : List (List ℕ)) → times path (p ∷ ps) ≡ times path (before ++ p ∷ after) → times path ps ≡ times path (before ++ after)
others p path ps before after e =
    less-one (same_place path p) (times path ps) (times path before) (times path after) (e ∙ times-append path before (p ∷ after))
    ∙ sym (times-append path before after)

no-path : (q : List ℕ) (qs : List (List ℕ)) → 0 ≡ times q (q ∷ qs) → ⊥
no-path q qs e = absurd (positive (times q qs) (e ∙ ap (λ b. cond b (suc (times q qs)) (times q qs)) (alike-place q)))
  where
    positive : (n : ℕ) → 0 ≡ suc n → ⊥
    positive n e = omega (arith, e)

moved : {O : Type 0} (n first rest found : List O) → IsPermutation found (first ++ rest) → IsPermutation (n ++ found) (first ++ (n ++ rest))
moved n first rest found h =
    IsPermutation-trans (n ++ found) (n ++ (first ++ rest)) (first ++ (n ++ rest))
    (IsPermutation-append_right n found (first ++ rest) h)
    (subst (λ os. IsPermutation os (first ++ (n ++ rest))) (append_assoc n first rest)
    (subst (λ os. IsPermutation ((n ++ first) ++ rest) os) (append_assoc first n rest)
    (IsPermutation-append_left rest (n ++ first) (first ++ n) (IsPermutation-append_comm n first))))

same-names : {X V O : Type 0} (rules : Rules X V O) (leads : List ℕ → Option X) (ps qs : List (List ℕ)) (os us : List O)
    → ((path : List ℕ) → times path ps ≡ times path qs) → Name rules leads ps os → Name rules leads qs us → IsPermutation os us
same-names rules leads [] [] os us e h k =
    subst (λ rs. IsPermutation rs us) (told rules leads h) (subst (λ rs. IsPermutation [] rs) (told rules leads k) (IsPermutation-refl []))
same-names rules leads [] (q ∷ qs) os us e h k = absurd (no-path q qs (e q))
same-names rules leads (p ∷ ps) qs os us e h k =
    let s = split p qs (times p ps) (sym (e p) ∙ ap (λ b. cond b (suc (times p ps)) (times p ps)) (alike-place p)) in
    let t = told rules leads h in
    let a = around rules leads p s.before s.after us (subst (λ rs. Name rules leads rs us) s.is k) in
    let rest = same-names rules leads ps (s.before ++ s.after) t.2 (a.first ++ a.rest)
    (λ path. others p path ps s.before s.after (e path ∙ ap (times path) s.is)) t.4 (names-append rules leads a.name_first a.name_rest) in
    let one = leads-unique rules leads p rules.names t.0 a.item t.1 a.parts t.3 a.leads_to in
    subst (λ rs. IsPermutation rs us) t.5
    (subst (λ rs. IsPermutation (rules.names t.0 t.1 ++ t.2) rs) (ap (λ n. a.first ++ (n ++ a.rest)) one ∙ a.is)
    (moved (rules.names t.0 t.1) a.first a.rest t.2 rest))

pub all-alike : {X V O : Type 0} (rules : Rules X V O) (leads : List ℕ → Option X) (ps qs : List (List ℕ)) (os us : List O)
    → AreAll leads ps → AreAll leads qs → Name rules leads ps os → Name rules leads qs us → IsPermutation os us
all-alike rules leads ps qs os us a b = same-names rules leads ps qs os us (λ path. a path ∙ sym (b path))
