-- The first field of a key, as its bytes up to the first `/`.
use Rattle.std.proofs.Common.{◌≡◌, ℕ, suc, ◌+◌, Bool, true, false, cond, List, [], ◌∷◌, length, take, refl, sym, ap, ◌∙◌, arith}
use Rattle.std.specs.Prelude.{◌==◌, not, take_while}
use Rattle.std.specs.List.{prefix_len}
use Rattle.index_keys.specs.Fields.{first_field}

while_goes_on : (p : ℕ → Bool) (x : ℕ) (xs : List ℕ) → p x ≡ true → take_while p (x ∷ xs) ≡ x ∷ take_while p xs
while_goes_on p x xs e =
    let one : 1 + prefix_len p xs ≡ suc (prefix_len p xs) = omega arith in
    ap (λ (b : Bool). take (cond b (1 + prefix_len p xs) 0) (x ∷ xs)) e ∙ ap (λ (n : ℕ). take n (x ∷ xs)) one

while_stops : (p : ℕ → Bool) (x : ℕ) (xs : List ℕ) → p x ≡ false → take_while p (x ∷ xs) ≡ []
while_stops p x xs e = ap (λ (b : Bool). take (cond b (1 + prefix_len p xs) 0) (x ∷ xs)) e

abbrev is_inside : ℕ → Bool
is_inside b = not (b == 47)

pub field_is : (text : List ℕ) → take_while (λ b. not (b == 47)) text ≡ first_field text
field_is [] = refl
field_is (b ∷ text) = by_test (b == 47) refl (field_is text)
  where
    ended : (t : Bool) → (b == 47) ≡ t → cond t [] (b ∷ first_field text) ≡ cond (b == 47) [] (b ∷ first_field text)
    ended t e = sym (ap (λ (s : Bool). cond s [] (b ∷ first_field text)) e)

    by_test : (t : Bool) → (b == 47) ≡ t → take_while is_inside text ≡ first_field text
        → take_while is_inside (b ∷ text) ≡ cond (b == 47) [] (b ∷ first_field text)
    by_test true e same = while_stops is_inside b text (ap not e) ∙ ended true e
    by_test false e same = while_goes_on is_inside b text (ap not e) ∙ ap (λ (l : List ℕ). b ∷ l) same ∙ ended false e

pub field_taken : (text : List ℕ) → take (length (first_field text)) text ≡ first_field text
field_taken [] = refl
field_taken (b ∷ text) = by_test (b == 47) (first_field text) (field_taken text)
  where
    by_test : (t : Bool) (field : List ℕ) → take (length field) text ≡ field
        → take (length (cond t [] (b ∷ field))) (b ∷ text) ≡ cond t [] (b ∷ field)
    by_test true field e = refl
    by_test false field e = ap (λ (l : List ℕ). b ∷ l) e
