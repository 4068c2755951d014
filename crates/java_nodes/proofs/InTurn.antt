-- Parts that are laid in turn into one list, by number.
use Rattle.std.proofs.Common.{◌≡◌, ◌+◌, ◌-◌, ◌<◌, ◌≤◌, ℕ, zero, suc, List, [], ◌∷◌, ◌++◌, length, map, slice_get, refl, ap, ◌∙◌, append_assoc, arith}
use Rattle.std.proofs.lemmas.List.{length-map}

first : {X : Type 0} (xs ys : List X) (n : ℕ) → n < length xs → slice_get (xs ++ ys) n ≡ slice_get xs n
first [] ys n h = absurd (omega (arith, h))
first (x ∷ xs) ys zero h = refl
first (x ∷ xs) ys (suc n) h = first xs ys n (omega (arith, h))

rest : {X : Type 0} (xs ys : List X) (k : ℕ) → slice_get (xs ++ ys) (length xs + k) ≡ slice_get ys k
rest [] ys k = let e : 0 + k ≡ k = omega arith in ap (slice_get ys) e
rest (x ∷ xs) ys k = let e : length (x ∷ xs) + k ≡ suc (length xs + k) = omega arith in ap (slice_get (x ∷ (xs ++ ys))) e ∙ rest xs ys k

pub within : {A X : Type 0} (f : A → X) (xs : List A) (ys : List X) (n : ℕ) → n < length xs → slice_get (map f xs ++ ys) n ≡ slice_get (map f xs) n
within f xs ys n h = first (map f xs) ys n (omega (arith, h, length-map xs f))

pub beyond : {A X : Type 0} (f : A → X) (xs : List A) (ys : List X) (n : ℕ) → length xs ≤ n → slice_get (map f xs ++ ys) n ≡ slice_get ys (n - length xs)
beyond f xs ys n h =
    let e : n ≡ length (map f xs) + (n - length xs) = omega (arith, h, length-map xs f) in
    ap (slice_get (map f xs ++ ys)) e ∙ rest (map f xs) ys (n - length xs)

-- four lists in turn
pub four : {X : Type 0} (ws xs ys zs : List X) (n : ℕ) → slice_get (ws ++ xs ++ ys ++ zs) n ≡ slice_get (ws ++ (xs ++ (ys ++ zs))) n
four ws xs ys zs n = ap (λ l. slice_get l n) (append_assoc (ws ++ xs) ys zs ∙ append_assoc ws xs (ys ++ zs))
