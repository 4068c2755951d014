-- The last element of a list, and those before it.
use Rattle.std.proofs.Common.{◌≡◌, ◌+◌, ℕ, zero, suc, List, [], ◌∷◌, length, get_or, take, refl, ap, arith}
use Rattle.java_model.specs.Grammar.Forms.{last_or}
use Rattle.java_model.specs.Names.Lists.{Identifiers}
use Rattle.java_model.specs.Bindings.Chains.{but_last}

pub get_or-last_or : {A : Type 0} → (d e : A) (xs : List A) (n : ℕ) → length xs ≡ n + 1 → get_or xs n e ≡ last_or d xs
get_or-last_or d e [] n h = absurd (omega (arith, h))
get_or-last_or d e (x ∷ []) zero h = refl
get_or-last_or d e (x ∷ []) (suc n) h = absurd (omega (arith, h))
get_or-last_or d e (x ∷ y ∷ ys) zero h = absurd (omega (arith, h))
get_or-last_or d e (x ∷ y ∷ ys) (suc n) h = get_or-last_or d e (y ∷ ys) n (omega (arith, h))

pub take-but_last : (xs : Identifiers) (n : ℕ) → length xs ≡ n + 1 → take n xs ≡ but_last xs
take-but_last [] n h = absurd (omega (arith, h))
take-but_last (x ∷ []) zero h = refl
take-but_last (x ∷ []) (suc n) h = absurd (omega (arith, h))
take-but_last (x ∷ y ∷ ys) zero h = absurd (omega (arith, h))
take-but_last (x ∷ y ∷ ys) (suc n) h = ap (λ zs. x ∷ zs) (take-but_last (y ∷ ys) n (omega (arith, h)))
