-- The numbers that digits stand for.
use Rattle.std.proofs.Common.{◌≡◌, ◌+◌, ◌*◌, ◌<◌, ◌≤◌, ℕ, false, List, [], ◌∷◌, length, get_or, drop, ap, sym, ◌∙◌, arith, leb}
use Rattle.std.proofs.Math.Nat.{mul-le-mul_right}
use Rattle.std.proofs.lemmas.Bool.{lt-leb}
use Rattle.std.proofs.lemmas.List.{drop_more}
use Rattle.java_model.specs.Bindings.Conditionals.{digit_value, digits_value}

-- More digits make no number smaller.
pub at_least : (base value : ℕ) (cs : List ℕ) → 1 ≤ base → value ≤ digits_value base value cs
at_least base value [] h = omega arith
at_least base value (c ∷ cs) h =
    let e = at_least base (base * value + digit_value c) cs h in
    let m : 1 * value ≤ base * value = mul-le-mul_right value h in
    omega (arith, e, m)

-- One digit more makes a number too large.
pub too_large : (base value bound digit : ℕ) (ds : List ℕ) (i : ℕ) → 1 ≤ base → i < length ds → digit ≡ digit_value (get_or ds i 0) → bound < base * value + digit
    → digits_value base value (drop i ds) ≡ digits_value base 0 ds → false ≡ leb (digits_value base 0 ds) bound
too_large base value bound digit ds i some within at more left =
    let least = at_least base (base * value + digit) (drop (i + 1) ds) some in
    let same : digits_value base (base * value + digit) (drop (i + 1) ds) ≡ digits_value base 0 ds =
    ap (λ d. digits_value base (base * value + d) (drop (i + 1) ds)) at
    ∙ sym (ap (digits_value base value) (drop_more ds i 0 within)) ∙ left in
    sym (lt-leb (digits_value base 0 ds) bound (omega (arith, least, same, more)))
