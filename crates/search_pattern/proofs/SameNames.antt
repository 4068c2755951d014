-- Names compared from their start.
use Rattle.std.proofs.Common.{◌≡◌, ℕ, suc, ◌<◌, ◌≤◌, Bool, true, false, ◌&&◌, List, [], ◌∷◌, length, drop, get_or, refl, ap, arith, drop-cons}
use Rattle.std.proofs.lemmas.List.{drop_all}
use Rattle.java_model.specs.SearchPattern.NameMatch.{is_same, is_exact, is_prefix}

pub prefix_past : (case : Bool) (ps ns : List ℕ) (i : ℕ) → i < length ps → length ns ≤ i → is_prefix case (drop i ps) (drop i ns) ≡ false
prefix_past case ps ns i h k = rw (drop_all i ns k, drop-cons ps i 0 h) refl

and_no : (b : Bool) → (b && false) ≡ false
and_no true = refl
and_no false = refl

pub prefix_stops : (case : Bool) (ps ns : List ℕ) (i : ℕ) → i < length ps → i < length ns →
    is_same case (get_or ps i 0) (get_or ns i 0) ≡ false → is_prefix case (drop i ps) (drop i ns) ≡ false
prefix_stops case ps ns i h k e = rw (drop-cons ps i 0 h, drop-cons ns i 0 k) (rw e refl)

pub exact_of_one_length : (case : Bool) (ps ns : List ℕ) → length ps ≡ length ns → is_exact case ps ns ≡ is_prefix case ps ns
exact_of_one_length case [] [] h = refl
exact_of_one_length case [] (n ∷ ns) h = absurd (omega (arith, h))
exact_of_one_length case (p ∷ ps) [] h = refl
exact_of_one_length case (p ∷ ps) (n ∷ ns) h = ap (λ b. is_same case p n && b) (exact_of_one_length case ps ns (omega (arith, h)))

pub exact_of_other_length : (case : Bool) (ps ns : List ℕ) → (length ps ≡ length ns → ⊥) → is_exact case ps ns ≡ false
exact_of_other_length case [] [] h = absurd (h refl)
exact_of_other_length case [] (n ∷ ns) h = refl
exact_of_other_length case (p ∷ ps) [] h = refl
exact_of_other_length case (p ∷ ps) (n ∷ ns) h =
    rw (exact_of_other_length case ps ns (λ e. h (ap suc e))) (and_no (is_same case p n))
