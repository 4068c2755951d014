-- Numbers at a place are those of its characters.
use Rattle.std.proofs.Common.{◌≡◌, ℕ, suc, ◌+◌, Bool, true, false, cond, List, [], ◌∷◌, drop, refl, sym, ap, ap₂, ◌∙◌, arith, nat_lt}
use Rattle.std.proofs.lemmas.Bool.Decides.{nat_tests}
use Rattle.java_model.proofs.Lexical.Reading.{run, begins, sign_length, exponent_digits, exponent_length}
use Rattle.java_model.proofs.Lexical.Sound.{First, first_of_begins}
use Rattle.java_scan.specs.declared.class.Class.TheVariants.{ExponentMark, Sign, Digit}
use Rattle.java_scan.specs.Classes.{passes}
use Rattle.java_scan.specs.Place.{Place, next, advance, after_run}
use Rattle.java_scan.specs.Steps.{after_if, has_exponent, after_exponent}
use Rattle.java_scan.proofs.PlaceLaws.{advance-zero, advance-one, advance-advance, advance-left}

-- one character or none

pub step_length : (ℕ → Bool) → List ℕ → ℕ
step_length test cs = cond (begins test cs) 1 0

pub after_if-true : (test : ℕ → Bool) (p : Place) → begins test p.left ≡ true → after_if test p ≡ advance 1 p
unfolding after_if
after_if-true test p h = rw h (sym (advance-one p))

pub after_if-false : (test : ℕ → Bool) (p : Place) → begins test p.left ≡ false → after_if test p ≡ p
unfolding after_if
after_if-false test p h = rw h refl

pub after_if-advance : (test : ℕ → Bool) (p : Place) → after_if test p ≡ advance (cond (begins test p.left) 1 0) p
unfolding after_if
after_if-advance test p = by_test (begins test p.left)
  where
    by_test : (b : Bool) → cond b (next p) p ≡ advance (cond b 1 0) p
    by_test true = sym (advance-one p)
    by_test false = sym (advance-zero p)

pub begun : (test : ℕ → Bool) (cs : List ℕ) → begins test cs ≡ true → First test cs
begun test cs h = first_of_begins test cs h

-- exponents

pub no_mark : (p : Place) → begins (passes ExponentMark) p.left ≡ false → exponent_length p.left ≡ 0
unfolding passes
no_mark p h = by_cases p.left h
  where
    by_cases : (cs : List ℕ) → begins (passes ExponentMark) cs ≡ false → exponent_length cs ≡ 0
    by_cases [] h = refl
    by_cases (l ∷ cs) h = rw h refl

-- after the mark and the sign
sign_end : (p : Place) (l : ℕ) (cs : List ℕ) → p.left ≡ l ∷ cs → begins (passes ExponentMark) p.left ≡ true → after_if (passes Sign) (after_if (passes ExponentMark) p) ≡ advance (1 + sign_length cs) p
unfolding passes
sign_end p l cs e h =
    let one : after_if (passes ExponentMark) p ≡ advance 1 p = after_if-true (passes ExponentMark) p h in
    let left : (advance 1 p).left ≡ cs = advance-left 1 p ∙ ap (drop 1) e in
    ap (after_if (passes Sign)) one ∙ (after_if-advance (passes Sign) (advance 1 p) ∙ (ap (λ x. advance (sign_length x) (advance 1 p)) left ∙ advance-advance 1 (sign_length cs) p))

digits_left : (p : Place) (l : ℕ) (cs : List ℕ) → p.left ≡ l ∷ cs → begins (passes ExponentMark) p.left ≡ true → (after_if (passes Sign) (after_if (passes ExponentMark) p)).left ≡ drop (sign_length cs) cs
digits_left p l cs e h =
    let n : 1 + sign_length cs ≡ suc (sign_length cs) = omega arith in
    ap (λ q. q.left) (sign_end p l cs e h) ∙ (advance-left (1 + sign_length cs) p ∙ (ap (λ k. drop k p.left) n ∙ ap (drop (suc (sign_length cs))) e))

none_run : (test : ℕ → Bool) (cs : List ℕ) → begins test cs ≡ false → run test cs ≡ 0
none_run test [] h = refl
none_run test (c ∷ cs) h = rw h refl

pub suc_some : (n : ℕ) → nat_lt 0 (suc n) ≡ true
suc_some n = grind (arith, nat_tests)

some_run : (test : ℕ → Bool) (cs : List ℕ) → begins test cs ≡ true → nat_lt 0 (run test cs) ≡ true
some_run test [] h = cc
some_run test (c ∷ cs) h = rw h (suc_some (run test cs))

pub no_exponent_digits : (p : Place) → begins (passes ExponentMark) p.left ≡ true → begins (passes Digit) (after_if (passes Sign) (after_if (passes ExponentMark) p)).left ≡ false → exponent_length p.left ≡ 0
unfolding passes
no_exponent_digits p h none =
    let f = begun (passes ExponentMark) p.left h in
    let d : begins (passes Digit) (drop (sign_length f.tail) f.tail) ≡ false = ap (begins (passes Digit)) (sym (digits_left p f.head f.tail f.same h)) ∙ none in
    let n : exponent_digits f.tail ≡ 0 = none_run (passes Digit) (drop (sign_length f.tail) f.tail) d in
    ap exponent_length f.same ∙ rw (f.passes, n) refl

pub exponent_here : (p : Place) → begins (passes ExponentMark) p.left ≡ true → begins (passes Digit) (after_if (passes Sign) (after_if (passes ExponentMark) p)).left ≡ true
    → (nat_lt 0 (exponent_length p.left) ≡ true) × (after_run (passes Digit) (after_if (passes Sign) (after_if (passes ExponentMark) p)) ≡ advance (exponent_length p.left) p)
unfolding passes
exponent_here p h some =
    let f = begun (passes ExponentMark) p.left h in
    let s = sign_length f.tail in
    let left = digits_left p f.head f.tail f.same h in
    let d : begins (passes Digit) (drop s f.tail) ≡ true = ap (begins (passes Digit)) (sym left) ∙ some in
    let n : nat_lt 0 (exponent_digits f.tail) ≡ true = some_run (passes Digit) (drop s f.tail) d in
    let k : exponent_length p.left ≡ suc (s + exponent_digits f.tail) = ap exponent_length f.same ∙ rw (f.passes, n) refl in
    let sum : (1 + s) + exponent_digits f.tail ≡ suc (s + exponent_digits f.tail) = omega arith in
    let end : after_run (passes Digit) (after_if (passes Sign) (after_if (passes ExponentMark) p)) ≡ advance (exponent_digits f.tail) (advance (1 + s) p) = ap₂ (λ cs q. advance (run (passes Digit) cs) q) left (sign_end p f.head f.tail f.same h) in
    (ap (nat_lt 0) k ∙ suc_some (s + exponent_digits f.tail), end ∙ (advance-advance (1 + s) (exponent_digits f.tail) p ∙ (ap (λ m. advance m p) sum ∙ ap (λ m. advance m p) (sym k))))

-- what is read of an exponent

pub none_has : (p : Place) → exponent_length p.left ≡ 0 → has_exponent p ≡ false
unfolding has_exponent
none_has p e = ap (nat_lt 0) e

pub none_after : (p : Place) → exponent_length p.left ≡ 0 → after_exponent p ≡ p
unfolding after_exponent
none_after p e = ap (λ n. advance n p) e ∙ advance-zero p

pub some_has : (p : Place) → nat_lt 0 (exponent_length p.left) ≡ true → has_exponent p ≡ true
unfolding has_exponent
some_has p e = e

pub some_after : (p q : Place) → q ≡ advance (exponent_length p.left) p → q ≡ after_exponent p
unfolding after_exponent
some_after p q e = e
