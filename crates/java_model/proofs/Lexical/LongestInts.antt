-- What is read at a digit is no shorter than any integer literal there, and of its kind.
use Rattle.std.proofs.Common.{◌≡◌, ℕ, suc, ◌+◌, ◌<◌, ◌≤◌, ◌⊎◌, Bool, true, false, cond, ◌&&◌, ◌||◌, ◌==◌, List, [], ◌∷◌, ◌++◌, length, drop, codes, refl, sym, ap, ◌∙◌, inl, inr, arith, true≢false, append_assoc, length-append, nat_lt, ltb-true, eqb-true}
use Rattle.std.specs.List.{list_all}
use Rattle.std.proofs.lemmas.Bool.{cond_both, and_parts, or_cases}
use Rattle.std.proofs.lemmas.Bool.Decides.{nat_tests}
use Rattle.java_tree.specs.declared.token.TokenKind.TheVariants.{IntLit, LongLit}
use Rattle.java_model.specs.Lexical.Characters.{is_one_of, is_digit, is_octal_digit, is_hex_digit, full_stop, is_nonzero_digit}
use Rattle.java_model.specs.Lexical.Numbers.{is_run, is_decimal, is_hex, is_octal, is_numeral, IsLongLiteral}
use Rattle.java_model.specs.Lexical.Elements.{Element}
use Rattle.java_model.specs.Lexical.Elements.Element.{token}
use Rattle.java_model.proofs.Lexical.Reading.{Found, run, begins, exponent_length, is_f, is_d, is_l, float_suffix, float_end, int_end, has_float_end, octal, after_digits, decimal, is_hexed, hexed, number}
use Rattle.java_model.proofs.Lexical.Reading.Found.{found, nothing}
use Rattle.java_model.proofs.Lexical.Classes.{all_parts}
use Rattle.java_model.proofs.Lexical.Runs.{run-front, run-exact, drop-run-exact}
use Rattle.java_model.proofs.Lexical.Longest.{Within, Within-le}
use Rattle.java_model.proofs.Lexical.LongestFloats.{is_x, number_decimal}

-- what is found is longer than m
abbrev pub Above : ℕ → Found → Type 0
Above m (found k n) = m < n
Above m nothing = ⊥

pub Above-Within : (e : Element) (m : ℕ) (f : Found) → Above m f → Within e m f
Above-Within e m (found k n) h = inl h
Above-Within e m nothing h = h

above_suffix : (m n : ℕ) (rest : List ℕ) → m < n → Above m (float_suffix n rest)
above_suffix m n rest h =
    cond_both (begins is_f rest) _ _ (Above m) (λ _. omega arith) (λ _. cond_both (begins is_d rest) _ _ (Above m) (λ _. omega arith) (λ _. h))

pub above_end : (m n : ℕ) (rest : List ℕ) → m < n → Above m (float_end n rest)
above_end m n rest h = above_suffix m (n + exponent_length rest) (drop (exponent_length rest) rest) (omega arith)

suffix_follows : (m n : ℕ) (rest : List ℕ) → m ≤ n → (begins is_f rest ≡ true) ⊎ (begins is_d rest ≡ true) → Above m (float_suffix n rest)
suffix_follows m n rest h (inl f) = rw f (omega arith)
suffix_follows m n rest h (inr d) = cond_both (begins is_f rest) _ _ (Above m) (λ _. omega arith) (λ _. rw d (omega arith))

-- what makes digits floating makes the literal longer than they are
end_follows : (m n : ℕ) (rest : List ℕ) → m ≤ n → (exponent_length rest ≡ 0) ⊎ (0 < exponent_length rest) → (begins is_f rest ≡ true) ⊎ (begins is_d rest ≡ true) → Above m (float_end n rest)
end_follows m n rest h (inl none) s = rw none (suffix_follows m (n + 0) rest (omega arith) s)
end_follows m n rest h (inr some) s = above_suffix m (n + exponent_length rest) (drop (exponent_length rest) rest) (omega arith)

zero_or_more : (n : ℕ) → (n ≡ 0) ⊎ (0 < n)
zero_or_more n = grind arith

above_float : (m n : ℕ) (rest : List ℕ) → m ≤ n → has_float_end rest ≡ true → Above m (float_end n rest)
above_float m n rest h makes = elim (or_cases (nat_lt 0 (exponent_length rest) || begins is_f rest) (begins is_d rest) makes) [
  | inl either ↦ first (or_cases (nat_lt 0 (exponent_length rest)) (begins is_f rest) either)
  | inr d ↦ end_follows m n rest h (zero_or_more (exponent_length rest)) (inr d)
]
  where
    first : (nat_lt 0 (exponent_length rest) ≡ true) ⊎ (begins is_f rest ≡ true) → Above m (float_end n rest)
    first (inl some) = above_suffix m (n + exponent_length rest) (drop (exponent_length rest) rest) (omega (arith, ltb-true 0 (exponent_length rest) some))
    first (inr f) = end_follows m n rest h (zero_or_more (exponent_length rest)) (inl f)

int_within : (m n : ℕ) (rest : List ℕ) → m ≤ n → Within (token IntLit) m (int_end n rest)
int_within m n rest h = cond_both (begins is_l rest) _ _ (Within (token IntLit) m) (λ _. inl (omega arith)) (λ _. Within-le (token IntLit) m n h)

-- decimal digits, which are octal behind a 0

record ArePlain (c : ℕ) (p : List ℕ) : Type 0 where
  digits : list_all is_digit p ≡ true
  octal : c ≡ 48 → list_all is_octal_digit p ≡ true

plain_after : (c : ℕ) (p rest : List ℕ) → ArePlain c p → Within (token IntLit) (suc (length p)) (decimal c (p ++ rest))
plain_after c p rest plain =
    let cs : List ℕ = p ++ rest in
    let n : ℕ = run is_digit (p ++ rest) in
    let t : List ℕ = drop (run is_digit (p ++ rest)) (p ++ rest) in
    let l : length p ≤ run is_digit (p ++ rest) = run-front is_digit p rest plain.digits in
    cond_both (begins (λ x. x == full_stop) t) _ _ (Within (token IntLit) (suc (length p))) (λ _. Above-Within (token IntLit) (suc (length p)) _ (above_end (suc (length p)) (suc (suc n) + run is_digit (drop 1 t)) (drop (run is_digit (drop 1 t)) (drop 1 t)) (omega arith))) (λ _.
    cond_both (has_float_end t) _ _ (Within (token IntLit) (suc (length p))) (λ made. Above-Within (token IntLit) (suc (length p)) _ (above_float (suc (length p)) (suc n) t (omega arith) made)) (λ _.
    cond_both (c == 48) _ _ (Within (token IntLit) (suc (length p))) (λ nought. int_within (suc (length p)) (suc (run is_octal_digit cs)) (drop (run is_octal_digit cs) cs) (omega (arith, run-front is_octal_digit p rest (plain.octal (eqb-true c 48 nought))))) (λ _.
    int_within (suc (length p)) (suc n) t (omega arith))))

digit_no_x : (d : ℕ) → is_digit d ≡ true → is_x d ≡ false
digit_no_x d h = grind (arith, nat_tests)

plain_hexed : (c : ℕ) (p rest : List ℕ) → ArePlain c p → is_hexed c (p ++ rest) ≡ true → Within (token IntLit) (suc (length p)) (hexed (drop 1 (p ++ rest)))
plain_hexed c [] rest plain h = int_within 1 (suc (suc (run is_hex_digit (drop 1 rest)))) (drop (run is_hex_digit (drop 1 rest)) (drop 1 rest)) (omega arith)
plain_hexed c (d ∷ p) rest plain h =
    let d_digit : is_digit d ≡ true = (all_parts is_digit d p plain.digits).0 in
    let x : is_x d ≡ true = (and_parts (c == 48) (is_x d) (and_parts (c == 48 && is_x d) _ h).0).1 in
    absurd (true≢false (sym x ∙ digit_no_x d d_digit))

plain_number : (c : ℕ) (p rest : List ℕ) → ArePlain c p → Within (token IntLit) (suc (length p)) (number c (p ++ rest))
plain_number c p rest plain =
    cond_both (is_hexed c (p ++ rest)) _ _ (Within (token IntLit) (suc (length p))) (plain_hexed c p rest plain) (λ _. plain_after c p rest plain)

-- a numeral is plain digits, or hexadecimal

record AreHexed (c : ℕ) (p : List ℕ) : Type 0 where
  x : ℕ
  digits : List ℕ
  nought : c ≡ 48
  same : p ≡ x ∷ digits
  marked : is_x x ≡ true
  some : is_run is_hex_digit digits ≡ true

digit_at : (c : ℕ) → is_one_of (codes "0") c ≡ true → c ≡ 48
digit_at c h = grind (arith, nat_tests)

octal_is_digit : (c : ℕ) → is_octal_digit c ≡ true → is_digit c ≡ true
octal_is_digit c h = grind (arith, nat_tests)

octals_are_digits : (p : List ℕ) → list_all is_octal_digit p ≡ true → list_all is_digit p ≡ true
octals_are_digits [] h = refl
octals_are_digits (d ∷ p) h =
    let parts = all_parts is_octal_digit d p h in
    rw (octal_is_digit d parts.0) (octals_are_digits p parts.1)

run_all : (test : ℕ → Bool) (p : List ℕ) → is_run test p ≡ true → list_all test p ≡ true
run_all test [] h = refl
run_all test (d ∷ p) h = h

not_nought : (c : ℕ) → is_nonzero_digit c ≡ true → c ≡ 48 → ⊥
not_nought c h e = grind (arith, nat_tests)

decimal_plain : (c : ℕ) (p : List ℕ) → is_decimal (c ∷ p) ≡ true → ArePlain c p
decimal_plain c [] h = record { digits = refl; octal = λ _. refl }
decimal_plain c (d ∷ p) h =
    let parts = and_parts (is_nonzero_digit c) (is_run is_digit (d ∷ p)) h in
    record { digits = parts.1; octal = λ e. absurd (not_nought c parts.0 e) }

octal_plain : (c : ℕ) (p : List ℕ) → is_octal (c ∷ p) ≡ true → ArePlain c p
octal_plain c p h =
    let all = run_all is_octal_digit p (and_parts (is_one_of (codes "0") c) (is_run is_octal_digit p) h).1 in
    record { digits = octals_are_digits p all; octal = λ _. all }

hex_hexed : (c : ℕ) (p : List ℕ) → is_hex (c ∷ p) ≡ true → AreHexed c p
hex_hexed c [] h = absurd (true≢false (sym h))
hex_hexed c (x ∷ p) h =
    let parts = and_parts (is_one_of (codes "0") c && is_x x) (is_run is_hex_digit p) h in
    let marks = and_parts (is_one_of (codes "0") c) (is_x x) parts.0 in
    record { x = x; digits = p; nought = digit_at c marks.0; same = refl; marked = marks.1; some = parts.1 }

numeral_forms : (c : ℕ) (p : List ℕ) → is_numeral (c ∷ p) ≡ true → ArePlain c p ⊎ AreHexed c p
numeral_forms c p h = elim (or_cases (is_decimal (c ∷ p) || is_hex (c ∷ p)) (is_octal (c ∷ p)) h) [
  | inl either ↦ first (or_cases (is_decimal (c ∷ p)) (is_hex (c ∷ p)) either)
  | inr o ↦ inl (octal_plain c p o)
]
  where
    first : (is_decimal (c ∷ p) ≡ true) ⊎ (is_hex (c ∷ p) ≡ true) → ArePlain c p ⊎ AreHexed c p
    first (inl d) = inl (decimal_plain c p d)
    first (inr x) = inr (hex_hexed c p x)

-- hexadecimal digits

run_begins : (test : ℕ → Bool) (p rest : List ℕ) → is_run test p ≡ true → begins test (p ++ rest) ≡ true
run_begins test [] rest h = absurd (true≢false (sym h))
run_begins test (d ∷ p) rest h = (all_parts test d p h).0

hexed_read : (c x : ℕ) (digits rest : List ℕ) → c ≡ 48 → is_x x ≡ true → is_run is_hex_digit digits ≡ true → number c (x ∷ (digits ++ rest)) ≡ hexed (digits ++ rest)
hexed_read c x digits rest e m h = rw (e, m, run_begins is_hex_digit digits rest h) refl

hexed_number : (c : ℕ) (p rest : List ℕ) → AreHexed c p → Within (token IntLit) (suc (length p)) (number c (p ++ rest))
hexed_number c p rest h =
    let r = hexed_read c h.x h.digits rest h.nought h.marked h.some in
    rw (h.same, r) (int_within (suc (suc (length h.digits))) (suc (suc (run is_hex_digit (h.digits ++ rest)))) (drop (run is_hex_digit (h.digits ++ rest)) (h.digits ++ rest))
    (omega (arith, run-front is_hex_digit h.digits rest (run_all is_hex_digit h.digits h.some))))

pub int_number : (c : ℕ) (p rest : List ℕ) → is_numeral (c ∷ p) ≡ true → Within (token IntLit) (suc (length p)) (number c (p ++ rest))
int_number c p rest h = elim (numeral_forms c p h) [ inl plain ↦ plain_number c p rest plain | inr hex ↦ hexed_number c p rest hex ]

-- with the suffix

record IsLetterL (l : ℕ) : Type 0 where
  is : is_l l ≡ true
  digit : is_digit l ≡ false
  octal : is_octal_digit l ≡ false
  hex : is_hex_digit l ≡ false
  x : is_x l ≡ false
  point : l == full_stop ≡ false
  exponent : is_one_of (codes "eE") l ≡ false
  f : is_f l ≡ false
  d : is_d l ≡ false

letter_l : (l : ℕ) → is_l l ≡ true → IsLetterL l
letter_l l h = record {
  is = h;
  digit = grind (arith, nat_tests);
  octal = grind (arith, nat_tests);
  hex = grind (arith, nat_tests);
  x = grind (arith, nat_tests);
  point = grind (arith, nat_tests);
  exponent = grind (arith, nat_tests);
  f = grind (arith, nat_tests);
  d = grind (arith, nat_tests);
}

long_after : (c n : ℕ) (cs : List ℕ) (l : ℕ) (rest : List ℕ) → IsLetterL l → after_digits c n cs (l ∷ rest) ≡ cond (c == 48) (octal cs) (found (token LongLit) (suc n))
long_after c n cs l rest is = rw (is.point, is.exponent, is.f, is.d, is.is) refl

octal_long : (w : List ℕ) (l : ℕ) (rest : List ℕ) → list_all is_octal_digit w ≡ true → IsLetterL l → octal (w ++ l ∷ rest) ≡ found (token LongLit) (suc (suc (length w)))
octal_long w l rest h is = rw (drop-run-exact is_octal_digit w (l ∷ rest) h is.octal, run-exact is_octal_digit w (l ∷ rest) h is.octal, is.is) refl

plain_long : (c : ℕ) (w : List ℕ) (l : ℕ) (rest : List ℕ) → ArePlain c w → IsLetterL l → number c (w ++ l ∷ rest) ≡ found (token LongLit) (suc (suc (length w)))
plain_long c w l rest plain is =
    rw (number_decimal c w (l ∷ rest) plain.digits is.digit is.x, long_after c (suc (length w)) (w ++ l ∷ rest) l rest is)
    (cond_both (c == 48) _ _ (λ f. f ≡ found (token LongLit) (suc (suc (length w)))) (λ nought. octal_long w l rest (plain.octal (eqb-true c 48 nought)) is) (λ _. refl))

hexed_long : (c : ℕ) (w : List ℕ) (l : ℕ) (rest : List ℕ) → AreHexed c w → IsLetterL l → number c (w ++ l ∷ rest) ≡ found (token LongLit) (suc (suc (length w)))
hexed_long c w l rest h is =
    let r = hexed_read c h.x h.digits (l ∷ rest) h.nought h.marked h.some in
    let all = run_all is_hex_digit h.digits h.some in
    rw (h.same, r, drop-run-exact is_hex_digit h.digits (l ∷ rest) all is.hex, run-exact is_hex_digit h.digits (l ∷ rest) all is.hex, is.is) refl

numeral_long : (c : ℕ) (w : List ℕ) (l : ℕ) (rest : List ℕ) → is_numeral (c ∷ w) ≡ true → is_l l ≡ true → number c (w ++ l ∷ rest) ≡ found (token LongLit) (suc (suc (length w)))
numeral_long c w l rest h is = elim (numeral_forms c w h) [ inl plain ↦ plain_long c w l rest plain (letter_l l is) | inr hex ↦ hexed_long c w l rest hex (letter_l l is) ]

long_spelled : (c : ℕ) (p numeral rest : List ℕ) (l : ℕ) → c ∷ p ≡ numeral ++ l ∷ [] → is_numeral numeral ≡ true → is_l l ≡ true → Within (token LongLit) (suc (length p)) (number c (p ++ rest))
long_spelled c p [] rest l e h is = absurd (true≢false (sym h))
long_spelled c p (d ∷ w) rest l e h is =
    let same_c : c ≡ d = cc in
    let same_p : p ≡ w ++ l ∷ [] = cc in
    let g : p ++ rest ≡ w ++ l ∷ rest = ap (λ x. x ++ rest) same_p ∙ append_assoc w (l ∷ []) rest in
    let n : suc (length p) ≡ suc (suc (length w)) = omega (arith, ap length same_p, length-append w (l ∷ [])) in
    rw (g, same_c, numeral_long d w l rest h is) (inr (n, refl))

pub long_number : (c : ℕ) (p rest : List ℕ) → IsLongLiteral (c ∷ p) → Within (token LongLit) (suc (length p)) (number c (p ++ rest))
long_number c p rest h = long_spelled c p h.numeral rest h.suffix h.spelled h.valid h.long

-- what an integer literal begins with

nought_digit : (c : ℕ) → is_one_of (codes "0") c ≡ true → is_digit c ≡ true
nought_digit c h = grind (arith, nat_tests)

nonzero_digit : (c : ℕ) → is_nonzero_digit c ≡ true → is_digit c ≡ true
nonzero_digit c h = grind (arith, nat_tests)

decimal_first : (c : ℕ) (p : List ℕ) → is_decimal (c ∷ p) ≡ true → is_digit c ≡ true
decimal_first c [] h = h
decimal_first c (d ∷ p) h = nonzero_digit c (and_parts (is_nonzero_digit c) (is_run is_digit (d ∷ p)) h).0

hex_first : (c : ℕ) (p : List ℕ) → is_hex (c ∷ p) ≡ true → is_digit c ≡ true
hex_first c [] h = absurd (true≢false (sym h))
hex_first c (x ∷ p) h = nought_digit c (and_parts (is_one_of (codes "0") c) (is_x x) (and_parts (is_one_of (codes "0") c && is_x x) (is_run is_hex_digit p) h).0).0

octal_first : (c : ℕ) (p : List ℕ) → is_octal (c ∷ p) ≡ true → is_digit c ≡ true
octal_first c p h = nought_digit c (and_parts (is_one_of (codes "0") c) (is_run is_octal_digit p) h).0

pub numeral_first : (c : ℕ) (p : List ℕ) → is_numeral (c ∷ p) ≡ true → is_digit c ≡ true
numeral_first c p h = elim (or_cases (is_decimal (c ∷ p) || is_hex (c ∷ p)) (is_octal (c ∷ p)) h) [
  | inl either ↦ first (or_cases (is_decimal (c ∷ p)) (is_hex (c ∷ p)) either)
  | inr o ↦ octal_first c p o
]
  where
    first : (is_decimal (c ∷ p) ≡ true) ⊎ (is_hex (c ∷ p) ≡ true) → is_digit c ≡ true
    first (inl d) = decimal_first c p d
    first (inr x) = hex_first c p x

long_begins : (c : ℕ) (p numeral : List ℕ) (l : ℕ) → c ∷ p ≡ numeral ++ l ∷ [] → is_numeral numeral ≡ true → is_digit c ≡ true
long_begins c p [] l e h = absurd (true≢false (sym h))
long_begins c p (d ∷ w) l e h = let same : c ≡ d = cc in rw same (numeral_first d w h)

pub long_first : (c : ℕ) (p : List ℕ) → IsLongLiteral (c ∷ p) → is_digit c ≡ true
long_first c p h = long_begins c p h.numeral h.suffix h.spelled h.valid
