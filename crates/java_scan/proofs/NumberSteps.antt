-- A number's step is the number that is read there.
use Rattle.std.proofs.Common.{◌≡◌, ℕ, suc, ◌+◌, Bool, true, false, cond, ◌&&◌, ◌==◌, List, ◌∷◌, drop, refl, ap, ◌∙◌, inl, inr, arith, nat_lt}
use Rattle.std.proofs.lemmas.Bool.{cases_Bool}
use Rattle.std.proofs.lemmas.Bool.Decides.{nat_tests}
use Rattle.java_tree.specs.declared.token.TokenKind.TheVariants.{IntLit, LongLit, FloatLit, DoubleLit, Symbol}
use Rattle.java_model.proofs.Lexical.Reading.{run, begins, exponent_length, float_suffix, float_end, int_end, fraction, octal, after_digits, decimal, is_hexed, hexed, number, point, has_float_end}
use Rattle.java_scan.specs.declared.class.Class.TheVariants.{Digit, OctalDigit, HexDigit, Zero, HexMark, FloatSuffix, DoubleSuffix, LongSuffix, Point}
use Rattle.java_scan.specs.Classes.{passes}
use Rattle.java_scan.specs.Place.{Place, advance, after_run}
use Rattle.java_scan.specs.Steps.{after_if, has_exponent, after_exponent, int_end_step, float_suffix_step, fraction_step, integer_step, whole_step, digits_step, decimal_step, sees_hex, number_step, point_step}
use Rattle.java_scan.specs.Steps.Step.{taken}
use Rattle.java_scan.specs.Next.{step_of}
use Rattle.java_scan.proofs.PlaceLaws.{advance-zero, advance-advance, advance-left}
use Rattle.java_scan.proofs.NumberLaws.{after_if-true, after_if-false}

-- a place n characters after p
abbrev pub IsAfter : Place → ℕ → Place → List ℕ → Type 0
IsAfter p n q rest = (q ≡ advance n p) × (q.left ≡ rest)

pub more : (p : Place) (n k : ℕ) (q : Place) (rest : List ℕ) → IsAfter p n q rest → IsAfter p (n + k) (advance k q) (drop k rest)
more p n k q rest is = (ap (advance k) is.0 ∙ advance-advance n k p, advance-left k q ∙ ap (drop k) is.1)

pub one_more : (p : Place) (n : ℕ) (q : Place) (rest : List ℕ) → IsAfter p n q rest → IsAfter p (suc n) (advance 1 q) (drop 1 rest)
one_more p n q rest is = let e : n + 1 ≡ suc n = omega arith in ((more p n 1 q rest is).0 ∙ ap (λ k. advance k p) e, (more p n 1 q rest is).1)

after_one : (p : Place) (n : ℕ) (q : Place) (rest : List ℕ) (test : ℕ → Bool) → IsAfter p n q rest → begins test rest ≡ true → after_if test q ≡ advance (suc n) p
after_one p n q rest test is h = after_if-true test q (ap (begins test) is.1 ∙ h) ∙ (one_more p n q rest is).0

after_none : (p : Place) (n : ℕ) (q : Place) (rest : List ℕ) (test : ℕ → Bool) → IsAfter p n q rest → begins test rest ≡ false → after_if test q ≡ q
after_none p n q rest test is h = after_if-false test q (ap (begins test) is.1 ∙ h)

int_end_is : (p : Place) (n : ℕ) (q : Place) (rest : List ℕ) → IsAfter p n q rest → int_end_step q ≡ step_of p (int_end n rest)
unfolding int_end_step passes
int_end_is p n q rest is = let b = ap (begins (passes LongSuffix)) is.1 in elim (cases_Bool (begins (passes LongSuffix) rest)) [
  | inl h ↦ let k = b ∙ h in rw (k, h) (ap (taken LongLit) (after_one p n q rest (passes LongSuffix) is h))
  | inr h ↦ let k = b ∙ h in rw (k, h) (ap (taken IntLit) (after_none p n q rest (passes LongSuffix) is h ∙ is.0))
]

float_suffix_is : (p : Place) (n : ℕ) (q : Place) (rest : List ℕ) → IsAfter p n q rest → float_suffix_step q ≡ step_of p (float_suffix n rest)
unfolding float_suffix_step passes
float_suffix_is p n q rest is = let b = ap (begins (passes FloatSuffix)) is.1 in elim (cases_Bool (begins (passes FloatSuffix) rest)) [
  | inl h ↦ let l = b ∙ h in rw (l, h) (ap (taken FloatLit) (after_one p n q rest (passes FloatSuffix) is h))
  | inr h ↦ let none = after_none p n q rest (passes FloatSuffix) is h in let l = b ∙ h in elim (cases_Bool (begins (passes DoubleSuffix) rest)) [
    | inl k ↦ rw (l, h, k) (ap (taken DoubleLit) (ap (after_if (passes DoubleSuffix)) none ∙ after_one p n q rest (passes DoubleSuffix) is k))
    | inr k ↦ rw (l, h, k) (ap (taken DoubleLit) (ap (after_if (passes DoubleSuffix)) none ∙ (after_none p n q rest (passes DoubleSuffix) is k ∙ is.0)))
  ]
]

after_exponent_is : (p : Place) (n : ℕ) (q : Place) (rest : List ℕ) → IsAfter p n q rest → IsAfter p (n + exponent_length rest) (after_exponent q) (drop (exponent_length rest) rest)
unfolding after_exponent
after_exponent_is p n q rest is = let m = more p n (exponent_length rest) q rest is in (ap (λ k. advance (exponent_length k) q) is.1 ∙ m.0, ap (λ k. (advance (exponent_length k) q).left) is.1 ∙ m.1)

after_run_is : (p : Place) (n : ℕ) (q : Place) (rest : List ℕ) (test : ℕ → Bool) → IsAfter p n q rest → IsAfter p (n + run test rest) (after_run test q) (drop (run test rest) rest)
after_run_is p n q rest test is = let m = more p n (run test rest) q rest is in (ap (λ k. advance (run test k) q) is.1 ∙ m.0, ap (λ k. (advance (run test k) q).left) is.1 ∙ m.1)

float_end_is : (p : Place) (n : ℕ) (q : Place) (rest : List ℕ) → IsAfter p n q rest → float_suffix_step (after_exponent q) ≡ step_of p (float_end n rest)
float_end_is p n q rest is = float_suffix_is p (n + exponent_length rest) (after_exponent q) (drop (exponent_length rest) rest) (after_exponent_is p n q rest is)

fraction_is : (p : Place) (n : ℕ) (q : Place) (rest : List ℕ) → IsAfter p n q rest → fraction_step q ≡ step_of p (fraction n rest)
unfolding fraction_step passes
fraction_is p n q rest is = float_end_is p (n + run (passes Digit) rest) (after_run (passes Digit) q) (drop (run (passes Digit) rest) rest) (after_run_is p n q rest (passes Digit) is)

-- whole numbers

octal_is : (p : Place) (c : ℕ) (cs : List ℕ) → p.left ≡ c ∷ cs → c == 48 ≡ true → int_end_step (after_run (passes OctalDigit) (after_if (passes Zero) p)) ≡ step_of p (octal cs)
unfolding passes
octal_is p c cs e h =
    let one : after_if (passes Zero) p ≡ advance 1 p = after_if-true (passes Zero) p (ap (begins (passes Zero)) e ∙ h) in
    let is : IsAfter p 1 (advance 1 p) cs = (refl, advance-left 1 p ∙ ap (drop 1) e) in
    let n : 1 + run (passes OctalDigit) cs ≡ suc (run (passes OctalDigit) cs) = omega arith in
    ap (λ q. int_end_step (after_run (passes OctalDigit) q)) one
    ∙ (int_end_is p (1 + run (passes OctalDigit) cs) (after_run (passes OctalDigit) (advance 1 p)) (drop (run (passes OctalDigit) cs) cs) (after_run_is p 1 (advance 1 p) cs (passes OctalDigit) is)
    ∙ ap (λ k. step_of p (int_end k (drop (run (passes OctalDigit) cs) cs))) n)

integer_is : (p : Place) (c : ℕ) (cs : List ℕ) (n : ℕ) (q : Place) (rest : List ℕ) → p.left ≡ c ∷ cs → IsAfter p n q rest → integer_step p q ≡ step_of p (cond (c == 48) (octal cs) (int_end n rest))
unfolding integer_step passes
integer_is p c cs n q rest e is = elim (cases_Bool (c == 48)) [
  | inl h ↦ let z : begins (passes Zero) p.left ≡ true = ap (begins (passes Zero)) e ∙ h in rw (z, h) (octal_is p c cs e h)
  | inr h ↦ let z : begins (passes Zero) p.left ≡ false = ap (begins (passes Zero)) e ∙ h in rw (z, h) (int_end_is p n q rest is)
]

no_more : (n : ℕ) → nat_lt 0 n ≡ false → n ≡ 0
no_more n h = grind (arith, nat_tests)

has_is : (q : Place) (rest : List ℕ) (b : Bool) → q.left ≡ rest → nat_lt 0 (exponent_length rest) ≡ b → has_exponent q ≡ b
unfolding has_exponent
has_is q rest b e h = ap (λ k. nat_lt 0 (exponent_length k)) e ∙ h

stays : (q : Place) (rest : List ℕ) → q.left ≡ rest → nat_lt 0 (exponent_length rest) ≡ false → after_exponent q ≡ q
unfolding after_exponent
stays q rest e h = ap (λ k. advance (exponent_length k) q) e ∙ (ap (λ k. advance k q) (no_more (exponent_length rest) h) ∙ advance-zero q)

whole_is : (p : Place) (c : ℕ) (cs : List ℕ) (n : ℕ) (q : Place) (rest : List ℕ) → p.left ≡ c ∷ cs → IsAfter p n q rest → whole_step p q ≡ step_of p (cond (has_float_end rest) (float_end n rest) (cond (c == 48) (octal cs) (int_end n rest)))
unfolding whole_step passes
whole_is p c cs n q rest e is = elim (cases_Bool (nat_lt 0 (exponent_length rest))) [
  | inl h ↦ let x : has_exponent q ≡ true = has_is q rest true is.1 h in rw (x, h) (float_end_is p n q rest is)
  | inr h ↦
      let x : has_exponent q ≡ false = has_is q rest false is.1 h in
      let same : after_exponent q ≡ q = stays q rest is.1 h in
      let left : (after_exponent q).left ≡ rest = ap (λ r. r.left) same ∙ is.1 in
      elim (cases_Bool (begins (passes FloatSuffix) rest)) [
        | inl f ↦ let lf = ap (begins (passes FloatSuffix)) left ∙ f in rw (x, h, lf, f) (float_end_is p n q rest is)
        | inr f ↦ let lf = ap (begins (passes FloatSuffix)) left ∙ f in elim (cases_Bool (begins (passes DoubleSuffix) rest)) [
          | inl d ↦ let ld = ap (begins (passes DoubleSuffix)) left ∙ d in rw (x, h, lf, f, ld, d) (float_end_is p n q rest is)
          | inr d ↦ let ld = ap (begins (passes DoubleSuffix)) left ∙ d in rw (x, h, lf, f, ld, d) (ap (integer_step p) same ∙ integer_is p c cs n q rest e is)
        ]
      ]
]

digits_is : (p : Place) (c : ℕ) (cs : List ℕ) (n : ℕ) (q : Place) (rest : List ℕ) → p.left ≡ c ∷ cs → IsAfter p n q rest → digits_step p q ≡ step_of p (after_digits c n cs rest)
unfolding digits_step passes
digits_is p c cs n q rest e is = let b = ap (begins (passes Point)) is.1 in elim (cases_Bool (begins (passes Point) rest)) [
  | inl h ↦ let l = b ∙ h in rw (l, h) (ap fraction_step (after_if-true (passes Point) q (ap (begins (passes Point)) is.1 ∙ h)) ∙ fraction_is p (suc n) (advance 1 q) (drop 1 rest) (one_more p n q rest is))
  | inr h ↦ let l = b ∙ h in rw (l, h) (ap (whole_step p) (after_none p n q rest (passes Point) is h) ∙ whole_is p c cs n q rest e is)
]

first_digit : (p : Place) (c : ℕ) (cs : List ℕ) → p.left ≡ c ∷ cs → passes Digit c ≡ true → IsAfter p (suc (run (passes Digit) cs)) (after_run (passes Digit) p) (drop (run (passes Digit) cs) cs)
first_digit p c cs e h =
    let n : run (passes Digit) p.left ≡ suc (run (passes Digit) cs) = ap (run (passes Digit)) e ∙ rw h refl in
    let q : after_run (passes Digit) p ≡ advance (suc (run (passes Digit) cs)) p = ap (λ k. advance k p) n in
    (q, ap (λ r. r.left) q ∙ (advance-left (suc (run (passes Digit) cs)) p ∙ ap (drop (suc (run (passes Digit) cs))) e))

decimal_is : (p : Place) (c : ℕ) (cs : List ℕ) → p.left ≡ c ∷ cs → passes Digit c ≡ true → decimal_step p ≡ step_of p (decimal c cs)
unfolding decimal_step passes
decimal_is p c cs e h = digits_is p c cs (suc (run (passes Digit) cs)) (after_run (passes Digit) p) (drop (run (passes Digit) cs) cs) e (first_digit p c cs e h)

-- hexadecimal numbers

hex_sees : (p : Place) (c : ℕ) (cs : List ℕ) → p.left ≡ c ∷ cs → sees_hex p ≡ is_hexed c cs
unfolding sees_hex passes
hex_sees p c cs e = elim (cases_Bool (c == 48)) [
  | inr h ↦ let z : begins (passes Zero) p.left ≡ false = ap (begins (passes Zero)) e ∙ h in rw (z, h) refl
  | inl h ↦
      let z : begins (passes Zero) p.left ≡ true = ap (begins (passes Zero)) e ∙ h in
      let l1 : (after_if (passes Zero) p).left ≡ cs = ap (λ q. q.left) (after_if-true (passes Zero) p z) ∙ (advance-left 1 p ∙ ap (drop 1) e) in
      elim (cases_Bool (begins (passes HexMark) cs)) [
        | inr k ↦ rw (z, h, l1, k) refl
        | inl k ↦
            let x : begins (passes HexMark) (after_if (passes Zero) p).left ≡ true = ap (begins (passes HexMark)) l1 ∙ k in
            let l2 : (after_if (passes HexMark) (after_if (passes Zero) p)).left ≡ drop 1 cs = ap (λ q. q.left) (after_if-true (passes HexMark) (after_if (passes Zero) p) x) ∙ (advance-left 1 (after_if (passes Zero) p) ∙ ap (drop 1) l1) in
            rw (z, h, x, k, l2) refl
      ]
]

both : (a b : Bool) → a && b ≡ true → (a ≡ true) × (b ≡ true)
both true b h = (refl, h)
both false b h = (h, absurd (cc))

hexed_is : (p : Place) (c : ℕ) (cs : List ℕ) → p.left ≡ c ∷ cs → is_hexed c cs ≡ true → int_end_step (after_run (passes HexDigit) (after_if (passes HexMark) (after_if (passes Zero) p))) ≡ step_of p (hexed (drop 1 cs))
unfolding passes
hexed_is p c cs e h =
    let parts = both ((c == 48) && begins (passes HexMark) cs) (begins (passes HexDigit) (drop 1 cs)) h in
    let starts = both (c == 48) (begins (passes HexMark) cs) parts.0 in
    let one : after_if (passes Zero) p ≡ advance 1 p = after_if-true (passes Zero) p (ap (begins (passes Zero)) e ∙ starts.0) in
    let is1 : IsAfter p 1 (advance 1 p) cs = (refl, advance-left 1 p ∙ ap (drop 1) e) in
    let two : after_if (passes HexMark) (after_if (passes Zero) p) ≡ advance 1 (advance 1 p) = ap (after_if (passes HexMark)) one ∙ after_if-true (passes HexMark) (advance 1 p) (ap (begins (passes HexMark)) is1.1 ∙ starts.1) in
    let is2 : IsAfter p 2 (advance 1 (advance 1 p)) (drop 1 cs) = one_more p 1 (advance 1 p) cs is1 in
    let n : 2 + run (passes HexDigit) (drop 1 cs) ≡ suc (suc (run (passes HexDigit) (drop 1 cs))) = omega arith in
    ap (λ q. int_end_step (after_run (passes HexDigit) q)) two
    ∙ (int_end_is p (2 + run (passes HexDigit) (drop 1 cs)) (after_run (passes HexDigit) (advance 1 (advance 1 p))) (drop (run (passes HexDigit) (drop 1 cs)) (drop 1 cs)) (after_run_is p 2 (advance 1 (advance 1 p)) (drop 1 cs) (passes HexDigit) is2)
    ∙ ap (λ k. step_of p (int_end k (drop (run (passes HexDigit) (drop 1 cs)) (drop 1 cs)))) n)

pub number_is : (p : Place) (c : ℕ) (cs : List ℕ) → p.left ≡ c ∷ cs → passes Digit c ≡ true → number_step p ≡ step_of p (number c cs)
unfolding number_step
number_is p c cs e h = elim (cases_Bool (is_hexed c cs)) [
  | inl k ↦ let s : sees_hex p ≡ true = hex_sees p c cs e ∙ k in rw (s, k) (hexed_is p c cs e k)
  | inr k ↦ let s : sees_hex p ≡ false = hex_sees p c cs e ∙ k in rw (s, k) (decimal_is p c cs e h)
]

pub point_is : (p : Place) (c : ℕ) (cs : List ℕ) → p.left ≡ c ∷ cs → passes Point c ≡ true → point_step p ≡ step_of p (point cs)
unfolding point_step passes
point_is p c cs e h =
    let one : after_if (passes Point) p ≡ advance 1 p = after_if-true (passes Point) p (ap (begins (passes Point)) e ∙ h) in
    let is : IsAfter p 1 (after_if (passes Point) p) cs = (one, ap (λ q. q.left) one ∙ (advance-left 1 p ∙ ap (drop 1) e)) in
    elim (cases_Bool (begins (passes Digit) cs)) [
      | inl k ↦ let l = ap (begins (passes Digit)) is.1 ∙ k in rw (l, k) (fraction_is p 1 (after_if (passes Point) p) cs is)
      | inr k ↦ let l = ap (begins (passes Digit)) is.1 ∙ k in rw (l, k) (ap (taken Symbol) one)
    ]
