-- What a field, a text and a number are read as.
use Rattle.std.proofs.Common.{◌≡◌, ℕ, zero, suc, ◌+◌, ◌-◌, ◌^◌, ◌<◌, ◌≤◌, Bool, true, false, cond, eqb, leb, List, [], ◌∷◌, length, get_or, take, drop, Some, None, refl, sym, ap, ◌∙◌, arith, length-drop}
use Rattle.std.specs.Prelude.{◌&&◌}
use Rattle.std.specs.Fmt.{decimal}
use Rattle.std.specs.Str.{IsUtf8, is_utf8, bytes_eq}
use Rattle.std.specs.Str.Parse.{digits_value}
use Rattle.std.proofs.lemmas.Bool.{and_parts, false_from_ne_true, leb-true, le-leb}
use Rattle.std.proofs.lemmas.Fmt.{decimal_is_IsNumeral}
use Rattle.std.proofs.lemmas.List.{take_all}
use Rattle.std.proofs.lemmas.Slice.Eq.{bytes_eq-Decides}
use Rattle.std.proofs.lemmas.Str.{is_utf8-from_IsUtf8, IsUtf8-from_is_utf8}
use Rattle.memchr.specs.Find.{NoneBefore, Nowhere, Passes, is_byte}
use Rattle.script_text.specs.Inner.Reading.{field_at, text_in, number_in}

-- behind bytes that are no separator
field_at-skips : (separator : ℕ) (bytes : List ℕ) (k : ℕ) → k < length bytes → ((i : ℕ) → i < k → eqb (get_or bytes i 0) separator ≡ false) → eqb (get_or bytes k 0) separator ≡ true
    → field_at separator bytes ≡ Some (take k bytes, drop (suc k) bytes)
unfolding field_at
field_at-skips separator [] k lt none here = absurd (omega arith)
field_at-skips separator (b ∷ bytes) zero lt none here = rw here refl
field_at-skips separator (b ∷ bytes) (suc k) lt none here =
    let rest : field_at separator bytes ≡ Some (take k bytes, drop (suc k) bytes) = field_at-skips separator bytes k (omega arith) (λ i h. none (suc i) (omega arith)) here in
    let first : eqb b separator ≡ false = none 0 (omega arith) in
    rw (first, rest) refl

field_at-none : (separator : ℕ) (bytes : List ℕ) → ((i : ℕ) → i < length bytes → eqb (get_or bytes i 0) separator ≡ false) → field_at separator bytes ≡ None
unfolding field_at
field_at-none separator [] none = refl
field_at-none separator (b ∷ bytes) none =
    let first : eqb b separator ≡ false = none 0 (omega arith) in
    let rest : field_at separator bytes ≡ None = field_at-none separator bytes (λ i h. none (suc i) (omega arith)) in
    rw (first, rest) refl

pub field_at-first : (separator : ℕ) (bytes : List ℕ) (k : ℕ) → NoneBefore (Passes (is_byte separator) bytes) 0 (length bytes) k → Passes (is_byte separator) bytes k
    → field_at separator bytes ≡ Some (take k bytes, take (length bytes - (k + 1)) (drop (k + 1) bytes))
field_at-first separator bytes k first here =
    let all : take (length bytes - (k + 1)) (drop (k + 1) bytes) ≡ drop (k + 1) bytes = take_all _ _ (omega (arith, length-drop (k + 1) bytes)) in
    let n : k + 1 ≡ suc k = omega arith in
    rw (all, n) (field_at-skips separator bytes k first.high (λ i lt. false_from_ne_true _ (first.before i (omega arith) lt)) here)

pub field_at-nowhere : (separator : ℕ) (bytes : List ℕ) → Nowhere (Passes (is_byte separator) bytes) 0 (length bytes) → field_at separator bytes ≡ None
field_at-nowhere separator bytes nowhere = field_at-none separator bytes (λ i lt. false_from_ne_true _ (nowhere i (omega arith) lt))

pub text_in-utf8 : (bytes : List ℕ) → IsUtf8 bytes → text_in bytes ≡ Some bytes
unfolding text_in
text_in-utf8 bytes utf8 = rw (is_utf8-from_IsUtf8 bytes utf8) refl

pub text_in-none : (bytes : List ℕ) → ¬ IsUtf8 bytes → text_in bytes ≡ None
unfolding text_in
text_in-none bytes not_utf8 = rw (false_from_ne_true (is_utf8 bytes) (λ h. not_utf8 (IsUtf8-from_is_utf8 bytes h))) refl

-- the number that a word spells
pub number_in-decimal : (limit n : ℕ) (word : List ℕ) → n < 2 ^ 64 → n ≤ limit → word ≡ decimal n → number_in limit word ≡ Some n
unfolding number_in
number_in-decimal limit n word lt le spelled =
    let value : digits_value 10 word ≡ n = ap (digits_value 10) spelled ∙ (decimal_is_IsNumeral n lt).1 in
    let fits : leb n limit ≡ true = le-leb n limit le in
    let same : bytes_eq (decimal n) word ≡ true = (bytes_eq-Decides (decimal n) word).1 (sym spelled) in
    rw (value, fits, same) refl

-- what a test of two parts says
chosen : (limit n : ℕ) (word : List ℕ) (b : Bool) → (leb n limit && bytes_eq (decimal n) word) ≡ b → ((m : ℕ) → m ≤ limit → word ≡ decimal m → ⊥) → cond b (Some n) None ≡ None
chosen limit n word false e otherwise = refl
chosen limit n word true e otherwise =
    let parts = and_parts (leb n limit) (bytes_eq (decimal n) word) e in
    absurd (otherwise n (leb-true n limit parts.0) (sym ((bytes_eq-Decides (decimal n) word).0 parts.1)))

pub number_in-none : (limit : ℕ) (word : List ℕ) → ((m : ℕ) → m ≤ limit → word ≡ decimal m → ⊥) → number_in limit word ≡ None
unfolding number_in
number_in-none limit word otherwise = chosen limit (digits_value 10 word) word _ refl otherwise
