-- The one character of a character literal at a place is that of its characters.
use Rattle.std.proofs.Common.{◌≡◌, ℕ, suc, Bool, true, false, cond, ◌&&◌, ◌||◌, ◌==◌, List, [], ◌∷◌, drop, codes, Some, None, inl, inr, refl, sym, ap, ◌∙◌, nat_lt}
use Rattle.std.proofs.lemmas.Bool.{cases_Bool}
use Rattle.java_model.specs.Lexical.Characters.{backslash, single_quote, is_one_of, is_octal_digit, is_zero_to_three}
use Rattle.java_model.proofs.Lexical.Reading.{begins, is_escaped, is_bare, escape_length, one_length}
use Rattle.java_model.proofs.Lexical.Sound.{first_of_begins}
use Rattle.java_scan.specs.declared.class.Class.TheVariants.{OctalDigit, Escaped, ZeroToThree}
use Rattle.java_scan.specs.Classes.{passes}
use Rattle.java_scan.specs.Place.{Place, first, next, advance}
use Rattle.java_scan.specs.Steps.{after_if, after_octal, after_escaped, after_one, has_one}
use Rattle.java_scan.proofs.PlaceLaws.{first_split, first_none, next-left, advance-zero, advance-one, advance-suc, advance-left}
use Rattle.java_scan.proofs.NumberLaws.{after_if-true, after_if-false, after_if-advance, suc_some}

ap₃ : {A : Type 0} (f : A → A → A → Place) {a a' b b' c c' : A} → a ≡ a' → b ≡ b' → c ≡ c' → f a b c ≡ f a' b' c'
ap₃ f {a} {a'} {b} {b'} {c} {c'} p q r = ap (λ x. f x b c) p ∙ (ap (λ y. f a' y c) q ∙ ap (λ z. f a' b' z) r)

-- what a backslash escapes

-- the length of what is escaped, by what begins there, after one and after two characters
escaped_length : (c : ℕ) (cs : List ℕ) → is_escaped c ≡ true → escape_length (c ∷ cs) ≡ cond (is_octal_digit c && begins is_octal_digit cs) (cond (is_zero_to_three c && begins is_octal_digit (drop 1 cs)) 3 2) 1
escaped_length c cs h = rw h refl

octal_by : (o o2 z o3 : Bool) (q : Place) → cond o (cond o2 (cond z (advance (cond o3 1 0) (advance 1 (advance 1 q))) (advance 1 (advance 1 q))) (advance 1 q)) (advance 1 q) ≡ advance (cond (o && o2) (cond (z && o3) 3 2) 1) q
unfolding advance
octal_by true true true true q = refl
octal_by true true true false q = refl
octal_by true true false o3 q = refl
octal_by true false z o3 q = refl
octal_by false o2 z o3 q = refl

-- at the first character that is escaped, with q behind it
octal_end : (p q : Place) → after_octal p q ≡ cond (begins (passes OctalDigit) p.left) (cond (begins (passes OctalDigit) q.left) (cond (begins (passes ZeroToThree) p.left) (advance (cond (begins (passes OctalDigit) (advance 1 q).left) 1 0) (advance 1 q)) (advance 1 q)) q) q
unfolding after_octal
octal_end p q = elim (cases_Bool (begins (passes OctalDigit) q.left)) [
  | inl is ↦ let a = after_if-true (passes OctalDigit) q is in rw (is, a, after_if-advance (passes OctalDigit) (advance 1 q)) refl
  | inr isnt ↦ let a = after_if-false (passes OctalDigit) q isnt in rw (isnt, a) refl
]

pub after_escaped-advance : (p : Place) (c : ℕ) (cs : List ℕ) → p.left ≡ c ∷ cs → is_escaped c ≡ true → after_escaped p ≡ advance (escape_length (c ∷ cs)) p
unfolding after_escaped passes
after_escaped-advance p c cs e h =
    let b : begins (passes Escaped) p.left ≡ true = ap (begins (passes Escaped)) e ∙ h in
    let one : after_if (passes Escaped) p ≡ advance 1 p = after_if-true (passes Escaped) p b in
    let l1 : (advance 1 p).left ≡ cs = advance-left 1 p ∙ ap (drop 1) e in
    let l2 : (advance 1 (advance 1 p)).left ≡ drop 1 cs = advance-left 1 (advance 1 p) ∙ ap (drop 1) l1 in
    let start : after_escaped p ≡ after_octal p (advance 1 p) = rw b (ap (after_octal p) one) in
    let shape : after_octal p (advance 1 p) ≡ cond (is_octal_digit c) (cond (begins is_octal_digit cs) (cond (is_zero_to_three c) (advance (cond (begins is_octal_digit (drop 1 cs)) 1 0) (advance 1 (advance 1 p))) (advance 1 (advance 1 p))) (advance 1 p)) (advance 1 p) =
    octal_end p (advance 1 p) ∙ ap₃ (λ (xs ys zs : List ℕ). cond (begins (passes OctalDigit) xs) (cond (begins (passes OctalDigit) ys) (cond (begins (passes ZeroToThree) xs) (advance (cond (begins (passes OctalDigit) zs) 1 0) (advance 1 (advance 1 p))) (advance 1 (advance 1 p))) (advance 1 p)) (advance 1 p)) e l1 l2 in
    start ∙ (shape ∙ (octal_by (is_octal_digit c) (begins is_octal_digit cs) (is_zero_to_three c) (begins is_octal_digit (drop 1 cs)) p ∙ ap (λ n. advance n p) (sym (escaped_length c cs h))))

-- one character

one_bare : (c : ℕ) (cs : List ℕ) → c == backslash ≡ false → is_bare single_quote c ≡ true → one_length (c ∷ cs) ≡ 1
one_bare c cs h k = rw (k, h) refl

one_stop : (c : ℕ) (cs : List ℕ) → c == backslash ≡ false → is_bare single_quote c ≡ false → one_length (c ∷ cs) ≡ 0
one_stop c cs h k = rw (k, h) refl

not_escaped : (cs : List ℕ) → begins is_escaped cs ≡ false → escape_length cs ≡ 0
not_escaped [] h = refl
not_escaped (c ∷ cs) h =
    let octal : is_octal_digit c ≡ false = no_right (is_one_of (codes "btnfr\"'\\") c) (is_octal_digit c) h in
    rw (h, octal) refl
  where
    no_right : (a b : Bool) → a || b ≡ false → b ≡ false
    no_right true b e = cc
    no_right false b e = e

escaped_some : (c : ℕ) (cs : List ℕ) → is_escaped c ≡ true → nat_lt 0 (escape_length (c ∷ cs)) ≡ true
escaped_some c cs h = ap (nat_lt 0) (escaped_length c cs h) ∙ some (is_octal_digit c && begins is_octal_digit cs) (is_zero_to_three c && begins is_octal_digit (drop 1 cs))
  where
    some : (a b : Bool) → nat_lt 0 (cond a (cond b 3 2) 1) ≡ true
    some true true = refl
    some true false = refl
    some false b = refl

pub one_none : (p : Place) → one_length p.left ≡ 0 → (has_one p ≡ false) × (after_one p ≡ p)
unfolding has_one after_one
one_none p e = (ap (nat_lt 0) e, ap (λ n. advance n p) e ∙ advance-zero p)

pub one_over : (p : Place) → first p.left ≡ None → one_length p.left ≡ 0
one_over p e = ap one_length (first_none p.left e)

pub one_not_bare : (p : Place) (c : ℕ) → first p.left ≡ Some c → c == backslash ≡ false → is_bare single_quote c ≡ false → one_length p.left ≡ 0
one_not_bare p c e h k = ap one_length (first_split p.left c e) ∙ one_stop c (drop 1 p.left) h k

pub one_is_bare : (p : Place) (c : ℕ) → first p.left ≡ Some c → c == backslash ≡ false → is_bare single_quote c ≡ true → (has_one p ≡ true) × (next p ≡ after_one p)
unfolding has_one after_one
one_is_bare p c e h k =
    let n : one_length p.left ≡ 1 = ap one_length (first_split p.left c e) ∙ one_bare c (drop 1 p.left) h k in
    (ap (nat_lt 0) n, sym (advance-one p) ∙ ap (λ m. advance m p) (sym n))

pub one_not_escaped : (p : Place) → first p.left ≡ Some backslash → begins (passes Escaped) (next p).left ≡ false → one_length p.left ≡ 0
unfolding passes
one_not_escaped p e h =
    let n : escape_length (drop 1 p.left) ≡ 0 = not_escaped (drop 1 p.left) (ap (begins (passes Escaped)) (sym (next-left p)) ∙ h) in
    ap one_length (first_split p.left backslash e) ∙ rw n refl

pub one_is_escaped : (p : Place) → first p.left ≡ Some backslash → begins (passes Escaped) (next p).left ≡ true → (has_one p ≡ true) × (after_escaped (next p) ≡ after_one p)
unfolding has_one after_one passes
one_is_escaped p e h =
    let f = first_of_begins (passes Escaped) (next p).left h in
    let cs : drop 1 p.left ≡ f.head ∷ f.tail = sym (next-left p) ∙ f.same in
    let all : p.left ≡ backslash ∷ f.head ∷ f.tail = first_split p.left backslash e ∙ ap (λ x. backslash ∷ x) cs in
    let some : nat_lt 0 (escape_length (f.head ∷ f.tail)) ≡ true = escaped_some f.head f.tail f.passes in
    let n : one_length p.left ≡ suc (escape_length (f.head ∷ f.tail)) = ap one_length all ∙ rw some refl in
    (ap (nat_lt 0) n ∙ suc_some (escape_length (f.head ∷ f.tail)), after_escaped-advance (next p) f.head f.tail f.same f.passes ∙ (sym (advance-suc (escape_length (f.head ∷ f.tail)) p) ∙ ap (λ m. advance m p) (sym n)))
