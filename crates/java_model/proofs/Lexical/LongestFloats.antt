-- What is read at a number is no shorter than any floating-point literal there, and of its kind.
use Rattle.std.proofs.Common.{◌≡◌, ℕ, suc, ◌+◌, ◌<◌, ◌≤◌, ◌⊎◌, Bool, true, false, cond, ◌&&◌, ◌||◌, ◌==◌, List, [], ◌∷◌, ◌++◌, length, drop, codes, refl, sym, ap, ap₂, ◌∙◌, subst, inl, inr, arith, true≢false, append_assoc, append-nil, length-append, nat_lt, lt-ltb}
use Rattle.std.specs.List.{list_all}
use Rattle.std.proofs.lemmas.Bool.{cond_both, and_parts, and_left, and_right, or_left, or_right}
use Rattle.std.proofs.lemmas.Bool.Decides.{nat_tests}
use Rattle.std.proofs.lemmas.List.{drop_at}
use Rattle.java_tree.specs.declared.token.TokenKind.{TokenKind}
use Rattle.java_tree.specs.declared.token.TokenKind.TheVariants.{FloatLit, DoubleLit}
use Rattle.java_model.specs.Lexical.Characters.{is_one_of, is_digit, is_hex_digit, full_stop}
use Rattle.java_model.specs.Lexical.Numbers.{is_digits, IsExponent, IsFloatSuffix, IsOptional, IsFloating}
use Rattle.java_model.specs.Lexical.Numbers.IsFloating.{whole_point, point_fraction, whole_exponent, whole_suffix}
use Rattle.java_model.specs.Lexical.Elements.Element.{token}
use Rattle.java_model.proofs.Lexical.Reading.{run, begins, is_sign, sign_length, exponent_digits, exponent_length, is_f, is_d, float_suffix, float_end, has_float_end, fraction, after_digits, is_hexed, number, point}
use Rattle.java_model.proofs.Lexical.Classes.{all_parts}
use Rattle.java_model.proofs.Lexical.Runs.{run-front, run-exact, drop-run-exact}
use Rattle.java_model.proofs.Lexical.Longest.{Within, Within-at, Within-le}

abbrev pub float_kind : List ℕ → TokenKind
float_kind suffix = cond (begins is_f suffix) FloatLit DoubleLit

-- without a suffix

no_suffix : (m n : ℕ) (rest : List ℕ) → m ≤ n → Within (token DoubleLit) m (float_suffix n rest)
no_suffix m n rest h =
    cond_both (begins is_f rest) _ _ (λ f. Within (token DoubleLit) m f) (λ _. inl (omega arith)) (λ _.
    cond_both (begins is_d rest) _ _ (λ f. Within (token DoubleLit) m f) (λ _. inl (omega arith)) (λ _. Within-le (token DoubleLit) m n h))

no_end : (m n : ℕ) (rest : List ℕ) → m ≤ n → Within (token DoubleLit) m (float_end n rest)
no_end m n rest h = no_suffix m (n + exponent_length rest) (drop (exponent_length rest) rest) (omega arith)

-- with one

suffix_letter : (c : ℕ) → is_one_of (codes "fFdD") c ≡ true → (is_f c ≡ true) ⊎ ((is_f c ≡ false) × (is_d c ≡ true))
suffix_letter c h = grind (arith, nat_tests)

one_suffix : (n c : ℕ) (rest : List ℕ) → (is_f c ≡ true) ⊎ ((is_f c ≡ false) × (is_d c ≡ true)) → Within (token (float_kind (c ∷ []))) (suc n) (float_suffix n (c ∷ rest))
one_suffix n c rest (inl f) = rw f (inr (refl, refl))
one_suffix n c rest (inr d) = rw (d.0, d.1) (inr (refl, refl))

suffix_plain : (c : ℕ) → is_one_of (codes "fFdD") c ≡ true → (is_digit c ≡ false) × (is_one_of (codes "eE") c ≡ false)
suffix_plain c h = grind (arith, nat_tests)

-- an exponent is read whole

digit_sign : (c : ℕ) → is_digit c ≡ true → is_sign c ≡ false
digit_sign c h = grind (arith, nat_tests)

abbrev IsSign : List ℕ → Type 0
IsSign sign = (sign ≡ []) ⊎ (sign ≡ codes "+") ⊎ (sign ≡ codes "-")

-- behind a sign the digits are left
record Signed (sign digits rest : List ℕ) : Type 0 where
  counted : sign_length (sign ++ (digits ++ rest)) ≡ length sign
  left : drop (length sign) (sign ++ (digits ++ rest)) ≡ digits ++ rest

unsigned : (digits rest : List ℕ) → is_digits digits ≡ true → Signed [] digits rest
unsigned [] rest h = absurd (true≢false (sym h))
unsigned (d ∷ digits) rest h = record { counted = rw (digit_sign d (and_parts _ _ h).0) refl; left = refl }

with_sign : (c : ℕ) (digits rest : List ℕ) → is_sign c ≡ true → Signed (c ∷ []) digits rest
with_sign c digits rest h = record { counted = rw h refl; left = refl }

signed : (sign digits rest : List ℕ) → IsSign sign → is_digits digits ≡ true → Signed sign digits rest
signed sign digits rest (inl e) h = subst (λ x. Signed x digits rest) (sym e) (unsigned digits rest h)
signed sign digits rest (inr (inl e)) h = subst (λ x. Signed x digits rest) (sym e) (with_sign 43 digits rest refl)
signed sign digits rest (inr (inr e)) h = subst (λ x. Signed x digits rest) (sym e) (with_sign 45 digits rest refl)

exponent_counted : (sign digits rest : List ℕ) → Signed sign digits rest → exponent_digits (sign ++ (digits ++ rest)) ≡ run is_digit (digits ++ rest)
exponent_counted sign digits rest s = rw s.counted (ap (run is_digit) s.left)

digits_all : (digits : List ℕ) → is_digits digits ≡ true → list_all is_digit digits ≡ true
digits_all [] h = refl
digits_all (d ∷ digits) h = h

digits_some : (digits : List ℕ) → is_digits digits ≡ true → 0 < length digits
digits_some [] h = absurd (true≢false (sym h))
digits_some (d ∷ digits) h = omega arith

exponent_read : (l : ℕ) (sign digits rest : List ℕ) → is_one_of (codes "eE") l ≡ true → IsSign sign → is_digits digits ≡ true → exponent_length (l ∷ (sign ++ (digits ++ rest))) ≡ suc (length sign + run is_digit (digits ++ rest))
exponent_read l sign digits rest e is h =
    let s = signed sign digits rest is h in
    let k = exponent_counted sign digits rest s in
    let some : nat_lt 0 (run is_digit (digits ++ rest)) ≡ true = lt-ltb 0 (run is_digit (digits ++ rest)) (omega (arith, digits_some digits h, run-front is_digit digits rest (digits_all digits h))) in
    rw (k, e, some, s.counted) refl

exponent_append : (E rest : List ℕ) (is : IsExponent E) → exponent_length (E ++ rest) ≡ suc (length is.sign + run is_digit (is.digits ++ rest))
exponent_append E rest is =
    rw (is.spelled, append_assoc is.sign is.digits rest) (exponent_read is.letter is.sign is.digits rest is.marked is.signed is.valid)

exponent_whole : (E : List ℕ) (is : IsExponent E) → length E ≡ suc (length is.sign + length is.digits)
exponent_whole E is = ap length is.spelled ∙ ap suc (length-append is.sign is.digits)

exponent-front : (E rest : List ℕ) → IsExponent E → length E ≤ exponent_length (E ++ rest)
exponent-front E rest is = omega (arith, exponent_append E rest is, exponent_whole E is, run-front is_digit is.digits rest (digits_all is.digits is.valid))

exponent-exact : (E rest : List ℕ) → IsExponent E → begins is_digit rest ≡ false → exponent_length (E ++ rest) ≡ length E
exponent-exact E rest is stop = omega (arith, exponent_append E rest is, exponent_whole E is, run-exact is_digit is.digits rest (digits_all is.digits is.valid) stop)

-- an exponent and a suffix, where they are

optional-front : (E rest : List ℕ) → IsOptional IsExponent E → length E ≤ exponent_length (E ++ rest)
optional-front E rest (inl e) = rw e (omega arith)
optional-front E rest (inr is) = exponent-front E rest is

optional-exact : (E rest : List ℕ) (c : ℕ) → IsOptional IsExponent E → is_one_of (codes "fFdD") c ≡ true → exponent_length (E ++ (c ∷ rest)) ≡ length E
optional-exact E rest c (inl e) h = rw (e, (suffix_plain c h).1) refl
optional-exact E rest c (inr is) h = exponent-exact E (c ∷ rest) is (suffix_plain c h).0

end_without : (n : ℕ) (E rest : List ℕ) → IsOptional IsExponent E → Within (token DoubleLit) (n + length E) (float_end n (E ++ rest))
end_without n E rest is = no_suffix (n + length E) (n + exponent_length (E ++ rest)) (drop (exponent_length (E ++ rest)) (E ++ rest)) (let h : length E ≤ exponent_length (E ++ rest) = optional-front E rest is in omega arith)

end_with : (n : ℕ) (E rest : List ℕ) (c : ℕ) → IsOptional IsExponent E → is_one_of (codes "fFdD") c ≡ true → Within (token (float_kind (c ∷ []))) (suc (n + length E)) (float_end n (E ++ (c ∷ rest)))
end_with n E rest c is h =
    let e : exponent_length (E ++ (c ∷ rest)) ≡ length E = optional-exact E rest c is h in
    let d : drop (length E) (E ++ (c ∷ rest)) ≡ c ∷ rest = drop_at E (c ∷ rest) (length E) refl in
    rw (e, d) (one_suffix (n + length E) c rest (suffix_letter c h))

pub end_longest : (n : ℕ) (E S rest : List ℕ) → IsOptional IsExponent E → IsOptional IsFloatSuffix S → Within (token (float_kind S)) (n + length (E ++ S)) (float_end n (E ++ (S ++ rest)))
end_longest n E S rest is (inl e) =
    subst (λ s. Within (token (float_kind s)) (n + length (E ++ s)) (float_end n (E ++ (s ++ rest)))) (sym e)
    (Within-at (token DoubleLit) (n + length E) (n + length (E ++ [])) (float_end n (E ++ rest)) (ap (λ x. n + length x) (sym (append-nil E))) (end_without n E rest is))
end_longest n E S rest is (inr (c, e, h)) =
    subst (λ s. Within (token (float_kind s)) (n + length (E ++ s)) (float_end n (E ++ (s ++ rest)))) (sym e)
    (Within-at (token (float_kind (c ∷ []))) (suc (n + length E)) (n + length (E ++ (c ∷ []))) (float_end n (E ++ (c ∷ rest))) (omega (arith, length-append E (c ∷ []))) (end_with n E rest c is h))

-- what an exponent or a suffix begins with is no digit, no full stop and no `x`

abbrev IsEndLetter : ℕ → Type 0
IsEndLetter c = (is_digit c ≡ false) × (c == full_stop ≡ false) × (is_one_of (codes "xX") c ≡ false)

exponent_letter : (c : ℕ) → is_one_of (codes "eE") c ≡ true → IsEndLetter c
exponent_letter c h = grind (arith, nat_tests)

suffix_end : (c : ℕ) → is_one_of (codes "fFdD") c ≡ true → IsEndLetter c
suffix_end c h = grind (arith, nat_tests)

digit_inside : (c : ℕ) → is_digit c ≡ true → is_one_of (codes "xX") c ≡ false
digit_inside c h = grind (arith, nat_tests)

-- either both are left out, or what they begin with says so
abbrev IsEnd : List ℕ → Type 0
IsEnd [] = ⊥
IsEnd (c ∷ cs) = IsEndLetter c

exponent_is_end : (E rest : List ℕ) → IsExponent E → IsEnd (E ++ rest)
exponent_is_end E rest is = rw is.spelled (exponent_letter is.letter is.marked)

suffix_is_end : (S rest : List ℕ) → IsFloatSuffix S → IsEnd (S ++ rest)
suffix_is_end S rest (c, e, h) = rw e (suffix_end c h)

end_or_none : (E S rest : List ℕ) → IsOptional IsExponent E → IsOptional IsFloatSuffix S → ((E ≡ []) × (S ≡ [])) ⊎ IsEnd (E ++ (S ++ rest))
end_or_none E S rest (inl e) (inl s) = inl (e, s)
end_or_none E S rest (inl e) (inr s) = inr (rw e (suffix_is_end S rest s))
end_or_none E S rest (inr e) s = inr (exponent_is_end E (S ++ rest) e)

end_stops : (cs : List ℕ) → IsEnd cs → begins is_digit cs ≡ false
end_stops [] h = refl
end_stops (c ∷ cs) h = h.0

-- a fraction with its end

fraction_none : (n : ℕ) (D rest : List ℕ) → list_all is_digit D ≡ true → Within (token DoubleLit) (n + length D) (fraction n (D ++ rest))
fraction_none n D rest h = no_end (n + length D) (n + run is_digit (D ++ rest)) (drop (run is_digit (D ++ rest)) (D ++ rest)) (omega (arith, run-front is_digit D rest h))

fraction_end : (n : ℕ) (D E S rest : List ℕ) → list_all is_digit D ≡ true → IsOptional IsExponent E → IsOptional IsFloatSuffix S → IsEnd (E ++ (S ++ rest)) → Within (token (float_kind S)) ((n + length D) + length (E ++ S)) (fraction n (D ++ (E ++ (S ++ rest))))
fraction_end n D E S rest h e s stop =
    let stops = end_stops (E ++ (S ++ rest)) stop in
    rw (drop-run-exact is_digit D (E ++ (S ++ rest)) h stops, run-exact is_digit D (E ++ (S ++ rest)) h stops) (end_longest (n + length D) E S rest e s)

pub fraction_longest : (n : ℕ) (D E S rest : List ℕ) → list_all is_digit D ≡ true → IsOptional IsExponent E → IsOptional IsFloatSuffix S → Within (token (float_kind S)) ((n + length D) + length (E ++ S)) (fraction n (D ++ (E ++ (S ++ rest))))
fraction_longest n D E S rest h e s = elim (end_or_none E S rest e s) [
  | inl none ↦ rw (none.0, none.1) (Within-at (token DoubleLit) (n + length D) (n + length D + 0) (fraction n (D ++ rest)) (omega arith) (fraction_none n D rest h))
  | inr stop ↦ fraction_end n D E S rest h e s stop
]

-- a number that begins with decimal digits

abbrev pub is_x : ℕ → Bool
is_x = is_one_of (codes "xX")

pub begins_digits : (w t : List ℕ) → list_all is_digit w ≡ true → begins is_x t ≡ false → begins is_x (w ++ t) ≡ false
begins_digits [] t h stop = stop
begins_digits (d ∷ w) t h stop = digit_inside d (all_parts is_digit d w h).0

pub number_decimal : (c : ℕ) (w t : List ℕ) → list_all is_digit w ≡ true → begins is_digit t ≡ false → begins is_x t ≡ false → number c (w ++ t) ≡ after_digits c (suc (length w)) (w ++ t) t
number_decimal c w t h stop plain =
    let b : is_hexed c (w ++ t) ≡ false = and_left (c == 48 && begins is_x (w ++ t)) (begins is_hex_digit (drop 1 (w ++ t))) (and_right (c == 48) (begins is_x (w ++ t)) (begins_digits w t h plain)) in
    let n : run is_digit (w ++ t) ≡ length w = run-exact is_digit w t h stop in
    let d : drop (run is_digit (w ++ t)) (w ++ t) ≡ t = drop-run-exact is_digit w t h stop in
    rw b (ap₂ (λ n rest. after_digits c (suc n) (w ++ t) rest) n d)

regroup : (D E S rest : List ℕ) → (D ++ (E ++ S)) ++ rest ≡ D ++ (E ++ (S ++ rest))
regroup D E S rest = append_assoc D (E ++ S) rest ∙ ap (λ x. D ++ x) (append_assoc E S rest)

number_point : (c : ℕ) (w D E S rest : List ℕ) → list_all is_digit w ≡ true → list_all is_digit D ≡ true → IsOptional IsExponent E → IsOptional IsFloatSuffix S → Within (token (float_kind S)) (suc (length (w ++ full_stop ∷ (D ++ (E ++ S))))) (number c ((w ++ full_stop ∷ (D ++ (E ++ S))) ++ rest))
number_point c w D E S rest hw hD e s =
    let g : (w ++ full_stop ∷ (D ++ (E ++ S))) ++ rest ≡ w ++ full_stop ∷ (D ++ (E ++ (S ++ rest))) = append_assoc w (full_stop ∷ (D ++ (E ++ S))) rest ∙ ap (λ x. w ++ full_stop ∷ x) (regroup D E S rest) in
    let n = number_decimal c w (full_stop ∷ (D ++ (E ++ (S ++ rest)))) hw refl refl in
    let m : (suc (suc (length w)) + length D) + length (E ++ S) ≡ suc (length (w ++ full_stop ∷ (D ++ (E ++ S)))) = omega (arith, length-append w (full_stop ∷ (D ++ (E ++ S))), length-append D (E ++ S)) in
    rw (g, n) (Within-at (token (float_kind S)) _ _ (fraction (suc (suc (length w))) (D ++ (E ++ (S ++ rest)))) m (fraction_longest (suc (suc (length w))) D E S rest hD e s))

-- digits that an exponent or a suffix makes floating

abbrev IsMade : List ℕ → List ℕ → Type 0
IsMade E S = (IsExponent E × IsOptional IsFloatSuffix S) ⊎ (IsOptional IsExponent E × IsFloatSuffix S)

made_end : (E S rest : List ℕ) → IsMade E S → IsEnd (E ++ (S ++ rest))
made_end E S rest (inl (e, s)) = exponent_is_end E (S ++ rest) e
made_end E S rest (inr (inl e, s)) = rw e (suffix_is_end S rest s)
made_end E S rest (inr (inr e, s)) = exponent_is_end E (S ++ rest) e

exponent_makes : (E rest : List ℕ) → IsExponent E → has_float_end (E ++ rest) ≡ true
exponent_makes E rest e =
    let some : nat_lt 0 (exponent_length (E ++ rest)) ≡ true = lt-ltb 0 (exponent_length (E ++ rest)) (omega (arith, exponent_whole E e, exponent-front E rest e)) in
    rw some refl

suffix_makes : (c : ℕ) (rest : List ℕ) → is_one_of (codes "fFdD") c ≡ true → has_float_end (c ∷ rest) ≡ true
suffix_makes c rest h = elim (suffix_letter c h) [
  | inl f ↦ or_left _ (is_d c) (or_right (nat_lt 0 (exponent_length (c ∷ rest))) (is_f c) f)
  | inr d ↦ or_right (nat_lt 0 (exponent_length (c ∷ rest)) || is_f c) (is_d c) d.1
]

made_makes : (E S rest : List ℕ) → IsMade E S → has_float_end (E ++ (S ++ rest)) ≡ true
made_makes E S rest (inl (e, s)) = exponent_makes E (S ++ rest) e
made_makes E S rest (inr (inl e, (c, s, h))) = rw (e, s) (suffix_makes c rest h)
made_makes E S rest (inr (inr e, s)) = exponent_makes E (S ++ rest) e

made_parts : (E S : List ℕ) → IsMade E S → IsOptional IsExponent E × IsOptional IsFloatSuffix S
made_parts E S (inl (e, s)) = (inr e, s)
made_parts E S (inr (e, s)) = (e, inr s)

after_made : (c n : ℕ) (cs t : List ℕ) → IsEnd t → has_float_end t ≡ true → after_digits c n cs t ≡ float_end n t
after_made c n cs [] stop makes = absurd stop
after_made c n cs (x ∷ t) stop makes = rw (stop.1, makes) refl

end_no_x : (t : List ℕ) → IsEnd t → begins is_x t ≡ false
end_no_x [] h = refl
end_no_x (c ∷ t) h = h.2

number_made : (c : ℕ) (w E S rest : List ℕ) → list_all is_digit w ≡ true → IsMade E S → Within (token (float_kind S)) (suc (length (w ++ (E ++ S)))) (number c ((w ++ (E ++ S)) ++ rest))
number_made c w E S rest hw made =
    let t : List ℕ = E ++ (S ++ rest) in
    let stop : IsEnd (E ++ (S ++ rest)) = made_end E S rest made in
    let n = number_decimal c w (E ++ (S ++ rest)) hw (end_stops (E ++ (S ++ rest)) stop) (end_no_x (E ++ (S ++ rest)) stop) in
    let f = after_made c (suc (length w)) (w ++ (E ++ (S ++ rest))) (E ++ (S ++ rest)) stop (made_makes E S rest made) in
    let parts = made_parts E S made in
    let m : suc (length w) + length (E ++ S) ≡ suc (length (w ++ (E ++ S))) = omega (arith, length-append w (E ++ S)) in
    rw (regroup w E S rest, n, f) (Within-at (token (float_kind S)) _ _ (float_end (suc (length w)) (E ++ (S ++ rest))) m (end_longest (suc (length w)) E S rest parts.0 parts.1))

-- the digits before the rest of a number, without their first

record Begun (c : ℕ) (p whole t : List ℕ) : Type 0 where
  others : List ℕ
  all : list_all is_digit others ≡ true
  first : is_digit c ≡ true
  same : p ≡ others ++ t

begun : (c : ℕ) (p whole t : List ℕ) → is_digits whole ≡ true → c ∷ p ≡ whole ++ t → Begun c p whole t
begun c p [] t h e = absurd (true≢false (sym h))
begun c p (d ∷ w) t h e =
    let same_c : c ≡ d = cc in
    let parts = all_parts is_digit d w h in
    record { others = w; all = parts.1; first = subst (λ x. is_digit x ≡ true) (sym same_c) parts.0; same = cc }

made_number : (c : ℕ) (p whole E S rest : List ℕ) → is_digits whole ≡ true → IsMade E S → c ∷ p ≡ whole ++ (E ++ S) → Within (token (float_kind S)) (suc (length p)) (number c (p ++ rest))
made_number c p whole E S rest h made e =
    let b = begun c p whole (E ++ S) h e in
    subst (λ x. Within (token (float_kind S)) (suc (length x)) (number c (x ++ rest))) (sym b.same) (number_made c b.others E S rest b.all made)

pub floating_number : (c : ℕ) (p S rest : List ℕ) → is_digit c ≡ true → IsFloating (c ∷ p) S → Within (token (float_kind S)) (suc (length p)) (number c (p ++ rest))
floating_number c p S rest hc (whole_point whole D E e h hD is s) =
    let b = begun c p whole (full_stop ∷ (D ++ (E ++ S))) h e in
    subst (λ x. Within (token (float_kind S)) (suc (length x)) (number c (x ++ rest))) (sym b.same) (number_point c b.others D E S rest b.all hD is s)
floating_number c p S rest hc (point_fraction D E e h is s) = absurd (apart c hc (cc))
  where
    apart : (c : ℕ) → is_digit c ≡ true → c ≡ full_stop → ⊥
    apart c h e = grind (arith, nat_tests)
floating_number c p S rest hc (whole_exponent whole E e h is s) = made_number c p whole E S rest h (inl (is, s)) e
floating_number c p S rest hc (whole_suffix whole E e h is s) = made_number c p whole E S rest h (inr (is, s)) e

digit_begins : (D t : List ℕ) → is_digits D ≡ true → begins is_digit (D ++ t) ≡ true
digit_begins [] t h = absurd (true≢false (sym h))
digit_begins (d ∷ D) t h = (all_parts is_digit d D h).0

point_read : (p D E S rest : List ℕ) → is_digits D ≡ true → IsOptional IsExponent E → IsOptional IsFloatSuffix S → p ≡ D ++ (E ++ S) → Within (token (float_kind S)) (suc (length p)) (point (p ++ rest))
point_read p D E S rest h is s e =
    let g : p ++ rest ≡ D ++ (E ++ (S ++ rest)) = ap (λ x. x ++ rest) e ∙ regroup D E S rest in
    let m : (1 + length D) + length (E ++ S) ≡ suc (length p) = omega (arith, ap length e, length-append D (E ++ S)) in
    rw (g, digit_begins D (E ++ (S ++ rest)) h) (Within-at (token (float_kind S)) _ _ (fraction 1 (D ++ (E ++ (S ++ rest)))) m (fraction_longest 1 D E S rest (digits_all D h) is s))

no_digits_point : (p whole t : List ℕ) → is_digits whole ≡ true → full_stop ∷ p ≡ whole ++ t → ⊥
no_digits_point p whole t h e = let b = begun full_stop p whole t h e in true≢false (sym b.first)

pub floating_point : (p S rest : List ℕ) → IsFloating (full_stop ∷ p) S → Within (token (float_kind S)) (suc (length p)) (point (p ++ rest))
floating_point p S rest (whole_point whole D E e h hD is s) = absurd (no_digits_point p whole _ h e)
floating_point p S rest (point_fraction D E e h is s) = point_read p D E S rest h is s (cc)
floating_point p S rest (whole_exponent whole E e h is s) = absurd (no_digits_point p whole _ h e)
floating_point p S rest (whole_suffix whole E e h is s) = absurd (no_digits_point p whole _ h e)

-- what a floating-point literal begins with
abbrev pub BeginsFloating : List ℕ → Type 0
BeginsFloating [] = ⊥
BeginsFloating (c ∷ p) = (is_digit c ≡ true) ⊎ (c ≡ full_stop)

digits_begin : (spelling whole t : List ℕ) → is_digits whole ≡ true → spelling ≡ whole ++ t → BeginsFloating spelling
digits_begin spelling [] t h e = absurd (true≢false (sym h))
digits_begin spelling (d ∷ w) t h e = rw e (inl (all_parts is_digit d w h).0)

pub floating_begins : (spelling S : List ℕ) → IsFloating spelling S → BeginsFloating spelling
floating_begins spelling S (whole_point whole D E e h hD is s) = digits_begin spelling whole _ h e
floating_begins spelling S (point_fraction D E e h is s) = rw e (inr refl)
floating_begins spelling S (whole_exponent whole E e h is s) = digits_begin spelling whole _ h e
floating_begins spelling S (whole_suffix whole E e h is s) = digits_begin spelling whole _ h e
