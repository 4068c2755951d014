-- What is read at a number is a literal of its kind.
use Rattle.std.proofs.Common.{◌≡◌, ℕ, suc, ◌+◌, ◌<◌, ◌⊎◌, Bool, true, false, cond, ◌&&◌, ◌||◌, ◌==◌, List, [], ◌∷◌, ◌++◌, length, drop, codes, refl, sym, ap, ◌∙◌, subst, inl, inr, arith, true≢false, append_assoc, length-append, nat_lt, ltb-true, eqb-true}
use Rattle.std.specs.List.{list_all}
use Rattle.std.proofs.lemmas.Bool.{cond_both, and_parts, and_from, or_left, or_right}
use Rattle.std.proofs.lemmas.Bool.Decides.{nat_tests}
use Rattle.std.proofs.lemmas.List.{drop_at}
use Rattle.java_tree.specs.declared.outline.Level.{Level}
use Rattle.java_tree.specs.declared.token.TokenKind.{TokenKind}
use Rattle.java_tree.specs.declared.token.TokenKind.TheVariants.{LongLit, FloatLit, DoubleLit, Symbol}
use Rattle.java_model.specs.Lexical.Characters.{full_stop, is_one_of, is_digit, is_nonzero_digit, is_octal_digit, is_hex_digit}
use Rattle.java_model.specs.Lexical.Numbers.{is_run, is_decimal, is_hex, is_octal, is_numeral, is_digits, IsExponent, IsFloatSuffix, IsOptional, IsFloating}
use Rattle.java_model.specs.Lexical.Numbers.IsFloating.{whole_point, point_fraction, whole_exponent, whole_suffix}
use Rattle.java_model.specs.Lexical.Elements.{IsElement}
use Rattle.java_model.specs.Lexical.Elements.Element.{token}
use Rattle.java_model.proofs.Lexical.Reading.{run, begins, is_sign, sign_length, exponent_digits, exponent_length, is_f, is_d, is_l, float_suffix, float_end, int_end, has_float_end, fraction, octal, after_digits, decimal, is_hexed, hexed, number, point}
use Rattle.java_model.proofs.Lexical.Reading.Found.{found}
use Rattle.java_model.proofs.Lexical.Classes.{all_parts}
use Rattle.java_model.proofs.Lexical.Runs.{Parted, parted}
use Rattle.java_model.proofs.Lexical.LongestFloats.{float_kind}
use Rattle.java_model.proofs.Lexical.Sound.{Front, Sound, First, first_of_begins}

-- the exponent that is read

pub record ExponentPart (rest : List ℕ) (n : ℕ) : Type 0 where
  pub exponent : List ℕ
  pub left : List ℕ
  pub same : rest ≡ exponent ++ left
  pub counted : length exponent ≡ n
  pub optional : IsOptional IsExponent exponent
  pub some : 0 < n → IsExponent exponent

no_exponent : (rest : List ℕ) → ExponentPart rest 0
no_exponent rest = record { exponent = []; left = rest; same = refl; counted = refl; optional = inl refl; some = λ h. absurd (omega arith) }

record SignPart (cs : List ℕ) : Type 0 where
  sign : List ℕ
  left : List ℕ
  same : cs ≡ sign ++ left
  counted : length sign ≡ sign_length cs
  dropped : drop (sign_length cs) cs ≡ left
  signed : (sign ≡ []) ⊎ (sign ≡ codes "+") ⊎ (sign ≡ codes "-")

sign_is : (c : ℕ) → is_sign c ≡ true → (c ≡ 43) ⊎ (c ≡ 45)
sign_is c h = grind (arith, nat_tests)

sign_letter : (c : ℕ) → (c ≡ 43) ⊎ (c ≡ 45) → (c ∷ [] ≡ []) ⊎ (c ∷ [] ≡ codes "+") ⊎ (c ∷ [] ≡ codes "-")
sign_letter c (inl e) = inr (inl (ap (λ x. x ∷ []) e))
sign_letter c (inr e) = inr (inr (ap (λ x. x ∷ []) e))

sign_part : (cs : List ℕ) → SignPart cs
sign_part [] = record { sign = []; left = []; same = refl; counted = refl; dropped = refl; signed = inl refl }
sign_part (c ∷ cs) = elim (is_sign c) as (λ b. is_sign c ≡ b → SignPart (c ∷ cs)) [
  | true ↦ λ e. record { sign = c ∷ []; left = cs; same = refl; counted = rw e refl; dropped = rw e refl; signed = sign_letter c (sign_is c e) }
  | false ↦ λ e. record { sign = []; left = c ∷ cs; same = refl; counted = rw e refl; dropped = rw e refl; signed = inl refl }
] refl

run_digits : (front : List ℕ) → list_all is_digit front ≡ true → 0 < length front → is_digits front ≡ true
run_digits [] h l = absurd (omega arith)
run_digits (d ∷ front) h l = h

exponent_from : (l : ℕ) (cs : List ℕ) → is_one_of (codes "eE") l ≡ true → 0 < exponent_digits cs → (s : SignPart cs) → ExponentPart (l ∷ cs) (suc (sign_length cs + exponent_digits cs))
exponent_from l cs e h s =
    let p = parted is_digit s.left in
    let k : exponent_digits cs ≡ length p.front = ap (run is_digit) s.dropped ∙ p.counted in
    let valid : is_digits p.front ≡ true = run_digits p.front p.all (omega arith) in
    let E : List ℕ = l ∷ (s.sign ++ p.front) in
    let is : IsExponent (l ∷ (s.sign ++ p.front)) = record { letter = l; sign = s.sign; digits = p.front; spelled = refl; marked = e; signed = s.signed; valid = valid } in
    record {
      exponent = l ∷ (s.sign ++ p.front);
      left = p.rest;
      same = ap (λ x. l ∷ x) (s.same ∙ (ap (λ x. s.sign ++ x) p.whole ∙ sym (append_assoc s.sign p.front p.rest)));
      counted = omega (arith, length-append s.sign p.front, s.counted);
      optional = inr is;
      some = λ _. is;
    }

exponent_part : (rest : List ℕ) → ExponentPart rest (exponent_length rest)
exponent_part [] = no_exponent []
exponent_part (l ∷ cs) =
    cond_both (is_one_of (codes "eE") l && nat_lt 0 (exponent_digits cs)) (suc (sign_length cs + exponent_digits cs)) 0 (ExponentPart (l ∷ cs))
    (λ h. let parts = and_parts (is_one_of (codes "eE") l) (nat_lt 0 (exponent_digits cs)) h in exponent_from l cs parts.0 (ltb-true 0 (exponent_digits cs) parts.1) (sign_part cs))
    (λ _. no_exponent (l ∷ cs))

-- the suffix that is read

pub record SuffixPart (rest : List ℕ) (n : ℕ) : Type 0 where
  pub suffix : List ℕ
  pub left : List ℕ
  pub same : rest ≡ suffix ++ left
  pub optional : IsOptional IsFloatSuffix suffix
  pub read : float_suffix n rest ≡ found (token (float_kind suffix)) (n + length suffix)
  pub some : (begins is_f rest || begins is_d rest) ≡ true → IsFloatSuffix suffix

f_letter : (c : ℕ) → is_f c ≡ true → is_one_of (codes "fFdD") c ≡ true
f_letter c h = grind (arith, nat_tests)

d_letter : (c : ℕ) → is_d c ≡ true → is_one_of (codes "fFdD") c ≡ true
d_letter c h = grind (arith, nat_tests)

one_more : (k : TokenKind) (n : ℕ) → found (token k) (suc n) ≡ found (token k) (n + 1)
one_more k n = ap (found (token k)) (omega arith)

suffix_part : (rest : List ℕ) (n : ℕ) → SuffixPart rest n
suffix_part [] n = record { suffix = []; left = []; same = refl; optional = inl refl; read = ap (found (token DoubleLit)) (omega arith); some = λ h. absurd (true≢false (sym h)) }
suffix_part (c ∷ rest) n = elim (is_f c) as (λ b. is_f c ≡ b → SuffixPart (c ∷ rest) n) [
  | true ↦ λ e. record { suffix = c ∷ []; left = rest; same = refl; optional = inr (c, refl, f_letter c e); read = rw e (one_more FloatLit n); some = λ _. (c, refl, f_letter c e) }
  | false ↦ λ e. elim (is_d c) as (λ b. is_d c ≡ b → SuffixPart (c ∷ rest) n) [
    | true ↦ λ d. record { suffix = c ∷ []; left = rest; same = refl; optional = inr (c, refl, d_letter c d); read = rw (e, d) (one_more DoubleLit n); some = λ _. (c, refl, d_letter c d) }
    | false ↦ λ d. record { suffix = []; left = c ∷ rest; same = refl; optional = inl refl; read = rw (e, d) (ap (found (token DoubleLit)) (omega arith)); some = λ h. absurd (true≢false (sym h ∙ rw (e, d) refl)) }
  ] refl
] refl

-- exponent and suffix together

pub record FloatPart (rest : List ℕ) (n : ℕ) : Type 0 where
  pub exponent : List ℕ
  pub suffix : List ℕ
  pub left : List ℕ
  pub same : rest ≡ exponent ++ (suffix ++ left)
  pub has_exponent : IsOptional IsExponent exponent
  pub has_suffix : IsOptional IsFloatSuffix suffix
  pub read : float_end n rest ≡ found (token (float_kind suffix)) (n + length (exponent ++ suffix))
  pub made : has_float_end rest ≡ true → IsExponent exponent ⊎ IsFloatSuffix suffix

zero_or_more : (n : ℕ) → (n ≡ 0) ⊎ (0 < n)
zero_or_more n = grind arith

empty_list : (xs : List ℕ) → length xs ≡ 0 → xs ≡ []
empty_list [] h = refl
empty_list (x ∷ xs) h = absurd (omega arith)

left_alone : (rest : List ℕ) (e : ExponentPart rest (exponent_length rest)) → exponent_length rest ≡ 0 → e.left ≡ rest
left_alone rest e none = let n : e.exponent ≡ [] = empty_list e.exponent (e.counted ∙ none) in sym (e.same ∙ ap (λ x. x ++ e.left) n)

suffix_only : (a b c : Bool) → (a || b) || c ≡ true → a ≡ false → (b || c) ≡ true
suffix_only true b c h f = absurd (true≢false f)
suffix_only false b c h f = h

no_length : (n : ℕ) → n ≡ 0 → nat_lt 0 n ≡ false
no_length n h = grind (arith, nat_tests)

float_part_of : (rest : List ℕ) (n : ℕ) (e : ExponentPart rest (exponent_length rest)) → SuffixPart e.left (n + exponent_length rest) → FloatPart rest n
float_part_of rest n e s =
    let d : drop (exponent_length rest) rest ≡ e.left = ap (λ k. drop k rest) (sym e.counted) ∙ (ap (drop (length e.exponent)) e.same ∙ drop_at e.exponent e.left (length e.exponent) refl) in
    let m : (n + exponent_length rest) + length s.suffix ≡ n + length (e.exponent ++ s.suffix) = omega (arith, e.counted, length-append e.exponent s.suffix) in
    record {
      exponent = e.exponent;
      suffix = s.suffix;
      left = s.left;
      same = e.same ∙ ap (λ x. e.exponent ++ x) s.same;
      has_exponent = e.optional;
      has_suffix = s.optional;
      read = ap (float_suffix (n + exponent_length rest)) d ∙ (s.read ∙ ap (found (token (float_kind s.suffix))) m);
      made = λ h. elim (zero_or_more (exponent_length rest)) [
        | inl none ↦ inr (s.some (subst (λ x. (begins is_f x || begins is_d x) ≡ true) (sym (left_alone rest e none)) (suffix_only (nat_lt 0 (exponent_length rest)) (begins is_f rest) (begins is_d rest) h (no_length (exponent_length rest) none))))
        | inr some ↦ inl (e.some some)
      ];
    }

float_part : (rest : List ℕ) (n : ℕ) → FloatPart rest n
float_part rest n = let e = exponent_part rest in float_part_of rest n e (suffix_part e.left (n + exponent_length rest))

-- a literal of the kind that its suffix says

suffix_kind : (level : Level) (s : List ℕ) (c : ℕ) → is_one_of (codes "fFdD") c ≡ true → IsFloating s (c ∷ []) → IsElement level (token (float_kind (c ∷ []))) s
suffix_kind level s c h is = elim (is_f c) as (λ b. is_f c ≡ b → IsElement level (token (cond b FloatLit DoubleLit)) s) [
  | true ↦ λ e. (c, is, e)
  | false ↦ λ e. (c ∷ [], is, is_d_letter c h e)
] refl
  where
    is_d_letter : (c : ℕ) → is_one_of (codes "fFdD") c ≡ true → is_f c ≡ false → list_all (is_one_of (codes "dD")) (c ∷ []) ≡ true
    is_d_letter c h e = grind (arith, nat_tests)

floating_kind : (level : Level) (s S : List ℕ) → IsOptional IsFloatSuffix S → IsFloating s S → IsElement level (token (float_kind S)) s
floating_kind level s S (inl e) is = subst (λ x. IsElement level (token (float_kind x)) s) (sym e) ([], subst (IsFloating s) e is, refl)
floating_kind level s S (inr (c, e, h)) is = subst (λ x. IsElement level (token (float_kind x)) s) (sym e) (suffix_kind level s c h (subst (IsFloating s) e is))

-- what is read behind the characters of a literal before its exponent
float_sound : (level : Level) (cs P rest : List ℕ) (n : ℕ) (f : FloatPart rest n) → cs ≡ P ++ rest → length P ≡ n → IsFloating (P ++ (f.exponent ++ f.suffix)) f.suffix → Sound level cs (float_end n rest)
float_sound level cs P rest n f same counted is =
    let e : cs ≡ (P ++ (f.exponent ++ f.suffix)) ++ f.left = same ∙ (ap (λ x. P ++ x) f.same ∙ (ap (λ x. P ++ x) (sym (append_assoc f.exponent f.suffix f.left)) ∙ sym (append_assoc P (f.exponent ++ f.suffix) f.left))) in
    rw f.read (record {
      front = P ++ (f.exponent ++ f.suffix);
      rest = f.left;
      parted = e;
      here = floating_kind level (P ++ (f.exponent ++ f.suffix)) f.suffix f.has_suffix is;
      counted = omega (arith, length-append P (f.exponent ++ f.suffix));
    })

-- behind a full stop

regroup : (P D E S : List ℕ) → (P ++ full_stop ∷ D) ++ (E ++ S) ≡ P ++ full_stop ∷ (D ++ (E ++ S))
regroup P D E S = append_assoc P (full_stop ∷ D) (E ++ S)

fraction_from : (level : Level) (cs P r : List ℕ) (n : ℕ) (p : Parted is_digit r) → FloatPart p.rest (n + length p.front) → cs ≡ P ++ full_stop ∷ r → suc (length P) ≡ n
    → ((D E S : List ℕ) → D ≡ p.front → IsOptional IsExponent E → IsOptional IsFloatSuffix S → IsFloating ((P ++ full_stop ∷ D) ++ (E ++ S)) S) → Sound level cs (fraction n r)
fraction_from level cs P r n p f same counted is =
    let e : cs ≡ (P ++ full_stop ∷ p.front) ++ p.rest = same ∙ (ap (λ x. P ++ full_stop ∷ x) p.whole ∙ sym (append_assoc P (full_stop ∷ p.front) p.rest)) in
    let k : length (P ++ full_stop ∷ p.front) ≡ n + length p.front = omega (arith, length-append P (full_stop ∷ p.front)) in
    let s = float_sound level cs (P ++ full_stop ∷ p.front) p.rest (n + length p.front) f e k (is p.front f.exponent f.suffix refl f.has_exponent f.has_suffix) in
    rw (p.left, p.counted) s

fraction_sound : (level : Level) (c : ℕ) (w r : List ℕ) → list_all is_digit (c ∷ w) ≡ true → Sound level (c ∷ (w ++ full_stop ∷ r)) (fraction (suc (suc (length w))) r)
fraction_sound level c w r h =
    let p = parted is_digit r in
    fraction_from level (c ∷ (w ++ full_stop ∷ r)) (c ∷ w) r (suc (suc (length w))) p (float_part p.rest (suc (suc (length w)) + length p.front)) refl refl
    (λ D E S same e s. whole_point (c ∷ w) D E (regroup (c ∷ w) D E S) h (subst (λ x. list_all is_digit x ≡ true) (sym same) p.all) e s)

some_digits : (r : List ℕ) (p : Parted is_digit r) → begins is_digit r ≡ true → is_digits p.front ≡ true
some_digits r p h = digits_here p.front p.rest p.all (subst (λ x. begins is_digit x ≡ true) p.whole h) p.ended
  where
    digits_here : (D rest : List ℕ) → list_all is_digit D ≡ true → begins is_digit (D ++ rest) ≡ true → begins is_digit rest ≡ false → is_digits D ≡ true
    digits_here [] rest all h ended = absurd (true≢false (sym h ∙ ended))
    digits_here (d ∷ D) rest all h ended = all

pub point_sound : (level : Level) (c : ℕ) (cs : List ℕ) → c ≡ full_stop → IsElement level (token Symbol) (full_stop ∷ []) → Sound level (c ∷ cs) (point cs)
point_sound level c cs e symbol =
    subst (λ x. Sound level (x ∷ cs) (point cs)) (sym e)
    (cond_both (begins is_digit cs) _ _ (Sound level (full_stop ∷ cs)) (λ h.
    let p = parted is_digit cs in
    fraction_from level (full_stop ∷ cs) [] cs 1 p (float_part p.rest (1 + length p.front)) refl refl
    (λ D E S same e s. point_fraction D E refl (subst (λ x. is_digits x ≡ true) (sym same) (some_digits cs p h)) e s))
    (λ _. record { front = full_stop ∷ []; rest = cs; parted = refl; here = symbol; counted = refl }))

-- integer literals

int_long : (level : Level) (cs numeral : List ℕ) (n l : ℕ) (rest : List ℕ) → cs ≡ numeral ++ l ∷ rest → length numeral ≡ n → is_numeral numeral ≡ true → is_l l ≡ true → Front level cs (token LongLit) (suc n)
int_long level cs numeral n l rest same counted h is = record {
  front = numeral ++ l ∷ [];
  rest = rest;
  parted = same ∙ sym (append_assoc numeral (l ∷ []) rest);
  here = record { numeral = numeral; suffix = l; spelled = refl; valid = h; long = is };
  counted = omega (arith, length-append numeral (l ∷ []));
}

int_sound : (level : Level) (cs numeral rest : List ℕ) (n : ℕ) → cs ≡ numeral ++ rest → length numeral ≡ n → is_numeral numeral ≡ true → Sound level cs (int_end n rest)
int_sound level cs numeral rest n same counted h =
    cond_both (begins is_l rest) _ _ (Sound level cs) (λ l.
    let f = first_of_begins is_l rest l in
    int_long level cs numeral n f.head f.tail (same ∙ ap (λ x. numeral ++ x) f.same) counted h f.passes)
    (λ _. record { front = numeral; rest = rest; parted = same; here = h; counted = counted })

octal_valid : (o : List ℕ) → list_all is_octal_digit o ≡ true → is_numeral (48 ∷ o) ≡ true
octal_valid [] h = refl
octal_valid (d ∷ o) h = or_right (is_decimal (48 ∷ d ∷ o) || is_hex (48 ∷ d ∷ o)) (is_octal (48 ∷ d ∷ o)) h

octal_sound : (level : Level) (cs : List ℕ) (p : Parted is_octal_digit cs) → Sound level (48 ∷ cs) (octal cs)
octal_sound level cs p =
    let s = int_sound level (48 ∷ cs) (48 ∷ p.front) p.rest (suc (length p.front)) (ap (λ x. 48 ∷ x) p.whole) refl (octal_valid p.front p.all) in
    rw (p.left, p.counted) s

nonzero : (c : ℕ) → is_digit c ≡ true → c == 48 ≡ false → is_nonzero_digit c ≡ true
nonzero c h e = grind (arith, nat_tests)

decimal_valid : (c : ℕ) (w : List ℕ) → list_all is_digit (c ∷ w) ≡ true → c == 48 ≡ false → is_numeral (c ∷ w) ≡ true
decimal_valid c [] h e = or_left (is_decimal (c ∷ []) || is_hex (c ∷ [])) (is_octal (c ∷ [])) (or_left (is_decimal (c ∷ [])) (is_hex (c ∷ [])) (all_parts is_digit c [] h).0)
decimal_valid c (d ∷ w) h e =
    let parts = all_parts is_digit c (d ∷ w) h in
    or_left (is_decimal (c ∷ d ∷ w) || is_hex (c ∷ d ∷ w)) (is_octal (c ∷ d ∷ w)) (or_left (is_decimal (c ∷ d ∷ w)) (is_hex (c ∷ d ∷ w)) (and_from (is_nonzero_digit c) (is_run is_digit (d ∷ w)) (nonzero c parts.0 e) parts.1))

-- behind digits

point_follows : (level : Level) (c : ℕ) (w rest : List ℕ) → list_all is_digit (c ∷ w) ≡ true → First (λ x. x == full_stop) rest → Sound level (c ∷ (w ++ rest)) (fraction (suc (suc (length w))) (drop 1 rest))
point_follows level c w rest h f =
    let e : rest ≡ full_stop ∷ f.tail = f.same ∙ ap (λ x. x ∷ f.tail) (eqb-true f.head full_stop f.passes) in
    subst (λ x. Sound level (c ∷ (w ++ x)) (fraction (suc (suc (length w))) (drop 1 x))) (sym e) (fraction_sound level c w f.tail h)

made_follows : (level : Level) (c : ℕ) (w rest : List ℕ) → list_all is_digit (c ∷ w) ≡ true → has_float_end rest ≡ true → (f : FloatPart rest (suc (length w))) → Sound level (c ∷ (w ++ rest)) (float_end (suc (length w)) rest)
made_follows level c w rest h made f =
    float_sound level (c ∷ (w ++ rest)) (c ∷ w) rest (suc (length w)) f refl refl (elim (f.made made) [
      | inl e ↦ whole_exponent (c ∷ w) f.exponent refl h e f.has_suffix
      | inr s ↦ whole_suffix (c ∷ w) f.exponent refl h f.has_exponent s
    ])

after_sound : (level : Level) (c : ℕ) (w rest : List ℕ) → list_all is_digit (c ∷ w) ≡ true → Sound level (c ∷ (w ++ rest)) (after_digits c (suc (length w)) (w ++ rest) rest)
after_sound level c w rest h =
    cond_both (begins (λ x. x == full_stop) rest) _ _ (Sound level (c ∷ (w ++ rest))) (λ p. point_follows level c w rest h (first_of_begins (λ x. x == full_stop) rest p)) (λ _.
    cond_both (has_float_end rest) _ _ (Sound level (c ∷ (w ++ rest))) (λ made. made_follows level c w rest h made (float_part rest (suc (length w)))) (λ _.
    cond_both (c == 48) _ _ (Sound level (c ∷ (w ++ rest))) (λ nought. subst (λ x. Sound level (x ∷ (w ++ rest)) (octal (w ++ rest))) (sym (eqb-true c 48 nought)) (octal_sound level (w ++ rest) (parted is_octal_digit (w ++ rest)))) (λ other.
    int_sound level (c ∷ (w ++ rest)) (c ∷ w) rest (suc (length w)) refl refl (decimal_valid c w h other))))

decimal_sound : (level : Level) (c : ℕ) (cs : List ℕ) → is_digit c ≡ true → Parted is_digit cs → Sound level (c ∷ cs) (decimal c cs)
decimal_sound level c cs h p =
    let s = after_sound level c p.front p.rest (and_from (is_digit c) (list_all is_digit p.front) h p.all) in
    let s' : Sound level (c ∷ cs) (after_digits c (suc (length p.front)) cs p.rest) = subst (λ x. Sound level (c ∷ x) (after_digits c (suc (length p.front)) x p.rest)) (sym p.whole) s in
    subst (λ n. Sound level (c ∷ cs) (after_digits c (suc n) cs (drop (run is_digit cs) cs))) (sym p.counted) (subst (λ r. Sound level (c ∷ cs) (after_digits c (suc (length p.front)) cs r)) (sym p.left) s')

-- hexadecimal literals

hex_valid : (x : ℕ) (D : List ℕ) → is_one_of (codes "xX") x ≡ true → is_run is_hex_digit D ≡ true → is_numeral (48 ∷ x ∷ D) ≡ true
hex_valid x D hx h = or_left (is_decimal (48 ∷ x ∷ D) || is_hex (48 ∷ x ∷ D)) (is_octal (48 ∷ x ∷ D)) (or_right (is_decimal (48 ∷ x ∷ D)) (is_hex (48 ∷ x ∷ D)) (and_from (is_one_of (codes "xX") x) (is_run is_hex_digit D) hx h))

run_here : (test : ℕ → Bool) (D rest : List ℕ) → list_all test D ≡ true → begins test (D ++ rest) ≡ true → begins test rest ≡ false → is_run test D ≡ true
run_here test [] rest all h ended = absurd (true≢false (sym h ∙ ended))
run_here test (d ∷ D) rest all h ended = all

hexed_from : (level : Level) (x : ℕ) (ds : List ℕ) → is_one_of (codes "xX") x ≡ true → begins is_hex_digit ds ≡ true → (p : Parted is_hex_digit ds) → Sound level (48 ∷ x ∷ ds) (hexed ds)
hexed_from level x ds hx h p =
    let r = run_here is_hex_digit p.front p.rest p.all (subst (λ y. begins is_hex_digit y ≡ true) p.whole h) p.ended in
    let s = int_sound level (48 ∷ x ∷ ds) (48 ∷ x ∷ p.front) p.rest (suc (suc (length p.front))) (ap (λ y. 48 ∷ x ∷ y) p.whole) refl (hex_valid x p.front hx r) in
    rw (p.left, p.counted) s

hexed_sound : (level : Level) (c : ℕ) (cs : List ℕ) → is_hexed c cs ≡ true → Sound level (c ∷ cs) (hexed (drop 1 cs))
hexed_sound level c [] h = absurd (true≢false (sym (and_parts ((c == 48) && false) false h).1))
hexed_sound level c (x ∷ ds) h =
    let parts = and_parts (c == 48 && is_one_of (codes "xX") x) (begins is_hex_digit ds) h in
    let first = and_parts (c == 48) (is_one_of (codes "xX") x) parts.0 in
    subst (λ y. Sound level (y ∷ x ∷ ds) (hexed ds)) (sym (eqb-true c 48 first.0)) (hexed_from level x ds first.1 parts.1 (parted is_hex_digit ds))

pub number_sound : (level : Level) (c : ℕ) (cs : List ℕ) → is_digit c ≡ true → Sound level (c ∷ cs) (number c cs)
number_sound level c cs h =
    cond_both (is_hexed c cs) _ _ (Sound level (c ∷ cs)) (λ x. hexed_sound level c cs x) (λ _. decimal_sound level c cs h (parted is_digit cs))
