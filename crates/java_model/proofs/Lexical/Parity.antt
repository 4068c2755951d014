-- What the `Bool` of `Unescapes` means: of the backslashes that directly precede a place it tells whether
-- their number is even.
use Rattle.std.proofs.Common.{◌≡◌, ℕ, zero, suc, Bool, true, false, cond, not, ◌==◌, List, [], ◌∷◌, ◌++◌, length, refl, sym, ap, ◌∙◌, arith, append_assoc, ne_eqb}
use Rattle.std.specs.List.{list_all}
use Rattle.std.proofs.lemmas.Bool.Decides.{nat_tests}
use Rattle.java_model.specs.Lexical.Characters.{backslash, letter_u, is_hex_digit}
use Rattle.java_model.specs.Lexical.Escapes.{Input, IsUnicodeEscape, Unescapes}
use Rattle.java_model.specs.Lexical.Escapes.Unescapes.{stops, escape, plain_backslash, plain}
use Rattle.java_model.proofs.Lexical.Classes.{all_parts}

-- how many backslashes stand at the end of a text, before which n stand
abbrev pub backslashes_after : ℕ → List ℕ → ℕ
backslashes_after n [] = n
backslashes_after n (c ∷ text) = backslashes_after (cond (c == backslash) (suc n) 0) text

abbrev pub is_even : ℕ → Bool
is_even zero = true
is_even (suc n) = not (is_even n)

after_append : (n : ℕ) (front back : List ℕ) → backslashes_after n (front ++ back) ≡ backslashes_after (backslashes_after n front) back
after_append n [] back = refl
after_append n (c ∷ front) back = after_append (cond (c == backslash) (suc n) 0) front back

hex_no_backslash : (c : ℕ) → is_hex_digit c ≡ true → c == backslash ≡ false
hex_no_backslash c h = grind (arith, nat_tests)

after_digits : (n d : ℕ) (digits : List ℕ) → list_all is_hex_digit (d ∷ digits) ≡ true → backslashes_after n (d ∷ digits) ≡ 0
after_digits n d [] h = rw (hex_no_backslash d (all_parts is_hex_digit d [] h).0) refl
after_digits n d (e ∷ digits) h = after_digits (cond (d == backslash) (suc n) 0) e digits (all_parts is_hex_digit d (e ∷ digits) h).1

after_four : (n : ℕ) (digits : List ℕ) → length digits ≡ 4 → list_all is_hex_digit digits ≡ true → backslashes_after n digits ≡ 0
after_four n [] l h = cc
after_four n (d ∷ digits) l h = after_digits n d digits h

after_escape : (n : ℕ) (spelling : List ℕ) (unit : ℕ) → IsUnicodeEscape spelling unit → backslashes_after n spelling ≡ 0
after_escape n spelling unit e =
    ap (backslashes_after n) e.spelled ∙ (after_append n (backslash ∷ letter_u ∷ e.more) e.digits ∙ after_four (backslashes_after n (backslash ∷ letter_u ∷ e.more)) e.digits e.four e.hexadecimal)

-- what stands before the rest, with the parity of the backslashes at its end
record Passed (n : ℕ) (text : List ℕ) (end : Bool) (rest : List ℕ) : Type 0 where
  front : List ℕ
  parted : text ≡ front ++ rest
  parity : is_even (backslashes_after n front) ≡ end

passed_more : (n m : ℕ) (text piece after : List ℕ) (end : Bool) (rest : List ℕ) → text ≡ piece ++ after → backslashes_after n piece ≡ m → Passed m after end rest → Passed n text end rest
passed_more n m text piece after end rest t e p = record {
  front = piece ++ p.front;
  parted = t ∙ (ap (λ x. piece ++ x) p.parted ∙ sym (append_assoc piece p.front rest));
  parity = ap is_even (after_append n piece p.front ∙ ap (λ k. backslashes_after k p.front) e) ∙ p.parity;
}

passed : {even : Bool} {text : List ℕ} {units : List Input} {end : Bool} {rest : List ℕ} → Unescapes even text units end rest → (n : ℕ) → is_even n ≡ even → Passed n text end rest
passed stops n h = record { front = []; parted = refl; parity = h }
passed {text} {end} {rest} (escape spelling after unit t even is walk) n h = passed_more n 0 text spelling after end rest t (after_escape n spelling unit is) (passed walk 0 refl)
passed {end} {rest} (plain_backslash {text = t} plainly walk) n h = passed_more n (suc n) (backslash ∷ t) (backslash ∷ []) t end rest refl refl (passed walk (suc n) (ap not h))
passed {end} {rest} (plain {c = c} {text = t} apart walk) n h = passed_more n 0 (c ∷ t) (c ∷ []) t end rest refl (rw (ne_eqb c backslash apart) refl) (passed walk 0 refl)

pub Unescapes-parity : (text : List ℕ) (units : List Input) (end : Bool) (rest : List ℕ) → Unescapes true text units end rest → (front : List ℕ) × (text ≡ front ++ rest) × (is_even (backslashes_after 0 front) ≡ end)
Unescapes-parity text units end rest walk = let p = passed walk 0 refl in (p.front, p.parted, p.parity)
