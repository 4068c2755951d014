-- What a character may begin, by its class.
use Rattle.std.proofs.Common.{◌≡◌, ◌≢◌, ℕ, ◌<◌, ◌≤◌, true, false, ◌==◌, refl, sym, ap, ◌∙◌, inl, inr, arith, true≢false}
use Rattle.std.proofs.lemmas.Bool.{false_from_ne_true}
use Rattle.std.proofs.lemmas.Bool.Decides.{nat_tests}
use Rattle.java_model.specs.Lexical.Characters.{double_quote, single_quote, slash, full_stop, is_white, is_letter, is_digit}
use Rattle.java_model.proofs.Lexical.Reading.{family_of}
use Rattle.java_model.proofs.Lexical.Reading.Family.{a_white, a_word, a_number, a_point, a_string, a_character, a_slash, a_symbol}
use Rattle.java_model.proofs.Lexical.Classes.{IsLetterNumber, is_letter-number}
use Rattle.java_model.proofs.Lexical.Listed.{is_symbol_start}

not_letter : (c : ℕ) → (IsLetterNumber c → ⊥) → is_letter c ≡ false
not_letter c h = false_from_ne_true (is_letter c) (λ t. h (is_letter-number c t))

pub family_white : (c : ℕ) → is_white c ≡ true → family_of c ≡ a_white
unfolding family_of
family_white c h = rw h refl

letter_white : (c : ℕ) → IsLetterNumber c → is_white c ≡ false
letter_white c h = grind (arith, nat_tests)

pub family_word : (c : ℕ) → is_letter c ≡ true → family_of c ≡ a_word
unfolding family_of
family_word c h = rw (letter_white c (is_letter-number c h), h) refl

digit_white : (c : ℕ) → is_digit c ≡ true → is_white c ≡ false
digit_white c h = grind (arith, nat_tests)

digit_number : (c : ℕ) → is_digit c ≡ true → IsLetterNumber c → ⊥
digit_number c h n = grind (arith, nat_tests)

pub family_number : (c : ℕ) → is_digit c ≡ true → family_of c ≡ a_number
unfolding family_of
family_number c h = rw (digit_white c h, not_letter c (digit_number c h), h) refl

number_apart : (c : ℕ) → c < 65 → c ≢ 36 → IsLetterNumber c → ⊥
number_apart c below apart n = grind arith

pub family_point : family_of full_stop ≡ a_point
unfolding family_of
family_point = rw (not_letter full_stop (number_apart full_stop (omega arith) (omega arith))) refl

pub family_string : family_of double_quote ≡ a_string
unfolding family_of
family_string = rw (not_letter double_quote (number_apart double_quote (omega arith) (omega arith))) refl

pub family_character : family_of single_quote ≡ a_character
unfolding family_of
family_character = rw (not_letter single_quote (number_apart single_quote (omega arith) (omega arith))) refl

pub family_slash : family_of slash ≡ a_slash
unfolding family_of
family_slash = rw (not_letter slash (number_apart slash (omega arith) (omega arith))) refl

-- what begins a symbol begins nothing else, but for a full stop and a slash

symbol_white : (c : ℕ) → is_symbol_start c ≡ true → is_white c ≡ false
symbol_white c h = grind (arith, nat_tests)

symbol_upper : (c : ℕ) → is_symbol_start c ≡ true → 65 ≤ c → c ≤ 90 → ⊥
symbol_upper c h low high = grind (arith, nat_tests)

symbol_lower : (c : ℕ) → is_symbol_start c ≡ true → 97 ≤ c → c ≤ 122 → ⊥
symbol_lower c h low high = grind (arith, nat_tests)

symbol_past : (c : ℕ) → is_symbol_start c ≡ true → 128 ≤ c → ⊥
symbol_past c h low = grind (arith, nat_tests)

symbol_number : (c : ℕ) → is_symbol_start c ≡ true → IsLetterNumber c → ⊥
symbol_number c h (inl e) = true≢false (sym h ∙ ap is_symbol_start e)
symbol_number c h (inr (inl e)) = true≢false (sym h ∙ ap is_symbol_start e)
symbol_number c h (inr (inr (inl upper))) = symbol_upper c h upper.0 upper.1
symbol_number c h (inr (inr (inr (inl lower)))) = symbol_lower c h lower.0 lower.1
symbol_number c h (inr (inr (inr (inr past)))) = symbol_past c h past

symbol_digit : (c : ℕ) → is_symbol_start c ≡ true → is_digit c ≡ false
symbol_digit c h = grind (arith, nat_tests)

symbol_double : (c : ℕ) → is_symbol_start c ≡ true → c == double_quote ≡ false
symbol_double c h = grind (arith, nat_tests)

symbol_single : (c : ℕ) → is_symbol_start c ≡ true → c == single_quote ≡ false
symbol_single c h = grind (arith, nat_tests)

pub family_symbol : (c : ℕ) → is_symbol_start c ≡ true → c == full_stop ≡ false → c == slash ≡ false → family_of c ≡ a_symbol
unfolding family_of
family_symbol c h point slashed = rw (symbol_white c h, not_letter c (symbol_number c h), symbol_digit c h, point, symbol_double c h, symbol_single c h, slashed) refl
