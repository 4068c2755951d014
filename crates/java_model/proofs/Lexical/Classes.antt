-- What the classes of characters say of a character's number.
use Rattle.std.proofs.Common.{◌≡◌, ℕ, ◌<◌, ◌≤◌, ◌⊎◌, Bool, true, false, arith, ◌==◌, inl, inr, List, [], ◌∷◌, sym, ◌∙◌}
use Rattle.std.specs.Char.{is_ascii_alphabetic}
use Rattle.std.specs.List.{list_all}
use Rattle.std.proofs.lemmas.Bool.{or_cases, cases_lt, and_parts}
use Rattle.std.proofs.lemmas.Bool.Decides.{nat_tests}
use Rattle.unicode_ident.specs.Ident.{is_xid_start}
use Rattle.unicode_ident.proofs.IdentLemmas.{is_xid_start-ascii}
use Rattle.java_model.specs.Lexical.Characters.{is_one_of, is_white, is_letter, is_digit, is_hex_digit, letter_u}

-- the parts of a test of all elements
pub all_parts : {X : Type 0} (test : X → Bool) (x : X) (xs : List X) → list_all test (x ∷ xs) ≡ true → (test x ≡ true) × (list_all test xs ≡ true)
all_parts test x xs h = and_parts (test x) (list_all test xs) h

pub is_digit-range : (c : ℕ) → is_digit c ≡ true → (48 ≤ c) × (c ≤ 57)
is_digit-range c h = grind (arith, nat_tests)

pub is_hex_digit-letter_u : (c : ℕ) → is_hex_digit c ≡ true → (c == letter_u) ≡ false
is_hex_digit-letter_u c h = grind (arith, nat_tests)

pub is_white-range : (c : ℕ) → is_white c ≡ true → c ≤ 32
is_white-range c h = grind (arith, nat_tests)

-- a letter is `$`, `_`, an ASCII letter, or past ASCII
abbrev pub IsLetterNumber : ℕ → Type 0
IsLetterNumber c = (c ≡ 36) ⊎ ((c ≡ 95) ⊎ (((65 ≤ c) × (c ≤ 90)) ⊎ (((97 ≤ c) × (c ≤ 122)) ⊎ (128 ≤ c))))

ascii_letter : (c : ℕ) → is_ascii_alphabetic c ≡ true → IsLetterNumber c
ascii_letter c h = grind (arith, nat_tests)

letter_number : (c : ℕ) → is_xid_start c ≡ true → (c < 128) ⊎ (128 ≤ c) → IsLetterNumber c
letter_number c h (inl below) = ascii_letter c (sym (is_xid_start-ascii c below) ∙ h)
letter_number c h (inr above) = inr (inr (inr (inr above)))

sign_number : (c : ℕ) → is_one_of (36 ∷ 95 ∷ []) c ≡ true → IsLetterNumber c
sign_number c h = grind (arith, nat_tests)

pub is_letter-number : (c : ℕ) → is_letter c ≡ true → IsLetterNumber c
is_letter-number c h = elim (or_cases (is_one_of (36 ∷ 95 ∷ []) c) (is_xid_start c) h) [ inl sign ↦ sign_number c sign | inr start ↦ letter_number c start (cases_lt c 128) ]
