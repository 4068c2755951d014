-- Character literals (JLS 3.10.4), string literals (JLS 3.10.5) and the escapes in them (JLS 3.10.6).
use Rattle.std.specs.Prelude.{◌≡◌, ℕ, Bool, false, ◌&&◌, ◌||◌, not, ◌==◌, IsTrue, List, [], ◌∷◌, ◌++◌, codes}
use Rattle.java_model.specs.Lexical.Characters.{backslash, double_quote, single_quote, is_one_of, is_line_end, is_octal_digit, is_zero_to_three}

-- JLS 3.10.6: a backslash with a letter or a sign, or with one to three octal digits, of three of which
-- the first is 0 to 3
abbrev pub is_escape_sequence : List ℕ → Bool
is_escape_sequence (b ∷ c ∷ []) =
    b == backslash && (is_one_of (codes "btnfr\"'\\") c || is_octal_digit c)
is_escape_sequence (b ∷ c ∷ d ∷ []) = b == backslash && is_octal_digit c && is_octal_digit d
is_escape_sequence (b ∷ c ∷ d ∷ e ∷ []) =
    b == backslash && is_zero_to_three c && is_octal_digit d && is_octal_digit e
is_escape_sequence _ = false

-- one character that is no backslash, no line end and not this quote
abbrev pub is_plain : ℕ → List ℕ → Bool
is_plain quote (c ∷ []) = not (c == quote || c == backslash || is_line_end c)
is_plain quote _ = false

-- JLS 3.10.4, 3.10.5: what may stand between such quotes as one character
abbrev pub is_quoted_character : ℕ → List ℕ → Bool
is_quoted_character quote spelling = is_plain quote spelling || is_escape_sequence spelling

-- JLS 3.10.4: one character between two quotes
pub record IsCharLiteral (spelling : List ℕ) : Type 0 where
  pub inside : List ℕ
  pub spelled : spelling ≡ single_quote ∷ (inside ++ single_quote ∷ [])
  pub one : IsTrue (is_quoted_character single_quote inside)

-- JLS 3.10.5: StringCharacters, which may be none
pub data AreStringCharacters : List ℕ → Type 0 where
  none : AreStringCharacters []
  more : {spelling : List ℕ} (first others : List ℕ)
      → spelling ≡ first ++ others
      → IsTrue (is_quoted_character double_quote first)
      → AreStringCharacters others
      → AreStringCharacters spelling

-- JLS 3.10.5: characters between two quotes
pub record IsStringLiteral (spelling : List ℕ) : Type 0 where
  pub inside : List ℕ
  pub spelled : spelling ≡ double_quote ∷ (inside ++ double_quote ∷ [])
  pub valid : AreStringCharacters inside
