-- The first fault of a text that has no tokens, with the byte at which it stands.
use Rattle.std.specs.Prelude.{◌≡◌, ℕ, ◌+◌, Bool, true, IsTrue, List, [], ◌∷◌, ◌++◌}
use Rattle.java_tree.specs.declared.outline.Level.{Level}
use Rattle.java_tree.specs.declared.token.Token.{Token}
use Rattle.java_model.specs.Lexical.Characters.{backslash, double_quote, single_quote, is_line_end}
use Rattle.java_model.specs.Lexical.Escapes.{Input, characters_of, width_of, HasNoFront, HasInputs, HasBadEscape}
use Rattle.java_model.specs.Lexical.Comments.{IsTraditionalComment}
use Rattle.java_model.specs.Lexical.Quoted.{is_escape_sequence, is_quoted_character, AreStringCharacters, IsCharLiteral}
use Rattle.java_model.specs.Lexical.Elements.{Element, IsElement, begins_comment}
use Rattle.java_model.specs.Lexical.Tokens.{AreElements, without_sub}

-- a Unicode escape without its digits, a character that begins nothing, a literal or comment that
-- doesn't end
pub data LexicalFault : Type 0 where
  bad_escape : ℕ → LexicalFault
  bad_char : ℕ → LexicalFault
  unclosed : ℕ → LexicalFault

-- the byte at which a fault stands
abbrev pub place_of : LexicalFault → ℕ
place_of (bad_escape at) = at
place_of (bad_char at) = at
place_of (unclosed at) = at

-- whether the characters are at a line's end or at the text's end
abbrev pub is_line_over : List ℕ → Bool
is_line_over [] = true
is_line_over (c ∷ cs) = is_line_end c

-- the characters begin with a backslash that begins no escape
abbrev pub IsBadBackslash : List ℕ → Type 0
IsBadBackslash cs =
    (after : List ℕ) × (cs ≡ backslash ∷ after) × HasNoFront (λ front. IsTrue (is_escape_sequence front)) cs

-- The fault of what begins at this byte, where these inputs are left and no element is next. It stands
-- there, or at a backslash further on.
pub data IsFaultAt (level : Level) (at : ℕ) (inputs : List Input) : LexicalFault → Type 0 where
  -- JLS 3.7: `/*` without `*/`
  open_comment : IsTrue (begins_comment (characters_of inputs))
      → HasNoFront IsTraditionalComment (characters_of inputs)
      → IsFaultAt level at inputs (unclosed at)
  -- JLS 3.10.5: the line or the text ends before the closing quote of a string
  open_string : (inside after : List ℕ)
      → characters_of inputs ≡ double_quote ∷ (inside ++ after)
      → AreStringCharacters inside
      → IsTrue (is_line_over after)
      → IsFaultAt level at inputs (unclosed at)
  -- JLS 3.10.6: a string holds a backslash that begins no escape
  string_escape : (front rest : List Input) (inside : List ℕ)
      → inputs ≡ front ++ rest
      → characters_of front ≡ double_quote ∷ inside
      → AreStringCharacters inside
      → IsBadBackslash (characters_of rest)
      → IsFaultAt level at inputs (bad_char (at + width_of front))
  -- JLS 3.10.4: the line or the text ends directly after the quote of a character literal
  open_literal : (after : List ℕ)
      → characters_of inputs ≡ single_quote ∷ after
      → IsTrue (is_line_over after)
      → IsFaultAt level at inputs (unclosed at)
  -- JLS 3.10.4: a character literal without a character
  empty_literal : (after : List ℕ)
      → characters_of inputs ≡ single_quote ∷ single_quote ∷ after
      → IsFaultAt level at inputs (bad_char at)
  -- JLS 3.10.6: a character literal begins with a backslash that begins no escape
  literal_escape : (quote : Input) (rest : List Input)
      → inputs ≡ quote ∷ rest
      → quote.character ≡ single_quote
      → IsBadBackslash (characters_of rest)
      → IsFaultAt level at inputs (bad_char (at + quote.width))
  -- JLS 3.10.4: no quote follows the one character or escape of a character literal
  long_literal : (inside after : List ℕ)
      → characters_of inputs ≡ single_quote ∷ (inside ++ after)
      → IsTrue (is_quoted_character single_quote inside)
      → HasNoFront IsCharLiteral (characters_of inputs)
      → IsFaultAt level at inputs (unclosed at)
  -- JLS 3.5: a character that begins no element
  stray : (c : ℕ) (after : List ℕ)
      → characters_of inputs ≡ c ∷ after
      → ((element : Element) (more : List ℕ) → IsElement level element (c ∷ more) → ⊥)
      → IsFaultAt level at inputs (bad_char at)

-- The fault of a text: its first bad Unicode escape, or else the one that stands after the elements
-- that the text begins with.
pub data HasFault (level : Level) (text : List ℕ) : LexicalFault → Type 0 where
  escape : {at : ℕ} → HasBadEscape text at → HasFault level text (bad_escape at)
  element : {inputs rest : List Input} {tokens : List Token} {at : ℕ} {fault : LexicalFault}
      → HasInputs text inputs
      → AreElements level 0 (without_sub inputs) tokens at rest
      → IsFaultAt level at rest fault
      → HasFault level text fault
