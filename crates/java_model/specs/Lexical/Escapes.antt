-- Unicode escapes (JLS 3.3): the characters that the bytes of a text stand for.
use Rattle.std.specs.Prelude.{◌≡◌, ℕ, ◌+◌, ◌*◌, ◌-◌, Bool, true, false, ◌&&◌, ◌==◌, not, if◌then◌else◌, IsTrue, IsFalse, List, [], ◌∷◌, ◌++◌, map, length, fold, chars, ◌≢◌}
use Rattle.std.specs.List.{list_all}
use Rattle.std.specs.Char.{len_utf8, digit_value}
use Rattle.java_model.specs.Lexical.Characters.{backslash, letter_u, is_within, is_hex_digit}

-- a character, and how many bytes of the text spell it
pub record Input : Type 0 where
  pub character : ℕ
  pub width : ℕ

-- a character that stands for itself
abbrev pub raw : ℕ → Input
raw c = record { character = c; width = len_utf8 c }

-- how many bytes of the text spell these
abbrev pub width_of : List Input → ℕ
width_of [] = 0
width_of (input ∷ inputs) = input.width + width_of inputs

abbrev pub characters_of : List Input → List ℕ
characters_of = map (λ input. input.character)

-- the number that hexadecimal digits spell
abbrev pub hex_value : List ℕ → ℕ
hex_value = fold (λ n digit. n * 16 + digit_value digit) 0

-- JLS 3.3: a backslash, one or more `u`, and four hexadecimal digits. It stands for that UTF-16 unit.
pub record IsUnicodeEscape (spelling : List ℕ) (unit : ℕ) : Type 0 where
  -- the `u` after the first
  pub more : List ℕ
  pub digits : List ℕ
  pub spelled : spelling ≡ backslash ∷ letter_u ∷ (more ++ digits)
  pub marked : IsTrue (list_all (λ c. c == letter_u) more)
  pub four : length digits ≡ 4
  pub hexadecimal : IsTrue (list_all is_hex_digit digits)
  pub value : unit ≡ hex_value digits

abbrev pub IsAnyEscape : List ℕ → Type 0
IsAnyEscape spelling = (unit : ℕ) × IsUnicodeEscape spelling unit

-- no front of the characters is one
abbrev pub HasNoFront : (List ℕ → Type 0) → List ℕ → Type 0
HasNoFront Is cs = (front rest : List ℕ) → cs ≡ front ++ rest → Is front → ⊥

-- JLS 3.3: whether a backslash before this text begins an escape: an even number of backslashes
-- directly precedes it, and a `u` follows it
abbrev pub begins_escape : Bool → List ℕ → Bool
begins_escape even [] = false
begins_escape even (c ∷ text) = even && c == letter_u

-- JLS 3.3: a text up to a rest, as its raw characters and the units of its escapes. Of the text and of
-- the rest the `Bool` tells whether an even number of backslashes directly precedes it.
pub data Unescapes : Bool → List ℕ → List Input → Bool → List ℕ → Type 0 where
  stops : {even : Bool} {text : List ℕ} → Unescapes even text [] even text
  escape : {even end : Bool} {text rest : List ℕ} {units : List Input} (spelling after : List ℕ) (unit : ℕ)
      → text ≡ spelling ++ after
      → IsTrue even
      → IsUnicodeEscape spelling unit
      → Unescapes true after units end rest
      → Unescapes even text (record { character = unit; width = length spelling } ∷ units) end rest
  plain_backslash : {even end : Bool} {text rest : List ℕ} {units : List Input}
      → IsFalse (begins_escape even text)
      → Unescapes (not even) text units end rest
      → Unescapes even (backslash ∷ text) (raw backslash ∷ units) end rest
  plain : {even end : Bool} {c : ℕ} {text rest : List ℕ} {units : List Input}
      → c ≢ backslash
      → Unescapes true text units end rest
      → Unescapes even (c ∷ text) (raw c ∷ units) end rest

-- The halves of a surrogate pair. Only escapes give them: no character of a text is a surrogate.
abbrev pub is_high : Input → Bool
is_high unit = is_within 0xd800 0xdbff unit.character

abbrev pub is_low : Input → Bool
is_low unit = is_within 0xdc00 0xdfff unit.character

-- the one character of a pair of units
abbrev pub pair : Input → Input → Input
pair high low = record {
  character = 0x1_0000 + (high.character - 0xd800) * 1024 + (low.character - 0xdc00);
  width = high.width + low.width;
}

-- a unit before others: with the first of them it may be a pair
abbrev pub before : Input → List Input → List Input
before unit [] = unit ∷ []
before unit (next ∷ rest) =
    if is_high unit && is_low next then pair unit next ∷ rest else unit ∷ next ∷ rest

-- UTF-16 (JLS 3.1 from the third edition on; the second has no surrogates): each high surrogate and the
-- low one directly after it as one character
abbrev pub paired : List Input → List Input
paired [] = []
paired (unit ∷ units) = before unit (paired units)

-- U+FFFD for a surrogate that is alone
abbrev pub replaced : Input → Input
replaced unit =
    if is_within 0xd800 0xdfff unit.character then record unit { character = 0xfffd } else unit

-- The characters of a text after Unicode escapes. A text is UTF-8, as a `str` is; of other bytes
-- nothing is meant.
pub record HasInputs (text : List ℕ) (inputs : List Input) : Type 0 where
  pub units : List Input
  pub end : Bool
  pub unescaped : Unescapes true (chars text) units end []
  pub joined : inputs ≡ map replaced (paired units)

-- JLS 3.3: the first backslash that begins an escape, but whose one or more `u` no four hexadecimal
-- digits follow, stands at this byte.
pub record HasBadEscape (text : List ℕ) (at : ℕ) : Type 0 where
  pub units : List Input
  pub even : Bool
  pub rest : List ℕ
  pub unescaped : Unescapes true (chars text) units even (backslash ∷ rest)
  pub begun : IsTrue (begins_escape even rest)
  pub bad : HasNoFront IsAnyEscape (backslash ∷ rest)
  pub place : at ≡ width_of units
