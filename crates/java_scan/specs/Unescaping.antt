-- Unicode escapes as the scanner meets them.
use Rattle.std.specs.Prelude.{◌≡◌, ℕ, suc, ◌+◌, ◌^◌, ◌<◌, Bool, true, false, ◌&&◌, ◌||◌, not, ◌==◌, List, [], ◌∷◌, chars, length, Option, Some, None, IsTrue}
use Rattle.std.specs.Char.{digit_value}
use Rattle.std.specs.List.{All}
use Rattle.java_model.specs.Lexical.Characters.{backslash, letter_u, is_hex_digit}
use Rattle.java_model.specs.Lexical.Escapes.{Input, begins_escape, Unescapes, HasNoFront, IsAnyEscape}
use Rattle.java_model.proofs.Lexical.Reading.{begins}
use Rattle.java_model.proofs.Lexical.Escaping.{digits_of, marked_after}
use Rattle.java_model.proofs.Lexical.Escaping.Marked.{spelled, unspelled}
use Rattle.java_scan.specs.declared.escapes.UnitRead.{UnitRead}
use Rattle.java_scan.specs.Place.{Place, next}

-- whether a backslash among these characters begins an escape: directly after one that may, or not
abbrev pub escapes_from : Bool → List ℕ → Bool
escapes_from begun [] = false
escapes_from begun (c ∷ cs) = (begun && c == letter_u) || escapes_from (c == backslash && not begun) cs

-- the value of the hexadecimal digit at a place, if one is there
abbrev pub IsHexDigit : Place → Option ℕ → Place → Type 0
IsHexDigit p (Some value) q = (c : ℕ) × (p.left ≡ c ∷ q.left) × (is_hex_digit c ≡ true) × (value ≡ digit_value c) × (q ≡ next p)
IsHexDigit p None q = begins is_hex_digit p.left ≡ false

-- there are so many UTF-16 code units (JLS 3.1)
abbrev pub code_units : ℕ
code_units = 2 ^ 16

-- the value of four digits at a place, if they are there
abbrev pub IsFour : Place → Option ℕ → Place → Type 0
IsFour p (Some unit) q = ((w : ℕ) → digits_of w p.left ≡ spelled unit (w + 4) q.left) × (q.at ≡ p.at + 4) × (unit < code_units)
IsFour p None q = (w : ℕ) → digits_of w p.left ≡ unspelled

-- the unit of an escape after its backslash, if it has four digits
abbrev pub IsEscapedUnit : Place → Option ℕ → Place → Type 0
IsEscapedUnit p (Some unit) q = (w : ℕ) × (marked_after p.left ≡ spelled unit (suc w) q.left) × (q.at ≡ p.at + w) × (unit < code_units)
IsEscapedUnit p None q = marked_after p.left ≡ unspelled

-- one unit was read, or an escape has no digits here
pub record IsUnitRead (even : Bool) (p : Place) (read : UnitRead) (q : Place) : Type 0 where
  pub width : ℕ
  pub walk : Unescapes even p.left (record { character = read.code; width = width } ∷ []) read.even q.left
  pub at : q.at ≡ p.at + width
  pub shorter : length q.left < length p.left
  pub small : read.code < 1114112

pub record IsUnreadable (even : Bool) (p : Place) : Type 0 where
  pub rest : List ℕ
  pub here : p.left ≡ backslash ∷ rest
  pub begun : IsTrue (begins_escape even rest)
  pub bad : HasNoFront IsAnyEscape (backslash ∷ rest)

abbrev pub ReadsUnit : Bool → Place → Option UnitRead → Place → Type 0
ReadsUnit even p (Some read) q = IsUnitRead even p read q
ReadsUnit even p None q = IsUnreadable even p

-- the units of a text, each a character or a UTF-16 unit
pub record IsUnitsOf (text : List ℕ) (units : List Input) : Type 0 where
  pub end : Bool
  pub walk : Unescapes true (chars text) units end []
  pub small : All (λ unit. unit.character < 1114112) units
