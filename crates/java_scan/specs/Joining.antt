-- The text of units, and the places of its bytes.
use Rattle.std.specs.Prelude.{◌≡◌, ℕ, ◌+◌, ◌-◌, ◌≤◌, true, List, [], ◌∷◌, ◌++◌, map, take, replicate, encode_utf8, encode_utf8_all, string_bytes, if◌then◌else◌, Option, Some, None}
use Rattle.std.specs.Char.{len_utf8}
use Rattle.std.specs.Str.{all_scalars}
use Rattle.java_model.specs.Lexical.Characters.{is_within}
use Rattle.java_model.specs.Lexical.Escapes.{Input, raw, characters_of, width_of, paired, replaced, HasBadEscape}
use Rattle.java_model.proofs.Lexical.Reading.{run}
use Rattle.java_scan.specs.Place.{Place, after_run, no_backslash}
use Rattle.java_scan.specs.declared.joining.Unit.{Unit as Held}
use Rattle.java_scan.specs.declared.joining.Unescaped.{Unescaped}
use Rattle.java_scan.specs.declared.fault.ScanFault.{ScanFault}
use Rattle.java_scan.specs.declared.fault.ScanFault.TheVariants.{BadEscape, BadChar, Unclosed, NoMemory}
use Rattle.java_scan.specs.Unescaping.{IsUnitsOf}

-- the character of a code, and U+FFFD for a surrogate
abbrev pub char_of : ℕ → ℕ
char_of code = if is_within 0xd800 0xdfff code then 0xfffd else code

-- the inputs of units
abbrev pub inputs_of : List Input → List Input
inputs_of units = map replaced (paired units)

-- a unit as an input, which so many bytes spell
abbrev pub input_of : Held → ℕ → Input
input_of unit width = record { character = unit.code; width = width }

-- for each byte of the characters of inputs the byte at which the input begins
abbrev pub places_of : ℕ → List Input → List ℕ
places_of at [] = []
places_of at (input ∷ inputs) = replicate (len_utf8 input.character) at ++ places_of (at + input.width) inputs

-- the text of inputs, and the places of its bytes
pub record Spells (inputs : List Input) (text places : List ℕ) : Type 0 where
  pub spelled : text ≡ encode_utf8_all (characters_of inputs)
  pub placed : places ≡ places_of 0 inputs

-- the character of a code was put at the end of a text, and its place for each of its bytes
pub record Pushes (code at : ℕ) (text places new_text new_places : List ℕ) : Type 0 where
  pub spelled : new_text ≡ text ++ encode_utf8 (char_of code)
  pub placed : new_places ≡ places ++ replicate (len_utf8 (char_of code)) at

-- the characters up to the next backslash, or to the end
abbrev pub run_of : Place → List ℕ
run_of p = take (run no_backslash p.left) p.left

-- they were passed, and their places put at the end
pub record PassesRun (p q : Place) (places new_places : List ℕ) : Type 0 where
  pub after : q ≡ after_run no_backslash p
  pub placed : new_places ≡ places ++ places_of p.at (map raw (run_of p))

-- they were passed, and put at the end of a text with their places
pub record PushesRun (p q : Place) (text places new_text new_places : List ℕ) : Type 0 where
  pub passes : PassesRun p q places new_places
  pub spelled : new_text ≡ text ++ encode_utf8_all (run_of p)
  pub scalars : all_scalars (run_of p) ≡ true

-- a high surrogate that may be the first of a pair, if one is last, where the units end at this byte
abbrev pub waiting : Option Held → ℕ → List Input
waiting None end = []
waiting (Some unit) end = input_of unit (end - unit.at) ∷ []

-- where the units before it end
abbrev pub begin_of : Option Held → ℕ → ℕ
begin_of None end = end
begin_of (Some unit) end = unit.at

abbrev pub IsHigh : Option Held → Type 0
IsHigh None = Unit {0}
IsHigh (Some unit) = is_within 0xd800 0xdbff unit.code ≡ true

-- the text of units, but for the one that waits
pub record IsJoining (units : List Input) (high : Option Held) (text places : List ℕ) : Type 0 where
  pub done : List Input
  pub goes : (later : List Input) → inputs_of (units ++ later) ≡ done ++ inputs_of (waiting high (width_of units) ++ later)
  pub begins : width_of done ≡ begin_of high (width_of units)
  pub within : width_of done ≤ width_of units
  pub spells : Spells done text places

-- the text of units, none of which waits for the next one
pub record IsReady (units : List Input) (unit : Input) (text places : List ℕ) : Type 0 where
  pub done : List Input
  pub goes : (later : List Input) → inputs_of (units ++ unit ∷ later) ≡ done ++ inputs_of (unit ∷ later)
  pub begins : width_of done ≡ width_of units
  pub spells : Spells done text places

-- after units for which this holds, the text has this unit too
abbrev pub AddsUnit : Held → (List Input → Input → Type 0) → Option Held → List ℕ → List ℕ → Type 0
AddsUnit unit Before high text places =
    (units : List Input) (width : ℕ)
    → Before units (input_of unit width)
    → unit.at ≡ width_of units
    → IsJoining (units ++ input_of unit width ∷ []) high text places

-- the same where none waits for it, or where one may
abbrev pub Starts : Held → Unescaped → Option Held → Unescaped → Type 0
Starts unit old high new = AddsUnit unit (λ units x. IsReady units x (string_bytes old.text) old.places.items) high (string_bytes new.text) new.places.items

abbrev pub Joins : Option Held → Held → Unescaped → Option Held → Unescaped → Type 0
Joins before unit old high new = AddsUnit unit (λ units _. IsJoining units before (string_bytes old.text) old.places.items) high (string_bytes new.text) new.places.items

-- the text of units, and the places of its bytes and of its end
pub record IsJoined (units : List Input) (text places : List ℕ) : Type 0 where
  pub spelled : text ≡ encode_utf8_all (characters_of (inputs_of units))
  pub placed : places ≡ places_of 0 (inputs_of units) ++ width_of (inputs_of units) ∷ []

-- a text without its escapes, and the places of its bytes
pub record IsUnescapedTo (text joined places : List ℕ) : Type 0 where
  pub units : List Input
  pub of : IsUnitsOf text units
  pub whole : IsJoined units joined places

-- why a text has no units
abbrev pub IsEscapeFault : List ℕ → ScanFault → Type 0
IsEscapeFault text (BadEscape at) = HasBadEscape text at
IsEscapeFault text (BadChar at) = ⊥
IsEscapeFault text (Unclosed at) = ⊥
IsEscapeFault text NoMemory = Unit {0}
