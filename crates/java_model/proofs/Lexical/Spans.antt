-- The spans of tokens rise and lie in the text.
use Rattle.std.proofs.Common.{◌≡◌, ℕ, ◌+◌, ◌<◌, ◌≤◌, Bool, true, ◌&&◌, ◌==◌, List, [], ◌∷◌, ◌++◌, length, map, refl, sym, ap, ◌∙◌, subst, arith, length-append, chars, encode_utf8, encode_utf8_all, IsUtf8}
use Rattle.std.specs.List.{list_all}
use Rattle.std.specs.Char.{len_utf8}
use Rattle.std.proofs.lemmas.Bool.{cond_both}
use Rattle.std.proofs.lemmas.Bool.Decides.{nat_tests}
use Rattle.std.proofs.lemmas.Str.{length-encode, len_utf8_bounds, len_utf8_ascii, encodes-append, encodes-chars}
use Rattle.java_tree.specs.declared.outline.Level.{Level}
use Rattle.java_tree.specs.declared.token.Token.{Token}
use Rattle.java_model.specs.Lexical.Characters.{backslash, letter_u, is_sub, is_hex_digit, is_within}
use Rattle.java_model.specs.Lexical.Escapes.{Input, width_of, IsUnicodeEscape, Unescapes, is_high, is_low, pair, before, paired, replaced, HasInputs}
use Rattle.java_model.specs.Lexical.Escapes.Unescapes.{stops, escape, plain_backslash, plain}
use Rattle.java_model.specs.Lexical.Elements.{Element}
use Rattle.java_model.specs.Lexical.Elements.Element.{white_space, traditional_comment, end_of_line_comment, token}
use Rattle.java_model.specs.Lexical.Tokens.{with_element, AreElements, without_sub, RiseWithin}
use Rattle.java_model.specs.Lexical.Tokens.AreElements.{none, next}
use Rattle.java_model.specs.Lexical.Laws.{SpansRise}
use Rattle.java_model.proofs.Lexical.Classes.{all_parts}
use Rattle.java_model.proofs.Lexical.NextLaws.{front_some}

-- how many bytes characters have
abbrev pub bytes_of : List ℕ → ℕ
bytes_of cs = length (encode_utf8_all cs)

pub bytes_more : (c : ℕ) (cs : List ℕ) → bytes_of (c ∷ cs) ≡ len_utf8 c + bytes_of cs
bytes_more c cs = length-append (encode_utf8 c) (encode_utf8_all cs) ∙ ap (λ n. n + bytes_of cs) (length-encode c)

bytes_append : (cs ds : List ℕ) → bytes_of (cs ++ ds) ≡ bytes_of cs + bytes_of ds
bytes_append cs ds = ap length (encodes-append cs ds) ∙ length-append (encode_utf8_all cs) (encode_utf8_all ds)

-- the characters of an escape are ASCII

ascii_bytes : (test : ℕ → Bool) (cs : List ℕ) → ((c : ℕ) → test c ≡ true → c < 128) → list_all test cs ≡ true → bytes_of cs ≡ length cs
ascii_bytes test [] below h = refl
ascii_bytes test (c ∷ cs) below h =
    let parts = all_parts test c cs h in
    omega (arith, bytes_more c cs, len_utf8_ascii c (below c parts.0), ascii_bytes test cs below parts.1)

u_below : (c : ℕ) → c == letter_u ≡ true → c < 128
u_below c h = grind (arith, nat_tests)

hex_below : (c : ℕ) → is_hex_digit c ≡ true → c < 128
hex_below c h = grind (arith, nat_tests)

escape_bytes : (spelling : List ℕ) (unit : ℕ) → IsUnicodeEscape spelling unit → bytes_of spelling ≡ length spelling
escape_bytes spelling unit e =
    let head : bytes_of (backslash ∷ letter_u ∷ (e.more ++ e.digits)) ≡ 2 + bytes_of (e.more ++ e.digits) = omega (arith, bytes_more backslash (letter_u ∷ (e.more ++ e.digits)), bytes_more letter_u (e.more ++ e.digits), len_utf8_ascii backslash (omega arith), len_utf8_ascii letter_u (omega arith)) in
    let tail : bytes_of (e.more ++ e.digits) ≡ length (e.more ++ e.digits) = omega (arith, bytes_append e.more e.digits, length-append e.more e.digits, ascii_bytes (λ c. c == letter_u) e.more u_below e.marked, ascii_bytes is_hex_digit e.digits hex_below e.hexadecimal) in
    ap bytes_of e.spelled ∙ (head ∙ (omega (arith, tail) ∙ sym (ap length e.spelled)))

-- the widths of inputs are the bytes of the text, each more than 0

abbrev pub AreWide : List Input → Type 0
AreWide [] = Unit {0}
AreWide (input ∷ inputs) = (0 < input.width) × AreWide inputs

escape_wide : (spelling : List ℕ) (unit : ℕ) → IsUnicodeEscape spelling unit → 0 < length spelling
escape_wide spelling unit e = omega (arith, ap length e.spelled)

units_wide : {even : Bool} {text : List ℕ} {units : List Input} {end : Bool} {rest : List ℕ} → Unescapes even text units end rest → AreWide units
units_wide stops = tt
units_wide (escape spelling after unit t even is walk) = (escape_wide spelling unit is, units_wide walk)
units_wide (plain_backslash plainly walk) = (omega (arith, len_utf8_bounds backslash), units_wide walk)
units_wide (plain {c = c} apart walk) = (omega (arith, len_utf8_bounds c), units_wide walk)

pub units_bytes : {even : Bool} {text : List ℕ} {units : List Input} {end : Bool} {rest : List ℕ} → Unescapes even text units end rest → width_of units + bytes_of rest ≡ bytes_of text
units_bytes stops = omega arith
units_bytes {text} (escape spelling after unit t even is walk) =
    omega (arith, ap bytes_of t, bytes_append spelling after, escape_bytes spelling unit is, units_bytes walk)
units_bytes (plain_backslash {text = t} plainly walk) = omega (arith, bytes_more backslash t, units_bytes walk)
units_bytes (plain {c = c} {text = t} apart walk) = omega (arith, bytes_more c t, units_bytes walk)

before_width : (unit : Input) (units : List Input) → width_of (before unit units) ≡ unit.width + width_of units
before_width unit [] = refl
before_width unit (second ∷ rest) = cond_both (is_high unit && is_low second) (pair unit second ∷ rest) (unit ∷ second ∷ rest) (λ x. width_of x ≡ unit.width + (second.width + width_of rest)) (λ _. omega arith) (λ _. refl)

paired_width : (units : List Input) → width_of (paired units) ≡ width_of units
paired_width [] = refl
paired_width (unit ∷ units) = omega (arith, before_width unit (paired units), paired_width units)

replaced_one : (unit : Input) → (replaced unit).width ≡ unit.width
replaced_one unit = cond_both (is_within 0xd800 0xdfff unit.character) (record unit { character = 0xfffd }) unit (λ x. x.width ≡ unit.width) (λ _. refl) (λ _. refl)

replaced_width : (units : List Input) → width_of (map replaced units) ≡ width_of units
replaced_width [] = refl
replaced_width (unit ∷ units) = omega (arith, replaced_one unit, replaced_width units)

before_wide : (unit : Input) (units : List Input) → 0 < unit.width → AreWide units → AreWide (before unit units)
before_wide unit [] h w = (h, tt)
before_wide unit (second ∷ rest) h w = cond_both (is_high unit && is_low second) (pair unit second ∷ rest) (unit ∷ second ∷ rest) AreWide (λ _. (omega arith, w.1)) (λ _. (h, w))

paired_wide : (units : List Input) → AreWide units → AreWide (paired units)
paired_wide [] w = tt
paired_wide (unit ∷ units) w = before_wide unit (paired units) w.0 (paired_wide units w.1)

replaced_wide : (units : List Input) → AreWide units → AreWide (map replaced units)
replaced_wide [] w = tt
replaced_wide (unit ∷ units) w = (omega (arith, replaced_one unit, w.0), replaced_wide units w.1)

pub inputs_width : (text : List ℕ) (inputs : List Input) → IsUtf8 text → HasInputs text inputs → width_of inputs ≡ length text
inputs_width text inputs utf8 h =
    let b : bytes_of (chars text) ≡ length text = ap length (encodes-chars text utf8) in
    omega (arith, ap width_of h.joined, replaced_width (paired h.units), paired_width h.units, units_bytes h.unescaped)

pub inputs_wide : (text : List ℕ) (inputs : List Input) → HasInputs text inputs → AreWide inputs
inputs_wide text inputs h = subst AreWide (sym h.joined) (replaced_wide (paired h.units) (paired_wide h.units (units_wide h.unescaped)))

pub sub_width : (inputs : List Input) → width_of (without_sub inputs) ≤ width_of inputs
sub_width [] = omega arith
sub_width (last ∷ []) = cond_both (is_sub last.character) [] (last ∷ []) (λ x. width_of x ≤ last.width + 0) (λ _. omega arith) (λ _. omega arith)
sub_width (input ∷ second ∷ inputs) = omega (arith, sub_width (second ∷ inputs))

pub sub_wide : (inputs : List Input) → AreWide inputs → AreWide (without_sub inputs)
sub_wide [] w = tt
sub_wide (last ∷ []) w = cond_both (is_sub last.character) [] (last ∷ []) AreWide (λ _. tt) (λ _. w)
sub_wide (input ∷ second ∷ inputs) w = (w.0, sub_wide (second ∷ inputs) w.1)

-- tokens

pub width_append : (front after : List Input) → width_of (front ++ after) ≡ width_of front + width_of after
width_append [] after = omega arith
width_append (input ∷ front) after = omega (arith, width_append front after)

pub wide_front : (front after : List Input) → AreWide (front ++ after) → 0 < length front → 0 < width_of front
wide_front [] after w h = omega arith
wide_front (input ∷ front) after w h = let p : 0 < input.width = w.0 in omega arith

pub wide_after : (front after : List Input) → AreWide (front ++ after) → AreWide after
wide_after [] after w = w
wide_after (input ∷ front) after w = wide_after front after w.1

rise_next : (e : Element) (at low high : ℕ) (front : List Input) (tokens : List Token) → low ≤ at → 0 < width_of front → ((l : ℕ) → l ≤ at + width_of front → RiseWithin l high tokens) → RiseWithin low high (with_element e at front tokens)
rise_next white_space at low high front tokens l w rest = rest low (omega arith)
rise_next traditional_comment at low high front tokens l w rest = rest low (omega arith)
rise_next end_of_line_comment at low high front tokens l w rest = rest low (omega arith)
rise_next (token kind) at low high front tokens l w rest = (l, omega arith, rest (at + width_of front) (omega arith))

rise_up : (low high more : ℕ) (tokens : List Token) → high ≤ more → RiseWithin low high tokens → RiseWithin low more tokens
rise_up low high more [] h r = omega arith
rise_up low high more (first ∷ tokens) h r = (r.0, r.1, rise_up first.span.end high more tokens h r.2)

elements_rise : {level : Level} {at : ℕ} {inputs : List Input} {tokens : List Token} {end : ℕ} {rest : List Input} → AreElements level at inputs tokens end rest → AreWide inputs → (low : ℕ) → low ≤ at → RiseWithin low (at + width_of inputs) tokens
elements_rise (none {at = at} {inputs = inputs}) w low l = omega arith
elements_rise {level} (next {at = at} {inputs = inputs} {tokens = tokens} element front after is walk) w low l =
    let w' : AreWide (front ++ after) = subst AreWide is.parted w in
    let some = wide_front front after w' (front_some level inputs element front after is) in
    let sum : (at + width_of front) + width_of after ≡ at + width_of inputs = omega (arith, ap width_of is.parted, width_append front after) in
    rise_next element at low (at + width_of inputs) front tokens l some (λ m h. subst (λ n. RiseWithin m n tokens) sum (elements_rise walk (wide_after front after w') m h))

pub spans_rise : SpansRise
spans_rise level text tokens utf8 h =
    let w = sub_wide h.inputs (inputs_wide text h.inputs h.characters) in
    rise_up 0 (0 + width_of (without_sub h.inputs)) (length text) tokens (omega (arith, sub_width h.inputs, inputs_width text h.inputs utf8 h.characters)) (elements_rise h.elements w 0 (omega arith))
