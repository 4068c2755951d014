-- The place of a fault lies in the text.
use Rattle.std.proofs.Common.{◌≡◌, ℕ, ◌+◌, ◌<◌, List, [], ◌∷◌, length, chars, refl, ap, subst, arith, IsUtf8}
use Rattle.std.proofs.lemmas.Str.{len_utf8_bounds, encodes-chars}
use Rattle.java_tree.specs.declared.outline.Level.{Level}
use Rattle.java_tree.specs.declared.token.Token.{Token}
use Rattle.java_model.specs.Lexical.Characters.{backslash}
use Rattle.java_model.specs.Lexical.Escapes.{Input, characters_of, width_of, HasBadEscape}
use Rattle.java_model.specs.Lexical.Tokens.{AreElements}
use Rattle.java_model.specs.Lexical.Tokens.AreElements.{none, next}
use Rattle.java_model.specs.Lexical.Faults.{LexicalFault, place_of, IsBadBackslash, IsFaultAt}
use Rattle.java_model.specs.Lexical.Faults.IsFaultAt.{open_comment, open_string, string_escape, open_literal, empty_literal, literal_escape, long_literal, stray}
use Rattle.java_model.specs.Lexical.Faults.HasFault.{escape, element}
use Rattle.java_model.specs.Lexical.Laws.{FaultsLieInside}
use Rattle.java_model.proofs.Lexical.FaultingMore.{faulted}
use Rattle.java_model.proofs.Lexical.Spans.{bytes_of, bytes_more, AreWide, units_bytes, inputs_width, inputs_wide, sub_width, sub_wide, width_append, wide_after}

-- where the rest begins, and that its widths are whole
record Left (at : ℕ) (inputs : List Input) (end : ℕ) (rest : List Input) : Type 0 where
  sum : end + width_of rest ≡ at + width_of inputs
  wide : AreWide rest

left_of : {level : Level} {at : ℕ} {inputs : List Input} {tokens : List Token} {end : ℕ} {rest : List Input} → AreElements level at inputs tokens end rest → AreWide inputs → Left at inputs end rest
left_of none w = record { sum = refl; wide = w }
left_of (next {at = at} {inputs = inputs} e front after is walk) w =
    let l = left_of walk (wide_after front after (subst AreWide is.parted w)) in
    record { sum = omega (arith, l.sum, ap width_of is.parted, width_append front after); wide = l.wide }

some_width : (inputs : List Input) → AreWide inputs → 0 < length inputs → 0 < width_of inputs
some_width [] w h = omega arith
some_width (input ∷ inputs) w h = let p : 0 < input.width = w.0 in omega arith

backslash_left : (rest : List Input) → IsBadBackslash (characters_of rest) → 0 < length rest
backslash_left [] (after, e, bad) = absurd (cc)
backslash_left (input ∷ rest) h = omega arith

-- a fault at the front of inputs stands before their end
before_end : (level : Level) (at : ℕ) (inputs : List Input) (fault : LexicalFault) → IsFaultAt level at inputs fault → AreWide inputs → 0 < length inputs → place_of fault < at + width_of inputs
before_end level at inputs _ (open_comment b h) w s = omega (arith, some_width inputs w s)
before_end level at inputs _ (open_string inside after same valid over) w s = omega (arith, some_width inputs w s)
before_end level at inputs _ (string_escape front rest inside e c valid bad) w s =
    omega (arith, ap width_of e, width_append front rest, some_width rest (wide_after front rest (subst AreWide e w)) (backslash_left rest bad))
before_end level at inputs _ (open_literal after same over) w s = omega (arith, some_width inputs w s)
before_end level at inputs _ (empty_literal after same) w s = omega (arith, some_width inputs w s)
before_end level at inputs _ (literal_escape quote rest e q bad) w s =
    omega (arith, ap width_of e, some_width rest (wide_after (quote ∷ []) rest (subst AreWide e w)) (backslash_left rest bad))
before_end level at inputs _ (long_literal inside after same h unquoted) w s = omega (arith, some_width inputs w s)
before_end level at inputs _ (stray c after same h) w s = omega (arith, some_width inputs w s)

bad_escape_inside : (text : List ℕ) (at : ℕ) → IsUtf8 text → HasBadEscape text at → at < length text
bad_escape_inside text at utf8 h =
    let b : bytes_of (chars text) ≡ length text = ap length (encodes-chars text utf8) in
    omega (arith, h.place, units_bytes h.unescaped, bytes_more backslash h.rest, len_utf8_bounds backslash)

pub faults_lie_inside : FaultsLieInside
faults_lie_inside level text _ utf8 (escape {at = at} bad) = bad_escape_inside text at utf8 bad
faults_lie_inside level text _ utf8 (element {inputs = inputs} {rest = rest} {at = at} {fault = fault} is walk f) =
    let w = sub_wide inputs (inputs_wide text inputs is) in
    let l = left_of walk w in
    omega (arith, before_end level at rest fault f l.wide (faulted level at rest fault f).some, l.sum, sub_width inputs, inputs_width text inputs utf8 is)
