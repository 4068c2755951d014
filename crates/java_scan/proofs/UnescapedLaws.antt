-- A text without its escapes, and where its characters begin.
use Rattle.std.proofs.Common.{◌≡◌, ℕ, zero, suc, ◌+◌, ◌<◌, ◌≤◌, Bool, true, ◌&&◌, List, [], ◌∷◌, ◌++◌, length, map, drop, get_or, replicate, chars, IsUtf8, refl, sym, ap, ◌∙◌, subst, arith, length-append, append_assoc}
use Rattle.std.specs.List.{All}
use Rattle.std.specs.Char.{len_utf8}
use Rattle.std.specs.Str.{all_scalars}
use Rattle.std.proofs.lemmas.Bool.{cond_both, and_parts}
use Rattle.std.proofs.lemmas.Bool.Decides.{nat_tests}
use Rattle.std.proofs.lemmas.List.{drop-drop, get_or-drop, drop_at, length-replicate}
use Rattle.std.proofs.lemmas.List.Elements.{All-head, All-tail}
use Rattle.std.proofs.lemmas.Str.{len_utf8_bounds, chars-encodes}
use Rattle.java_model.specs.Lexical.Characters.{is_within}
use Rattle.java_model.specs.Lexical.Escapes.{Input, raw, width_of, characters_of, is_high, is_low, pair, before, paired, replaced, IsUnicodeEscape, Unescapes, HasInputs}
use Rattle.java_model.specs.Lexical.Escapes.Unescapes.{stops, escape, plain_backslash, plain}
use Rattle.java_model.proofs.Lexical.Spans.{inputs_width}
use Rattle.java_scan.specs.Unescaping.{IsUnitsOf}
use Rattle.java_scan.specs.Joining.{char_of, inputs_of, places_of, IsJoined}
use Rattle.java_scan.proofs.PlaceLaws.{width-encodes}
use Rattle.java_scan.proofs.MovingLaws.{IsPlaced}
use Rattle.java_scan.proofs.JoiningLaws.{replaced_is, pair_bound}

-- small characters are scalar values

abbrev AreSmall : List Input → Type 0
AreSmall [] = Unit {0}
AreSmall (x ∷ xs) = (x.character < 1114112) × AreSmall xs

small_before : (u : Input) (xs : List Input) → u.character < 1114112 → AreSmall xs → AreSmall (before u xs)
small_before u [] h s = (h, tt)
small_before u (n ∷ xs) h s = cond_both (is_high u && is_low n) (pair u n ∷ xs) (u ∷ n ∷ xs) AreSmall (λ e. (pair_bound u n (and_parts (is_high u) (is_low n) e).0 (and_parts (is_high u) (is_low n) e).1, s.1)) (λ _. (h, s))

small_paired : (us : List Input) → AreSmall us → AreSmall (paired us)
small_paired [] s = tt
small_paired (u ∷ us) s = small_before u (paired us) s.0 (small_paired us s.1)

scalar_replaced : (xs : List Input) → AreSmall xs → all_scalars (characters_of (map replaced xs)) ≡ true
scalar_replaced [] s = refl
scalar_replaced (x ∷ xs) s =
    ap (λ y. all_scalars (y.character ∷ characters_of (map replaced xs))) (replaced_is x)
    ∙ scalar_first x.character (characters_of (map replaced xs)) s.0 (scalar_replaced xs s.1)
  where
    scalar_first : (c : ℕ) (cs : List ℕ) → c < 1114112 → all_scalars cs ≡ true → all_scalars (char_of c ∷ cs) ≡ true
    scalar_first c cs h s = grind (arith, nat_tests)

small_units : (units : List Input) → All (λ unit. unit.character < 1114112) units → AreSmall units
small_units [] h = tt
small_units (u ∷ us) h = (All-head (λ (unit : Input). unit.character < 1114112) u us h, small_units us (All-tail (λ (unit : Input). unit.character < 1114112) u us h))

inputs_scalar : (units : List Input) → All (λ unit. unit.character < 1114112) units → all_scalars (characters_of (inputs_of units)) ≡ true
inputs_scalar units h = scalar_replaced (paired units) (small_paired units (small_units units h))

-- characters are no longer than what spells them

abbrev AreFitting : List Input → Type 0
AreFitting [] = Unit {0}
AreFitting (x ∷ xs) = (len_utf8 x.character ≤ x.width) × AreFitting xs

escape_fits : (spelling : List ℕ) (unit : ℕ) → IsUnicodeEscape spelling unit → len_utf8 unit ≤ length spelling
escape_fits spelling unit is = omega (arith, len_utf8_bounds unit, ap length is.spelled, length-append is.more is.digits, is.four)

units_fit : {even : Bool} {text : List ℕ} {units : List Input} {end : Bool} {rest : List ℕ}
    → Unescapes even text units end rest
    → AreFitting units
units_fit stops = tt
units_fit (escape spelling after unit t even is walk) = (escape_fits spelling unit is, units_fit walk)
units_fit (plain_backslash plainly walk) = (omega arith, units_fit walk)
units_fit (plain {c = c} apart walk) = (omega arith, units_fit walk)

high_long : (u : Input) → is_high u ≡ true → len_utf8 u.character ≡ 3
high_long u h = grind (arith, nat_tests)

fit_before : (u : Input) (xs : List Input) → len_utf8 u.character ≤ u.width → AreFitting xs → AreFitting (before u xs)
fit_before u [] h f = (h, tt)
fit_before u (n ∷ xs) h f = cond_both (is_high u && is_low n) (pair u n ∷ xs) (u ∷ n ∷ xs) AreFitting (λ e. (bound (and_parts (is_high u) (is_low n) e).0, f.1)) (λ _. (h, f))
  where
    bound : is_high u ≡ true → len_utf8 (pair u n).character ≤ u.width + n.width
    bound high = omega (arith, high_long u high, len_utf8_bounds (pair u n).character, len_utf8_bounds n.character, f.0, h)

fit_paired : (us : List Input) → AreFitting us → AreFitting (paired us)
fit_paired [] f = tt
fit_paired (u ∷ us) f = fit_before u (paired us) f.0 (fit_paired us f.1)

surrogate_long : (c : ℕ) → is_within 0xd800 0xdfff c ≡ true → len_utf8 c ≡ 3
surrogate_long c h = grind (arith, nat_tests)

fit_replaced : (x : Input) → len_utf8 x.character ≤ x.width → len_utf8 (replaced x).character ≤ (replaced x).width
fit_replaced x h = cond_both (is_within 0xd800 0xdfff x.character) (record x { character = 0xfffd }) x (λ y. len_utf8 y.character ≤ y.width) (λ e. let l = surrogate_long x.character e in omega arith) (λ _. h)

fit_all : (xs : List Input) → AreFitting xs → AreFitting (map replaced xs)
fit_all [] f = tt
fit_all (x ∷ xs) f = (fit_replaced x f.0, fit_all xs f.1)

fit_width : (xs : List Input) → AreFitting xs → width_of (map raw (characters_of xs)) ≤ width_of xs
fit_width [] f = omega arith
fit_width (x ∷ xs) f = omega (arith, f.0, fit_width xs f.1)

-- places

first_place : (n to : ℕ) (rest : List ℕ) → 0 < n → get_or (replicate n to ++ rest) 0 0 ≡ to
first_place zero to rest h = absurd (omega arith)
first_place (suc n) to rest h = refl

head_at : (whole rest : List ℕ) (at : ℕ) → drop at whole ≡ rest → get_or whole at 0 ≡ get_or rest 0 0
head_at whole rest at h = let e : at + 0 ≡ at = omega arith in ap (λ n. get_or whole n 0) (sym e) ∙ (sym (get_or-drop at whole 0 0) ∙ ap (λ xs. get_or xs 0 0) h)

raw_placed : (whole : List ℕ) (inputs : List Input) (at to end : ℕ)
    → drop at whole ≡ places_of to inputs ++ end ∷ []
    → to + width_of inputs ≡ end
    → IsPlaced (λ k. get_or whole k 0) at (map raw (characters_of inputs)) to inputs
raw_placed whole [] at to end h e = let same : end ≡ to = omega (arith, e) in head_at whole (end ∷ []) at h ∙ same
raw_placed whole (x ∷ xs) at to end h e =
    let n = len_utf8 x.character in
    let rest = places_of (to + x.width) xs ++ end ∷ [] in
    let all : drop at whole ≡ replicate n to ++ rest = h ∙ append_assoc (replicate n to) (places_of (to + x.width) xs) (end ∷ []) in (
      head_at whole (replicate n to ++ rest) at all ∙ first_place n to rest (omega (arith, len_utf8_bounds x.character)),
      refl,
      raw_placed whole xs (at + n) (to + x.width) end (sym (drop-drop n at whole) ∙ (ap (drop n) all ∙ drop_at (replicate n to) rest n (length-replicate n to))) (omega (arith, e)),
    )

-- the text

pub record IsUnescaped (text joined places : List ℕ) (inputs : List Input) : Type 0 where
  pub has : HasInputs text inputs
  pub spelled : chars joined ≡ characters_of inputs
  pub placed : IsPlaced (λ k. get_or places k 0) 0 (map raw (chars joined)) 0 inputs

has_inputs : (text : List ℕ) (units : List Input) → IsUnitsOf text units → HasInputs text (inputs_of units)
has_inputs text units h = record { units = units; end = h.end; unescaped = h.walk; joined = refl }

pub units_within : (text : List ℕ) (units : List Input) → IsUtf8 text → IsUnitsOf text units → width_of (inputs_of units) ≡ length text
units_within text units utf8 h = inputs_width text (inputs_of units) utf8 (has_inputs text units h)

pub text_within : (text joined places : List ℕ) (units : List Input)
    → IsUtf8 text
    → IsUnitsOf text units
    → IsJoined units joined places
    → length joined ≤ length text
text_within text joined places units utf8 h j =
    omega (arith, ap length j.spelled, width-encodes (characters_of (inputs_of units)), fit_width (inputs_of units) (fit_all (paired units) (fit_paired units (units_fit h.walk))), units_within text units utf8 h)

pub unescaped : (text joined places : List ℕ) (units : List Input)
    → IsUnitsOf text units
    → IsJoined units joined places
    → IsUnescaped text joined places (inputs_of units)
unescaped text joined places units h j =
    let spelled : chars joined ≡ characters_of (inputs_of units) = ap chars j.spelled ∙ chars-encodes (characters_of (inputs_of units)) (inputs_scalar units h.small) in
    record {
      has = has_inputs text units h;
      spelled = spelled;
      placed = subst (λ cs. IsPlaced (λ k. get_or places k 0) 0 (map raw cs) 0 (inputs_of units)) (sym spelled) (raw_placed places (inputs_of units) 0 0 (width_of (inputs_of units)) j.placed (omega arith));
    }
