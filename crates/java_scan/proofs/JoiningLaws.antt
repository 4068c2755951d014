-- The text of units is that of their inputs.
use Rattle.std.proofs.Common.{◌≡◌, ℕ, ◌+◌, ◌-◌, ◌*◌, ◌<◌, Bool, true, false, ◌&&◌, List, [], ◌∷◌, ◌++◌, map, replicate, encode_utf8, encode_utf8_all, None, Some, refl, sym, ap, ◌∙◌, inl, inr, arith, append_assoc}
use Rattle.std.specs.Char.{len_utf8}
use Rattle.std.proofs.lemmas.Bool.{cases_Bool, cond_both}
use Rattle.std.proofs.lemmas.Bool.Decides.{nat_tests}
use Rattle.std.proofs.lemmas.List.{append-nil, map-append}
use Rattle.std.proofs.lemmas.Str.{encodes-append}
use Rattle.java_model.specs.Lexical.Characters.{is_within}
use Rattle.java_model.specs.Lexical.Escapes.{Input, width_of, characters_of, is_high, is_low, pair, before, paired, replaced}
use Rattle.java_scan.specs.declared.joining.Unit.{Unit as Held}
use Rattle.java_scan.specs.Joining.{char_of, inputs_of, input_of, places_of, Spells, Pushes, IsJoining, IsReady, IsJoined}
use Rattle.java_scan.proofs.UnitLaws.{units_width}

-- pairs

low_alone : (v : Input) → is_low v ≡ true → is_high v ≡ false
low_alone v h = grind (arith, nat_tests)

low_before : (v : Input) (xs : List Input) → is_low v ≡ true → before v xs ≡ v ∷ xs
low_before v [] h = refl
low_before v (n ∷ xs) h = rw (low_alone v h) refl

pair_above : (a b : ℕ) → is_within 0xdc00 0xdfff (0x1_0000 + a + b) ≡ false
pair_above a b = grind (arith, nat_tests)

and_none : (a b : Bool) → b ≡ false → a && b ≡ false
and_none true b h = h
and_none false b h = refl

single_before : (u v : Input) (xs : List Input) → is_high u && is_low v ≡ false → before u (before v xs) ≡ u ∷ before v xs
single_before u v [] h = rw h refl
single_before u v (n ∷ xs) h =
    cond_both (is_high v && is_low n) (pair v n ∷ xs) (v ∷ n ∷ xs) (λ ys. before u ys ≡ u ∷ ys)
    (λ _. let e = and_none (is_high u) (is_low (pair v n)) (pair_above ((v.character - 0xd800) * 1024) (n.character - 0xdc00)) in rw e refl)
    (λ _. rw h refl)

pub replaced_is : (x : Input) → replaced x ≡ record { character = char_of x.character; width = x.width }
replaced_is x = elim (cases_Bool (is_within 0xd800 0xdfff x.character)) [ inl e ↦ rw e refl | inr e ↦ rw e refl ]

-- a unit that isn't joined to another
abbrev joined_input : Input → Input
joined_input unit = record { character = char_of unit.character; width = unit.width }

joined_pair : (u v : Input) (rest : List Input)
    → is_high u ≡ true
    → is_low v ≡ true
    → inputs_of (u ∷ v ∷ rest) ≡ joined_input (pair u v) ∷ inputs_of rest
joined_pair u v rest h l =
    ap (λ xs. map replaced (before u xs)) (low_before v (paired rest) l)
    ∙ (pairs (paired rest) ∙ ap (λ x. x ∷ inputs_of rest) (replaced_is (pair u v)))
  where
    pairs : (xs : List Input) → map replaced (before u (v ∷ xs)) ≡ replaced (pair u v) ∷ map replaced xs
    pairs xs = rw (h, l) refl

joined_single : (u v : Input) (rest : List Input)
    → is_low v ≡ false
    → inputs_of (u ∷ v ∷ rest) ≡ joined_input u ∷ inputs_of (v ∷ rest)
joined_single u v rest l =
    ap (map replaced) (single_before u v (paired rest) (and_none (is_high u) (is_low v) l))
    ∙ ap (λ x. x ∷ inputs_of (v ∷ rest)) (replaced_is u)

pub joined_plain : (u : Input) (rest : List Input) → is_high u ≡ false → inputs_of (u ∷ rest) ≡ joined_input u ∷ inputs_of rest
joined_plain u rest h = ap (map replaced) (alone (paired rest)) ∙ ap (λ x. x ∷ inputs_of rest) (replaced_is u)
  where
    alone : (xs : List Input) → before u xs ≡ u ∷ xs
    alone [] = refl
    alone (n ∷ xs) = rw h refl

joined_last : (u : Input) → inputs_of (u ∷ []) ≡ joined_input u ∷ []
joined_last u = ap (λ x. x ∷ []) (replaced_is u)

-- one more input

pub places_append : (at : ℕ) (xs ys : List Input) → places_of at (xs ++ ys) ≡ places_of at xs ++ places_of (at + width_of xs) ys
places_append at [] ys = let n : at ≡ at + 0 = omega arith in ap (λ k. places_of k ys) n
places_append at (x ∷ xs) ys =
    let n : at + x.width + width_of xs ≡ at + (x.width + width_of xs) = omega arith in
    let front = replicate (len_utf8 x.character) at in
    let rest = places_of (at + x.width) xs in
    ap (λ zs. front ++ zs) (places_append (at + x.width) xs ys) ∙ (sym (append_assoc front rest (places_of (at + x.width + width_of xs) ys)) ∙ ap (λ k. (front ++ rest) ++ places_of k ys) n)

places_more : (at : ℕ) (inputs : List Input) (x : Input) → places_of at (inputs ++ x ∷ []) ≡ places_of at inputs ++ replicate (len_utf8 x.character) (at + width_of inputs)
places_more at inputs x = places_append at inputs (x ∷ []) ∙ ap (λ xs. places_of at inputs ++ xs) (append-nil (replicate (len_utf8 x.character) (at + width_of inputs)))

spells_more : {inputs : List Input} {code at : ℕ} {text places new_text new_places : List ℕ} (width : ℕ)
    → Spells inputs text places
    → Pushes code at text places new_text new_places
    → width_of inputs ≡ at
    → Spells (inputs ++ record { character = char_of code; width = width } ∷ []) new_text new_places
spells_more {inputs} {code} {at} {text} {places} width s p e =
    let x : Input = record { character = char_of code; width = width } in
    let front = encode_utf8_all (characters_of inputs) in
    let start : 0 + width_of inputs ≡ at = omega (arith, e) in
    let spelled : encode_utf8_all (characters_of (inputs ++ x ∷ [])) ≡ front ++ encode_utf8 (char_of code) = ap encode_utf8_all (map-append (λ (input : Input). input.character) inputs (x ∷ [])) ∙ (encodes-append (characters_of inputs) (char_of code ∷ []) ∙ ap (λ xs. front ++ xs) (append-nil (encode_utf8 (char_of code)))) in
    record {
      spelled = p.spelled ∙ (ap (λ xs. xs ++ encode_utf8 (char_of code)) s.spelled ∙ sym spelled);
      placed = p.placed ∙ (ap (λ xs. xs ++ replicate (len_utf8 (char_of code)) at) s.placed ∙ sym (places_more 0 inputs x ∙ ap (λ k. places_of 0 inputs ++ replicate (len_utf8 (char_of code)) k) start));
    }

-- one more unit

pub ready_none : {units : List Input} (x : Input) {text places : List ℕ} → IsJoining units None text places → IsReady units x text places
ready_none x j = record { done = j.done; goes = λ later. j.goes (x ∷ later); begins = j.begins; spells = j.spells }

pub ready_alone : {units : List Input} (h : Held) (x : Input) {text places new_text new_places : List ℕ}
    → IsJoining units (Some h) text places
    → is_low x ≡ false
    → Pushes h.code h.at text places new_text new_places
    → IsReady units x new_text new_places
ready_alone {units} h x j low p =
    let width = width_of units - h.at in
    let u : Input = input_of h width in
    record {
      done = j.done ++ joined_input u ∷ [];
      goes = λ later. j.goes (x ∷ later) ∙ (ap (λ xs. j.done ++ xs) (joined_single u x later low) ∙ sym (append_assoc j.done (joined_input u ∷ []) (inputs_of (x ∷ later))));
      begins = omega (arith, units_width j.done (joined_input u), j.begins, j.within);
      spells = spells_more width j.spells p j.begins;
    }

pub started_high : {units : List Input} (unit : Held) (width : ℕ) {text places : List ℕ}
    → IsReady units (input_of unit width) text places
    → unit.at ≡ width_of units
    → IsJoining (units ++ input_of unit width ∷ []) (Some unit) text places
started_high {units} unit width r at =
    let x : Input = input_of unit width in
    let same : width ≡ width_of (units ++ x ∷ []) - unit.at = omega (arith, units_width units x, at) in
    record {
      done = r.done;
      goes = λ later. ap inputs_of (append_assoc units (x ∷ []) later) ∙ (r.goes later ∙ ap (λ w. r.done ++ inputs_of (input_of unit w ∷ later)) same);
      begins = r.begins ∙ sym at;
      within = omega (arith, units_width units x, r.begins);
      spells = r.spells;
    }

pub started_plain : {units : List Input} (unit : Held) (width : ℕ) {text places new_text new_places : List ℕ}
    → IsReady units (input_of unit width) text places
    → is_high (input_of unit width) ≡ false
    → Pushes unit.code unit.at text places new_text new_places
    → unit.at ≡ width_of units
    → IsJoining (units ++ input_of unit width ∷ []) None new_text new_places
started_plain {units} unit width r high p at =
    let x : Input = input_of unit width in
    let sum : width_of (r.done ++ joined_input x ∷ []) ≡ width_of (units ++ x ∷ []) = omega (arith, units_width r.done (joined_input x), units_width units x, r.begins) in
    record {
      done = r.done ++ joined_input x ∷ [];
      goes = λ later. ap inputs_of (append_assoc units (x ∷ []) later) ∙ (r.goes later ∙ (ap (λ xs. r.done ++ xs) (joined_plain x later high) ∙ sym (append_assoc r.done (joined_input x ∷ []) (inputs_of later))));
      begins = sum;
      within = omega (arith, sum);
      spells = spells_more width r.spells p (r.begins ∙ sym at);
    }

pub joined_both : {units : List Input} (h unit : Held) (width code : ℕ) {text places new_text new_places : List ℕ}
    → IsJoining units (Some h) text places
    → is_high (input_of h width) ≡ true
    → is_low (input_of unit width) ≡ true
    → code ≡ 0x1_0000 + (h.code - 0xd800) * 1024 + (unit.code - 0xdc00)
    → Pushes code h.at text places new_text new_places
    → IsJoining (units ++ input_of unit width ∷ []) None new_text new_places
joined_both {units} h unit width code j high low e p =
    let u : Input = input_of h (width_of units - h.at) in
    let x : Input = input_of unit width in
    let both : Input = record { character = char_of code; width = u.width + width } in
    let sum : width_of (j.done ++ both ∷ []) ≡ width_of (units ++ x ∷ []) = omega (arith, units_width j.done both, units_width units x, j.begins, j.within) in
    let is : (later : List Input) → inputs_of (u ∷ x ∷ later) ≡ both ∷ inputs_of later = λ later. joined_pair u x later high low ∙ ap (λ k. record { character = char_of k; width = u.width + width } ∷ inputs_of later) (sym e) in
    record {
      done = j.done ++ both ∷ [];
      goes = λ later. ap inputs_of (append_assoc units (x ∷ []) later) ∙ (j.goes (x ∷ later) ∙ (ap (λ xs. j.done ++ xs) (is later) ∙ sym (append_assoc j.done (both ∷ []) (inputs_of later))));
      begins = sum;
      within = omega (arith, sum);
      spells = spells_more (u.width + width) j.spells p j.begins;
    }

-- the last unit

whole : {units done : List Input} {text places : List ℕ} (end : ℕ)
    → inputs_of units ≡ done
    → Spells done text places
    → width_of done ≡ end
    → IsJoined units text (places ++ end ∷ [])
whole {units} {done} {text} {places} end e s w = record {
  spelled = s.spelled ∙ ap (λ xs. encode_utf8_all (characters_of xs)) (sym e);
  placed = ap (λ xs. xs ++ end ∷ []) s.placed ∙ (ap (λ k. places_of 0 done ++ k ∷ []) (sym w) ∙ ap (λ xs. places_of 0 xs ++ width_of xs ∷ []) (sym e));
}

pub finished_none : {units : List Input} {text places : List ℕ} (end : ℕ)
    → IsJoining units None text places
    → end ≡ width_of units
    → IsJoined units text (places ++ end ∷ [])
finished_none {units} end j e = whole end (ap inputs_of (sym (append-nil units)) ∙ (j.goes [] ∙ append-nil j.done)) j.spells (j.begins ∙ sym e)

pub finished_high : {units : List Input} (h : Held) {text places new_text new_places : List ℕ} (end : ℕ)
    → IsJoining units (Some h) text places
    → Pushes h.code h.at text places new_text new_places
    → end ≡ width_of units
    → IsJoined units new_text (new_places ++ end ∷ [])
finished_high {units} h end j p e =
    let width = width_of units - h.at in
    let u : Input = input_of h width in
    let all : inputs_of units ≡ j.done ++ joined_input u ∷ [] = ap inputs_of (sym (append-nil units)) ∙ (j.goes [] ∙ ap (λ xs. j.done ++ xs) (joined_last u)) in
    whole end all (spells_more width j.spells p j.begins) (omega (arith, units_width j.done (joined_input u), j.begins, j.within, e))

pub pair_bound : (u n : Input)
    → is_high u ≡ true
    → is_low n ≡ true
    → 0x1_0000 + (u.character - 0xd800) * 1024 + (n.character - 0xdc00) < 1114112
pair_bound u n h l = grind (arith, nat_tests)
