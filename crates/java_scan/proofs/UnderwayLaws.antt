-- The text of the units that were read so far.
use Rattle.std.proofs.Common.{◌≡◌, ℕ, suc, ◌+◌, ◌<◌, Bool, true, false, ◌==◌, List, [], ◌∷◌, ◌++◌, length, map, take, drop, replicate, encode_utf8_all, chars, Option, None, Some, is_some, true≢false, length-drop, refl, sym, ap, ◌∙◌, subst, inl, inr, arith, append_assoc}
use Rattle.std.specs.List.{All}
use Rattle.std.specs.Char.{len_utf8}
use Rattle.std.specs.Str.{all_scalars}
use Rattle.std.proofs.lemmas.Bool.{cases_Bool, eqb-false}
use Rattle.std.proofs.lemmas.Bool.Decides.{nat_tests}
use Rattle.std.proofs.lemmas.List.{append-nil, map-append}
use Rattle.std.proofs.lemmas.List.Elements.{All-nil, All-cons, All-append, All-push}
use Rattle.std.proofs.lemmas.Str.{encodes-append}
use Rattle.java_model.specs.Lexical.Characters.{backslash, is_within}
use Rattle.java_model.specs.Lexical.Escapes.{Input, raw, width_of, characters_of, Unescapes}
use Rattle.java_model.specs.Lexical.Escapes.Unescapes.{stops, plain}
use Rattle.java_model.proofs.Lexical.Spans.{width_append}
use Rattle.java_model.proofs.Lexical.Reading.{run, begins}
use Rattle.java_scan.specs.declared.joining.Unit.{Unit as Held}
use Rattle.java_scan.specs.declared.escapes.UnitRead.{UnitRead}
use Rattle.java_scan.specs.Place.{Place, place_in, first, next, after_run, no_backslash}
use Rattle.java_scan.specs.Unescaping.{IsUnitRead}
use Rattle.java_scan.specs.Joining.{char_of, inputs_of, input_of, places_of, run_of, PassesRun, PushesRun, IsHigh, IsJoining, AddsUnit}
use Rattle.java_scan.proofs.PlaceLaws.{first_split, advance-left, advance-at, next_at, run_stop}
use Rattle.java_scan.proofs.PlainText.{scalar_apart}
use Rattle.java_scan.proofs.QuotedSteps.{raw_characters}
use Rattle.java_scan.proofs.BackslashLaws.{run_stops, run_goes_on}
use Rattle.java_scan.proofs.UnitLaws.{units_width, units_append}
use Rattle.java_scan.proofs.JoiningLaws.{joined_plain, places_append}

-- where units so far were read from a text
pub record IsUnderway (text : List ℕ) (p : Place) (even : Bool) (high : Option Held) (joined places : List ℕ) : Type 0 where
  pub units : List Input
  pub walk : Unescapes true (chars text) units even p.left
  pub width : p.at ≡ width_of units
  pub small : All (λ unit. unit.character < 1114112) units
  pub joining : IsJoining units high joined places
  pub first_half : IsHigh high

pub underway_start : (text joined places : List ℕ) (p : Place) → p ≡ place_in text 0 → joined ≡ [] → places ≡ [] → IsUnderway text p true None joined places
underway_start text joined places p e j q = record {
  units = [];
  walk = subst (λ r. Unescapes true (chars text) [] true r.left) (sym e) stops;
  width = ap (λ r. r.at) e;
  small = All-nil (λ (unit : Input). unit.character < 1114112);
  joining = record { done = []; goes = λ later. refl; begins = refl; within = omega arith; spells = record { spelled = j; placed = q } };
  first_half = tt;
}

pub underway_more : {text : List ℕ} {p q : Place} {even : Bool} {read : UnitRead} {waits high : Option Held} {joined places new_joined new_places : List ℕ} (unit : Held)
    → (u : IsUnderway text p even waits joined places)
    → IsUnitRead even p read q
    → unit ≡ record { code = read.code; at = p.at }
    → AddsUnit unit (λ units x. IsJoining units waits joined places) high new_joined new_places
    → IsHigh high
    → IsUnderway text q read.even high new_joined new_places
underway_more {text} {p} {q} {even} {read} {waits} {high} {joined} {places} {new_joined} {new_places} unit u r e adds h =
    let x : Input = record { character = read.code; width = r.width } in
    let added : IsJoining (u.units ++ input_of unit r.width ∷ []) high new_joined new_places = adds u.units r.width u.joining (ap (λ (k : Held). k.at) e ∙ u.width) in
    record {
      units = u.units ++ x ∷ [];
      walk = units_append u.walk r.walk;
      width = omega (arith, r.at, u.width, units_width u.units x);
      small = All-push (λ (unit : Input). unit.character < 1114112) u.units x u.small r.small;
      joining = subst (λ (k : Held). IsJoining (u.units ++ input_of k r.width ∷ []) high new_joined new_places) e added;
      first_half = h;
    }

-- a run of characters that are no backslash

joined_scalars : (cs : List ℕ) (later : List Input) → all_scalars cs ≡ true → inputs_of (map raw cs ++ later) ≡ map raw cs ++ inputs_of later
joined_scalars [] later h = refl
joined_scalars (c ∷ cs) later h =
    let s = scalar_apart c cs h in
    joined_plain (raw c) (map raw cs ++ later) s.1
    ∙ (ap (λ k. record { character = k; width = len_utf8 c } ∷ inputs_of (map raw cs ++ later)) (kept s.0) ∙ ap (λ xs. raw c ∷ xs) (joined_scalars cs later s.2))
  where
    kept : is_within 0xd800 0xdfff c ≡ false → char_of c ≡ c
    kept e = rw e refl

small_scalars : (cs : List ℕ) → all_scalars cs ≡ true → All (λ (unit : Input). unit.character < 1114112) (map raw cs)
small_scalars [] h = All-nil (λ (unit : Input). unit.character < 1114112)
small_scalars (c ∷ cs) h = All-cons (λ (unit : Input). unit.character < 1114112) (raw c) (map raw cs) (small c cs h) (small_scalars cs (scalar_apart c cs h).2)
  where
    small : (c : ℕ) (cs : List ℕ) → all_scalars (c ∷ cs) ≡ true → c < 1114112
    small c cs h = grind (arith, nat_tests)

run_walk : (xs : List ℕ) → Unescapes true xs (map raw (take (run no_backslash xs) xs)) true (drop (run no_backslash xs) xs)
run_walk [] = stops
run_walk (c ∷ cs) = elim (cases_Bool (c == backslash)) [
  | inl is ↦ subst (λ n. Unescapes true (c ∷ cs) (map raw (take n (c ∷ cs))) true (drop n (c ∷ cs))) (sym (run_stops c cs is)) stops
  | inr isnt ↦ subst (λ n. Unescapes true (c ∷ cs) (map raw (take n (c ∷ cs))) true (drop n (c ∷ cs))) (sym (run_goes_on c cs isnt)) (plain (eqb-false c backslash isnt) (run_walk cs))
]

run_walk_from : (even : Bool) (xs : List ℕ) (c : ℕ) → first xs ≡ Some c → c == backslash ≡ false → Unescapes even xs (map raw (take (run no_backslash xs) xs)) true (drop (run no_backslash xs) xs)
run_walk_from even [] c f isnt = absurd (cc)
run_walk_from even (d ∷ cs) c f isnt =
    let same : d ≡ c = cc in
    let other : d == backslash ≡ false = ap (λ x. x == backslash) same ∙ isnt in
    subst (λ n. Unescapes even (d ∷ cs) (map raw (take n (d ∷ cs))) true (drop n (d ∷ cs))) (sym (run_goes_on d cs other)) (plain (eqb-false d backslash other) (run_walk cs))

pub run_shorter : (p q : Place) (c : ℕ) → first p.left ≡ Some c → c == backslash ≡ false → q ≡ after_run no_backslash p → length q.left < length p.left
run_shorter p q c f isnt e =
    let left : q.left ≡ drop (run no_backslash p.left) p.left = ap (λ (r : Place). r.left) e ∙ advance-left (run no_backslash p.left) p in
    let some : run no_backslash p.left ≡ suc (run no_backslash (drop 1 p.left)) = ap (run no_backslash) (first_split p.left c f) ∙ run_goes_on c (drop 1 p.left) isnt in
    omega (arith, ap length left, length-drop (run no_backslash p.left) p.left, some, ap length (first_split p.left c f))

joining_run : {units : List Input} (p q : Place) {joined places new_joined new_places : List ℕ}
    → IsJoining units None joined places
    → p.at ≡ width_of units
    → PushesRun p q joined places new_joined new_places
    → IsJoining (units ++ map raw (run_of p)) None new_joined new_places
joining_run {units} p q {joined} {places} {new_joined} {new_places} j at r =
    let cs = run_of p in
    let sum : width_of (j.done ++ map raw cs) ≡ width_of (units ++ map raw cs) = omega (arith, width_append j.done (map raw cs), width_append units (map raw cs), j.begins) in
    let front = encode_utf8_all (characters_of j.done) in
    let text : encode_utf8_all (characters_of (j.done ++ map raw cs)) ≡ front ++ encode_utf8_all cs = ap encode_utf8_all (map-append (λ (input : Input). input.character) j.done (map raw cs)) ∙ (encodes-append (characters_of j.done) (characters_of (map raw cs)) ∙ ap (λ xs. front ++ encode_utf8_all xs) (raw_characters cs)) in
    let start : 0 + width_of j.done ≡ p.at = omega (arith, j.begins, at) in
    record {
      done = j.done ++ map raw cs;
      goes = λ later. ap inputs_of (append_assoc units (map raw cs) later) ∙ (j.goes (map raw cs ++ later) ∙ (ap (λ xs. j.done ++ xs) (joined_scalars cs later r.scalars) ∙ sym (append_assoc j.done (map raw cs) (inputs_of later))));
      begins = sum;
      within = omega (arith, sum);
      spells = record {
        spelled = r.spelled ∙ (ap (λ xs. xs ++ encode_utf8_all cs) j.spells.spelled ∙ sym text);
        placed = r.passes.placed ∙ (ap (λ xs. xs ++ places_of p.at (map raw cs)) j.spells.placed ∙ sym (places_append 0 j.done (map raw cs) ∙ ap (λ k. places_of 0 j.done ++ places_of k (map raw cs)) start));
      };
    }

pub underway_run : {text : List ℕ} {p q : Place} {even : Bool} {joined places new_joined new_places : List ℕ} (waits : Option Held) (c : ℕ)
    → IsUnderway text p even waits joined places
    → is_some waits ≡ false
    → first p.left ≡ Some c
    → c == backslash ≡ false
    → PushesRun p q joined places new_joined new_places
    → IsUnderway text q true waits new_joined new_places
underway_run (Some h) c u n f isnt r = absurd (true≢false n)
underway_run {text} {p} {q} {even} {joined} {places} {new_joined} {new_places} None c u n f isnt r =
    let cs = run_of p in
    let left : q.left ≡ drop (run no_backslash p.left) p.left = ap (λ (k : Place). k.left) r.passes.after ∙ advance-left (run no_backslash p.left) p in
    record {
      units = u.units ++ map raw cs;
      walk = units_append u.walk (subst (λ xs. Unescapes even p.left (map raw cs) true xs) (sym left) (run_walk_from even p.left c f isnt));
      width = omega (arith, ap (λ (k : Place). k.at) r.passes.after, advance-at (run no_backslash p.left) p, u.width, width_append u.units (map raw cs));
      small = All-append (λ (unit : Input). unit.character < 1114112) u.units (map raw cs) u.small (small_scalars cs r.scalars);
      joining = joining_run p q u.joining u.width r;
      first_half = tt;
    }

-- the places of a run

pub run_places_more : (p : Place) (c : ℕ) → first p.left ≡ Some c → c == backslash ≡ false → places_of p.at (map raw (run_of p)) ≡ replicate (len_utf8 c) p.at ++ places_of (next p).at (map raw (run_of (next p)))
run_places_more p c f isnt =
    let rest = drop 1 p.left in
    let split = first_split p.left c f in
    let more : run_of p ≡ c ∷ take (run no_backslash rest) rest = ap (λ xs. take (run no_backslash xs) xs) split ∙ ap (λ n. take n (c ∷ rest)) (run_goes_on c rest isnt) in
    let q : next p ≡ record p { at = p.at + len_utf8 c; left = rest } = next_at p c rest split in
    ap (λ xs. places_of p.at (map raw xs)) more ∙ ap (λ (r : Place). replicate (len_utf8 c) p.at ++ places_of r.at (map raw (run_of r))) (sym q)

pub run_places_none : (p : Place) → begins no_backslash p.left ≡ false → places_of p.at (map raw (run_of p)) ≡ []
run_places_none p h = ap (λ xs. places_of p.at (map raw xs)) (none p.left h)
  where
    none : (cs : List ℕ) → begins no_backslash cs ≡ false → take (run no_backslash cs) cs ≡ []
    none [] h = refl
    none (c ∷ cs) h = rw h refl

pub run_passed : (start q : Place) (old items : List ℕ)
    → begins no_backslash q.left ≡ false
    → after_run no_backslash q ≡ after_run no_backslash start
    → items ++ places_of q.at (map raw (run_of q)) ≡ old ++ places_of start.at (map raw (run_of start))
    → PassesRun start q old items
run_passed start q old items over same all = record {
  after = sym (run_stop no_backslash q over) ∙ same;
  placed = sym (append-nil items) ∙ (ap (λ xs. items ++ xs) (sym (run_places_none q over)) ∙ all);
}

pub run_placed : (p q : Place) (c : ℕ) (items new_items : List ℕ) (count place : ℕ)
    → first p.left ≡ Some c
    → c == backslash ≡ false
    → q ≡ next p
    → count ≡ len_utf8 c
    → place ≡ p.at
    → new_items ≡ items ++ replicate count place
    → new_items ++ places_of q.at (map raw (run_of q)) ≡ items ++ places_of p.at (map raw (run_of p))
run_placed p q c items new_items count place f isnt e n k i =
    let front = replicate (len_utf8 c) p.at in
    let put : new_items ≡ items ++ front = i ∙ (ap (λ m. items ++ replicate m place) n ∙ ap (λ m. items ++ replicate (len_utf8 c) m) k) in
    ap (λ xs. xs ++ places_of q.at (map raw (run_of q))) put
    ∙ (ap (λ (r : Place). (items ++ front) ++ places_of r.at (map raw (run_of r))) e
    ∙ (append_assoc items front (places_of (next p).at (map raw (run_of (next p)))) ∙ ap (λ xs. items ++ xs) (sym (run_places_more p c f isnt))))
