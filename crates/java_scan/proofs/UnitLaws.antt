-- Unicode escapes at a place are those of its characters.
use Rattle.std.proofs.Common.{◌≡◌, ◌≢◌, ℕ, suc, ◌+◌, ◌*◌, ◌<◌, ◌≤◌, Bool, true, false, cond, not, ◌&&◌, ◌==◌, List, [], ◌∷◌, ◌++◌, length, take, drop, map, Option, Some, None, refl, sym, ap, ◌∙◌, subst, inl, inr, arith, eqb-true, length-append, append_assoc, true≢false}
use Rattle.std.specs.Char.{len_utf8, digit_value}
use Rattle.std.specs.Option.{SomeIff}
use Rattle.std.proofs.lemmas.Bool.{cases_Bool, and_parts}
use Rattle.std.proofs.lemmas.Bool.Decides.{nat_tests}
use Rattle.java_model.specs.Lexical.Characters.{backslash, letter_u, is_hex_digit}
use Rattle.java_model.specs.Lexical.Escapes.{Input, raw, width_of, hex_value, begins_escape, IsUnicodeEscape, IsAnyEscape, HasNoFront, Unescapes}
use Rattle.java_model.specs.Lexical.Escapes.Unescapes.{stops, escape, plain_backslash, plain}
use Rattle.java_model.proofs.Lexical.Reading.{run, begins}
use Rattle.java_model.proofs.Lexical.Escaping.{digits_of, marked, marked_after, marked_are, IsMarked, Read, with_unit, read_units, walked, IsWalked}
use Rattle.java_model.proofs.Lexical.Escaping.Marked.{spelled, unspelled}
use Rattle.java_model.proofs.Lexical.Escaping.Read.{whole, bad_at}
use Rattle.java_scan.specs.declared.class.Class.TheVariants.{LetterU, HexDigit}
use Rattle.java_scan.specs.Classes.{passes}
use Rattle.java_scan.specs.Place.{Place, first, next, advance, after_run}
use Rattle.java_scan.specs.Unescaping.{IsHexDigit, IsFour, IsEscapedUnit, IsUnitRead, IsUnreadable}
use Rattle.java_scan.proofs.PlaceLaws.{first_split, next-left, next_at, next_shorter, advance-left, advance-at}

-- one digit

hex_small : (c : ℕ) → is_hex_digit c ≡ true → (len_utf8 c ≡ 1) × (digit_value c < 16)
hex_small c h = (grind (arith, nat_tests), grind (arith, nat_tests))

pub hex_at : (p q : Place) (c : ℕ) → p.left ≡ c ∷ q.left → is_hex_digit c ≡ true → q ≡ next p → q.at ≡ p.at + 1
hex_at p q c e h n = ap (λ r. r.at) (n ∙ next_at p c q.left e) ∙ ap (λ k. p.at + k) (hex_small c h).0

pub hex_test : (c : ℕ) → passes HexDigit c ≡ is_hex_digit c
unfolding passes
hex_test c = refl

pub hex_answer : (p q : Place) (c : ℕ) (r : Option ℕ) → first p.left ≡ Some c → is_hex_digit c ≡ true → q ≡ next p → SomeIff r (digit_value c < 16) (digit_value c) → IsHexDigit p r q
hex_answer p q c None e h n s = absurd (s (hex_small c h).1)
hex_answer p q c (Some v) e h n s = (c, first_split p.left c e ∙ ap (λ xs. c ∷ xs) (sym (next-left p) ∙ ap (λ r. r.left) (sym n)), h, s.1, n)

-- four digits

all_four : (a b c d : Bool) → a ≡ true → b ≡ true → c ≡ true → d ≡ true → a && (b && (c && (d && true))) ≡ true
all_four true true true true h1 h2 h3 h4 = refl
all_four false b c d h1 h2 h3 h4 = h1
all_four true false c d h1 h2 h3 h4 = h2
all_four true true false d h1 h2 h3 h4 = h3
all_four true true true false h1 h2 h3 h4 = h4

pub hex_bound : (p q : Place) (a : ℕ) → IsHexDigit p (Some a) q → a < 16
hex_bound p q a (x, e, h, v, n) = omega (arith, v, (hex_small x h).1)

pub four_some : (p0 p1 p2 p3 p4 : Place) (a b c d : ℕ) → IsHexDigit p0 (Some a) p1 → IsHexDigit p1 (Some b) p2 → IsHexDigit p2 (Some c) p3 → IsHexDigit p3 (Some d) p4 → IsFour p0 (Some (((a * 16 + b) * 16 + c) * 16 + d)) p4
four_some p0 p1 p2 p3 p4 a b c d (x1, e1, h1, v1, n1) (x2, e2, h2, v2, n2) (x3, e3, h3, v3, n3) (x4, e4, h4, v4, n4) =
    let left : p0.left ≡ x1 ∷ x2 ∷ x3 ∷ x4 ∷ p4.left = e1 ∙ ap (λ xs. x1 ∷ xs) (e2 ∙ ap (λ xs. x2 ∷ xs) (e3 ∙ ap (λ xs. x3 ∷ xs) e4)) in
    let value : hex_value (x1 ∷ x2 ∷ x3 ∷ x4 ∷ []) ≡ ((a * 16 + b) * 16 + c) * 16 + d = omega (arith, v1, v2, v3, v4) in (
      λ w. ap (digits_of w) left ∙ (here w x1 x2 x3 x4 p4.left h1 h2 h3 h4 ∙ ap (λ k. spelled k (w + 4) p4.left) value),
      omega (arith, hex_at p0 p1 x1 e1 h1 n1, hex_at p1 p2 x2 e2 h2 n2, hex_at p2 p3 x3 e3 h3 n3, hex_at p3 p4 x4 e4 h4 n4),
      omega (arith, v1, v2, v3, v4, (hex_small x1 h1).1, (hex_small x2 h2).1, (hex_small x3 h3).1, (hex_small x4 h4).1),
    )
  where
    here : (w x1 x2 x3 x4 : ℕ) (rest : List ℕ) → is_hex_digit x1 ≡ true → is_hex_digit x2 ≡ true → is_hex_digit x3 ≡ true → is_hex_digit x4 ≡ true → digits_of w (x1 ∷ x2 ∷ x3 ∷ x4 ∷ rest) ≡ spelled (hex_value (x1 ∷ x2 ∷ x3 ∷ x4 ∷ [])) (w + 4) rest
    here w x1 x2 x3 x4 rest h1 h2 h3 h4 = ap (λ b. cond b (spelled (hex_value (x1 ∷ x2 ∷ x3 ∷ x4 ∷ [])) (w + 4) rest) unspelled) (all_four (is_hex_digit x1) (is_hex_digit x2) (is_hex_digit x3) (is_hex_digit x4) h1 h2 h3 h4)

-- the marks and the digits

marked_run : (w : ℕ) (cs : List ℕ) → marked w cs ≡ digits_of (w + run (λ c. c == letter_u) cs) (drop (run (λ c. c == letter_u) cs) cs)
unfolding marked
marked_run w [] = refl
marked_run w (c ∷ cs) = elim (cases_Bool (c == letter_u)) [
  | inl is ↦ let n : suc w + run (λ c. c == letter_u) cs ≡ w + suc (run (λ c. c == letter_u) cs) = omega arith in rw (is, marked) (marked_run (suc w) cs ∙ ap (λ k. digits_of k (drop (run (λ c. c == letter_u) cs) cs)) n)
  | inr isnt ↦ let n : w + 0 ≡ w = omega arith in rw (isnt, marked) (sym (ap (λ k. digits_of k (c ∷ cs)) n))
]

marks_width : (cs : List ℕ) → width_of (map raw (take (run (λ c. c == letter_u) cs) cs)) ≡ run (λ c. c == letter_u) cs
marks_width [] = refl
marks_width (c ∷ cs) = elim (cases_Bool (c == letter_u)) [
  | inl is ↦ let one : len_utf8 c ≡ 1 = ap len_utf8 (eqb-true c letter_u is) in rw is (omega (arith, one, marks_width cs))
  | inr isnt ↦ rw isnt refl
]

-- after the marks
record Marks (p q : Place) : Type 0 where
  count : ℕ
  same : marked_after p.left ≡ digits_of (2 + count) q.left
  at : q.at ≡ p.at + suc count

marks : (p q : Place) → begins (passes LetterU) p.left ≡ true → q ≡ after_run (passes LetterU) p → Marks p q
unfolding passes
marks p q h e = by_left p.left refl h
  where
    by_left : (cs : List ℕ) → p.left ≡ cs → begins (passes LetterU) cs ≡ true → Marks p q
    by_left [] l h = cc
    by_left (c ∷ cs) l h =
        let n = run (λ c. c == letter_u) cs in
        let all : run (passes LetterU) p.left ≡ suc n = ap (run (passes LetterU)) l ∙ rw h refl in
        let end : q ≡ advance (suc n) p = e ∙ ap (λ k. advance k p) all in
        let left : q.left ≡ drop n cs = ap (λ r. r.left) end ∙ (advance-left (suc n) p ∙ ap (drop (suc n)) l) in
        let one : len_utf8 c ≡ 1 = ap len_utf8 (eqb-true c letter_u h) in
        record {
          count = n;
          same = ap marked_after l ∙ (marked_run 2 cs ∙ ap (digits_of (2 + n)) (sym left));
          at = omega (arith, ap (λ r. r.at) end, advance-at (suc n) p, ap (λ xs. width_of (map raw (take (suc n) xs))) l, one, marks_width cs);
        }

pub escaped_some : (p q r : Place) (unit : ℕ) → begins (passes LetterU) p.left ≡ true → q ≡ after_run (passes LetterU) p → IsFour q (Some unit) r → IsEscapedUnit p (Some unit) r
escaped_some p q r unit h e (four, at, small) =
    let m = marks p q h e in
    let n : 2 + m.count + 4 ≡ suc (suc m.count + 4) = omega arith in
    (suc m.count + 4, m.same ∙ (four (2 + m.count) ∙ ap (λ k. spelled unit k r.left) n), omega (arith, m.at, at), small)

pub escaped_none : (p q : Place) → begins (passes LetterU) p.left ≡ true → q ≡ after_run (passes LetterU) p → ((w : ℕ) → digits_of w q.left ≡ unspelled) → marked_after p.left ≡ unspelled
escaped_none p q h e none = let m = marks p q h e in m.same ∙ none (2 + m.count)

-- units

pub unit_plain : (p : Place) (c : ℕ) (even : Bool) → first p.left ≡ Some c → c ≢ backslash → Unescapes even p.left (raw c ∷ []) true (next p).left
unit_plain p c even e apart = subst (λ xs. Unescapes even xs (raw c ∷ []) true (next p).left) (sym (first_split p.left c e)) (subst (λ xs. Unescapes even (c ∷ drop 1 p.left) (raw c ∷ []) true xs) (sym (next-left p)) (plain apart stops))

pub unit_backslash : (p : Place) (even : Bool) → first p.left ≡ Some backslash → begins_escape even (next p).left ≡ false → Unescapes even p.left (raw backslash ∷ []) (not even) (next p).left
unit_backslash p even e none = subst (λ xs. Unescapes even xs (raw backslash ∷ []) (not even) (next p).left) (sym (first_split p.left backslash e)) (subst (λ xs. begins_escape even xs ≡ false → Unescapes even (backslash ∷ drop 1 p.left) (raw backslash ∷ []) (not even) xs) (sym (next-left p)) (λ n. plain_backslash n stops) none)

pub unit_at : (p : Place) (c : ℕ) → first p.left ≡ Some c → (next p).at ≡ p.at + len_utf8 c
unit_at p c e = ap (λ r. r.at) (next_at p c (drop 1 p.left) (first_split p.left c e))

begun_u : (even : Bool) (cs : List ℕ) → begins_escape even cs ≡ true → (even ≡ true) × (cs ≡ letter_u ∷ drop 1 cs)
begun_u even [] h = absurd (true≢false (sym h))
begun_u even (c ∷ cs) h = let parts = and_parts even (c == letter_u) h in (parts.0, ap (λ x. x ∷ cs) (eqb-true c letter_u parts.1))

spelled_walk : (even : Bool) (cs text after : List ℕ) (unit width : ℕ) → cs ≡ backslash ∷ letter_u ∷ text → even ≡ true → IsMarked 2 text (spelled unit width after) → Unescapes even cs (record { character = unit; width = width } ∷ []) true after
spelled_walk even cs text after unit width e even_is (more, digits, t, m, l, h, v, n) =
    let spelling : List ℕ = backslash ∷ letter_u ∷ (more ++ digits) in
    let whole_text : cs ≡ spelling ++ after = e ∙ ap (λ x. backslash ∷ letter_u ∷ x) (t ∙ sym (append_assoc more digits after)) in
    let is : IsUnicodeEscape spelling unit = record { more = more; digits = digits; spelled = refl; marked = m; four = l; hexadecimal = h; value = v } in
    let w : length spelling ≡ width = omega (arith, length-append more digits) in
    subst (λ k. Unescapes even cs (record { character = unit; width = k } ∷ []) true after) w (escape spelling after unit whole_text even_is is stops)

pub unit_escaped : (p r : Place) (even : Bool) (unit w : ℕ) → first p.left ≡ Some backslash → begins_escape even (next p).left ≡ true → marked_after (next p).left ≡ spelled unit (suc w) r.left → Unescapes even p.left (record { character = unit; width = suc w } ∷ []) true r.left
unit_escaped p r even unit w e begun m =
    let b = begun_u even (next p).left begun in
    let text = drop 1 (next p).left in
    let left : p.left ≡ backslash ∷ letter_u ∷ text = first_split p.left backslash e ∙ ap (λ xs. backslash ∷ xs) (sym (next-left p) ∙ b.1) in
    let is : marked 2 text ≡ spelled unit (suc w) r.left = sym (ap marked_after b.1) ∙ m in
    spelled_walk even p.left text r.left unit (suc w) left b.0 (subst (IsMarked 2 text) is (marked_are 2 text))

bad_read : (n : ℕ) (text : List ℕ) → begins_escape true text ≡ true → marked_after text ≡ unspelled → read_units (suc n) true (backslash ∷ text) ≡ bad_at 0
unfolding read_units
bad_read n text begun none = rw (begun, read_units) (rw (none, read_units) refl)

not_bad : (unit : Input) (read : Read) → 0 < unit.width → with_unit unit read ≡ bad_at 0 → ⊥
not_bad unit (whole units) w e = cc
not_bad unit (bad_at at) w e = let n : unit.width + at ≡ 0 = cc in omega arith

no_escape_here : (text : List ℕ) → begins_escape true text ≡ true → marked_after text ≡ unspelled → HasNoFront IsAnyEscape (backslash ∷ text)
no_escape_here text begun none front rest e (unit, is) =
    let input : Input = record { character = unit; width = length front } in
    let walk : Unescapes true (backslash ∷ text) (input ∷ []) true rest = escape front rest unit e refl is stops in
    let w : IsWalked (suc (suc (length text))) true (backslash ∷ text) (input ∷ []) true rest = walked walk (suc (suc (length text))) (omega arith) in
    not_bad input (read_units w.0 true rest) (omega (arith, ap length is.spelled)) (sym w.2 ∙ bad_read (suc (length text)) text begun none)

pub unit_unreadable : (p : Place) (even : Bool) → first p.left ≡ Some backslash → begins_escape even (next p).left ≡ true → marked_after (next p).left ≡ unspelled → IsUnreadable even p
unit_unreadable p even e begun none =
    let b = begun_u even (next p).left begun in
    record {
      rest = (next p).left;
      here = first_split p.left backslash e ∙ ap (λ xs. backslash ∷ xs) (sym (next-left p));
      begun = begun;
      bad = no_escape_here (next p).left (ap (λ x. begins_escape x (next p).left) (sym b.0) ∙ begun) none;
    }

-- a walk over units goes on
pub units_append : {a b c : Bool} {xs ys zs : List ℕ} {us vs : List Input} → Unescapes a xs us b ys → Unescapes b ys vs c zs → Unescapes a xs (us ++ vs) c zs
units_append stops walk = walk
units_append (escape spelling after unit t even is before) walk = escape spelling after unit t even is (units_append before walk)
units_append (plain_backslash none before) walk = plain_backslash none (units_append before walk)
units_append (plain apart before) walk = plain apart (units_append before walk)

pub escaped_is : (p q r : Place) (unit : Option ℕ) → begins (passes LetterU) p.left ≡ true → q ≡ after_run (passes LetterU) p → IsFour q unit r → IsEscapedUnit p unit r
escaped_is p q r (Some unit) h e four = escaped_some p q r unit h e four
escaped_is p q r None h e none = escaped_none p q h e none

pub marked_escape : (cs : List ℕ) → begins_escape true cs ≡ begins (passes LetterU) cs
unfolding passes
marked_escape [] = refl
marked_escape (c ∷ cs) = refl

pub unmarked_escape : (cs : List ℕ) → begins_escape false cs ≡ false
unmarked_escape [] = refl
unmarked_escape (c ∷ cs) = refl

pub mark_here : (even : Bool) (cs : List ℕ) → begins_escape even cs ≡ true → begins (passes LetterU) cs ≡ true
mark_here true cs h = sym (marked_escape cs) ∙ h
mark_here false cs h = absurd (true≢false (sym h ∙ unmarked_escape cs))

pub read_plain : (p q : Place) (c : ℕ) (even : Bool) → c < 1114112 → first p.left ≡ Some c → (c ≡ backslash → ⊥) → q ≡ next p → IsUnitRead even p (record { code = c; even = true }) q
read_plain p q c even s e apart n = record {
  small = s;
  width = len_utf8 c;
  walk = subst (λ r. Unescapes even p.left (raw c ∷ []) true r.left) (sym n) (unit_plain p c even e apart);
  at = ap (λ r. r.at) n ∙ unit_at p c e;
  shorter = subst (λ r. length r.left < length p.left) (sym n) (next_shorter p c e);
}

pub read_backslash : (p q : Place) (c : ℕ) (even : Bool) → c < 1114112 → first p.left ≡ Some c → c ≡ backslash → q ≡ next p → begins_escape even q.left ≡ false → IsUnitRead even p (record { code = c; even = not even }) q
read_backslash p q c even s e is n none =
    let b : first p.left ≡ Some backslash = e ∙ ap (λ x. Some x) is in
    let w : begins_escape even (next p).left ≡ false = ap (λ r. begins_escape even r.left) (sym n) ∙ none in
    record {
      small = s;
      width = len_utf8 c;
      walk = subst (λ x. Unescapes even p.left (raw x ∷ []) (not even) q.left) (sym is) (subst (λ r. Unescapes even p.left (raw backslash ∷ []) (not even) r.left) (sym n) (unit_backslash p even b w));
      at = ap (λ r. r.at) n ∙ unit_at p c e;
      shorter = subst (λ r. length r.left < length p.left) (sym n) (next_shorter p c e);
    }

len_after : {a b : Bool} {xs ys : List ℕ} {us : List Input} → Unescapes a xs us b ys → length ys ≤ length xs
len_after stops = omega arith
len_after (escape spelling after unit t even is before) = omega (arith, len_after before, ap length t, length-append spelling after)
len_after (plain_backslash none before) = omega (arith, len_after before)
len_after (plain apart before) = omega (arith, len_after before)

walk_shorter : (xs ys : List ℕ) (u : Input) (even : Bool) → Unescapes even xs (u ∷ []) true ys → length ys < length xs
walk_shorter xs ys u even (escape spelling after unit t is_even is before) = omega (arith, len_after before, ap length t, length-append spelling after, ap length is.spelled)
walk_shorter xs ys u even (plain_backslash none before) = omega (arith, len_after before)
walk_shorter xs ys u even (plain apart before) = omega (arith, len_after before)

pub read_escaped : (p q r : Place) (c unit : ℕ) (even : Bool) → first p.left ≡ Some c → c ≡ backslash → q ≡ next p → begins_escape even q.left ≡ true → IsEscapedUnit q (Some unit) r → IsUnitRead even p (record { code = unit; even = true }) r
read_escaped p q r c unit even e is n begun (w, m, at, small) =
    let b : first p.left ≡ Some backslash = e ∙ ap (λ x. Some x) is in
    let walk = unit_escaped p r even unit w b (ap (λ s. begins_escape even s.left) (sym n) ∙ begun) (ap (λ s. marked_after s.left) (sym n) ∙ m) in
    record {
      small = omega arith;
      width = suc w;
      walk = walk;
      at = omega (arith, at, ap (λ s. s.at) n, unit_at p backslash b);
      shorter = walk_shorter p.left r.left (record { character = unit; width = suc w }) even walk;
    }

pub read_none : (p q : Place) (c : ℕ) (even : Bool) → first p.left ≡ Some c → c ≡ backslash → q ≡ next p → begins_escape even q.left ≡ true → marked_after q.left ≡ unspelled → IsUnreadable even p
read_none p q c even e is n begun none = unit_unreadable p even (e ∙ ap (λ x. Some x) is) (ap (λ s. begins_escape even s.left) (sym n) ∙ begun) (ap (λ s. marked_after s.left) (sym n) ∙ none)

-- lists of units

pub units_width : (us : List Input) (u : Input) → width_of (us ++ u ∷ []) ≡ width_of us + u.width
units_width [] u = omega arith
units_width (v ∷ us) u = omega (arith, units_width us u)
