-- Reading Unicode escapes: a function on lists that gives the characters of a text, or the place of its
-- first bad escape. It is sound and complete for `Unescapes`.
use Rattle.std.proofs.Common.{◌≡◌, ◌≢◌, ℕ, zero, suc, ◌+◌, ◌<◌, ◌≤◌, Bool, true, false, cond, not, ◌==◌, List, [], ◌∷◌, ◌++◌, length, refl, sym, ap, ap₂, ◌∙◌, subst, arith, length-append, append_assoc, true≢false, eqb-true, ne_eqb}
use Rattle.std.specs.List.{list_all}
use Rattle.std.proofs.lemmas.Bool.{and_parts, and_from, eqb-false}
use Rattle.java_model.specs.Lexical.Characters.{backslash, letter_u, is_hex_digit}
use Rattle.java_model.specs.Lexical.Escapes.{Input, raw, width_of, hex_value, IsUnicodeEscape, IsAnyEscape, HasNoFront, begins_escape, Unescapes}
use Rattle.java_model.specs.Lexical.Escapes.Unescapes.{stops, escape, plain_backslash, plain}
use Rattle.java_model.proofs.Lexical.Classes.{is_hex_digit-letter_u}

-- what stands behind a backslash and its first `u`: the unit, the bytes of the escape, and what follows
pub data Marked : Type 0 where
  spelled : (unit width : ℕ) (after : List ℕ) → Marked
  unspelled : Marked

abbrev pub digits_of : ℕ → List ℕ → Marked
digits_of width (a ∷ b ∷ c ∷ d ∷ after) =
    cond (list_all is_hex_digit (a ∷ b ∷ c ∷ d ∷ [])) (spelled (hex_value (a ∷ b ∷ c ∷ d ∷ [])) (width + 4) after) unspelled
digits_of width _ = unspelled

unfoldable pub marked : ℕ → List ℕ → Marked
marked width [] = unspelled
marked width (c ∷ cs) = elim (c == letter_u) [ true ↦ marked (suc width) cs | false ↦ digits_of width (c ∷ cs) ]

-- the units of a text, or the bytes before its first bad escape
pub data Read : Type 0 where
  whole : List Input → Read
  bad_at : ℕ → Read

abbrev pub with_unit : Input → Read → Read
with_unit unit (whole units) = whole (unit ∷ units)
with_unit unit (bad_at at) = bad_at (unit.width + at)

abbrev pub with_units : List Input → Read → Read
with_units [] read = read
with_units (unit ∷ units) read = with_unit unit (with_units units read)

-- what stands behind a backslash that begins an escape
abbrev pub marked_after : List ℕ → Marked
marked_after [] = unspelled
marked_after (u ∷ text) = marked 2 text

-- n is more than the length of the text
unfoldable pub read_units : ℕ → Bool → List ℕ → Read
read_units zero even text = whole []
read_units (suc n) even [] = whole []
read_units (suc n) even (c ∷ text) =
    elim (c == backslash) [
      | false ↦ with_unit (raw c) (read_units n true text)
      | true ↦ elim (begins_escape even text) [
        | false ↦ with_unit (raw c) (read_units n (not even) text)
        | true ↦ elim (marked_after text) [
          | spelled unit width after ↦ with_unit (record { character = unit; width = width }) (read_units n true after)
          | unspelled ↦ bad_at 0
        ]
      ]
    ]

-- four digits behind the marks are read

marked_four : (w a b c d : ℕ) (after : List ℕ) → list_all is_hex_digit (a ∷ b ∷ c ∷ d ∷ []) ≡ true → marked w (a ∷ b ∷ c ∷ d ∷ after) ≡ spelled (hex_value (a ∷ b ∷ c ∷ d ∷ [])) (w + 4) after
unfolding marked
marked_four w a b c d after h = rw (is_hex_digit-letter_u a (and_parts _ _ h).0, marked) (rw h refl)

marked_digits : (w : ℕ) (digits after : List ℕ) → length digits ≡ 4 → list_all is_hex_digit digits ≡ true → marked w (digits ++ after) ≡ spelled (hex_value digits) (w + 4) after
marked_digits w [] after l h = cc
marked_digits w (a ∷ []) after l h = cc
marked_digits w (a ∷ b ∷ []) after l h = cc
marked_digits w (a ∷ b ∷ c ∷ []) after l h = cc
marked_digits w (a ∷ b ∷ c ∷ d ∷ []) after l h = marked_four w a b c d after h
marked_digits w (a ∷ b ∷ c ∷ d ∷ e ∷ digits) after l h = absurd (omega arith)

marked_spelled : (w : ℕ) (more digits after : List ℕ) → list_all (λ c. c == letter_u) more ≡ true → length digits ≡ 4 → list_all is_hex_digit digits ≡ true → marked w (more ++ (digits ++ after)) ≡ spelled (hex_value digits) (w + (length more + 4)) after
unfolding marked
marked_spelled w [] digits after m l h = marked_digits w digits after l h
marked_spelled w (u ∷ more) digits after m l h =
    let parts : ((u == letter_u) ≡ true) × (list_all (λ c. c == letter_u) more ≡ true) = and_parts _ _ m in
    let n : suc w + (length more + 4) ≡ w + (suc (length more) + 4) = omega arith in
    rw (parts.0, marked) (marked_spelled (suc w) more digits after parts.1 l h ∙ ap (λ k. spelled (hex_value digits) k after) n)

-- what `marked` gives is spelled so
abbrev pub IsMarked : ℕ → List ℕ → Marked → Type 0
IsMarked w text (spelled unit width after) = (more : List ℕ) × (digits : List ℕ) × (text ≡ more ++ (digits ++ after)) × (list_all (λ c. c == letter_u) more ≡ true) × (length digits ≡ 4) × (list_all is_hex_digit digits ≡ true) × (unit ≡ hex_value digits) × (width ≡ w + (length more + 4))
IsMarked w text unspelled = Unit {0}

digits_are : (w a b c d : ℕ) (after : List ℕ) (h : Bool) → list_all is_hex_digit (a ∷ b ∷ c ∷ d ∷ []) ≡ h → IsMarked w (a ∷ b ∷ c ∷ d ∷ after) (cond h (spelled (hex_value (a ∷ b ∷ c ∷ d ∷ [])) (w + 4) after) unspelled)
digits_are w a b c d after true e = ([], a ∷ b ∷ c ∷ d ∷ [], refl, refl, refl, e, refl, omega arith)
digits_are w a b c d after false e = tt

digits_of_are : (w : ℕ) (text : List ℕ) → IsMarked w text (digits_of w text)
digits_of_are w [] = tt
digits_of_are w (a ∷ []) = tt
digits_of_are w (a ∷ b ∷ []) = tt
digits_of_are w (a ∷ b ∷ c ∷ []) = tt
digits_of_are w (a ∷ b ∷ c ∷ d ∷ after) = digits_are w a b c d after _ refl

marked_more : (w u : ℕ) (text : List ℕ) (m : Marked) → (u == letter_u) ≡ true → IsMarked (suc w) text m → IsMarked w (u ∷ text) m
marked_more w u text (spelled unit width after) e (more, digits, t, m, l, h, v, n) = (u ∷ more, digits, ap (λ x. u ∷ x) t, and_from _ _ e m, l, h, v, n ∙ omega arith)
marked_more w u text unspelled e h = tt

pub marked_are : (w : ℕ) (text : List ℕ) → IsMarked w text (marked w text)
unfolding marked
marked_are w [] = tt
marked_are w (c ∷ text) = elim (c == letter_u) as (λ b. (c == letter_u) ≡ b → IsMarked w (c ∷ text) (elim b [ true ↦ marked (suc w) text | false ↦ digits_of w (c ∷ text) ])) [
  | true ↦ λ e. marked_more w c text _ e (marked_are (suc w) text)
  | false ↦ λ e. digits_of_are w (c ∷ text)
] refl

-- an escape is read, whatever follows it

read_spelled : (k : ℕ) (more digits after : List ℕ) → list_all (λ c. c == letter_u) more ≡ true → length digits ≡ 4 → list_all is_hex_digit digits ≡ true → read_units (suc k) true (backslash ∷ letter_u ∷ ((more ++ digits) ++ after)) ≡ with_unit (record { character = hex_value digits; width = 2 + (length more + 4) }) (read_units k true after)
unfolding read_units
read_spelled k more digits after m l h =
    let e : marked 2 ((more ++ digits) ++ after) ≡ spelled (hex_value digits) (2 + (length more + 4)) after = ap (marked 2) (append_assoc more digits after) ∙ marked_spelled 2 more digits after m l h in
    rw (e, read_units) refl

length_spelled : (more digits : List ℕ) → length digits ≡ 4 → length (backslash ∷ letter_u ∷ (more ++ digits)) ≡ 2 + (length more + 4)
length_spelled more digits l = omega (arith, length-append more digits)

read_escape : (k : ℕ) (spelling after : List ℕ) (unit : ℕ) → IsUnicodeEscape spelling unit → read_units (suc k) true (spelling ++ after) ≡ with_unit (record { character = unit; width = length spelling }) (read_units k true after)
read_escape k spelling after unit e =
    rw (e.spelled, e.value) (read_spelled k e.more e.digits after e.marked e.four e.hexadecimal
    ∙ ap (λ w. with_unit (record { character = hex_value e.digits; width = w }) (read_units k true after)) (sym (length_spelled e.more e.digits e.four)))

-- whatever the relation gives is read

abbrev pub IsWalked : ℕ → Bool → List ℕ → List Input → Bool → List ℕ → Type 0
IsWalked n even text units end rest = (m : ℕ) × (length rest < m) × (read_units n even text ≡ with_units units (read_units m end rest))

walked_plain : (k c : ℕ) (even : Bool) (text : List ℕ) (units : List Input) (end : Bool) (rest : List ℕ) → c ≢ backslash → IsWalked k true text units end rest → IsWalked (suc k) even (c ∷ text) (raw c ∷ units) end rest
unfolding read_units
walked_plain k c even text units end rest apart (m, l, e) = (m, l, rw (ne_eqb c backslash apart, read_units) (ap (with_unit (raw c)) e))

walked_backslash : (k : ℕ) (even : Bool) (text : List ℕ) (units : List Input) (end : Bool) (rest : List ℕ) → begins_escape even text ≡ false → IsWalked k (not even) text units end rest → IsWalked (suc k) even (backslash ∷ text) (raw backslash ∷ units) end rest
unfolding read_units
walked_backslash k even text units end rest plainly (m, l, e) = (m, l, rw (plainly, read_units) (ap (with_unit (raw backslash)) e))

walked_escape : (k : ℕ) (text spelling after : List ℕ) (unit : ℕ) (units : List Input) (end : Bool) (rest : List ℕ) → text ≡ spelling ++ after → IsUnicodeEscape spelling unit → IsWalked k true after units end rest → IsWalked (suc k) true text (record { character = unit; width = length spelling } ∷ units) end rest
walked_escape k text spelling after unit units end rest t is (m, l, e) = (m, l, rw t (read_escape k spelling after unit is ∙ ap (with_unit (record { character = unit; width = length spelling })) e))

length_after : (text spelling after : List ℕ) (unit : ℕ) → text ≡ spelling ++ after → IsUnicodeEscape spelling unit → length after < length text
length_after text spelling after unit t e = omega (arith, ap length t, length-append spelling after, ap length e.spelled)

pub walked : {even : Bool} {text : List ℕ} {units : List Input} {end : Bool} {rest : List ℕ} → Unescapes even text units end rest → (n : ℕ) → length text < n → IsWalked n even text units end rest
walked stops n h = (n, h, refl)
walked (escape spelling after unit t even is walk) zero h = absurd (omega arith)
walked {even} {text} {rest} (escape {end = e} {units = us} spelling after unit t is_even is walk) (suc n) h =
    subst (λ b. IsWalked (suc n) b text (record { character = unit; width = length spelling } ∷ us) e rest) (sym is_even)
    (walked_escape n text spelling after unit us e rest t is (walked walk n (omega (arith, length_after text spelling after unit t is))))
walked (plain_backslash plainly walk) zero h = absurd (omega arith)
walked (plain_backslash {even = b} {end = e} {text = t} {rest = r} {units = us} plainly walk) (suc n) h = walked_backslash n b t us e r plainly (walked walk n (omega arith))
walked (plain apart walk) zero h = absurd (omega arith)
walked (plain {even = b} {end = e} {c = c} {text = t} {rest = r} {units = us} apart walk) (suc n) h = walked_plain n c b t us e r apart (walked walk n (omega arith))

-- and whatever is read is in the relation

-- no escape stands at the front of this text
abbrev pub HasNoEscape : List ℕ → Type 0
HasNoEscape = HasNoFront IsAnyEscape

abbrev pub Meets : Bool → List ℕ → Read → Type 0
Meets even text (whole units) = (end : Bool) × Unescapes even text units end []
Meets even text (bad_at at) = (units : List Input) × (end : Bool) × (rest : List ℕ) × Unescapes even text units end (backslash ∷ rest) × (begins_escape end rest ≡ true) × HasNoEscape (backslash ∷ rest) × (at ≡ width_of units)

meets_more : (unit : Input) (before even : Bool) (after text : List ℕ) → ((units : List Input) (end : Bool) (rest : List ℕ) → Unescapes before after units end rest → Unescapes even text (unit ∷ units) end rest) → (read : Read) → Meets before after read → Meets even text (with_unit unit read)
meets_more unit before even after text step (whole units) (end, walk) = (end, step units end [] walk)
meets_more unit before even after text step (bad_at at) (units, end, rest, walk, begun, bad, place) =
    (unit ∷ units, end, rest, step units end (backslash ∷ rest) walk, begun, bad, ap (λ n. unit.width + n) place)

no_escape : (text : List ℕ) → marked_after text ≡ unspelled → HasNoEscape (backslash ∷ text)
no_escape text none spelling after t (unit, e) = clash text none (tail_of t)
  where
    tail_of : backslash ∷ text ≡ spelling ++ after → text ≡ letter_u ∷ ((e.more ++ e.digits) ++ after)
    tail_of t = let s : backslash ∷ text ≡ backslash ∷ letter_u ∷ ((e.more ++ e.digits) ++ after) = t ∙ ap (λ x. x ++ after) e.spelled in cc

    clash : (text : List ℕ) → marked_after text ≡ unspelled → text ≡ letter_u ∷ ((e.more ++ e.digits) ++ after) → ⊥
    clash text none s =
        let f : marked_after text ≡ spelled (hex_value e.digits) (2 + (length e.more + 4)) after = ap marked_after s ∙ (ap (marked 2) (append_assoc e.more e.digits after) ∙ marked_spelled 2 e.more e.digits after e.marked e.four e.hexadecimal) in
        cc

meets_spelled : (even : Bool) (u : ℕ) (text : List ℕ) (unit width : ℕ) (after : List ℕ) → begins_escape even (u ∷ text) ≡ true → IsMarked 2 text (spelled unit width after) → (units : List Input) (end : Bool) (rest : List ℕ) → Unescapes true after units end rest → Unescapes even (backslash ∷ u ∷ text) (record { character = unit; width = width } ∷ units) end rest
meets_spelled even u text unit width after begun (more, digits, t, m, l, h, v, n) units end rest walk =
    let is_u : u ≡ letter_u = eqb-true u letter_u (and_parts even _ begun).1 in
    let spelling : List ℕ = backslash ∷ letter_u ∷ (more ++ digits) in
    let t' : backslash ∷ u ∷ text ≡ spelling ++ after = ap₂ (λ a b. backslash ∷ a ∷ b) is_u (t ∙ sym (append_assoc more digits after)) in
    let is : IsUnicodeEscape spelling unit = record { more = more; digits = digits; spelled = refl; marked = m; four = l; hexadecimal = h; value = v } in
    let w : length spelling ≡ width = length_spelled more digits l ∙ sym n in
    subst (λ k. Unescapes even (backslash ∷ u ∷ text) (record { character = unit; width = k } ∷ units) end rest) w
    (escape spelling after unit t' (and_parts even _ begun).0 is walk)

length_marked : (text : List ℕ) (unit width : ℕ) (after : List ℕ) → IsMarked 2 text (spelled unit width after) → length after ≤ length text
length_marked text unit width after (more, digits, t, m, l, h, v, n) = omega (arith, ap length t, length-append more (digits ++ after), length-append digits after)

abbrev read_marked : ℕ → Marked → Read
read_marked n (spelled unit width after) = with_unit (record { character = unit; width = width }) (read_units n true after)
read_marked n unspelled = bad_at 0

meets_marked : (n : ℕ) (even : Bool) (u : ℕ) (text : List ℕ) (m : Marked) → ((after : List ℕ) → length after < n → Meets true after (read_units n true after)) → length text < n → begins_escape even (u ∷ text) ≡ true → marked 2 text ≡ m → IsMarked 2 text m → Meets even (backslash ∷ u ∷ text) (read_marked n m)
meets_marked n even u text (spelled unit width after) rest h begun e is =
    let l : length after ≤ length text = length_marked text unit width after is in
    meets_more (record { character = unit; width = width }) true even after (backslash ∷ u ∷ text) (meets_spelled even u text unit width after begun is) (read_units n true after) (rest after (omega arith))
meets_marked n even u text unspelled rest h begun e is = ([], even, u ∷ text, stops, begun, no_escape (u ∷ text) e, refl)

meets_begun : (n : ℕ) (even : Bool) (text : List ℕ) → ((after : List ℕ) → length after < n → Meets true after (read_units n true after)) → length text < n → begins_escape even text ≡ true → Meets even (backslash ∷ text) (read_marked n (marked_after text))
meets_begun n even [] rest h begun = absurd (true≢false (sym begun))
meets_begun n even (u ∷ text) rest h begun = meets_marked n even u text (marked 2 text) rest (omega arith) begun refl (marked_are 2 text)

meets_backslash : (n : ℕ) (even b : Bool) (text : List ℕ) → ((before : Bool) (after : List ℕ) → length after < n → Meets before after (read_units n before after)) → length text < n → begins_escape even text ≡ b
    → Meets even (backslash ∷ text) (elim b [ false ↦ with_unit (raw backslash) (read_units n (not even) text) | true ↦ read_marked n (marked_after text) ])
meets_backslash n even false text rest h e = meets_more (raw backslash) (not even) even text (backslash ∷ text) (λ us end r walk. plain_backslash e walk) (read_units n (not even) text) (rest (not even) text h)
meets_backslash n even true text rest h e = meets_begun n even text (rest true) h e

meets_char : (n c : ℕ) (even b : Bool) (text : List ℕ) → ((before : Bool) (after : List ℕ) → length after < n → Meets before after (read_units n before after)) → length text < n → (c == backslash) ≡ b
    → Meets even (c ∷ text) (elim b [ false ↦ with_unit (raw c) (read_units n true text) | true ↦ elim (begins_escape even text) [ false ↦ with_unit (raw c) (read_units n (not even) text) | true ↦ read_marked n (marked_after text) ] ])
meets_char n c even false text rest h e = meets_more (raw c) true even text (c ∷ text) (λ us end r walk. plain (eqb-false c backslash e) walk) (read_units n true text) (rest true text h)
meets_char n c even true text rest h e =
    subst (λ x. Meets even (x ∷ text) (elim (begins_escape even text) [ false ↦ with_unit (raw x) (read_units n (not even) text) | true ↦ read_marked n (marked_after text) ])) (sym (eqb-true c backslash e))
    (meets_backslash n even (begins_escape even text) text rest h refl)

pub meets : (n : ℕ) (even : Bool) (text : List ℕ) → length text < n → Meets even text (read_units n even text)
unfolding read_units
meets zero even text h = absurd (omega arith)
meets (suc n) even [] h = (even, stops)
meets (suc n) even (c ∷ text) h = meets_char n c even (c == backslash) text (meets n) (omega arith) refl
