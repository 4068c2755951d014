-- The characters of a text after Unicode escapes are unique, and each text has them or a first bad escape.
use Rattle.std.proofs.Common.{◌≡◌, ℕ, zero, suc, ◌<◌, ◌⊎◌, Bool, true, List, [], ◌∷◌, ◌++◌, length, map, refl, sym, ap, ◌∙◌, subst, inl, inr, arith, append_assoc, eqb-true, chars}
use Rattle.std.proofs.lemmas.Bool.{and_parts}
use Rattle.java_model.specs.Lexical.Characters.{backslash, letter_u}
use Rattle.java_model.specs.Lexical.Escapes.{Input, width_of, begins_escape, HasInputs, HasBadEscape, paired, replaced}
use Rattle.java_model.proofs.Lexical.Escaping.{Marked, marked, marked_after, marked_are, IsMarked, Read, with_units, read_units, walked, IsWalked, HasNoEscape, Meets, meets}
use Rattle.java_model.proofs.Lexical.Escaping.Read.{whole, bad_at}
use Rattle.java_model.proofs.Lexical.Escaping.Marked.{spelled, unspelled}

-- how a text is read whole
abbrev pub read_text : List ℕ → Read
read_text text = read_units (suc (length (chars text))) true (chars text)

with_whole : (units : List Input) → with_units units (whole []) ≡ whole units
with_whole [] = refl
with_whole (unit ∷ units) = rw (with_whole units) refl

with_bad : (units : List Input) → with_units units (bad_at 0) ≡ bad_at (width_of units)
with_bad [] = refl
with_bad (unit ∷ units) = rw (with_bad units) refl

nothing_left : (n : ℕ) (even : Bool) → 0 < n → read_units n even [] ≡ whole []
unfolding read_units
nothing_left zero even h = absurd (omega arith)
nothing_left (suc n) even h = refl

read_whole : (n : ℕ) (text : List ℕ) (units : List Input) (end : Bool) → IsWalked n true text units end [] → read_units n true text ≡ whole units
read_whole n text units end (m, l, e) = e ∙ (ap (with_units units) (nothing_left m end l) ∙ with_whole units)

bad_left : (n : ℕ) (even : Bool) (text : List ℕ) → 0 < n → begins_escape even text ≡ true → marked_after text ≡ unspelled → read_units n even (backslash ∷ text) ≡ bad_at 0
unfolding read_units
bad_left zero even text h begun none = absurd (omega arith)
bad_left (suc n) even text h begun none = rw (begun, read_units) (rw (none, read_units) refl)

none_marked : (text : List ℕ) (m : Marked) → IsMarked 2 text m → HasNoEscape (backslash ∷ letter_u ∷ text) → m ≡ unspelled
none_marked text unspelled is none = refl
none_marked text (spelled unit width after) (more, digits, t, m, l, h, v, n) none =
    absurd (none (backslash ∷ letter_u ∷ (more ++ digits)) after (ap (λ x. backslash ∷ letter_u ∷ x) (t ∙ sym (append_assoc more digits after))) (unit, record { more = more; digits = digits; spelled = refl; marked = m; four = l; hexadecimal = h; value = v }))

none_after : (even : Bool) (text : List ℕ) → begins_escape even text ≡ true → HasNoEscape (backslash ∷ text) → marked_after text ≡ unspelled
none_after even [] begun none = refl
none_after even (u ∷ text) begun none =
    let is_u : u ≡ letter_u = eqb-true u letter_u (and_parts even _ begun).1 in
    none_marked text (marked 2 text) (marked_are 2 text) (subst (λ x. HasNoEscape (backslash ∷ x ∷ text)) is_u none)

read_bad : (n : ℕ) (text : List ℕ) (units : List Input) (even : Bool) (rest : List ℕ) → IsWalked n true text units even (backslash ∷ rest) → begins_escape even rest ≡ true → HasNoEscape (backslash ∷ rest) → read_units n true text ≡ bad_at (width_of units)
read_bad n text units even rest (m, l, e) begun none =
    e ∙ (ap (with_units units) (bad_left m even rest (omega arith) begun (none_after even rest begun none)) ∙ with_bad units)

-- what stands in the relations is what is read

pub HasInputs-read : {text : List ℕ} {inputs : List Input} → HasInputs text inputs → (units : List Input) × (read_text text ≡ whole units) × (inputs ≡ map replaced (paired units))
HasInputs-read {text} h = (h.units, read_whole (suc (length (chars text))) (chars text) h.units h.end (walked h.unescaped (suc (length (chars text))) (omega arith)), h.joined)

pub HasBadEscape-read : {text : List ℕ} {at : ℕ} → HasBadEscape text at → read_text text ≡ bad_at at
HasBadEscape-read {text} h =
    read_bad (suc (length (chars text))) (chars text) h.units h.even h.rest (walked h.unescaped (suc (length (chars text))) (omega arith)) h.begun h.bad ∙ ap bad_at (sym h.place)

same_inputs : (text : List ℕ) (a b : List Input) → (units : List Input) × (read_text text ≡ whole units) × (a ≡ map replaced (paired units)) → (units : List Input) × (read_text text ≡ whole units) × (b ≡ map replaced (paired units)) → a ≡ b
same_inputs text a b (u, r, j) (v, s, k) = let e : u ≡ v = cc in j ∙ (ap (λ x. map replaced (paired x)) e ∙ sym k)

pub HasInputs-unique : {text : List ℕ} {a b : List Input} → HasInputs text a → HasInputs text b → a ≡ b
HasInputs-unique {text} {a} {b} h k = same_inputs text a b (HasInputs-read h) (HasInputs-read k)

pub HasBadEscape-unique : {text : List ℕ} {m n : ℕ} → HasBadEscape text m → HasBadEscape text n → m ≡ n
HasBadEscape-unique h k = let a = HasBadEscape-read h in let b = HasBadEscape-read k in cc

pub HasInputs-HasBadEscape : {text : List ℕ} {inputs : List Input} {at : ℕ} → HasInputs text inputs → HasBadEscape text at → ⊥
HasInputs-HasBadEscape h k = let a = (HasInputs-read h).1 in let b = HasBadEscape-read k in cc

-- each text has its characters or a bad escape

pub has_read : (text : List ℕ) (read : Read) → Meets true (chars text) read → ((inputs : List Input) × HasInputs text inputs) ⊎ ((at : ℕ) × HasBadEscape text at)
has_read text (whole units) (end, walk) = inl (map replaced (paired units), record { units = units; end = end; unescaped = walk; joined = refl })
has_read text (bad_at at) (units, even, rest, walk, begun, bad, place) = inr (at, record { units = units; even = even; rest = rest; unescaped = walk; begun = begun; bad = bad; place = place })

pub has_inputs_or_bad_escape : (text : List ℕ) → ((inputs : List Input) × HasInputs text inputs) ⊎ ((at : ℕ) × HasBadEscape text at)
has_inputs_or_bad_escape text = has_read text (read_text text) (meets (suc (length (chars text))) true (chars text) (omega arith))
