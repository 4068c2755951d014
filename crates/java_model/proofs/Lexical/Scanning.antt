-- Reading all elements: a function on lists that is sound and complete for `AreElements`.
use Rattle.std.proofs.Common.{◌≡◌, ℕ, zero, suc, ◌+◌, ◌<◌, List, [], length, take, drop, refl, ap, ap₂, ◌∙◌, arith, length-append}
use Rattle.std.proofs.lemmas.List.{take_at, drop_at}
use Rattle.java_tree.specs.declared.outline.Level.{Level}
use Rattle.java_tree.specs.declared.token.Token.{Token}
use Rattle.java_model.specs.Lexical.Escapes.{Input, characters_of, width_of}
use Rattle.java_model.specs.Lexical.Elements.{Element, IsNext}
use Rattle.java_model.specs.Lexical.Tokens.{with_element, AreElements}
use Rattle.java_model.specs.Lexical.Tokens.AreElements.{none, next}
use Rattle.java_model.proofs.Lexical.Reading.{Found, next_of}
use Rattle.java_model.proofs.Lexical.Reading.Found.{found, nothing}
use Rattle.java_model.proofs.Lexical.NextLaws.{NextPart, next_part, IsNext-read, front_some}

-- the tokens, the byte at which no element is left, and what is left there
pub data Scanned : Type 0 where
  scanned : List Token → ℕ → List Input → Scanned

abbrev pub add : Element → ℕ → List Input → Scanned → Scanned
add element at front (scanned tokens end rest) = scanned (with_element element at front tokens) end rest

-- n is more than how many inputs there are
unfoldable pub read_elements : ℕ → Level → ℕ → List Input → Scanned
read_elements zero level at inputs = scanned [] at inputs
read_elements (suc n) level at inputs = elim (next_of level (characters_of inputs)) [
  | nothing ↦ scanned [] at inputs
  | found element k ↦ add element at (take k inputs) (read_elements n level (at + width_of (take k inputs)) (drop k inputs))
]

-- no element is next
abbrev pub IsOver : Level → List Input → Type 0
IsOver level rest = next_of level (characters_of rest) ≡ nothing

over_read : (n : ℕ) (level : Level) (at : ℕ) (rest : List Input) → IsOver level rest → read_elements n level at rest ≡ scanned [] at rest
unfolding read_elements
over_read zero level at rest h = refl
over_read (suc n) level at rest h = rw (h, read_elements) refl

step_read : (n : ℕ) (level : Level) (at : ℕ) (inputs : List Input) (e : Element) (k : ℕ) → next_of level (characters_of inputs) ≡ found e k → read_elements (suc n) level at inputs ≡ add e at (take k inputs) (read_elements n level (at + width_of (take k inputs)) (drop k inputs))
unfolding read_elements
step_read n level at inputs e k h = rw (h, read_elements) refl

next_read : (n : ℕ) (level : Level) (at : ℕ) (inputs : List Input) (e : Element) (front after : List Input) → IsNext level inputs e front after → read_elements (suc n) level at inputs ≡ add e at front (read_elements n level (at + width_of front) after)
next_read n level at inputs e front after is =
    let t : take (length front) inputs ≡ front = ap (take (length front)) is.parted ∙ take_at front after (length front) refl in
    let d : drop (length front) inputs ≡ after = ap (drop (length front)) is.parted ∙ drop_at front after (length front) refl in
    step_read n level at inputs e (length front) (IsNext-read level inputs e front after is)
    ∙ ap₂ (λ x y. add e at x (read_elements n level (at + width_of x) y)) t d

shorter : (level : Level) (inputs : List Input) (e : Element) (front after : List Input) → IsNext level inputs e front after → length after < length inputs
shorter level inputs e front after is = omega (arith, ap length is.parted, length-append front after, front_some level inputs e front after is)

-- the elements of the relation are read
pub elements_read : {level : Level} {at : ℕ} {inputs : List Input} {tokens : List Token} {end : ℕ} {rest : List Input} → AreElements level at inputs tokens end rest → IsOver level rest → (n : ℕ) → length inputs < n → read_elements n level at inputs ≡ scanned tokens end rest
elements_read {level} (none {at = at} {inputs = inputs}) over n h = over_read n level at inputs over
elements_read {level} (next element front after is walk) over zero h = absurd (omega arith)
elements_read {level} (next {at = at} {inputs = inputs} element front after is walk) over (suc n) h =
    let l : length after < length inputs = shorter level inputs element front after is in
    next_read n level at inputs element front after is ∙ ap (add element at front) (elements_read walk over n (omega arith))

-- and what is read are the elements of the relation

abbrev pub Covers : Level → ℕ → List Input → Scanned → Type 0
Covers level at inputs (scanned tokens end rest) = AreElements level at inputs tokens end rest × IsOver level rest

covers_more : (level : Level) (at : ℕ) (inputs : List Input) (e : Element) (front after : List Input) (s : Scanned) → IsNext level inputs e front after → Covers level (at + width_of front) after s → Covers level at inputs (add e at front s)
covers_more level at inputs e front after (scanned tokens end rest) is (walk, over) = (next e front after is walk, over)

covers_next : (n : ℕ) (level : Level) (at : ℕ) (inputs : List Input) (e : Element) (k : ℕ) → NextPart level inputs e k → ((at : ℕ) (after : List Input) → length after < n → Covers level at after (read_elements n level at after)) → length inputs < suc n → Covers level at inputs (read_elements (suc n) level at inputs)
covers_next n level at inputs e k p rest h =
    let l : length p.after < length inputs = shorter level inputs e p.front p.after p.is in
    rw (next_read n level at inputs e p.front p.after p.is) (covers_more level at inputs e p.front p.after (read_elements n level (at + width_of p.front) p.after) p.is (rest (at + width_of p.front) p.after (omega arith)))

covers_found : (n : ℕ) (level : Level) (at : ℕ) (inputs : List Input) (f : Found) → next_of level (characters_of inputs) ≡ f → ((at : ℕ) (after : List Input) → length after < n → Covers level at after (read_elements n level at after)) → length inputs < suc n → Covers level at inputs (read_elements (suc n) level at inputs)
covers_found n level at inputs nothing e rest h = rw (over_read (suc n) level at inputs e) (none, e)
covers_found n level at inputs (found element k) e rest h = covers_next n level at inputs element k (next_part level inputs element k e) rest h

pub covers : (n : ℕ) (level : Level) (at : ℕ) (inputs : List Input) → length inputs < n → Covers level at inputs (read_elements n level at inputs)
covers zero level at inputs h = absurd (omega arith)
covers (suc n) level at inputs h = covers_found n level at inputs (next_of level (characters_of inputs)) refl (covers n level) h
