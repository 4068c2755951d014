-- The marks of words by their first byte.
use Rattle.std.proofs.Common.{◌≡◌, ℕ, zero, suc, ◌+◌, ◌-◌, ◌==◌, not, arith, Bool, true, false, cond, List, [], ◌∷◌, map, length, take, drop, slice_index, slice_range, Option, Some, None, refl, sym, ap, subst, ◌∙◌, eqb-true, true≢false, drop-drop}
use Rattle.std.specs.List.{list_any}
use Rattle.std.specs.Str.{bytes_eq}
use Rattle.std.proofs.lemmas.Bool.{or_parts, false_from_ne_true}
use Rattle.std.proofs.lemmas.Bool.Decides.{nat_tests}
use Rattle.std.proofs.lemmas.List.{take-map, drop-map}
use Rattle.std.proofs.lemmas.Slice.Eq.{bytes_eq-Decides}
use Rattle.java_tree.specs.declared.mark.Mark.{Mark}
use Rattle.java_tree.specs.declared.words.TheConstants.{KEYWORDS, KEYWORD_MARKS, SEPARATORS, SEPARATOR_MARKS, OPERATORS, OPERATOR_MARKS}
use Rattle.java_model.specs.Grammar.Marks.{spelled, mark_of, symbols}
use Rattle.java_expr_reading.specs.Initials.{has_initial, InitialsBetween}
use Rattle.java_expr_reading.proofs.SignLaws.{spelled-none, second_symbol}

-- a word differs from one that passes a test which it fails
apart : (test : List ℕ → Bool) (word name : List ℕ) → test word ≡ false → test name ≡ true → bytes_eq word name ≡ false
apart test word name f t =
    false_from_ne_true (bytes_eq word name) (λ e. true≢false (sym t ∙ (ap test (sym ((bytes_eq-Decides word name).0 e)) ∙ f)))

-- where no word passes a test, one that passes it has no mark
pub no_mark : (test : List ℕ → Bool) (ms : List Mark) (ws : List (List ℕ)) (name : List ℕ) → list_any test ws ≡ false → test name ≡ true
    → mark_of (spelled ms ws) name ≡ None
no_mark test [] ws name none t = refl
no_mark test (m ∷ ms) [] name none t = refl
no_mark test (m ∷ ms) (w ∷ ws) name none t =
    let parts : (test w ≡ false) × (list_any test ws ≡ false) = or_parts _ _ none in
    rw (apart test w name parts.0 t) (no_mark test ms ws name parts.1 t)

-- the words up to a place count for nothing, where none of them passes the test
from_place : (test : List ℕ → Bool) (start : ℕ) (ms : List Mark) (ws : List (List ℕ)) (name : List ℕ)
    → list_any test (take start ws) ≡ false → test name ≡ true → mark_of (spelled (drop start ms) (drop start ws)) name ≡ mark_of (spelled ms ws) name
from_place test zero ms ws name none t = refl
from_place test (suc n) [] ws name none t = refl
from_place test (suc n) (m ∷ ms) [] name none t = rw (spelled-none (drop n ms)) refl
from_place test (suc n) (m ∷ ms) (w ∷ ws) name none t =
    let parts : (test w ≡ false) × (list_any test (take n ws) ≡ false) = or_parts _ _ none in
    rw (apart test w name parts.0 t) (from_place test n ms ws name parts.1 t)

-- and so do those from a place on
up_to_place : (test : List ℕ → Bool) (count : ℕ) (ms : List Mark) (ws : List (List ℕ)) (name : List ℕ)
    → list_any test (drop count ws) ≡ false → test name ≡ true → mark_of (spelled (take count ms) (take count ws)) name ≡ mark_of (spelled ms ws) name
up_to_place test zero ms ws name none t = sym (no_mark test ms ws name none t)
up_to_place test (suc n) [] ws name none t = refl
up_to_place test (suc n) (m ∷ ms) [] name none t = refl
up_to_place test (suc n) (m ∷ ms) (w ∷ ws) name none t =
    ap (λ (o : Option Mark). cond (bytes_eq w name) (Some m) o) (up_to_place test n ms ws name none t)

same_byte : (b : ℕ) → b == b ≡ true
same_byte b = grind (arith, nat_tests)

-- the mark of a word is that among the words with its first byte
pub mark_between : (ms : List Mark) (ws : List (List ℕ)) (start end : ℕ) (name : List ℕ) → InitialsBetween (slice_index name 0) ws start end
    → mark_of (spelled (slice_range ms start end) (slice_range ws start end)) name ≡ mark_of (spelled ms ws) name
mark_between ms ws start end name h =
    let test = has_initial (slice_index name 0) in
    let same : test name ≡ true = same_byte (slice_index name 0) in
    let place : start + (end - start) ≡ end = omega (arith, h.ordered) in
    let after : list_any test (drop (end - start) (drop start ws)) ≡ false =
    ap (list_any test) (drop-drop (end - start) start ws ∙ ap (λ k. drop k ws) place) ∙ h.none_after in
    up_to_place test (end - start) (drop start ms) (drop start ws) name after same ∙ from_place test start ms ws name h.none_before same

abbrev keyword_words : List (List ℕ)
keyword_words = map (λ w. w.now) KEYWORDS

-- the mark of a keyword is that among the keywords of its first letter
pub keyword_between : {A : Type 0} (view : A → List ℕ) (words : List A) (name : List ℕ) (letter start end : ℕ) (o : Option Mark)
    → o ≡ mark_of (spelled (slice_range KEYWORD_MARKS start end) (map view (slice_range words start end))) name → map view words ≡ keyword_words
    → letter ≡ slice_index name 0 → InitialsBetween letter keyword_words start end → o ≡ mark_of (spelled KEYWORD_MARKS keyword_words) name
keyword_between view words name letter start end o among same first h =
    let moved : map view (slice_range words start end) ≡ slice_range keyword_words start end =
    sym (ap (take (end - start)) (drop-map view start words) ∙ take-map view (end - start) (drop start words)) ∙ ap (λ ws. slice_range ws start end) same in
    among
    ∙ ap (λ ws. mark_of (spelled (slice_range KEYWORD_MARKS start end) ws) name) moved
    ∙ mark_between KEYWORD_MARKS keyword_words start end name (subst (λ b. InitialsBetween b keyword_words start end) first h)

-- a symbol of another length than one is no separator
pub longer_symbol : (name : List ℕ) (o : Option Mark) → (length name ≡ 1 → ⊥) → o ≡ mark_of (spelled OPERATOR_MARKS (map (λ w. w.now) OPERATORS)) name
    → o ≡ mark_of symbols name
longer_symbol name o h =
    let is_long : not (length name == 1) ≡ true = ap not (false_from_ne_true (length name == 1) (λ e. h (eqb-true (length name) 1 e))) in
    second_symbol name None o (sym (no_mark (λ w. not (length w == 1)) SEPARATOR_MARKS (map (λ w. w.now) SEPARATORS) name refl is_long)) refl

pub one_byte : (name : List ℕ) → length name ≡ 1 → slice_index name 0 ∷ [] ≡ name
one_byte [] h = absurd (omega arith)
one_byte (b ∷ []) h = refl
one_byte (b ∷ c ∷ name) h = absurd (omega arith)
