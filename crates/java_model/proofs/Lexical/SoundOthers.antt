-- What is read at a letter, a slash or a sign is an element, and the next element as a whole.
use Rattle.std.proofs.Common.{◌≡◌, ◌≢◌, ℕ, zero, suc, ◌⊎◌, Bool, true, false, cond, not, ◌&&◌, ◌==◌, List, [], ◌∷◌, ◌++◌, length, take, refl, sym, ap, ◌∙◌, subst, inl, inr, arith, eqb-true}
use Rattle.std.specs.List.{list_all}
use Rattle.std.proofs.lemmas.Bool.{and_parts, and_from, eqb-false}
use Rattle.std.proofs.lemmas.Bool.Decides.{nat_tests}
use Rattle.std.proofs.lemmas.List.{take_at}
use Rattle.java_tree.specs.declared.outline.Level.{Level}
use Rattle.java_model.specs.Lexical.Characters.{slash, star, is_letter, is_letter_or_digit, is_line_end}
use Rattle.java_model.specs.Lexical.Words.{is_word, is_reserved}
use Rattle.java_model.specs.Lexical.Comments.{IsCommentTail}
use Rattle.java_model.specs.Lexical.Comments.IsCommentTail.{closes, starred, goes_on, goes_on_starred}
use Rattle.java_model.specs.Lexical.Symbols.{symbols, separators, operators, IsSymbol}
use Rattle.java_model.specs.Lexical.Elements.{IsElement}
use Rattle.java_model.specs.Lexical.Elements.Element.{end_of_line_comment, token}
use Rattle.java_model.proofs.Lexical.Reading.{run, word, word_kind, tail_length, longest_listed, symbol, symbol_of, comment_of, slashed}
use Rattle.java_model.proofs.Lexical.Reading.Found.{found}
use Rattle.java_model.proofs.Lexical.Runs.{Parted, parted}
use Rattle.java_model.proofs.Lexical.Listed.{IsListedFront, longest-listed}
use Rattle.java_model.proofs.Lexical.Sound.{Front, Sound}

-- words

pub word_element : (level : Level) (s : List ℕ) → is_word s ≡ true → IsElement level (token (word_kind (is_reserved level s))) s
word_element level s h = elim (is_reserved level s) as (λ b. is_reserved level s ≡ b → IsElement level (token (word_kind b)) s) [
  | true ↦ λ e. e
  | false ↦ λ e. record { word = h; free = e }
] refl

word_from : (level : Level) (c : ℕ) (cs : List ℕ) (p : Parted is_letter_or_digit cs) → is_letter c ≡ true → Front level (c ∷ cs) (token (word_kind (is_reserved level (c ∷ p.front)))) (suc (length p.front))
word_from level c cs p h = record {
  front = c ∷ p.front;
  rest = p.rest;
  parted = ap (λ x. c ∷ x) p.whole;
  here = word_element level (c ∷ p.front) (and_from (is_letter c) (list_all is_letter_or_digit p.front) h p.all);
  counted = refl;
}

pub word_sound : (level : Level) (c : ℕ) (cs : List ℕ) → is_letter c ≡ true → Sound level (c ∷ cs) (word level c cs)
word_sound level c cs h =
    let p = parted is_letter_or_digit cs in
    let t : take (run is_letter_or_digit cs) cs ≡ p.front = ap (λ k. take k cs) p.counted ∙ (ap (take (length p.front)) p.whole ∙ take_at p.front p.rest (length p.front) refl) in
    subst (λ w. Front level (c ∷ cs) (token (word_kind (is_reserved level (c ∷ w)))) (suc (run is_letter_or_digit cs))) (sym t)
    (subst (λ n. Front level (c ∷ cs) (token (word_kind (is_reserved level (c ∷ p.front)))) (suc n)) (sym p.counted) (word_from level c cs p h))

-- symbols

symbol_from : (level : Level) (cs : List ℕ) (n : ℕ) → (n ≡ 0) ⊎ IsListedFront symbols cs n → Sound level cs (symbol_of n)
symbol_from level cs zero h = tt
symbol_from level cs (suc n) (inl e) = absurd (omega arith)
symbol_from level cs (suc n) (inr (p, rest, e, h, l)) = record { front = p; rest = rest; parted = e; here = h; counted = l }

pub symbol_sound : (level : Level) (cs : List ℕ) → Sound level cs (symbol cs)
symbol_sound level cs = symbol_from level cs (longest_listed symbols cs) (longest-listed symbols cs)

pub slash_symbol : IsSymbol (slash ∷ [])
unfolding symbols separators operators
slash_symbol = refl

pub point_symbol : IsSymbol (46 ∷ [])
unfolding symbols separators operators
point_symbol = refl

-- comments

pub record TailPart (after_star : Bool) (cs : List ℕ) (n : ℕ) : Type 0 where
  pub front : List ℕ
  pub rest : List ℕ
  pub same : cs ≡ front ++ rest
  pub valid : IsCommentTail after_star front
  pub counted : length front ≡ n

abbrev pub IsTail : Bool → List ℕ → ℕ → Type 0
IsTail after_star cs zero = Unit {0}
IsTail after_star cs (suc n) = TailPart after_star cs (suc n)

tail_valid : (b : Bool) (c : ℕ) (front : List ℕ) → (b && c == slash) ≡ false → IsCommentTail (c == star) front → IsCommentTail b (c ∷ front)
tail_valid b c front open_tail h = elim (c == star) as (λ s. c == star ≡ s → IsCommentTail s front → IsCommentTail b (c ∷ front)) [
  | true ↦ λ e t. subst (λ x. IsCommentTail b (x ∷ front)) (sym (eqb-true c star e)) (starred t)
  | false ↦ λ e t. other b open_tail (eqb-false c star e) t
] refl h
  where
    other : (b : Bool) → (b && c == slash) ≡ false → c ≢ star → IsCommentTail false front → IsCommentTail b (c ∷ front)
    other true f apart t = goes_on_starred apart (eqb-false c slash f) t
    other false f apart t = goes_on apart t

not_nought : (n : ℕ) → suc n == 0 ≡ false
not_nought n = grind (arith, nat_tests)

tail_added : (b : Bool) (c : ℕ) (cs : List ℕ) (n : ℕ) → (b && c == slash) ≡ false → TailPart (c == star) cs (suc n) → TailPart b (c ∷ cs) (suc (suc n))
tail_added b c cs n f h = record {
  front = c ∷ h.front;
  rest = h.rest;
  same = ap (λ x. c ∷ x) h.same;
  valid = tail_valid b c h.front f h.valid;
  counted = ap suc h.counted;
}

tail_more : (b : Bool) (c : ℕ) (cs : List ℕ) (n : ℕ) → (b && c == slash) ≡ false → IsTail (c == star) cs n → IsTail b (c ∷ cs) (cond (n == 0) 0 (suc n))
tail_more b c cs zero f h = tt
tail_more b c cs (suc n) f h = rw (not_nought n) (tail_added b c cs n f h)

tail_closed : (b : Bool) (c : ℕ) (cs : List ℕ) → (b && c == slash) ≡ true → TailPart b (c ∷ cs) 1
tail_closed b c cs h =
    let parts = and_parts b (c == slash) h in
    let t : TailPart true (slash ∷ cs) 1 = record { front = slash ∷ []; rest = cs; same = refl; valid = closes; counted = refl } in
    subst (λ x. TailPart x (c ∷ cs) 1) (sym parts.0) (subst (λ x. TailPart true (x ∷ cs) 1) (sym (eqb-true c slash parts.1)) t)

pub tail_part : (b : Bool) (cs : List ℕ) → IsTail b cs (tail_length b cs)
unfolding tail_length
tail_part b [] = tt
tail_part b (c ∷ cs) = elim (b && c == slash) as (λ x. (b && c == slash) ≡ x → IsTail b (c ∷ cs) (elim x [ true ↦ 1 | false ↦ let n = tail_length (c == star) cs in cond (n == 0) 0 (suc n) ])) [
  | true ↦ λ e. tail_closed b c cs e
  | false ↦ λ e. tail_more b c cs (tail_length (c == star) cs) e (tail_part (c == star) cs)
] refl

comment_from : (level : Level) (cs : List ℕ) (n : ℕ) → IsTail false cs n → Sound level (slash ∷ star ∷ cs) (comment_of n)
comment_from level cs zero h = tt
comment_from level cs (suc n) h = record {
  front = slash ∷ star ∷ h.front;
  rest = h.rest;
  parted = ap (λ x. slash ∷ star ∷ x) h.same;
  here = (h.front, refl, h.valid);
  counted = ap (λ x. suc (suc x)) h.counted;
}

line_from : (level : Level) (cs : List ℕ) (p : Parted (λ x. not (is_line_end x)) cs) → Front level (slash ∷ slash ∷ cs) end_of_line_comment (suc (suc (length p.front)))
line_from level cs p = record {
  front = slash ∷ slash ∷ p.front;
  rest = p.rest;
  parted = ap (λ x. slash ∷ slash ∷ x) p.whole;
  here = (p.front, refl, p.all);
  counted = refl;
}

line_sound : (level : Level) (cs : List ℕ) → Front level (slash ∷ slash ∷ cs) end_of_line_comment (suc (suc (run (λ x. not (is_line_end x)) cs)))
line_sound level cs =
    let p = parted (λ x. not (is_line_end x)) cs in
    subst (λ n. Front level (slash ∷ slash ∷ cs) end_of_line_comment (suc (suc n))) (sym p.counted) (line_from level cs p)

pub slashed_sound : (level : Level) (cs : List ℕ) → Sound level (slash ∷ cs) (slashed cs)
unfolding slashed
slashed_sound level [] = record { front = slash ∷ []; rest = []; parted = refl; here = slash_symbol; counted = refl }
slashed_sound level (c ∷ cs) = elim (c == slash) as (λ x. c == slash ≡ x → Sound level (slash ∷ c ∷ cs) (elim x [ true ↦ found end_of_line_comment (suc (suc (run (λ x. not (is_line_end x)) cs))) | false ↦ elim (c == star) [ true ↦ comment_of (tail_length false cs) | false ↦ symbol (slash ∷ c ∷ cs) ] ])) [
  | true ↦ λ e. subst (λ x. Sound level (slash ∷ x ∷ cs) (found end_of_line_comment (suc (suc (run (λ x. not (is_line_end x)) cs))))) (sym (eqb-true c slash e)) (line_sound level cs)
  | false ↦ λ f. elim (c == star) as (λ x. c == star ≡ x → Sound level (slash ∷ c ∷ cs) (elim x [ true ↦ comment_of (tail_length false cs) | false ↦ symbol (slash ∷ c ∷ cs) ])) [
    | true ↦ λ e. subst (λ x. Sound level (slash ∷ x ∷ cs) (comment_of (tail_length false cs))) (sym (eqb-true c star e)) (comment_from level cs (tail_length false cs) (tail_part false cs))
    | false ↦ λ g. symbol_sound level (slash ∷ c ∷ cs)
  ] refl
] refl
