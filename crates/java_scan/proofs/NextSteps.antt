-- Each step is the next element, or the fault.
use Rattle.std.proofs.Common.{◌≡◌, ℕ, zero, suc, ◌+◌, true, false, cond, ◌==◌, List, [], ◌∷◌, take, drop, map, Some, None, refl, sym, ap, ◌∙◌, inl, inr, arith, nat_lt, eqb-true}
use Rattle.std.proofs.lemmas.Bool.{cases_Bool, cond_both}
use Rattle.java_tree.specs.declared.outline.Level.{Level}
use Rattle.java_tree.specs.declared.token.TokenKind.TheVariants.{Symbol}
use Rattle.java_model.specs.Lexical.Characters.{double_quote, single_quote, slash, star, full_stop, is_white, is_letter, is_digit}
use Rattle.java_model.specs.Lexical.Escapes.{raw, characters_of}
use Rattle.java_model.specs.Lexical.Symbols.{symbols}
use Rattle.java_model.specs.Lexical.Words.{is_reserved}
use Rattle.java_model.specs.Lexical.Elements.{begins_comment}
use Rattle.java_model.specs.Lexical.Faults.LexicalFault.{bad_char, unclosed}
use Rattle.java_model.proofs.Lexical.Reading.{Found, run, begins, word, word_kind, symbol, symbol_of, slashed, comment_of, tail_length, longest_listed, Family, family_of, next_in, next_of}
use Rattle.java_model.proofs.Lexical.Faulting.{fault_of}
use Rattle.java_scan.specs.declared.class.Class.TheVariants.{NoLineEnd, Slash, Star, Assign}
use Rattle.java_scan.specs.Classes.{passes}
use Rattle.java_scan.specs.Place.{Place, first, advance, after_run}
use Rattle.java_scan.specs.Steps.{after_if, word_step, word_length, comment_step, after_star_step, after_slash_step, slashed_step, tail_end, has_symbol, after_symbol, symbol_step, family_step}
use Rattle.java_scan.specs.Steps.Step.{passed, taken, failed}
use Rattle.java_scan.specs.Next.{step_of}
use Rattle.java_scan.proofs.PlaceLaws.{first_split, advance-zero, advance-one, advance-advance, advance-left}
use Rattle.java_scan.proofs.NumberLaws.{after_if-true, after_if-false, after_if-advance, suc_some}
use Rattle.java_scan.proofs.NumberSteps.{IsAfter, more, one_more, number_is, point_is}
use Rattle.java_scan.proofs.QuotedSteps.{string_is, character_is}
use Rattle.java_scan.proofs.SymbolLaws.{assign_length, assigning}

-- words

word_is : (level : Level) (p : Place) (c : ℕ) (cs : List ℕ) → p.left ≡ c ∷ cs → word_step level p ≡ step_of p (word level c cs)
unfolding word_step passes
word_is level p c cs e = ap (λ xs. taken (word_kind (is_reserved level (take (word_length xs) xs))) (advance (word_length xs) p)) e

-- comments and `/`

comment_fault : (at : ℕ) (cs : List ℕ) → fault_of at (map raw (slash ∷ star ∷ cs)) ≡ unclosed at
comment_fault at cs = refl

tail_step : (p q : Place) (cs : List ℕ) (n : ℕ) → p.left ≡ slash ∷ star ∷ cs → q ≡ advance 2 p → comment_step p.at (cond (nat_lt 0 n) (Some (advance n q)) None) ≡ step_of p (comment_of n)
tail_step p q cs zero e is = ap failed (sym (ap (λ xs. fault_of p.at (map raw xs)) e ∙ comment_fault p.at cs))
tail_step p q cs (suc n) e is =
    let sum : 2 + suc n ≡ suc (suc (suc n)) = omega arith in
    rw (suc_some n) (ap passed (ap (advance (suc n)) is ∙ (advance-advance 2 (suc n) p ∙ ap (λ k. advance k p) sum)))

comment_is : (p q : Place) (cs : List ℕ) → p.left ≡ slash ∷ star ∷ cs → IsAfter p 2 q cs → comment_step p.at (tail_end false q) ≡ step_of p (comment_of (tail_length false cs))
unfolding tail_end
comment_is p q cs e is = ap (λ xs. comment_step p.at (cond (nat_lt 0 (tail_length false xs)) (Some (advance (tail_length false xs) q)) None)) is.1 ∙ tail_step p q cs (tail_length false cs) e is.0

slashed_star : (cs : List ℕ) → slashed (star ∷ cs) ≡ comment_of (tail_length false cs)
unfolding slashed
slashed_star cs = refl

slashed_slash : (cs : List ℕ) → slashed (slash ∷ cs) ≡ Found.found Rattle.java_model.specs.Lexical.Elements.Element.end_of_line_comment (suc (suc (run (passes NoLineEnd) cs)))
unfolding slashed passes
slashed_slash cs = refl

slashed_other : (cs : List ℕ) → begins (λ c. c == slash) cs ≡ false → begins (λ c. c == star) cs ≡ false → slashed cs ≡ Found.found (Rattle.java_model.specs.Lexical.Elements.Element.token Symbol) (suc (assign_length cs))
unfolding slashed
slashed_other [] h k = refl
slashed_other (c ∷ cs) h k = rw (h, slashed) (rw (k, slashed) (ap symbol_of (assigning slash refl (c ∷ cs))))

line : (p q : Place) (cs : List ℕ) → begins (passes Slash) cs ≡ true → p.left ≡ slash ∷ cs → IsAfter p 1 q cs → passed (after_run (passes NoLineEnd) (after_if (passes Slash) q)) ≡ step_of p (slashed cs)
unfolding passes
line p q [] h e is = cc
line p q (c ∷ cs) h e is =
    let s : c ≡ slash = eqb-true c slash h in
    let two : after_if (passes Slash) q ≡ advance 1 q = after_if-true (passes Slash) q (ap (begins (passes Slash)) is.1 ∙ h) in
    let m : IsAfter p 2 (advance 1 q) cs = one_more p 1 q (c ∷ cs) is in
    let sum : 2 + run (passes NoLineEnd) cs ≡ suc (suc (run (passes NoLineEnd) cs)) = omega arith in
    let end = more p 2 (run (passes NoLineEnd) cs) (advance 1 q) cs m in
    ap passed (ap (after_run (passes NoLineEnd)) two ∙ (ap (λ xs. advance (run (passes NoLineEnd) xs) (advance 1 q)) m.1 ∙ (end.0 ∙ ap (λ k. advance k p) sum)))
    ∙ (sym (ap (step_of p) (slashed_slash cs)) ∙ ap (λ x. step_of p (slashed (x ∷ cs))) (sym s))

starred : (p q : Place) (cs : List ℕ) → begins (passes Star) cs ≡ true → p.left ≡ slash ∷ cs → IsAfter p 1 q cs → comment_step p.at (tail_end false (after_if (passes Star) q)) ≡ step_of p (slashed cs)
unfolding passes
starred p q [] h e is = cc
starred p q (c ∷ cs) h e is =
    let s : c ≡ star = eqb-true c star h in
    let two : after_if (passes Star) q ≡ advance 1 q = after_if-true (passes Star) q (ap (begins (passes Star)) is.1 ∙ h) in
    let m : IsAfter p 2 (advance 1 q) cs = one_more p 1 q (c ∷ cs) is in
    ap (λ r. comment_step p.at (tail_end false r)) two
    ∙ (comment_is p (advance 1 q) cs (e ∙ ap (λ x. slash ∷ x ∷ cs) s) m
    ∙ (sym (ap (step_of p) (slashed_star cs)) ∙ ap (λ x. step_of p (slashed (x ∷ cs))) (sym s)))

operator : (p q : Place) (cs : List ℕ) → IsAfter p 1 q cs → begins (passes Slash) cs ≡ false → begins (passes Star) cs ≡ false → taken Symbol (after_if (passes Assign) (after_if (passes Star) q)) ≡ step_of p (slashed cs)
unfolding passes
operator p q cs is h k =
    let same : after_if (passes Star) q ≡ q = after_if-false (passes Star) q (ap (begins (passes Star)) is.1 ∙ k) in
    let m = more p 1 (assign_length cs) q cs is in
    let sum : 1 + assign_length cs ≡ suc (assign_length cs) = omega arith in
    ap (taken Symbol) (ap (after_if (passes Assign)) same ∙ (after_if-advance (passes Assign) q ∙ (ap (λ xs. advance (assign_length xs) q) is.1 ∙ (m.0 ∙ ap (λ j. advance j p) sum))))
    ∙ sym (ap (step_of p) (slashed_other cs h k))

star_or_not : (p q : Place) (cs : List ℕ) → p.left ≡ slash ∷ cs → IsAfter p 1 q cs → begins (passes Slash) cs ≡ false → after_star_step p.at q (after_if (passes Star) q) ≡ step_of p (slashed cs)
star_or_not p q cs e is h = elim (cases_Bool (begins (passes Star) cs)) [
  | inl k ↦ let b : begins (passes Star) q.left ≡ true = ap (begins (passes Star)) is.1 ∙ k in rw b (starred p q cs k e is)
  | inr k ↦ let b : begins (passes Star) q.left ≡ false = ap (begins (passes Star)) is.1 ∙ k in rw b (operator p q cs is h k)
]

-- after the first slash
after_slash_is : (p q : Place) (cs : List ℕ) → p.left ≡ slash ∷ cs → IsAfter p 1 q cs → after_slash_step p.at q ≡ step_of p (slashed cs)
unfolding after_slash_step
after_slash_is p q cs e is = elim (cases_Bool (begins (passes Slash) cs)) [
  | inl h ↦ let b : begins (passes Slash) q.left ≡ true = ap (begins (passes Slash)) is.1 ∙ h in rw b (line p q cs h e is)
  | inr h ↦
      let b : begins (passes Slash) q.left ≡ false = ap (begins (passes Slash)) is.1 ∙ h in
      let same : after_if (passes Slash) q ≡ q = after_if-false (passes Slash) q b in
      rw b (ap (λ r. after_star_step p.at r (after_if (passes Star) r)) same ∙ star_or_not p q cs e is h)
]

slashed_is : (p : Place) (cs : List ℕ) → p.left ≡ slash ∷ cs → slashed_step p ≡ step_of p (slashed cs)
unfolding slashed_step passes
slashed_is p cs e =
    let one : after_if (passes Slash) p ≡ advance 1 p = after_if-true (passes Slash) p (ap (begins (passes Slash)) e) in
    let is : IsAfter p 1 (advance 1 p) cs = (refl, advance-left 1 p ∙ ap (drop 1) e) in
    ap (after_slash_step p.at) one ∙ after_slash_is p (advance 1 p) cs e is

-- symbols

no_comment : (c : ℕ) (cs : List ℕ) → c == slash ≡ false → begins_comment (c ∷ cs) ≡ false
no_comment c [] h = refl
no_comment c (d ∷ cs) h = rw h refl

stray_fault : (at c : ℕ) (cs : List ℕ) → c == slash ≡ false → c == double_quote ≡ false → c == single_quote ≡ false → fault_of at (map raw (c ∷ cs)) ≡ bad_char at
stray_fault at c cs s d q = rw (no_comment c (characters_of (map raw cs)) s, d, q) refl

symbol_by : (p : Place) (n : ℕ) → fault_of p.at (map raw p.left) ≡ bad_char p.at → cond (nat_lt 0 n) (taken Symbol (advance n p)) (failed (bad_char (advance n p).at)) ≡ step_of p (symbol_of n)
symbol_by p zero f = ap (λ q. failed (bad_char q.at)) (advance-zero p) ∙ ap failed (sym f)
symbol_by p (suc n) f = rw (suc_some n) refl

symbol_is : (p : Place) (c : ℕ) (cs : List ℕ) → p.left ≡ c ∷ cs → c == slash ≡ false → c == double_quote ≡ false → c == single_quote ≡ false → symbol_step p ≡ step_of p (symbol (c ∷ cs))
unfolding symbol_step has_symbol after_symbol
symbol_is p c cs e s d q =
    let f : fault_of p.at (map raw p.left) ≡ bad_char p.at = ap (λ xs. fault_of p.at (map raw xs)) e ∙ stray_fault p.at c cs s d q in
    symbol_by p (longest_listed symbols p.left) f ∙ ap (λ xs. step_of p (symbol_of (longest_listed symbols xs))) e

-- the step by the first character

to_first : (p : Place) (c d : ℕ) (cs : List ℕ) → p.left ≡ c ∷ cs → c == d ≡ true → p.left ≡ d ∷ cs
to_first p c d cs e h = e ∙ ap (λ x. x ∷ cs) (eqb-true c d h)

family_is : (level : Level) (p : Place) (c : ℕ) (cs : List ℕ) → p.left ≡ c ∷ cs → family_step level (family_of c) p ≡ step_of p (next_in level (family_of c) c cs)
unfolding family_of family_step passes
family_is level p c cs e =
    let P : Family → Type 0 = λ f. family_step level f p ≡ step_of p (next_in level f c cs) in
    cond_both (is_white c) _ _ P (λ _. ap passed (sym (advance-one p))) (λ _.
    cond_both (is_letter c) _ _ P (λ _. word_is level p c cs e) (λ _.
    cond_both (is_digit c) _ _ P (λ h. number_is p c cs e h) (λ _.
    cond_both (c == full_stop) _ _ P (λ h. point_is p c cs e h) (λ _.
    cond_both (c == double_quote) _ _ P (λ h. string_is p cs (to_first p c double_quote cs e h)) (λ d.
    cond_both (c == single_quote) _ _ P (λ h. character_is p cs (to_first p c single_quote cs e h)) (λ q.
    cond_both (c == slash) _ _ P (λ h. slashed_is p cs (to_first p c slash cs e h)) (λ s. symbol_is p c cs e s d q)))))))

pub step_is : (level : Level) (p : Place) (c : ℕ) → first p.left ≡ Some c → family_step level (family_of c) p ≡ step_of p (next_of level p.left)
step_is level p c e =
    let s = first_split p.left c e in
    family_is level p c (drop 1 p.left) s ∙ ap (λ xs. step_of p (next_of level xs)) (sym s)
