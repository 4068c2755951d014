-- The step of a literal is the literal that is read there, or its fault.
use Rattle.std.proofs.Common.{◌≡◌, ℕ, zero, suc, ◌+◌, Bool, true, false, cond, ◌==◌, List, [], ◌∷◌, take, drop, map, refl, sym, ap, ◌∙◌, inl, inr, arith, nat_lt, eqb-true}
use Rattle.std.proofs.lemmas.Bool.{cases_Bool}
use Rattle.std.proofs.lemmas.Bool.Decides.{nat_tests}
use Rattle.java_tree.specs.declared.token.TokenKind.TheVariants.{CharLit, StringLit}
use Rattle.java_model.specs.Lexical.Characters.{backslash, double_quote, single_quote, is_line_end}
use Rattle.java_model.specs.Lexical.Escapes.{raw, width_of, characters_of}
use Rattle.java_model.specs.Lexical.Faults.{LexicalFault, is_line_over}
use Rattle.java_model.specs.Lexical.Faults.LexicalFault.{bad_char, unclosed}
use Rattle.java_model.proofs.Lexical.Reading.{Found, begins, is_bare, inside_length, one_length, string, character}
use Rattle.java_model.proofs.Lexical.Faulting.{fault_of, string_fault, literal_fault}
use Rattle.java_scan.specs.declared.class.Class.TheVariants.{DoubleQuote, SingleQuote}
use Rattle.java_scan.specs.Classes.{passes}
use Rattle.java_scan.specs.Place.{Place, advance}
use Rattle.java_scan.specs.Steps.{after_if, after_string_characters, string_end_step, string_step, has_one, after_one, character_end_step, character_step}
use Rattle.java_scan.specs.Steps.Step.{taken, failed}
use Rattle.java_scan.specs.Next.{step_of}
use Rattle.java_scan.proofs.PlaceLaws.{advance-zero, advance-left, advance-at}
use Rattle.java_scan.proofs.NumberLaws.{after_if-true, after_if-false}
use Rattle.java_scan.proofs.NumberSteps.{IsAfter, more, one_more}

-- inputs that stand for themselves

pub raw_characters : (cs : List ℕ) → characters_of (map raw cs) ≡ cs
raw_characters [] = refl
raw_characters (c ∷ cs) = ap (λ x. c ∷ x) (raw_characters cs)

pub raw_take : (n : ℕ) (cs : List ℕ) → take n (map raw cs) ≡ map raw (take n cs)
raw_take zero cs = refl
raw_take (suc n) [] = refl
raw_take (suc n) (c ∷ cs) = ap (λ x. raw c ∷ x) (raw_take n cs)

-- strings

quote_fault : (at : ℕ) (cs : List ℕ) → fault_of at (map raw (double_quote ∷ cs)) ≡ string_fault at (raw double_quote) (map raw cs)
quote_fault at [] = refl
quote_fault at (c ∷ cs) = refl

string_fault_is : (at : ℕ) (cs : List ℕ) → string_fault at (raw double_quote) (map raw cs) ≡ cond (is_line_over (drop (inside_length false cs) cs)) (unclosed at) (bad_char (at + width_of (map raw (take (suc (inside_length false cs)) (double_quote ∷ cs)))))
string_fault_is at cs =
    ap (λ xs. cond (is_line_over (drop (inside_length false xs) xs)) (unclosed at) (bad_char (at + width_of (take (suc (inside_length false xs)) (map raw (double_quote ∷ cs)))))) (raw_characters cs)
    ∙ ap (λ xs. cond (is_line_over (drop (inside_length false cs) cs)) (unclosed at) (bad_char (at + width_of xs))) (raw_take (suc (inside_length false cs)) (double_quote ∷ cs))

failed_if : (b : Bool) (x y : LexicalFault) → cond b (failed x) (failed y) ≡ failed (cond b x y)
failed_if true x y = refl
failed_if false x y = refl

-- after the characters of a string
string_end_is : (p q : Place) (cs : List ℕ) → p.left ≡ double_quote ∷ cs → IsAfter p (suc (inside_length false cs)) q (drop (inside_length false cs) cs) → string_end_step p.at q ≡ step_of p (string cs)
unfolding string_end_step passes
string_end_is p q cs e is = elim (cases_Bool (begins (passes DoubleQuote) (drop (inside_length false cs) cs))) [
  | inl h ↦ let l = ap (begins (passes DoubleQuote)) is.1 ∙ h in rw (l, h) (ap (taken StringLit) (after_if-true (passes DoubleQuote) q (ap (begins (passes DoubleQuote)) is.1 ∙ h) ∙ (one_more p (suc (inside_length false cs)) q (drop (inside_length false cs) cs) is).0))
  | inr h ↦
      let same : after_if (passes DoubleQuote) q ≡ q = after_if-false (passes DoubleQuote) q (ap (begins (passes DoubleQuote)) is.1 ∙ h) in
      let at : q.at ≡ p.at + width_of (map raw (take (suc (inside_length false cs)) (double_quote ∷ cs))) = ap (λ r. r.at) is.0 ∙ (advance-at (suc (inside_length false cs)) p ∙ ap (λ xs. p.at + width_of (map raw (take (suc (inside_length false cs)) xs))) e) in
      let fault : fault_of p.at (map raw p.left) ≡ cond (is_line_over (drop (inside_length false cs) cs)) (unclosed p.at) (bad_char q.at) = ap (λ xs. fault_of p.at (map raw xs)) e ∙ (quote_fault p.at cs ∙ (string_fault_is p.at cs ∙ ap (λ k. cond (is_line_over (drop (inside_length false cs) cs)) (unclosed p.at) (bad_char k)) (sym at))) in
      let l = ap (begins (passes DoubleQuote)) is.1 ∙ h in
      rw (l, h) (ap (λ r. cond (is_line_over r.left) (failed (unclosed p.at)) (failed (bad_char r.at))) same ∙ (ap (λ xs. cond (is_line_over xs) (failed (unclosed p.at)) (failed (bad_char q.at))) is.1 ∙ (failed_if (is_line_over (drop (inside_length false cs) cs)) (unclosed p.at) (bad_char q.at) ∙ ap failed (sym fault))))
]

pub string_is : (p : Place) (cs : List ℕ) → p.left ≡ double_quote ∷ cs → string_step p ≡ step_of p (string cs)
unfolding string_step after_string_characters passes
string_is p cs e =
    let one : after_if (passes DoubleQuote) p ≡ advance 1 p = after_if-true (passes DoubleQuote) p (ap (begins (passes DoubleQuote)) e) in
    let is1 : IsAfter p 1 (advance 1 p) cs = (refl, advance-left 1 p ∙ ap (drop 1) e) in
    let n : 1 + inside_length false cs ≡ suc (inside_length false cs) = omega arith in
    let m = more p 1 (inside_length false cs) (advance 1 p) cs is1 in
    let is : IsAfter p (suc (inside_length false cs)) (advance (inside_length false cs) (advance 1 p)) (drop (inside_length false cs) cs) = (m.0 ∙ ap (λ k. advance k p) n, m.1) in
    ap (λ q. string_end_step p.at (advance (inside_length false q.left) q)) one
    ∙ (ap (λ xs. string_end_step p.at (advance (inside_length false xs) (advance 1 p))) is1.1 ∙ string_end_is p (advance (inside_length false cs) (advance 1 p)) cs e is)

-- character literals

literal_fault_at : (at : ℕ) (cs : List ℕ) → fault_of at (map raw (single_quote ∷ cs)) ≡ literal_fault at 1 cs
literal_fault_at at [] = refl
literal_fault_at at (c ∷ cs) = ap (λ xs. literal_fault at 1 (c ∷ xs)) (raw_characters cs)

line_end_none : (c : ℕ) → is_line_end c ≡ true → (c == backslash ≡ false) × (is_bare single_quote c ≡ false)
line_end_none c h = grind (arith, nat_tests)

over_none : (cs : List ℕ) → is_line_over cs ≡ true → one_length cs ≡ 0
over_none [] h = refl
over_none (c ∷ cs) h = let l = line_end_none c h in rw (l.1, l.0) refl

quote_none : (cs : List ℕ) → begins (λ c. c == single_quote) cs ≡ true → one_length cs ≡ 0
quote_none [] h = refl
quote_none (c ∷ cs) h = ap (λ x. one_length (x ∷ cs)) (eqb-true c single_quote h)

nothing_read : (cs : List ℕ) → one_length cs ≡ 0 → character cs ≡ Found.nothing
nothing_read cs e = rw e refl

no_length : (n : ℕ) → nat_lt 0 n ≡ false → n ≡ 0
no_length n h = grind (arith, nat_tests)

character_fault : (p : Place) (cs : List ℕ) (f : LexicalFault) → p.left ≡ single_quote ∷ cs → literal_fault p.at 1 cs ≡ f → failed f ≡ failed (fault_of p.at (map raw p.left))
character_fault p cs f e h = ap failed (sym h ∙ (sym (literal_fault_at p.at cs) ∙ ap (λ xs. fault_of p.at (map raw xs)) (sym e)))

-- after the quote
character_end_is : (p q : Place) (cs : List ℕ) → p.left ≡ single_quote ∷ cs → IsAfter p 1 q cs → character_end_step p.at q ≡ step_of p (character cs)
unfolding character_end_step has_one after_one passes
character_end_is p q cs e is = elim (cases_Bool (is_line_over cs)) [
  | inl h ↦ let lh = ap is_line_over is.1 ∙ h in rw (lh, nothing_read cs (over_none cs h)) (character_fault p cs (unclosed p.at) e (rw h refl))
  | inr h ↦ let lh = ap is_line_over is.1 ∙ h in elim (cases_Bool (begins (passes SingleQuote) cs)) [
    | inl k ↦ let lk = ap (begins (passes SingleQuote)) is.1 ∙ k in rw (lh, lk, nothing_read cs (quote_none cs k)) (character_fault p cs (bad_char p.at) e (rw (h, k) refl))
    | inr k ↦ let lk = ap (begins (passes SingleQuote)) is.1 ∙ k in elim (cases_Bool (nat_lt 0 (one_length cs))) [
      | inr o ↦
          let none = no_length (one_length cs) o in
          let at : (advance (one_length cs) q).at ≡ p.at + 1 = ap (λ n. (advance n q).at) none ∙ (ap (λ r. r.at) (advance-zero q ∙ is.0) ∙ (advance-at 1 p ∙ ap (λ xs. p.at + width_of (map raw (take 1 xs))) e)) in
          let lo = ap (λ xs. nat_lt 0 (one_length xs)) is.1 ∙ o in
          let ln = ap one_length is.1 in
          rw (lh, lk, lo, nothing_read cs none) (ap (λ n. failed (bad_char (advance n q).at)) ln ∙ (ap (λ n. failed (bad_char n)) at ∙ character_fault p cs (bad_char (p.at + 1)) e (rw (h, k, o) refl)))
      | inl o ↦
          let m = more p 1 (one_length cs) q cs is in
          let n : 1 + one_length cs ≡ suc (one_length cs) = omega arith in
          let is2 : IsAfter p (suc (one_length cs)) (advance (one_length cs) q) (drop (one_length cs) cs) = (m.0 ∙ ap (λ j. advance j p) n, m.1) in
          let lo = ap (λ xs. nat_lt 0 (one_length xs)) is.1 ∙ o in
          let ln = ap one_length is.1 in
          rw (lh, lk, lo) (ap (λ m. cond (begins (passes SingleQuote) (advance m q).left) (taken CharLit (after_if (passes SingleQuote) (advance m q))) (failed (unclosed p.at))) ln ∙ elim (cases_Bool (begins (passes SingleQuote) (drop (one_length cs) cs))) [
            | inl l ↦
                let b = ap (begins (passes SingleQuote)) is2.1 ∙ l in
                rw (b, o, l) (ap (taken CharLit) (after_if-true (passes SingleQuote) (advance (one_length cs) q) b ∙ (one_more p (suc (one_length cs)) (advance (one_length cs) q) (drop (one_length cs) cs) is2).0))
            | inr l ↦
                let b = ap (begins (passes SingleQuote)) is2.1 ∙ l in
                rw (b, o, l) (character_fault p cs (unclosed p.at) e (rw (h, k, o) refl))
          ])
    ]
  ]
]

pub character_is : (p : Place) (cs : List ℕ) → p.left ≡ single_quote ∷ cs → character_step p ≡ step_of p (character cs)
unfolding character_step passes
character_is p cs e =
    let one : after_if (passes SingleQuote) p ≡ advance 1 p = after_if-true (passes SingleQuote) p (ap (begins (passes SingleQuote)) e) in
    let is1 : IsAfter p 1 (advance 1 p) cs = (refl, advance-left 1 p ∙ ap (drop 1) e) in
    ap (character_end_step p.at) one ∙ character_end_is p (advance 1 p) cs e is1
