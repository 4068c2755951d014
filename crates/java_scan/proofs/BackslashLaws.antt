-- What a search for backslashes says of escapes.
use Rattle.std.proofs.Common.{◌≡◌, ℕ, suc, ◌<◌, ◌≤◌, Bool, true, false, ◌&&◌, ◌||◌, ◌==◌, List, [], ◌∷◌, length, drop, refl, sym, ap, ◌∙◌, inl, inr, arith, length-drop, true≢false}
use Rattle.std.proofs.lemmas.Bool.{cases_Bool}
use Rattle.java_model.specs.Lexical.Characters.{backslash, letter_u}
use Rattle.java_model.proofs.Lexical.Reading.{run, begins}
use Rattle.java_scan.specs.declared.class.Class.TheVariants.{LetterU, Backslash}
use Rattle.java_scan.specs.Classes.{passes}
use Rattle.java_scan.specs.Steps.{after_if}
use Rattle.java_scan.specs.Place.{Place, next, after_run, no_backslash}
use Rattle.java_scan.specs.Unescaping.{escapes_from}
use Rattle.java_scan.proofs.PlaceLaws.{next-left, advance-left}

-- escapes from a place on

pub run_stops : (c : ℕ) (cs : List ℕ) → c == backslash ≡ true → run no_backslash (c ∷ cs) ≡ 0
run_stops c cs is = rw is refl

pub run_goes_on : (c : ℕ) (cs : List ℕ) → c == backslash ≡ false → run no_backslash (c ∷ cs) ≡ suc (run no_backslash cs)
run_goes_on c cs isnt = rw isnt refl

passed_over : (c : ℕ) (cs : List ℕ) → c == backslash ≡ false → escapes_from false (c ∷ cs) ≡ escapes_from false cs
passed_over c cs isnt = ap (λ b. escapes_from (b && true) cs) isnt

list_skipped : (cs : List ℕ) → escapes_from false (drop (run no_backslash cs) cs) ≡ escapes_from false cs
list_skipped [] = refl
list_skipped (c ∷ cs) = elim (cases_Bool (c == backslash)) [
  | inl is ↦ ap (λ n. escapes_from false (drop n (c ∷ cs))) (run_stops c cs is)
  | inr isnt ↦ ap (λ n. escapes_from false (drop n (c ∷ cs))) (run_goes_on c cs isnt) ∙ (list_skipped cs ∙ sym (passed_over c cs isnt))
]

list_over : (cs : List ℕ) → begins (λ c. c == backslash) (drop (run no_backslash cs) cs) ≡ false → escapes_from false cs ≡ false
list_over [] h = refl
list_over (c ∷ cs) h = elim (cases_Bool (c == backslash)) [
  | inl is ↦ absurd (true≢false (sym is ∙ (sym (ap (λ n. begins (λ c. c == backslash) (drop n (c ∷ cs))) (run_stops c cs is)) ∙ h)))
  | inr isnt ↦ passed_over c cs isnt ∙ list_over cs (sym (ap (λ n. begins (λ c. c == backslash) (drop n (c ∷ cs))) (run_goes_on c cs isnt)) ∙ h)
]

-- after the next backslash
abbrev pub past_backslash : Place → Place
past_backslash p = after_if (passes Backslash) (after_run no_backslash p)

pub next_if : (test : ℕ → Bool) (p : Place) → begins test p.left ≡ true → after_if test p ≡ next p
unfolding after_if
next_if test p h = rw h refl

pub same_if : (test : ℕ → Bool) (p : Place) → begins test p.left ≡ false → after_if test p ≡ p
unfolding after_if
same_if test p h = rw h refl

skipped : (p : Place) → escapes_from false (after_run no_backslash p).left ≡ escapes_from false p.left
skipped p = ap (escapes_from false) (advance-left (run no_backslash p.left) p) ∙ list_skipped p.left

pub escapes_over : (p : Place) → begins (passes Backslash) (after_run no_backslash p).left ≡ false → escapes_from false p.left ≡ false
unfolding passes
escapes_over p h = list_over p.left (ap (begins (λ c. c == backslash)) (sym (advance-left (run no_backslash p.left) p)) ∙ h)

begun_list : (cs : List ℕ) → begins (λ c. c == backslash) cs ≡ true → escapes_from true (drop 1 cs) ≡ escapes_from false cs
begun_list [] h = absurd (true≢false (sym h))
begun_list (c ∷ cs) h = sym (ap (λ b. escapes_from (b && true) cs) h)

pub escapes_begun : (p : Place) → begins (passes Backslash) (after_run no_backslash p).left ≡ true → escapes_from true (past_backslash p).left ≡ escapes_from false p.left
unfolding passes
escapes_begun p h =
    let q = after_run no_backslash p in
    ap (λ (r : Place). escapes_from true r.left) (next_if (passes Backslash) q h) ∙ (ap (escapes_from true) (next-left q) ∙ (begun_list q.left h ∙ skipped p))

pub escapes_found : (cs : List ℕ) → begins (passes LetterU) cs ≡ true → escapes_from true cs ≡ true
unfolding passes
escapes_found [] h = absurd (true≢false (sym h))
escapes_found (c ∷ cs) h = ap (λ b. b || escapes_from (c == backslash && false) cs) h

-- after a backslash that begins no escape
plainly_on : (c : ℕ) (cs : List ℕ) → c == letter_u ≡ false → escapes_from true (c ∷ cs) ≡ escapes_from false cs
plainly_on c cs h = ap (λ b. b || escapes_from (c == backslash && false) cs) h ∙ ap (λ b. escapes_from b cs) (none (c == backslash))
  where
    none : (b : Bool) → b && false ≡ false
    none true = refl
    none false = refl

pub escapes_unbegun : (p : Place) → begins (passes LetterU) p.left ≡ false → escapes_from false (after_if (passes Backslash) p).left ≡ escapes_from true p.left
unfolding passes
escapes_unbegun p h = by_left p.left refl h
  where
    by_left : (cs : List ℕ) → p.left ≡ cs → begins (λ c. c == letter_u) cs ≡ false → escapes_from false (after_if (passes Backslash) p).left ≡ escapes_from true p.left
    by_left [] e h = ap (λ (r : Place). escapes_from false r.left) (same_if (passes Backslash) p (ap (begins (λ c. c == backslash)) e)) ∙ (ap (escapes_from false) e ∙ sym (ap (escapes_from true) e))
    by_left (c ∷ cs) e h = elim (cases_Bool (c == backslash)) [
      | inl is ↦ ap (λ (r : Place). escapes_from false r.left) (next_if (passes Backslash) p (ap (begins (λ c. c == backslash)) e ∙ is)) ∙ (ap (escapes_from false) (next-left p ∙ ap (drop 1) e) ∙ sym (ap (escapes_from true) e ∙ plainly_on c cs h))
      | inr isnt ↦ ap (λ (r : Place). escapes_from false r.left) (same_if (passes Backslash) p (ap (begins (λ c. c == backslash)) e ∙ isnt)) ∙ (ap (escapes_from false) e ∙ (passed_over c cs isnt ∙ sym (ap (escapes_from true) e ∙ plainly_on c cs h)))
    ]

-- and less is left

if_shorter : (test : ℕ → Bool) (p : Place) → length (after_if test p).left ≤ length p.left
unfolding after_if
if_shorter test p = elim (cases_Bool (begins test p.left)) [
  | inl is ↦ rw is (omega (arith, ap length (next-left p), length-drop 1 p.left))
  | inr isnt ↦ rw isnt (omega arith)
]

some_begun : (test : ℕ → Bool) (cs : List ℕ) → begins test cs ≡ true → 0 < length cs
some_begun test [] h = absurd (true≢false (sym h))
some_begun test (c ∷ cs) h = omega arith

pub past_shorter : (plain mark again : ℕ → Bool) (p : Place) → begins mark (after_run plain p).left ≡ true → length (after_if again (after_if mark (after_run plain p))).left < length p.left
past_shorter plain mark again p h =
    let q = after_run plain p in
    omega (arith, if_shorter again (after_if mark q), ap (λ (r : Place). length r.left) (next_if mark q h), ap length (next-left q), length-drop 1 q.left, some_begun mark q.left h, ap length (advance-left (run plain p.left) p), length-drop (run plain p.left) p.left)
