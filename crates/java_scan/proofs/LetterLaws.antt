-- A word begins with letters of ASCII for the most part.
use Rattle.std.proofs.Common.{◌≡◌, ℕ, ◌<◌, Bool, true, false, ◌||◌, List, [], ◌∷◌, drop, codes, refl, sym, ap, ◌∙◌, inl, inr, arith}
use Rattle.std.specs.Char.{is_ascii_alphabetic}
use Rattle.std.proofs.lemmas.Bool.{cases_Bool}
use Rattle.std.proofs.lemmas.Bool.Decides.{nat_tests}
use Rattle.unicode_ident.proofs.IdentLemmas.{is_xid_start-ascii, is_xid_start-is_xid_continue}
use Rattle.java_model.specs.Lexical.Characters.{is_one_of, is_letter_or_digit}
use Rattle.java_scan.specs.declared.class.Class.TheVariants.{AsciiLetter, LetterOrDigit}
use Rattle.java_scan.specs.Classes.{passes}
use Rattle.java_scan.specs.Place.{Place, first, next, after_run}
use Rattle.java_scan.proofs.PlaceLaws.{next-left, begins_some, begins_none, run_step, run_stop}

below : (c : ℕ) → is_ascii_alphabetic c ≡ true → c < 128
below c is = grind (arith, nat_tests)

or_true : (b : Bool) → b || true ≡ true
or_true true = refl
or_true false = refl

letter_continues : (c : ℕ) → is_ascii_alphabetic c ≡ true → is_letter_or_digit c ≡ true
letter_continues c is =
    ap (λ (b : Bool). is_one_of (codes "$") c || b) (is_xid_start-is_xid_continue c (is_xid_start-ascii c (below c is) ∙ is)) ∙ or_true (is_one_of (codes "$") c)

-- a run goes on after a run of some of its characters
runs_join : (some all : ℕ → Bool) → ((c : ℕ) → some c ≡ true → all c ≡ true) → (cs : List ℕ) (p : Place) → p.left ≡ cs → after_run all (after_run some p) ≡ after_run all p
runs_join some all within [] p e = ap (after_run all) (run_stop some p (begins_none some p.left (ap first e)))
runs_join some all within (c ∷ cs) p e = elim (cases_Bool (some c)) [
  | inl is ↦ ap (after_run all) (sym (run_step some p c (ap first e) is)) ∙ (runs_join some all within cs (next p) (next-left p ∙ ap (drop 1) e) ∙ run_step all p c (ap first e) (within c is))
  | inr isnt ↦ ap (after_run all) (run_stop some p (begins_some some p.left c (ap first e) ∙ isnt))
]

pub word_run : (p : Place) → after_run (passes LetterOrDigit) (after_run (passes AsciiLetter) p) ≡ after_run (passes LetterOrDigit) p
unfolding passes
word_run p = runs_join is_ascii_alphabetic is_letter_or_digit letter_continues p.left p refl
