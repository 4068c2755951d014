-- The rest of a comment by its stars.
use Rattle.std.proofs.Common.{◌≡◌, ℕ, Bool, true, false, not, ◌==◌, List, [], ◌∷◌, drop, Some, None, true≢false, refl, sym, ap, ◌∙◌, inl, inr}
use Rattle.std.proofs.lemmas.Bool.{cases_Bool}
use Rattle.java_model.specs.Lexical.Characters.{slash, star}
use Rattle.java_model.proofs.Lexical.Reading.{begins}
use Rattle.java_scan.specs.declared.class.Class.TheVariants.{Slash, Star}
use Rattle.java_scan.specs.Classes.{passes}
use Rattle.java_scan.specs.Place.{Place, first, next, after_run, differs}
use Rattle.java_scan.specs.Steps.{after_if, tail_end}
use Rattle.java_scan.proofs.PlaceLaws.{next-left, begins_some, begins_none, run_step, run_stop}
use Rattle.java_scan.proofs.QuotedLaws.{head_of, comment_closes, comment_goes_on, comment_over}
use Rattle.java_scan.proofs.BackslashLaws.{next_if, same_if}

-- up to the next star

stops_here : (p : Place) (c : ℕ) → first p.left ≡ Some c → c == star ≡ true → after_run (differs star) p ≡ p
stops_here p c f is = run_stop (differs star) p (begins_some (differs star) p.left c f ∙ ap not is)

goes_on : (p : Place) (c : ℕ) → first p.left ≡ Some c → c == star ≡ false → after_run (differs star) (next p) ≡ after_run (differs star) p
goes_on p c f isnt = run_step (differs star) p c f (ap not isnt)

tail_after : (p : Place) (c : ℕ) → first p.left ≡ Some c → c == star ≡ false → tail_end false (next p) ≡ tail_end false p
tail_after p c f isnt = ap (λ (b : Bool). tail_end b (next p)) (sym isnt) ∙ comment_goes_on p c false f refl

over_plain : (cs : List ℕ) (p : Place) → p.left ≡ cs → tail_end false (after_run (differs star) p) ≡ tail_end false p
over_plain [] p e = ap (tail_end false) (run_stop (differs star) p (begins_none (differs star) p.left (ap first e)))
over_plain (c ∷ cs) p e = elim (cases_Bool (c == star)) [
  | inl is ↦ ap (tail_end false) (stops_here p c (ap first e) is)
  | inr isnt ↦ ap (tail_end false) (sym (goes_on p c (ap first e) isnt)) ∙ (over_plain cs (next p) (next-left p ∙ ap (drop 1) e) ∙ tail_after p c (ap first e) isnt)
]

none_over : (cs : List ℕ) (p : Place) → p.left ≡ cs → begins (λ c. c == star) (after_run (differs star) p).left ≡ false → tail_end false p ≡ None
none_over [] p e h = comment_over p false (ap first e)
none_over (c ∷ cs) p e h = elim (cases_Bool (c == star)) [
  | inl is ↦ absurd (true≢false (sym is ∙ (sym (begins_some (λ c. c == star) p.left c (ap first e)) ∙ (ap (λ (q : Place). begins (λ c. c == star) q.left) (sym (stops_here p c (ap first e) is)) ∙ h))))
  | inr isnt ↦
      let later = none_over cs (next p) (next-left p ∙ ap (drop 1) e) (ap (λ (q : Place). begins (λ c. c == star) q.left) (goes_on p c (ap first e) isnt) ∙ h) in
      sym (tail_after p c (ap first e) isnt) ∙ later
]

-- a comment without a star is open
pub tail_none_over : (p : Place) → begins (passes Star) (after_run (differs star) p).left ≡ false → tail_end false p ≡ None
unfolding passes
tail_none_over p h = none_over p.left p refl h

-- the rest goes on after the next star
pub tail_past : (p q : Place) → begins (passes Star) (after_run (differs star) p).left ≡ true → q ≡ after_if (passes Star) (after_run (differs star) p) → tail_end true q ≡ tail_end false p
unfolding passes
tail_past p q h e =
    let r = after_run (differs star) p in
    let f = head_of (λ c. c == star) r.left h in
    ap (tail_end true) (e ∙ next_if (λ c. c == star) r h) ∙ (ap (λ (b : Bool). tail_end b (next r)) (sym f.2) ∙ (comment_goes_on r f.0 false f.1 refl ∙ over_plain p.left p refl))

-- after a star

pub tail_closed : (p q : Place) → begins (passes Slash) p.left ≡ true → q ≡ after_if (passes Slash) p → tail_end true p ≡ Some q
unfolding passes
tail_closed p q h e =
    let f = head_of (λ c. c == slash) p.left h in
    comment_closes p f.0 f.1 f.2 ∙ ap (λ (r : Place). Some r) (sym (e ∙ next_if (λ c. c == slash) p h))

open_still : (cs : List ℕ) (p : Place) → p.left ≡ cs → begins (λ c. c == slash) cs ≡ false → tail_end false p ≡ tail_end true p
open_still [] p e h = comment_over p false (ap first e) ∙ sym (comment_over p true (ap first e))
open_still (c ∷ cs) p e h = sym (comment_goes_on p c false (ap first e) refl) ∙ comment_goes_on p c true (ap first e) h

pub tail_open : (p q : Place) → begins (passes Slash) p.left ≡ false → q ≡ after_if (passes Slash) p → tail_end false q ≡ tail_end true p
unfolding passes
tail_open p q h e = ap (tail_end false) (e ∙ same_if (λ c. c == slash) p h) ∙ open_still p.left p refl h
