-- White space is passed as elements that are no tokens.
use Rattle.std.proofs.Common.{◌≡◌, ℕ, ◌≤◌, true, List, [], ◌∷◌, length, map, drop, refl, sym, ap, ◌∙◌, subst, inl, inr, arith, length-drop}
use Rattle.std.proofs.lemmas.Bool.{cases_Bool}
use Rattle.std.proofs.lemmas.List.{append-nil}
use Rattle.java_tree.specs.declared.outline.Level.{Level}
use Rattle.java_tree.specs.declared.token.Token.{Token}
use Rattle.java_model.specs.Lexical.Characters.{is_white}
use Rattle.java_model.specs.Lexical.Escapes.{raw}
use Rattle.java_model.specs.Lexical.Elements.Element.{white_space}
use Rattle.java_model.specs.Lexical.Tokens.{AreElements}
use Rattle.java_model.proofs.Lexical.Reading.{family_of, next_of}
use Rattle.java_model.proofs.Lexical.Reading.Found.{found}
use Rattle.java_model.proofs.Lexical.Reading.Family.{a_white}
use Rattle.java_scan.specs.declared.class.Class.TheVariants.{White}
use Rattle.java_scan.specs.Classes.{passes}
use Rattle.java_scan.specs.Place.{Place, first, next, after_run}
use Rattle.java_scan.specs.Elements.{Passes}
use Rattle.java_scan.proofs.PlaceLaws.{advance-one, advance-left, next-left, begins_some, begins_none, run_step, run_stop}
use Rattle.java_scan.proofs.ElementLaws.{elements_more}
use Rattle.java_model.proofs.Lexical.Reading.{run}

white_family : (c : ℕ) → is_white c ≡ true → family_of c ≡ a_white
unfolding family_of
white_family c h = rw h refl

white_here : (level : Level) (c : ℕ) (cs : List ℕ) → is_white c ≡ true → next_of level (c ∷ cs) ≡ found white_space 1
white_here level c cs h = rw (white_family c h) refl

white_passes : (level : Level) (p : Place) (c : ℕ) (cs : List ℕ) (before : List Token) → p.left ≡ c ∷ cs → is_white c ≡ true → Passes level p before (next p) before
white_passes level p c cs before e h = record {
  element = white_space;
  count = 1;
  here = ap (next_of level) e ∙ white_here level c cs h;
  end = sym (advance-one p);
  kept = sym (append-nil before);
}

-- these tokens were passed, from a start up to a place
abbrev Walk : Level → Place → List Token → Place → Type 0
Walk level start tokens p = AreElements level start.at (map raw start.left) tokens p.at (map raw p.left)

over_white : (level : Level) (start : Place) (tokens : List Token) (cs : List ℕ) (p : Place) → p.left ≡ cs → Walk level start tokens p → Walk level start tokens (after_run is_white p)
over_white level start tokens [] p e walk = subst (Walk level start tokens) (sym (run_stop is_white p (begins_none is_white p.left (ap first e)))) walk
over_white level start tokens (c ∷ cs) p e walk = elim (cases_Bool (is_white c)) [
  | inl is ↦
      let here : Walk level start tokens (next p) = elements_more level start p (next p) tokens tokens walk (white_passes level p c cs tokens e is) in
      subst (Walk level start tokens) (run_step is_white p c (ap first e) is) (over_white level start tokens cs (next p) (next-left p ∙ ap (drop 1) e) here)
  | inr isnt ↦ subst (Walk level start tokens) (sym (run_stop is_white p (begins_some is_white p.left c (ap first e) ∙ isnt))) walk
]

-- a run of white space adds no token
pub white_passed : (level : Level) (start p q : Place) (tokens : List Token) → q ≡ after_run (passes White) p → Walk level start tokens p → Walk level start tokens q
unfolding passes
white_passed level start p q tokens e walk = subst (Walk level start tokens) (sym e) (over_white level start tokens p.left p refl walk)

pub white_shorter : (p q : Place) → q ≡ after_run (passes White) p → length q.left ≤ length p.left
white_shorter p q e = omega (arith, ap (λ (r : Place). length r.left) e, ap length (advance-left (run (passes White) p.left) p), length-drop (run (passes White) p.left) p.left)
