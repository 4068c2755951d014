-- Pieces put after what was there.
use Rattle.std.proofs.Common.{◌≡◌, ℕ, List, [], ◌∷◌, ◌++◌, cond, ◌∙◌, append_assoc}
use Rattle.std.specs.Prelude.{Result, Ok, Err, is_ok, OnOk, codes}
use Rattle.std.specs.Fmt.{decimal}

-- what is written where the last piece is
pub on_ok : {T E : Type 0} (r : Result T E) (old piece new whole : List ℕ) → new ≡ cond (is_ok r) (old ++ piece) old → old ++ piece ≡ whole → OnOk r (new ≡ whole)
on_ok (Ok x) old piece new whole e f = e ∙ f
on_ok (Err x) old piece new whole e f = tt

pub refusal_behind : (old line cause a b c : List ℕ) → a ≡ old ++ line → b ≡ a ++ codes " search pattern " → c ≡ b ++ cause
    → c ++ 10 ∷ [] ≡ old ++ (line ++ codes " search pattern " ++ cause ++ (10 ∷ []))
refusal_behind old line cause a b c e f g = rw (g, f, e) (simp append_assoc)

-- what follows of what is written
pub on_done : {T E : Type 0} (r : Result T E) (P Q : Type 0) → (P → Q) → OnOk r P → OnOk r Q
on_done (Ok x) P Q then h = then h
on_done (Err x) P Q then h = tt

pub report_behind : (old line matches resolved lines a b : List ℕ)
    → a ≡ old ++ line ++ codes " search " ++ decimal 0 ++ codes " matches " ++ matches ++ codes " resolved " ++ resolved ++ codes " newer " ++ decimal 0 ++ codes " skipped " ++ decimal 0 ++ 10 ∷ []
    → b ≡ a ++ lines
    → b ≡ old ++ (line ++ codes " search " ++ decimal 0 ++ codes " matches " ++ matches ++ codes " resolved " ++ resolved ++ codes " newer " ++ decimal 0 ++ codes " skipped " ++ decimal 0 ++ (10 ∷ []) ++ [] ++ lines)
report_behind old line matches resolved lines a b e f = rw (f, e) (simp append_assoc)
