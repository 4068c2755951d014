-- What stands after the dots of a text.
use Rattle.std.proofs.Common.{◌≡◌, ◌≢◌, ℕ, suc, ◌<◌, Bool, true, false, ◌||◌, eqb, List, [], ◌∷◌, ◌++◌, length, get_or, refl, sym, ap, ◌∙◌, arith}
use Rattle.std.proofs.lemmas.Bool.{eqb-true}
use Rattle.std.specs.List.{list_any}
use Rattle.java_model.specs.SearchPattern.NameMatch.{is_exact}
use Rattle.java_model.specs.Matches.TypePatterns.{after_dots}

-- a text, or what stands after a dot of it, is given
abbrev pub ends_in : Bool → List ℕ → List ℕ → Bool
ends_in case given whole = list_any (is_exact case given) (whole ∷ after_dots whole)

-- no dot is in a text
abbrev pub LacksDots : List ℕ → Type 0
LacksDots bs = (i : ℕ) → i < length bs → get_or bs i 0 ≢ 46

lacks_more : (b : ℕ) (bs : List ℕ) → LacksDots (b ∷ bs) → LacksDots bs
lacks_more b bs h = λ i l. h (suc i) (omega arith)

is_other : (b : ℕ) (bs : List ℕ) → LacksDots (b ∷ bs) → eqb b 46 ≡ false
is_other b bs h = elim (eqb b 46) as (λ v. eqb b 46 ≡ v → v ≡ false) [
  | true ↦ λ e. absurd (h 0 (omega arith) (eqb-true b 46 e))
  | false ↦ λ e. refl
] refl

after_none : (bs : List ℕ) → LacksDots bs → after_dots bs ≡ []
after_none [] h = refl
after_none (b ∷ bs) h = rw (is_other b bs h) (after_none bs (lacks_more b bs h))

after_first : (bs rest : List ℕ) → LacksDots bs → after_dots (bs ++ 46 ∷ rest) ≡ rest ∷ after_dots rest
after_first [] rest h = refl
after_first (b ∷ bs) rest h = rw (is_other b bs h) (after_first bs rest (lacks_more b bs h))

module _ (case : Bool) (given rest : List ℕ) (all : Bool) (left : ends_in case given rest ≡ all) where
  abbrev others : List (List ℕ) → Bool
  others texts = list_any (is_exact case given) texts

  pub found : is_exact case given rest ≡ true → true ≡ all
  found e = sym (ap (λ b. b || others (after_dots rest)) e) ∙ left

  missed : is_exact case given rest ≡ false → others (after_dots rest) ≡ all
  missed e = sym (ap (λ b. b || others (after_dots rest)) e) ∙ left

  pub none_left : is_exact case given rest ≡ false → LacksDots rest → false ≡ all
  none_left e h = sym (ap others (after_none rest h)) ∙ missed e

  pub next_left : (before after : List ℕ) → is_exact case given rest ≡ false → rest ≡ before ++ 46 ∷ after → LacksDots before → ends_in case given after ≡ all
  next_left before after e is h = sym (ap others (ap after_dots is ∙ after_first before after h)) ∙ missed e
