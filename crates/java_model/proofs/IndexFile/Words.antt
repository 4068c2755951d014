-- Front-coding: the rules on what is shared and on the suffix say that the word is greater than the
-- previous one, and that no shared byte is spelled anew.
use Rattle.std.proofs.Common.{◌≡◌, ℕ, zero, suc, ◌≤◌, Bool, true, false, List, [], ◌∷◌, ◌++◌, length, take, drop, refl, sym, ap, subst, ◌∙◌, arith}
use Rattle.std.specs.Prelude.{◌&&◌, ◌||◌, nat_lt, ◌==◌}
use Rattle.std.proofs.lemmas.Bool.{eqb-true, leb-true, le-leb}
use Rattle.std.proofs.lemmas.List.{drop_at, length-take, take-append-drop}
use Rattle.java_tree.specs.Keys.{is_before}
use Rattle.java_model.specs.IndexFile.Spelling.{common, shared, suffix}
use Rattle.java_model.specs.IndexFile.Reading.{is_greater_suffix, may_share, may_follow}
use Rattle.java_model.proofs.IndexFile.Tests.{and_both, or_left, or_right}

same : (x : ℕ) → (x == x) ≡ true
same x = grind arith

other : (x y : ℕ) → nat_lt x y ≡ true → (x == y) ≡ false
other x y e = grind arith

-- what a suffix that keeps the rules makes
pub record Shares (previous : List ℕ) (n : ℕ) (word : List ℕ) : Type 0 where
  pub n-is : common previous word ≡ n
  pub greater : is_before previous word ≡ true

pub shares : (previous : List ℕ) (n : ℕ) (suffix : List ℕ) → n ≤ length previous → is_greater_suffix (drop n previous) suffix ≡ true → Shares previous n (take n previous ++ suffix)
shares [] zero [] le e = absurd cc
shares [] zero (y ∷ suffix) le e = record { n-is = refl; greater = refl }
shares [] (suc n) suffix le e = absurd (omega arith)
shares (x ∷ previous) zero [] le e = absurd cc
shares (x ∷ previous) zero (y ∷ suffix) le e = record { n-is = rw (other x y e) refl; greater = or_left (nat_lt x y) (x == y && is_before previous suffix) e }
shares (x ∷ previous) (suc n) suffix le e =
    let rest = shares previous n suffix (omega arith) e in
    record {
      n-is = rw (same x) (ap suc rest.n-is);
      greater = or_right (nat_lt x x) (x == x && is_before previous (take n previous ++ suffix)) (and_both (x == x) (is_before previous (take n previous ++ suffix)) (same x) rest.greater);
    }

-- what a greater word is made of
pub record MadeOf (previous word : List ℕ) : Type 0 where
  pub within : common previous word ≤ length previous
  pub inside : common previous word ≤ length word
  pub suffix : is_greater_suffix (drop (common previous word) previous) (drop (common previous word) word) ≡ true
  pub front : take (common previous word) previous ≡ take (common previous word) word

after_same : (x y : ℕ) (b : Bool) → (x == y) ≡ true → (nat_lt x y || (x == y && b)) ≡ true → b ≡ true
after_same x y true t e = refl
after_same x y false t e = grind arith

before_other : (x y : ℕ) (b : Bool) → (x == y) ≡ false → (nat_lt x y || (x == y && b)) ≡ true → nat_lt x y ≡ true
before_other x y b f e = grind arith

pub made_of : (previous word : List ℕ) → is_before previous word ≡ true → MadeOf previous word
made_of previous [] e = absurd cc
made_of [] (y ∷ word) e = record { within = omega arith; inside = omega arith; suffix = refl; front = refl }
made_of (x ∷ previous) (y ∷ word) e =
    elim (x == y) as (λ b. (x == y) ≡ b → MadeOf (x ∷ previous) (y ∷ word)) [
      | true ↦ λ t.
          let rest = made_of previous word (after_same x y (is_before previous word) t e) in
          let heads : x ≡ y = eqb-true x y t in
          record {
            within = rw t (omega (arith, rest.within));
            inside = rw t (omega (arith, rest.inside));
            suffix = rw t rest.suffix;
            front = rw t (λ i. heads i ∷ rest.front i);
          }
      | false ↦ λ f. record {
        within = rw f (omega arith);
        inside = rw f (omega arith);
        suffix = rw f (before_other x y (is_before previous word) f e);
        front = rw f refl;
      }
    ] refl

-- ---- the same at a place of a block

-- what is shared and the suffix, as they are read
pub record Spelled (place : ℕ) (previous : List ℕ) (n : ℕ) (rest : List ℕ) : Type 0 where
  pub n-is : shared place previous (take n previous ++ rest) ≡ n
  pub rest-is : suffix place previous (take n previous ++ rest) ≡ rest
  pub greater : is_before previous (take n previous ++ rest) ≡ true

first_spelled : (previous : List ℕ) (n : ℕ) (rest : List ℕ) → n ≡ 0 → is_before previous rest ≡ true → Spelled zero previous n rest
first_spelled previous n rest e before =
    subst (λ (k : ℕ). Spelled zero previous k rest) (sym e) (record { n-is = refl; rest-is = refl; greater = before })

later_spelled : (place : ℕ) (previous : List ℕ) (n : ℕ) (rest : List ℕ) → n ≤ length previous → is_greater_suffix (drop n previous) rest ≡ true → Spelled (suc place) previous n rest
later_spelled place previous n rest le greater =
    let shared = shares previous n rest le greater in
    let len : length (take n previous) ≡ n = omega (arith, length-take n previous) in
    record { n-is = shared.n-is; rest-is = rw shared.n-is (drop_at (take n previous) rest n len); greater = shared.greater }

pub spelled : (place : ℕ) (previous : List ℕ) (n : ℕ) (rest : List ℕ) → may_share place previous n ≡ true → may_follow place previous n rest ≡ true → Spelled place previous n rest
spelled zero previous n rest share follow = first_spelled previous n rest (eqb-true n 0 share) follow
spelled (suc place) previous n rest share follow = later_spelled place previous n rest (leb-true n (length previous) share) follow

-- what a greater word is spelled with is read again
pub record Respelled (place : ℕ) (previous word : List ℕ) : Type 0 where
  pub share : may_share place previous (shared place previous word) ≡ true
  pub follow : may_follow place previous (shared place previous word) (suffix place previous word) ≡ true
  pub word-is : take (shared place previous word) previous ++ suffix place previous word ≡ word

pub respelled : (place : ℕ) (previous word : List ℕ) → is_before previous word ≡ true → Respelled place previous word
respelled zero previous word e = record { share = refl; follow = e; word-is = refl }
respelled (suc place) previous word e =
    let made = made_of previous word e in
    record {
      share = le-leb (common previous word) (length previous) made.within;
      follow = made.suffix;
      word-is = ap (λ (t : List ℕ). t ++ drop (common previous word) word) made.front ∙ take-append-drop (common previous word) word;
    }
