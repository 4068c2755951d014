-- Runs of characters that pass a test.
use Rattle.std.proofs.Common.{◌≡◌, ℕ, suc, ◌≤◌, Bool, true, false, List, [], ◌∷◌, ◌++◌, length, drop, refl, ap, arith}
use Rattle.std.specs.List.{list_all}
use Rattle.std.proofs.lemmas.List.{drop_at}
use Rattle.java_model.proofs.Lexical.Classes.{all_parts}
use Rattle.java_model.proofs.Lexical.Reading.{run, begins}

pub run-front : (test : ℕ → Bool) (d t : List ℕ) → list_all test d ≡ true → length d ≤ run test (d ++ t)
run-front test [] t h = omega arith
run-front test (c ∷ d) t h =
    let parts : (test c ≡ true) × (list_all test d ≡ true) = all_parts test c d h in
    rw parts.0 (let k : length d ≤ run test (d ++ t) = run-front test d t parts.1 in omega arith)

pub run-stopped : (test : ℕ → Bool) (t : List ℕ) → begins test t ≡ false → run test t ≡ 0
run-stopped test [] h = refl
run-stopped test (c ∷ t) h = rw h refl

pub run-exact : (test : ℕ → Bool) (d t : List ℕ) → list_all test d ≡ true → begins test t ≡ false → run test (d ++ t) ≡ length d
run-exact test [] t h stop = run-stopped test t stop
run-exact test (c ∷ d) t h stop =
    let parts : (test c ≡ true) × (list_all test d ≡ true) = all_parts test c d h in
    rw parts.0 (ap suc (run-exact test d t parts.1 stop))

pub drop-run-exact : (test : ℕ → Bool) (d t : List ℕ) → list_all test d ≡ true → begins test t ≡ false → drop (run test (d ++ t)) (d ++ t) ≡ t
drop-run-exact test d t h stop = rw (run-exact test d t h stop) (drop_at d t (length d) refl)

-- a run, and what follows it
pub record Parted (test : ℕ → Bool) (cs : List ℕ) : Type 0 where
  pub front : List ℕ
  pub rest : List ℕ
  pub whole : cs ≡ front ++ rest
  pub all : list_all test front ≡ true
  pub ended : begins test rest ≡ false
  pub counted : run test cs ≡ length front
  pub left : drop (run test cs) cs ≡ rest

parted_more : (test : ℕ → Bool) (c : ℕ) (cs : List ℕ) → test c ≡ true → Parted test cs → Parted test (c ∷ cs)
parted_more test c cs e p = record {
  front = c ∷ p.front;
  rest = p.rest;
  whole = ap (λ x. c ∷ x) p.whole;
  all = rw e p.all;
  ended = p.ended;
  counted = rw e (ap suc p.counted);
  left = rw e p.left;
}

pub parted : (test : ℕ → Bool) (cs : List ℕ) → Parted test cs
parted test [] = record { front = []; rest = []; whole = refl; all = refl; ended = refl; counted = refl; left = refl }
parted test (c ∷ cs) = elim (test c) as (λ b. test c ≡ b → Parted test (c ∷ cs)) [
  | true ↦ λ e. parted_more test c cs e (parted test cs)
  | false ↦ λ e. record { front = []; rest = c ∷ cs; whole = refl; all = refl; ended = e; counted = rw e refl; left = rw e refl }
] refl
