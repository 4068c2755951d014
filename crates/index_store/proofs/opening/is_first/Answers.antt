use Rattle.std.proofs.Common.{◌≡◌, ◌≢◌, ℕ, ◌<◌, inl, inr, true, false, eqb, length, arith}
use Rattle.std.proofs.lemmas.Bool.{cases_lt}
use Rattle.std.proofs.lemmas.Bool.Decides.{nat_tests}
use Rattle.index_store.proofs.opening.is_first.Goals as goal

same_number : (a b : ℕ) → eqb a b ≡ true → a ≡ b
same_number a b is = grind (arith, nat_tests)

other_number : (a b : ℕ) → eqb a b ≡ false → a ≢ b
other_number a b is = grind (arith, nat_tests)

pub returns-in-Some-clause-first : goal.returns-in-Some-clause-first
returns-in-Some-clause-first c is before less =
    let same = same_number c.in-Some.first c.args.pair is in
    c.in-Some.ensures.found.2 before (omega (arith, same))

pub returns-in-Some-clause-later : goal.returns-in-Some-clause-later
returns-in-Some-clause-later c is =
    let apart = other_number c.in-Some.first c.args.pair is in
    elim (cases_lt c.in-Some.first c.args.pair) [
      | inl under ↦ (c.in-Some.first, under, c.in-Some.ensures.found.1)
      | inr over ↦ let less : c.args.pair < c.in-Some.first = omega arith in absurd (c.in-Some.ensures.found.2 c.args.pair less c.requires.named)
    ]

pub returns-in-None : goal.returns-in-None
returns-in-None c = let low : c.args.pair < length c.args.table.now = omega arith in absurd (c.in-None.ensures.absent c.args.pair low c.requires.named)
