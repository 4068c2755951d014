-- Worked examples of the words of sources and sinks.
use Rattle.std.proofs.Common.{◌≡◌, ◌-◌, ◌^◌, [], ◌∷◌, None, Some, refl, lit≤, arith}
use Rattle.jx_io.specs.Stream.{next_count, CountedOne, Rose, Takes, HasEnded, Appends, AppendsPrefix}

-- the next of a greatest count is the same count, and so it counts as risen
next_at_the_end : next_count (2 ^ 64 - 1) ≡ 2 ^ 64 - 1
next_at_the_end = refl

rose_at_the_end : Rose (2 ^ 64 - 1) (2 ^ 64 - 1)
rose_at_the_end = lit≤ tt

counted_one : CountedOne 3 4
counted_one = refl

did_not_count_two : CountedOne 3 5 → ⊥
did_not_count_two one = cc

rose_by_two : Rose 3 5
rose_by_two = lit≤ tt

did_not_rise : Rose 3 3 → ⊥
did_not_rise rose = omega arith

-- bytes are taken from the start
takes_two : Takes (Some (1 ∷ 2 ∷ 3 ∷ [])) (Some (3 ∷ [])) (1 ∷ 2 ∷ [])
takes_two = refl

not_from_the_end : Takes (Some (1 ∷ 2 ∷ [])) (Some (1 ∷ [])) (2 ∷ []) → ⊥
not_from_the_end p = cc

-- a source goes on showing its bytes, and one that shows nothing may have given anything
goes_on_showing : Takes (Some (1 ∷ [])) None (1 ∷ []) → ⊥
goes_on_showing p = p

shows_nothing : Takes None None (7 ∷ [])
shows_nothing = tt

has_ended : HasEnded (Some [])
has_ended = refl

has_not_ended : HasEnded (Some (0 ∷ [])) → ⊥
has_not_ended p = cc

-- bytes are appended after what is there
appends_one : Appends (Some (1 ∷ [])) (Some (1 ∷ 2 ∷ [])) (2 ∷ [])
appends_one = refl

not_before : Appends (Some (1 ∷ [])) (Some (2 ∷ 1 ∷ [])) (2 ∷ []) → ⊥
not_before p = cc

-- nothing and the first byte are prefixes of a text, the second alone is none
prefix_of_none : AppendsPrefix (Some []) (Some []) (1 ∷ 2 ∷ [])
prefix_of_none = record { prefix = []; rest = 1 ∷ 2 ∷ []; parts = refl; appended = refl }

prefix_of_one : AppendsPrefix (Some []) (Some (1 ∷ [])) (1 ∷ 2 ∷ [])
prefix_of_one = record { prefix = 1 ∷ []; rest = 2 ∷ []; parts = refl; appended = refl }

not_the_second : AppendsPrefix (Some []) (Some (2 ∷ [])) (1 ∷ 2 ∷ []) → ⊥
not_the_second p = let parts = rw (← p.appended) at p.parts in cc
