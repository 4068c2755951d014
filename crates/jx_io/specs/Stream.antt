-- What a call of a source or of a sink does to its bytes and to its count of faults.
use Rattle.std.specs.Prelude.{◌≡◌, ℕ, ◌+◌, ◌-◌, ◌^◌, ◌≤◌, min, List, [], ◌++◌, ⊤, Option, None, Some}

-- a count after one more, which stands still at its type's end
abbrev pub next_count : ℕ → ℕ
next_count n = min (n + 1) (2 ^ 64 - 1)

-- just one fault was counted
abbrev pub CountedOne : ℕ → ℕ → Type 0
CountedOne before now = now ≡ next_count before

-- a count of faults has risen, where a count that stands at its type's end counts as risen
abbrev pub Rose : ℕ → ℕ → Type 0
Rose before now = next_count before ≤ now

-- these bytes were taken from the start of what is left, where the source shows them; it goes on so
abbrev pub Takes : Option (List ℕ) → Option (List ℕ) → List ℕ → Type 0
Takes None None bytes = ⊤
Takes None (Some new) bytes = ⊥
Takes (Some old) None bytes = ⊥
Takes (Some old) (Some new) bytes = old ≡ bytes ++ new

-- nothing is left, where the source shows it
abbrev pub HasEnded : Option (List ℕ) → Type 0
HasEnded None = ⊤
HasEnded (Some left) = left ≡ []

-- these bytes were written after what was there, where the sink shows them; it goes on so
abbrev pub Appends : Option (List ℕ) → Option (List ℕ) → List ℕ → Type 0
Appends None None bytes = ⊤
Appends None (Some new) bytes = ⊥
Appends (Some old) None bytes = ⊥
Appends (Some old) (Some new) bytes = new ≡ old ++ bytes

-- some prefix of the text was written, and nothing else
pub record AppendsPrefix (old new : Option (List ℕ)) (text : List ℕ) : Type 0 where
  pub prefix : List ℕ
  pub rest : List ℕ
  pub parts : text ≡ prefix ++ rest
  pub appended : Appends old new prefix

-- some bytes were taken, and P holds of them
pub record TakesSome (old new : Option (List ℕ)) (P : List ℕ → Type 0) : Type 0 where
  pub bytes : List ℕ
  pub taken : Takes old new bytes
  pub fact : P bytes
