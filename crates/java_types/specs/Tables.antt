-- Numbers by keys: each number has a key or none, and those of one key are linked, the least first.
use Rattle.std.specs.Prelude.{◌≡◌, ℕ, suc, ◌+◌, ◌-◌, ◌<◌, ◌≤◌, Bool, true, false, List, Option, Some, drop, length, nat_eq, slice_get}
use Rattle.std.specs.Fn.{Shared, FnReturnsAt}
use Rattle.std.specs.List.{position_from}
use Rattle.std.specs.Option.{option_map_or}
use denote.Ref.{Bor}

abbrev pub Keys : Type 0
Keys = List (Option ℕ)

abbrev pub has_key : ℕ → Option ℕ → Bool
has_key k key = option_map_or (nat_eq k) key false

-- whether a number has this key
abbrev pub is_keyed : Keys → ℕ → ℕ → Bool
is_keyed keys k n = option_map_or (has_key k) (slice_get keys n) false

-- the least number from n on that has this key
abbrev pub first_from : Keys → ℕ → ℕ → Option ℕ
first_from keys k n = position_from (has_key k) n (drop n keys)

-- for the numbers from one on: the least of each key, and with each number, the greatest first, the next of its key
pub record AreLinked (keys : Keys) (from : ℕ) (first : ℕ → Option ℕ) (next : List (Option ℕ)) : Type 0 where
  pub many : length next + from ≡ length keys
  pub firsts : (k : ℕ) → first k ≡ first_from keys k from
  pub linked : (k n : ℕ) → from ≤ n → n < length keys → is_keyed keys k n ≡ true → slice_get next (length keys - suc n) ≡ Some (first_from keys k (suc n))

-- Each element that passes a test has this key.
abbrev pub HaveKey : {X : Type 0} → (X → Bool) → List X → Keys → ℕ → Type 0
HaveKey {X} test xs keys k = (n : ℕ) (x : X) → slice_get xs n ≡ Some x → test x ≡ true → is_keyed keys k n ≡ true

-- Each call gives what the test does.
abbrev pub Tests : {F X : Type 0} → Shared F (Bor X × Unit {0}) Bool → F → (X → Bool) → Type 0
Tests {F} {X} calls f test = (x : X) (r : Bool) → FnReturnsAt calls f x r → r ≡ test x
