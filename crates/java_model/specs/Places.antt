-- Places in a tree, and what they name. It knows no language: rules say what lies directly inside an
-- item of the tree, in order, and what an item is worth and names, given what these parts are worth.
use Rattle.std.specs.Prelude.{◌≡◌, ℕ, zero, suc, Bool, true, false, ◌&&◌, cond, List, [], ◌∷◌, ◌++◌, Option, Some, None, slice_get}
use Rattle.std.specs.Option.{is_some}

pub record Rules (X V O : Type 0) : Type 0 where
  pub inside : X → List X
  pub value : X → List V → V
  pub names : X → List V → List O

-- Where a path leads: at each of its numbers to the part of that number.
abbrev pub lead : {X V O : Type 0} → Rules X V O → Option X → List ℕ → Option X
lead rules at [] = at
lead rules None (i ∷ path) = None
lead rules (Some x) (i ∷ path) = lead rules (slice_get (rules.inside x) i) path

abbrev pub same_number : ℕ → ℕ → Bool
same_number zero zero = true
same_number zero (suc j) = false
same_number (suc i) zero = false
same_number (suc i) (suc j) = same_number i j

abbrev pub same_place : List ℕ → List ℕ → Bool
same_place [] [] = true
same_place (i ∷ p) (j ∷ q) = same_number i j && same_place p q
same_place _ _ = false

-- how often a path stands in a list
abbrev pub times : List ℕ → List (List ℕ) → ℕ
times path [] = 0
times path (other ∷ paths) = cond (same_place path other) (suc (times path paths)) (times path paths)

-- each path that leads somewhere, once
abbrev pub AreAll : {X : Type 0} → (List ℕ → Option X) → List (List ℕ) → Type 0
AreAll leads paths = (path : List ℕ) → times path paths ≡ cond (is_some (leads path)) 1 0

-- what items are worth, from the parts up
pub data HaveValues {X V O : Type 0} (rules : Rules X V O) : List X → List V → Type 0 where
  no_items : HaveValues rules [] []
  an_item : (x : X) (xs : List X) (parts vs : List V) → HaveValues rules (rules.inside x) parts → HaveValues rules xs vs
      → HaveValues rules (x ∷ xs) (rules.value x parts ∷ vs)

-- the item to which a path leads, and its parts' values
pub record LeadsTo {X V O : Type 0} (rules : Rules X V O) (leads : List ℕ → Option X) (path : List ℕ) (x : X) (parts : List V) : Type 0 where
  pub is : leads path ≡ Some x
  pub have : HaveValues rules (rules.inside x) parts

-- what paths name, one after another
pub data Name {X V O : Type 0} (rules : Rules X V O) (leads : List ℕ → Option X) : List (List ℕ) → List O → Type 0 where
  no_paths : Name rules leads [] []
  a_path : (path : List ℕ) (paths : List (List ℕ)) (x : X) (parts : List V) (found : List O) → LeadsTo rules leads path x parts
      → Name rules leads paths found → Name rules leads (path ∷ paths) (rules.names x parts ++ found)
