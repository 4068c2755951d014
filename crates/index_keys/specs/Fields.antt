-- The first field of a key.
use Rattle.std.specs.Prelude.{◌≡◌, ℕ, ◌==◌, Bool, true, if◌then◌else◌, List, [], ◌∷◌, Option, Some, None, ⊤}
use Rattle.java_tree.specs.declared.key.Category.{Category}

-- the bytes before the first `/`
abbrev pub first_field : List ℕ → List ℕ
first_field [] = []
first_field (b ∷ text) = if b == 47 then [] else b ∷ first_field text

-- each admitted key has the name as its first field
abbrev pub AdmitsOnly : (Category → List ℕ → Bool) → Option (List ℕ) → Type 0
AdmitsOnly admitted None = ⊤
AdmitsOnly admitted (Some name) = (category : Category) (text : List ℕ) → admitted category text ≡ true → first_field text ≡ name
