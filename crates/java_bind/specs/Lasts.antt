-- The last element of a list.
use Rattle.std.specs.Prelude.{List, [], ◌∷◌, Option, Some, None}
use Rattle.java_model.specs.Grammar.Forms.{last_or}

abbrev pub last_of : {A : Type 0} → List A → Option A
last_of [] = None
last_of (x ∷ xs) = Some (last_or x xs)
