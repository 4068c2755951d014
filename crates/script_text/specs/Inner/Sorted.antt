-- Documents in order.
use Rattle.std.specs.Prelude.{Bool, true, ◌&&◌, List, [], ◌∷◌}
use Rattle.std.specs.declared.cmp.Ordering.{Ordering}
use Rattle.std.specs.Ordering.{is_lt}

-- each element is below the next
abbrev pub rises : {K : Type 0} → (K → K → Ordering) → List K → Bool
rises cmp [] = true
rises cmp (x ∷ []) = true
rises cmp (x ∷ y ∷ xs) = is_lt (cmp x y) && rises cmp (y ∷ xs)
