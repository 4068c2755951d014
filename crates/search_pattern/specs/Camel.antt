-- How a name is gone through piece by piece.
use Rattle.std.specs.Prelude.{ℕ, ◌==◌, cond, List, [], ◌∷◌, Option, Some, None}
use Rattle.java_model.specs.SearchPattern.NameMatch.{is_capital}

-- a name from its first capital on
abbrev pub from_capital : List ℕ → List ℕ
from_capital [] = []
from_capital (b ∷ bs) = cond (is_capital b) (b ∷ bs) (from_capital bs)

-- what follows a byte at the start of a name
abbrev pub after_byte : ℕ → List ℕ → Option (List ℕ)
after_byte byte [] = None
after_byte byte (b ∷ bs) = cond (byte == b) (Some bs) None
