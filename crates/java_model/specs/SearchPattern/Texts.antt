-- Texts cut at bytes.
use Rattle.std.specs.Prelude.{ℕ, Bool, true, false, ◌&&◌, ◌==◌, cond, List, [], ◌∷◌, Option, Some, None}

-- the byte before the first text, which there may not be
abbrev pub onto_first : ℕ → List (List ℕ) → List (List ℕ)
onto_first b [] = (b ∷ []) ∷ []
onto_first b (text ∷ more) = (b ∷ text) ∷ more

-- the texts between the separators, one more than there are separators
abbrev pub separated : ℕ → List ℕ → List (List ℕ)
separated separator [] = [] ∷ []
separated separator (b ∷ bs) =
    cond (b == separator) ([] ∷ separated separator bs) (onto_first b (separated separator bs))

-- what stands before the last separator and after it, if there is one
abbrev pub around_last : ℕ → List ℕ → Option (List ℕ × List ℕ)
around_last separator [] = None
around_last separator (b ∷ bs) = elim (around_last separator bs) [
  | Some parts ↦ Some (b ∷ parts.0, parts.1)
  | None ↦ cond (b == separator) (Some ([], bs)) None
]

abbrev pub is_empty : List ℕ → Bool
is_empty [] = true
is_empty (b ∷ bs) = false

abbrev pub space : ℕ
space = 32

abbrev pub without_leading_spaces : List ℕ → List ℕ
without_leading_spaces [] = []
without_leading_spaces (b ∷ bs) = cond (b == space) (without_leading_spaces bs) (b ∷ bs)

abbrev pub before_spaces : ℕ → List ℕ → List ℕ
before_spaces b rest = cond (b == space && is_empty rest) [] (b ∷ rest)

abbrev pub without_trailing_spaces : List ℕ → List ℕ
without_trailing_spaces [] = []
without_trailing_spaces (b ∷ bs) = before_spaces b (without_trailing_spaces bs)

-- the text without the spaces at its ends
abbrev pub trimmed : List ℕ → List ℕ
trimmed text = without_trailing_spaces (without_leading_spaces text)
