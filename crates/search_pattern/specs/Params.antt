-- Parameters, from what stands between the parentheses.
use Rattle.std.specs.Prelude.{ℕ, List, map}
use Rattle.java_model.specs.SearchPattern.Parts.{params_in}
use Rattle.java_model.specs.SearchPattern.Texts.{separated, trimmed}

abbrev pub params_between : List ℕ → List (List ℕ)
params_between inside = params_in (map trimmed (separated 44 inside))
