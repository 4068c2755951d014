-- What a script asks of all its documents together, as the program asks it of documents in order.
use Rattle.std.specs.Prelude.{ℕ, ◌+◌, Bool, true, ◌&&◌, nat_lt, cond, List, [], ◌∷◌}
use Rattle.std.specs.Str.{bytes_eq}
use Rattle.java_tree.specs.declared.limits.TheConstants.{MAX_DOCUMENTS}
use Rattle.java_model.specs.Documents.{Document}

-- how many documents of its container stand right before one, where so many of a container do
abbrev pub run_before : List ℕ → ℕ → Document → ℕ
run_before container count doc = cond (bytes_eq doc.container container) count 0

-- no run of documents of one container is too long
abbrev pub runs_fit : List ℕ → ℕ → List Document → Bool
runs_fit container count [] = true
runs_fit container count (doc ∷ docs) = nat_lt (run_before container count doc) MAX_DOCUMENTS && runs_fit doc.container (run_before container count doc + 1) docs
