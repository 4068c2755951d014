-- What contracts see of standard input and output: the count of faults alone.
use Rattle.std.specs.Prelude.{ℕ, List, Option, None}

-- no bytes are shown, whatever the count of faults
abbrev pub no_bytes : ℕ → Option (List ℕ)
no_bytes faults = None
