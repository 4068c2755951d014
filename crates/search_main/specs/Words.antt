-- The words of a command line.
use Rattle.std.specs.Prelude.{ℕ, List, [], Result, Ok, Err, drop, map, string_bytes}
use Rattle.std.specs.Vec.Iter.{into_iter_items}
use Rattle.std.specs.declared.alloc.Global.{Global}
use Rattle.std.specs.declared.io.Error.{Error}
use Rattle.std.specs.declared.string.String.{String}
use Rattle.std.specs.declared.vec.IntoIter.{IntoIter}

-- the arguments after the first, which names the program; none where one isn't UTF-8
abbrev pub words_in : Result (IntoIter (String Global) Global) Error → List (List ℕ)
words_in (Ok arguments) = map string_bytes (drop 1 (into_iter_items arguments))
words_in (Err fault) = []
