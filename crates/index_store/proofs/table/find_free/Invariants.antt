use Rattle.std.proofs.Common.{◌<◌, ℕ, get_or, None, IsSome}
use Rattle.index_store.proofs.table.find_free.Given as goal

abbrev pub invariant-loop-pair : goal.invariant-loop-pair
invariant-loop-pair l = (before : ℕ) → before < l.pair → IsSome (get_or l.table before None)
