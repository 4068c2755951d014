use Rattle.std.proofs.Common.{◌<◌, ℕ, get_or, None}
use Rattle.index_store.specs.Table.{IsNamed}
use Rattle.index_store.proofs.table.find_held.Given as goal

abbrev pub invariant-loop-pair : goal.invariant-loop-pair
invariant-loop-pair l = (before : ℕ) → before < l.pair → IsNamed (get_or l.table before None) l.name → ⊥
