use Rattle.std.proofs.Common.{◌≡◌, take}
use Rattle.index_bench.proofs.content.entries_of.Given as goal

abbrev pub invariant-loop-at : goal.invariant-loop-at
invariant-loop-at l = l.entries ≡ take l.at l.part.entries
