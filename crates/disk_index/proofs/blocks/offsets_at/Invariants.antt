use Rattle.std.proofs.Common.{◌≡◌, drop}
use Rattle.java_model.specs.IndexFile.Reading.{offsets_at}
use Rattle.disk_index.proofs.blocks.offsets_at.Given as goal

abbrev pub invariant-loop-left : goal.invariant-loop-left
invariant-loop-left l = offsets_at l.total (drop l.left-index l.starts) l.rest ≡ offsets_at l.total l.starts l.table
