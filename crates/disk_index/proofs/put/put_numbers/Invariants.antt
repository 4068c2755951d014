use Rattle.std.proofs.Common.{◌≡◌, ◌++◌, take}
use Rattle.std.specs.Prelude.{map}
use Rattle.java_model.specs.IndexFile.Spelling.{numbers_bytes}
use Rattle.disk_index.proofs.put.put_numbers.Given as goal

abbrev pub invariant-loop-row : goal.invariant-loop-row
invariant-loop-row l = l.out.items ≡ l.initial.out.items ++ numbers_bytes (map (λ row. row.entry) (take l.row-index l.rows))
