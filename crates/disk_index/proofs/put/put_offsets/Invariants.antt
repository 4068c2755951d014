use Rattle.std.proofs.Common.{◌≡◌, ◌++◌, ◌+◌, take}
use Rattle.std.specs.Prelude.{map}
use Rattle.java_model.specs.IndexFile.Spelling.{numbers_bytes}
use Rattle.disk_index.proofs.put.put_offsets.Given as goal

abbrev pub invariant-loop-start : goal.invariant-loop-start
invariant-loop-start l = l.out.items ≡ l.initial.out.items ++ numbers_bytes (map (λ start. l.first + start) (take l.start-index l.starts))
