use Rattle.std.proofs.Common.{◌≡◌, false, get_or}
use Rattle.std.specs.Prelude.{◌&&◌, filter}
use Rattle.disk_index.specs.Part.{numbers_from}
use Rattle.disk_index.proofs.query.flagged.Given as goal

abbrev pub invariant-loop-at : goal.invariant-loop-at
invariant-loop-at l = l.numbers.items ≡ filter (λ n. get_or l.live n false && get_or l.found n false) (numbers_from 0 l.at)
