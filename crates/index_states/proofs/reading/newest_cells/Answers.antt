use Rattle.std.proofs.Common.{arith}
use Rattle.index_states.proofs.Pairs.{none_yet, pushed, all_pairs}
use Rattle.index_states.proofs.reading.newest_cells.Goals as goal

pub loop-pair-init : goal.loop-pair-init
loop-pair-init c = none_yet _ c.in_ok-cells.cells.items c.in_ok-cells.ensures.items

pub loop-pair-preserved : goal.loop-pair-preserved
loop-pair-preserved c = pushed _ c.loop-pair.pair c.loop-pair.cells.items c.push.new.self.items c.in_ok-newest_cell.field-0 c.loop-pair.invariant c.in_ok-newest_cell.ensures c.in_ok-push.ensures.items

pub returns : goal.returns
returns c = all_pairs _ c.loop-pair.pair c.loop-pair.cells.items (omega arith) c.loop-pair.invariant
