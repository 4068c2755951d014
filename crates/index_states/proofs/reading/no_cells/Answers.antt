use Rattle.std.proofs.Common.{None, arith, refl}
use Rattle.index_states.proofs.Pairs.{none_yet, pushed, all_pairs}
use Rattle.index_states.proofs.reading.no_cells.Goals as goal

pub loop-init : goal.loop-init
loop-init c = none_yet _ c.in_ok-cells.cells.items c.in_ok-cells.ensures.items

pub loop-preserved : goal.loop-preserved
loop-preserved c = pushed _ c.loop.counter c.loop.cells.items c.push.new.self.items None c.loop.invariant refl c.in_ok-push.ensures.items

pub returns : goal.returns
returns c = all_pairs _ c.loop.counter c.loop.cells.items (omega arith) c.loop.invariant
