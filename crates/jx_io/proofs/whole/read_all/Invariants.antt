use Rattle.std.proofs.Common.{◌≡◌, ◌≤◌, ◌-◌, vec_len}
use Rattle.jx_io.specs.Stream.{Takes}
use Rattle.jx_io.proofs.whole.read_all.Given as goal

-- what was taken so far is kept
abbrev pub invariant-loop-want : goal.invariant-loop-want
invariant-loop-want g l = record {
  within : vec_len l.bytes ≤ l.limit;
  taken : Takes (g.S.Source.left l.fn.source) (g.S.Source.left l.source) l.bytes.items;
  quiet : g.S.Source.faults l.source ≡ g.S.Source.faults l.fn.source;
}

abbrev pub decreases-loop-want : goal.decreases-loop-want
decreases-loop-want g l = l.limit - vec_len l.bytes
