use Rattle.std.proofs.Common.{◌≡◌, ◌⊎◌, ◌-◌, ◌<◌, ◌≤◌, true, false}
use Rattle.disk_index.specs.Named.{begins_before, block_bytes}
use Rattle.disk_index.proofs.named.block_before.Given as goal

abbrev pub invariant-loop-high : goal.invariant-loop-high
invariant-loop-high l = record {
  some : l.low < l.high;
  within : l.high ≤ l.blocks;
  before : (l.low ≡ 0) ⊎ (begins_before l.key (block_bytes l.file l.table l.low) ≡ true);
  after : (l.high ≡ l.blocks) ⊎ (begins_before l.key (block_bytes l.file l.table l.high) ≡ false);
}

abbrev pub decreases-loop-high : goal.decreases-loop-high
decreases-loop-high l = l.high - l.low
