use Rattle.std.proofs.Common.{◌≡◌, ℕ, false, length, get_or}
use Rattle.std.specs.Prelude.{if◌then◌else◌, nat_lt, ◌&&◌}
use Rattle.disk_index.proofs.part.kept.Given as goal

abbrev pub invariant-loop-at : goal.invariant-loop-at
invariant-loop-at l = record {
  long : length l.live.items ≡ length l.initial.live.items;
  each : (k : ℕ) → get_or l.live.items k false ≡ (if nat_lt k l.at then (get_or l.initial.live.items k false && get_or l.flags k false) else get_or l.initial.live.items k false);
}
