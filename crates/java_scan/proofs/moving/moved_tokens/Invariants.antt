use Rattle.std.proofs.Common.{◌≡◌, map}
use Rattle.java_scan.specs.Moving.{placed_by, moved_token}
use Rattle.java_scan.proofs.moving.moved_tokens.Given as goal

-- the tokens so far are moved
abbrev pub invariant-loop-token : goal.invariant-loop-token
invariant-loop-token l = l.moved.items ≡ map (moved_token (placed_by l.places)) l.yielded
