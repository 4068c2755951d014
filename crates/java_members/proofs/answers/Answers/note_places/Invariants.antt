use Rattle.std.proofs.Common.{◌≡◌}
use Rattle.java_members.proofs.answers.Answers.note_places.Given as goal

-- The answers stay as they are.
abbrev pub invariant-loop-place : goal.invariant-loop-place
invariant-loop-place l = l.self.answers ≡ l.fn.self.answers
