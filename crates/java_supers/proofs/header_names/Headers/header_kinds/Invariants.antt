use Rattle.std.proofs.Common.{◌≡◌}
use Rattle.java_supers.proofs.header_names.Headers.header_kinds.Given as goal

-- the same environment
abbrev pub invariant-loop : goal.invariant-loop
invariant-loop l = l.self ≡ l.fn.self
