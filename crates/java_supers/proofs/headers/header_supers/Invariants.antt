use Rattle.java_supers.specs.Keeping.{AreKept}
use Rattle.java_supers.proofs.headers.header_supers.Given as goal

-- All answers that are kept hold.
abbrev pub invariant-loop : goal.invariant-loop
invariant-loop l = AreKept l.env l.memory.kept
