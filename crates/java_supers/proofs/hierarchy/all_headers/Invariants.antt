use Rattle.std.proofs.Common.{◌≤◌}
use Rattle.java_model.specs.Names.Supertypes.{count, header_supers}
use Rattle.java_supers.specs.Keeping.{AreKept}
use Rattle.java_supers.specs.Reaching.{HasFirst}
use Rattle.java_supers.proofs.hierarchy.all_headers.Given as goal

-- the headers so far, and answers that hold
abbrev pub invariant-loop-number : goal.invariant-loop-number
invariant-loop-number l = record {
  within : l.number ≤ count l.env;
  kept : AreKept l.env l.memory.kept;
  first : HasFirst (header_supers l.env) l.number l.headers;
}
