use Rattle.std.proofs.Common.{◌≤◌}
use Rattle.java_model.specs.Names.Supertypes.{count}
use Rattle.java_supers.specs.Reaching.{HasFirst}
use Rattle.java_env.specs.Members.{members_of}
use Rattle.java_env.proofs.members.all_members.Given as goal

-- the members so far
abbrev pub invariant-loop-number : goal.invariant-loop-number
invariant-loop-number l = record { within : l.number ≤ count l.env; first : HasFirst (members_of l.env) l.number l.all }
