use Rattle.std.proofs.Common.{◌≤◌}
use Rattle.java_model.specs.Names.Supertypes.{count}
use Rattle.java_env.specs.Inheriting.{ways}
use Rattle.java_env.specs.Walks.{IsReaching, has}
use Rattle.java_env.proofs.inherited.reached.Given as goal

-- what is reached so far
abbrev pub invariant-loop-step : goal.invariant-loop-step
invariant-loop-step l = record { within : l.step ≤ count l.env; reaching : IsReaching (ways l.env l.of) l.step l.fn.t l.front (has l.seen) }
