use Rattle.std.proofs.Common.{◌≡◌, ◌++◌, ◌-◌}
use Rattle.std.specs.List.{filter}
use Rattle.java_env.specs.Inheriting.{has_method}
use Rattle.java_env.specs.Members.{method_count, methods_of, places}
use Rattle.java_env.proofs.inherited.add_methods.Given as goal

-- the methods so far, and those that are left
abbrev pub invariant-loop-place : goal.invariant-loop-place
invariant-loop-place l = l.found ++ filter (has_method l.env l.t l.name) (places l.owner l.place (method_count l.env l.owner - l.place)) ≡ l.fn.found ++ filter (has_method l.env l.t l.name) (methods_of l.env l.owner)
