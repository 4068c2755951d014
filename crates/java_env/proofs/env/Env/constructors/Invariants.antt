use Rattle.std.proofs.Common.{◌≡◌, ◌++◌, ◌-◌}
use Rattle.java_env.specs.Members.{body_count, method_count, places}
use Rattle.java_env.proofs.env.Env.constructors.Given as goal

-- the constructors so far, and those that are left
abbrev pub invariant-loop-place : goal.invariant-loop-place
invariant-loop-place l = l.ids ++ places l.t l.place (body_count l.self l.t - l.place) ≡ places l.t (method_count l.self l.t) (body_count l.self l.t - method_count l.self l.t)
