use Rattle.std.proofs.Common.{◌≡◌, ◌-◌}
use Rattle.std.specs.List.{list_any}
use Rattle.java_model.specs.Names.Methods.{declared_methods, method_name, same_signature}
use Rattle.java_env.specs.Members.{method_count, places}
use Rattle.java_env.proofs.inherited.declares_alike.Given as goal

-- the methods that are left decide
abbrev pub invariant-loop-place : goal.invariant-loop-place
invariant-loop-place l = list_any (same_signature l.env l.m) (places l.t l.place (method_count l.env l.t - l.place)) ≡ list_any (same_signature l.env l.m) (declared_methods l.env l.t (method_name l.env l.m))
