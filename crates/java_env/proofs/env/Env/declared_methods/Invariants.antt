use Rattle.std.proofs.Common.{◌≡◌, ◌++◌, ◌-◌}
use Rattle.std.specs.List.{filter}
use Rattle.std.specs.Str.{bytes_eq}
use Rattle.java_model.specs.Names.Methods.{method_name}
use Rattle.java_env.specs.Members.{method_count, methods_of, places}
use Rattle.java_env.proofs.env.Env.declared_methods.Given as goal

-- the methods so far, and those of this name that are left
abbrev pub invariant-loop-place : goal.invariant-loop-place
invariant-loop-place l = l.ids ++ filter (λ m. bytes_eq l.name (method_name l.self m)) (places l.t l.place (method_count l.self l.t - l.place))
    ≡ filter (λ m. bytes_eq l.name (method_name l.self m)) (methods_of l.self l.t)
