use Rattle.std.proofs.Common.{◌≡◌, length, take}
use Rattle.std.specs.List.{filter, flat_map}
use Rattle.java_model.specs.Names.Environments.{type_id}
use Rattle.java_env.specs.Inheriting.{has_method}
use Rattle.java_env.specs.Members.{methods_of}
use Rattle.java_env.proofs.env.Env.methods.Given as goal

-- the methods of the types so far
abbrev pub invariant-loop-number : goal.invariant-loop-number
invariant-loop-number l = l.found ≡ flat_map (λ n. filter (has_method l.self l.t l.name) (methods_of l.self (type_id n))) (take (length l.yielded) l.initial.number-iterator)
