use Rattle.std.proofs.Common.{◌≡◌, map, take}
use Rattle.java_model.specs.Names.MemberTypes.{resolve_in_body}
use Rattle.java_model.specs.Names.Types.{spelled}
use Rattle.java_env.proofs.members.all_spelled.Given as goal

-- the types so far
abbrev pub invariant-loop-of : goal.invariant-loop-of
invariant-loop-of l = l.all ≡ map (spelled (resolve_in_body l.env l.d)) (take l.of-index l.types)
