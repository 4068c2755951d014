use Rattle.std.proofs.Common.{◌≡◌, ◌++◌, map, take}
use Rattle.java_model.specs.Names.Methods.{method_info_of}
use Rattle.java_env.proofs.members.add_methods.Given as goal

-- the methods so far
abbrev pub invariant-loop-method : goal.invariant-loop-method
invariant-loop-method l = l.infos ≡ l.fn.infos ++ map (method_info_of l.env l.d) (take l.method-index l.methods)
