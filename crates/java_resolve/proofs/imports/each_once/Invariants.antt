use Rattle.std.proofs.Common.{◌≡◌, ◌++◌, [], drop, reverse}
use Rattle.java_model.specs.Names.Environments.{same_id}
use Rattle.java_model.specs.Names.Lists.{fresh}
use Rattle.java_resolve.proofs.imports.each_once.Given as goal

-- the types so far, and those of what is left that aren't among them
abbrev pub invariant-loop-t : goal.invariant-loop-t
invariant-loop-t l = l.once ++ fresh same_id (reverse l.once) (drop l.t-index l.types) ≡ fresh same_id [] l.types
