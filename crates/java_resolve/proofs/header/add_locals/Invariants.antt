use Rattle.std.proofs.Common.{◌≡◌, ◌+◌, ◌++◌, map, take}
use Rattle.std.specs.List.{filter}
use Rattle.java_model.specs.Names.Environments.{type_id}
use Rattle.java_model.specs.Names.TypeNames.{is_declared_in}
use Rattle.java_model.specs.Names.TypeNames as names
use Rattle.java_resolve.specs.Resolving.{bound_of}
use Rattle.java_resolve.proofs.header.add_locals.Given as goal

-- the bounds so far
abbrev pub invariant-loop-local : goal.invariant-loop-local
invariant-loop-local l = map bound_of l.bounds ≡ map bound_of l.fn.bounds ++ map (λ k. names.LocalClass (type_id (l.d.first + k))) (filter (is_declared_in l.d l.body) (take l.local-index l.locals))
