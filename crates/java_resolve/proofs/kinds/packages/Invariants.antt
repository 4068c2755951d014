use Rattle.std.proofs.Common.{◌≡◌, map, take}
use Rattle.java_tree.specs.declared.types.NameKind.TheVariants as kinds
use Rattle.java_resolve.proofs.kinds.packages.Given as goal

-- one for each kind so far
abbrev pub invariant-loop-kind : goal.invariant-loop-kind
invariant-loop-kind l = l.kinds ≡ map (λ _. kinds.Package) (take l._kind-index l.before)
