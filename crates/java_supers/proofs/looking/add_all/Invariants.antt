use Rattle.std.proofs.Common.{◌≡◌, ◌&&◌, Bool, take}
use Rattle.std.specs.List.{list_all}
use Rattle.java_tree.specs.declared.occurrence.TypeId.{TypeId}
use Rattle.java_supers.proofs.looking.add_all.Given as goal

-- the types so far
abbrev pub invariant-loop-t : goal.invariant-loop-t
invariant-loop-t l = (p : TypeId → Bool) → list_all p l.types ≡ (list_all p l.fn.types && list_all p (take l.t-index l.more))
