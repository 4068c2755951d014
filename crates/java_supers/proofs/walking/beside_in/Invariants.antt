use Rattle.std.proofs.Common.{◌≡◌, ◌∷◌, false, flat_map, take}
use Rattle.java_tree.specs.declared.occurrence.TypeId.{TypeId}
use Rattle.java_supers.specs.Keeping.{has_mark}
use Rattle.java_supers.specs.Reaching.{reached_in}
use Rattle.java_supers.proofs.walking.beside_in.Given as goal

-- those beside so far
abbrev pub invariant-loop-other : goal.invariant-loop-other
invariant-loop-other l = record {
  value : l.beside ≡ flat_map (λ o. o ∷ reached_in l.nexts o) (take l.other-index l.others);
  none : (u : TypeId) → has_mark l.marks u ≡ false;
}
