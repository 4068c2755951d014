use Rattle.std.proofs.Common.{◌≡◌, None, map, take}
use Rattle.java_supers.proofs.ranking.unranked.Given as goal

-- none has one so far
abbrev pub invariant-loop-next : goal.invariant-loop-next
invariant-loop-next l = l.ranks ≡ map (λ _. None) (take l._next-index l.nexts)
