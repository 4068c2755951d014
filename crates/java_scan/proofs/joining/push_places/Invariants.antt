use Rattle.std.proofs.Common.{◌≡◌, ◌++◌, replicate}
use Rattle.java_scan.proofs.joining.push_places.Given as goal

-- the place was pushed so many times
abbrev pub invariant-loop-i : goal.invariant-loop-i
invariant-loop-i l = l.places.items ≡ l.fn.places.items ++ replicate l._i l.place
