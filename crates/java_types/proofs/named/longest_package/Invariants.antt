use Rattle.std.proofs.Common.{◌≤◌, length, take}
use Rattle.std.specs.List.{AllByRecursion}
use Rattle.java_types.specs.declared.entry.Entry.{Entry}
use Rattle.java_types.proofs.named.longest_package.Given as goal

-- None so far is longer.
abbrev pub invariant-loop-entry : goal.invariant-loop-entry
invariant-loop-entry l = AllByRecursion (λ (e : Entry). length e.info.«package» ≤ l.longest) (take l.entry-index l.entries)
