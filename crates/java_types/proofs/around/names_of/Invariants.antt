use Rattle.std.proofs.Common.{◌≡◌, map, take}
use Rattle.java_types.specs.Entries.{name_in}
use Rattle.java_types.proofs.around.names_of.Given as goal

-- the names so far, innermost first
abbrev pub invariant-loop-number : goal.invariant-loop-number
invariant-loop-number l = l.names.items ≡ map (name_in l.types) (take l.number-index l.around)
