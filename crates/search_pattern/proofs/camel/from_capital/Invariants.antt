use Rattle.std.proofs.Common.{◌≡◌, drop}
use Rattle.search_pattern.specs.Camel.{from_capital}
use Rattle.search_pattern.proofs.camel.from_capital.Given as goal

abbrev pub invariant-loop-i : goal.invariant-loop-i
invariant-loop-i l = from_capital (drop l.i l.name) ≡ from_capital l.name
