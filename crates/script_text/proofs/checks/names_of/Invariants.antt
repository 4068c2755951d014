use Rattle.std.proofs.Common.{◌≡◌, take}
use Rattle.std.specs.Prelude.{map}
use Rattle.script_text.proofs.checks.names_of.Given as goal

abbrev pub invariant-loop-search : goal.invariant-loop-search
invariant-loop-search l = map (λ name. name.now) l.names.items ≡ map (λ search. search.name) (take l.search-index l.searches)
