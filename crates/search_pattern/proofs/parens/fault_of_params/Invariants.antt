use Rattle.std.proofs.Common.{◌≡◌, drop}
use Rattle.java_model.specs.SearchPattern.Parts.{fault_of_params}
use Rattle.search_pattern.proofs.parens.fault_of_params.Given as goal

abbrev pub invariant-loop-i : goal.invariant-loop-i
invariant-loop-i l = fault_of_params l.i (drop l.i l.text) ≡ fault_of_params 0 l.text
