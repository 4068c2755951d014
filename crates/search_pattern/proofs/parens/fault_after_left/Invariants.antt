use Rattle.std.proofs.Common.{◌≡◌, drop}
use Rattle.java_model.specs.SearchPattern.Parts.{fault_after_left}
use Rattle.search_pattern.proofs.parens.fault_after_left.Given as goal

abbrev pub invariant-loop-i : goal.invariant-loop-i
invariant-loop-i l = fault_after_left l.i (drop l.i l.text) ≡ fault_after_left l.start (drop l.start l.text)
