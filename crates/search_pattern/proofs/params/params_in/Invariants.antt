use Rattle.std.proofs.Common.{◌≡◌, map}
use Rattle.java_model.specs.SearchPattern.Texts.{trimmed}
use Rattle.search_pattern.proofs.params.params_in.Given as goal

abbrev pub invariant-loop-param : goal.invariant-loop-param
invariant-loop-param l = l.params ≡ map (λ x. trimmed x.now) l.yielded
