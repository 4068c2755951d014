use Rattle.std.proofs.Common.{◌≡◌, [], length}
use Rattle.script_text.specs.Inner.Checks.{runs_fit}
use Rattle.script_text.specs.Views.{documents_of}
use Rattle.script_text.proofs.checks.runs_fit.Given as goal

-- what follows decides
abbrev pub invariant-loop-rest : goal.invariant-loop-rest
invariant-loop-rest l = runs_fit l.container l.count (documents_of l.rest) ≡ runs_fit [] 0 (documents_of l.docs)

abbrev pub decreases-loop-rest : goal.decreases-loop-rest
decreases-loop-rest l = length l.rest
