use Rattle.std.proofs.Common.{◌≡◌, map}
use Rattle.script_text.proofs.words.containers_in.Given as goal

abbrev pub invariant-loop-container : goal.invariant-loop-container
invariant-loop-container l = l.containers ≡ map (λ x. x.now) l.yielded
