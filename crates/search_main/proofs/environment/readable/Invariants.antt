use Rattle.std.proofs.Common.{◌≡◌, take}
use Rattle.search_main.specs.Inner.Views.{environment_of}
use Rattle.search_main.proofs.environment.readable.Given as goal

abbrev pub invariant-loop-one : goal.invariant-loop-one
invariant-loop-one l = l.docs ≡ environment_of (take l.one-index l.opened)
