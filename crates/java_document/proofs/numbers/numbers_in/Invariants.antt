use Rattle.std.proofs.Common.{◌≡◌, take}
use Rattle.java_document.specs.Outlining.{numbers_in}
use Rattle.java_document.proofs.numbers.numbers_in.Given as goal

-- the numbers of those so far
abbrev pub invariant-loop-brace : goal.invariant-loop-brace
invariant-loop-brace l = l.numbers ≡ numbers_in l.braces (take l.brace-index l.locals)
