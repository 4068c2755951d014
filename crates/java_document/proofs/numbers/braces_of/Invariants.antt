use Rattle.std.proofs.Common.{◌≡◌, take}
use Rattle.java_model.specs.Grammar.Braces.{braces_of}
use Rattle.java_document.proofs.numbers.braces_of.Given as goal

-- the offsets so far are copied
abbrev pub invariant-loop-declared : goal.invariant-loop-declared
invariant-loop-declared l = l.braces.items ≡ braces_of (take l.declared-index l.types)
