use Rattle.std.proofs.Common.{◌≡◌, take}
use Rattle.java_resolve.proofs.meaning.copied.Given as goal

-- the identifiers so far
abbrev pub invariant-loop-word : goal.invariant-loop-word
invariant-loop-word l = l.copy ≡ take l.word-index l.name
