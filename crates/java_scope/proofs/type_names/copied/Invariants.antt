use Rattle.std.proofs.Common.{◌≡◌, take}
use Rattle.java_scope.proofs.type_names.copied.Given as goal

-- the identifiers so far
abbrev pub invariant-loop-word : goal.invariant-loop-word
invariant-loop-word l = l.copies ≡ take l.word-index l.name
