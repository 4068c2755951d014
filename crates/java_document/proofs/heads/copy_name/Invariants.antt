use Rattle.std.proofs.Common.{◌≡◌, take}
use Rattle.java_document.proofs.heads.copy_name.Given as goal

-- the identifiers so far are copied
abbrev pub invariant-loop-word : goal.invariant-loop-word
invariant-loop-word l = l.copies ≡ take l.word-index l.name
