use Rattle.std.proofs.Common.{map, length}
use Rattle.java_model.specs.Lexical.Escapes.{raw}
use Rattle.java_model.specs.Lexical.Tokens.{AreElements}
use Rattle.java_scan.proofs.elements.tokens.Given as goal

-- the tokens so far are those of the elements that were passed
abbrev pub invariant-loop-c : goal.invariant-loop-c
invariant-loop-c l = AreElements l.level l.initial.cursor.at (map raw l.initial.cursor.left) l.tokens.items l.cursor.at (map raw l.cursor.left)

abbrev pub decreases-loop-c : goal.decreases-loop-c
decreases-loop-c l = length l.cursor.left
