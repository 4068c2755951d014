use Rattle.std.proofs.Common.{chars, ◌+◌, ◌*◌, suc, length}
use denote.Text.{Utf8}
use denote.Shadow.{shadow}
use Rattle.search_pattern.proofs.WildNames.{Tries, any_end}
use Rattle.search_pattern.proofs.wild.matches_end.Given as goal

abbrev pub invariant-loop-after : goal.invariant-loop-after
invariant-loop-after l = record {
  texts : shadow (Utf8 l.after_star) × (shadow (Utf8 l.tried) × (shadow (Utf8 l.wanted) × shadow (Utf8 l.left)));
  tries : Tries l.case (any_end l.case (chars l.pattern) (chars l.name)) (chars l.pattern) (chars l.after_star) (chars l.tried) (chars l.wanted) (chars l.left);
}

abbrev pub decreases-loop-after : goal.decreases-loop-after
decreases-loop-after l = length (chars l.tried) * suc (length (chars l.pattern)) + length (chars l.wanted)
