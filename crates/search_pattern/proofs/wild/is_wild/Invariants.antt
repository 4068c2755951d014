use Rattle.std.proofs.Common.{◌≡◌, chars, length}
use denote.Text.{Utf8}
use denote.Shadow.{shadow}
use Rattle.java_model.specs.SearchPattern.NameMatch.{is_wild}
use Rattle.search_pattern.proofs.wild.is_wild.Given as goal

abbrev pub invariant-loop-after : goal.invariant-loop-after
invariant-loop-after l = record {
  texts : shadow (Utf8 l.wanted) × shadow (Utf8 l.left);
  same : is_wild l.case (chars l.wanted) (chars l.left) ≡ is_wild l.case (chars l.pattern) (chars l.name);
}

abbrev pub decreases-loop-after : goal.decreases-loop-after
decreases-loop-after l = length (chars l.wanted)
