use Rattle.search_pattern.proofs.WildNames.{tries_star, tries_both}
use Rattle.search_pattern.proofs.wild.matches_end.Goals as goal

pub loop-after-preserved-in-Star : goal.loop-after-preserved-in-Star
loop-after-preserved-in-Star c = record {
  texts = (c.in-Star.ensures.text, (c.loop-after.invariant.texts.1.1.1, (c.in-Star.ensures.text, c.loop-after.invariant.texts.1.1.1)));
  tries = tries_star _ _ _ _ _ _ _ _ c.loop-after.invariant.tries c.in-Star.ensures.step;
}

pub loop-after-preserved-in-Both : goal.loop-after-preserved-in-Both
loop-after-preserved-in-Both c = record {
  texts = (c.loop-after.invariant.texts.0, (c.loop-after.invariant.texts.1.0, c.in-Both.ensures.text));
  tries = tries_both _ _ _ _ _ _ _ _ _ c.loop-after.invariant.tries c.in-Both.ensures.step;
}
