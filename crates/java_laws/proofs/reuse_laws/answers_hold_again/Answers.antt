use Rattle.java_laws.proofs.Reuse.{answers-hold-again, answers-hold-disjointly}
use Rattle.java_laws.proofs.reuse_laws.answers_hold_again.Goals as goal

pub returns-clause-same : goal.returns-clause-same
returns-clause-same c = answers-hold-again

pub returns-clause-disjoint : goal.returns-clause-disjoint
returns-clause-disjoint c = answers-hold-disjointly
