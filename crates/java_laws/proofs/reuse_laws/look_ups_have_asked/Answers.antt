use Rattle.java_laws.proofs.Finding.{look-ups-have-asked}
use Rattle.java_laws.proofs.reuse_laws.look_ups_have_asked.Goals as goal

pub returns : goal.returns
returns c = look-ups-have-asked
