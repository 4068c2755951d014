use Rattle.java_laws.proofs.UnitKeys.{references-have-keys}
use Rattle.java_laws.proofs.key_laws.references_have_keys.Goals as goal

pub returns : goal.returns
returns c = references-have-keys
