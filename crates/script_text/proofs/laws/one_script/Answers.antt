use Rattle.script_text.proofs.Scripts.OneScript.{same_script_of}
use Rattle.script_text.proofs.laws.one_script.Goals as goal

pub returns : goal.returns
returns c = same_script_of
