use Rattle.std.proofs.Common.{◌∙◌}
use Rattle.disk_index.proofs.NamedWords.{past_front}
use Rattle.disk_index.proofs.named.is_past.Goals as goal

pub returns : goal.returns
returns c = c.is_before.ensures ∙ past_front c.args.key.now c.args.word.now c.min.result c.min.ensures
