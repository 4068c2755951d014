use Rattle.std.proofs.Common.{◌==◌, ◌∙◌, ap, length}
use Rattle.script_text.proofs.Places.{length-places}
use Rattle.script_text.proofs.reading.newlines.Goals as goal

pub returns : goal.returns
returns c = c.count.ensures ∙ ap length c.memchr_iter.ensures.value ∙ length-places (λ b. b == 10) c.args.bytes.now
