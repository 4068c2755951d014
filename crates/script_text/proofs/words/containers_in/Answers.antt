use Rattle.std.proofs.Common.{sym, ◌∙◌, arith}
use Rattle.std.proofs.lemmas.Iterator.Consumers.{YieldsList-end}
use Rattle.std.proofs.lemmas.Iterator.Splits.{YieldsList-from_str_split}
use Rattle.script_text.proofs.Scripts.SearchWords.{separated_is}
use Rattle.script_text.proofs.words.containers_in.Goals as goal

pub returns : goal.returns
returns c =
    let all = YieldsList-end (YieldsList-from_str_split 44 c.args.word.now (omega arith) (cc) (cc) (cc)) c.loop-container.yielded _ c.loop-container.yielded_by _ _ c.in-None.is c.next.ensures.steps in
    c.loop-container.invariant ∙ (all.0 ∙ sym (separated_is c.args.word.now))
