use Rattle.std.proofs.Common.{arith}
use Rattle.disk_index.proofs.RunLaws.{run_smaller, word_more, none_left, all_spelled}
use Rattle.disk_index.proofs.spelled.spelled.Goals as goal

pub loop-rest-smaller : goal.loop-rest-smaller
loop-rest-smaller c = run_smaller c.loop-rest.rest.now c.first-item.result c.run_length.result c.split_at.result.1.now c.in-len1-up.len_at_least c.first-item.is c.run_length.ensures c.split_at.ensures.back

pub loop-rest-preserved : goal.loop-rest-preserved
loop-rest-preserved c = record {
  within = c.in_ok-put_word.ensures.within;
  spelled = λ range postings legal e.
      word_more range c.loop-rest.words c.put_word.new.words c.loop-rest.rest.now c.first-item.result c.split_at.result.0.now c.split_at.result.1.now c.in_ok-word.word.items c.run_length.result postings
      c.in-len1-up.len_at_least c.first-item.is c.run_length.ensures c.split_at.ensures.front c.split_at.ensures.back c.in_ok-word.ensures c.in_ok-put_word.ensures.spelled (c.loop-rest.invariant.spelled range postings legal e);
}

pub returns : goal.returns
returns c = λ range postings legal e. all_spelled range c.loop-rest.words c.loop-rest.rest.now postings (none_left c.loop-rest.rest.now (omega arith)) (c.loop-rest.invariant.spelled range postings legal e)
