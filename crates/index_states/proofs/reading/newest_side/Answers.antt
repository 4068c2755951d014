use Rattle.index_states.proofs.Newest.{both_count, first_counts, second_counts, none_counts}
use Rattle.index_states.proofs.reading.newest_side.Goals as goal

pub returns-in-true-true : goal.returns-in-true-true
returns-in-true-true c = both_count c.args.first.now c.args.second.now c.later_side.result c.in-true-true.ensures c.in-true-true.ensures' c.later_side.ensures

pub returns-in-true-false : goal.returns-in-true-false
returns-in-true-false c = first_counts c.args.first.now c.args.second.now c.in-true-false.ensures c.in-true-false.ensures'

pub returns-in-false-true : goal.returns-in-false-true
returns-in-false-true c = second_counts c.args.first.now c.args.second.now c.in-false-true.ensures c.in-false-true.ensures'

pub returns-in-false-false : goal.returns-in-false-false
returns-in-false-false c = none_counts c.args.first.now c.args.second.now c.in-false-false.ensures c.in-false-false.ensures'
