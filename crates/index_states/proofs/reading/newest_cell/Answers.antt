use Rattle.index_states.proofs.Newest.{text_of_whole, is_first, is_second}
use Rattle.index_states.proofs.reading.newest_cell.Goals as goal

pub read_cell-requires-clause-text : goal.read_cell-requires-clause-text
read_cell-requires-clause-text c = text_of_whole _ (is_first c.cell_bytes-first.result.now c.cell_bytes-second.result.now c.in-Some-eq0.field-0 _ c.in-Some-eq0.field-0-test c.in-Some-eq0.ensures).1

pub read_cell-requires-in-Some-clause-text : goal.read_cell-requires-in-Some-clause-text
read_cell-requires-in-Some-clause-text c = text_of_whole _ (is_second c.cell_bytes-first.result.now c.cell_bytes-second.result.now c.in-Some.field-0 _ c.in-Some.field-0-test.1 c.in-Some.ensures).1
