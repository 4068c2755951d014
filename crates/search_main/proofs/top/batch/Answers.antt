use Rattle.search_main.proofs.Endings.{complete, fails_once, long_exactly, script_exactly, unread, words_exactly, writes_quietly}
use Rattle.search_main.proofs.top.batch.Goals as goal

pub returns-clause-words_exactly : goal.returns-clause-words_exactly
returns-clause-words_exactly g c = words_exactly _ c.end.result c.end.ensures.ended

pub returns-clause-unread : goal.returns-clause-unread
returns-clause-unread g c = unread _ c.end.result c.end.ensures.ended

pub returns-clause-long_exactly : goal.returns-clause-long_exactly
returns-clause-long_exactly g c = λ batch input shown long. long_exactly _ c.end.result input c.end.ensures.ended batch shown long

pub returns-clause-script_exactly : goal.returns-clause-script_exactly
returns-clause-script_exactly g c = λ batch input shown short refused. script_exactly _ c.end.result input c.end.ensures.ended batch shown short refused

pub returns-clause-complete : goal.returns-clause-complete
returns-clause-complete g c = λ batch input shown short accepted reads writes. complete _ c.end.result input c.end.ensures.ended batch shown short accepted reads writes

pub returns-clause-reads : goal.returns-clause-reads
returns-clause-reads g c = fails_once _ c.end.result c.end.ensures.ended

pub returns-clause-writes : goal.returns-clause-writes
returns-clause-writes g c = writes_quietly _ c.end.result c.end.ensures.ended
