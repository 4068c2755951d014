use Rattle.std.proofs.Common.{map, string_bytes, refl, ap, ◌∙◌}
use Rattle.search_main.proofs.Endings.{exits_as_ended, exits_without_words}
use Rattle.search_main.proofs.process.run_process.Goals as goal

pub returns-in-Ok : goal.returns-in-Ok
returns-in-Ok g c = exits_as_ended _ _ c.batch.result c.code.result (ap (map string_bytes) c.deref.ensures.value ∙ c.in-Ok.ensures) c.batch.ensures.ended c.code.ensures

pub returns-in-Err : goal.returns-in-Err
returns-in-Err g c = exits_without_words _ c.code-in-Err.result (record { unread = refl; unwritten = refl; reads = refl; writes = refl }) c.code-in-Err.ensures
