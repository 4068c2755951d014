use Rattle.jx_disk.proofs.Making.{noted_quiet}
use Rattle.jx_disk.proofs.record.Record.note_quiet.Goals as goal

pub returns-clause-noted : goal.returns-clause-noted
returns-clause-noted c = noted_quiet c.args.self.now c.note-noted.new.self c.note-noted.result c.note-noted.ensures.room c.note-noted.ensures.noted c.note-noted.ensures.full
