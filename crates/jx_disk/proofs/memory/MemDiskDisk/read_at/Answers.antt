use Rattle.std.proofs.Common.{◌∙◌, arith}
use Rattle.jx_disk.specs.Disk.{window}
use Rattle.jx_disk.specs.Memory.{seen_of}
use Rattle.jx_disk.proofs.Making.{shown_front}
use Rattle.jx_disk.proofs.memory.MemDiskDisk.read_at.Goals as goal

pub returns-clause-read : goal.returns-clause-read
returns-clause-read c =
    shown_front c.args.at c.count_from.result (seen_of c.look.new.self c.args.file) c.content-len.new.buf
    (omega (arith, c.count_from.ensures, c.content-len.ensures.len)) c.content-len.ensures.shows
    ∙ (λ i. window c.args.at (c.content-len.ensures.same_length i) (c.in_ok-look.ensures.same c.args.file i))
