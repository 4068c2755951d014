use Rattle.std.proofs.Common.{length, refl}
use Rattle.jx_disk.proofs.MemoryCalls.{torn_write_of_nothing}
use Rattle.jx_disk.proofs.dir_disk.DirDiskDisk.write_at.Goals as goal

pub returns-clause-crash : goal.returns-clause-crash
returns-clause-crash g c = λ image left. (image, tt, torn_write_of_nothing c.args.file c.args.at (length c.args.piece.now) image image (λ file. refl))
