use Rattle.std.proofs.Common.{refl}
use Rattle.jx_disk.proofs.MemoryCalls.{torn_cut_of_nothing}
use Rattle.jx_disk.proofs.dir_disk.DirDiskDisk.cut.Goals as goal

pub returns-clause-crash : goal.returns-clause-crash
returns-clause-crash g c = λ image left. (image, tt, torn_cut_of_nothing c.args.file c.args.len image image (λ file. refl))
