use Rattle.disk_index.proofs.FileRead.{only_this, no_file}
use Rattle.disk_index.proofs.part.DiskPart.parse.Goals as goal

pub returns-in-Ok-clause-only : goal.returns-in-Ok-clause-only
returns-in-Ok-clause-only c = λ entries rows is. only_this c.whole.result c.args.bytes.items entries rows c.whole.ensures.found c.whole.ensures.fault is

pub returns-clause-only : goal.returns-clause-only
returns-clause-only c =
    let failed = rw c.in-Err-Left.field-0-is at c.in-Err-Left.ensures in
    λ entries rows is. absurd (no_file c.args.bytes.items c.as_slice-2.result.now c.in-Err-Left.left entries rows c.as_slice-2.ensures.value failed is)
