use Rattle.std.proofs.Common.{[], ◌++◌, reverse, ap}
use Rattle.java_document.proofs.Units.{tops_found_in}
use Rattle.java_document.proofs.outline.tops_of.Goals as goal

pub returns : goal.returns
returns c =
    tops_found_in c.args.unit.now _ c.as_slice.result.now c.new-holes.result.items c.in_tops.new.found.items c.as_slice.ensures c.new-holes.ensures.items
    (ap (λ xs. reverse xs ++ []) c.new.ensures.items) c.in_ok-in_tops.ensures
