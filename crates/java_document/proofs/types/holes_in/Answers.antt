use Rattle.std.proofs.Common.{rules}
use Rattle.java_document.proofs.Outlining.{holes_found_in}
use Rattle.java_document.proofs.types.holes_in.Goals as goal

pub returns : goal.returns
returns c =
    holes_found_in c.args.found c.args.declared.now (record { alloc = _; base = c.as_slice.result; own = c.new.result }) c.in_members.new.scope c.as_slice-2.result.now c.new-holes.result.items c.in_members.new.found.items
    c.as_slice-2.ensures c.new-holes.ensures.items c.new.ensures.items (search rules) c.in_ok-in_members.ensures
