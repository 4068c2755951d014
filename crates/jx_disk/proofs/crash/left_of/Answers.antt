use Rattle.std.proofs.Common.{length, ap, arith}
use Rattle.jx_disk.specs.Crash.{left_of}
use Rattle.jx_disk.proofs.Crashes.{shown_kept}
use Rattle.jx_disk.proofs.crash.left_of.Goals as goal

pub returns : goal.returns
returns c =
    shown_kept c.in_ok-kept.kept.len (left_of c.args.opening.now c.args.made.now c.args.fill c.args.count c.args.file) c.fill_left.new.kept c.in_ok-kept.kept.items
    (omega (arith, c.fill_left.ensures.same_length, ap length c.deref_mut-2.ensures.value)) (omega (arith, c.in_ok-kept.ensures.len)) (omega (arith, c.in_ok-kept.ensures.len, c.fill_left-len.ensures.len)) c.fill_left.ensures.shows
