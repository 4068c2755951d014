use Rattle.jx_disk.proofs.Crashes.{all_left}
use Rattle.jx_disk.proofs.crash.files_left.Goals as goal

pub returns : goal.returns
returns c = λ file.
    all_left c.args.fill c.args.count c.args.opening.now c.args.made.now.calls.items c.args.made.now.written.items c.add_called.new.files.items file
    c.in_ok-add_called.ensures.left (λ f is. c.in_ok-add_called.ensures.kept f (c.in_ok-add_opening.ensures.listed f is)) c.in_ok-add_called.ensures.listed
