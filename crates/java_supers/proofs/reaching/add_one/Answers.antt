use Rattle.std.proofs.Common.{◌<◌, length, arith, rules}
use Rattle.java_supers.proofs.Reaches.{adds-new}
use Rattle.java_supers.proofs.reaching.add_one.Goals as goal

pub returns : goal.returns
returns c =
    let within : c.args.t.0 < length c.args.marks.now = omega (arith, c.if-t-len.false, c.len.ensures) in
    adds-new c.args.marks.now c.set_mark.new.marks c.as_slice.result.now c.args.t c.has_mark.result c.args.new.now c.push.new.self c.as_slice.ensures c.has_mark.ensures (search rules) within c.set_mark.ensures c.in_ok-push.ensures.ok
