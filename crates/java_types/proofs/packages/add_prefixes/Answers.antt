use Rattle.std.proofs.Common.{arith}
use Rattle.java_types.proofs.KnownPackages.{prefix_pushed, prefixes_done}
use Rattle.java_types.proofs.packages.add_prefixes.Goals as goal

pub loop-length-preserved : goal.loop-length-preserved
loop-length-preserved c =
    prefix_pushed c.args.name.now c.args.names.now c.loop-length.names c.push.new.self c.loop-length.length c.in_ok-copied.field-0 c.loop-length-test.true c.loop-length.invariant c.in_ok-push.ensures.ok
    c.in_ok-copied.ensures

pub returns : goal.returns
returns c = prefixes_done c.args.name.now c.args.names.now c.loop-length.names c.loop-length.length (omega (arith, c.loop-length-test.false)) c.loop-length.invariant
