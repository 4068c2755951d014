use Rattle.std.proofs.Common.{◌≡◌, [], length, take, ◌-◌, ◌≤◌}
use Rattle.jx_io.specs.Stream.{Appends}
use Rattle.jx_io.proofs.whole.write_whole.Given as goal

-- what was written so far is a prefix of the text
abbrev pub invariant-loop-done : goal.invariant-loop-done
invariant-loop-done g l = record {
  within : l.done ≤ length l.text;
  appended : Appends (g.K.Sink.written l.fn.sink) (g.K.Sink.written l.sink) (take l.done l.text);
  unstarted : l.text ≡ [] → l.sink ≡ l.fn.sink;
  quiet : g.K.Sink.faults l.sink ≡ g.K.Sink.faults l.fn.sink;
}

abbrev pub decreases-loop-done : goal.decreases-loop-done
decreases-loop-done g l = length l.text - l.done
