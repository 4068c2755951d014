use Rattle.std.proofs.Common.{◌≡◌, ◌-◌, ◌+◌, length}
use Rattle.script_text.specs.Inner.Reading.{searches_at}
use Rattle.script_text.proofs.Scripts.ReadLoops.{with_searches}
use Rattle.script_text.proofs.reading.searches.Given as goal

abbrev pub invariant-loop : goal.invariant-loop
invariant-loop l = record {
  counted : l.line ≡ l.first + l.counter;
  so_far : with_searches l.searches.items (searches_at (length l.bytes - l.counter) l.line l.rest) ≡ searches_at (length l.bytes) l.first l.bytes;
}
