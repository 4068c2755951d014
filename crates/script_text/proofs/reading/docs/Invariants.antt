use Rattle.std.proofs.Common.{◌≡◌, ◌-◌}
use Rattle.script_text.specs.Views.{documents_of}
use Rattle.script_text.specs.Inner.Reading.{docs_at}
use Rattle.script_text.proofs.Scripts.ReadLoops.{with_docs}
use Rattle.script_text.proofs.reading.docs.Given as goal

abbrev pub invariant-loop : goal.invariant-loop
invariant-loop l = with_docs (documents_of l.docs.items) (docs_at (l.limit - l.counter) l.rest) ≡ docs_at l.limit l.bytes
