use Rattle.std.proofs.Common.{string_bytes, take}
use Rattle.search_main.specs.Inner.Replied.{AreReplied}
use Rattle.search_main.specs.Inner.Views.{documents_read}
use Rattle.search_main.proofs.reports.output.Given as goal

abbrev pub invariant-loop-search : goal.invariant-loop-search
invariant-loop-search l = AreReplied (documents_read l.opened) (take l.search-index l.searches) (string_bytes l.initial.out) (string_bytes l.out)
