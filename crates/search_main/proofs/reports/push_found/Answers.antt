use Rattle.std.specs.Prelude.{string_bytes}
use Rattle.search_main.proofs.Answering.{for_types, is_reported}
use Rattle.search_main.proofs.reports.push_found.Goals as goal

pub matches_among-requires-clause-types : goal.matches_among-requires-clause-types
matches_among-requires-clause-types c = for_types c.args.search.now c.args.pattern.now c.requires.search c.requires.read

pub matches_among-requires-clause-opened : goal.matches_among-requires-clause-opened
matches_among-requires-clause-opened c = c.requires.opening.each

pub returns : goal.returns
returns c =
    is_reported c.args.env.now c.args.opened.now c.args.search.now c.args.pattern.now c.in_ok-matches.matches.items c.count_in_scope-resolved.result (string_bytes c.args.out.now) (string_bytes c.push_report.new.out)
    c.requires.opening c.requires.read c.in_ok-matches.ensures c.count_in_scope-resolved.ensures (rw c.deref.ensures.value at c.in_ok-push_report.ensures)
