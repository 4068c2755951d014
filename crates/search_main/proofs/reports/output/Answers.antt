use Rattle.std.proofs.Common.{◌≡◌, subst, take}
use Rattle.std.proofs.lemmas.List.{take_all}
use Rattle.std.specs.Prelude.{string_bytes}
use Rattle.script_text.specs.Spelling.{IsScriptSearch}
use Rattle.search_main.specs.Inner.Replied.{AreReplied}
use Rattle.search_main.specs.Inner.Views.{documents_read}
use Rattle.search_main.proofs.Documents.{each_here}
use Rattle.search_main.proofs.Answering.{none_replied, one_more, is_output}
use Rattle.search_main.proofs.reports.output.Goals as goal

pub loop-search-init : goal.loop-search-init
loop-search-init c = none_replied (documents_read c.args.opened.now) (string_bytes c.push_journal.new.out)

pub push_reply-requires-clause-search : goal.push_reply-requires-clause-search
push_reply-requires-clause-search c =
    each_here IsScriptSearch c.args.searches.now c.loop-search.search-index c.search-item.result c.requires.searches c.loop-search-test.true c.search-item.is

pub loop-search-preserved : goal.loop-search-preserved
loop-search-preserved c =
    one_more (documents_read c.args.opened.now) c.args.searches.now c.loop-search.search-index c.search-item.result (string_bytes c.push_journal.new.out) (string_bytes c.loop-search.out) (string_bytes c.push_reply.new.out)
    c.loop-search-test.true c.search-item.is c.loop-search.invariant c.in_ok-push_reply.ensures

pub returns : goal.returns
returns c =
    let docs = documents_read c.args.opened.now in
    let all : take c.loop-search.search-index c.args.searches.now ≡ c.args.searches.now = take_all c.loop-search.search-index c.args.searches.now c.loop-search-test.false in
    is_output docs c.args.searches.now (string_bytes c.push_journal.new.out) (string_bytes c.loop-search.out) (string_bytes c.push_str.new.self)
    (rw c.new-out.ensures.bytes at c.in_ok-push_journal.ensures)
    (subst (λ ss. AreReplied docs ss (string_bytes c.push_journal.new.out) (string_bytes c.loop-search.out)) all c.loop-search.invariant) c.in_ok-push_str.ensures.bytes
