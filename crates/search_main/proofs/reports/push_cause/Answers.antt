use Rattle.std.specs.Prelude.{string_bytes}
use Rattle.script_text.specs.Views.{fault_of}
use Rattle.search_main.specs.Inner.Views.{documents_read}
use Rattle.search_main.proofs.Answering.{is_refused}
use Rattle.search_main.proofs.reports.push_cause.Goals as goal

pub returns : goal.returns
returns c =
    is_refused (documents_read c.args.opened.now) c.args.search.now (fault_of c.args.cause) (string_bytes c.args.out.now) (string_bytes c.push_refusal.new.out) c.requires c.in_ok-push_refusal.ensures
