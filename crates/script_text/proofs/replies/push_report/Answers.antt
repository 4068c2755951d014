use Rattle.std.proofs.Common.{length}
use Rattle.std.specs.Prelude.{string_bytes}
use Rattle.std.specs.Fmt.{decimal}
use Rattle.std.specs.List.{flat_map}
use Rattle.java_model.specs.OutputText.{match_line}
use Rattle.script_text.proofs.Printed.{on_done, report_behind}
use Rattle.script_text.proofs.replies.push_report.Goals as goal

pub returns : goal.returns
returns c =
    on_done c.push_matches.result _ _ (report_behind (string_bytes c.args.out.now) (decimal c.args.line) (decimal (length c.args.matches.now)) (decimal c.args.resolved)
    (flat_map match_line c.args.matches.now) (string_bytes c.push_head.new.out) (string_bytes c.push_matches.new.out) c.in_ok-push_head.ensures) c.push_matches.ensures
