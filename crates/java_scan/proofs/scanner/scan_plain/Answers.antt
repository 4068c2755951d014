use Rattle.std.proofs.Common.{subst}
use Rattle.java_scan.specs.Place.{Place}
use Rattle.java_scan.specs.Elements.{Scans}
use Rattle.java_scan.proofs.ReportLaws.{plain_reports}
use Rattle.java_scan.proofs.scanner.scan_plain.Goals as goal

pub returns : goal.returns
returns c =
    let level = c.args.level in
    let text = c.args.text.now in
    let cut = c.without_sub.result.now in
    plain_reports level text cut c.tokens.new.cursor c.tokens.result c.utf8.text c.requires.plain c.without_sub.ensures.value
    (subst (λ (p : Place). Scans level p c.tokens.result c.tokens.new.cursor) c.start-cursor.ensures c.tokens.ensures)
