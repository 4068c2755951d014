use Rattle.std.proofs.Common.{ℕ, List, Err, sym, subst, arith}
use Rattle.std.proofs.lemmas.Result.{err_from_is_err_and}
use Rattle.java_scan.specs.declared.fault.ScanFault.{ScanFault}
use Rattle.java_scan.specs.Place.{Place, place_in}
use Rattle.java_scan.specs.Elements.{AllScanned, Scans}
use Rattle.java_scan.specs.Joining.{IsUnescapedTo}
use Rattle.java_scan.specs.Reports.{Reports}
use Rattle.java_scan.proofs.UnescapedLaws.{text_within}
use Rattle.java_scan.proofs.ReportLaws.{units_fault, moved_reports, escaped_reports, escaped_reports_fault}
use Rattle.java_scan.proofs.scanner.scan_escaped.Goals as goal

pub returns-in_err-unescaped : goal.returns-in_err-unescaped
returns-in_err-unescaped c =
    let p = err_from_is_err_and c.from_residual.result c.from_residual.ensures.1 in
    rw (p.1, p.2) (units_fault c.args.level c.args.text.now c.in_err-unescaped.field-0.0 c.in_err-unescaped.ensures.err)

pub start-cursor-requires : goal.start-cursor-requires
start-cursor-requires c =
    let text = c.args.text.now in
    let joined = c.as_str.result.now in
    let places = c.in_ok-unescaped.unescaped.places.items in
    let u : IsUnescapedTo text joined places = subst (λ (bs : List ℕ). IsUnescapedTo text bs places) (sym c.as_str.ensures.value) c.in_ok-unescaped.ensures.ok in
    omega (arith, text_within text joined places u.units c.utf8.text u.of u.whole, c.without_sub.ensures.shorter, c.requires)

pub returns-in-Ok : goal.returns-in-Ok
returns-in-Ok c =
    let text = c.args.text.now in
    let level = c.args.level in
    let joined = c.as_str.result.now in
    let places = c.as_slice-places.result.now in
    let cut = c.without_sub.result.now in
    let q = c.tokens.new.cursor in
    let held : IsUnescapedTo text joined c.in_ok-unescaped.unescaped.places.items = subst (λ (bs : List ℕ). IsUnescapedTo text bs c.in_ok-unescaped.unescaped.places.items) (sym c.as_str.ensures.value) c.in_ok-unescaped.ensures.ok in
    let u : IsUnescapedTo text joined places = subst (λ (ps : List ℕ). IsUnescapedTo text joined ps) (sym c.as_slice-places.ensures.value) held in
    let s : AllScanned level (place_in cut 0) c.in-Ok.found.items q = subst (λ (p : Place). AllScanned level p c.in-Ok.found.items q) c.start-cursor.ensures c.in-Ok.ensures in
    moved_reports level text places c.in-Ok.found.items c.moved_tokens.result c.moved_tokens.ensures.ok c.moved_tokens.ensures.err
    (escaped_reports level text joined cut places q u.units c.in-Ok.found.items u.of u.whole c.without_sub.ensures.value s)

pub returns : goal.returns
returns c =
    let text = c.args.text.now in
    let level = c.args.level in
    let joined = c.as_str.result.now in
    let places = c.as_slice-places.result.now in
    let cut = c.without_sub.result.now in
    let q = c.tokens.new.cursor in
    let held : IsUnescapedTo text joined c.in_ok-unescaped.unescaped.places.items = subst (λ (bs : List ℕ). IsUnescapedTo text bs c.in_ok-unescaped.unescaped.places.items) (sym c.as_str.ensures.value) c.in_ok-unescaped.ensures.ok in
    let u : IsUnescapedTo text joined places = subst (λ (ps : List ℕ). IsUnescapedTo text joined ps) (sym c.as_slice-places.ensures.value) held in
    let s : Scans level (place_in cut 0) (Err c.in-Err.fault) q = subst (λ (p : Place). Scans level p (Err c.in-Err.fault) q) c.start-cursor.ensures c.in-Err.ensures in
    subst (λ (f : ScanFault). Reports level text (Err f)) (sym c.moved_fault.ensures) (escaped_reports_fault level text joined cut places q u.units c.in-Err.fault u.of u.whole c.without_sub.ensures.value s)
