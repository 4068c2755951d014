use Rattle.java_scan.proofs.ReportLaws.{tokens_told, fault_told}
use Rattle.java_scan.proofs.scanner.scan_at.Goals as goal

pub returns-then-has_escape-clause-tokens_exactly : goal.returns-then-has_escape-clause-tokens_exactly
returns-then-has_escape-clause-tokens_exactly c = tokens_told c.args.level c.args.text.now c.scan_escaped.result c.scan_escaped.ensures

pub returns-then-has_escape-clause-fault_exactly : goal.returns-then-has_escape-clause-fault_exactly
returns-then-has_escape-clause-fault_exactly c = fault_told c.args.level c.args.text.now c.scan_escaped.result c.scan_escaped.ensures

pub returns-clause-tokens_exactly : goal.returns-clause-tokens_exactly
returns-clause-tokens_exactly c = tokens_told c.args.level c.args.text.now c.scan_plain.result c.scan_plain.ensures

pub returns-clause-fault_exactly : goal.returns-clause-fault_exactly
returns-clause-fault_exactly c = fault_told c.args.level c.args.text.now c.scan_plain.result c.scan_plain.ensures
