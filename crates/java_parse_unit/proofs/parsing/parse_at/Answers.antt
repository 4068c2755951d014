use Rattle.java_parse_unit.proofs.ParseLaws.{refused_told, unit_told, fault_told, no_tree_told}
use Rattle.java_parse_unit.proofs.parsing.parse_at.Goals as goal

pub returns-clause-refused : goal.returns-clause-refused
returns-clause-refused g c = refused_told c.args.level c.args.text.now c.parse_text.result c.parse_text.ensures

pub returns-clause-unit_exactly : goal.returns-clause-unit_exactly
returns-clause-unit_exactly g c u = unit_told c.args.level c.args.text.now u c.parse_text.result c.parse_text.ensures

pub returns-clause-fault_exactly : goal.returns-clause-fault_exactly
returns-clause-fault_exactly g c fault = fault_told c.args.level c.args.text.now fault c.parse_text.result c.parse_text.ensures

pub returns-clause-no_tree_exactly : goal.returns-clause-no_tree_exactly
returns-clause-no_tree_exactly g c tokens = no_tree_told c.args.level c.args.text.now tokens c.parse_text.result c.parse_text.ensures
