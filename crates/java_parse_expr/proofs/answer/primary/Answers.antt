use Rattle.java_parse_expr.proofs.AnswerLaws.{primary_is_found, primary_is_complete, no_primary_stands, counts_primary_steps}
use Rattle.java_parse_expr.proofs.answer.primary.Goals as goal

pub returns-clause-found : goal.returns-clause-found
returns-clause-found g c = primary_is_found c.args.marked.now c.args.at c.args.depth c.read_primary-found.result c.requires.place c.read_primary-found.ensures

pub returns-clause-complete : goal.returns-clause-complete
returns-clause-complete g c = primary_is_complete c.args.marked.now c.args.at c.args.depth c.read_primary-found.result c.requires.place c.read_primary-found.ensures

pub returns-clause-none : goal.returns-clause-none
returns-clause-none g c = no_primary_stands c.args.marked.now c.args.at c.args.depth c.read_primary-found.result c.read_primary-found.ensures

pub returns-clause-steps : goal.returns-clause-steps
returns-clause-steps g c =
    counts_primary_steps c.args.marked.now c.args.at c.args.depth c.args.steps.now c.add.new.self c.read_primary-found.result c.requires.place c.read_primary-found.ensures cc
