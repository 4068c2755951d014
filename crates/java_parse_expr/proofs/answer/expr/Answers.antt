use Rattle.java_parse_expr.proofs.AnswerLaws.{expr_is_found, expr_is_complete, none_stands, counts_steps}
use Rattle.java_parse_expr.proofs.answer.expr.Goals as goal

pub returns-clause-found : goal.returns-clause-found
returns-clause-found g c = expr_is_found c.args.goal c.args.marked.now c.args.at c.args.depth c.read_expr-found.result c.requires.place c.read_expr-found.ensures

pub returns-clause-complete : goal.returns-clause-complete
returns-clause-complete g c = expr_is_complete c.args.goal c.args.marked.now c.args.at c.args.depth c.read_expr-found.result c.requires.place c.read_expr-found.ensures

pub returns-clause-none : goal.returns-clause-none
returns-clause-none g c = none_stands c.args.goal c.args.marked.now c.args.at c.args.depth c.read_expr-found.result c.read_expr-found.ensures

pub returns-clause-steps : goal.returns-clause-steps
returns-clause-steps g c =
    counts_steps c.args.goal c.args.marked.now c.args.at c.args.depth c.args.steps.now c.add.new.self c.read_expr-found.result c.requires.place c.read_expr-found.ensures cc
