use Rattle.java_parse_expr.proofs.grammar.+nested.Given as goal

abbrev pub decreases-expr : goal.decreases-expr
decreases-expr l = l.depth

abbrev pub decreases-prefix : goal.decreases-prefix
decreases-prefix l = l.depth

abbrev pub decreases-braces : goal.decreases-braces
decreases-braces l = l.depth
