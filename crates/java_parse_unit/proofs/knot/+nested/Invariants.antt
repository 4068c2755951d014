use Rattle.java_parse_unit.proofs.knot.+nested.Given as goal

abbrev pub decreases-stmt : goal.decreases-stmt
decreases-stmt l = l.depth

abbrev pub decreases-type_decl : goal.decreases-type_decl
decreases-type_decl l = l.depth
