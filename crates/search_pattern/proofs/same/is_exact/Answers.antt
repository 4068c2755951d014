use Rattle.std.proofs.Common.{sym, ◌∙◌, arith}
use Rattle.std.proofs.lemmas.Bool.Decides.{nat_tests}
use Rattle.search_pattern.proofs.SameNames.{exact_of_one_length, exact_of_other_length}
use Rattle.search_pattern.proofs.same.is_exact.Goals as goal

pub returns-then-pattern-name : goal.returns-then-pattern-name
returns-then-pattern-name c =
    c.is_prefix.ensures ∙ sym (exact_of_one_length c.args.case c.args.pattern.now c.args.name.now c.if-pattern-name.true)

pub returns-else-pattern-name : goal.returns-else-pattern-name
returns-else-pattern-name c = rw (exact_of_other_length c.args.case c.args.pattern.now c.args.name.now c.if-pattern-name.false) (grind (arith, nat_tests))
