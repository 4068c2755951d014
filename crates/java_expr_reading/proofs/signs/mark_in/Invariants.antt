use Rattle.std.proofs.Common.{◌≡◌, drop, map}
use Rattle.java_model.specs.Grammar.Marks.{spelled, mark_of}
use Rattle.java_expr_reading.proofs.signs.mark_in.Given as goal

-- the words so far aren't spelled so
abbrev pub invariant-loop-at : goal.invariant-loop-at
invariant-loop-at l =
    mark_of (spelled l.marks (map (λ word. word.now) l.words)) l.name
    ≡ mark_of (spelled (drop l.at l.marks) (drop l.at (map (λ word. word.now) l.words))) l.name
