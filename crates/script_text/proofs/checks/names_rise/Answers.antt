use Rattle.std.proofs.Common.{◌∙◌, sym, arith}
use Rattle.std.specs.Prelude.{map}
use Rattle.std.specs.Cmp.Lexicographic.{slice_cmp}
use Rattle.std.specs.Ordering.{nat_cmp}
use Rattle.std.proofs.lemmas.List.{length-map}
use Rattle.script_text.proofs.SortedDocuments.{rises-short}
use Rattle.script_text.proofs.checks.names_rise.Goals as goal

pub returns : goal.returns
returns c =
    sym (rises-short (slice_cmp nat_cmp) (map (λ name. name.now) c.loop-rest.rest.now) (omega (arith, length-map c.loop-rest.rest.now (λ name. name.now)))) ∙ c.loop-rest.invariant
