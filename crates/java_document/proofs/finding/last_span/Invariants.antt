use Rattle.std.proofs.Common.{◌≡◌, map, take}
use Rattle.java_model.specs.Grammar.Forms.{last_or}
use Rattle.java_model.specs.Outlines.{no_span}
use Rattle.java_document.proofs.finding.last_span.Given as goal

-- the span of the last identifier so far
abbrev pub invariant-loop-ident : goal.invariant-loop-ident
invariant-loop-ident l = l.span ≡ last_or no_span (map (λ i. i.span) (take l.ident-index l.name))
