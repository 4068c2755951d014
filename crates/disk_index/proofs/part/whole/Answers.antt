use Rattle.std.proofs.Common.{◌∙◌, ap, length}
use Rattle.std.specs.Prelude.{replicate, true}
use Rattle.disk_index.proofs.FileRead.{whole_table, whole_part}
use Rattle.disk_index.proofs.part.whole.Goals as goal

pub invariant_of-result : goal.invariant_of-result
invariant_of-result c =
    whole_table c.args.bytes.items c.args.places.items c.args.words c.in-Ok.live.items c.requires.0 c.requires.1 (c.in-Ok.ensures ∙ ap (λ n. replicate n true) (ap length c.as_slice.ensures.value))

pub returns-clause-found : goal.returns-clause-found
returns-clause-found c =
    whole_part c.args.bytes.items c.args.places.items c.args.words c.in-Ok.live.items c.requires.0 c.requires.1 (c.in-Ok.ensures ∙ ap (λ n. replicate n true) (ap length c.as_slice.ensures.value))
