use Rattle.std.proofs.Common.{◌∙◌, ap, length, take, ℕ}
use Rattle.index_bench.proofs.FirstField.{field_is, field_taken}
use Rattle.index_bench.proofs.pattern.first_field.Goals as goal

pub returns : goal.returns
returns c = ap (λ (n : ℕ). take n c.args.text.now) (c.field_length.ensures ∙ ap length (field_is c.args.text.now)) ∙ field_taken c.args.text.now
