use Rattle.std.proofs.Common.{◌∷◌, [], ◌++◌, ◌+◌, ℕ, length, drop, set, refl, ◌∙◌, ap, arith}
use Rattle.std.specs.Bool.{if◌then◌else◌}
use Rattle.byteorder.specs.Endian.{big_bytes}
use Rattle.index_states.proofs.Fronts.{put_after, set_first}
use Rattle.index_states.proofs.cell.put_kind.Goals as goal

pub returns : goal.returns
returns c =
    put_after 1 (17 + length c.args.name.now) (18 + length c.args.name.now) (set c.args.bytes.now 0 c.kind_of.result) ((if c.args.rebuild then 2 else 1) ∷ [])
    (big_bytes 8 c.args.generation ++ (big_bytes 8 c.args.size ++ (length c.args.name.now ∷ c.args.name.now))) c.args.bytes.now c.put_generation.new.bytes
    (set_first c.args.bytes.now c.kind_of.result (omega arith) ∙ ap (λ (b : ℕ). (b ∷ []) ++ drop 1 c.args.bytes.now) c.kind_of.ensures) refl (omega arith) (omega arith) c.put_generation.ensures
