use Rattle.std.proofs.Common.{◌∷◌, ◌+◌, length, refl, arith}
use Rattle.byteorder.specs.Endian.{big_bytes}
use Rattle.index_states.proofs.Fronts.{put_after}
use Rattle.index_states.proofs.cell.put_length.Goals as goal

pub returns : goal.returns
returns c =
    put_after 8 (1 + length c.args.name.now) (9 + length c.args.name.now) c.write_u64.new.buf (big_bytes 8 c.args.size) (length c.args.name.now ∷ c.args.name.now) c.args.bytes.now c.put_name.new.bytes
    c.write_u64.ensures refl (omega arith) (omega arith) c.put_name.ensures
