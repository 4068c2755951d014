use Rattle.std.proofs.Common.{◌≡◌, ℕ, ◌+◌, ◌-◌, ◌≤◌, List, ◌++◌, ◌∙◌, length, take, arith, length-append, length-take}
use Rattle.jx_io.proofs.StreamLaws.{Takes-append}
use Rattle.jx_io.proofs.whole.read_all.Goals as goal
use Rattle.jx_io.proofs.whole.read_all.Goals.{then-room-lt-CHUNK, else-room-lt-CHUNK}

-- the bytes so far, and the count that was taken next
length-more : (items buf : List ℕ) (count : ℕ) → count ≤ length buf → length (items ++ take count buf) ≡ length items + count
length-more items buf count within = simp (length-append, length-take) (omega arith)

-- a read is asked for one byte more than there is room for, and no more
pub returns-then-count-room-clause-too_long : goal.returns-then-count-room-clause-too_long
returns-then-count-room-clause-too_long g c = λ _.
    let asked : c.if-room-lt-CHUNK.want ≤ c.args.limit - c.len.result + 1 =
    elim c.if-room-lt-CHUNK.branch [ then-room-lt-CHUNK w ↦ omega arith | else-room-lt-CHUNK w ↦ omega arith ] in
    record {
      bytes = c.loop-want.bytes.items ++ take c.in_ok-count.count c.read.new.buf;
      taken = Takes-append _ _ _ _ _ c.loop-want.invariant.taken c.in_ok-count.ensures.taken;
      fact = length-more c.loop-want.bytes.items c.read.new.buf c.in_ok-count.count c.in_ok-count.ensures.within ∙ omega (arith, c.in_ok-count.ensures.within, length-take {A = ℕ}, c.loop-want.bytes.ok.0);
    }

pub returns-in_err-extend_from_slice-clause-not_too_long :
    goal.returns-in_err-extend_from_slice-clause-not_too_long
returns-in_err-extend_from_slice-clause-not_too_long g c = λ _. record {
  bytes = c.loop-want.bytes.items ++ take c.in_ok-count.count c.read.new.buf;
  taken = Takes-append _ _ _ _ _ c.loop-want.invariant.taken c.in_ok-count.ensures.taken;
  fact = rw (length-more c.loop-want.bytes.items c.read.new.buf c.in_ok-count.count c.in_ok-count.ensures.within) (omega (arith, c.loop-want.bytes.ok.0));
}
