-- What a crash since some moment may have left, over one call and over several.
use Rattle.std.proofs.Common.{inl, inr, ⊎_elim, ℕ, arith}
use Rattle.jx_disk.specs.Disk.{Image, Elapses, LeavesOnly}

module _ {D : Type 0} (moment : D → ℕ) (left_since : D → ℕ → Image → Type 0) where
  -- one call: what a crash may leave before it, and what one may leave after it, has P
  pub over_call : (old new : D) (was now P : Image → Type 0) → ((image : Image) → left_since old (moment old) image → was image)
      → Elapses (moment old) (moment new) (left_since old) (left_since new) now
      → ((image : Image) → was image → P image) → ((image : Image) → now image → P image) → LeavesOnly moment left_since old new P
  over_call old new was now P only_now time before after = record {
    later = time.later;
    each = λ image left. ⊎_elim (λ past. before image (only_now image past)) (after image) (time.nothing_else (moment old) image (omega arith) left);
    before = λ t image le left. ⊎_elim (λ past. inl past) (λ new. inr (after image new)) (time.nothing_else t image le left);
  }

  -- two runs of calls, one after the other
  pub and_then : (old mid new : D) (P Q : Image → Type 0) → LeavesOnly moment left_since old mid P → LeavesOnly moment left_since mid new Q
      → ((image : Image) → Q image → P image) → LeavesOnly moment left_since old new P
  and_then old mid new P Q first second widen = record {
    later = omega (arith, first.later, second.later);
    each = λ image left. ⊎_elim (first.each image) (widen image) (second.before (moment old) image first.later left);
    before = λ t image le left.
        ⊎_elim (first.before t image le) (λ late. inr (widen image late)) (second.before t image (omega (arith, le, first.later)) left);
  }

  pub widened : (old new : D) (P Q : Image → Type 0) → LeavesOnly moment left_since old new P → ((image : Image) → P image → Q image) → LeavesOnly moment left_since old new Q
  widened old new P Q narrow widen = record {
    later = narrow.later;
    each = λ image left. widen image (narrow.each image left);
    before = λ t image le left. ⊎_elim (λ past. inl past) (λ late. inr (widen image late)) (narrow.before t image le left);
  }
