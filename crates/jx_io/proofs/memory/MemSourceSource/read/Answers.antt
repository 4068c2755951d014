use Rattle.std.proofs.Common.{◌≡◌, ℕ, ◌+◌, ◌-◌, ◌∙◌, List, ◌++◌, length, take, drop, sym, ap, arith, rules, take-append-drop, drop-drop}
use Rattle.std.proofs.Math.Seq.{take-append_seam}
use Rattle.jx_io.specs.Memory.{SourceState}
use Rattle.jx_io.proofs.memory.MemSourceSource.read.Goals as goal

-- the first bytes that are left, which were copied over the start of the buffer, and the bytes after them
copied_start : (left bytes first after : List ℕ) (at n : ℕ) → left ≡ drop at bytes → length first ≡ n → first ≡ take (at + n - at) (drop at bytes)
    → left ≡ take n (first ++ after) ++ drop (at + n) bytes
copied_start left bytes first after at n is_left is_long copied =
    let count : at + n - at ≡ n = omega arith in
    let given : take n (first ++ after) ≡ take n (drop at bytes) = ap (λ k. take k (first ++ after)) (sym is_long) ∙ take-append_seam first after ∙ copied ∙ ap (λ k. take k (drop at bytes)) count in
    rw (is_left, given, ← drop-drop n at bytes) (sym (take-append-drop n (drop at bytes)))

pub returns-clause-taken : goal.returns-clause-taken
returns-clause-taken c =
    copied_start c.args.self.now.left c.self.inside.bytes.items c.copy_from_slice.new.self (drop c.min-count.result c.args.buf.now) c.self.inside.at c.min-count.result
    (sym (ap (λ (s : SourceState). s.left) c.self.view_is)) (search rules) (search rules)
