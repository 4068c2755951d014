use Rattle.std.proofs.Common.{◌≡◌, ◌≤◌, ℕ, length, Result, Ok, Err, IfOk, IsErr, OnErr, subst, sym}
use Rattle.jx_disk.proofs.dir_disk.DirDiskDisk.read_at.Goals as goal

-- a count within the buffer is answered, or none
within : {E F : Type 0} (given : Result ℕ E) (answer : Result ℕ F) (most : ℕ) → IfOk given (λ n. n ≤ most) → IfOk given (λ n. answer ≡ Ok n) → OnErr given (IsErr answer) → IfOk answer (λ n. n ≤ most)
within {F = F} (Ok n) answer most le is failed = subst (λ (r : Result ℕ F). IfOk r (λ m. m ≤ most)) (sym is) le
within {F = F} (Err e) (Ok n) most le is failed = absurd cc
within {F = F} (Err e) (Err f) most le is failed = tt

pub returns-clause-within : goal.returns-clause-within
returns-clause-within g c = within c.read_at-count.result c.answer.result (length c.read_at-count.new.buf) c.read_at-count.ensures c.answer.ensures.given c.answer.ensures.failed
