-- What is in scope after a part has been left.
use Rattle.std.proofs.Common.{◌≡◌, ℕ, List, ◌++◌, length, take, ap, ◌∙◌}
use Rattle.std.proofs.Math.Seq.{take-append_seam}
use Rattle.java_tree.specs.declared.bound.Bound.{Bound}

pub cut_back : (s more t : List Bound) (n : ℕ) → t ≡ s ++ more → n ≡ length s → take n t ≡ s
cut_back s more t n e f = ap (take n) e ∙ ap (λ m. take m (s ++ more)) f ∙ take-append_seam s more
