use Rattle.std.proofs.Common.{List, ℕ, get_or, Some, sym, ap, ◌∙◌, arith}
use Rattle.java_scan.specs.Place.{first}
use Rattle.java_scan.proofs.PlaceLaws.{first_at_end, first_ascii}
use Rattle.java_scan.proofs.cursor.Cursor.peek.Goals as goal

pub returns-then-self-bytes : goal.returns-then-self-bytes
returns-then-self-bytes c =
    sym (first_at_end c.self.inside.text.now c.self.inside.at (omega arith)) ∙ ap (λ p. first p.left) c.self.view_is

pub returns-then-byte-lt128 : goal.returns-then-byte-lt128
returns-then-byte-lt128 c =
    let text = c.self.inside.text.now in
    let at = c.self.inside.at in
    ap (λ (bytes : List ℕ). Some (get_or bytes at 0)) c.as_bytes-bytes.ensures.value ∙ (first_ascii text at c.self.invariant.0 c.self.invariant.1 (omega arith) (omega (arith, ap (λ (bytes : List ℕ). get_or bytes at 0) c.as_bytes-bytes.ensures.value)) ∙ ap (λ p. first p.left) c.self.view_is)
