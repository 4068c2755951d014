use Rattle.std.proofs.Common.{◌≡◌, ℕ, ◌-◌, ◌<◌, List, map, take, chars, length, get_or, sym, ap, ◌∙◌, arith}
use Rattle.java_model.specs.Lexical.Escapes.{raw}
use Rattle.java_scan.proofs.PlainText.{sub_cut, sub_kept}
use Rattle.java_scan.proofs.scanner.without_sub.Goals as goal
use Rattle.java_scan.proofs.scanner.without_sub.Goals.{else-len-gt0-via-then-len-gt0+else-bytes-len-eq26, else-len-gt0-via-else-len-gt0}

pub returns-then-bytes-len-eq26-clause-value : goal.returns-then-bytes-len-eq26-clause-value
returns-then-bytes-len-eq26-clause-value c =
    let text = c.args.text.now in
    let same = c.as_bytes-bytes.ensures.value in
    let some : 0 < length text = omega (arith, ap length same) in
    let last : get_or text (length text - 1) 0 ≡ 26 = ap (λ (bs : List ℕ). get_or bs (length bs - 1) 0) (sym same) ∙ c.if-bytes-len-eq26.true in
    let range : c.range.result.now ≡ take (length text - 1) text = c.range.ensures.value ∙ ap (λ (n : ℕ). take n text) (let e : length c.as_bytes-bytes.result.now - 1 - 0 ≡ length text - 1 = omega (arith, ap length same) in e) in
    ap (λ (bs : List ℕ). map raw (chars bs)) range ∙ sub_cut text c.utf8.text some last

pub returns-clause-value : goal.returns-clause-value
returns-clause-value c =
    let text = c.args.text.now in
    let same = c.as_bytes-bytes.ensures.value in
    elim c.else-len-gt0.branch [
      | else-len-gt0-via-then-len-gt0+else-bytes-len-eq26 w ↦ sub_kept text c.utf8.text (λ some last. w.if-bytes-len-eq26.false (ap (λ (bs : List ℕ). get_or bs (length bs - 1) 0) same ∙ last))
      | else-len-gt0-via-else-len-gt0 w ↦ sub_kept text c.utf8.text (λ some last. absurd (omega (arith, ap length same)))
    ]
