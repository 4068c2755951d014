use Rattle.std.proofs.Common.{◌∙◌, ◌∷◌, length, subst, sym, true, List, ℕ, ◌≡◌}
use Rattle.std.proofs.lemmas.Result.{err_from_is_err_and}
use Rattle.java_tree.specs.Keys.{is_word}
use Rattle.disk_index.proofs.BlockLoop.{posting_fails}
use Rattle.disk_index.proofs.RowLoop.{word_is, given_rows}
use Rattle.disk_index.proofs.rows.push_posting.Goals as goal

pub returns-in_err-count : goal.returns-in_err-count
returns-in_err-count c =
    let p = err_from_is_err_and c.from_residual.result c.from_residual.ensures.1 in
    rw (p.1, p.2) (posting_fails c.in_err-count.field-0.0 (length c.args.live.now) c.args.place c.args.word.now.items c.args.bytes.now c.in_err-count.ensures)

pub parts_of-byte-requires : goal.parts_of-byte-requires
parts_of-byte-requires c =
    subst (λ (w : List ℕ). is_word w ≡ true) (sym c.as_slice.ensures.value)
    (word_is c.args.place c.args.word.now.items c.args.bytes.now c.head_at.new.word.items c.in_ok-count.count c.in_ok-count.rest.now c.in_ok-count.ensures)

pub returns : goal.returns
returns c =
    given_rows c.args.live.now c.args.rows.now c.push_numbers.new.rows c.push_numbers.result c.args.place c.args.word.now.items c.args.bytes.now c.head_at.new.word.items (c.parts_of-byte.result.0 ∷ c.parts_of-byte.result.1.now)
    c.in_ok-count.count c.in_ok-count.rest.now (c.parts_of-byte.ensures ∙ c.as_slice.ensures.value) c.in_ok-count.ensures c.push_numbers.ensures
