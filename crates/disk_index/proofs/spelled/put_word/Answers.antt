use Rattle.std.proofs.Common.{◌++◌, ◌∙◌, ℕ, [], refl, ap, length, arith}
use Rattle.java_model.specs.IndexFile.Spelling.{posting_bytes}
use Rattle.java_model.specs.IndexFile.Reading.{with_start}
use Rattle.disk_index.specs.Written.{posting_of}
use Rattle.disk_index.proofs.EncodeLaws.{spells_more}
use Rattle.disk_index.proofs.spelled.put_word.Goals as goal

pub returns-clause-spelled : goal.returns-clause-spelled
returns-clause-spelled c = λ before spelled.
    spells_more c.args.words.now _ before (posting_of c.args.word.items c.args.rows.now)
    (c.in_ok-put_posting.ensures ∙ (λ i. c.args.words.now.bytes.items ++ posting_bytes c.args.words.now.place (c.as_slice-2.ensures.value i) (posting_of (c.as_slice-3.ensures.value i) c.args.rows.now)))
    (c.in_ok-push_start.ensures ∙ ap (λ (n : ℕ). c.args.words.now.starts.items ++ with_start c.args.words.now.place n []) (ap length c.as_slice.ensures.value)) (omega (arith, c.in-Some.ensures)) c.next_place-words.ensures.value refl spelled
