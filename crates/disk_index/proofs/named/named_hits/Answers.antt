use Rattle.std.proofs.Common.{◌∙◌, subst, length, drop, List, ℕ}
use Rattle.std.proofs.lemmas.Result.{err_from_is_err_and}
use Rattle.java_model.specs.IndexFile.Reading.{number_at}
use Rattle.disk_index.specs.Reads.{Fails}
use Rattle.disk_index.proofs.NamedFile.{are_words, never_cut}
use Rattle.disk_index.proofs.NamedWords.{searched_more, searched_all}
use Rattle.disk_index.proofs.named.named_hits.Goals as goal

pub returns-in_err-count : goal.returns-in_err-count
returns-in_err-count g c = λ postings read legal.
    let p = err_from_is_err_and c.from_residual.result c.from_residual.ensures.1 in
    rw (p.1, p.2) (never_cut c.in_err-count.field-0.0 (length c.args.file.now) c.args.range (drop c.args.words c.args.file.now) postings (subst (λ (l : List ℕ). Fails c.in_err-count.field-0.0 (number_at 4 l)) c.from_place.ensures c.in_err-count.ensures.value) read)

pub returns-in_err-add_category : goal.returns-in_err-add_category
returns-in_err-add_category g c = λ postings read legal.
    let p = err_from_is_err_and c.from_residual-in_err-add_category.result c.from_residual-in_err-add_category.ensures.1 in
    rw (p.1, p.2) (c.in_err-add_category.ensures c.loop-byte.byte c.args.name.now postings (c.as_slice.ensures.value ∙ c.in_ok-set_key.ensures) c.requires
    (are_words c.args.file.now c.in_ok-count.table.now c.from_place.result.now c.args.range c.args.words c.in_ok-count.count postings c.in_ok-count.ensures.value c.from_place.ensures read) legal)

pub loop-byte-preserved : goal.loop-byte-preserved
loop-byte-preserved g c = λ postings read legal.
    searched_more (g.P.Admit.admitted c.args.pattern.now) c.loop-byte.byte postings c.loop-byte.hits.items c.add_category.new.hits.items (c.loop-byte.invariant postings read legal)
    (c.in_ok-add_category.ensures c.loop-byte.byte c.args.name.now postings (c.as_slice.ensures.value ∙ c.in_ok-set_key.ensures) c.requires
    (are_words c.args.file.now c.in_ok-count.table.now c.from_place.result.now c.args.range c.args.words c.in_ok-count.count postings c.in_ok-count.ensures.value c.from_place.ensures read) legal)

pub returns : goal.returns
returns g c = λ postings read legal k.
    searched_all (g.P.Admit.admitted c.args.pattern.now) c.args.range c.loop-byte.byte postings c.loop-byte.hits.items k c.loop-byte-test.false legal (c.loop-byte.invariant postings read legal)
