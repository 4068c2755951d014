use Rattle.std.proofs.Common.{◌≡◌, ◌∙◌, sym, ◌++◌, ◌∷◌, []}
use Rattle.std.proofs.lemmas.Result.{err_from_is_err_and}
use Rattle.std.proofs.lemmas.List.{map_push}
use Rattle.script_text.specs.Views.{document_of, documents_of}
use Rattle.script_text.specs.Inner.Reading.{docs_at}
use Rattle.script_text.proofs.Scripts.ReadLoops.{docs_go_on, docs_fail, docs_end, docs_stop}
use Rattle.script_text.proofs.reading.docs.Goals as goal

pub returns-then-not-starts_with : goal.returns-then-not-starts_with
returns-then-not-starts_with c =
    docs_end (documents_of c.loop.docs.items) c.args.limit c.loop.counter c.loop.rest.now (docs_at c.args.limit c.args.bytes.now) c.loop-test.true
    (sym c.starts_with.ensures.value ∙ c.if-not-starts_with.true) c.loop.invariant

pub returns-in_err-next : goal.returns-in_err-next
returns-in_err-next c =
    let p = err_from_is_err_and c.from_residual.result c.from_residual.ensures.1 in
    rw (p.1, p.2) (docs_fail c.in_err-next.field-0.0 (documents_of c.loop.docs.items) c.args.limit c.loop.counter c.loop.rest.now (docs_at c.args.limit c.args.bytes.now) c.loop-test.true
    (sym c.starts_with.ensures.value ∙ c.if-not-starts_with.false) c.in_err-next.ensures c.loop.invariant)

pub loop-preserved : goal.loop-preserved
loop-preserved c =
    let next = c.in_ok-next.next in
    let e : documents_of c.push.new.self.items ≡ documents_of c.loop.docs.items ++ document_of next ∷ [] = rw c.in_ok-push.ensures.items (map_push _ c.loop.docs.items next) in
    rw e (docs_go_on (documents_of c.loop.docs.items) c.args.limit c.loop.counter c.loop.rest.now (document_of next) c.in_ok-next.after.now (docs_at c.args.limit c.args.bytes.now) c.loop-test.true
    (sym c.starts_with.ensures.value ∙ c.if-not-starts_with.false) c.in_ok-next.ensures c.loop.invariant)

pub returns : goal.returns
returns c = docs_stop (documents_of c.loop.docs.items) c.args.limit c.loop.counter c.loop.rest.now (docs_at c.args.limit c.args.bytes.now) c.loop-test.false c.loop.invariant
