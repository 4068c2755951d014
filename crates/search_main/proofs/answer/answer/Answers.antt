use Rattle.std.proofs.Common.{◌≡◌, ◌∙◌, Err, ap, sym, subst}
use Rattle.std.specs.List.{AllByRecursion}
use Rattle.std.proofs.lemmas.Result.{err_from_is_err_and}
use Rattle.script_text.specs.declared.fault.ScriptFault.TheVariants as faults
use Rattle.java_tree.specs.declared.outline.Level.TheVariants.{Java14}
use Rattle.java_model.specs.Documents.{AreInOrder}
use Rattle.java_model.specs.ScriptText.{IsScriptDoc}
use Rattle.java_model.specs.Texts.{IsOutlineOf}
use Rattle.script_text.specs.Spelling.{IsScriptSearch}
use Rattle.search_main.specs.Inner.Views.{documents_read, environment_of}
use Rattle.search_main.proofs.Documents.{is_opening}
use Rattle.search_main.proofs.Answering.{legal_docs, legal_searches, answers_script}
use Rattle.search_main.proofs.answer.answer.Goals as goal

pub returns-in_err-docs-clause-not_built : goal.returns-in_err-docs-clause-not_built
returns-in_err-docs-clause-not_built c = λ fault.
    let p = err_from_is_err_and c.from_residual.result c.from_residual.ensures.1 in
    let same : c.in_err-docs.field-0.0 ≡ faults.NotBuilt = cc in
    c.in_err-docs.ensures.not_built (ap Err same)

pub read_documents-requires : goal.read_documents-requires
read_documents-requires c = legal_docs c.args.bytes.now c.in_ok-docs.field-0 c.in_ok-docs.ensures.found

pub environment-requires-clause-legal : goal.environment-requires-clause-legal
environment-requires-clause-legal c =
    subst (AllByRecursion IsScriptDoc) (sym (ap documents_read c.deref.ensures.value ∙ c.in_ok-opened.ensures.same)) (legal_docs c.args.bytes.now c.in_ok-docs.field-0 c.in_ok-docs.ensures.found)

pub environment-requires-clause-order : goal.environment-requires-clause-order
environment-requires-clause-order c =
    subst AreInOrder (sym (ap documents_read c.deref.ensures.value ∙ c.in_ok-opened.ensures.same)) c.in_ok-docs.ensures.found.in_order

pub output-requires-clause-opening : goal.output-requires-clause-opening
output-requires-clause-opening c =
    let same = c.deref.ensures.value ∙ sym c.deref-2.ensures.value in
    is_opening c.deref-2.result.now c.in_ok-env.env (c.in_ok-env.ensures ∙ ap environment_of same)
    (subst (AllByRecursion (λ o. IsOutlineOf Java14 o.document.text o.document.outline)) (sym c.deref-2.ensures.value) c.in_ok-opened.ensures.outlined)
    (subst (AllByRecursion (λ o. o.document.level ≡ Java14)) (sym c.deref-2.ensures.value) c.in_ok-opened.ensures.levels)

pub output-requires-clause-searches : goal.output-requires-clause-searches
output-requires-clause-searches c =
    subst (AllByRecursion IsScriptSearch) (sym c.deref-3.ensures.value) (legal_searches c.args.bytes.now c.in_ok-docs.field-0 c.in_ok-docs.ensures.found)

pub returns-clause-answered : goal.returns-clause-answered
returns-clause-answered c =
    answers_script c.args.bytes.now _ c.in_ok-docs.field-0 c.in_ok-opened.opened.items c.in_ok-docs.ensures.found c.in_ok-opened.ensures.same
    (rw (c.deref-2.ensures.value, c.deref-3.ensures.value) at c.in_ok-output.ensures)
