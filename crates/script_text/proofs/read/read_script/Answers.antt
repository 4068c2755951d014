use Rattle.std.proofs.Common.{◌≡◌, ◌∙◌, true, [], Err, sym, ap, subst}
use Rattle.std.specs.Prelude.{map}
use Rattle.std.specs.List.{IsDistinct}
use Rattle.std.specs.Str.{bytes_eq}
use Rattle.std.proofs.lemmas.Result.{err_from_is_err_and}
use Rattle.std.proofs.lemmas.List.Sorted.{IsPermutation-map}
use Rattle.script_text.specs.declared.fault.ScriptFault.TheVariants as faults
use Rattle.script_text.specs.Inner.Checks.{runs_fit}
use Rattle.script_text.specs.Views.{document_of, documents_of}
use Rattle.script_text.proofs.Scripts.OneScript.{no_script, few_of, own_names_of, names_differ_of, has_lines}
use Rattle.script_text.proofs.Scripts.Runs.{few_from_runs, few_permuted, runs_from_few}
use Rattle.script_text.proofs.read.read_script.Goals as goal

pub returns-in_err-docs-clause-not_built : goal.returns-in_err-docs-clause-not_built
returns-in_err-docs-clause-not_built c = λ fault accepted.
    let p = err_from_is_err_and c.from_residual.result c.from_residual.ensures.1 in
    let same : c.in_err-docs.field-0.0 ≡ faults.NotBuilt = cc in
    no_script c.in_err-docs.field-0.0 c.args.bytes.now same c.in_err-docs.ensures accepted.0 accepted.1

pub returns-then-not-branch-clause-not_built : goal.returns-then-not-branch-clause-not_built
returns-then-not-branch-clause-not_built c = λ fault accepted.
    let lines = c.in_ok-docs.field-0 in
    let own = own_names_of c.args.bytes.now lines.docs.items lines.searches.items accepted.0 c.in_ok-docs.ensures accepted.1 in
    let test = c.in_ok-have_own_names.ensures.1 (subst (λ searches. IsDistinct bytes_eq (map (λ s. s.name) searches)) (sym c.deref.ensures.value) own) in
    absurd cc

pub returns-in_err-docs-2-clause-not_built : goal.returns-in_err-docs-2-clause-not_built
returns-in_err-docs-2-clause-not_built c = λ fault accepted.
    let p = err_from_is_err_and c.from_residual-in_err-docs-2.result c.from_residual-in_err-docs-2.ensures.1 in
    let same : c.in_err-docs-2.field-0.0 ≡ faults.NotBuilt = cc in
    let lines = c.in_ok-docs.field-0 in
    c.in_err-docs-2.ensures.twice (ap Err same) (names_differ_of c.args.bytes.now lines.docs.items lines.searches.items accepted.0 c.in_ok-docs.ensures accepted.1)

pub returns-then-not-runs_fit-clause-not_built : goal.returns-then-not-runs_fit-clause-not_built
returns-then-not-runs_fit-clause-not_built c = λ fault accepted.
    let lines = c.in_ok-docs.field-0 in
    let few = few_of c.args.bytes.now lines.docs.items lines.searches.items accepted.0 c.in_ok-docs.ensures accepted.1 in
    let moved = IsPermutation-map document_of lines.docs.items c.in_ok-docs-2.docs.items c.in_ok-docs-2.ensures.sorted.0 in
    let fit : runs_fit [] 0 (documents_of c.in_ok-docs-2.docs.items) ≡ true = runs_from_few (documents_of c.in_ok-docs-2.docs.items) (few_permuted (documents_of lines.docs.items) (documents_of c.in_ok-docs-2.docs.items) moved few) in
    let test = c.runs_fit.ensures ∙ ap (λ docs. runs_fit [] 0 (documents_of docs)) c.deref-2.ensures.value ∙ fit in
    absurd cc

pub returns-clause-found : goal.returns-clause-found
returns-clause-found c =
    let lines = c.in_ok-docs.field-0 in
    let own = subst (λ searches. IsDistinct bytes_eq (map (λ s. s.name) searches)) c.deref.ensures.value (c.in_ok-have_own_names.ensures.0 c.if-not-branch.false) in
    let fit : runs_fit [] 0 (documents_of c.in_ok-docs-2.docs.items) ≡ true = ap (λ docs. runs_fit [] 0 (documents_of docs)) (sym c.deref-2.ensures.value) ∙ sym c.runs_fit.ensures ∙ c.if-not-runs_fit.false in
    let few = few_from_runs (documents_of c.in_ok-docs-2.docs.items) c.in_ok-docs-2.ensures.sorted.1 fit in
    has_lines c.args.bytes.now lines.docs.items (record { docs = c.in_ok-docs-2.docs; searches = lines.searches }) c.in_ok-docs.ensures few own c.in_ok-docs-2.ensures.sorted.0 c.in_ok-docs-2.ensures.sorted.1
