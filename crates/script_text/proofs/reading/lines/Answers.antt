use Rattle.std.proofs.Common.{◌-◌, ◌≤◌, eqb, length, take, length-take, arith}
use Rattle.std.proofs.lemmas.List.Sums.{count_by-le-length}
use Rattle.std.proofs.lemmas.Result.{err_from_is_err_and}
use Rattle.java_model.specs.ScriptText.{newlines}
use Rattle.script_text.specs.Views.{documents_of}
use Rattle.script_text.proofs.Scripts.ReadLines.{docs_fault, searches_fault, lines_is, rest_within}
use Rattle.script_text.proofs.reading.lines.Goals as goal

pub returns-in_err-docs : goal.returns-in_err-docs
returns-in_err-docs c =
    let p = err_from_is_err_and c.from_residual.result c.from_residual.ensures.1 in
    rw (p.1, p.2) (docs_fault c.in_err-docs.field-0.0 c.args.bytes.now c.in_err-docs.ensures)

pub slice_bounds-newlines-count : goal.slice_bounds-newlines-count
slice_bounds-newlines-count c = rest_within c.args.bytes.now (documents_of c.in_ok-docs.docs.items) c.in_ok-docs.rest.now c.in_ok-docs.ensures

pub searches-requires : goal.searches-requires
searches-requires c =
    let within = rest_within c.args.bytes.now (documents_of c.in_ok-docs.docs.items) c.in_ok-docs.rest.now c.in_ok-docs.ensures in
    let front = take (length c.args.bytes.now - length c.in_ok-docs.rest.now) c.args.bytes.now in
    let few : newlines front ≤ length front = count_by-le-length (λ b. eqb b 10) front in
    omega (arith, within, c.newlines-first.ensures, few, length-take (length c.args.bytes.now - length c.in_ok-docs.rest.now) c.args.bytes.now)

pub returns-in_err-searches : goal.returns-in_err-searches
returns-in_err-searches c =
    let p = err_from_is_err_and c.from_residual-in_err-searches.result c.from_residual-in_err-searches.ensures.1 in
    rw (p.1, p.2) (searches_fault c.in_err-searches.field-0.0 c.args.bytes.now (documents_of c.in_ok-docs.docs.items) c.in_ok-docs.rest.now c.in_ok-docs.ensures (rw c.newlines-first.ensures at c.in_err-searches.ensures))

pub returns : goal.returns
returns c = lines_is c.args.bytes.now (documents_of c.in_ok-docs.docs.items) c.in_ok-docs.rest.now c.in_ok-searches.searches.items c.in_ok-docs.ensures (rw c.newlines-first.ensures at c.in_ok-searches.ensures)
