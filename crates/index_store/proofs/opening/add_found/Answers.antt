use Rattle.std.proofs.Common.{◌≡◌, ◌+◌, ◌<◌, ℕ, List, length, get_or, Option, None, Some, sym, ◌∙◌, subst, arith}
use Rattle.std.proofs.lemmas.List.{get_or_read}
use Rattle.index_states.specs.declared.cell.Cell.{Cell}
use Rattle.index_store.specs.Opened.{FindsBelow}
use Rattle.index_store.specs.Table.{IsNamed}
use Rattle.index_store.specs.declared.found.Found.{Found}
use Rattle.index_store.proofs.Finding.{passed_over, added}
use Rattle.index_store.proofs.opening.add_found.Goals as goal

pub returns-in_ok-push-clause-found : goal.returns-in_ok-push-clause-found
returns-in_ok-push-clause-found g c honest below =
    let low : c.args.pair < length c.args.table.now = omega arith in
    let entry : get_or c.args.table.now c.args.pair None ≡ Some c.in-Some.cell =
    sym (get_or_read c.args.table.now c.args.pair c.index-table-pair.result low c.index-table-pair.is None) ∙ c.in-Some.is in
    subst (λ (found : List (List ℕ × Found)). FindsBelow (g.D.Disk.seen c.args.disk.now) c.args.table.now (c.args.pair + 1) found) (sym c.in_ok-push.ensures.items)
    (added (g.D.Disk.seen c.args.disk.now) c.args.table.now c.args.pair c.args.found.now.items below (c.in_ok-name.name, c.in_ok-find.field-0) (record {
      cell = c.in-Some.cell;
      entry = entry;
      name = c.in_ok-name.ensures;
      first = λ before less named.
          c.is_first.ensures.first c.if-is_first.true before less (subst (λ (n : List ℕ). IsNamed (get_or c.args.table.now before None) n) (sym c.as_str.ensures) named);
      is = c.in_ok-find.ensures.found honest;
    }))

pub returns-else-is_first-clause-found : goal.returns-else-is_first-clause-found
returns-else-is_first-clause-found g c honest below =
    let low : c.args.pair < length c.args.table.now = omega arith in
    let entry : get_or c.args.table.now c.args.pair None ≡ Some c.in-Some.cell =
    sym (get_or_read c.args.table.now c.args.pair c.index-table-pair.result low c.index-table-pair.is None) ∙ c.in-Some.is in
    let earlier = c.is_first.ensures.later c.if-is_first.false in
    passed_over (g.D.Disk.seen c.args.disk.now) c.args.table.now c.args.pair c.args.found.now.items below
    (λ name named. (
      earlier.0,
      earlier.1,
      subst (λ (n : List ℕ). IsNamed (get_or c.args.table.now earlier.0 None) n) (c.as_str.ensures ∙ subst (λ (e : Option Cell). IsNamed e name) entry named) earlier.2,
    ))

pub returns-in_default-clause-found : goal.returns-in_default-clause-found
returns-in_default-clause-found g c honest below =
    let low : c.args.pair < length c.args.table.now = omega arith in
    let entry : get_or c.args.table.now c.args.pair None ≡ None =
    sym (get_or_read c.args.table.now c.args.pair c.index-table-pair.result low c.index-table-pair.is None) ∙ c.in_default.is in
    passed_over (g.D.Disk.seen c.args.disk.now) c.args.table.now c.args.pair c.args.found.now.items below
    (λ name named. absurd (subst (λ (e : Option Cell). IsNamed e name) entry named))
