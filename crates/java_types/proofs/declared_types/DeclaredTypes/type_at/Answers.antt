use Rattle.std.proofs.Common.{◌+◌, ◌<◌, ◌≤◌, Some, length, get_or, subst, sym, ap, ◌∙◌, arith}
use Rattle.java_model.specs.Names.Environments.{type_id}
use Rattle.java_types.proofs.TypeAt.{nowhere, has_first, sought_none, sought_some, below_all}
use Rattle.java_types.proofs.declared_types.DeclaredTypes.type_at.Goals as goal

pub returns-in_default : goal.returns-in_default
returns-in_default c =
    nowhere c.args.self.now c.self.inside.documents c.as_slice.result.now c.self.inside.firsts c.self.inside.entries c.self.inside.names c.self.inside.members c.self.inside.packages c.args.doc.now c.args.number c.self.view_is c.as_slice.ensures c.in_default.ensures

pub bounds-as_slice-place-then-number-len : goal.bounds-as_slice-place-then-number-len
bounds-as_slice-place-then-number-len c =
    subst (λ xs. c.in-Some.place < length xs) (sym c.as_slice-then-number-len.ensures)
    (has_first c.args.self.now c.self.inside.documents c.as_slice.result.now c.self.inside.firsts c.self.inside.entries c.self.inside.names c.self.inside.members c.self.inside.packages c.args.doc.now c.args.number c.self.view_is c.as_slice.ensures
    c.self.invariant c.in-Some.place c.index-as_slice-place.result c.in-Some.ensures
    (c.index-as_slice-place.is ∙ ap (λ xs. get_or xs c.in-Some.place c.index-as_slice-place.result) (c.as_slice-2.ensures ∙ sym c.as_slice.ensures)))

pub id_below-requires : goal.id_below-requires
id_below-requires c =
    let short : c.args.number < length c.index-as_slice-place.result.outline.types = omega (arith, c.if-number-len.true, c.len.ensures) in
    let below = below_all c.args.self.now c.self.inside.documents c.as_slice.result.now c.self.inside.firsts c.self.inside.entries c.self.inside.names c.self.inside.members c.self.inside.packages c.args.doc.now c.args.number c.self.view_is c.as_slice.ensures
    c.self.invariant c.in-Some.place c.index-as_slice-place.result c.in-Some.ensures
    (c.index-as_slice-place.is ∙ ap (λ xs. get_or xs c.in-Some.place c.index-as_slice-place.result) (c.as_slice-2.ensures ∙ sym c.as_slice.ensures)) short in
    let first = ap (λ xs. get_or xs c.in-Some.place 0) c.as_slice-then-number-len.ensures in
    omega (arith, below, first, c.len-then-number-len.ensures)

pub returns-then-number-len : goal.returns-then-number-len
returns-then-number-len c =
    let short : c.args.number < length c.index-as_slice-place.result.outline.types = omega (arith, c.if-number-len.true, c.len.ensures) in
    ap Some c.id_below.ensures ∙ ap (λ xs. Some (type_id (get_or xs c.in-Some.place 0 + c.args.number))) c.as_slice-then-number-len.ensures
    ∙ sought_some c.args.self.now c.self.inside.documents c.as_slice.result.now c.self.inside.firsts c.self.inside.entries c.self.inside.names c.self.inside.members c.self.inside.packages c.args.doc.now c.args.number c.self.view_is c.as_slice.ensures
    c.self.invariant c.in-Some.place c.index-as_slice-place.result c.in-Some.ensures
    (c.index-as_slice-place.is ∙ ap (λ xs. get_or xs c.in-Some.place c.index-as_slice-place.result) (c.as_slice-2.ensures ∙ sym c.as_slice.ensures)) short

pub returns-else-number-len : goal.returns-else-number-len
returns-else-number-len c =
    let past : length c.index-as_slice-place.result.outline.types ≤ c.args.number = omega (arith, c.if-number-len.false, c.len.ensures) in
    sought_none c.args.self.now c.self.inside.documents c.as_slice.result.now c.self.inside.firsts c.self.inside.entries c.self.inside.names c.self.inside.members c.self.inside.packages c.args.doc.now c.args.number c.self.view_is c.as_slice.ensures
    c.self.invariant c.in-Some.place c.index-as_slice-place.result c.in-Some.ensures
    (c.index-as_slice-place.is ∙ ap (λ xs. get_or xs c.in-Some.place c.index-as_slice-place.result) (c.as_slice-2.ensures ∙ sym c.as_slice.ensures)) past
