use Rattle.std.proofs.Common.{map, get_or, sym, ap, ◌∙◌}
use Rattle.std.specs.Prelude.{slice_get}
use Rattle.java_model.specs.Names.Environments.{declared}
use Rattle.java_types.specs.Entries.{entry_of}
use Rattle.java_types.proofs.Homes.{some_place, some_type, found}
use Rattle.java_types.proofs.declared_types.DeclaredTypes.declared_type.Goals as goal

pub returns-in_default-place_by_type : goal.returns-in_default-place_by_type
returns-in_default-place_by_type c = absurd (some_place c.args.self.now c.self.inside.documents c.self.inside.entries c.self.view_is c.self.invariant.order (c.self.invariant.entries_are ∙ ap (λ env. map entry_of (declared env)) c.self.view_is) c.args.id
    c.in-Some.entry.now (ap (λ xs. slice_get xs c.args.id.0) (sym c.as_slice.ensures) ∙ sym c.in-Some.ensures) c.in-Some-doc.path c.in-Some-doc.is
    c.as_slice-documents.result.now c.as_slice-documents.ensures c.in_default-place_by_type.ensures)

pub returns-in_default-type_in : goal.returns-in_default-type_in
returns-in_default-type_in c = absurd (some_type c.args.self.now c.self.inside.documents c.self.inside.entries c.self.view_is c.self.invariant.order (c.self.invariant.entries_are ∙ ap (λ env. map entry_of (declared env)) c.self.view_is) c.args.id
    c.in-Some.entry.now (ap (λ xs. slice_get xs c.args.id.0) (sym c.as_slice.ensures) ∙ sym c.in-Some.ensures) c.in-Some-doc.path c.in-Some-doc.is
    c.as_slice-documents.result.now c.as_slice-documents.ensures c.in-Some-place_by_type.place c.index-as_slice-place.result c.in-Some-place_by_type.ensures
    (c.index-as_slice-place.is ∙ ap (λ xs. get_or xs c.in-Some-place_by_type.place c.index-as_slice-place.result) (c.as_slice-3.ensures ∙ sym c.as_slice-documents.ensures)) (ap (λ ts. slice_get ts c.in-Some.entry.now.info.number) (sym c.as_slice-4.ensures) ∙ sym c.in_default-type_in.ensures))

pub returns : goal.returns
returns c = found c.args.self.now c.self.inside.documents c.self.inside.entries c.self.view_is c.self.invariant.order (c.self.invariant.entries_are ∙ ap (λ env. map entry_of (declared env)) c.self.view_is) c.args.id
    c.in-Some.entry.now (ap (λ xs. slice_get xs c.args.id.0) (sym c.as_slice.ensures) ∙ sym c.in-Some.ensures) c.in-Some-doc.path c.in-Some-doc.is
    c.as_slice-documents.result.now c.as_slice-documents.ensures c.in-Some-place_by_type.place c.index-as_slice-place.result c.in-Some-place_by_type.ensures
    (c.index-as_slice-place.is ∙ ap (λ xs. get_or xs c.in-Some-place_by_type.place c.index-as_slice-place.result) (c.as_slice-3.ensures ∙ sym c.as_slice-documents.ensures))
    c.saturating_sub.result c.in-Some-type_in.of.now (ap (λ ts. slice_get ts c.in-Some.entry.now.info.number) (sym c.as_slice-4.ensures) ∙ sym c.in-Some-type_in.ensures) c.saturating_sub.ensures
