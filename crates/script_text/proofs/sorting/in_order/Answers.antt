use Rattle.std.proofs.Common.{◌≡◌, ◌∙◌, sym, ap, true, arith, rules}
use Rattle.std.specs.Ordering.{is_lt, eq_by_cmp}
use Rattle.std.proofs.lemmas.Cmp.{eq_by_cmp_equiv}
use Rattle.std.proofs.lemmas.List.Sorted.{ranks_by, answers_always, IsPermutation-map}
use Rattle.std.proofs.lemmas.Map.Keys.{IsDistinct-IsPermutation}
use Rattle.java_model.specs.Documents.{document_cmp}
use Rattle.script_text.specs.Views.{document_of, documents_of}
use Rattle.script_text.specs.Inner.Sorted.{rises}
use Rattle.script_text.proofs.SortedDocuments.{document_total, sorted_from_rises, rises_from_sorted}
use Rattle.script_text.proofs.sorting.in_order.Goals as goal

pub returns-then-rises-clause-sorted : goal.returns-then-rises-clause-sorted
returns-then-rises-clause-sorted c = (
  c.in_ok-sort_by.ensures.permutation,
  sorted_from_rises document_total (documents_of c.sort_by.new.self.items) (ap (λ docs. rises document_cmp (documents_of docs)) (sym c.deref.ensures.value) ∙ sym c.rises.ensures ∙ c.if-rises.true),
)

pub returns-else-rises-clause-twice : goal.returns-else-rises-clause-twice
returns-else-rises-clause-twice c = λ fault own.
    let docs = c.sort_by.new.self.items in
    let sorted = c.in_ok-sort_by.ensures.sorted (λ a b. is_lt (document_cmp (document_of a) (document_of b))) (ranks_by document_total document_of) (answers_always _ _ _ (λ f a r q k. search rules)) in
    let own_sorted = IsDistinct-IsPermutation (eq_by_cmp document_cmp) ((eq_by_cmp_equiv document_total).symm) _ _ (IsPermutation-map document_of _ _ c.in_ok-sort_by.ensures.permutation) own in
    let up : rises document_cmp (documents_of docs) ≡ true = rises_from_sorted document_of document_total docs (λ k d lt. sorted k d (omega arith) lt) own_sorted in
    let down = ap (λ docs. rises document_cmp (documents_of docs)) (sym c.deref.ensures.value) ∙ sym c.rises.ensures ∙ c.if-rises.false in
    absurd cc
