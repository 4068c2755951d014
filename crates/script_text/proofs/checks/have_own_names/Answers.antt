use Rattle.std.proofs.Common.{◌≡◌, ◌∙◌, List, ℕ, sym, ap, subst, arith}
use Rattle.std.specs.Prelude.{map}
use Rattle.std.specs.Cmp.Lexicographic.{slice_cmp}
use Rattle.std.specs.List.Sorted.{IsPermutation}
use Rattle.std.specs.Ordering.{nat_cmp}
use Rattle.std.proofs.lemmas.Cmp.{nat_list_cmp_total}
use Rattle.std.proofs.lemmas.List.Sorted.{IsPermutation-map}
use Rattle.script_text.specs.Inner.Sorted.{rises}
use Rattle.script_text.proofs.Scripts.Checked.{own_names, ordered_names}
use Rattle.script_text.proofs.SortedDocuments.{rises_from_sorted}
use Rattle.script_text.proofs.checks.have_own_names.Goals as goal

pub returns : goal.returns
returns c =
    let names : List (List ℕ) = map (λ search. search.name) c.args.searches.now in
    let sorted : List (List ℕ) = map (λ name. name.now) c.sort_unstable.new.self.items in
    let moved : IsPermutation names sorted = subst (λ (ns : List (List ℕ)). IsPermutation ns sorted) c.in_ok-names.ensures (IsPermutation-map (λ name. name.now) _ _ c.sort_unstable.ensures.permutation) in
    let answer : c.names_rise.result ≡ rises (slice_cmp nat_cmp) sorted = c.names_rise.ensures ∙ ap (λ ns. rises (slice_cmp nat_cmp) (map (λ name. name.now) ns)) c.deref.ensures.value in (
      λ up. own_names names sorted moved (sym answer ∙ up),
      λ own. answer ∙ rises_from_sorted (λ name. name.now) nat_list_cmp_total c.sort_unstable.new.self.items (λ k d lt. c.sort_unstable.ensures.sorted k d (omega arith) lt) (ordered_names names sorted moved own),
    )
