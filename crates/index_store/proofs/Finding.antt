-- What is found of each pair, and of each container.
use Rattle.std.proofs.Common.{◌≡◌, ◌≢◌, inl, inr, ℕ, ◌+◌, ◌-◌, ◌<◌, List, [], ◌∷◌, ◌++◌, length, take, get_or, Option, None, Some, refl, sym, ◌∙◌, ap, subst, arith, length-append}
use Rattle.std.specs.List.{All}
use Rattle.std.proofs.lemmas.List.{get_or_append_left, get_or-append_right}
use Rattle.std.proofs.lemmas.List.Elements.{All-push}
use Rattle.std.proofs.lemmas.List.Quantifiers.{all_pairs_push}
use Rattle.std.proofs.lemmas.Bool.{cases_lt}
use Rattle.java_model.specs.StateFile.Cells.{Side, newest_in, pair_count}
use Rattle.java_model.specs.StateFile.Recovered.{Files, slot, held_by, held_in, first_named}
use Rattle.index_states.specs.Loaded.{IsNewest}
use Rattle.index_states.specs.declared.cell.Cell.{Cell}
use Rattle.index_store.specs.Kept.{HasNot}
use Rattle.index_store.specs.Table.{IsNamed}
use Rattle.index_store.specs.Opened.{AreTold, kept_by, IsFoundIn, IsListed, FindsBelow, Finds, RecoversAs}
use Rattle.index_store.specs.declared.found.Found.{Found}
use Rattle.index_store.proofs.Names.{first_none, first_at}
use Rattle.index_store.proofs.Held.{recovered_ready}

-- what is found of these files is found of those that recover the same
pub finds_as : (before files : Files) (found : List (List ℕ × Found)) → RecoversAs before files → Finds files found → Finds before found
finds_as before files found same finds = record {
  each = λ k d low. let is = finds.each k d low in (is.0, sym (same (get_or found k d).0) ∙ is.1, is.2);
  once = finds.once;
  others = λ name none. sym (same name) ∙ finds.others name none;
}

module _ (files : Files) (table : List (Option Cell)) (told : AreTold files table) where
  entry_held : (pair : ℕ) → pair < pair_count → (cell : Cell) → get_or table pair None ≡ Some cell
      → held_in files pair ≡ Some (record { name = cell.name; kept = kept_by files cell })
  entry_held pair low cell is =
      let newest : IsNewest pair (Some cell) (newest_in (files 1) pair) = subst (λ (e : Option Cell). IsNewest pair e (newest_in (files 1) pair)) is (told.cells.each pair low) in
      ap (held_by files pair) newest.1
      ∙ ap (λ (p : ℕ). Some (record {
        name = cell.name;
        kept = record { rebuild = cell.rebuild; generation = cell.generation; size = cell.length; image = take cell.length (files (slot p cell.side)) };
      })) (sym newest.0)

  by_entry : (pair : ℕ) (name : List ℕ) (entry : Option Cell) → IsNewest pair entry (newest_in (files 1) pair) → ¬ IsNamed entry name → HasNot name (held_in files pair)
  by_entry pair name None is apart = subst (λ (n : Option Side). HasNot name (held_by files pair n)) (sym is) tt
  by_entry pair name (Some cell) is apart = subst (λ (n : Option Side). HasNot name (held_by files pair n)) (sym is.1) apart

  not_named : (pair : ℕ) → pair < pair_count → (name : List ℕ) → ¬ IsNamed (get_or table pair None) name → HasNot name (held_in files pair)
  not_named pair low name apart = by_entry pair name (get_or table pair None) (told.cells.each pair low) apart

  listed : (pair : ℕ) → pair < pair_count → (f : List ℕ × Found) → IsListed files table pair f → IsFoundIn files f
  listed pair low f is = (
    kept_by files is.cell,
    recovered_ready files f.0 told.ready ∙ ap (λ (n : List ℕ). first_named (held_in files) n pair_count 0) is.name
        ∙ first_at (held_in files) (record { name = is.cell.name; kept = kept_by files is.cell }) pair pair_count 0 (omega arith) (omega arith)
        (λ q above below. not_named q (omega arith) is.cell.name (is.first q below)) (entry_held pair low is.cell is.entry),
    is.is,
  )

  pub finds : (found : List (List ℕ × Found)) → FindsBelow files table pair_count found → Finds files found
  finds found below = record {
    each = λ k d low. let at = below.each k d low in listed at.0 at.1 (get_or found k d) at.2;
    once = below.once;
    others = λ name none.
        recovered_ready files name told.ready
        ∙ first_none (held_in files) name pair_count 0 (λ q above low. let under : q < pair_count = omega arith in not_named q under name (λ named. below.whole q name under named none));
  }

module _ (files : Files) (table : List (Option Cell)) where
  -- before any pair
  pub none_found : (found : List (List ℕ × Found)) → found ≡ [] → FindsBelow files table 0 found
  none_found found is = subst (FindsBelow files table 0) (sym is) (record {
    each = λ k d low. absurd (omega arith);
    once = λ i j d less low. absurd (omega arith);
    whole = λ pair name low named. absurd (omega arith);
  })

  module _ (pair : ℕ) (found : List (List ℕ × Found)) (below : FindsBelow files table pair found) where
    widened : All (λ (f : List ℕ × Found). (p : ℕ) × (p < pair + 1) × IsListed files table p f) found
    widened k d low = let at = below.each k d low in (at.0, omega (arith, at.1), at.2)

    -- a pair that isn't held, or whose container an earlier one holds
    pub passed_over : ((name : List ℕ) → IsNamed (get_or table pair None) name → (before : ℕ) × (before < pair) × IsNamed (get_or table before None) name)
        → FindsBelow files table (pair + 1) found
    passed_over earlier = record {
      each = widened;
      once = below.once;
      whole = λ p name low named none. elim (cases_lt p pair) [
        | inl under ↦ below.whole p name under named none
        | inr over ↦
            let here : p ≡ pair = omega arith in
            let before = earlier name (subst (λ (q : ℕ). IsNamed (get_or table q None) name) here named) in
            below.whole before.0 name before.1 before.2 none
      ];
    }

    -- a pair that is the first of its container
    pub added : (f : List ℕ × Found) → IsListed files table pair f → FindsBelow files table (pair + 1) (found ++ f ∷ [])
    added f is = record {
      each = All-push (λ (g : List ℕ × Found). (p : ℕ) × (p < pair + 1) × IsListed files table p g) found f widened (pair, omega arith, is);
      once = all_pairs_push (λ (g h : List ℕ × Found). g.0 ≢ h.0) found f below.once (λ k d low same.
          let at = below.each k d low in
          is.first at.0 at.1 (subst (λ (e : Option Cell). IsNamed e is.cell.name) (sym at.2.entry) (sym at.2.name ∙ same ∙ is.name)));
      whole = λ p name low named none. elim (cases_lt p pair) [
        | inl under ↦ below.whole p name under named (λ k d low. subst (λ (g : List ℕ × Found). g.0 ≢ name) (get_or_append_left found (f ∷ []) d k low) (none k d (omega (arith, length-append found (f ∷ [])))))
        | inr over ↦
            let here : p ≡ pair = omega arith in
            let named_here : IsNamed (Some is.cell) name = subst (λ (e : Option Cell). IsNamed e name) (ap (λ (q : ℕ). get_or table q None) here ∙ is.entry) named in
            none (length found) f (omega (arith, length-append found (f ∷ []))) (ap (λ (g : List ℕ × Found). g.0) (get_or-append_right found (f ∷ []) (length found) (length found) f refl (omega arith) ∙ last) ∙ is.name ∙ named_here)
      ];
    }
      where
        last : get_or (f ∷ []) (length found - length found) f ≡ f
        last = ap (λ (n : ℕ). get_or (f ∷ []) n f) (let e : length found - length found ≡ 0 = omega arith in e)
