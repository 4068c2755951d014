-- What a store acknowledges as it is opened: the newest counting cell of each pair.
use Rattle.std.proofs.Common.{◌≡◌, inl, ℕ, ◌+◌, ◌<◌, ◌≤◌, Bool, true, false, cond, ltb, List, [], take, get_or, Option, None, Some, refl, sym, ◌∙◌, ap, subst, arith}
use Rattle.std.proofs.lemmas.Bool.Decides.{nat_tests}
use Rattle.java_model.specs.StateFile.Cells.{Cell as Says, Side, counting, cell_bytes, newest, newest_in, pair_count}
use Rattle.java_model.specs.StateFile.Recovered.{Files, slot, is_ready, held_by, held_in, recovered}
use Rattle.jx_disk.specs.Disk.{Image, Only}
use Rattle.index_states.specs.Cells.{says_of}
use Rattle.index_states.specs.Loaded.{IsNewest}
use Rattle.index_states.specs.declared.cell.Cell.{Cell}
use Rattle.index_store.specs.Kept.{Acked, acked_as, Acks, name_option, Yields, Begins, FitsPair, Fits, AllFit}
use Rattle.index_store.specs.Table.{Matches, IsTable}
use Rattle.index_store.specs.Stores.{InSession}
use Rattle.index_store.specs.Opened.{Acknowledges, OpensAs, AreTold, RecoversAs}
use Rattle.index_store.specs.declared.store.Store.{Store}
use Rattle.index_store.proofs.Names.{first_same}
use Rattle.index_store.proofs.Held.{recovered_ready}

abbrev acked_by : Files → ℕ → Option Side → Option Acked
acked_by files pair None = None
acked_by files pair (Some newest) = Some (acked_as newest.side newest.cell (take newest.cell.size (files (slot pair newest.side))))

-- of each pair its newest cell, with its image
abbrev pub opened : Files → Acks
opened files = λ pair. acked_by files pair (newest_in (files 1) pair)

named_held : (files : Files) (pair : ℕ) (newest : Option Side) → name_option (acked_by files pair newest) ≡ held_by files pair newest
named_held files pair None = refl
named_held files pair (Some newest) = refl

pub acknowledges : (files : Files) → is_ready files ≡ true → Acknowledges (opened files) files
acknowledges files ready name =
    first_same (λ pair. name_option (opened files pair)) (held_in files) name pair_count 0 (λ q above below. inl (named_held files q (newest_in (files 1) q)))
    ∙ sym (recovered_ready files name ready)

module _ (files : Files) (pair : ℕ) where
  greater : (a b : Says) → counting (cell_bytes pair 0 (files 1)) ≡ Some a → counting (cell_bytes pair 1 (files 1)) ≡ Some b → (less : Bool) → ltb a.generation b.generation ≡ less
      → FitsPair files (opened files) pair (acked_by files pair (cond less (Some (record { side = 1; cell = b })) (Some (record { side = 0; cell = a }))))
  greater a b first second true less = record {
    two = omega arith;
    cell = second;
    image = refl;
    other = subst (Yields (acked_as 1 b (take b.size (files (slot pair 1))))) (sym first) (inl (rises a.generation b.generation less));
  }
    where
      rises : (m n : ℕ) → ltb m n ≡ true → m + 1 ≤ n
      rises m n lt = grind (arith, nat_tests)
  greater a b first second false less = record {
    two = omega arith;
    cell = first;
    image = refl;
    other = subst (Yields (acked_as 0 a (take a.size (files (slot pair 0))))) (sym second) (inl (falls a.generation b.generation less));
  }
    where
      falls : (m n : ℕ) → ltb m n ≡ false → n + 0 ≤ m
      falls m n lt = grind (arith, nat_tests)

  fits_pair : (first second : Option Says) → counting (cell_bytes pair 0 (files 1)) ≡ first → counting (cell_bytes pair 1 (files 1)) ≡ second
      → FitsPair files (opened files) pair (acked_by files pair (newest first second))
  fits_pair None None first second = record { first = subst (Begins (opened files) pair) (sym first) tt; second = second }
  fits_pair (Some a) None first second = record {
    two = omega arith;
    cell = first;
    image = refl;
    other = subst (Yields (acked_as 0 a (take a.size (files (slot pair 0))))) (sym second) tt;
  }
  fits_pair None (Some b) first second = record {
    two = omega arith;
    cell = second;
    image = refl;
    other = subst (Yields (acked_as 1 b (take b.size (files (slot pair 1))))) (sym first) tt;
  }
  fits_pair (Some a) (Some b) first second = greater a b first second (ltb a.generation b.generation) refl

pub opened_fits : (files : Files) → is_ready files ≡ true → Fits (opened files) files
opened_fits files ready = record { ready = ready; pairs = λ pair low. fits_pair files pair (counting (cell_bytes pair 0 (files 1))) (counting (cell_bytes pair 1 (files 1))) refl refl }

-- where a crash leaves these files and nothing else
pub all_fit : (files : Files) (outcomes : Image → Type 0) → is_ready files ≡ true → Only files outcomes → AllFit (opened files) outcomes
all_fit files outcomes ready stable image left =
    let same : files ≡ image = λ i. λ file. sym (stable image left file) i in
    subst (Fits (opened files)) same (opened_fits files ready)

newest_two : (first second : Option Says) (side : Side) → newest first second ≡ Some side → side.side < 2
newest_two None None side is = absurd (cc)
newest_two (Some a) None side is = let e : record { side = 0; cell = a } ≡ side = cc in subst (λ (s : Side). s.side < 2) e (omega arith)
newest_two None (Some b) side is = let e : record { side = 1; cell = b } ≡ side = cc in subst (λ (s : Side). s.side < 2) e (omega arith)
newest_two (Some a) (Some b) side is = either (ltb a.generation b.generation) is
  where
    either : (less : Bool) → cond less (Some (record { side = 1; cell = b })) (Some (record { side = 0; cell = a })) ≡ Some side → side.side < 2
    either true same = let e : record { side = 1; cell = b } ≡ side = cc in subst (λ (s : Side). s.side < 2) e (omega arith)
    either false same = let e : record { side = 0; cell = a } ≡ side = cc in subst (λ (s : Side). s.side < 2) e (omega arith)

matches : (files : Files) (pair : ℕ) (entry : Option Cell) → IsNewest pair entry (newest_in (files 1) pair) → Matches (opened files pair) entry
matches files pair None is = subst (λ (n : Option Side). Matches (acked_by files pair n) None) (sym is) tt
matches files pair (Some cell) is =
    let two = newest_two (counting (cell_bytes pair 0 (files 1))) (counting (cell_bytes pair 1 (files 1))) (record { side = cell.side; cell = says_of cell }) is.1 in
    subst (λ (n : Option Side). Matches (acked_by files pair n) (Some cell)) (sym is.1) (refl, refl, two)

pub opened_table : (files : Files) (table : List (Option Cell)) → AreTold files table → IsTable (opened files) table
opened_table files table told = record { long = told.cells.long; entries = λ pair low. matches files pair (get_or table pair None) (told.cells.each pair low) }

pub opens : {D : Type 0} (may_leave : D → Image → Type 0) (before files : Files) (table : List (Option Cell)) (disk : D)
    → AreTold files table → Only files (may_leave disk) → RecoversAs before files → OpensAs may_leave before table disk
opens may_leave before files table disk told stable same = (
  opened files,
  opened_table files table told,
  all_fit files (may_leave disk) told.ready stable,
  λ name. acknowledges files told.ready name ∙ same name,
  λ image left name. (let is : image ≡ files = λ i. λ file. stable image left file i in ap (λ (f : Files). recovered f name) is) ∙ same name,
)

-- a store of these parts is in a session that began nothing
pub in_session : {D : Type 0} (may_leave : D → Image → Type 0) (before : Files) (store : Store D) → OpensAs may_leave before store.table.entries.items store.disk
    → (acks : Acks) × InSession may_leave acks [] store × Acknowledges acks before
in_session may_leave before store is = (
  is.0,
  record {
    keeps = record { table = is.1; fits = is.2 };
    whole = λ image left name. inl (is.4 image left name ∙ sym (is.3 name));
  },
  is.3,
)
