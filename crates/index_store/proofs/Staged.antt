-- The files while a cell is written: its gate is closed, and all else is as it was.
use Rattle.std.proofs.Common.{◌≡◌, ◌≢◌, ◌⊎◌, inl, inr, ⊎_elim, ℕ, zero, suc, ◌+◌, ◌-◌, ◌*◌, ◌<◌, ◌≤◌, Bool, true, false, ◌&&◌, ◌==◌, cond, eqb, List, [], ◌∷◌, ◌++◌, length, take, drop, slice_index, Option, None, Some, IsSome, refl, sym, ◌∙◌, ap, subst, arith}
use Rattle.std.proofs.lemmas.Bool.{cases_lt, cases_eq, false≢true}
use Rattle.std.proofs.lemmas.Bool.Decides.{nat_tests}
use Rattle.java_model.specs.StateFile.Cells.{Cell, Side, counting, cell_bytes, cell_at, newest, pair_count, state_length}
use Rattle.java_model.specs.StateFile.Recovered.{Files, slot, named_by, held_by, held_in, is_ready}
use Rattle.jx_disk.specs.Disk.{SameFiles, TornWrite, ChangesFile}
use Rattle.index_states.specs.Parts.{ChangesOnly, ChangesByte, ClosesGate}
use Rattle.index_store.specs.Kept.{Acked, Acks, name_option, HasNot, IsNew, IsFirstFree, Begins, Yields, HoldsAcked, FitsPair, Fits, Targets, acknowledging, acked_as}
use Rattle.index_store.proofs.Places.{length_torn, other_cell, closed_gate, one_byte, byte_below, opened_bytes}

-- a pair's cells and slots are as they were
pub record Alike (old new : Files) (pair : ℕ) : Type 0 where
  pub cells : (side : ℕ) → side < 2 → counting (cell_bytes pair side (new 1)) ≡ counting (cell_bytes pair side (old 1))
  pub slots : (side : ℕ) → side < 2 → new (slot pair side) ≡ old (slot pair side)

pub alike_fits : (acks : Acks) (old new : Files) (pair : ℕ) (acked : Option Acked) → Alike old new pair → FitsPair old acks pair acked → FitsPair new acks pair acked
alike_fits acks old new pair None alike fits = record {
  first = subst (λ c. Begins acks pair c) (sym (alike.cells 0 (omega arith))) fits.first;
  second = alike.cells 1 (omega arith) ∙ fits.second;
}
alike_fits acks old new pair (Some a) alike fits = record {
  two = fits.two;
  cell = alike.cells a.side fits.two ∙ fits.cell;
  image = ap (take a.cell.size) (alike.slots a.side fits.two) ∙ fits.image;
  other = let two : 1 - a.side < 2 = omega arith in subst (λ c. Yields a c) (sym (alike.cells (1 - a.side) two)) fits.other;
}

named_alike : (old new : Files) (pair : ℕ) (newest : Side) → newest.side < 2 → Alike old new pair → named_by new pair newest ≡ named_by old pair newest
named_alike old new pair newest two alike =
    ap (λ (image : List ℕ). record {
      name = newest.cell.name;
      kept = record { rebuild = newest.cell.rebuild; generation = newest.cell.generation; size = newest.cell.size; image = take newest.cell.size image };
    }) (alike.slots newest.side two)

two_sided : (first second : Option Cell) (old new : Files) (pair : ℕ) → Alike old new pair → held_by new pair (newest first second) ≡ held_by old pair (newest first second)
two_sided None None old new pair alike = refl
two_sided (Some x) None old new pair alike = ap Some (named_alike old new pair (record { side = 0; cell = x }) (omega arith) alike)
two_sided None (Some y) old new pair alike = ap Some (named_alike old new pair (record { side = 1; cell = y }) (omega arith) alike)
two_sided (Some x) (Some y) old new pair alike = by (Rattle.std.proofs.Common.ltb x.generation y.generation)
  where
    by : (b : Bool) → held_by new pair (cond b (Some (record { side = 1; cell = y })) (Some (record { side = 0; cell = x }))) ≡ held_by old pair (cond b (Some (record { side = 1; cell = y })) (Some (record { side = 0; cell = x })))
    by true = ap Some (named_alike old new pair (record { side = 1; cell = y }) (omega arith) alike)
    by false = ap Some (named_alike old new pair (record { side = 0; cell = x }) (omega arith) alike)

pub alike_held : (old new : Files) (pair : ℕ) → Alike old new pair → held_in new pair ≡ held_in old pair
alike_held old new pair alike =
    ap (λ (c : Option Cell). held_by new pair (newest c (counting (cell_bytes pair 1 (new 1))))) (alike.cells 0 (omega arith))
    ∙ ap (λ (c : Option Cell). held_by new pair (newest (counting (cell_bytes pair 0 (old 1))) c)) (alike.cells 1 (omega arith))
    ∙ two_sided (counting (cell_bytes pair 0 (old 1))) (counting (cell_bytes pair 1 (old 1))) old new pair alike

-- all pairs but one are as they were, and the store stays ready
pub record AllBut (pair : ℕ) (old new : Files) : Type 0 where
  pub ready : is_ready old ≡ true → is_ready new ≡ true
  pub others : (q : ℕ) → q < pair_count → q ≢ pair → Alike old new q

pub all_but_joined : (pair : ℕ) (a b c : Files) → AllBut pair a b → AllBut pair b c → AllBut pair a c
all_but_joined pair a b c first second = record {
  ready = λ r. second.ready (first.ready r);
  others = λ q low apart.
      let x = first.others q low apart in
      let y = second.others q low apart in
      record { cells = λ side two. y.cells side two ∙ x.cells side two; slots = λ side two. y.slots side two ∙ x.slots side two };
}

pub all_but_same : (pair : ℕ) (old new : Files) → SameFiles old new → AllBut pair old new
all_but_same pair old new same =
    let is : new ≡ old = λ i. λ file. same file i in
    record {
      ready = λ r. ap is_ready is ∙ r;
      others = λ q low apart. record { cells = λ side two. ap (λ (f : Files). counting (cell_bytes q side (f 1))) is; slots = λ side two. same (slot q side) };
    }

pub acked_here : (acks : Acks) (pair : ℕ) (a : Acked) → acknowledging acks pair a pair ≡ Some a
acked_here acks pair a = grind (arith, nat_tests)

pub acked_elsewhere : (acks : Acks) (pair q : ℕ) (a : Acked) → q ≢ pair → acknowledging acks pair a q ≡ acks q
acked_elsewhere acks pair q a apart = grind (arith, nat_tests)

module _ (pair side : ℕ) (low : pair < pair_count) (two : side < 2) where
  pub ready_length : (files : Files) → is_ready files ≡ true → length (files 1) ≡ 131072
  ready_length files ready = long_where (slice_index (files 0) 0) (length (files 1)) ready
    where
      long_where : (first n : ℕ) → (first == 1 && n == 131072) ≡ true → n ≡ 131072
      long_where first n h = grind (arith, nat_tests)

  -- a write within the cell
  module _ (from n : ℕ) (old new : Files) (long : length (old 1) ≡ 131072) (start : cell_at pair side ≤ from) (end : from + n ≤ cell_at pair side + 256) (change : ChangesFile 1 (TornWrite from n) old new) where
    pub cell_kept : (q t : ℕ) → t < 2 → (q ≢ pair) ⊎ (t ≢ side) → counting (cell_bytes q t (new 1)) ≡ counting (cell_bytes q t (old 1))
    cell_kept q t binary apart = ap counting (other_cell pair side from n q t (old 1) (new 1) long two binary low start end change.changed apart)

    pub slot_kept : (q t : ℕ) → new (slot q t) ≡ old (slot q t)
    slot_kept q t = let apart : slot q t ≢ 1 = omega arith in change.others (slot q t) apart

    pub write_all_but : AllBut pair old new
    write_all_but = record {
      ready = λ r.
          ap (λ (f : List ℕ). slice_index f 0 == 1 && length (new 1) == state_length) (let apart : 0 ≢ 1 = omega arith in change.others 0 apart)
          ∙ ap (λ (m : ℕ). slice_index (old 0) 0 == 1 && m == state_length) (length_torn from n (old 1) (new 1) (omega arith) change.changed) ∙ r;
      others = λ q below apart. record { cells = λ t binary. cell_kept q t binary (inl apart); slots = λ t binary. slot_kept q t };
    }

    -- with the gate closed the cell doesn't count
    closed_pair : (acks : Acks) (cell : Cell) (acked : Option Acked) → Targets acks pair side cell acked → slice_index (new 1) (cell_at pair side) ≢ 1 → FitsPair old acks pair acked → FitsPair new acks pair acked
    closed_pair acks cell None target closed fits =
        let none : counting (cell_bytes pair 0 (new 1)) ≡ None = subst (λ (t : ℕ). counting (cell_bytes pair t (new 1)) ≡ None) target.side_is (closed_gate pair side (new 1) closed) in
        let apart : 1 ≢ side = omega (arith, target.side_is) in
        record { first = subst (λ c. Begins acks pair c) (sym none) tt; second = cell_kept pair 1 (omega arith) (inr apart) ∙ fits.second }
    closed_pair acks cell (Some a) target closed fits =
        let none : counting (cell_bytes pair (1 - a.side) (new 1)) ≡ None = subst (λ (t : ℕ). counting (cell_bytes pair t (new 1)) ≡ None) target.side_is (closed_gate pair side (new 1) closed) in
        let apart : a.side ≢ side = omega (arith, target.side_is, target.two) in
        record {
          two = fits.two;
          cell = cell_kept pair a.side fits.two (inr apart) ∙ fits.cell;
          image = ap (take a.cell.size) (slot_kept pair a.side) ∙ fits.image;
          other = subst (λ c. Yields a c) (sym none) tt;
        }

    pub closed_fits : (acks : Acks) (cell : Cell) → Targets acks pair side cell (acks pair) → slice_index (new 1) (cell_at pair side) ≢ 1 → Fits acks old → Fits acks new
    closed_fits acks cell target closed fits = record {
      ready = write_all_but.ready fits.ready;
      pairs = λ q below. elim (cases_eq q pair) [
        | inl here ↦ subst (λ (r : ℕ). FitsPair new acks r (acks r)) (sym here) (closed_pair acks cell (acks pair) target closed (fits.pairs pair low))
        | inr there ↦ alike_fits acks old new q (acks q) (write_all_but.others q below there) (fits.pairs q below)
      ];
    }

  -- the gate is closed, and the rest is as it was in an earlier outcome
  pub record Staged (acks : Acks) (was new : Files) : Type 0 where
    pub fits : Fits acks new
    pub closed : slice_index (new 1) (cell_at pair side) ≢ 1
    pub near : AllBut pair was new

  pub after_close : (acks : Acks) (cell : Cell) (was new : Files) → Targets acks pair side cell (acks pair) → Fits acks was → ClosesGate (cell_at pair side) was new
      → SameFiles was new ⊎ Staged acks was new
  after_close acks cell was new target fits (inl same) = inl same
  after_close acks cell was new target fits (inr torn) =
      let long = ready_length was fits.ready in
      elim (cases_eq (slice_index (new 1) (cell_at pair side)) 1) [
        | inl open' ↦ inl (λ file. elim (cases_eq file 1) [
          | inl here ↦ subst (λ (f : ℕ). new f ≡ was f) (sym here) (one_byte (cell_at pair side) (was 1) (new 1) (omega arith) torn.1.changed (open' ∙ sym torn.0))
          | inr there ↦ torn.1.others file there
        ])
        | inr shut ↦ inr (record {
          fits = closed_fits (cell_at pair side) 1 was new long (omega arith) (omega arith) torn.1 acks cell target shut fits;
          closed = shut;
          near = write_all_but (cell_at pair side) 1 was new long (omega arith) (omega arith) torn.1;
        })
      ]

  -- bytes behind the gate are written
  pub after_cell : (acks : Acks) (cell : Cell) (was old new : Files) → Targets acks pair side cell (acks pair) → Staged acks was old
      → ChangesFile 1 (TornWrite (cell_at pair side + 1) 255) old new → Staged acks was new
  after_cell acks cell was old new target staged change =
      let long = ready_length old staged.fits.ready in
      let gate : slice_index (new 1) (cell_at pair side) ≡ slice_index (old 1) (cell_at pair side) =
      byte_below (cell_at pair side + 1) 255 (old 1) (new 1) (omega arith) change.changed (cell_at pair side) (omega arith) in
      let shut : slice_index (new 1) (cell_at pair side) ≢ 1 = λ e. staged.closed (sym gate ∙ e) in
      record {
        fits = closed_fits (cell_at pair side + 1) 255 old new long (omega arith) (omega arith) change acks cell target shut staged.fits;
        closed = shut;
        near = all_but_joined pair was old new staged.near (write_all_but (cell_at pair side + 1) 255 old new long (omega arith) (omega arith) change);
      }

  -- the slot is written
  pub after_slot : (acks : Acks) (cell : Cell) (was old new : Files) → Targets acks pair side cell (acks pair) → Staged acks was old → ChangesOnly (slot pair side) old new → Staged acks was new
  after_slot acks cell was old new target staged change = record {
    fits = record {
      ready = ready_kept staged.fits.ready;
      pairs = λ q below. elim (cases_eq q pair) [
        | inl here ↦ subst (λ (r : ℕ). FitsPair new acks r (acks r)) (sym here) (same_pair (acks pair) target (staged.fits.pairs pair low))
        | inr there ↦ alike_fits acks old new q (acks q) (alike_but q there) (staged.fits.pairs q below)
      ];
    };
    closed = λ e. staged.closed (sym (ap (λ (l : List ℕ). slice_index l (cell_at pair side)) state) ∙ e);
    near = all_but_joined pair was old new staged.near (record { ready = ready_kept; others = λ q below apart. alike_but q apart });
  }
    where
      state : new 1 ≡ old 1
      state = let apart : 1 ≢ slot pair side = omega arith in change 1 apart

      ready_kept : is_ready old ≡ true → is_ready new ≡ true
      ready_kept r =
          ap (λ (f : List ℕ). slice_index f 0 == 1 && length (new 1) == state_length) (let apart : 0 ≢ slot pair side = omega arith in change 0 apart)
          ∙ ap (λ (l : List ℕ). slice_index (old 0) 0 == 1 && length l == state_length) state ∙ r

      alike_but : (q : ℕ) → q ≢ pair → Alike old new q
      alike_but q apart = record {
        cells = λ t binary. ap (λ (l : List ℕ). counting (cell_bytes q t l)) state;
        slots = λ t binary. let other : slot q t ≢ slot pair side = omega arith in change (slot q t) other;
      }

      same_pair : (acked : Option Acked) → Targets acks pair side cell acked → FitsPair old acks pair acked → FitsPair new acks pair acked
      same_pair None target fits = record {
        first = subst (λ c. Begins acks pair c) (sym (ap (λ (l : List ℕ). counting (cell_bytes pair 0 l)) state)) fits.first;
        second = ap (λ (l : List ℕ). counting (cell_bytes pair 1 l)) state ∙ fits.second;
      }
      same_pair (Some a) target fits =
          let other : slot pair a.side ≢ slot pair side = omega (arith, target.side_is, target.two) in
          record {
            two = fits.two;
            cell = ap (λ (l : List ℕ). counting (cell_bytes pair a.side l)) state ∙ fits.cell;
            image = ap (take a.cell.size) (change (slot pair a.side) other) ∙ fits.image;
            other = subst (λ c. Yields a c) (sym (ap (λ (l : List ℕ). counting (cell_bytes pair (1 - a.side) l)) state)) fits.other;
          }

  -- the gate is open, and the new cell counts
  pub record Opened (acks : Acks) (cell : Cell) (image : List ℕ) (was new : Files) : Type 0 where
    pub ready : is_ready new ≡ true
    pub cell_is : counting (cell_bytes pair side (new 1)) ≡ Some cell
    pub image_is : take cell.size (new (slot pair side)) ≡ image
    pub near : AllBut pair was new
    pub fits : Fits acks new
    pub others : (q : ℕ) → q < pair_count → q ≢ pair → FitsPair new acks q (acks q)

  module _ (acks : Acks) (cell : Cell) (image bytes : List ℕ) (target : Targets acks pair side cell (acks pair)) (long_bytes : length bytes ≡ 255) (spelled : counting (1 ∷ bytes) ≡ Some cell) where
    pub after_open : (was old new : Files) → Staged acks was old → take 255 (drop (cell_at pair side + 1) (old 1)) ≡ bytes → take cell.size (old (slot pair side)) ≡ image → ChangesByte (cell_at pair side) old new
        → Staged acks was new ⊎ Opened acks cell image was new
    after_open was old new staged behind stored change = elim (cases_eq (slice_index (new 1) (cell_at pair side)) 1) [
      | inr shut ↦ inl (record {
        fits = closed_fits (cell_at pair side) 1 old new long (omega arith) (omega arith) change acks cell target shut staged.fits;
        closed = shut;
        near = all_but_joined pair was old new staged.near but;
      })
      | inl gate ↦
          let counted : counting (cell_bytes pair side (new 1)) ≡ Some cell = ap counting (opened_bytes (cell_at pair side) bytes (old 1) (new 1) long_bytes (omega (arith, long)) behind change.changed gate) ∙ spelled in
          inr (record {
            ready = but.ready staged.fits.ready;
            cell_is = counted;
            image_is = ap (take cell.size) (slot_kept (cell_at pair side) 1 old new long (omega arith) (omega arith) change pair side) ∙ stored;
            near = all_but_joined pair was old new staged.near but;
            fits = record {
              ready = but.ready staged.fits.ready;
              pairs = λ q below. elim (cases_eq q pair) [
                | inl here ↦ subst (λ (r : ℕ). FitsPair new acks r (acks r)) (sym here) (later (acks pair) target counted (staged.fits.pairs pair low))
                | inr there ↦ alike_fits acks old new q (acks q) (but.others q below there) (staged.fits.pairs q below)
              ];
            };
            others = λ q below apart. alike_fits acks old new q (acks q) (but.others q below apart) (staged.fits.pairs q below);
          })
    ]
      where
        long : length (old 1) ≡ 131072
        long = ready_length old staged.fits.ready

        but : AllBut pair old new
        but = write_all_but (cell_at pair side) 1 old new long (omega arith) (omega arith) change

        -- the new cell is the next of what is acknowledged, or the first of a new container
        later : (acked : Option Acked) → Targets acks pair side cell acked → counting (cell_bytes pair side (new 1)) ≡ Some cell → FitsPair old acks pair acked → FitsPair new acks pair acked
        later None target counted fits =
            let apart : 1 ≢ side = omega (arith, target.side_is) in
            record {
              first = subst (λ c. Begins acks pair c) (sym (subst (λ (t : ℕ). counting (cell_bytes pair t (new 1)) ≡ Some cell) target.side_is counted)) (target.first, target.next, target.new);
              second = cell_kept (cell_at pair side) 1 old new long (omega arith) (omega arith) change pair 1 (omega arith) (inr apart) ∙ fits.second;
            }
        later (Some a) target counted fits =
            let apart : a.side ≢ side = omega (arith, target.side_is, target.two) in
            record {
              two = fits.two;
              cell = cell_kept (cell_at pair side) 1 old new long (omega arith) (omega arith) change pair a.side fits.two (inr apart) ∙ fits.cell;
              image = ap (take a.cell.size) (slot_kept (cell_at pair side) 1 old new long (omega arith) (omega arith) change pair a.side) ∙ fits.image;
              other = subst (λ c. Yields a c) (sym (subst (λ (t : ℕ). counting (cell_bytes pair t (new 1)) ≡ Some cell) target.side_is counted)) (inr (target.next, target.name_is));
            }

    -- the new cell is acknowledged
    pub opened_fits : (was new : Files) → Opened acks cell image was new → Fits (acknowledging acks pair (acked_as side cell image)) new
    opened_fits was new opened = record {
      ready = opened.ready;
      pairs = λ q below. elim (cases_eq q pair) [
        | inl here ↦ subst (λ (r : ℕ). FitsPair new (acknowledging acks pair (acked_as side cell image)) r ((acknowledging acks pair (acked_as side cell image)) r)) (sym here) (subst (λ o. FitsPair new (acknowledging acks pair (acked_as side cell image)) pair o) (sym (acked_here acks pair (acked_as side cell image))) now)
        | inr there ↦ subst (λ o. FitsPair new (acknowledging acks pair (acked_as side cell image)) q o) (sym (acked_elsewhere acks pair q (acked_as side cell image) there)) (stays q below there (acks q) refl (opened.others q below there))
      ];
    }
      where
        older : (before : Option Acked) → Targets acks pair side cell before → FitsPair new acks pair before → Yields (acked_as side cell image) (counting (cell_bytes pair (1 - side) (new 1)))
        older None target fits = subst (λ c. Yields (acked_as side cell image) c) (sym (ap (λ (t : ℕ). counting (cell_bytes pair t (new 1))) (let e : 1 - side ≡ 1 = omega (arith, target.side_is) in e) ∙ fits.second)) tt
        older (Some a) target fits =
            subst (λ c. Yields (acked_as side cell image) c)
            (sym (ap (λ (t : ℕ). counting (cell_bytes pair t (new 1))) (let e : 1 - side ≡ a.side = omega (arith, target.side_is, target.two) in e) ∙ fits.cell))
            (inl (omega (arith, target.next)))

        now : HoldsAcked new pair (acked_as side cell image)
        now = record { two = two; cell = opened.cell_is; image = opened.image_is; other = older (acks pair) target (opened.fits.pairs pair low) }

        renamed : (before : Option Acked) (name : List ℕ) (q : ℕ) → acks pair ≡ before → Targets acks pair side cell before → acks q ≡ None → q ≢ pair → IsFirstFree acks q → IsNew acks name → cell.name ≢ name
        renamed (Some a) name q is target free apart first new_name e =
            let has : HasNot name (name_option (Some a)) = subst (λ o. HasNot name (name_option o)) is (new_name pair low) in
            has (sym target.name_is ∙ e)
        renamed None name q is target free apart first new_name e = elim (cases_lt q pair) [
          | inl under ↦ let some : IsSome (acks q) = target.first q under in false≢true (subst IsSome free some)
          | inr over ↦ let under : pair < q = omega arith in let some : IsSome (acks pair) = first pair under in false≢true (subst IsSome is some)
        ]

        begins_after : (q : ℕ) → q ≢ pair → acks q ≡ None → (first : Option Cell) → Begins acks q first → Begins (acknowledging acks pair (acked_as side cell image)) q first
        begins_after q apart free None begins = tt
        begins_after q apart free (Some x) begins = (
          λ b under. elim (cases_eq b pair) [
            | inl here ↦ subst IsSome (sym (ap (acknowledging acks pair (acked_as side cell image)) here ∙ acked_here acks pair (acked_as side cell image))) refl
            | inr there ↦ subst IsSome (sym (acked_elsewhere acks pair b (acked_as side cell image) there)) (begins.0 b under)
          ],
          begins.1,
          λ b under. elim (cases_eq b pair) [
            | inl here ↦ subst (λ o. HasNot x.name (name_option o)) (sym (ap (acknowledging acks pair (acked_as side cell image)) here ∙ acked_here acks pair (acked_as side cell image))) (named_apart x.name q apart free begins.0 begins.2)
            | inr there ↦ subst (λ o. HasNot x.name (name_option o)) (sym (acked_elsewhere acks pair b (acked_as side cell image) there)) (begins.2 b under)
          ],
        )
          where
            named_apart : (name : List ℕ) (q : ℕ) → q ≢ pair → acks q ≡ None → IsFirstFree acks q → IsNew acks name → HasNot name (name_option (Some (acked_as side cell image)))
            named_apart name q apart free first new_name = renamed (acks pair) name q refl target free apart first new_name

        stays : (q : ℕ) → q < pair_count → q ≢ pair → (before : Option Acked) → acks q ≡ before → FitsPair new acks q before → FitsPair new (acknowledging acks pair (acked_as side cell image)) q before
        stays q below apart None is fits = record { first = begins_after q apart is (counting (cell_bytes q 0 (new 1))) fits.first; second = fits.second }
        stays q below apart (Some a) is fits = record { two = fits.two; cell = fits.cell; image = fits.image; other = fits.other }
