-- What the files of a store recover before it is ready, and as it is made so.
use Rattle.std.proofs.Common.{◌≡◌, ◌≢◌, inl, inr, ℕ, Bool, true, false, ◌&&◌, ◌==◌, cond, List, length, slice_index, Option, None, IsTrue, arith, sym, ◌∙◌, ap, subst}
use Rattle.java_model.specs.StateFile.Cells.{Cell as Says, Side, counting, cell_bytes, cell_at, newest, newest_in, pair_count, state_length}
use Rattle.java_model.specs.StateFile.Recovered.{Files, is_ready, held_by, held_in, first_named, recovered}
use Rattle.jx_disk.specs.Disk.{Image, SameFiles, Within, Only, Elapses, LeavesOnly}
use Rattle.jx_disk.proofs.Moments.{over_call, and_then, widened}
use Rattle.index_states.specs.Loaded.{IsNewest, HasCells, AreNone, Tells}
use Rattle.index_states.specs.Readiness.{AreZeros, IsFresh, ReadyOnlyFresh}
use Rattle.index_states.specs.Reads.{ReadsOnly}
use Rattle.index_states.specs.declared.cell.Cell.{Cell}
use Rattle.index_states.specs.declared.states.States.{States}
use Rattle.index_store.specs.Kept.{HasNot}
use Rattle.index_store.specs.Opened.{AreTold, RecoversAs, MayOpen, LeavesFrom}
use Rattle.index_store.proofs.Places.{closed_gate}
use Rattle.index_store.proofs.Names.{first_none}
use Rattle.index_store.proofs.Held.{recovered_ready}

pub same_files : (old new : Files) → SameFiles old new → new ≡ old
same_files old new same = λ i. λ file. same file i

no_one : (n : ℕ) → n ≡ 0 → n ≢ 1
no_one n zeroth is = grind arith

module _ (files : Files) where
  zeros_held : AreZeros state_length (files 1) → (pair : ℕ) → newest_in (files 1) pair ≡ None
  zeros_held zeros pair =
      let shut = λ (side : ℕ). closed_gate pair side (files 1) (no_one (slice_index (files 1) (cell_at pair side)) (zeros.each (cell_at pair side))) in
      ap (λ (c : Option Says). newest c (counting (cell_bytes pair 1 (files 1)))) (shut 0) ∙ ap (newest None) (shut 1)

  fresh_ready : IsFresh files → is_ready files ≡ true
  fresh_ready fresh = both (slice_index (files 0) 0) (length (files 1)) fresh.ready fresh.state.long
    where
      both : (first long : ℕ) → first ≡ 1 → long ≡ state_length → (first == 1 && long == state_length) ≡ true
      both first long one whole = ap (λ (n : ℕ). n == 1 && long == state_length) one ∙ ap (λ (n : ℕ). n == state_length) whole

  unready : is_ready files ≡ false → (name : List ℕ) → recovered files name ≡ None
  unready not name = ap (λ (b : Bool). cond b (first_named (held_in files) name pair_count 0) None) not

  pub fresh_recovers : ReadyOnlyFresh files → (name : List ℕ) → recovered files name ≡ None
  fresh_recovers (inl not) name = unready not name
  fresh_recovers (inr fresh) name =
      recovered_ready files name (fresh_ready fresh)
      ∙ first_none (held_in files) name pair_count 0 (λ q above low. subst (λ (n : Option Side). HasNot name (held_by files q n)) (sym (zeros_held fresh.state q)) tt)

  pub fresh_told : (cells : List (Option Cell)) → IsFresh files → AreNone cells → AreTold files cells
  fresh_told cells fresh none = record {
    ready = fresh_ready fresh;
    cells = record {
      long = none.long;
      each = λ pair low. subst (λ (e : Option Cell). IsNewest pair e (newest_in (files 1) pair)) (sym (none.each pair low)) (zeros_held fresh.state pair);
    };
  }

-- what recovers nothing recovers what files that aren't ready do
pub fresh_as : (files image : Files) → is_ready files ≡ false → ReadyOnlyFresh image → RecoversAs files image
fresh_as files image not fresh name = fresh_recovers image fresh name ∙ sym (unready files not name)

pub ready_told : (old new : Files) (states : States) → SameFiles old new → states.ready ≡ true → Tells old states → AreTold new states.cells.items
ready_told old new states same ready told =
    let is = sym (same_files old new same) in
    subst (λ (files : Files). AreTold files states.cells.items) is (record {
      ready = sym told.ready ∙ ready;
      cells = subst (λ (b : Bool). HasCells b (old 1) states.cells.items) ready told.cells;
    })

pub unready_cells : (old : Files) (states : States) → states.ready ≡ false → Tells old states → AreNone states.cells.items
unready_cells old states not told = subst (λ (b : Bool). HasCells b (old 1) states.cells.items) not told.cells

pub same_as : (files image : Files) → SameFiles files image → RecoversAs files image
same_as files image same name = ap (λ (f : Files). recovered f name) (same_files files image same)

module _ {D : Type 0} (moment : D → ℕ) (left_since : D → ℕ → Image → Type 0) (may_leave : D → Image → Type 0) (seen : D → Image) (is_honest : D → Bool) where
  -- a run that writes nothing on stable files
  pub reads_as : (old new : D) → ReadsOnly seen may_leave moment left_since is_honest old new → Only (seen old) (may_leave old) → LeavesOnly moment left_since old new (RecoversAs (seen old))
  reads_as old new reads stable = widened moment left_since old new (may_leave old) (RecoversAs (seen old)) reads.any_moment (λ image left. same_as (seen old) image (stable image left))

  pub still_stable : (old new : D) → ReadsOnly seen may_leave moment left_since is_honest old new → Only (seen old) (may_leave old) → Only (seen new) (may_leave new)
  still_stable old new reads stable image left file = stable image (reads.crash image left) file ∙ sym (reads.same file)

  -- a store is made ready, after a run that writes nothing
  pub makes_as : (old mid new : D) → ReadsOnly seen may_leave moment left_since is_honest old mid → Only (seen old) (may_leave old) → is_ready (seen old) ≡ false
      → LeavesOnly moment left_since mid new ReadyOnlyFresh → LeavesOnly moment left_since old new (RecoversAs (seen old))
  makes_as old mid new reads stable not run =
      and_then moment left_since old mid new (RecoversAs (seen old)) ReadyOnlyFresh (reads_as old mid reads stable) run (λ image fresh. fresh_as (seen old) image not fresh)

  module _ (old mid new : D) (states : States) (reads : ReadsOnly seen may_leave moment left_since is_honest old mid) (not : states.ready ≡ false) (told : Tells (seen old) states) where
    pub unready_old : is_ready (seen old) ≡ false
    unready_old = sym told.ready ∙ not

    pub unready_mid : is_ready (seen mid) ≡ false
    unready_mid = ap is_ready (same_files (seen old) (seen mid) reads.same) ∙ unready_old

    pub honest_mid : IsTrue (is_honest old) → IsTrue (is_honest mid)
    honest_mid honest = subst IsTrue (sym reads.honest) honest

    pub made_run : IsTrue (is_honest old) → Only (seen old) (may_leave old)
        → (IsTrue (is_honest mid) → Only (seen mid) (may_leave mid) → is_ready (seen mid) ≡ false → LeavesOnly moment left_since mid new ReadyOnlyFresh)
        → LeavesOnly moment left_since old new (RecoversAs (seen old))
    made_run honest stable makes =
        makes_as old mid new reads stable unready_old (makes (honest_mid honest) (still_stable old mid reads stable) unready_mid)

    pub made_recovers : IsFresh (seen new) → RecoversAs (seen old) (seen new)
    made_recovers fresh = fresh_as (seen old) (seen new) unready_old (inr fresh)

    pub made_told : IsFresh (seen new) → AreTold (seen new) states.cells.items
    made_told fresh = fresh_told (seen new) states.cells.items fresh (unready_cells (seen old) states not told)

  -- a run that writes nothing, after one that recovers as some files
  pub then_reads : (old mid new : D) (files : Files) → LeavesOnly moment left_since old mid (RecoversAs files) → ((image : Image) → may_leave mid image → RecoversAs files image)
      → ReadsOnly seen may_leave moment left_since is_honest mid new → LeavesOnly moment left_since old new (RecoversAs files)
  then_reads old mid new files run here reads = and_then moment left_since old mid new (RecoversAs files) (may_leave mid) run reads.any_moment here

  -- two runs that write nothing
  pub reads_more : (old mid new : D) → ReadsOnly seen may_leave moment left_since is_honest old mid → ReadsOnly seen may_leave moment left_since is_honest mid new
      → ReadsOnly seen may_leave moment left_since is_honest old new
  reads_more old mid new first second = record {
    same = λ file. second.same file ∙ first.same file;
    crash = λ image left. first.crash image (second.crash image left);
    any_moment = and_then moment left_since old mid new (may_leave old) (may_leave mid) first.any_moment second.any_moment first.crash;
    honest = second.honest ∙ first.honest;
  }

  -- a sync, and then a run on stable files
  module _ (only_now : (disk : D) (image : Image) → left_since disk (moment disk) image → may_leave disk image) (old synced new : D)
      (same : SameFiles (seen old) (seen synced)) (crash : Within (may_leave old) (may_leave synced))
      (time : Elapses (moment old) (moment synced) (left_since old) (left_since synced) (may_leave synced)) where
    pub stable_synced : Only (seen old) (may_leave synced) → Only (seen synced) (may_leave synced)
    stable_synced stable image left file = stable image left file ∙ sym (same file)

    module _ (run : LeavesOnly moment left_since synced new (RecoversAs (seen synced))) where
      recovers_old : (image : Image) → RecoversAs (seen synced) image → RecoversAs (seen old) image
      recovers_old image recovers = subst (λ (files : Files). RecoversAs files image) (same_files (seen old) (seen synced) same) recovers

      pub sync_and_run : LeavesOnly moment left_since old new (MayOpen (may_leave old) (seen old))
      sync_and_run =
          and_then moment left_since old synced new (MayOpen (may_leave old) (seen old)) (RecoversAs (seen synced))
          (over_call moment left_since old synced (may_leave old) (may_leave synced) (MayOpen (may_leave old) (seen old)) (only_now old) time (λ image left. inl left) (λ image left. inl (crash image left)))
          run (λ image recovers. inr (recovers_old image recovers))

      pub from_sync : LeavesFrom moment left_since old new (RecoversAs (seen old))
      from_sync = record { since = moment synced; after = time.later; soon = time.soon; within = run.later; each = λ image left. recovers_old image (run.each image left) }
