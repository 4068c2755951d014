-- Runs of calls that write nothing, and their faults.
use Rattle.std.specs.Prelude.{◌≡◌, ℕ, Bool, Result, OnOk, IsErrOf}
use Rattle.jx_io.specs.Stream.{CountedOne}
use Rattle.jx_disk.specs.Disk.{Image, SameFiles, Within, LeavesOnly}
use Rattle.index_states.specs.declared.fault.StateFault.{StateFault}
use Rattle.index_states.specs.declared.fault.StateFault.TheVariants.{Disk, NoMemory}

-- Nothing was written: a read gives what it gave, and a crash leaves nothing that it might not have left at the start.
pub record ReadsOnly {D : Type 0} (seen : D → Image) (may_leave : D → Image → Type 0) (moment : D → ℕ)
    (left_since : D → ℕ → Image → Type 0) (is_honest : D → Bool) (old new : D) : Type 0 where
  pub same : SameFiles (seen old) (seen new)
  pub crash : Within (may_leave old) (may_leave new)
  pub any_moment : LeavesOnly moment left_since old new (may_leave old)
  pub honest : is_honest new ≡ is_honest old

-- just one fault of the disk was counted, or none
pub record CountsState {T : Type 0} (result : Result T StateFault) (before now : ℕ) : Type 0 where
  pub cause : IsErrOf result Disk → CountedOne before now
  pub quiet : OnOk result (now ≡ before)
  pub memory : IsErrOf result NoMemory → now ≡ before
