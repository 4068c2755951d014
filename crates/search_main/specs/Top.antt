-- How a call of `batch` ends: by its status, what was read and what was written.
use Rattle.std.specs.Prelude.{◌≡◌, ℕ, ◌+◌, ◌≤◌, ◌⊎◌, List, [], ◌∷◌, ◌++◌, length, Option, codes}
use Rattle.java_tree.specs.declared.limits.TheConstants.{LF}
use Rattle.jx_io.specs.Stream.{CountedOne, Takes, TakesSome, HasEnded, Appends, AppendsPrefix}
use Rattle.script_text.specs.declared.script.TheConstants.{MAX_SCRIPT}
use Rattle.search_main.specs.declared.status.Status.{Status}
use Rattle.search_main.specs.declared.status.Status.TheVariants as statuses
use Rattle.script_text.specs.Lines.{IsAccepted}
use Rattle.search_main.specs.Accepted.{AnswersScript}

-- the exit status of a process
abbrev pub exit_code : Status → ℕ
exit_code statuses.Done = 0
exit_code statuses.Script = 1
exit_code statuses.Words = 2
exit_code statuses.ReadFault = 3
exit_code statuses.WriteFault = 4
exit_code statuses.NoMemory = 6
exit_code statuses.TooLong = 7

-- the words are the one word `batch`
abbrev pub AreBatch : List (List ℕ) → Type 0
AreBatch words = words ≡ codes "batch" ∷ []

-- what the source and the sink show before a call and after it
pub record Call : Type 0 where
  pub words : List (List ℕ)
  pub left : Option (List ℕ)
  pub left_after : Option (List ℕ)
  pub read_faults : ℕ
  pub read_faults_after : ℕ
  pub written : Option (List ℕ)
  pub written_after : Option (List ℕ)
  pub write_faults : ℕ
  pub write_faults_after : ℕ

-- no more bytes than the limit were taken
abbrev pub IsWithin : Call → Type 0
IsWithin call = TakesSome call.left call.left_after (λ bytes. length bytes ≤ MAX_SCRIPT)

-- the source was read to its end, within the limit and without a fault, and this is what it gave
pub record IsInput (call : Call) (input : List ℕ) : Type 0 where
  pub batch : AreBatch call.words
  pub taken : Takes call.left call.left_after input
  pub ended : HasEnded call.left_after
  pub within : length input ≤ MAX_SCRIPT
  pub reads : call.read_faults_after ≡ call.read_faults

-- this is a legal output of the script that was read
pub record IsOutput (call : Call) (text : List ℕ) : Type 0 where
  pub input : List ℕ
  pub read : IsInput call input
  pub answers : AnswersScript input text

-- what was read is no script
pub record GivesNoScript (call : Call) : Type 0 where
  pub input : List ℕ
  pub read : IsInput call input
  pub refused : ¬ IsAccepted input

-- the words are no command, and nothing was read
pub record HasOtherWords (call : Call) : Type 0 where
  pub other : ¬ AreBatch call.words
  pub unread : call.left_after ≡ call.left
  pub reads : call.read_faults_after ≡ call.read_faults

-- the source failed once, and was not asked again
pub record FailsToRead (call : Call) : Type 0 where
  pub batch : AreBatch call.words
  pub within : IsWithin call
  pub reads : CountedOne call.read_faults call.read_faults_after

-- the source gave one byte more than the limit
pub record GivesTooMuch (call : Call) : Type 0 where
  pub batch : AreBatch call.words
  pub long : TakesSome call.left call.left_after (λ bytes. length bytes ≡ MAX_SCRIPT + 1)
  pub reads : call.read_faults_after ≡ call.read_faults

-- the text that is due under a status, with the cause of this status
abbrev pub IsDue : Call → Status → List ℕ → Type 0
IsDue call statuses.Done text = IsOutput call text
IsDue call statuses.Script text = GivesNoScript call × (text ≡ codes "fault script 0 NotBuilt" ++ LF ∷ [])
IsDue call statuses.Words text = HasOtherWords call × (text ≡ codes "fault words" ++ LF ∷ [])
IsDue call statuses.ReadFault text = FailsToRead call × (text ≡ codes "fault read" ++ LF ∷ [])
IsDue call statuses.TooLong text = GivesTooMuch call × (text ≡ codes "fault long" ++ LF ∷ [])
IsDue call statuses.WriteFault text = ⊥
IsDue call statuses.NoMemory text = ⊥

-- the text that is due was written whole
pub record Writes (call : Call) (status : Status) : Type 0 where
  pub text : List ℕ
  pub due : IsDue call status text
  pub wrote : Appends call.written call.written_after text
  pub writes : call.write_faults_after ≡ call.write_faults

-- the sink failed once, and a prefix of a text that is due was written
pub record FailsToWrite (call : Call) : Type 0 where
  pub wanted : Status
  pub text : List ℕ
  pub due : IsDue call wanted text
  pub wrote : AppendsPrefix call.written call.written_after text
  pub writes : CountedOne call.write_faults call.write_faults_after

-- memory ran out: nothing was written, no more than the limit was taken, and nothing failed
pub record RanOut (call : Call) : Type 0 where
  pub batch : AreBatch call.words
  pub within : IsWithin call
  pub unwritten : call.written_after ≡ call.written
  pub reads : call.read_faults_after ≡ call.read_faults
  pub writes : call.write_faults_after ≡ call.write_faults

-- the table of the statuses
abbrev pub Ended : Call → Status → Type 0
Ended call statuses.Done = Writes call statuses.Done
Ended call statuses.Script = Writes call statuses.Script
Ended call statuses.Words = Writes call statuses.Words
Ended call statuses.ReadFault = Writes call statuses.ReadFault
Ended call statuses.TooLong = Writes call statuses.TooLong
Ended call statuses.WriteFault = FailsToWrite call
Ended call statuses.NoMemory = RanOut call

-- the status that is wanted, unless the source or the sink failed or memory ran out
abbrev pub IsUnlessFailed : Status → Status → Type 0
IsUnlessFailed wanted status = (status ≡ wanted) ⊎ (status ≡ statuses.ReadFault) ⊎ (status ≡ statuses.WriteFault) ⊎ (status ≡ statuses.NoMemory)

-- memory ran out before anything was read or written
pub record IsUntouched (call : Call) : Type 0 where
  pub unread : call.left_after ≡ call.left
  pub unwritten : call.written_after ≡ call.written
  pub reads : call.read_faults_after ≡ call.read_faults
  pub writes : call.write_faults_after ≡ call.write_faults

-- the exit status of a process that makes this call, or has no memory for its words
pub data Exits (call : Call) : ℕ → Type 0 where
  as_ended : (status : Status) → Ended call status → Exits call (exit_code status)
  without_words : IsUntouched call → Exits call (exit_code statuses.NoMemory)
