-- How a call of `batch` ends.
use Rattle.std.proofs.Common.{◌≡◌, ℕ, ◌+◌, ◌≤◌, ◌<◌, Bool, List, [], ◌∷◌, ◌++◌, length, get_or, Option, Some, None, refl, sym, ap, subst, ◌∙◌, inl, inr, length-append, arith}
use Rattle.std.proofs.lemmas.List.{append-nil}
use Rattle.std.specs.Prelude.{◌⊎◌, ◌↔◌, map, IsTrue, codes}
use Rattle.std.specs.Str.{bytes_eq}
use Rattle.std.proofs.lemmas.Slice.Eq.{bytes_eq-Decides}
use Rattle.jx_io.specs.Stream.{CountedOne, Rose, Takes, TakesSome, HasEnded, Appends, AppendsPrefix}
use Rattle.search_main.specs.declared.status.Status.{Status}
use Rattle.search_main.specs.declared.status.Status.TheVariants as statuses
use Rattle.script_text.specs.Lines.{IsAccepted}
use Rattle.jx_io.proofs.StreamLaws.{Rose-one}
use Rattle.script_text.specs.declared.script.TheConstants.{MAX_SCRIPT}
use Rattle.search_main.specs.Top.{exit_code, AreBatch, Call, Exits, as_ended, without_words, IsUntouched, IsInput, IsDue, Ended, IsUnlessFailed}

pub one_word : {X : Type 0} (f : X → List ℕ) (words : List X) (word : X) (b : Bool) → 1 ≤ length words → length words < 2 → word ≡ get_or words 0 word
    → b ≡ bytes_eq (f word) (codes "batch") → IsTrue b ↔ AreBatch (map f words)
one_word f [] word b some few is test = absurd (omega arith)
one_word f (w ∷ []) word b some few is test = (
  λ h. ap (λ (x : List ℕ). x ∷ []) (ap f (sym is) ∙ (bytes_eq-Decides (f word) (codes "batch")).0 (sym test ∙ h)),
  λ e. test ∙ (bytes_eq-Decides (f word) (codes "batch")).1 (ap f is ∙ cc),
)
one_word f (w ∷ v ∷ ws) word b some few is test = absurd (omega arith)

-- a text that is due was written whole, or a prefix of it
pub finished : (call : Call) (wanted result : Status) (text : List ℕ) → IsDue call wanted text
    → ((result ≡ wanted) × Appends call.written call.written_after text × (call.write_faults_after ≡ call.write_faults))
    ⊎ ((result ≡ statuses.WriteFault) × AppendsPrefix call.written call.written_after text × CountedOne call.write_faults call.write_faults_after)
    → Ended call result
finished call wanted result text due (inl whole) = subst (Ended call) (sym whole.0) (written wanted due)
  where
    written : (status : Status) → IsDue call status text → Ended call status
    written statuses.Done d = record { text = text; due = d; wrote = whole.1; writes = whole.2 }
    written statuses.Script d = record { text = text; due = d; wrote = whole.1; writes = whole.2 }
    written statuses.Words d = record { text = text; due = d; wrote = whole.1; writes = whole.2 }
    written statuses.ReadFault d = record { text = text; due = d; wrote = whole.1; writes = whole.2 }
    written statuses.TooLong d = record { text = text; due = d; wrote = whole.1; writes = whole.2 }
    written statuses.WriteFault d = absurd d
    written statuses.NoMemory d = absurd d
finished call wanted result text due (inr broken) =
    subst (Ended call) (sym broken.0) (record { wanted = wanted; text = text; due = due; wrote = broken.1; writes = broken.2 })

-- ---- what a source shows determines what was read

one_input : (input left bytes : List ℕ) (after : Option (List ℕ)) → left ≡ input → Takes (Some left) after bytes → HasEnded after → bytes ≡ input
one_input input left bytes None same taken ended = absurd taken
one_input input left bytes (Some rest) same taken ended = sym (append-nil bytes) ∙ ap (λ (r : List ℕ). bytes ++ r) (sym ended) ∙ sym taken ∙ same

input_of : (input bytes : List ℕ) (left after : Option (List ℕ)) → left ≡ Some input → Takes left after bytes → HasEnded after → bytes ≡ input
input_of input bytes None after same taken ended = absurd cc
input_of input bytes (Some left) after same taken ended = one_input input left bytes after (cc) taken ended

read_is : (call : Call) (input bytes : List ℕ) → call.left ≡ Some input → IsInput call bytes → bytes ≡ input
read_is call input bytes same read = input_of input bytes call.left call.left_after same read.taken read.ended

long_is : (input : List ℕ) (left after : Option (List ℕ)) → left ≡ Some input → TakesSome left after (λ bytes. length bytes ≡ MAX_SCRIPT + 1) → MAX_SCRIPT < length input
long_is input None after same long = absurd cc
long_is input (Some left) None same long = absurd long.taken
long_is input (Some left) (Some rest) same long =
    let whole : input ≡ long.bytes ++ rest = cc (long.taken) in
    omega (arith, long.fact, ap length whole, length-append long.bytes rest)

-- ---- exactly which status

pub script_exactly : (call : Call) (status : Status) (input : List ℕ) → Ended call status → AreBatch call.words → call.left ≡ Some input → length input ≤ MAX_SCRIPT → (¬ IsAccepted input)
    → IsUnlessFailed statuses.Script status
script_exactly call statuses.Done input ended batch shown short refused =
    let is = read_is call input ended.due.input shown ended.due.read in
    absurd (refused (subst IsAccepted is (ended.due.answers.script, ended.due.answers.is_script)))
script_exactly call statuses.Script input ended batch shown short refused = inl refl
script_exactly call statuses.Words input ended batch shown short refused = absurd (ended.due.0.other batch)
script_exactly call statuses.ReadFault input ended batch shown short refused = inr (inl refl)
script_exactly call statuses.WriteFault input ended batch shown short refused = inr (inr (inl refl))
script_exactly call statuses.NoMemory input ended batch shown short refused = inr (inr (inr refl))
script_exactly call statuses.TooLong input ended batch shown short refused = absurd (omega (arith, long_is input call.left call.left_after shown ended.due.0.long))

pub long_exactly : (call : Call) (status : Status) (input : List ℕ) → Ended call status → AreBatch call.words → call.left ≡ Some input → MAX_SCRIPT < length input
    → IsUnlessFailed statuses.TooLong status
long_exactly call statuses.Done input ended batch shown long =
    absurd (omega (arith, ended.due.read.within, ap length (read_is call input ended.due.input shown ended.due.read)))
long_exactly call statuses.Script input ended batch shown long =
    absurd (omega (arith, ended.due.0.read.within, ap length (read_is call input ended.due.0.input shown ended.due.0.read)))
long_exactly call statuses.Words input ended batch shown long = absurd (ended.due.0.other batch)
long_exactly call statuses.ReadFault input ended batch shown long = inr (inl refl)
long_exactly call statuses.WriteFault input ended batch shown long = inr (inr (inl refl))
long_exactly call statuses.NoMemory input ended batch shown long = inr (inr (inr refl))
long_exactly call statuses.TooLong input ended batch shown long = inl refl

pub words_exactly : (call : Call) (status : Status) → Ended call status → (¬ AreBatch call.words) → (status ≡ statuses.Words) ⊎ (status ≡ statuses.WriteFault)
words_exactly call statuses.Done ended other = absurd (other ended.due.read.batch)
words_exactly call statuses.Script ended other = absurd (other ended.due.0.read.batch)
words_exactly call statuses.Words ended other = inl refl
words_exactly call statuses.ReadFault ended other = absurd (other ended.due.0.batch)
words_exactly call statuses.WriteFault ended other = inr refl
words_exactly call statuses.NoMemory ended other = absurd (other ended.batch)
words_exactly call statuses.TooLong ended other = absurd (other ended.due.0.batch)

-- without a fault a script has its output, unless memory ran out
pub complete : (call : Call) (status : Status) (input : List ℕ) → Ended call status → AreBatch call.words → call.left ≡ Some input → length input ≤ MAX_SCRIPT → IsAccepted input
    → (¬ Rose call.read_faults call.read_faults_after) → (¬ Rose call.write_faults call.write_faults_after) → (status ≡ statuses.Done) ⊎ (status ≡ statuses.NoMemory)
complete call statuses.Done input ended batch shown short accepted reads writes = inl refl
complete call statuses.Script input ended batch shown short accepted reads writes =
    absurd (ended.due.0.refused (subst IsAccepted (sym (read_is call input ended.due.0.input shown ended.due.0.read)) accepted))
complete call statuses.Words input ended batch shown short accepted reads writes = absurd (ended.due.0.other batch)
complete call statuses.ReadFault input ended batch shown short accepted reads writes = absurd (reads (Rose-one _ _ ended.due.0.reads))
complete call statuses.WriteFault input ended batch shown short accepted reads writes = absurd (writes (Rose-one _ _ ended.writes))
complete call statuses.NoMemory input ended batch shown short accepted reads writes = inr refl
complete call statuses.TooLong input ended batch shown short accepted reads writes = absurd (omega (arith, long_is input call.left call.left_after shown ended.due.0.long))

-- ---- what was taken, and what was counted

due_unread : (call : Call) (status : Status) (text : List ℕ) → IsDue call status text → (¬ AreBatch call.words)
    → (call.left_after ≡ call.left) × (call.read_faults_after ≡ call.read_faults)
due_unread call statuses.Done text due other = absurd (other due.read.batch)
due_unread call statuses.Script text due other = absurd (other due.0.read.batch)
due_unread call statuses.Words text due other = (due.0.unread, due.0.reads)
due_unread call statuses.ReadFault text due other = absurd (other due.0.batch)
due_unread call statuses.TooLong text due other = absurd (other due.0.batch)
due_unread call statuses.WriteFault text due other = absurd due
due_unread call statuses.NoMemory text due other = absurd due

pub unread : (call : Call) (status : Status) → Ended call status → (¬ AreBatch call.words)
    → (call.left_after ≡ call.left) × (call.read_faults_after ≡ call.read_faults)
unread call statuses.Done ended other = due_unread call statuses.Done ended.text ended.due other
unread call statuses.Script ended other = due_unread call statuses.Script ended.text ended.due other
unread call statuses.Words ended other = due_unread call statuses.Words ended.text ended.due other
unread call statuses.ReadFault ended other = due_unread call statuses.ReadFault ended.text ended.due other
unread call statuses.TooLong ended other = due_unread call statuses.TooLong ended.text ended.due other
unread call statuses.WriteFault ended other = due_unread call ended.wanted ended.text ended.due other
unread call statuses.NoMemory ended other = absurd (other ended.batch)

-- the source failed once or never
abbrev FailsOnce : Call → Type 0
FailsOnce call = (call.read_faults_after ≡ call.read_faults) ⊎ CountedOne call.read_faults call.read_faults_after

due_reads : (call : Call) (status : Status) (text : List ℕ) → IsDue call status text → FailsOnce call
due_reads call statuses.Done text due = inl due.read.reads
due_reads call statuses.Script text due = inl due.0.read.reads
due_reads call statuses.Words text due = inl due.0.reads
due_reads call statuses.ReadFault text due = inr due.0.reads
due_reads call statuses.TooLong text due = inl due.0.reads
due_reads call statuses.WriteFault text due = absurd due
due_reads call statuses.NoMemory text due = absurd due

pub fails_once : (call : Call) (status : Status) → Ended call status → (call.read_faults_after ≡ call.read_faults) ⊎ CountedOne call.read_faults call.read_faults_after
fails_once call statuses.Done ended = due_reads call statuses.Done ended.text ended.due
fails_once call statuses.Script ended = due_reads call statuses.Script ended.text ended.due
fails_once call statuses.Words ended = due_reads call statuses.Words ended.text ended.due
fails_once call statuses.ReadFault ended = due_reads call statuses.ReadFault ended.text ended.due
fails_once call statuses.TooLong ended = due_reads call statuses.TooLong ended.text ended.due
fails_once call statuses.WriteFault ended = due_reads call ended.wanted ended.text ended.due
fails_once call statuses.NoMemory ended = inl ended.reads

pub writes_quietly : (call : Call) (status : Status) → Ended call status → (status ≡ statuses.WriteFault) ⊎ (call.write_faults_after ≡ call.write_faults)
writes_quietly call statuses.Done ended = inr ended.writes
writes_quietly call statuses.Script ended = inr ended.writes
writes_quietly call statuses.Words ended = inr ended.writes
writes_quietly call statuses.ReadFault ended = inr ended.writes
writes_quietly call statuses.TooLong ended = inr ended.writes
writes_quietly call statuses.WriteFault ended = inl refl
writes_quietly call statuses.NoMemory ended = inr ended.writes

-- ---- how a process exits

-- a call on other words, which are the same
abbrev with_words : List (List ℕ) → Call → Call
with_words words call = record call { words = words }

pub exits_as_ended : (call : Call) (words : List (List ℕ)) (status : Status) (code : ℕ) → words ≡ call.words → Ended (with_words words call) status → code ≡ exit_code status → Exits call code
exits_as_ended call words status code same ended is =
    subst (Exits call) (sym is) (as_ended status (subst (λ w. Ended (with_words w call) status) same ended))

pub exits_without_words : (call : Call) (code : ℕ) → IsUntouched call → code ≡ exit_code statuses.NoMemory → Exits call code
exits_without_words call code untouched is = subst (Exits call) (sym is) (without_words untouched)
