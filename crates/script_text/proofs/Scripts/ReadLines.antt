-- Reading all lines, as the code does.
use Rattle.std.proofs.Common.{◌≡◌, ℕ, ◌+◌, ◌-◌, ◌≤◌, List, length, take, Some, refl, ap, length-append, arith}
use Rattle.std.specs.List.{flat_map}
use Rattle.java_model.specs.Documents.{Document}
use Rattle.script_text.specs.declared.script.Search.{Search}
use Rattle.java_model.specs.ScriptText.{doc_text, newlines}
use Rattle.script_text.specs.declared.fault.ScriptFault.{ScriptFault}
use Rattle.script_text.specs.declared.fault.ScriptFault.TheVariants as faults
use Rattle.script_text.specs.Inner.Reading.{Fails, docs_at, searches_at, lines_at}
use Rattle.script_text.proofs.Scripts.PrintOfRead.{docs_takes}

-- the line of the first search
abbrev pub first_line : List ℕ → List ℕ → ℕ
first_line bytes rest = 1 + newlines (take (length bytes - length rest) bytes)

pub docs_fault : (e : ScriptFault) (bytes : List ℕ) → Fails e (docs_at (length bytes) bytes) → Fails e (lines_at bytes)
unfolding lines_at
docs_fault faults.NoMemory bytes read = tt
docs_fault faults.NotBuilt bytes read = rw read refl

pub searches_fault : (e : ScriptFault) (bytes : List ℕ) (docs : List Document) (rest : List ℕ) → docs_at (length bytes) bytes ≡ Some (docs, rest)
    → Fails e (searches_at (length rest) (first_line bytes rest) rest) → Fails e (lines_at bytes)
unfolding lines_at
searches_fault faults.NoMemory bytes docs rest front read = tt
searches_fault faults.NotBuilt bytes docs rest front read = rw (front, read) refl

pub lines_is : (bytes : List ℕ) (docs : List Document) (rest : List ℕ) (searches : List Search) → docs_at (length bytes) bytes ≡ Some (docs, rest)
    → searches_at (length rest) (first_line bytes rest) rest ≡ Some searches → lines_at bytes ≡ Some (record { docs = docs; searches = searches })
unfolding lines_at
lines_is bytes docs rest searches front read = rw (front, read) refl

pub rest_within : (bytes : List ℕ) (docs : List Document) (rest : List ℕ) → docs_at (length bytes) bytes ≡ Some (docs, rest) → length rest ≤ length bytes
rest_within bytes docs rest front =
    let parts = ap length (docs_takes (length bytes) bytes (docs, rest) front).0 in omega (arith, parts, length-append (flat_map doc_text docs) rest)
