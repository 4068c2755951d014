-- What the program's values stand for.
use Rattle.std.specs.Prelude.{ℕ, List, [], map}
use Rattle.java_tree.specs.declared.occurrence.Match.{Match}
use Rattle.java_model.specs.Documents.{Document}
use Rattle.java_model.specs.Output.{Report}
use Rattle.java_model.specs.SearchPattern.Parts.{PatternFault, wrong_limit, bad_parens, empty}
use Rattle.script_text.specs.declared.refusal.Refusal.{Refusal}
use Rattle.script_text.specs.declared.refusal.Refusal.TheVariants as refusals
use Rattle.script_text.specs.declared.script.ScriptDoc.{ScriptDoc}
use Rattle.script_text.specs.declared.script.Script.{Script}
use Rattle.script_text.specs.Scripts as scripts

-- an opening document
abbrev pub document_of : ScriptDoc → Document
document_of doc = record { container = doc.container; path = doc.path; version = 0; stamp = doc.stamp; text = doc.text }

abbrev pub documents_of : List ScriptDoc → List Document
documents_of docs = map document_of docs

abbrev pub script_of : Script → scripts.Script
script_of script = record { docs = documents_of script.docs.items; searches = script.searches.items }

-- why a pattern is refused
abbrev pub fault_of : Refusal → PatternFault
fault_of refusals.WrongLimit = wrong_limit
fault_of (refusals.BadParens at) = bad_parens at
fault_of refusals.Empty = empty

-- the report of a search at version 0 that read so many documents, and passed none over
abbrev pub report_of : ℕ → ℕ → List Match → Report
report_of line resolved matches = record { line = line; version = 0; matches = matches; resolved = resolved; newer = 0; skipped = [] }
