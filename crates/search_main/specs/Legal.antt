-- Which outputs a script may have.
use Rattle.std.specs.Prelude.{◌≡◌, ◌≤◌, true, List, [], length, Result, Ok, Err}
use Rattle.std.specs.List.{count_by, AllZip}
use Rattle.std.specs.List.Sorted.{IsPermutation}
use Rattle.java_tree.specs.declared.doc_name.Scope.{Scope}
use Rattle.java_tree.specs.declared.occurrence.Match.{Match}
use Rattle.java_tree.specs.declared.occurrence.Occurrence.{Occurrence}
use Rattle.java_tree.specs.declared.outline.Level.TheVariants.{Java14}
use Rattle.java_tree.specs.declared.types.DocPath.{DocPath}
use Rattle.java_model.specs.Documents.{Document, AreInOrder}
use Rattle.java_model.specs.DocumentTexts.{Levels, path_of, IsEnvOf, HasOccurrencesAt}
use Rattle.java_model.specs.Names.Environments.{Env}
use Rattle.java_model.specs.Matches.Scans.{is_in_scope, IsScan}
use Rattle.java_model.specs.Output.{Entry, Report}
use Rattle.java_model.specs.SearchPattern.Parts.{Pattern, PatternFault, pattern_of}
use Rattle.script_text.specs.declared.script.Search.{Search}
use Rattle.script_text.specs.Replies.{Reply, reported, refused, Output}
use Rattle.script_text.specs.Scripts.{Script}

-- each container is of source level 1.4
abbrev pub at_1_4 : Levels
at_1_4 container = Java14

-- the pattern of a search, or why it is refused
abbrev pub pattern_in : Search → Result Pattern PatternFault
pattern_in s = pattern_of s.what s.limit s.rule s.case s.pattern

-- What a document in scope names, in the environment of all. Of one that isn't in scope nothing is asked.
abbrev pub NamesInScope : List Document → Env → Scope → DocPath → List Occurrence → Type 0
NamesInScope docs env scope path os = is_in_scope scope path ≡ true → HasOccurrencesAt at_1_4 docs env path os

-- the matches of a search, by a full scan of the documents in scope
pub record AreMatches (docs : List Document) (scope : Scope) (p : Pattern) (ms : List Match) : Type 0 where
  pub env : Env
  pub is_env : IsEnvOf at_1_4 docs env
  pub scan : IsScan (NamesInScope docs env scope) env scope p ms

-- A report answers its search: it has the matches of a full scan at one version of the journal, and each
-- document in scope was read, an unreadable one too.
pub record IsReport (docs : List Document) (journal : List Entry) (search : Search) (p : Pattern) (report : Report) : Type 0 where
  pub line : report.line ≡ search.line
  pub version : report.version ≤ length journal
  pub matches : AreMatches docs search.scope p report.matches
  pub resolved : report.resolved ≡ count_by (λ d. is_in_scope search.scope (path_of d)) docs
  pub newer : report.newer ≡ 0
  pub skipped : report.skipped ≡ []

-- A search has its report, or the cause where its pattern is refused.
pub data Answers (docs : List Document) (journal : List Entry) (search : Search) : Reply → Type 0 where
  answers : (p : Pattern) (report : Report) → pattern_in search ≡ Ok p → IsReport docs journal search p report → Answers docs journal search (reported report)
  refuses : (fault : PatternFault) → pattern_in search ≡ Err fault → Answers docs journal search (refused search.line fault)

-- A legal output: as no command edits, the journal is empty and its one version has the opening documents, in
-- order; each command has its reply, in order.
pub record IsLegal (script : Script) (output : Output) : Type 0 where
  pub opening : List Document
  pub same : IsPermutation script.docs opening
  pub in_order : AreInOrder opening
  pub journal : output.journal ≡ []
  pub replies : AllZip (Answers opening output.journal) script.searches output.replies
