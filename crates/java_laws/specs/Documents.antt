-- That a document has one list of occurrences, and that a search may ask an index first: a document with a match has a
-- key that the pattern admits.
use Rattle.std.specs.Prelude.{◌≡◌, ◌<◌, ◌^◌, ℕ, true, List, length, Contains}
use Rattle.std.specs.Str.{IsUtf8}
use Rattle.java_tree.specs.declared.key.Key.{Key}
use Rattle.java_tree.specs.declared.doc_name.Scope.{Scope}
use Rattle.java_tree.specs.declared.occurrence.Match.{Match}
use Rattle.java_tree.specs.declared.occurrence.Occurrence.{Occurrence}
use Rattle.java_tree.specs.declared.outline.Level.{Level}
use Rattle.java_tree.specs.declared.unit.Unit.{Unit as CompilationUnit}
use Rattle.java_model.specs.Documents.{Document}
use Rattle.java_model.specs.DocumentTexts.{Levels, level_of, path_of, IsEnvOf, AreOccurrencesOf, AreKeysOf, IsScanOf}
use Rattle.java_model.specs.Texts.{IsUnitOfText}
use Rattle.java_model.specs.Names.Lists.{Identifier}
use Rattle.java_model.specs.Names.Environments.{Env}
use Rattle.java_model.specs.SearchPattern.Parts.{Pattern}
use Rattle.java_model.specs.Matches.Fits.{fits}
use Rattle.java_model.specs.Matches.Laws.{IsField}
use Rattle.java_laws.specs.Keys.{ref_key}
use Rattle.java_laws.specs.Preselection.{IsPreselected, IsSimple, QualificationsAreFields, HasFewParameters}

abbrev pub AtMostOneUnitOfText : Type 0
AtMostOneUnitOfText = (level : Level) (text : List ℕ) (u v : CompilationUnit) → IsUnitOfText level text u → IsUnitOfText level text v → u ≡ v

-- A document has one list of occurrences in an environment, where a text has one unit at most and is below 4 GiB.
abbrev pub OccurrencesOfDocumentsAreUnique : Type 0
OccurrencesOfDocumentsAreUnique = AtMostOneUnitOfText → (levels : Levels) (env : Env) (d : Document) → IsUtf8 d.text → length d.text < 2 ^ 32
    → (os us : List Occurrence) → AreOccurrencesOf levels env d os → AreOccurrencesOf levels env d us → os ≡ us

-- no two documents have the same container and path
abbrev pub HaveOwnNames : List Document → Type 0
HaveOwnNames docs = (d e : Document) → Contains docs d → Contains docs e → path_of d ≡ path_of e → d ≡ e

-- the names that are referred to have no dots (JLS 3.8)
abbrev pub HaveSimpleNames : List Key → Type 0
HaveSimpleNames keys = (name : Identifier) → Contains keys (ref_key name) → IsSimple name

-- A document with an occurrence that fits a pattern has a key that the pattern admits, where a text has one unit at most. An
-- identifier has no `/` and no dot.
abbrev pub FittingDocumentsArePreselected : Type 0
FittingDocumentsArePreselected = AtMostOneUnitOfText → (levels : Levels) (docs : List Document) (env : Env) → HaveOwnNames docs
    → IsEnvOf levels docs env → QualificationsAreFields env → (d : Document) → Contains docs d
    → (os : List Occurrence) → AreOccurrencesOf levels env d os
    → (keys : List Key) → AreKeysOf (level_of levels d) d.text keys → HaveSimpleNames keys
    → (o : Occurrence) → Contains os o → IsField o.name → o.count < 2 ^ 64 → HasFewParameters env o
    → (p : Pattern) → fits env p o ≡ true → IsPreselected (Contains keys) p

-- What a program sees to of documents: no name has a `/`, no identifier a dot, and numbers count arguments and parameters.
pub record AreSpelled (levels : Levels) (docs : List Document) (env : Env) : Type 0 where
  pub qualifications : QualificationsAreFields env
  pub keys : (d : Document) → Contains docs d → (keys : List Key) → AreKeysOf (level_of levels d) d.text keys → HaveSimpleNames keys
  pub fields : (d : Document) → Contains docs d → (os : List Occurrence) → AreOccurrencesOf levels env d os
      → (o : Occurrence) → Contains os o → IsField o.name
  pub counts : (d : Document) → Contains docs d → (os : List Occurrence) → AreOccurrencesOf levels env d os → (o : Occurrence) → Contains os o
      → o.count < 2 ^ 64
  pub few : (d : Document) → Contains docs d → (os : List Occurrence) → AreOccurrencesOf levels env d os → (o : Occurrence) → Contains os o
      → HasFewParameters env o

-- A match stands in a document whose keys have one that the pattern admits.
pub record IsOfCandidate (levels : Levels) (docs : List Document) (p : Pattern) (m : Match) : Type 0 where
  pub document : Document
  pub stands : Contains docs document
  pub container : m.container ≡ document.container
  pub path : m.path ≡ document.path
  pub preselected : (keys : List Key) → AreKeysOf (level_of levels document) document.text keys → IsPreselected (Contains keys) p

-- Each match of a full scan stands in a document that an index gives for the pattern.
abbrev pub MatchesAreOfCandidates : Type 0
MatchesAreOfCandidates = AtMostOneUnitOfText → (levels : Levels) (docs : List Document) (scope : Scope) (p : Pattern) (ms : List Match) → HaveOwnNames docs
    → (scan : IsScanOf levels docs scope p ms) → AreSpelled levels docs scan.env → (m : Match) → Contains ms m → IsOfCandidate levels docs p m
