-- What documents mean by their texts: their environment, occurrences, keys and matches.
use Rattle.std.specs.Prelude.{◌≡◌, ℕ, List, [], ◌∷◌, Some, Contains}
use Rattle.java_tree.specs.declared.doc_name.Scope.{Scope}
use Rattle.java_tree.specs.declared.key.Key.{Key}
use Rattle.java_tree.specs.declared.occurrence.Match.{Match}
use Rattle.java_tree.specs.declared.occurrence.Occurrence.{Occurrence}
use Rattle.java_tree.specs.declared.outline.Level.{Level}
use Rattle.java_tree.specs.declared.outline.Outline.{Outline}
use Rattle.java_tree.specs.declared.types.DocPath.{DocPath}
use Rattle.java_tree.specs.declared.unit.Unit.{Unit as CompilationUnit}
use Rattle.java_model.specs.Documents.{Document}
use Rattle.java_model.specs.Texts.{IsUnitOfText, IsUnreadable, HasOutline}
use Rattle.java_model.specs.Names.Environments.{Env}
use Rattle.java_model.specs.Scopes.Contexts.{Context, context_of}
use Rattle.java_model.specs.Occurrences.Occurrences.{Occurrences}
use Rattle.java_model.specs.SearchPattern.Parts.{Pattern}
use Rattle.java_model.specs.Matches.Keys.{AreKeys}
use Rattle.java_model.specs.Matches.Scans.{IsScan}

-- the source level of each container
abbrev pub Levels : Type 0
Levels = List ℕ → Level

abbrev pub level_of : Levels → Document → Level
level_of levels d = levels d.container

abbrev pub path_of : Document → DocPath
path_of d = record { container = d.container; path = d.path }

-- The environment of documents: the readable ones, in order, each with the outline of its text (JLS 7, 8, 9).
pub data IsEnvOf (levels : Levels) : List Document → Env → Type 0 where
  no_documents : IsEnvOf levels [] []
  unreadable : (d : Document) (docs : List Document) (env : Env) → IsUnreadable (level_of levels d) d.text → IsEnvOf levels docs env
      → IsEnvOf levels (d ∷ docs) env
  readable : (d : Document) (outline : Outline) (docs : List Document) (env : Env) → HasOutline (level_of levels d) d.text outline
      → IsEnvOf levels docs env → IsEnvOf levels (d ∷ docs) (record { path = path_of d; outline = outline } ∷ env)

-- The occurrences of a document in an environment: those of the unit of its text. A text without a unit has none.
pub data AreOccurrencesOf (levels : Levels) (env : Env) (d : Document) : List Occurrence → Type 0 where
  no_occurrences : IsUnreadable (level_of levels d) d.text → AreOccurrencesOf levels env d []
  named_in_unit : (u : CompilationUnit) (C : Context) (os : List Occurrence) → IsUnitOfText (level_of levels d) d.text u
      → context_of env (path_of d) u ≡ Some C → Occurrences C u os → AreOccurrencesOf levels env d os

-- The keys of a text, which ask no environment. A text without a unit has none.
pub data AreKeysOf (level : Level) (text : List ℕ) : List Key → Type 0 where
  no_keys : IsUnreadable level text → AreKeysOf level text []
  given_in_unit : (u : CompilationUnit) (keys : List Key) → IsUnitOfText level text u → AreKeys u keys → AreKeysOf level text keys

-- these are the occurrences of the document with this path
pub record HasOccurrencesAt (levels : Levels) (docs : List Document) (env : Env) (path : DocPath) (os : List Occurrence) : Type 0 where
  pub document : Document
  pub stands : Contains docs document
  pub named : path ≡ path_of document
  pub are : AreOccurrencesOf levels env document os

-- the matches of a search by a full scan of documents, in their environment
pub record IsScanOf (levels : Levels) (docs : List Document) (scope : Scope) (p : Pattern) (ms : List Match) : Type 0 where
  pub env : Env
  pub is_env : IsEnvOf levels docs env
  pub scan : IsScan (HasOccurrencesAt levels docs env) env scope p ms

-- LAWS
abbrev pub AtMostOneOutline : Type 0
AtMostOneOutline = (level : Level) (text : List ℕ) (o p : Outline) → HasOutline level text o → HasOutline level text p → o ≡ p

-- Documents have one environment at most, where a text has one outline at most.
abbrev pub EnvironmentsAreUnique : Type 0
EnvironmentsAreUnique = AtMostOneOutline → (levels : Levels) (docs : List Document) (e f : Env)
    → IsEnvOf levels docs e → IsEnvOf levels docs f → e ≡ f
