-- The matches of a search, one document after the other.
use Rattle.std.specs.Prelude.{◌≡◌, true, false, List, [], ◌∷◌, ◌++◌, Some}
use Rattle.java_tree.specs.declared.doc_name.Scope.{Scope}
use Rattle.java_tree.specs.declared.occurrence.Match.{Match}
use Rattle.java_tree.specs.declared.occurrence.Occurrence.{Occurrence}
use Rattle.java_tree.specs.declared.outline.Level.TheVariants.{Java14}
use Rattle.java_tree.specs.declared.types.DocPath.{DocPath}
use Rattle.java_tree.specs.declared.unit.Unit.{Unit as CompilationUnit}
use Rattle.java_model.specs.Documents.{Document}
use Rattle.java_model.specs.DocumentTexts.{path_of, AreOccurrencesOf}
use Rattle.java_model.specs.Names.Environments.{Env}
use Rattle.java_model.specs.Scopes.Contexts.{Context, context_of}
use Rattle.java_model.specs.Occurrences.Occurrences.{Occurrences}
use Rattle.java_model.specs.SearchPattern.Parts.{Pattern}
use Rattle.java_model.specs.Texts.{IsUnitOfText}
use Rattle.java_model.specs.Matches.Scans.{is_in_scope, matches_of}
use Rattle.search_main.specs.declared.opening.Opened.{Opened}
use Rattle.search_main.specs.Inner.Views.{path_read}
use Rattle.search_main.specs.Legal.{at_1_4}

-- a unit whose document stands in an environment
pub record StandsIn (env : Env) (path : DocPath) (u : CompilationUnit) : Type 0 where
  pub context : Context
  pub is : context_of env path u ≡ Some context

-- a document that was read at source level 1.4, and stands in an environment if it is readable
pub record IsOpenedIn (env : Env) (opened : Opened) : Type 0 where
  pub level : opened.document.level ≡ Java14
  pub stands : (u : CompilationUnit) → IsUnitOfText Java14 opened.document.text u → StandsIn env (path_read opened) u

-- the matches among what a unit names
pub record AreMatchesIn (env : Env) (p : Pattern) (path : DocPath) (u : CompilationUnit) (ms : List Match) : Type 0 where
  pub stands : StandsIn env path u
  pub found : List Occurrence
  pub are : Occurrences stands.context u found
  pub matches : ms ≡ matches_of env p path found

-- the matches in a document
pub record AreMatchesOf (env : Env) (p : Pattern) (d : Document) (ms : List Match) : Type 0 where
  pub found : List Occurrence
  pub are : AreOccurrencesOf at_1_4 env d found
  pub matches : ms ≡ matches_of env p (path_of d) found

-- the matches in those of some documents that are in scope
pub data AreMatchesAmong (env : Env) (scope : Scope) (p : Pattern) : List Document → List Match → Type 0 where
  nowhere : AreMatchesAmong env scope p [] []
  in_scope : (d : Document) (ds : List Document) (ms more : List Match) → is_in_scope scope (path_of d) ≡ true → AreMatchesOf env p d ms
      → AreMatchesAmong env scope p ds more → AreMatchesAmong env scope p (d ∷ ds) (ms ++ more)
  outside : (d : Document) (ds : List Document) (ms : List Match) → is_in_scope scope (path_of d) ≡ false
      → AreMatchesAmong env scope p ds ms → AreMatchesAmong env scope p (d ∷ ds) ms
