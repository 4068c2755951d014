-- The matches of a search, by a full scan of the documents. No index stands in it.
use Rattle.std.specs.Prelude.{◌≡◌, Bool, true, List, [], ◌∷◌, ◌++◌, map, cond}
use Rattle.std.specs.List.{filter, list_any, AllZip}
use Rattle.std.specs.Str.{bytes_eq}
use Rattle.java_tree.specs.declared.doc_name.Scope.{Scope}
use Rattle.java_tree.specs.declared.doc_name.Scope.TheVariants.{All, Containers}
use Rattle.java_tree.specs.declared.occurrence.Match.{Match}
use Rattle.java_tree.specs.declared.occurrence.Occurrence.{Occurrence}
use Rattle.java_tree.specs.declared.types.DocPath.{DocPath}
use Rattle.java_model.specs.Names.Environments.{Env, EnvDocument}
use Rattle.java_model.specs.SearchPattern.Parts.{Pattern}
use Rattle.java_model.specs.Matches.Fits.{fits}

-- JDT `IJavaSearchScope`
abbrev pub is_in_scope : Scope → DocPath → Bool
is_in_scope All doc = true
is_in_scope (Containers containers) doc = list_any (bytes_eq doc.container) containers

abbrev pub match_of : DocPath → Occurrence → Match
match_of doc o = record {
  container = doc.container;
  path = doc.path;
  span = o.span;
  kind = o.kind;
  accuracy = o.accuracy;
  access = o.access;
}

-- the occurrences of a document that fit
abbrev pub matches_of : Env → Pattern → DocPath → List Occurrence → List Match
matches_of env p doc found = map (match_of doc) (filter (fits env p) found)

-- those of the documents in scope, in order, each document with its occurrences
abbrev pub matches_among : Env → Scope → Pattern → List EnvDocument → List (List Occurrence) → List Match
matches_among env scope p [] found = []
matches_among env scope p (d ∷ ds) [] = []
matches_among env scope p (d ∷ ds) (os ∷ found) =
    cond (is_in_scope scope d.path) (matches_of env p d.path os) [] ++ matches_among env scope p ds found

-- The matches of the documents of an environment, given what occurrences a document has. One that can't be read
-- has none, and is none of them.
pub record IsScan (Has : DocPath → List Occurrence → Type 0) (env : Env) (scope : Scope) (p : Pattern) (ms : List Match) : Type 0 where
  pub found : List (List Occurrence)
  pub each : AllZip (λ d os. Has d.path os) env found
  pub matches : ms ≡ matches_among env scope p env found
