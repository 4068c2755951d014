-- What five searches find in the source, each with `exact` and `case`.
use Rattle.std.proofs.Common.{◌≡◌, ℕ, ◌+◌, true, List, [], ◌∷◌, Ok, codes, sym, subst, ◌∙◌, refl}
use Rattle.java_tree.specs.declared.occurrence.Access.{Access}
use Rattle.java_tree.specs.declared.occurrence.Access.TheVariants.{NoAccess, Read}
use Rattle.java_tree.specs.declared.occurrence.Accuracy.{Accuracy}
use Rattle.java_tree.specs.declared.occurrence.Accuracy.TheVariants.{Accurate, Inaccurate}
use Rattle.java_tree.specs.declared.occurrence.Match.{Match}
use Rattle.java_tree.specs.declared.occurrence.OccKind.{OccKind}
use Rattle.java_tree.specs.declared.occurrence.OccKind.TheVariants as occurs
use Rattle.java_tree.specs.declared.occurrence.Occurrence.{Occurrence}
use Rattle.java_tree.specs.declared.doc_name.Scope.TheVariants.{All}
use Rattle.java_tree.specs.declared.search.Limit.{Limit}
use Rattle.java_tree.specs.declared.search.Limit.TheVariants as limits
use Rattle.java_tree.specs.declared.search.Rule.TheVariants.{Exact}
use Rattle.java_tree.specs.declared.search.What.{What}
use Rattle.java_tree.specs.declared.search.What.TheVariants as whats
use Rattle.java_model.specs.SearchPattern.Parts.{Pattern, pattern_of}
use Rattle.java_model.specs.DocumentTexts.{IsScanOf}
use Rattle.java_model.specs.Matches.Scans.{matches_of}
use Rattle.java_model.specs.Occurrences.Occurrences.{Occurrences}
use Rattle.java_laws.specs.Documents.{AtMostOneUnitOfText}
use Rattle.java_laws.proofs.UsualSource.Source.{C, source, path}
use Rattle.java_laws.proofs.UsualSource.Expected.{expected, them}
use Rattle.java_laws.proofs.UsualSource.Whole.{alone}
use Rattle.java_laws.proofs.UsualSource.Scan.{at_1_4, documents, scanned, scanned-alone}

-- a match in the file
abbrev match : OccKind → ℕ → ℕ → Accuracy → Access → Match
match kind start length accuracy access = record {
  container = codes "src";
  path = codes "p/Main.java";
  span = record { start = start; end = start + length };
  kind = kind;
  accuracy = accuracy;
  access = access;
}

-- A text is a pattern, and these are the matches of it: whatever list the occurrences of the source are, of a full scan of
-- its document, and of each such scan where a text has one unit.
pub record Finds (what : What) (limit : Limit) (text : List ℕ) (ms : List Match) : Type 0 where
  pub pattern : Pattern
  pub read : pattern_of what limit Exact true text ≡ Ok pattern
  pub fitting : (os : List Occurrence) → Occurrences C source os → matches_of C.env pattern path os ≡ ms
  pub scan : IsScanOf at_1_4 documents All pattern ms
  pub no_others : AtMostOneUnitOfText → (others : List Match) → IsScanOf at_1_4 documents All pattern others → ms ≡ others

finds : (what : What) (limit : Limit) (text : List ℕ) (p : Pattern) (ms : List Match) → pattern_of what limit Exact true text ≡ Ok p
    → matches_of C.env p path expected ≡ ms → Finds what limit text ms
finds what limit text p ms e h = record {
  pattern = p;
  read = e;
  fitting = λ os o. subst (λ us. matches_of C.env p path us ≡ ms) (alone os o) h;
  scan = scanned p ms h;
  no_others = λ one others s. sym h ∙ scanned-alone one p others s;
}

pub add-is-found : Finds whats.Method limits.References (codes "add(Object)") (match occurs.MethodRef 171 3 Inaccurate NoAccess ∷ [])
unfolding C them
add-is-found = finds whats.Method limits.References (codes "add(Object)") _ _ refl refl

pub println-is-found : Finds whats.Method limits.References (codes "println") (match occurs.MethodRef 196 7 Inaccurate NoAccess ∷ [])
unfolding C them
println-is-found = finds whats.Method limits.References (codes "println") _ _ refl refl

pub items-are-read : Finds whats.Field limits.Reads (codes "items")
    (match occurs.FieldRef 165 5 Accurate Read ∷ match occurs.FieldRef 206 5 Accurate Read ∷ [])
unfolding C them
items-are-read = finds whats.Field limits.Reads (codes "items") _ _ refl refl

pub main-is-constructed : Finds whats.Constructor limits.References (codes "Main") (match occurs.CtorRef 151 4 Accurate NoAccess ∷ [])
unfolding C them
main-is-constructed = finds whats.Constructor limits.References (codes "Main") _ _ refl refl

pub list-is-found : Finds whats.Class limits.References (codes "ArrayList") (match occurs.TypeRef 78 9 Inaccurate NoAccess ∷ [])
unfolding C them
list-is-found = finds whats.Class limits.References (codes "ArrayList") _ _ refl refl
