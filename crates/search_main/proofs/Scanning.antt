-- The matches of a search, one document after the other.
use Rattle.std.proofs.Common.{◌≡◌, ℕ, ◌+◌, ◌<◌, suc, Bool, true, false, cond, List, [], ◌∷◌, ◌++◌, length, get_or, take, Contains, Result, Ok, Err, Option, Some, refl, sym, ap, subst, ◌∙◌, append_assoc, arith}
use Rattle.std.specs.Prelude.{IfOk}
use Rattle.std.specs.List.{AllZip, count_by}
use Rattle.std.proofs.lemmas.List.{append-nil}
use Rattle.std.proofs.lemmas.Option.{same_Some, none-some}
use Rattle.std.proofs.lemmas.List.Sums.{sum_by-cons}
use Rattle.java_tree.specs.declared.doc_name.Scope.{Scope}
use Rattle.java_tree.specs.declared.occurrence.Binding.{Binding}
use Rattle.java_tree.specs.declared.occurrence.Binding.TheVariants as bindings
use Rattle.java_tree.specs.declared.occurrence.Match.{Match}
use Rattle.java_tree.specs.declared.occurrence.OccKind.{OccKind}
use Rattle.java_tree.specs.declared.occurrence.OccKind.TheVariants as occ
use Rattle.java_tree.specs.declared.occurrence.Occurrence.{Occurrence}
use Rattle.java_tree.specs.declared.outline.Level.{Level}
use Rattle.java_tree.specs.declared.outline.Level.TheVariants.{Java14}
use Rattle.java_tree.specs.declared.types.DocPath.{DocPath}
use Rattle.java_tree.specs.declared.unit.Unit.{Unit as CompilationUnit}
use Rattle.java_model.specs.Documents.{Document}
use Rattle.java_model.specs.DocumentTexts.{path_of, IsEnvOf, no_documents, unreadable, readable, AreOccurrencesOf, no_occurrences, named_in_unit}
use Rattle.java_model.specs.Names.Environments.{Env, EnvDocument, same_path}
use Rattle.java_model.specs.Scopes.Contexts.{Context, context_among, context_of}
use Rattle.java_model.specs.SearchPattern.Parts.{Pattern}
use Rattle.java_model.specs.Matches.Scans.{is_in_scope, matches_of, matches_among}
use Rattle.java_model.specs.Texts.{IsUnitOfText, IsUnreadable}
use Rattle.java_laws.specs.Keys.{IsOfKind}
use Rattle.match_locator.specs.Searches.{binds_by_kind, have_bindings_by_kind}
use Rattle.search_main.specs.declared.opening.Opened.{Opened}
use Rattle.search_main.specs.Inner.Located.{StandsIn, IsOpenedIn, AreMatchesIn, AreMatchesOf, AreMatchesAmong, nowhere, in_scope, outside}
use Rattle.search_main.specs.Inner.Views.{document_read, documents_read, path_read}
use Rattle.search_main.specs.Legal.{at_1_4, NamesInScope, AreMatches}
use Rattle.search_main.proofs.Documents.{take_more}

-- what follows of a value that was answered
pub if_ok : {T E : Type 0} (P Q : T → Type 0) → ((x : T) → P x → Q x) → (r : Result T E) → IfOk r P → IfOk r Q
if_ok P Q then (Ok x) h = then x h
if_ok P Q then (Err e) h = tt

-- ---- bindings of their kind

kinds_hold : (kind : OccKind) (name : List ℕ) (binding : Binding) → IsOfKind kind name binding → binds_by_kind kind binding ≡ true
kinds_hold occ.FieldDecl name binding h = refl
kinds_hold occ.FieldRef name binding h = refl
kinds_hold kind name (bindings.Field f) h = absurd cc
kinds_hold kind name binding h = refl

pub have_kinds : (os : List Occurrence) → ((o : Occurrence) → Contains os o → IsOfKind o.kind o.name o.binding) → have_bindings_by_kind os ≡ true
have_kinds [] each = refl
have_kinds (o ∷ os) each =
    let here : binds_by_kind o.kind o.binding ≡ true = kinds_hold o.kind o.name o.binding (each o (0, omega arith, refl)) in
    let rest : have_bindings_by_kind os ≡ true = have_kinds os (λ q c. each q (suc c.0, omega (arith, c.1), c.2)) in
    rw (here, rest) refl

-- the context of a unit has its types
types_first : (whole : Env) (u : CompilationUnit) (d : EnvDocument) (first : ℕ) (C : Context) (b : Bool) (more : Option Context)
    → (more ≡ Some C → C.types ≡ u.types) → cond b (Some (record { env = whole; outline = d.outline; first = first; types = u.types })) more ≡ Some C → C.types ≡ u.types
types_first whole u d first C true more rest e = sym (ap (λ (D : Context). D.types) (same_Some _ C e))
types_first whole u d first C false more rest e = rest e

types_among : (whole : Env) (path : DocPath) (u : CompilationUnit) (first : ℕ) (env : Env) (C : Context) → context_among whole path u first env ≡ Some C → C.types ≡ u.types
types_among whole path u first [] C e = absurd (none-some C e)
types_among whole path u first (d ∷ ds) C e =
    types_first whole u d first C (same_path d.path path) (context_among whole path u (first + length d.outline.types) ds)
    (λ f. types_among whole path u (first + length d.outline.types) ds C f) e

pub types_of : (env : Env) (path : DocPath) (u : CompilationUnit) (C : Context) → context_of env path u ≡ Some C → C.types ≡ u.types
types_of env path u C e = types_among env path u 0 env C e

-- ---- one document more

pub one_in_scope : (env : Env) (scope : Scope) (p : Pattern) (d : Document) (ms : List Match) → is_in_scope scope (path_of d) ≡ true → AreMatchesOf env p d ms
    → AreMatchesAmong env scope p (d ∷ []) ms
one_in_scope env scope p d ms is are = subst (λ xs. AreMatchesAmong env scope p (d ∷ []) xs) (append-nil ms) (in_scope d [] ms [] is are nowhere)

pub one_outside : (env : Env) (scope : Scope) (p : Pattern) (d : Document) (ms : List Match) → is_in_scope scope (path_of d) ≡ false → ms ≡ [] → AreMatchesAmong env scope p (d ∷ []) ms
one_outside env scope p d ms is none = subst (λ xs. AreMatchesAmong env scope p (d ∷ []) xs) (sym none) (outside d [] [] is nowhere)

pub joined : (env : Env) (scope : Scope) (p : Pattern) (ds es : List Document) (ms ns : List Match) → AreMatchesAmong env scope p ds ms → AreMatchesAmong env scope p es ns
    → AreMatchesAmong env scope p (ds ++ es) (ms ++ ns)
joined env scope p [] es ms ns nowhere more = more
joined env scope p (d ∷ ds) es _ ns (in_scope _ _ ms rest is are found) more =
    subst (λ xs. AreMatchesAmong env scope p (d ∷ (ds ++ es)) xs) (sym (append_assoc ms rest ns)) (in_scope d (ds ++ es) ms (rest ++ ns) is are (joined env scope p ds es rest ns found more))
joined env scope p (d ∷ ds) es ms ns (outside _ _ _ is found) more = outside d (ds ++ es) (ms ++ ns) is (joined env scope p ds es ms ns found more)

documents-append : (front back : List Opened) → documents_read (front ++ back) ≡ documents_read front ++ documents_read back
documents-append [] back = refl
documents-append (o ∷ front) back = ap (λ ds. document_read o ∷ ds) (documents-append front back)

pub documents_more : (opened : List Opened) (i : ℕ) (o : Opened) → i < length opened → o ≡ get_or opened i o
    → documents_read (take (i + 1) opened) ≡ documents_read (take i opened) ++ document_read o ∷ []
documents_more opened i o lt is =
    ap documents_read (take_more opened i o lt ∙ ap (λ x. take i opened ++ x ∷ []) (sym is)) ∙ documents-append (take i opened) (o ∷ [])

-- ---- one document

at_level : (level : Level) (text : List ℕ) (u : CompilationUnit) → level ≡ Java14 → IsUnitOfText level text u → IsUnitOfText Java14 text u
at_level level text u e is = subst (λ l. IsUnitOfText l text u) e is

pub unit_stands : (env : Env) (o : Opened) (path : DocPath) (u : CompilationUnit) → IsOpenedIn env o → path ≡ path_read o
    → IsUnitOfText o.document.level o.document.text u → StandsIn env path u
unit_stands env o path u opened here is =
    subst (λ p. StandsIn env p u) (sym here) (opened.stands u (at_level o.document.level o.document.text u opened.level is))

pub none_found : (env : Env) (p : Pattern) (o : Opened) (ms : List Match) → IsOpenedIn env o → IsUnreadable o.document.level o.document.text → ms ≡ []
    → AreMatchesOf env p (document_read o) ms
none_found env p o ms opened unread none = record {
  found = [];
  are = no_occurrences (subst (λ l. IsUnreadable l o.document.text) opened.level unread);
  matches = none;
}

pub unit_found : (env : Env) (p : Pattern) (o : Opened) (path : DocPath) (u : CompilationUnit) (ms : List Match) → IsOpenedIn env o → path ≡ path_read o
    → IsUnitOfText o.document.level o.document.text u → AreMatchesIn env p path u ms → AreMatchesOf env p (document_read o) ms
unit_found env p o path u ms opened here is found = record {
  found = found.found;
  are = named_in_unit u found.stands.context found.found (at_level o.document.level o.document.text u opened.level is)
      (ap (λ x. context_of env x u) (sym here) ∙ found.stands.is) found.are;
  matches = found.matches ∙ ap (λ x. matches_of env p x found.found) here;
}

-- ---- a full scan

-- a document that can't be read has no match
none_unread : (env : Env) (p : Pattern) (d : Document) (os : List Occurrence) → IsUnreadable (at_1_4 d.container) d.text
    → AreOccurrencesOf at_1_4 env d os → matches_of env p (path_of d) os ≡ []
none_unread env p d os unread (no_occurrences _) = refl
none_unread env p d os unread (named_in_unit u C _ text is are) = absurd (unread u text)

-- what a scan has found in documents
record Scanned (docs : List Document) (env : Env) (scope : Scope) (p : Pattern) (es : Env) (ms : List Match) : Type 0 where
  found : List (List Occurrence)
  each : AllZip (λ e os. NamesInScope docs env scope e.path os) es found
  matches : ms ≡ matches_among env scope p es found

scan_in_scope : (docs : List Document) (env : Env) (scope : Scope) (p : Pattern) (d : Document) (e : EnvDocument) (es : Env) (ms more : List Match)
    → e.path ≡ path_of d → Contains docs d → is_in_scope scope (path_of d) ≡ true → AreMatchesOf env p d ms → Scanned docs env scope p es more
    → Scanned docs env scope p (e ∷ es) (ms ++ more)
scan_in_scope docs env scope p d e es ms more named stands is are rest = record {
  found = are.found ∷ rest.found;
  each = (λ t. record { document = d; stands = stands; named = named; are = are.are }, rest.each);
  matches =
      let here : is_in_scope scope e.path ≡ true = ap (is_in_scope scope) named ∙ is in
      let mine : ms ≡ matches_of env p e.path are.found = are.matches ∙ ap (λ path. matches_of env p path are.found) (sym named) in
      ap (λ xs. xs ++ more) mine ∙ ap (λ xs. matches_of env p e.path are.found ++ xs) rest.matches
      ∙ ap (λ b. cond b (matches_of env p e.path are.found) [] ++ matches_among env scope p es rest.found) (sym here);
}

scan_outside : (docs : List Document) (env : Env) (scope : Scope) (p : Pattern) (d : Document) (e : EnvDocument) (es : Env) (ms : List Match)
    → e.path ≡ path_of d → is_in_scope scope (path_of d) ≡ false → Scanned docs env scope p es ms → Scanned docs env scope p (e ∷ es) ms
scan_outside docs env scope p d e es ms named is rest =
    let other : is_in_scope scope e.path ≡ false = ap (is_in_scope scope) named ∙ is in
    record {
      found = [] ∷ rest.found;
      each = (λ t. absurd (apart (is_in_scope scope e.path) t other), rest.each);
      matches = rest.matches ∙ ap (λ b. cond b (matches_of env p e.path []) [] ++ matches_among env scope p es rest.found) (sym other);
    }
  where
    apart : (b : Bool) → b ≡ true → b ≡ false → ⊥
    apart true e f = absurd cc
    apart false e f = absurd cc

scanned : (docs : List Document) (env : Env) (scope : Scope) (p : Pattern) (ds : List Document) (es : Env) (ms : List Match) → ((d : Document) → Contains ds d → Contains docs d)
    → IsEnvOf at_1_4 ds es → AreMatchesAmong env scope p ds ms → Scanned docs env scope p es ms
scanned docs env scope p [] es ms inside no_documents nowhere = record { found = []; each = tt; matches = refl }
scanned docs env scope p (d ∷ ds) es _ inside (unreadable _ _ _ unread is) (in_scope _ _ ms more here are found) =
    let none : ms ≡ [] = are.matches ∙ none_unread env p d are.found unread are.are in
    subst (λ xs. Scanned docs env scope p es xs) (ap (λ xs. xs ++ more) (sym none)) (scanned docs env scope p ds es more (λ x c. inside x (suc c.0, omega (arith, c.1), c.2)) is found)
scanned docs env scope p (d ∷ ds) es ms inside (unreadable _ _ _ unread is) (outside _ _ _ here found) =
    scanned docs env scope p ds es ms (λ x c. inside x (suc c.0, omega (arith, c.1), c.2)) is found
scanned docs env scope p (d ∷ ds) _ _ inside (readable _ outline _ es has is) (in_scope _ _ ms more here are found) =
    scan_in_scope docs env scope p d (record { path = path_of d; outline = outline }) es ms more refl (inside d (0, omega arith, refl)) here are
    (scanned docs env scope p ds es more (λ x c. inside x (suc c.0, omega (arith, c.1), c.2)) is found)
scanned docs env scope p (d ∷ ds) _ ms inside (readable _ outline _ es has is) (outside _ _ _ here found) =
    scan_outside docs env scope p d (record { path = path_of d; outline = outline }) es ms refl here
    (scanned docs env scope p ds es ms (λ x c. inside x (suc c.0, omega (arith, c.1), c.2)) is found)

pub are_matches : (docs : List Document) (env : Env) (scope : Scope) (p : Pattern) (ms : List Match) → IsEnvOf at_1_4 docs env → AreMatchesAmong env scope p docs ms
    → AreMatches docs scope p ms
are_matches docs env scope p ms is found =
    let s = scanned docs env scope p docs env ms (λ d c. c) is found in
    record { env = env; is_env = is; scan = record { found = s.found; each = s.each; matches = s.matches } }

-- ---- how many documents are in scope

pub count_read : (scope : Scope) (opened : List Opened) → count_by (λ o. is_in_scope scope (path_read o)) opened ≡ count_by (λ d. is_in_scope scope (path_of d)) (documents_read opened)
count_read scope [] = refl
count_read scope (o ∷ os) =
    sum_by-cons (λ (x : Opened). cond (is_in_scope scope (path_read x)) 1 0) o os
    ∙ ap (λ n. cond (is_in_scope scope (path_read o)) 1 0 + n) (count_read scope os)
    ∙ sym (sum_by-cons (λ (d : Document). cond (is_in_scope scope (path_of d)) 1 0) (document_read o) (documents_read os))
