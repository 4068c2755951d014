-- The lines that are read are those of the script, and the lines of a script are read.
use Rattle.std.proofs.Common.{◌≡◌, ℕ, ◌+◌, ◌-◌, ◌≤◌, true, false, cond, eqb, List, [], ◌∷◌, ◌++◌, length, take, Some, refl, sym, ap, subst, ◌∙◌, length-append, arith}
use Rattle.std.specs.Prelude.{nat_eq, codes}
use Rattle.std.specs.List.{flat_map, list_all, starts_with, AllByRecursion}
use Rattle.std.proofs.lemmas.List.{take_at}
use Rattle.std.proofs.lemmas.List.Sums.{sum_by-cons, sum_by-append}
use Rattle.std.proofs.lemmas.Option.{same_Some}
use Rattle.java_model.specs.Documents.{Document}
use Rattle.script_text.specs.declared.script.Search.{Search}
use Rattle.script_text.specs.Scripts.{Script}
use Rattle.java_model.specs.ScriptText.{doc_text, newlines, IsScriptDoc}
use Rattle.script_text.specs.Spelling.{search_text, script_text, HaveLines, IsScriptSearch, IsScript}
use Rattle.java_tree.specs.Names.{is_name_byte}
use Rattle.script_text.specs.Words.{what_word, limit_word, rule_word, case_word, scope_word}
use Rattle.script_text.specs.Inner.Reading.{docs_at, searches_at, lines_at}
use Rattle.script_text.proofs.Scripts.PrintOfRead.{taken, AreFrom, docs_takes, searches_takes}
use Rattle.script_text.proofs.Scripts.ReadOfPrint.{Lack, next, name_lacks, docs_again, searches_again}
use Rattle.script_text.proofs.Scripts.SearchWords.{what_bytes, limit_bytes, rule_bytes, case_bytes, scope_bytes, word_lacks, bytes_lack}

-- what reading finds of a script: all but that its names differ, and no container has too many documents
pub record IsLines (bytes : List ℕ) (script : Script) : Type 0 where
  pub spelled : bytes ≡ script_text script
  pub docs : AllByRecursion IsScriptDoc script.docs
  pub searches : AllByRecursion IsScriptSearch script.searches
  pub lines : HaveLines (flat_map doc_text script.docs) script.searches

-- ---- lines are numbered by the LF bytes before them

newlines-append : (xs ys : List ℕ) → newlines (xs ++ ys) ≡ newlines xs + newlines ys
newlines-append xs ys = sum_by-append _ xs ys

newlines-lack : (xs : List ℕ) → Lack 10 xs → newlines xs ≡ 0
newlines-lack [] lack = refl
newlines-lack (x ∷ xs) lack =
    let one : eqb x 10 ≡ false = lack.0 in
    sum_by-cons (λ b. cond (eqb b 10) 1 0) x xs ∙ rw (one, newlines-lack xs lack.1) refl

-- a search line has one LF
newlines_joined : (name what limit rule case scope pattern : List ℕ) → newlines name ≡ 0 → newlines what ≡ 0 → newlines limit ≡ 0 → newlines rule ≡ 0
    → newlines case ≡ 0 → newlines scope ≡ 0 → newlines pattern ≡ 0
    → newlines (codes "@1 search " ++ name ++ codes " wait " ++ what ++ codes " " ++ limit ++ codes " " ++ rule ++ codes " " ++ case ++ codes " " ++ scope ++ codes " " ++ pattern ++ (10 ∷ [])) ≡ 1
newlines_joined name what limit rule case scope pattern e0 e1 e2 e3 e4 e5 e6 = simp (newlines-append, e0, e1, e2, e3, e4, e5, e6) refl

pub one_newline : (search : Search) → IsScriptSearch search → newlines (search_text search) ≡ 1
one_newline search formed =
    newlines_joined search.name (what_word search.what) (limit_word search.limit) (rule_word search.rule) (case_word search.case) (scope_word search.scope) search.pattern
    (newlines-lack search.name (name_lacks 10 search.name (omega arith) formed.name.0)) (word_newlines (what_word search.what) (what_bytes search.what))
    (word_newlines (limit_word search.limit) (limit_bytes search.limit)) (word_newlines (rule_word search.rule) (rule_bytes search.rule))
    (word_newlines (case_word search.case) (case_bytes search.case)) (word_newlines (scope_word search.scope) (scope_bytes search.scope formed.scope.0))
    (newlines-lack search.pattern (word_lacks search.pattern formed.pattern.0))
  where
    word_newlines : (word : List ℕ) → list_all is_name_byte word ≡ true → newlines word ≡ 0
    word_newlines word bytes = newlines-lack word (bytes_lack 10 word (omega arith) bytes)

-- the lines that searches are read on are the lines that they have
pub have_lines : (before : List ℕ) (searches : List Search) (line : ℕ) → line ≡ 1 + newlines before → AllByRecursion IsScriptSearch searches → AreFrom line searches → HaveLines before searches
have_lines before [] line here formed from = tt
have_lines before (search ∷ searches) line here formed from =
    let one = one_newline search formed.0 in
    let both = newlines-append before (search_text search) in
    (from.0 ∙ here, have_lines (before ++ search_text search) searches (line + 1) (omega (arith, here, one, both)) formed.1 from.1)

pub are_from : (before : List ℕ) (searches : List Search) (line : ℕ) → line ≡ 1 + newlines before → AllByRecursion IsScriptSearch searches → HaveLines before searches → AreFrom line searches
are_from before [] line here formed lines = tt
are_from before (search ∷ searches) line here formed lines =
    let one = one_newline search formed.0 in
    let both = newlines-append before (search_text search) in
    (lines.0 ∙ sym here, are_from (before ++ search_text search) searches (line + 1) (omega (arith, here, one, both)) formed.1 lines.1)

-- ---- all lines

-- what stands before the rest
front_is : (bytes front rest : List ℕ) → bytes ≡ front ++ rest → take (length bytes - length rest) bytes ≡ front
front_is bytes front rest e =
    let long : length front ≡ length bytes - length rest = omega (arith, ap length e, length-append front rest) in
    ap (λ (l : List ℕ). take (length bytes - length rest) l) e ∙ take_at front rest (length bytes - length rest) long

lines_made : (bytes : List ℕ) (docs : List Document × List ℕ) (searches : List Search) (s : Script) → (bytes ≡ flat_map doc_text docs.0 ++ docs.1) × AllByRecursion IsScriptDoc docs.0
    → (docs.1 ≡ flat_map search_text searches) × AllByRecursion IsScriptSearch searches × AreFrom (1 + newlines (take (length bytes - length docs.1) bytes)) searches
    → Some (record { docs = docs.0; searches = searches }) ≡ Some s → IsLines bytes s
lines_made bytes docs searches s d q e =
    let made : Script = record { docs = docs.0; searches = searches } in
    let front = front_is bytes (flat_map doc_text docs.0) docs.1 d.0 in
    subst (λ (x : Script). IsLines bytes x) (same_Some made s e) (record {
      spelled = d.0 ∙ ap (λ (r : List ℕ). flat_map doc_text docs.0 ++ r) q.0;
      docs = d.1;
      searches = q.1;
      lines = have_lines (flat_map doc_text docs.0) searches (1 + newlines (take (length bytes - length docs.1) bytes)) (ap (λ (l : List ℕ). 1 + newlines l) front) q.1 q.2;
    })

pub lines_take : (bytes : List ℕ) (s : Script) → lines_at bytes ≡ Some s → IsLines bytes s
unfolding lines_at
lines_take bytes s e =
    taken (docs_at (length bytes) bytes) _ s e (λ docs e0 f0.
    taken (searches_at (length docs.1) (1 + newlines (take (length bytes - length docs.1) bytes)) docs.1) _ s f0 (λ searches e1 f1.
    lines_made bytes docs searches s (docs_takes (length bytes) bytes docs e0) (searches_takes (length docs.1) (1 + newlines (take (length bytes - length docs.1) bytes)) docs.1 searches e1) f1))

-- there is a byte at least in each line
searches_short : (searches : List Search) → length searches ≤ length (flat_map search_text searches)
searches_short [] = omega arith
searches_short (search ∷ searches) = omega (arith, searches_short searches, length-append (search_text search) (flat_map search_text searches))

docs_short : (docs : List Document) → length docs ≤ length (flat_map doc_text docs)
docs_short [] = omega arith
docs_short (doc ∷ docs) = omega (arith, docs_short docs, length-append (doc_text doc) (flat_map doc_text docs))

-- behind the documents no line begins as one of a document
ended : (searches : List Search) → starts_with nat_eq (flat_map search_text searches) (codes "doc ") ≡ false
ended [] = refl
ended (search ∷ searches) = refl

pub lines_again : (bytes : List ℕ) (s : Script) → IsScript bytes s → lines_at bytes ≡ Some s
unfolding lines_at
lines_again bytes s script =
    let front = flat_map doc_text s.docs in
    let rest = flat_map search_text s.searches in
    let first = 1 + newlines (take (length bytes - length rest) bytes) in
    let here : first ≡ 1 + newlines front = ap (λ (l : List ℕ). 1 + newlines l) (front_is bytes front rest script.spelled) in
    let few : length s.docs ≤ length bytes = omega (arith, docs_short s.docs, ap length script.spelled, length-append front rest) in
    let read : docs_at (length bytes) bytes ≡ Some (s.docs, rest) = ap (docs_at (length bytes)) script.spelled ∙ docs_again (length bytes) s.docs rest script.docs few (ended s.searches) in
    let found : searches_at (length rest) first rest ≡ Some s.searches = searches_again (length rest) first s.searches script.searches (are_from front s.searches first here script.searches script.lines) (searches_short s.searches) in
    next (docs_at (length bytes) bytes) _ (s.docs, rest) _ read (next (searches_at (length rest) first rest) _ s.searches _ found refl)
