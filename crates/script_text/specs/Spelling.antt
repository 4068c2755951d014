-- Which bytes are a script: `doc` lines with their texts, and then searches for types and packages.
use Rattle.std.specs.Prelude.{◌≡◌, ℕ, ◌+◌, Bool, true, false, ◌&&◌, ◌||◌, not, ◌==◌, List, [], ◌∷◌, ◌++◌, map, IsTrue, ⊤, codes}
use Rattle.std.specs.List.{flat_map, list_all, AllByRecursion, IsDistinct}
use Rattle.std.specs.Str.{IsUtf8, bytes_eq}
use Rattle.std.specs.Ordering.{eq_by_cmp}
use Rattle.java_tree.specs.declared.doc_name.Scope.{Scope}
use Rattle.java_tree.specs.declared.doc_name.Scope.TheVariants.{All, Containers}
use Rattle.java_tree.specs.declared.limits.TheConstants.{LF}
use Rattle.java_tree.specs.Names.{is_name, is_container}
use Rattle.java_model.specs.Documents.{document_cmp}
use Rattle.java_model.specs.ScriptText.{doc_text, newlines, AreFew, IsScriptDoc}
use Rattle.script_text.specs.declared.script.Search.{Search}
use Rattle.script_text.specs.Scripts.{Script}
use Rattle.script_text.specs.Words.{what_word, limit_word, rule_word, case_word, scope_word, is_built}

-- `@1 search NAME wait WHAT LIMIT RULE CASE SCOPE PATTERN`
abbrev pub search_text : Search → List ℕ
search_text s =
    codes "@1 search " ++ s.name ++ codes " wait " ++ what_word s.what ++ codes " " ++ limit_word s.limit ++ codes " " ++ rule_word s.rule
    ++ codes " " ++ case_word s.case ++ codes " " ++ scope_word s.scope ++ codes " " ++ s.pattern ++ (10 ∷ [])

abbrev pub script_text : Script → List ℕ
script_text script = flat_map doc_text script.docs ++ flat_map search_text script.searches

-- a word is one byte or more, none of which is a space or ends the line
abbrev pub is_word_byte : ℕ → Bool
is_word_byte b = not (b == 32 || b == LF)

abbrev pub is_word : List ℕ → Bool
is_word [] = false
is_word (b ∷ bs) = is_word_byte b && list_all is_word_byte bs

-- all containers, or one or more by their names
abbrev pub names_containers : Scope → Bool
names_containers All = true
names_containers (Containers []) = false
names_containers (Containers (c ∷ cs)) = is_container c && list_all is_container cs

-- the search of a search line
pub record IsScriptSearch (search : Search) : Type 0 where
  pub name : IsTrue (is_name search.name) × IsUtf8 search.name
  pub what : IsTrue (is_built search.what)
  pub scope : IsTrue (names_containers search.scope) × IsUtf8 (scope_word search.scope)
  pub pattern : IsTrue (is_word search.pattern) × IsUtf8 search.pattern

-- a line's number is 1 plus the LF bytes before it
abbrev pub HaveLines : List ℕ → List Search → Type 0
HaveLines before [] = ⊤
HaveLines before (search ∷ rest) = (search.line ≡ 1 + newlines before) × HaveLines (before ++ search_text search) rest

-- The bytes are this script's. A text may be any.
pub record IsScript (bytes : List ℕ) (script : Script) : Type 0 where
  pub spelled : bytes ≡ script_text script
  pub docs : AllByRecursion IsScriptDoc script.docs
  pub searches : AllByRecursion IsScriptSearch script.searches
  pub lines : HaveLines (flat_map doc_text script.docs) script.searches
  pub few : AreFew script.docs
  pub names_differ : IsDistinct (eq_by_cmp document_cmp) script.docs
  pub searches_differ : IsDistinct bytes_eq (map (λ search. search.name) script.searches)
