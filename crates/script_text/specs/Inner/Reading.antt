-- Reading a script from left to right, on lists of bytes.
use Rattle.std.specs.Prelude.{◌≡◌, ℕ, zero, suc, ◌+◌, ◌-◌, Bool, true, false, ◌&&◌, ◌==◌, nat_lt, nat_le, nat_eq, if◌then◌else◌, List, [], ◌∷◌, length, take, drop, slice_index, Option, Some, None, Result, Ok, Err, codes}
use Rattle.std.specs.Fmt.{decimal}
use Rattle.std.specs.List.{list_all, starts_with}
use Rattle.std.specs.Str.{is_utf8, byte, bytes_eq}
use Rattle.std.specs.Str.Parse.{digits_value}
use Rattle.java_tree.specs.declared.doc_name.Scope.{Scope}
use Rattle.java_tree.specs.declared.doc_name.Scope.TheVariants.{All, Containers}
use Rattle.java_tree.specs.declared.limits.TheConstants.{LF, MAX_OPENING_STAMP, MAX_TEXT}
use Rattle.java_tree.specs.declared.search.Limit.{Limit}
use Rattle.java_tree.specs.declared.search.Limit.TheVariants as limits
use Rattle.java_tree.specs.declared.search.Rule.{Rule}
use Rattle.java_tree.specs.declared.search.Rule.TheVariants as rules
use Rattle.java_tree.specs.declared.search.What.{What}
use Rattle.java_tree.specs.declared.search.What.TheVariants as whats
use Rattle.java_tree.specs.Names.{is_name, is_container, is_source_path}
use Rattle.java_model.specs.Documents.{Document}
use Rattle.java_model.specs.ScriptText.{newlines}
use Rattle.java_model.specs.SearchPattern.Texts.{separated}
use Rattle.script_text.specs.declared.fault.ScriptFault.{ScriptFault}
use Rattle.script_text.specs.declared.fault.ScriptFault.TheVariants as faults
use Rattle.script_text.specs.declared.script.Search.{Search}
use Rattle.script_text.specs.Scripts.{Script}
use Rattle.script_text.specs.Spelling.{is_word}

infixl 10 ◌>>=◌
abbrev pub ◌>>=◌ : {A B : Type 0} → Option A → (A → Option B) → Option B
(Some x) >>= f = f x
None >>= f = None

-- What a function returned, seen by view, is what reading gives, unless memory ran out.
abbrev pub Fails : {Y : Type 0} → ScriptFault → Option Y → Type 0
Fails faults.NoMemory read = Unit {0}
Fails faults.NotBuilt read = read ≡ None

abbrev pub Gives : {X Y : Type 0} → (X → Y) → Result X ScriptFault → Option Y → Type 0
Gives view (Ok x) read = read ≡ Some (view x)
Gives view (Err e) read = Fails e read

-- the bytes after a literal
abbrev pub literal_at : List ℕ → List ℕ → Option (List ℕ)
literal_at literal bytes = if starts_with nat_eq bytes literal then Some (drop (length literal) bytes) else None

-- the bytes before the first separator, and those after it
unfoldable pub field_at : ℕ → List ℕ → Option (List ℕ × List ℕ)
field_at separator [] = None
field_at separator (b ∷ bytes) = if b == separator then Some ([], bytes) else (field_at separator bytes >>= λ f. Some (b ∷ f.0, f.1))

-- these bytes, if they are UTF-8
unfoldable pub text_in : List ℕ → Option (List ℕ)
text_in bytes = if is_utf8 bytes then Some bytes else None

-- a field that is text
unfoldable pub text_field_at : ℕ → List ℕ → Option (List ℕ × List ℕ)
text_field_at separator bytes = do
  field ← field_at separator bytes
  text ← text_in field.0
  Some (text, field.1)

-- the number that is spelled without sign and leading zero, up to a limit
unfoldable pub number_in : ℕ → List ℕ → Option ℕ
number_in limit word =
    let n = digits_value 10 word in if nat_le n limit && bytes_eq (decimal n) word then Some n else None

unfoldable pub number_field_at : ℕ → ℕ → List ℕ → Option (ℕ × List ℕ)
number_field_at separator limit bytes = do
  field ← field_at separator bytes
  n ← number_in limit field.0
  Some (n, field.1)

-- that many bytes of text, and an LF
unfoldable pub text_at : ℕ → List ℕ → Option (List ℕ × List ℕ)
text_at len bytes =
    if nat_lt len (length bytes) && slice_index bytes len == LF then (text_in (take len bytes) >>= λ text. Some (text, drop (len + 1) bytes)) else None

unfoldable pub doc_at : List ℕ → Option (Document × List ℕ)
doc_at bytes = do
  rest ← literal_at (codes "doc ") bytes
  container ← text_field_at 32 rest
  path ← text_field_at 32 container.1
  stamp ← number_field_at 32 MAX_OPENING_STAMP path.1
  len ← number_field_at LF MAX_TEXT stamp.1
  text ← text_at len.0 len.1
  if is_container container.0 && is_source_path path.0 then Some (record { container = container.0; path = path.0; version = 0; stamp = stamp.0; text = text.0 }, text.1) else None

-- ---- the words of a search line

unfoldable pub what_in : List ℕ → Option What
what_in word = if bytes_eq word (codes "type") then Some whats.Class else (if bytes_eq word (codes "package") then Some whats.Package else None)

unfoldable pub limit_in : List ℕ → Option Limit
limit_in word =
    if bytes_eq word (codes "declarations") then Some limits.Declarations else (
    if bytes_eq word (codes "references") then Some limits.References else (
    if bytes_eq word (codes "implementors") then Some limits.Implementors else (
    if bytes_eq word (codes "all") then Some limits.All else (
    if bytes_eq word (codes "reads") then Some limits.Reads else (
    if bytes_eq word (codes "writes") then Some limits.Writes else None)))))

unfoldable pub rule_in : List ℕ → Option Rule
rule_in word =
    if bytes_eq word (codes "exact") then Some rules.Exact else (
    if bytes_eq word (codes "prefix") then Some rules.Prefix else (
    if bytes_eq word (codes "wild") then Some rules.Wild else (
    if bytes_eq word (codes "camel") then Some rules.Camel else None)))

unfoldable pub case_in : List ℕ → Option Bool
case_in word = if bytes_eq word (codes "case") then Some true else (if bytes_eq word (codes "nocase") then Some false else None)

unfoldable pub scope_in : List ℕ → Option Scope
scope_in word =
    if bytes_eq word (codes "*") then Some All else (
    if list_all is_container (separated (byte ",") word) then Some (Containers (separated (byte ",") word)) else None)

-- a word before a space, read in a way
unfoldable pub word_at : {A : Type 0} → (List ℕ → Option A) → List ℕ → Option (A × List ℕ)
word_at read bytes = do
  field ← field_at 32 bytes
  word ← read field.0
  Some (word, field.1)

unfoldable pub scope_at : List ℕ → Option (Scope × List ℕ)
scope_at bytes = do
  field ← text_field_at 32 bytes
  scope ← scope_in field.0
  Some (scope, field.1)

unfoldable pub search_at : ℕ → List ℕ → Option (Search × List ℕ)
search_at line bytes = do
  rest ← literal_at (codes "@1 search ") bytes
  name ← text_field_at 32 rest
  rest ← literal_at (codes "wait ") name.1
  what ← word_at what_in rest
  limit ← word_at limit_in what.1
  rule ← word_at rule_in limit.1
  case ← word_at case_in rule.1
  scope ← scope_at case.1
  pattern ← text_field_at LF scope.1
  if is_name name.0 && is_word pattern.0 then Some (record { line = line; name = name.0; what = what.0; limit = limit.0; rule = rule.0; case = case.0; scope = scope.0; pattern = pattern.0 }, pattern.1) else None

-- the `doc` lines at the front, at most so many
unfoldable pub docs_at : ℕ → List ℕ → Option (List Document × List ℕ)
docs_at zero bytes = Some ([], bytes)
docs_at (suc n) bytes =
    if starts_with nat_eq bytes (codes "doc ") then (doc_at bytes >>= λ doc. docs_at n doc.1 >>= λ docs. Some (doc.0 ∷ docs.0, docs.1)) else Some ([], bytes)

-- the search lines, which are all that is left, at most so many
unfoldable pub searches_at : ℕ → ℕ → List ℕ → Option (List Search)
searches_at n line [] = Some []
searches_at zero line (b ∷ bytes) = None
searches_at (suc n) line (b ∷ bytes) = search_at line (b ∷ bytes) >>= λ search. searches_at n (line + 1) search.1 >>= λ searches. Some (search.0 ∷ searches)

-- all lines
unfoldable pub lines_at : List ℕ → Option Script
lines_at bytes = do
  docs ← docs_at (length bytes) bytes
  searches ← searches_at (length docs.1) (1 + newlines (take (length bytes - length docs.1) bytes)) docs.1
  Some (record { docs = docs.0; searches = searches })
