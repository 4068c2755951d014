-- What is spelled so is read again.
use Rattle.std.proofs.Common.{◌≡◌, ℕ, zero, suc, ◌+◌, ◌^◌, ◌<◌, ◌≤◌, Bool, true, false, eqb, ltb, List, [], ◌∷◌, ◌++◌, length, get_or, take, drop, Option, Some, refl, sym, ap, subst, ◌∙◌, append_assoc, length-append, arith}
use Rattle.std.specs.Prelude.{nat_eq, codes}
use Rattle.std.specs.Char.{is_ascii_digit}
use Rattle.std.specs.Fmt.{decimal}
use Rattle.std.specs.List.{flat_map, list_all, starts_with, AllByRecursion}
use Rattle.std.specs.Str.{IsUtf8, IsAscii}
use Rattle.std.specs.Str.Parse.{AllDigits}
use Rattle.std.proofs.lemmas.Bool.{eq-eqb, ne_eqb, lt-ltb, and_parts}
use Rattle.std.proofs.lemmas.Bool.Decides.{nat_tests}
use Rattle.std.proofs.lemmas.Fmt.{decimal_is_IsNumeral}
use Rattle.std.proofs.lemmas.List.{take_at, drop_at, get_or_at}
use Rattle.std.proofs.lemmas.Slice.Eq.{bytes_eq-Decides}
use Rattle.std.proofs.lemmas.Str.{IsUtf8-from_ascii}
use Rattle.std.proofs.lemmas.Str.Ascii.{IsAscii-nil, IsAscii-cons}
use Rattle.std.proofs.lemmas.Str.Parse.{digit_at}
use Rattle.java_tree.specs.Names.{is_name, is_name_byte, is_container, is_source_path}
use Rattle.java_tree.specs.declared.doc_name.Scope.{Scope}
use Rattle.java_model.specs.Documents.{Document}
use Rattle.java_model.specs.ScriptText.{doc_text, IsScriptDoc}
use Rattle.script_text.specs.declared.script.Search.{Search}
use Rattle.script_text.specs.Spelling.{search_text, names_containers, IsScriptSearch}
use Rattle.script_text.specs.Words.{what_word, limit_word, rule_word, case_word, scope_word}
use Rattle.script_text.specs.Inner.Reading.{◌>>=◌, literal_at, field_at, text_field_at, number_field_at, text_at, what_in, limit_in, rule_in, case_in, word_at, scope_at, doc_at, search_at, docs_at, searches_at}
use Rattle.script_text.proofs.Scripts.SearchWords.{what_again, limit_again, rule_again, case_again, scope_again, what_bytes, limit_bytes, rule_bytes, case_bytes, scope_bytes, word_lacks, bytes_lack}
use Rattle.script_text.proofs.Scripts.ReadFields.{text_in-utf8, number_in-decimal}
use Rattle.script_text.proofs.Scripts.PrintOfRead.{AreFrom}

-- bytes among which a byte isn't
abbrev pub Lack : ℕ → List ℕ → Type 0
Lack separator w = AllByRecursion (λ b. eqb b separator ≡ false) w

-- ---- fields

pub literal_again : (literal rest : List ℕ) → literal_at literal (literal ++ rest) ≡ Some rest
literal_again literal rest =
    let front : take (length literal) (literal ++ rest) ≡ literal = take_at literal rest (length literal) refl in
    let begins : starts_with nat_eq (literal ++ rest) literal ≡ true = (bytes_eq-Decides literal (take (length literal) (literal ++ rest))).1 (sym front) in
    rw (begins, drop_at literal rest (length literal) refl) refl

pub field_again : (separator : ℕ) (w rest : List ℕ) → AllByRecursion (λ b. eqb b separator ≡ false) w → field_at separator (w ++ separator ∷ rest) ≡ Some (w, rest)
unfolding field_at
field_again separator [] rest lack = rw (eq-eqb separator separator refl) refl
field_again separator (b ∷ w) rest lack = rw (lack.0, field_again separator w rest lack.1) refl

pub text_field_again : (separator : ℕ) (w rest : List ℕ) → AllByRecursion (λ b. eqb b separator ≡ false) w → IsUtf8 w → text_field_at separator (w ++ separator ∷ rest) ≡ Some (w, rest)
unfolding text_field_at
text_field_again separator w rest lack utf8 = rw (field_again separator w rest lack, text_in-utf8 w utf8) refl

-- no digit is a byte that isn't one
digits_lack : (separator : ℕ) (ds : List ℕ) → is_ascii_digit separator ≡ false → AllDigits 10 ds → Lack separator ds
digits_lack separator [] other digits = tt
digits_lack separator (d ∷ ds) other digits =
    let digit = digit_at (d ∷ ds) 0 digits (omega arith) in
    (ne_eqb d separator (λ same. grind (arith, digit)), digits_lack separator ds other digits.1)

pub number_field_again : (separator limit n : ℕ) (rest : List ℕ) → is_ascii_digit separator ≡ false → limit < 2 ^ 64 → n ≤ limit → number_field_at separator limit (decimal n ++ separator ∷ rest) ≡ Some (n, rest)
unfolding number_field_at
number_field_again separator limit n rest other bound le =
    let lt : n < 2 ^ 64 = omega arith in
    let lack : Lack separator (decimal n) = digits_lack separator (decimal n) other (decimal_is_IsNumeral n lt).0.1 in
    rw (field_again separator (decimal n) rest lack, number_in-decimal limit n (decimal n) lt le refl) refl

pub text_again : (text rest : List ℕ) → IsUtf8 text → text_at (length text) (text ++ 10 ∷ rest) ≡ Some (text, rest)
unfolding text_at
text_again text rest utf8 =
    let shorter : ltb (length text) (length (text ++ 10 ∷ rest)) ≡ true = lt-ltb _ _ (omega (arith, length-append text (10 ∷ rest))) in
    let lf : get_or (text ++ 10 ∷ rest) (length text) 0 ≡ 10 = get_or_at text 10 rest 0 (length text) refl in
    let front : take (length text) (text ++ 10 ∷ rest) ≡ text = take_at text (10 ∷ rest) (length text) refl in
    let after : drop (length text + 1) (text ++ 10 ∷ rest) ≡ rest = past_byte text 10 rest in
    rw (shorter, lf, front, after, text_in-utf8 text utf8) refl
  where
    past_byte : (text : List ℕ) (b : ℕ) (rest : List ℕ) → drop (length text + 1) (text ++ b ∷ rest) ≡ rest
    past_byte text b rest = ap (λ (l : List ℕ). drop (length text + 1) l) (sym (append_assoc text (b ∷ []) rest)) ∙ drop_at (text ++ b ∷ []) rest (length text + 1) (omega (arith, length-append text (b ∷ [])))

-- ---- names and words

pub name_lacks : (separator : ℕ) (name : List ℕ) → separator ≤ 32 → is_name name ≡ true → Lack separator name
name_lacks separator name le passed = bytes_lack separator name le (and_parts _ (list_all is_name_byte name) passed).1

container_lacks : (container : List ℕ) → is_container container ≡ true → Lack 32 container
container_lacks container passed = name_lacks 32 container (omega arith) (and_parts (is_name container) _ passed).0

path_lacks : (path : List ℕ) → is_source_path path ≡ true → Lack 32 path
path_lacks path passed = name_lacks 32 path (omega arith) (and_parts (is_name path) _ passed).0

-- ---- lines

-- a step whose value is known
pub next : {A B : Type 0} (o : Option A) (f : A → Option B) (x : A) (y : Option B) → o ≡ Some x → f x ≡ y → (o >>= f) ≡ y
next {A = A} o f x y e then = ap (λ (p : Option A). p >>= f) e ∙ then

doc_parts : (container path stamp len text rest : List ℕ)
    → (codes "doc " ++ container ++ codes " " ++ path ++ codes " " ++ stamp ++ codes " " ++ len ++ (10 ∷ []) ++ text ++ (10 ∷ [])) ++ rest
    ≡ codes "doc " ++ (container ++ 32 ∷ (path ++ 32 ∷ (stamp ++ 32 ∷ (len ++ 10 ∷ (text ++ 10 ∷ rest)))))
doc_parts container path stamp len text rest = simp append_assoc

search_parts : (name what limit rule case scope pattern rest : List ℕ)
    → (codes "@1 search " ++ name ++ codes " wait " ++ what ++ codes " " ++ limit ++ codes " " ++ rule ++ codes " " ++ case ++ codes " " ++ scope ++ codes " " ++ pattern ++ (10 ∷ [])) ++ rest
    ≡ codes "@1 search " ++ (name ++ 32 ∷ (codes "wait " ++ (what ++ 32 ∷ (limit ++ 32 ∷ (rule ++ 32 ∷ (case ++ 32 ∷ (scope ++ 32 ∷ (pattern ++ 10 ∷ rest))))))))
search_parts name what limit rule case scope pattern rest = simp append_assoc

doc_read : (container path : List ℕ) (stamp : ℕ) (text rest : List ℕ) → IsScriptDoc (record { container = container; path = path; version = 0; stamp = stamp; text = text })
    → doc_at (codes "doc " ++ (container ++ 32 ∷ (path ++ 32 ∷ (decimal stamp ++ 32 ∷ (decimal (length text) ++ 10 ∷ (text ++ 10 ∷ rest))))))
    ≡ Some (record { container = container; path = path; version = 0; stamp = stamp; text = text }, rest)
unfolding doc_at
doc_read container path stamp text rest formed =
    let r4 = text ++ 10 ∷ rest in
    let r3 = decimal (length text) ++ 10 ∷ r4 in
    let r2 = decimal stamp ++ 32 ∷ r3 in
    let r1 = path ++ 32 ∷ r2 in
    let r0 = container ++ 32 ∷ r1 in
    next (text_field_at 32 r0) _ (container, r1) _ (text_field_again 32 container r1 (container_lacks container formed.container.0) formed.container.1) (
    next (text_field_at 32 r1) _ (path, r2) _ (text_field_again 32 path r2 (path_lacks path formed.path.0) formed.path.1) (
    next (number_field_at 32 (2 ^ 61) r2) _ (stamp, r3) _ (number_field_again 32 (2 ^ 61) stamp r3 refl (omega arith) formed.stamp) (
    next (number_field_at 10 1048576 r3) _ (length text, r4) _ (number_field_again 10 1048576 (length text) r4 refl (omega arith) formed.text.0) (
    next (text_at (length text) r4) _ (text, rest) _ (text_again text rest formed.text.1) (
    rw (formed.container.0, formed.path.0) refl)))))

pub doc_again : (doc : Document) (rest : List ℕ) → IsScriptDoc doc → doc_at (doc_text doc ++ rest) ≡ Some (doc, rest)
doc_again doc rest formed =
    let made : Document = record { container = doc.container; path = doc.path; version = 0; stamp = doc.stamp; text = doc.text } in
    let same : made ≡ doc = ap (λ (v : ℕ). record { container = doc.container; path = doc.path; version = v; stamp = doc.stamp; text = doc.text }) (sym formed.version) in
    let made_formed : IsScriptDoc made = subst IsScriptDoc (sym same) formed in
    ap doc_at (doc_parts doc.container doc.path (decimal doc.stamp) (decimal (length doc.text)) doc.text rest)
    ∙ doc_read doc.container doc.path doc.stamp doc.text rest made_formed ∙ ap (λ (d : Document). Some (d, rest)) same

word_again : {A : Type 0} (read : List ℕ → Option A) (word : List ℕ) (x : A) (rest : List ℕ) → read word ≡ Some x → list_all is_name_byte word ≡ true
    → word_at read (word ++ 32 ∷ rest) ≡ Some (x, rest)
unfolding word_at
word_again read word x rest is bytes = rw (field_again 32 word rest (bytes_lack 32 word (omega arith) bytes), is) refl

scope_field_again : (scope : Scope) (rest : List ℕ) → names_containers scope ≡ true → IsUtf8 (scope_word scope) → scope_at (scope_word scope ++ 32 ∷ rest) ≡ Some (scope, rest)
unfolding scope_at
scope_field_again scope rest named utf8 =
    rw (text_field_again 32 (scope_word scope) rest (bytes_lack 32 (scope_word scope) (omega arith) (scope_bytes scope named)) utf8, scope_again scope named) refl

search_read : (s : Search) (rest : List ℕ) → IsScriptSearch s
    → search_at s.line (codes "@1 search " ++ (s.name ++ 32 ∷ (codes "wait " ++ (what_word s.what ++ 32 ∷ (limit_word s.limit ++ 32 ∷ (rule_word s.rule ++ 32 ∷ (case_word s.case ++ 32 ∷ (scope_word s.scope ++ 32 ∷ (s.pattern ++ 10 ∷ rest)))))))))
    ≡ Some (s, rest)
unfolding search_at
search_read s rest formed =
    let r7 = s.pattern ++ 10 ∷ rest in
    let r6 = scope_word s.scope ++ 32 ∷ r7 in
    let r5 = case_word s.case ++ 32 ∷ r6 in
    let r4 = rule_word s.rule ++ 32 ∷ r5 in
    let r3 = limit_word s.limit ++ 32 ∷ r4 in
    let r2 = what_word s.what ++ 32 ∷ r3 in
    let r1 = codes "wait " ++ r2 in
    let r0 = s.name ++ 32 ∷ r1 in
    next (text_field_at 32 r0) _ (s.name, r1) _ (text_field_again 32 s.name r1 (name_lacks 32 s.name (omega arith) formed.name.0) formed.name.1) (
    next (word_at what_in r2) _ (s.what, r3) _ (word_again what_in (what_word s.what) s.what r3 (what_again s.what formed.what) (what_bytes s.what)) (
    next (word_at limit_in r3) _ (s.limit, r4) _ (word_again limit_in (limit_word s.limit) s.limit r4 (limit_again s.limit) (limit_bytes s.limit)) (
    next (word_at rule_in r4) _ (s.rule, r5) _ (word_again rule_in (rule_word s.rule) s.rule r5 (rule_again s.rule) (rule_bytes s.rule)) (
    next (word_at case_in r5) _ (s.case, r6) _ (word_again case_in (case_word s.case) s.case r6 (case_again s.case) (case_bytes s.case)) (
    next (scope_at r6) _ (s.scope, r7) _ (scope_field_again s.scope r7 formed.scope.0 formed.scope.1) (
    next (text_field_at 10 r7) _ (s.pattern, rest) _ (text_field_again 10 s.pattern rest (word_lacks s.pattern formed.pattern.0) formed.pattern.1) (
    rw (formed.name.0, formed.pattern.0) refl)))))))

pub search_again : (search : Search) (rest : List ℕ) → IsScriptSearch search → search_at search.line (search_text search ++ rest) ≡ Some (search, rest)
search_again search rest formed =
    ap (search_at search.line) (search_parts search.name (what_word search.what) (limit_word search.limit) (rule_word search.rule) (case_word search.case) (scope_word search.scope) search.pattern rest)
    ∙ search_read search rest formed

-- ---- all lines

pub docs_again : (n : ℕ) (docs : List Document) (rest : List ℕ) → AllByRecursion IsScriptDoc docs → length docs ≤ n → starts_with nat_eq rest (codes "doc ") ≡ false
    → docs_at n (flat_map doc_text docs ++ rest) ≡ Some (docs, rest)
unfolding docs_at
docs_again zero [] rest formed few other = refl
docs_again zero (doc ∷ docs) rest formed few other = absurd (omega arith)
docs_again (suc n) [] rest formed few other = rw other refl
docs_again (suc n) (doc ∷ docs) rest formed few other =
    let tail = flat_map doc_text docs ++ rest in
    ap (docs_at (suc n)) (append_assoc (doc_text doc) (flat_map doc_text docs) rest)
    ∙ next (doc_at (doc_text doc ++ tail)) _ (doc, tail) _ (doc_again doc tail formed.0) (next (docs_at n tail) _ (docs, rest) _ (docs_again n docs rest formed.1 (omega arith) other) refl)

pub searches_again : (n line : ℕ) (searches : List Search) → AllByRecursion IsScriptSearch searches → AreFrom line searches → length searches ≤ n
    → searches_at n line (flat_map search_text searches) ≡ Some searches
unfolding searches_at
searches_again zero line [] formed lines few = refl
searches_again zero line (search ∷ searches) formed lines few = absurd (omega arith)
searches_again (suc n) line [] formed lines few = refl
searches_again (suc n) line (search ∷ searches) formed lines few =
    let tail = flat_map search_text searches in
    let first : search_at line (search_text search ++ tail) ≡ Some (search, tail) = subst (λ (l : ℕ). search_at l (search_text search ++ tail) ≡ Some (search, tail)) lines.0 (search_again search tail formed.0) in
    next (search_at line (search_text search ++ tail)) _ (search, tail) _ first (next (searches_at n (line + 1) tail) _ searches _ (searches_again n (line + 1) searches formed.1 lines.1 (omega arith)) refl)
