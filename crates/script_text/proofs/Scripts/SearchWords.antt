-- The words of a search line, read and spelled.
use Rattle.std.proofs.Common.{◌≡◌, ℕ, ◌+◌, ◌<◌, ◌≤◌, Bool, true, false, not, cond, eqb, List, [], ◌∷◌, ◌++◌, length, Option, Some, None, inl, inr, refl, sym, ap, subst, ◌∙◌, arith}
use Rattle.std.specs.Prelude.{◌==◌, ◌||◌, codes}
use Rattle.std.specs.List.{list_all, join_with_byte, slice_split, AllByRecursion}
use Rattle.std.specs.List as std_list
use Rattle.std.specs.Str.{bytes_eq}
use Rattle.std.proofs.lemmas.Bool.{and_parts, eqb-true, ne_eqb}
use Rattle.std.proofs.lemmas.Bool.Decides.{nat_tests}
use Rattle.std.proofs.lemmas.List.{append-nil}
use Rattle.std.proofs.lemmas.List.Elements.{All-from_recursion}
use Rattle.std.proofs.lemmas.List.Splits.{join_with_byte-slice_split, slice_split_none, slice_split_at}
use Rattle.std.proofs.lemmas.Option.{same_Some, none-some}
use Rattle.std.proofs.lemmas.Slice.Eq.{bytes_eq-Decides}
use Rattle.java_tree.specs.declared.doc_name.Scope.{Scope}
use Rattle.java_tree.specs.declared.doc_name.Scope.TheVariants as scopes
use Rattle.java_tree.specs.declared.search.Limit.{Limit}
use Rattle.java_tree.specs.declared.search.Limit.TheVariants as limits
use Rattle.java_tree.specs.declared.search.Rule.{Rule}
use Rattle.java_tree.specs.declared.search.Rule.TheVariants as rule_names
use Rattle.java_tree.specs.declared.search.What.{What}
use Rattle.java_tree.specs.declared.search.What.TheVariants as whats
use Rattle.java_tree.specs.Names.{is_name, is_name_byte, is_container}
use Rattle.java_model.specs.SearchPattern.Texts.{onto_first, separated}
use Rattle.script_text.specs.Inner.Reading.{what_in, limit_in, rule_in, case_in, scope_in}
use Rattle.script_text.specs.Spelling.{is_word, is_word_byte, names_containers}
use Rattle.script_text.specs.Words.{what_word, limit_word, rule_word, case_word, scope_word, is_built}

-- ---- one of some words

-- the first word, or one of the others
either : {A : Type 0} (word spelled : List ℕ) (x : A) (others : Option A) (y : A) (P : A → Type 0)
    → cond (bytes_eq word spelled) (Some x) others ≡ Some y → (word ≡ spelled → P x) → (others ≡ Some y → P y) → P y
either word spelled x others y P e here there = by_test (bytes_eq word spelled) refl e
  where
    by_test : (b : Bool) → bytes_eq word spelled ≡ b → cond b (Some x) others ≡ Some y → P y
    by_test true is f = subst P (same_Some x y f) (here ((bytes_eq-Decides word spelled).0 is))
    by_test false is f = there f

pub what_takes : (word : List ℕ) (x : What) → what_in word ≡ Some x → (word ≡ what_word x) × (is_built x ≡ true)
unfolding what_in
what_takes word x e =
    let P : What → Type 0 = λ y. (word ≡ what_word y) × (is_built y ≡ true) in
    either word (codes "type") whats.Class _ x P e (λ is. (is, refl)) (λ f.
    either word (codes "package") whats.Package None x P f (λ is. (is, refl)) (λ g. absurd (none-some x g)))

pub limit_takes : (word : List ℕ) (x : Limit) → limit_in word ≡ Some x → word ≡ limit_word x
unfolding limit_in
limit_takes word x e =
    let P : Limit → Type 0 = λ y. word ≡ limit_word y in
    either word (codes "declarations") limits.Declarations _ x P e (λ is. is) (λ e1.
    either word (codes "references") limits.References _ x P e1 (λ is. is) (λ e2.
    either word (codes "implementors") limits.Implementors _ x P e2 (λ is. is) (λ e3.
    either word (codes "all") limits.All _ x P e3 (λ is. is) (λ e4.
    either word (codes "reads") limits.Reads _ x P e4 (λ is. is) (λ e5.
    either word (codes "writes") limits.Writes None x P e5 (λ is. is) (λ f. absurd (none-some x f)))))))

pub rule_takes : (word : List ℕ) (x : Rule) → rule_in word ≡ Some x → word ≡ rule_word x
unfolding rule_in
rule_takes word x e =
    let P : Rule → Type 0 = λ y. word ≡ rule_word y in
    either word (codes "exact") rule_names.Exact _ x P e (λ is. is) (λ e1.
    either word (codes "prefix") rule_names.Prefix _ x P e1 (λ is. is) (λ e2.
    either word (codes "wild") rule_names.Wild _ x P e2 (λ is. is) (λ e3.
    either word (codes "camel") rule_names.Camel None x P e3 (λ is. is) (λ f. absurd (none-some x f)))))

pub case_takes : (word : List ℕ) (x : Bool) → case_in word ≡ Some x → word ≡ case_word x
unfolding case_in
case_takes word x e =
    let P : Bool → Type 0 = λ y. word ≡ case_word y in
    either word (codes "case") true _ x P e (λ is. is) (λ e1.
    either word (codes "nocase") false None x P e1 (λ is. is) (λ f. absurd (none-some x f)))

pub what_again : (x : What) → is_built x ≡ true → what_in (what_word x) ≡ Some x
unfolding what_in
what_again whats.Class built = refl
what_again whats.Package built = refl
what_again whats.Method built = absurd cc
what_again whats.Constructor built = absurd cc
what_again whats.Field built = absurd cc

pub limit_again : (x : Limit) → limit_in (limit_word x) ≡ Some x
unfolding limit_in
limit_again limits.Declarations = refl
limit_again limits.References = refl
limit_again limits.Implementors = refl
limit_again limits.All = refl
limit_again limits.Reads = refl
limit_again limits.Writes = refl

pub rule_again : (x : Rule) → rule_in (rule_word x) ≡ Some x
unfolding rule_in
rule_again rule_names.Exact = refl
rule_again rule_names.Prefix = refl
rule_again rule_names.Wild = refl
rule_again rule_names.Camel = refl

pub case_again : (x : Bool) → case_in (case_word x) ≡ Some x
unfolding case_in
case_again true = refl
case_again false = refl

-- ---- their bytes are those of names

pub what_bytes : (x : What) → list_all is_name_byte (what_word x) ≡ true
what_bytes whats.Class = refl
what_bytes whats.Method = refl
what_bytes whats.Constructor = refl
what_bytes whats.Field = refl
what_bytes whats.Package = refl

pub limit_bytes : (x : Limit) → list_all is_name_byte (limit_word x) ≡ true
limit_bytes limits.Declarations = refl
limit_bytes limits.References = refl
limit_bytes limits.Implementors = refl
limit_bytes limits.All = refl
limit_bytes limits.Reads = refl
limit_bytes limits.Writes = refl

pub rule_bytes : (x : Rule) → list_all is_name_byte (rule_word x) ≡ true
rule_bytes rule_names.Exact = refl
rule_bytes rule_names.Prefix = refl
rule_bytes rule_names.Wild = refl
rule_bytes rule_names.Camel = refl

pub case_bytes : (x : Bool) → list_all is_name_byte (case_word x) ≡ true
case_bytes true = refl
case_bytes false = refl

-- ---- containers separated by commas

same_onto : (b : ℕ) (parts : List (List ℕ)) → onto_first b parts ≡ std_list.onto_first b parts
same_onto b [] = refl
same_onto b (part ∷ parts) = refl

pub separated_is : (bs : List ℕ) → separated 44 bs ≡ slice_split (λ b. eqb b 44) bs
separated_is [] = refl
separated_is (b ∷ bs) =
    rw (separated_is bs) (ap (λ parts. cond (eqb b 44) ([] ∷ slice_split (λ x. eqb x 44) bs) parts) (same_onto b (slice_split (λ x. eqb x 44) bs)))

joined_again : (word : List ℕ) → join_with_byte 44 (separated 44 word) ≡ word
joined_again word = ap (join_with_byte 44) (separated_is word) ∙ join_with_byte-slice_split 44 word

-- there is one part at least
some_part : (word : List ℕ) → separated 44 word ≡ [] → ⊥
some_part [] e = absurd cc
some_part (b ∷ bs) e = by_test (eqb b 44) (separated 44 bs) e
  where
    by_test : (v : Bool) (parts : List (List ℕ)) → cond v ([] ∷ parts) (onto_first b parts) ≡ [] → ⊥
    by_test true parts f = absurd cc
    by_test false [] f = absurd cc
    by_test false (part ∷ parts) f = absurd cc

named : (cs : List (List ℕ)) → (cs ≡ [] → ⊥) → list_all is_container cs ≡ true → names_containers (scopes.Containers cs) ≡ true
named [] some all = absurd (some refl)
named (c ∷ cs) some all = all

pub scope_takes : (word : List ℕ) (x : Scope) → scope_in word ≡ Some x → (word ≡ scope_word x) × (names_containers x ≡ true)
unfolding scope_in
scope_takes word x e =
    let P : Scope → Type 0 = λ y. (word ≡ scope_word y) × (names_containers y ≡ true) in
    either word (codes "*") scopes.All _ x P e (λ is. (is, refl)) (λ f. by_test (list_all is_container (separated 44 word)) refl f)
  where
    by_test : (b : Bool) → list_all is_container (separated 44 word) ≡ b → cond b (Some (scopes.Containers (separated 44 word))) None ≡ Some x
        → (word ≡ scope_word x) × (names_containers x ≡ true)
    by_test true all f =
        subst (λ (y : Scope). (word ≡ scope_word y) × (names_containers y ≡ true)) (same_Some (scopes.Containers (separated 44 word)) x f)
        (sym (joined_again word), named (separated 44 word) (some_part word) all)
    by_test false all f = absurd (none-some x f)

-- what holds of each byte that passes a test
each : (test : ℕ → Bool) (P : ℕ → Type 0) → ((b : ℕ) → test b ≡ true → P b) → (bytes : List ℕ) → list_all test bytes ≡ true → AllByRecursion P bytes
each test P weaker [] passed = tt
each test P weaker (b ∷ bytes) passed =
    let parts = and_parts (test b) (list_all test bytes) passed in
    (weaker b parts.0, each test P weaker bytes parts.1)

abbrev is_inner_byte : ℕ → Bool
is_inner_byte b = not (b == 44 || b == 42)

no_comma : (b : ℕ) → is_inner_byte b ≡ true → eqb b 44 ≡ false
no_comma b passed = grind (arith, nat_tests)

no_star : (b : ℕ) → is_inner_byte b ≡ true → eqb b 42 ≡ false
no_star b passed = grind (arith, nat_tests)

inner_bytes : (container : List ℕ) → is_container container ≡ true → list_all is_inner_byte container ≡ true
inner_bytes container passed = (and_parts (is_name container) (list_all is_inner_byte container) passed).1

lacks_comma : (container : List ℕ) → is_container container ≡ true → AllByRecursion (λ b. eqb b 44 ≡ false) container
lacks_comma container passed = each is_inner_byte (λ b. eqb b 44 ≡ false) no_comma container (inner_bytes container passed)

split_again : (c : List ℕ) (cs : List (List ℕ)) → list_all is_container (c ∷ cs) ≡ true → slice_split (λ b. eqb b 44) (join_with_byte 44 (c ∷ cs)) ≡ c ∷ cs
split_again c [] passed =
    let parts = and_parts (is_container c) true passed in
    slice_split_none (λ b. eqb b 44) c (All-from_recursion (λ b. eqb b 44 ≡ false) c (lacks_comma c parts.0))
split_again c (d ∷ ds) passed =
    let parts = and_parts (is_container c) (list_all is_container (d ∷ ds)) passed in
    slice_split_at (λ b. eqb b 44) c 44 (join_with_byte 44 (d ∷ ds)) (All-from_recursion (λ b. eqb b 44 ≡ false) c (lacks_comma c parts.0)) refl
    ∙ ap (λ rest. c ∷ rest) (split_again d ds parts.1)

-- it is no `*`
is_other : (c : List ℕ) (rest : List ℕ) → is_container c ≡ true → bytes_eq (c ++ rest) (codes "*") ≡ false
is_other [] rest passed = absurd cc
is_other (b ∷ bs) rest passed =
    let inner = and_parts (is_inner_byte b) (list_all is_inner_byte bs) (inner_bytes (b ∷ bs) passed) in
    rw (no_star b inner.0) refl

no_star_alone : (c : List ℕ) (cs : List (List ℕ)) → is_container c ≡ true → bytes_eq (join_with_byte 44 (c ∷ cs)) (codes "*") ≡ false
no_star_alone c [] passed = subst (λ (l : List ℕ). bytes_eq l (codes "*") ≡ false) (append-nil c) (is_other c [] passed)
no_star_alone c (d ∷ ds) passed = is_other c (44 ∷ join_with_byte 44 (d ∷ ds)) passed

pub scope_again : (x : Scope) → names_containers x ≡ true → scope_in (scope_word x) ≡ Some x
unfolding scope_in
scope_again scopes.All named = refl
scope_again (scopes.Containers []) named = absurd cc
scope_again (scopes.Containers (c ∷ cs)) named =
    let parts = and_parts (is_container c) (list_all is_container cs) named in
    let again : separated 44 (join_with_byte 44 (c ∷ cs)) ≡ c ∷ cs = separated_is (join_with_byte 44 (c ∷ cs)) ∙ split_again c cs named in
    rw (no_star_alone c cs parts.0, again, parts.0, parts.1) refl

-- ---- its bytes are those of names

all-append : (test : ℕ → Bool) (xs ys : List ℕ) → list_all test xs ≡ true → list_all test ys ≡ true → list_all test (xs ++ ys) ≡ true
all-append test [] ys low high = high
all-append test (x ∷ xs) ys low high =
    let parts = and_parts (test x) (list_all test xs) low in
    rw (parts.0, all-append test xs ys parts.1 high) refl

container_bytes : (container : List ℕ) → is_container container ≡ true → list_all is_name_byte container ≡ true
container_bytes container passed = (and_parts _ (list_all is_name_byte container) (and_parts (is_name container) _ passed).0).1

joined_bytes : (c : List ℕ) (cs : List (List ℕ)) → list_all is_container (c ∷ cs) ≡ true → list_all is_name_byte (join_with_byte 44 (c ∷ cs)) ≡ true
joined_bytes c [] passed = container_bytes c (and_parts (is_container c) true passed).0
joined_bytes c (d ∷ ds) passed =
    let parts = and_parts (is_container c) (list_all is_container (d ∷ ds)) passed in
    all-append is_name_byte c (44 ∷ join_with_byte 44 (d ∷ ds)) (container_bytes c parts.0) (joined_bytes d ds parts.1)

pub scope_bytes : (x : Scope) → names_containers x ≡ true → list_all is_name_byte (scope_word x) ≡ true
scope_bytes scopes.All named = refl
scope_bytes (scopes.Containers []) named = absurd cc
scope_bytes (scopes.Containers (c ∷ cs)) named = joined_bytes c cs named

-- ---- patterns

word_byte : (b : ℕ) → is_word_byte b ≡ true → eqb b 10 ≡ false
word_byte b passed = grind (arith, nat_tests)

word_bytes : (word : List ℕ) → is_word word ≡ true → list_all is_word_byte word ≡ true
word_bytes [] passed = refl
word_bytes (b ∷ word) passed = passed

pub word_lacks : (word : List ℕ) → is_word word ≡ true → AllByRecursion (λ b. eqb b 10 ≡ false) word
word_lacks word passed = each is_word_byte (λ b. eqb b 10 ≡ false) word_byte word (word_bytes word passed)

-- a byte of a name is no space and no LF
name_byte : (separator b : ℕ) → separator ≤ 32 → is_name_byte b ≡ true → eqb b separator ≡ false
name_byte separator b le passed = ne_eqb b separator (λ same. grind arith)

pub bytes_lack : (separator : ℕ) (bytes : List ℕ) → separator ≤ 32 → list_all is_name_byte bytes ≡ true → AllByRecursion (λ b. eqb b separator ≡ false) bytes
bytes_lack separator bytes le passed = each is_name_byte (λ b. eqb b separator ≡ false) (λ b. name_byte separator b le) bytes passed
