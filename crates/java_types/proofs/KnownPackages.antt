-- Known packages, by those of the documents and those around them.
use Rattle.std.proofs.Common.{◌≡◌, ◌+◌, ◌<◌, ◌≤◌, ◌==◌, ℕ, zero, suc, Bool, true, false, cond, ◌&&◌, ◌||◌, List, [], ◌∷◌, ◌++◌, Option, Some, map, take, length, get_or, position, is_some, refl, sym, ap, ◌∙◌, arith, subst, true≢false}
use Rattle.std.specs.List.{list_any, position_from}
use Rattle.std.specs.Str.{bytes_eq}
use Rattle.std.proofs.lemmas.Iterator.Adapters.{position_from-zero}
use Rattle.std.proofs.lemmas.List.{append_assoc, get_or-map, length-map, map-append, take_all}
use Rattle.std.proofs.Math.Seq.{take-suc}
use Rattle.java_model.specs.Names.Lists.{Identifier, Identifiers, same_name}
use Rattle.java_model.specs.Names.Environments.{EnvDocument, Env, is_in_package, is_known_package, java_lang}
use Rattle.java_types.specs.Documents.{document_of}
use Rattle.java_types.specs.Keys.{name_key, prefix_key}
use Rattle.java_types.specs.Packages.{prefixes_of, AreKnown}
use Rattle.java_types.specs.Tables.{Keys, HaveKey}
use Rattle.java_types.specs.declared.documents.KeptDocument.{KeptDocument}
use Rattle.java_types.proofs.ByName.{keyed_map, same_names}

-- ---- a package and those around it

any_map : {X Y : Type 0} (test : Y → Bool) (f : X → Y) (xs : List X) → list_any test (map f xs) ≡ list_any (λ x. test (f x)) xs
any_map test f [] = refl
any_map test f (x ∷ xs) = ap (λ b. test (f x) || b) (any_map test f xs)

pub any_append : {X : Type 0} (test : X → Bool) (xs ys : List X) → list_any test (xs ++ ys) ≡ (list_any test xs || list_any test ys)
any_append test [] ys = refl
any_append test (x ∷ xs) ys = by (test x) (any_append test xs ys)
  where
    by : (b : Bool) → list_any test (xs ++ ys) ≡ (list_any test xs || list_any test ys) → (b || list_any test (xs ++ ys)) ≡ ((b || list_any test xs) || list_any test ys)
    by true rest = refl
    by false rest = rest

any_and : {X : Type 0} (b : Bool) (test : X → Bool) (xs : List X) → list_any (λ x. b && test x) xs ≡ (b && list_any test xs)
any_and true test xs = refl
any_and false test [] = refl
any_and false test (x ∷ xs) = any_and false test xs

none_empty : (xs : Identifiers) → list_any (same_name []) (prefixes_of xs) ≡ false
none_empty [] = refl
none_empty (x ∷ xs) = any_map (same_name []) (λ p. x ∷ p) (prefixes_of xs) ∙ never (prefixes_of xs)
  where
    never : (ps : List Identifiers) → list_any (λ p. same_name [] (x ∷ p)) ps ≡ false
    never [] = refl
    never (p ∷ ps) = never ps

take_zero : (xs : Identifiers) → same_name [] (take 0 xs) ≡ true
take_zero [] = refl
take_zero (x ∷ xs) = refl

-- whether a package is one of those
pub among : (n : Identifier) (ns xs : Identifiers) → list_any (same_name (n ∷ ns)) (prefixes_of xs) ≡ is_in_package (n ∷ ns) xs
among n ns [] = refl
among n ns (x ∷ xs) =
    ap (λ b. (bytes_eq n x && same_name ns []) || b)
    (any_map (same_name (n ∷ ns)) (λ p. x ∷ p) (prefixes_of xs) ∙ any_and (bytes_eq n x) (same_name ns) (prefixes_of xs))
    ∙ by (bytes_eq n x) ns (λ m ms. among m ms xs)
  where
    by : (b : Bool) (ns : Identifiers) → ((m : Identifier) (ms : Identifiers) → list_any (same_name (m ∷ ms)) (prefixes_of xs) ≡ is_in_package (m ∷ ms) xs)
        → ((b && same_name ns []) || (b && list_any (same_name ns) (prefixes_of xs))) ≡ (b && same_name ns (take (length ns) xs))
    by true [] rest = sym (take_zero xs)
    by true (m ∷ ms) rest = rest m ms
    by false ns rest = refl

-- ---- those of all documents

pub none_known : AreKnown [] []
none_known name named = refl

pub more_known : (env : Env) (d : EnvDocument) (names after : List Identifiers) → AreKnown env names → after ≡ names ++ prefixes_of d.outline.«package» → AreKnown (env ++ d ∷ []) after
more_known env d names after known is [] named = absurd (true≢false named)
more_known env d names after known is (x ∷ xs) named =
    ap (list_any (same_name (x ∷ xs))) is ∙ any_append (same_name (x ∷ xs)) names (prefixes_of d.outline.«package»)
    ∙ ap (λ b. b || list_any (same_name (x ∷ xs)) (prefixes_of d.outline.«package»)) (known (x ∷ xs) named)
    ∙ ap (λ b. list_any (λ e. is_in_package (x ∷ xs) e.outline.«package») env || b) (among x xs d.outline.«package» ∙ sym (or_false (is_in_package (x ∷ xs) d.outline.«package»)))
    ∙ sym (any_append (λ (e : EnvDocument). is_in_package (x ∷ xs) e.outline.«package») env (d ∷ []))
  where
    or_false : (b : Bool) → (b || false) ≡ b
    or_false true = refl
    or_false false = refl

-- A package whose own and whose outer packages are there already adds nothing.
abbrev pub IsCovered : List Identifiers → Identifiers → Type 0
IsCovered names last = (name : Identifiers) → (length name == 0) ≡ false → is_in_package name last ≡ true → list_any (same_name name) names ≡ true

pub none_covered : (names : List Identifiers) → IsCovered names []
none_covered names [] named is = absurd (true≢false named)
none_covered names (x ∷ xs) named is = absurd (true≢false (sym is))

pub added_covered : (names after : List Identifiers) (own : Identifiers) → after ≡ names ++ prefixes_of own → IsCovered after own
added_covered names after own is [] named inside = absurd (true≢false named)
added_covered names after own is (x ∷ xs) named inside =
    ap (list_any (same_name (x ∷ xs))) is ∙ any_append (same_name (x ∷ xs)) names (prefixes_of own)
    ∙ ap (λ b. list_any (same_name (x ∷ xs)) names || b) (among x xs own ∙ inside) ∙ or_true (list_any (same_name (x ∷ xs)) names)
  where
    or_true : (b : Bool) → (b || true) ≡ true
    or_true true = refl
    or_true false = refl

pub same_known : (env : Env) (d : EnvDocument) (names : List Identifiers) (last : Identifiers) → AreKnown env names → IsCovered names last → same_name d.outline.«package» last ≡ true
    → AreKnown (env ++ d ∷ []) names
same_known env d names last known covered same name named =
    known name named ∙ by (is_in_package name d.outline.«package») refl
    ∙ sym (any_append (λ (e : EnvDocument). is_in_package name e.outline.«package») env (d ∷ []))
  where
    by : (b : Bool) → is_in_package name d.outline.«package» ≡ b
        → list_any (λ e. is_in_package name e.outline.«package») env ≡ (list_any (λ e. is_in_package name e.outline.«package») env || (is_in_package name d.outline.«package» || false))
    by true is =
        let there = sym (known name named) ∙ covered name named (ap (is_in_package name) (sym (same_names d.outline.«package» last same)) ∙ is) in
        there ∙ sym (ap (λ b. b || (is_in_package name d.outline.«package» || false)) there)
    by false is =
        sym (ap (λ b. list_any (λ e. is_in_package name e.outline.«package») env || (b || false)) is ∙ or_false (list_any (λ e. is_in_package name e.outline.«package») env))
      where
        or_false : (b : Bool) → (b || false) ≡ b
        or_false true = refl
        or_false false = refl

-- ---- the answers

some_any : {X : Type 0} (test : X → Bool) (n : ℕ) (xs : List X) → is_some (position_from test n xs) ≡ list_any test xs
some_any test n [] = refl
some_any test n (x ∷ xs) = by (test x) (some_any test (n + 1) xs)
  where
    by : (b : Bool) → is_some (position_from test (n + 1) xs) ≡ list_any test xs → is_some (cond b (Some n) (position_from test (n + 1) xs)) ≡ (b || list_any test xs)
    by true rest = refl
    by false rest = rest

pub found_any : {X : Type 0} (test : X → Bool) (xs : List X) → is_some (position test xs) ≡ list_any test xs
found_any test xs = ap is_some (position_from-zero test xs) ∙ some_any test 0 xs

pub packages_keyed : (name : Identifiers) (names seen : List Identifiers) (keys : Keys) (k : ℕ) → seen ≡ names → keys ≡ map prefix_key names → k ≡ name_key [] name
    → HaveKey (same_name name) seen keys k
packages_keyed name names seen keys k same are is =
    keyed_map prefix_key (same_name name) seen keys k (are ∙ ap (map prefix_key) (sym same))
    (λ p t. ap (λ q. Some (name_key [] q)) (sym (same_names name p t)) ∙ ap Some (sym is))

pub known_among : (env : Env) (names : List Identifiers) (name : Identifiers) (found : Bool) → AreKnown env names → (length name == 0) ≡ false → is_in_package name java_lang ≡ false
    → found ≡ list_any (same_name name) names → found ≡ is_known_package env name
known_among env names [] found known named other is = absurd (true≢false named)
known_among env names (x ∷ xs) found known named other is =
    is ∙ known (x ∷ xs) named ∙ sym (ap (λ b. b || list_any (λ d. is_in_package (x ∷ xs) d.outline.«package») env) other)

-- ---- how they are added

prefixes_many : (xs : Identifiers) → length (prefixes_of xs) ≡ length xs
prefixes_many [] = refl
prefixes_many (x ∷ xs) = ap suc (length-map (prefixes_of xs) (λ p. x ∷ p) ∙ prefixes_many xs)

prefix_at : (xs : Identifiers) (i : ℕ) (d : Identifiers) → i < length xs → get_or (prefixes_of xs) i d ≡ take (suc i) xs
prefix_at [] i d h = absurd (omega (arith, h))
prefix_at (x ∷ xs) zero d h = refl
prefix_at (x ∷ xs) (suc i) d h =
    let many = prefixes_many xs in
    get_or-map (λ p. x ∷ p) (prefixes_of xs) i [] d (omega (arith, h, many)) ∙ ap (λ p. x ∷ p) (prefix_at xs i [] (omega (arith, h)))

pub prefix_pushed : (xs : Identifiers) (before names after : List Identifiers) (i : ℕ) (p : Identifiers) → i < length xs → names ≡ before ++ take i (prefixes_of xs) → after ≡ names ++ p ∷ []
    → p ≡ take (i + 1) xs → after ≡ before ++ take (i + 1) (prefixes_of xs)
prefix_pushed xs before names after i p h so_far is own =
    let many = prefixes_many xs in let next : suc i ≡ i + 1 = omega arith in
    is ∙ ap (λ ns. ns ++ p ∷ []) so_far ∙ append_assoc before (take i (prefixes_of xs)) (p ∷ [])
    ∙ ap (λ q. before ++ (take i (prefixes_of xs) ++ q ∷ [])) (own ∙ sym (ap (λ k. take k xs) next) ∙ sym (prefix_at xs i [] h))
    ∙ sym (ap (λ ns. before ++ ns) (ap (λ k. take k (prefixes_of xs)) (sym next) ∙ take-suc (prefixes_of xs) i [] (omega (arith, h, many))))

pub prefixes_done : (xs : Identifiers) (before names : List Identifiers) (i : ℕ) → length xs ≤ i → names ≡ before ++ take i (prefixes_of xs) → names ≡ before ++ prefixes_of xs
prefixes_done xs before names i h so_far = let many = prefixes_many xs in so_far ∙ ap (λ ns. before ++ ns) (take_all i (prefixes_of xs) (omega (arith, h, many)))

pub documents_next : (ds : List KeptDocument) (i : ℕ) (d : KeptDocument) → i < length ds → d ≡ get_or ds i d
    → map document_of (take (i + 1) ds) ≡ map document_of (take i ds) ++ document_of d ∷ []
documents_next ds i d h is =
    let next : i + 1 ≡ suc i = omega arith in
    ap (λ k. map document_of (take k ds)) next ∙ ap (map document_of) (take-suc ds i d h) ∙ map-append document_of (take i ds) (get_or ds i d ∷ [])
    ∙ ap (λ x. map document_of (take i ds) ++ document_of x ∷ []) (sym is)

-- What is kept after a document: its package is added, or was there.
pub package_added : (env next : Env) (d : EnvDocument) (names after : List Identifiers) (last own : Identifiers) → next ≡ env ++ d ∷ [] → AreKnown env names
    → own ≡ d.outline.«package» → after ≡ names ++ prefixes_of own → last ≡ own → AreKnown next after × IsCovered after last
package_added env next d names after last own is known owns adds lasts = (
  subst (λ e. AreKnown e after) (sym is) (more_known env d names after known (adds ∙ ap (λ p. names ++ prefixes_of p) owns)),
  subst (IsCovered after) (sym lasts) (added_covered names after own adds),
)

pub package_there : (env next : Env) (d : EnvDocument) (names : List Identifiers) (last own : Identifiers) → next ≡ env ++ d ∷ [] → AreKnown env names × IsCovered names last
    → own ≡ d.outline.«package» → same_name own last ≡ true → AreKnown next names × IsCovered names last
package_there env next d names last own is kept owns same =
    (subst (λ e. AreKnown e names) (sym is) (same_known env d names last kept.0 kept.1 (ap (λ p. same_name p last) (sym owns) ∙ same)), kept.1)

pub is_found : (name : Identifiers) (names seen : List Identifiers) (found : Option ℕ) (r : Bool) → seen ≡ names → r ≡ is_some found → found ≡ position (same_name name) seen
    → r ≡ list_any (same_name name) names
is_found name names seen found r same is at = is ∙ ap is_some at ∙ found_any (same_name name) seen ∙ ap (list_any (same_name name)) same
