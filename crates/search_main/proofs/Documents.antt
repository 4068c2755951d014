-- The environment of the opening documents.
use Rattle.std.proofs.Common.{◌≡◌, ℕ, ◌+◌, ◌<◌, zero, suc, Bool, true, false, cond, List, [], ◌∷◌, ◌++◌, length, take, drop, get_or, Option, Some, None, ◌⊎◌, inl, inr, refl, sym, ap, subst, ◌∙◌, append_assoc, arith}
use Rattle.std.proofs.lemmas.List.{append-nil}
use Rattle.std.specs.declared.cmp.Ordering.TheVariants.{Less}
use Rattle.std.specs.List.{AllByRecursion}
use Rattle.std.specs.List.Sorted.{IsStrictlySortedBy}
use Rattle.std.proofs.lemmas.Slice.Eq.{bytes_eq-Decides}
use Rattle.java_tree.specs.declared.outline.Level.TheVariants.{Java14}
use Rattle.java_tree.specs.declared.outline.Outline.{Outline}
use Rattle.java_tree.specs.declared.types.DocPath.{DocPath}
use Rattle.java_tree.specs.declared.unit.Unit.{Unit as CompilationUnit}
use Rattle.java_model.specs.Documents.{Document, document_cmp, AreInOrder}
use Rattle.java_model.specs.DocumentTexts.{IsEnvOf, no_documents, unreadable, readable}
use Rattle.java_model.specs.Names.Environments.{Env, EnvDocument, same_path}
use Rattle.java_model.specs.Scopes.Contexts.{Context, context_among}
use Rattle.java_model.specs.Texts.{IsOutlineOf, IsUnitOfText}
use Rattle.java_types.specs.Documents.{path_cmp, ComesAfter}
use Rattle.search_main.specs.declared.opening.Opened.{Opened}
use Rattle.search_main.specs.Inner.Located.{StandsIn, IsOpenedIn}
use Rattle.search_main.specs.Inner.Replied.{IsOpening}
use Rattle.search_main.specs.Inner.Views.{document_read, documents_read, path_read, entries_at, entries_of, environment_of}
use Rattle.search_main.specs.Legal.{at_1_4}

-- what holds of all holds of the one at a place
pub each_here : {X : Type 0} (P : X → Type 0) (xs : List X) (i : ℕ) (x : X) → AllByRecursion P xs → i < length xs → x ≡ get_or xs i x → P x
each_here P [] i x all lt is = absurd (omega arith)
each_here P (y ∷ ys) zero x all lt is = subst P (sym is) all.0
each_here P (y ∷ ys) (suc i) x all lt is = each_here P ys i x all.1 (omega arith) is

-- what holds of all documents holds of the one that was read at a place
pub each_read : (P : Document → Type 0) (opened : List Opened) (i : ℕ) (o : Opened) → AllByRecursion P (documents_read opened) → i < length opened → o ≡ get_or opened i o
    → P (document_read o)
each_read P [] i o all lt is = absurd (omega arith)
each_read P (x ∷ xs) zero o all lt is = subst (λ y. P (document_read y)) (sym is) all.0
each_read P (x ∷ xs) (suc i) o all lt is = each_read P xs i o all.1 (omega arith) is

-- the list up to a place, the element there, and what follows
pub parts_at : {X : Type 0} (xs : List X) (i : ℕ) (d : X) → i < length xs → xs ≡ take i xs ++ get_or xs i d ∷ drop (suc i) xs
parts_at [] i d lt = absurd (omega arith)
parts_at (x ∷ xs) zero d lt = refl
parts_at (x ∷ xs) (suc i) d lt = ap (λ ys. x ∷ ys) (parts_at xs i d (omega arith))

pub take_more : {X : Type 0} (xs : List X) (i : ℕ) (d : X) → i < length xs → take (i + 1) xs ≡ take i xs ++ get_or xs i d ∷ []
take_more xs i d lt = let e : i + 1 ≡ suc i = omega arith in ap (λ n. take n xs) e ∙ one_more xs i d lt
  where
    one_more : {X : Type 0} (xs : List X) (i : ℕ) (d : X) → i < length xs → take (suc i) xs ≡ take i xs ++ get_or xs i d ∷ []
    one_more [] i d lt = absurd (omega arith)
    one_more (x ∷ xs) zero d lt = refl
    one_more (x ∷ xs) (suc i) d lt = ap (λ ys. x ∷ ys) (one_more xs i d (omega arith))

-- ---- documents in order

-- one document of a list in order comes after those before it
middle : (x : Document) (front : List Opened) (o : Opened) (rest : List Opened)
    → AllByRecursion (λ z. document_cmp x z ≡ Less) (documents_read (front ++ o ∷ rest)) → document_cmp x (document_read o) ≡ Less
middle x [] o rest all = all.0
middle x (y ∷ front) o rest all = middle x front o rest all.1

entry_before : (x : Opened) (path : DocPath) (outline : Option Outline) (env : Env) → path_cmp (path_read x) path ≡ Less → ComesAfter env path
    → ComesAfter (entries_at (path_read x) outline ++ env) path
entry_before x path None env less all = all
entry_before x path (Some outline) env less all = (less, all)

pub comes_after : (front : List Opened) (o : Opened) (rest : List Opened) → IsStrictlySortedBy document_cmp (documents_read (front ++ o ∷ rest))
    → ComesAfter (environment_of front) (path_read o)
unfolding IsStrictlySortedBy
comes_after [] o rest sorted = tt
comes_after (x ∷ front) o rest sorted =
    entry_before x (path_read o) x.document.outline (environment_of front) (middle (document_read x) front o rest sorted.0) (comes_after front o rest sorted.1)

pub comes_next : (opened : List Opened) (i : ℕ) (o : Opened) → AreInOrder (documents_read opened) → i < length opened → o ≡ get_or opened i o
    → ComesAfter (environment_of (take i opened)) (path_read o)
comes_next opened i o sorted lt is =
    let parts : opened ≡ take i opened ++ o ∷ drop (suc i) opened = parts_at opened i o lt ∙ ap (λ x. take i opened ++ x ∷ drop (suc i) opened) (sym is) in
    comes_after (take i opened) o (drop (suc i) opened) (subst (λ xs. AreInOrder (documents_read xs)) parts sorted)

environment-append : (front back : List Opened) → environment_of (front ++ back) ≡ environment_of front ++ environment_of back
environment-append [] back = refl
environment-append (x ∷ front) back = ap (λ es. entries_of x ++ es) (environment-append front back) ∙ sym (append_assoc (entries_of x) (environment_of front) (environment_of back))

pub environment_more : (opened : List Opened) (i : ℕ) (o : Opened) → i < length opened → o ≡ get_or opened i o
    → environment_of (take (i + 1) opened) ≡ environment_of (take i opened) ++ entries_of o
environment_more opened i o lt is =
    ap environment_of (take_more opened i o lt ∙ ap (λ x. take i opened ++ x ∷ []) (sym is)) ∙ environment-append (take i opened) (o ∷ [])
    ∙ ap (λ es. environment_of (take i opened) ++ es) (append-nil (entries_of o))

-- what is added of a readable document, and of another one
pub added_one : (docs new : Env) (o : Opened) (path : DocPath) (outline : Outline) → path ≡ path_read o → o.document.outline ≡ Some outline
    → new ≡ docs ++ record { path = path; outline = outline } ∷ [] → new ≡ docs ++ entries_of o
added_one docs new o path outline here is added =
    added ∙ ap (λ (p : DocPath). docs ++ record { path = p; outline = outline } ∷ []) here ∙ sym (ap (λ (x : Option Outline). docs ++ entries_at (path_read o) x) is)

pub added_none : (docs : Env) (o : Opened) → o.document.outline ≡ None → docs ≡ docs ++ entries_of o
added_none docs o is = sym (ap (λ (x : Option Outline). docs ++ entries_at (path_read o) x) is ∙ append-nil docs)

-- ---- the documents' environment

HasItsOutline : Opened → Type 0
HasItsOutline o = IsOutlineOf Java14 o.document.text o.document.outline

env_of_one : (o : Opened) (os : List Opened) (outline : Option Outline) → IsOutlineOf Java14 o.document.text outline
    → IsEnvOf at_1_4 (documents_read os) (environment_of os) → IsEnvOf at_1_4 (documents_read (o ∷ os)) (entries_at (path_read o) outline ++ environment_of os)
env_of_one o os None is rest = unreadable (document_read o) (documents_read os) (environment_of os) is rest
env_of_one o os (Some outline) is rest = readable (document_read o) outline (documents_read os) (environment_of os) is rest

env_of : (opened : List Opened) → AllByRecursion HasItsOutline opened → IsEnvOf at_1_4 (documents_read opened) (environment_of opened)
unfolding HasItsOutline
env_of [] all = no_documents
env_of (o ∷ os) all = env_of_one o os o.document.outline all.0 (env_of os all.1)

-- ---- a readable document stands in it

HasPath : Env → DocPath → Type 0
HasPath [] path = ⊥
HasPath (d ∷ ds) path = (d.path ≡ path) ⊎ HasPath ds path

has_later : (front back : Env) (path : DocPath) → HasPath back path → HasPath (front ++ back) path
unfolding HasPath
has_later [] back path has = has
has_later (d ∷ front) back path has = inr (has_later front back path has)

same_itself : (a b : DocPath) → a ≡ b → same_path a b ≡ true
same_itself a b e =
    let containers = (bytes_eq-Decides a.container b.container).1 (ap (λ (p : DocPath). p.container) e) in
    let paths = (bytes_eq-Decides a.path b.path).1 (ap (λ (p : DocPath). p.path) e) in
    rw (containers, paths) refl

-- a context, if a document has this path
Stands : Env → DocPath → CompilationUnit → ℕ → Env → Type 0
Stands whole path u first env = (C : Context) × (context_among whole path u first env ≡ Some C)

stands_by : (whole : Env) (path : DocPath) (u : CompilationUnit) (first : ℕ) (d : EnvDocument) (ds : Env) (b : Bool) → same_path d.path path ≡ b
    → (b ≡ false → Stands whole path u (first + length d.outline.types) ds) → Stands whole path u first (d ∷ ds)
unfolding Stands
stands_by whole path u first d ds true e rest =
    let C : Context = record { env = whole; outline = d.outline; first = first; types = u.types } in
    (C, ap (λ v. cond v (Some C) (context_among whole path u (first + length d.outline.types) ds)) e)
stands_by whole path u first d ds false e rest =
    let later = rest refl in
    let C : Context = record { env = whole; outline = d.outline; first = first; types = u.types } in
    (later.0, ap (λ v. cond v (Some C) (context_among whole path u (first + length d.outline.types) ds)) e ∙ later.1)

stands_among : (whole : Env) (path : DocPath) (u : CompilationUnit) (first : ℕ) (env : Env) → HasPath env path → Stands whole path u first env
unfolding HasPath
stands_among whole path u first [] has = absurd has
stands_among whole path u first (d ∷ ds) (inl e) =
    stands_by whole path u first d ds (same_path d.path path) refl (λ f. absurd (apart (same_path d.path path) (same_itself d.path path e) f))
  where
    apart : (b : Bool) → b ≡ true → b ≡ false → ⊥
    apart true e f = absurd cc
    apart false e f = absurd cc
stands_among whole path u first (d ∷ ds) (inr has) =
    stands_by whole path u first d ds (same_path d.path path) refl (λ f. stands_among whole path u (first + length d.outline.types) ds has)

stands_in : (env : Env) (path : DocPath) (u : CompilationUnit) → HasPath env path → StandsIn env path u
unfolding Stands
stands_in env path u has = let s = stands_among env path u 0 env has in record { context = s.0; is = s.1 }

one_opened : (env : Env) (o : Opened) (outline : Option Outline) → IsOutlineOf Java14 o.document.text outline → (HasPath (entries_at (path_read o) outline) (path_read o) → HasPath env (path_read o))
    → (u : CompilationUnit) → IsUnitOfText Java14 o.document.text u → StandsIn env (path_read o) u
unfolding HasPath
one_opened env o None is inside u text = absurd (is u text)
one_opened env o (Some outline) is inside u text = stands_in env (path_read o) u (inside (inl refl))

has_first : (front back : Env) (path : DocPath) → HasPath front path → HasPath (front ++ back) path
unfolding HasPath
has_first [] back path has = absurd has
has_first (d ∷ front) back path (inl e) = inl e
has_first (d ∷ front) back path (inr has) = inr (has_first front back path has)

each_opened : (env : Env) (opened : List Opened) → AllByRecursion HasItsOutline opened → AllByRecursion (λ o. o.document.level ≡ Java14) opened
    → ((path : DocPath) → HasPath (environment_of opened) path → HasPath env path) → AllByRecursion (IsOpenedIn env) opened
unfolding HasItsOutline
each_opened env [] all levels inside = tt
each_opened env (o ∷ os) all levels inside = (
  record {
    level = levels.0;
    stands = one_opened env o o.document.outline all.0 (λ has. inside (path_read o) (has_first (entries_of o) (environment_of os) (path_read o) has));
  },
  each_opened env os all.1 levels.1 (λ path has. inside path (has_later (entries_of o) (environment_of os) path has)),
)

pub is_opening : (opened : List Opened) (env : Env) → env ≡ environment_of opened → AllByRecursion (λ o. IsOutlineOf Java14 o.document.text o.document.outline) opened
    → AllByRecursion (λ o. o.document.level ≡ Java14) opened → IsOpening env opened
unfolding HasItsOutline
is_opening opened env same all levels =
    subst (λ e. IsOpening e opened) (sym same) (record {
      is_env = env_of opened all;
      each = each_opened (environment_of opened) opened all levels (λ path has. has);
    })
