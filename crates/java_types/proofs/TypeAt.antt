-- The number of a type, from the place of its document.
use Rattle.std.proofs.Common.{◌≡◌, ◌+◌, ◌<◌, ◌≤◌, ◌==◌, ℕ, zero, suc, Bool, true, false, cond, ◌&&◌, nat_lt, List, [], ◌∷◌, ◌++◌, Option, Some, None, map, length, get_or, option_map, inl, inr, refl, sym, ap, ◌∙◌, subst, arith, length-append}
use Rattle.std.proofs.lemmas.Bool.{eq-eqb, ne_eqb, lt-ltb, le-ltb}
use Rattle.std.proofs.Math.Nat.{eq-or-lt_of_le}
use Rattle.std.proofs.lemmas.Iterator.Adapters.{position_from-zero}
use Rattle.std.proofs.lemmas.List.{length-map}
use Rattle.std.specs.List.{list_any, position_from, AllByRecursion}
use Rattle.std.specs.List.Sorted.{IsStrictlySortedBy}
use Rattle.std.specs.declared.cmp.Ordering.TheVariants.{Less}
use Rattle.std.specs.Option.{option_map_or}
use Rattle.java_tree.specs.declared.outline.Outline.{Outline}
use Rattle.java_tree.specs.declared.outline.OutlineType.{OutlineType}
use Rattle.java_tree.specs.declared.types.DocPath.{DocPath}
use Rattle.java_model.specs.Names.Lists.{Identifier, Identifiers}
use Rattle.java_model.specs.Names.Environments.{Env, Declared, declared, declared_in, declared_by, with_java_lang, is_java_lang, object_name, string_name, undeclared, same_path, type_at, type_id}
use Rattle.java_types.specs.Documents.{document_of, path_cmp, HasNone, IsPlaceOf}
use Rattle.java_types.specs.Entries.{entry_of, firsts_of, IsEnvOf}
use Rattle.java_types.specs.Tables.{Keys}
use Rattle.java_types.specs.declared.documents.KeptDocument.{KeptDocument}
use Rattle.java_types.specs.declared.entry.Entry.{Entry}
use Rattle.java_types.proofs.Declaring.{length_in}
use Rattle.java_types.proofs.Paths.{paths_of, only_later, only_earlier, all_at}

abbrev is_at : DocPath → ℕ → Declared → Bool
is_at path n d = option_map_or (same_path path) d.doc false && (d.number == n)

-- the number of a type, document by document
abbrev pub found : DocPath → ℕ → ℕ → Env → Option ℕ
found path n first [] = None
found path n first (d ∷ ds) = cond (same_path path d.path && nat_lt n (length d.outline.types)) (Some (first + n)) (found path n (first + length d.outline.types) ds)

abbrev or_later : Option ℕ → Option ℕ → Option ℕ
or_later None o = o
or_later (Some i) o = Some i

or_none : (o : Option ℕ) → or_later o None ≡ o
or_none None = refl
or_none (Some i) = refl

from_append : (t : Declared → Bool) (i : ℕ) (xs ys : List Declared) → position_from t i (xs ++ ys) ≡ or_later (position_from t i xs) (position_from t (i + length xs) ys)
from_append t i [] ys = let same : i ≡ i + 0 = omega arith in ap (λ k. position_from t k ys) same
from_append t i (x ∷ xs) ys = by (t x) (from_append t (i + 1) xs ys)
  where
    by : (b : Bool) → position_from t (i + 1) (xs ++ ys) ≡ or_later (position_from t (i + 1) xs) (position_from t ((i + 1) + length xs) ys)
        → cond b (Some i) (position_from t (i + 1) (xs ++ ys)) ≡ or_later (cond b (Some i) (position_from t (i + 1) xs)) (position_from t (i + suc (length xs)) ys)
    by true rest = refl
    by false rest =
        let same : (i + 1) + length xs ≡ i + suc (length xs) = omega arith in
        rest ∙ ap (λ k. or_later (position_from t (i + 1) xs) (position_from t k ys)) same

-- ---- the types of one document

in_other : (path : DocPath) (n : ℕ) (q : DocPath) (o : Outline) (i first k : ℕ) (ts : List OutlineType) → same_path path q ≡ false → position_from (is_at path n) i (declared_in (Some q) o first k ts) ≡ None
in_other path n q o i first k [] other = refl
in_other path n q o i first k (t ∷ ts) other =
    ap (λ b. cond (b && (k == n)) (Some i) (position_from (is_at path n) (i + 1) (declared_in (Some q) o first (k + 1) ts))) other ∙ in_other path n q o (i + 1) first (k + 1) ts other

in_same : (path : DocPath) (n : ℕ) (q : DocPath) (o : Outline) (i first k : ℕ) (ts : List OutlineType) → same_path path q ≡ true → i ≡ first + k → k ≤ n
    → position_from (is_at path n) i (declared_in (Some q) o first k ts) ≡ cond (nat_lt n (k + length ts)) (Some (first + n)) None
in_same path n q o i first k [] same at le =
    let past : k + 0 ≤ n = omega arith in sym (ap (λ b. cond b (Some (first + n)) None) (le-ltb n (k + 0) past))
in_same path n q o i first k (t ∷ ts) same at le =
    let rest = position_from (is_at path n) (i + 1) (declared_in (Some q) o first (k + 1) ts) in
    ap (λ b. cond (b && (k == n)) (Some i) rest) same
    ∙ elim (eq-or-lt_of_le le) as (λ _. cond (k == n) (Some i) rest ≡ cond (nat_lt n (k + suc (length ts))) (Some (first + n)) None) [
      | inl e ↦
          let here : i ≡ first + n = omega arith in let within : n < k + suc (length ts) = omega arith in
          ap (λ b. cond b (Some i) rest) (eq-eqb k n e) ∙ ap Some here ∙ sym (ap (λ b. cond b (Some (first + n)) None) (lt-ltb n (k + suc (length ts)) within))
      | inr h ↦
          let next : i + 1 ≡ first + (k + 1) = omega arith in let more : k + 1 ≤ n = omega arith in let long : (k + 1) + length ts ≡ k + suc (length ts) = omega arith in
          ap (λ b. cond b (Some i) rest) (ne_eqb k n (λ e. absurd (omega arith))) ∙ in_same path n q o (i + 1) first (k + 1) ts same next more
          ∙ ap (λ m. cond (nat_lt n m) (Some (first + n)) None) long
    ]

-- ---- all documents

pub by_found : (path : DocPath) (n first : ℕ) (env : Env) → position_from (is_at path n) first (declared_by first env) ≡ found path n first env
by_found path n first [] = refl
by_found path n first (d ∷ ds) =
    let types = d.outline.types in
    let long : first + length (declared_in (Some d.path) d.outline first 0 d.outline.types) ≡ first + length d.outline.types = ap (λ m. first + m) (length_in (Some d.path) d.outline first 0 d.outline.types) in
    from_append (is_at path n) first (declared_in (Some d.path) d.outline first 0 types) (declared_by (first + length types) ds)
    ∙ ap (λ k. or_later (position_from (is_at path n) first (declared_in (Some d.path) d.outline first 0 types)) (position_from (is_at path n) k (declared_by (first + length types) ds))) long
    ∙ ap (or_later (position_from (is_at path n) first (declared_in (Some d.path) d.outline first 0 types))) (by_found path n (first + length types) ds)
    ∙ by (same_path path d.path) refl
  where
    rest : Option ℕ
    rest = found path n (first + length d.outline.types) ds

    chosen : (c : Bool) → or_later (cond c (Some (first + n)) None) rest ≡ cond c (Some (first + n)) rest
    chosen true = refl
    chosen false = refl

    by : (b : Bool) → same_path path d.path ≡ b
        → or_later (position_from (is_at path n) first (declared_in (Some d.path) d.outline first 0 d.outline.types)) rest ≡ cond (b && nat_lt n (length d.outline.types)) (Some (first + n)) rest
    by true e =
        let begun : first ≡ first + 0 = omega arith in let low : 0 ≤ n = omega arith in let all : 0 + length d.outline.types ≡ length d.outline.types = omega arith in
        ap (λ o. or_later o rest) (in_same path n d.path d.outline first first 0 d.outline.types e begun low)
        ∙ ap (λ m. or_later (cond (nat_lt n m) (Some (first + n)) None) rest) all ∙ chosen (nat_lt n (length d.outline.types))
    by false e = ap (λ o. or_later o rest) (in_other path n d.path d.outline first first 0 d.outline.types e)

with_undeclared : (path : DocPath) (n : ℕ) (name : Identifier) (ds : List Declared) (b : Bool)
    → position_from (is_at path n) 0 (cond b ds (ds ++ undeclared (length ds) name ∷ [])) ≡ position_from (is_at path n) 0 ds
with_undeclared path n name ds true = refl
with_undeclared path n name ds false = from_append (is_at path n) 0 ds (undeclared (length ds) name ∷ []) ∙ or_none (position_from (is_at path n) 0 ds)

pub type_at_is : (env : Env) (path : DocPath) (n : ℕ) → type_at env path n ≡ option_map type_id (found path n 0 env)
type_at_is env path n =
    let own = declared_by 0 env in let first = with_java_lang object_name own in
    ap (option_map type_id) (position_from-zero (is_at path n) (declared env)
    ∙ with_undeclared path n string_name first (list_any (is_java_lang string_name) first)
    ∙ with_undeclared path n object_name own (list_any (is_java_lang object_name) own) ∙ by_found path n 0 env)

-- ---- from the place of a document

none_found : (path : DocPath) (n first : ℕ) (ds : List KeptDocument) → HasNone ds path → found path n first (map document_of ds) ≡ None
none_found path n first [] none = refl
none_found path n first (d ∷ ds) none =
    ap (λ b. cond (b && nat_lt n (length d.outline.types)) (Some (first + n)) (found path n (first + length d.outline.types) (map document_of ds))) none.0
    ∙ none_found path n (first + length d.outline.types) ds none.1

later_none : (path q : DocPath) (ds : List KeptDocument) → AllByRecursion (λ p. path_cmp q p ≡ Less) (map (λ d. d.path) ds) → same_path path q ≡ true → HasNone ds path
later_none path q [] all same = tt
later_none path q (d ∷ ds) all same = (only_earlier path q d.path all.0 same, later_none path q ds all.1 same)

found_at : (path : DocPath) (n first : ℕ) (ds : List KeptDocument) (k : ℕ) (x : KeptDocument) → IsStrictlySortedBy path_cmp (map (λ d. d.path) ds) → k < length ds
    → same_path path (get_or ds k x).path ≡ true
    → found path n first (map document_of ds) ≡ cond (nat_lt n (length (get_or ds k x).outline.types)) (Some (get_or (firsts_of first (map document_of ds)) k 0 + n)) None
unfolding IsStrictlySortedBy
found_at path n first [] k x sorted h same = absurd (omega arith)
found_at path n first (d ∷ ds) zero x sorted h same =
    let rest = found path n (first + length d.outline.types) (map document_of ds) in
    ap (λ b. cond (b && nat_lt n (length d.outline.types)) (Some (first + n)) rest) same
    ∙ ap (λ o. cond (nat_lt n (length d.outline.types)) (Some (first + n)) o) (none_found path n (first + length d.outline.types) ds (later_none path d.path ds sorted.0 same))
found_at path n first (d ∷ ds) (suc k) x sorted h same =
    let rest = found path n (first + length d.outline.types) (map document_of ds) in
    let below = all_at (λ p. path_cmp d.path p ≡ Less) (λ (e : KeptDocument). e.path) ds k x sorted.0 (omega arith) in
    ap (λ b. cond (b && nat_lt n (length d.outline.types)) (Some (first + n)) rest) (only_later path d.path (get_or ds k x).path below same)
    ∙ found_at path n (first + length d.outline.types) ds k x sorted.1 (omega arith) same

-- ---- the bounds of numbers

pub firsts_length : (first : ℕ) (ds : List KeptDocument) → length (firsts_of first (map document_of ds)) ≡ length ds
firsts_length first [] = refl
firsts_length first (d ∷ ds) = ap suc (firsts_length (first + length d.outline.types) ds)

below_own : (first : ℕ) (ds : List KeptDocument) (k : ℕ) (x : KeptDocument) (n : ℕ) → k < length ds → n < length (get_or ds k x).outline.types
    → get_or (firsts_of first (map document_of ds)) k 0 + n < first + length (declared_by first (map document_of ds))
below_own first [] k x n h lt = absurd (omega arith)
below_own first (d ∷ ds) zero x n h lt =
    let a = length-append (declared_in (Some d.path) d.outline first 0 d.outline.types) (declared_by (first + length d.outline.types) (map document_of ds)) in
    let b = length_in (Some d.path) d.outline first 0 d.outline.types in omega (arith, a, b)
below_own first (d ∷ ds) (suc k) x n h lt =
    let a = length-append (declared_in (Some d.path) d.outline first 0 d.outline.types) (declared_by (first + length d.outline.types) (map document_of ds)) in
    let b = length_in (Some d.path) d.outline first 0 d.outline.types in
    let c = below_own (first + length d.outline.types) ds k x n (omega arith) lt in omega (arith, a, b, c)

longer : (name : Identifier) (ds : List Declared) (b : Bool) → length ds ≤ length (cond b ds (ds ++ undeclared (length ds) name ∷ []))
longer name ds true = omega arith
longer name ds false = let a = length-append ds (undeclared (length ds) name ∷ []) in omega (arith, a)

pub own_below : (env : Env) → length (declared_by 0 env) ≤ length (declared env)
own_below env =
    let own = declared_by 0 env in let first = with_java_lang object_name own in
    let a = longer object_name own (list_any (is_java_lang object_name) own) in
    let b = longer string_name first (list_any (is_java_lang string_name) first) in omega (arith, a, b)

-- ---- the answers

module _ (env : Env) (ds seen : List KeptDocument) (fs : List ℕ) (es : List Entry) (ns ms : Keys) (ps : List Identifiers) (path : DocPath) (n : ℕ) (are : map document_of ds ≡ env) (same : seen ≡ ds) where
  pub nowhere : HasNone seen path → None ≡ type_at env path n
  nowhere none = sym (ap (λ e. type_at e path n) (sym are) ∙ type_at_is (map document_of ds) path n ∙ ap (option_map type_id) (none_found path n 0 ds (subst (λ xs. HasNone xs path) same none)))

  module _ {l : ℕ} (kept : IsEnvOf (map document_of ds) fs es ns ms ps l) (k : ℕ) (x : KeptDocument) (place : IsPlaceOf seen path k) (at : x ≡ get_or seen k x) where
    within : k < length ds
    within = subst (λ xs. k < length xs) same place.within

    here : x ≡ get_or ds k x
    here = at ∙ ap (λ xs. get_or xs k x) same

    sought : type_at env path n ≡ option_map type_id (cond (nat_lt n (length (get_or ds k x).outline.types)) (Some (get_or (firsts_of 0 (map document_of ds)) k 0 + n)) None)
    sought =
        ap (λ e. type_at e path n) (sym are) ∙ type_at_is (map document_of ds) path n
        ∙ ap (option_map type_id) (found_at path n 0 ds k x (subst (IsStrictlySortedBy path_cmp) (paths_of ds) kept.order) within (subst (λ xs. same_path path (get_or xs k x).path ≡ true) same (place.same x)))

    pub has_first : k < length fs
    has_first = let l = firsts_length 0 ds in let m = ap length kept.firsts_are in let w = within in omega (arith, l, m, w)

    pub sought_none : length x.outline.types ≤ n → None ≡ type_at env path n
    sought_none past =
        let long : length (get_or ds k x).outline.types ≤ n = subst (λ (d : KeptDocument). length d.outline.types ≤ n) here past in
        sym (sought ∙ ap (λ b. option_map type_id (cond b (Some (get_or (firsts_of 0 (map document_of ds)) k 0 + n)) None)) (le-ltb n (length (get_or ds k x).outline.types) long))

    pub sought_some : n < length x.outline.types → Some (type_id (get_or fs k 0 + n)) ≡ type_at env path n
    sought_some short =
        let long : n < length (get_or ds k x).outline.types = subst (λ (d : KeptDocument). n < length d.outline.types) here short in
        ap (λ gs. Some (type_id (get_or gs k 0 + n))) kept.firsts_are
        ∙ sym (sought ∙ ap (λ b. option_map type_id (cond b (Some (get_or (firsts_of 0 (map document_of ds)) k 0 + n)) None)) (lt-ltb n (length (get_or ds k x).outline.types) long))

    pub below_all : n < length x.outline.types → get_or fs k 0 + n < length es
    below_all short =
        let long : n < length (get_or ds k x).outline.types = subst (λ (d : KeptDocument). n < length d.outline.types) here short in
        let own = below_own 0 ds k x n within long in
        let first : get_or fs k 0 ≡ get_or (firsts_of 0 (map document_of ds)) k 0 = ap (λ gs. get_or gs k 0) kept.firsts_are in
        let all = own_below (map document_of ds) in
        let count : length es ≡ length (declared (map document_of ds)) = ap length kept.entries_are ∙ length-map (declared (map document_of ds)) entry_of in
        omega (arith, own, first, all, count)
