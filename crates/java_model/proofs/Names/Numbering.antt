-- Each type of an environment stands at its number, and its own name ends its qualified name.
use Rattle.std.proofs.Common.{◌≡◌, ◌+◌, ℕ, zero, suc, Bool, true, false, cond, not, ◌&&◌, List, [], ◌∷◌, ◌++◌, length, map, reverse, slice_get, get_or, bytes_eq, position, Option, Some, None, option_map, unwrap_or, refl, sym, ap, ◌∙◌, subst, arith, true≢false}
use Rattle.std.specs.Option.{option_map_or, option_and_then}
use Rattle.std.specs.List.{last_or, list_any}
use lib.Pointwise.{pointwise}
use Rattle.std.proofs.lemmas.Bool.{and_parts}
use Rattle.std.proofs.lemmas.List.{reverse-append}
use Rattle.std.proofs.lemmas.List.Quantifiers.{position-Some}
use Rattle.std.proofs.lemmas.Option.{same_Some, slice_get-get_or}
use Rattle.java_tree.specs.declared.occurrence.TypeId.{TypeId}
use Rattle.java_tree.specs.declared.outline.Outline.{Outline}
use Rattle.java_tree.specs.declared.outline.OutlineType.{OutlineType}
use Rattle.java_tree.specs.declared.types.DocPath.{DocPath}
use Rattle.java_model.specs.Names.Lists.{Identifier, Identifiers, same_name}
use Rattle.java_model.specs.Names.Environments.{EnvDocument, Env, Declared, declared_in, declared_by, outward, type_in, names_of, package_of, is_unqualified, is_named, is_java_lang, undeclared, with_java_lang, declared, declared_at, type_id, id_of, type_named, name_at, first_declaration, object_name, string_name}
use Rattle.java_model.proofs.Names.OverloadLaws.{same_bytes}

-- each element stands at its number, from a number on, and is the type of that number in its outline
abbrev IsAt : ℕ → Declared → Type 0
IsAt n d = (d.first + d.number ≡ n) × (type_in d d.number ≡ Some d.type)

abbrev AreNumbered : ℕ → List Declared → Type 0
AreNumbered base ds = (i : ℕ) (d : Declared) → slice_get ds i ≡ Some d → IsAt (base + i) d

numbered_cons : (base : ℕ) (d : Declared) (ds : List Declared) → IsAt base d → AreNumbered (base + 1) ds → AreNumbered base (d ∷ ds)
numbered_cons base d ds h t zero e f = let s = same_Some d e f in
    subst (IsAt (base + 0)) s (let n = h.0 in omega (arith, n), h.1)
numbered_cons base d ds h t (suc i) e f = let r = t i e f in (let n = r.0 in omega (arith, n), r.1)

numbered_append : (base : ℕ) (xs ys : List Declared) → AreNumbered base xs → AreNumbered (base + length xs) ys → AreNumbered base (xs ++ ys)
numbered_append base [] ys h t i d e = let r = t i d e in (let n = r.0 in omega (arith, n), r.1)
numbered_append base (x ∷ xs) ys h t zero d e = h zero d e
numbered_append base (x ∷ xs) ys h t (suc i) d e =
    let more : AreNumbered (base + 1) (xs ++ ys) = numbered_append (base + 1) xs ys
    (λ j y f. let r = h (suc j) y f in (let n = r.0 in omega (arith, n), r.1))
    (λ j y f. let r = t j y f in (let n = r.0 in omega (arith, n), r.1)) in
    let r = more i d e in (let n = r.0 in omega (arith, n), r.1)

-- the types of an outline from a number on
length_in : (doc : Option DocPath) (o : Outline) (first number : ℕ) (ts : List OutlineType) → length (declared_in doc o first number ts) ≡ length ts
length_in doc o first number [] = refl
length_in doc o first number (t ∷ ts) = ap suc (length_in doc o first (number + 1) ts)

numbered_in : (doc : Option DocPath) (o : Outline) (first number : ℕ) (ts : List OutlineType)
    → ((i : ℕ) (t : OutlineType) → slice_get ts i ≡ Some t → slice_get o.types (number + i) ≡ Some t)
    → AreNumbered (first + number) (declared_in doc o first number ts)
numbered_in doc o first number [] all = λ i d e. absurd cc
numbered_in doc o first number (t ∷ ts) all = numbered_cons (first + number) _ (declared_in doc o first (number + 1) ts)
    (refl, ap (slice_get o.types) (let z : number ≡ number + 0 = omega arith in z) ∙ all 0 t refl)
    (λ i d e.
    let r = numbered_in doc o first (number + 1) ts
    (λ j u f. ap (slice_get o.types) (let z : (number + 1) + j ≡ number + suc j = omega arith in z) ∙ all (suc j) u f) i d e in
    (let n = r.0 in omega (arith, n), r.1))

numbered_by : (first : ℕ) (ds : List EnvDocument) → AreNumbered first (declared_by first ds)
numbered_by first [] = λ i d e. absurd cc
numbered_by first (e ∷ es) = numbered_append first (declared_in (Some e.path) e.outline first 0 e.outline.types) (declared_by (first + length e.outline.types) es)
    (λ i d f. let r = numbered_in (Some e.path) e.outline first 0 e.outline.types
    (λ j t g. ap (slice_get e.outline.types) (let z : 0 + j ≡ j = omega arith in z) ∙ g) i d f in
    (let n = r.0 in omega (arith, n), r.1))
    (λ i d f. let r = numbered_by (first + length e.outline.types) es i d f in
    (let n = r.0 in let l = length_in (Some e.path) e.outline first 0 e.outline.types in omega (arith, n, l), r.1))

numbered_undeclared : (id : ℕ) (name : Identifier) → AreNumbered id (undeclared id name ∷ [])
numbered_undeclared id name zero d e = let s = same_Some (undeclared id name) d e in
    subst (IsAt (id + 0)) s (refl, refl)
numbered_undeclared id name (suc i) d e = absurd cc

numbered_with : (name : Identifier) (ds : List Declared) → AreNumbered 0 ds → (b : Bool) → AreNumbered 0 (cond b ds (ds ++ undeclared (length ds) name ∷ []))
numbered_with name ds h true = h
numbered_with name ds h false = numbered_append 0 ds (undeclared (length ds) name ∷ []) h
    (λ i d e. let r = numbered_undeclared (length ds) name i d e in (let n = r.0 in omega (arith, n), r.1))

pub numbered : (env : Env) → AreNumbered 0 (declared env)
numbered env =
    let own = declared_by 0 env in
    let with_object = with_java_lang object_name own in
    numbered_with string_name with_object
    (numbered_with object_name own (numbered_by 0 env) (list_any (is_java_lang object_name) own))
    (list_any (is_java_lang string_name) with_object)

-- a type stands at its id
pub at_its_id : (env : Env) (i : ℕ) (d : Declared) → slice_get (declared env) i ≡ Some d → declared_at env (id_of d) ≡ Some d
at_its_id env i d e = let r = numbered env i d e in
    ap (slice_get (declared env)) (let n = r.0 in let z : d.first + d.number ≡ i = omega (arith, n) in z) ∙ e

-- the last of a name
last_of_append : {X : Type 0} (xs : List X) (x : X) (o : Option X) → last_or o (xs ++ x ∷ []) ≡ Some x
last_of_append [] x o = refl
last_of_append (y ∷ xs) x o = last_of_append xs x (Some y)

own_name_by : (types : List OutlineType) (n : ℕ) (t : OutlineType) → slice_get types n ≡ Some t
    → last_or None (reverse (map (λ k. option_map_or (λ u. u.name) (slice_get types k) []) (outward (λ k. option_and_then (λ u. u.parent) (slice_get types k)) (length types) (Some n)))) ≡ Some t.name
own_name_by [] n t e = absurd cc
own_name_by (u ∷ us) n t e =
    let name = λ (k : ℕ). option_map_or (λ (v : OutlineType). v.name) (slice_get (u ∷ us) k) [] in
    let rest = map name (outward (λ k. option_and_then (λ v. v.parent) (slice_get (u ∷ us) k)) (length us) (option_and_then (λ v. v.parent) (slice_get (u ∷ us) n))) in
    ap (last_or None) (reverse-append (name n ∷ []) rest) ∙ last_of_append (reverse rest) (name n) None
    ∙ ap (λ o. Some (option_map_or (λ (v : OutlineType). v.name) o [])) e

pub own_name : (d : Declared) → type_in d d.number ≡ Some d.type → last_or None (names_of d) ≡ Some d.type.name
own_name d e = own_name_by d.outline.types d.number d.type e

-- names that are the same
pub same_names : (xs ys : Identifiers) → same_name xs ys ≡ true → xs ≡ ys
same_names [] [] e = refl
same_names [] (y ∷ ys) e = absurd (true≢false (sym e))
same_names (x ∷ xs) [] e = absurd (true≢false (sym e))
same_names (x ∷ xs) (y ∷ ys) e =
    let p = and_parts (bytes_eq x y) (pointwise bytes_eq xs ys) e in
    let first = same_bytes x y p.0 in let rest = same_names xs ys p.1 in
    λ i. first i ∷ rest i

-- the first that passes
found_at : (p : Declared → Bool) (xs : List Declared) (i : ℕ) → position p xs ≡ Some i → (d : Declared) × (slice_get xs i ≡ Some d) × (p d ≡ true)
found_at p [] i e = absurd cc
found_at p (x ∷ xs) i e = let r = position-Some p (x ∷ xs) i x e in (get_or (x ∷ xs) i x, slice_get-get_or (x ∷ xs) i x r.0, r.1)

-- a type that is named so has the last of these names
named_parts : (a b c : Bool) → (a && b && c) ≡ true → c ≡ true
named_parts false b c h = absurd (true≢false (sym h))
named_parts true false c h = absurd (true≢false (sym h))
named_parts true true c h = h

named_by : (env : Env) (q : List ℕ) (names : Identifiers) (o : Option ℕ) → position (is_named q names) (declared env) ≡ o
    → (t : TypeId) → option_map type_id o ≡ Some t → name_at env t ≡ last_or None names
named_by env q names None e t h = absurd cc
named_by env q names (Some i) e t h =
    let r = found_at (is_named q names) (declared env) i e in
    let same : names ≡ names_of r.0 = same_names names (names_of r.0)
    (named_parts (not (is_unqualified r.0)) (bytes_eq q (package_of r.0)) (same_name names (names_of r.0)) r.2) in
    let own = own_name r.0 (numbered env i r.0 r.1).1 in
    let at : declared_at env t ≡ Some r.0 = ap (λ u. declared_at env u) (sym (same_Some (type_id i) t h)) ∙ r.1 in
    ap (option_map (λ d. d.type.name)) at ∙ sym (ap (last_or None) same ∙ own)

pub type_named_name : (env : Env) (q : List ℕ) (names : Identifiers) (t : TypeId) → type_named env q names ≡ Some t → name_at env t ≡ last_or None names
type_named_name env q names t e = named_by env q names (position (is_named q names) (declared env)) refl t e

-- the first declaration of a type has its name
first_by : (env : Env) (i : ℕ) (d : Declared) → slice_get (declared env) i ≡ Some d → (o : Option TypeId) → type_named env (package_of d) (names_of d) ≡ o
    → name_at env (unwrap_or o (id_of d)) ≡ Some d.type.name
first_by env i d e None h = ap (option_map (λ x. x.type.name)) (at_its_id env i d e)
first_by env i d e (Some t) h = type_named_name env (package_of d) (names_of d) t h ∙ own_name d (numbered env i d e).1

first_or_own : (env : Env) (i : ℕ) (d : Declared) → slice_get (declared env) i ≡ Some d → (b : Bool)
    → name_at env (cond b (id_of d) (unwrap_or (type_named env (package_of d) (names_of d)) (id_of d))) ≡ Some d.type.name
first_or_own env i d e true = ap (option_map (λ x. x.type.name)) (at_its_id env i d e)
first_or_own env i d e false = first_by env i d e (type_named env (package_of d) (names_of d)) refl

pub first_declaration_name : (env : Env) (i : ℕ) (d : Declared) → slice_get (declared env) i ≡ Some d → name_at env (first_declaration env d) ≡ Some d.type.name
first_declaration_name env i d e = first_or_own env i d e (is_unqualified d)
