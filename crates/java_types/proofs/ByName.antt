-- Types by their names, and member types.
use Rattle.std.proofs.Common.{◌≡◌, ◌+◌, ◌<◌, ℕ, Bool, true, false, cond, not, ◌&&◌, nat_lt, List, [], ◌∷◌, Option, Some, None, map, length, get_or, position, bytes_eq, option_map, unwrap_or, is_some, refl, sym, ap, ◌∙◌, arith}
use Rattle.std.specs.Prelude.{slice_get, option_to_list}
use Rattle.std.specs.List.{find, position_from, position_or_len}
use Rattle.std.specs.Option.{option_and_then, option_map_or}
use Rattle.std.proofs.lemmas.Bool.{and_parts, eq-eqb, eqb-true, ltb-false, not-true, true≢false}
use Rattle.std.proofs.lemmas.Iterator.Adapters.{position_from-zero}
use Rattle.std.proofs.lemmas.List.Folds.{find_at}
use Rattle.std.proofs.lemmas.Option.{same_Some, slice_get-map, slice_get_past, slice_get_read, slice_get_within}
use Rattle.std.proofs.lemmas.List.{length-map}
use Rattle.std.proofs.lemmas.Slice.Eq.{bytes_eq-Decides}
use Rattle.java_tree.specs.declared.occurrence.TypeId.{TypeId}
use Rattle.java_model.specs.Names.Lists.{Identifier, Identifiers, same_name}
use Rattle.java_model.specs.Names.Environments.{Env, Declared, declared, declared_at, first_declaration, id_of, names_of, package_of, same_id, type_id, type_named}
use Rattle.java_model.specs.Names.Supertypes.{declared_types, is_member_type}
use Rattle.java_model.proofs.DeclaredLaws.{found-at}
use Rattle.java_types.specs.Entries.{entry_of, entry_is_named, is_declared}
use Rattle.java_types.specs.Keys.{entry_is_local, entry_is_member, entry_member_key, entry_name_key, member_key, name_key}
use Rattle.java_types.specs.Tables.{Keys, has_key, is_keyed, first_from, HaveKey}
use Rattle.java_types.specs.declared.entry.Entry.{Entry}
use Rattle.java_types.proofs.Numbers.{own_id}
use Rattle.java_types.proofs.Seeking.{sought_all, sought_none}

-- ---- the keys of what is sought

same_bytes : (a b : Identifier) → bytes_eq a b ≡ true → a ≡ b
same_bytes a b h = (bytes_eq-Decides a b).0 h

pub same_names : (xs ys : Identifiers) → same_name xs ys ≡ true → xs ≡ ys
same_names [] [] h = refl
same_names [] (y ∷ ys) h = absurd (true≢false (sym h))
same_names (x ∷ xs) [] h = absurd (true≢false (sym h))
same_names (x ∷ xs) (y ∷ ys) h =
    let p = and_parts (bytes_eq x y) (same_name xs ys) h in ap (λ z. z ∷ xs) (same_bytes x y p.0) ∙ ap (λ zs. y ∷ zs) (same_names xs ys p.1)

pub keyed_map : {X : Type 0} (key : X → Option ℕ) (test : X → Bool) (xs : List X) (keys : Keys) (k : ℕ) → keys ≡ map key xs
    → ((x : X) → test x ≡ true → key x ≡ Some k) → HaveKey test xs keys k
keyed_map key test xs keys k are fits n x at t =
    ap (λ ks. is_keyed ks k n) are ∙ ap (λ o. option_map_or (has_key k) o false) (slice_get-map key xs n ∙ ap (option_map key) at ∙ ap Some (fits x t)) ∙ eq-eqb k k refl

name_fits : (q : List ℕ) (names : Identifiers) (e : Entry) → entry_is_named q names e ≡ true → entry_name_key e ≡ Some (name_key q names)
name_fits q names e t =
    let p = and_parts (not e.unqualified && bytes_eq q e.info.«package») (same_name names e.info.names) t in
    let r = and_parts (not e.unqualified) (bytes_eq q e.info.«package») p.0 in
    ap (λ b. cond b None (Some (name_key e.info.«package» e.info.names))) (not-true e.unqualified r.0)
    ∙ ap (λ x. Some (name_key x e.info.names)) (sym (same_bytes q e.info.«package» r.1)) ∙ ap (λ xs. Some (name_key q xs)) (sym (same_names names e.info.names p.1))

parent_fits : (t : TypeId) (name own : Identifier) (parent : Option TypeId) → bytes_eq name own ≡ true → option_map_or (same_id t) parent false ≡ true
    → option_map (λ p. member_key p own) parent ≡ Some (member_key t name)
parent_fits t name own None same h = absurd (true≢false (sym h))
parent_fits t name own (Some p) same h =
    ap (λ x. Some (member_key p x)) (sym (same_bytes name own same)) ∙ ap (λ n. Some (member_key (type_id n) name)) (sym (eqb-true t.0 p.0 h))

member_fits : (t : TypeId) (name : Identifier) (e : Entry) → entry_is_member t name e ≡ true → entry_member_key e ≡ Some (member_key t name)
member_fits t name e h =
    let p = and_parts (not (entry_is_local e) && bytes_eq name e.name) (option_map_or (same_id t) e.info.parent false) h in
    let r = and_parts (not (entry_is_local e)) (bytes_eq name e.name) p.0 in
    ap (λ b. cond b None (option_map (λ x. member_key x e.name) e.info.parent)) (not-true (entry_is_local e) r.0) ∙ parent_fits t name e.name e.info.parent r.1 p.1

pub names_keyed : (q : List ℕ) (names : Identifiers) (es seen : List Entry) (keys : Keys) (k : ℕ) → seen ≡ es → keys ≡ map entry_name_key es → k ≡ name_key q names
    → HaveKey (entry_is_named q names) seen keys k
names_keyed q names es seen keys k same are is =
    keyed_map entry_name_key (entry_is_named q names) seen keys k (are ∙ ap (map entry_name_key) (sym same)) (λ e t. name_fits q names e t ∙ ap Some (sym is))

pub members_keyed : (t : TypeId) (name : Identifier) (es seen : List Entry) (keys : Keys) (k : ℕ) → seen ≡ es → keys ≡ map entry_member_key es → k ≡ member_key t name
    → HaveKey (entry_is_member t name) seen keys k
members_keyed t name es seen keys k same are is =
    keyed_map entry_member_key (entry_is_member t name) seen keys k (are ∙ ap (map entry_member_key) (sym same)) (λ e h. member_fits t name e h ∙ ap Some (sym is))

-- ---- the first of all types

from_map : {X Y : Type 0} (f : X → Y) (test : Y → Bool) (i : ℕ) (xs : List X) → position_from test i (map f xs) ≡ position_from (λ x. test (f x)) i xs
from_map f test i [] = refl
from_map f test i (x ∷ xs) = ap (cond (test (f x)) (Some i)) (from_map f test (i + 1) xs)

position_map : {X Y : Type 0} (f : X → Y) (test : Y → Bool) (xs : List X) → position test (map f xs) ≡ position (λ x. test (f x)) xs
position_map f test xs = position_from-zero test (map f xs) ∙ from_map f test 0 xs ∙ sym (position_from-zero (λ x. test (f x)) xs)

pub named_found : (env : Env) (q : List ℕ) (names : Identifiers) (es seen : List Entry) (found : Option ℕ) → seen ≡ es → es ≡ map entry_of (declared env)
    → found ≡ position (entry_is_named q names) seen → option_map type_id found ≡ type_named env q names
named_found env q names es seen found same are is =
    ap (option_map type_id) (is ∙ ap (position (entry_is_named q names)) (same ∙ are) ∙ position_map entry_of (entry_is_named q names) (declared env))

pub member_found : (env : Env) (t : TypeId) (name : Identifier) (es seen : List Entry) (found : Option ℕ) → seen ≡ es → es ≡ map entry_of (declared env)
    → found ≡ position (entry_is_member t name) seen → found ≡ position (is_member_type t name) (declared env)
member_found env t name es seen found same are is =
    is ∙ ap (position (entry_is_member t name)) (same ∙ are) ∙ position_map entry_of (entry_is_member t name) (declared env)

-- ---- the declaration that counts

entry_at : (env : Env) (id : TypeId) (d : Declared) (es seen : List Entry) (e : Entry) → declared_at env id ≡ Some d → seen ≡ es → es ≡ map entry_of (declared env)
    → e ≡ get_or seen id.0 e → e ≡ entry_of d
entry_at env id d es seen e at same are is =
    let within : id.0 < length seen = let w = slice_get_within (declared env) id.0 d at in let l = length-map (declared env) entry_of in let m = ap length (same ∙ are) in omega (arith, w, l, m) in
    same_Some e (entry_of d)
    (sym (slice_get_read seen (length seen) id.0 e refl within is) ∙ ap (λ xs. slice_get xs id.0) (same ∙ are) ∙ slice_get-map entry_of (declared env) id.0 ∙ ap (option_map entry_of) at)

pub first_is_own : (env : Env) (id : TypeId) (d : Declared) (es seen : List Entry) (e : Entry) → declared_at env id ≡ Some d → seen ≡ es → es ≡ map entry_of (declared env)
    → e ≡ get_or seen id.0 e → e.unqualified ≡ true → id ≡ first_declaration env d
first_is_own env id d es seen e at same are is unqualified =
    let entry = entry_at env id d es seen e at same are is in
    sym (own_id env id d at)
    ∙ sym (ap (λ b. cond b (id_of d) (unwrap_or (type_named env (package_of d) (names_of d)) (id_of d))) (sym (ap (λ (x : Entry). x.unqualified) entry) ∙ unqualified))

pub first_is_named : (env : Env) (id : TypeId) (d : Declared) (es seen : List Entry) (e : Entry) (o : Option TypeId) → declared_at env id ≡ Some d → seen ≡ es
    → es ≡ map entry_of (declared env) → e ≡ get_or seen id.0 e → e.unqualified ≡ false → o ≡ type_named env e.info.«package» e.info.names
    → unwrap_or o id ≡ first_declaration env d
first_is_named env id d es seen e o at same are is qualified named =
    let entry = entry_at env id d es seen e at same are is in
    ap (λ x. unwrap_or x id) (named ∙ ap (λ (x : Entry). type_named env x.info.«package» x.info.names) entry)
    ∙ ap (unwrap_or (type_named env (package_of d) (names_of d))) (sym (own_id env id d at))
    ∙ sym (ap (λ b. cond b (id_of d) (unwrap_or (type_named env (package_of d) (names_of d)) (id_of d))) (sym (ap (λ (x : Entry). x.unqualified) entry) ∙ qualified))

-- ---- member types

find_position : {X : Type 0} (p : X → Bool) (xs : List X) → find p xs ≡ option_and_then (slice_get xs) (position p xs)
find_position {X} p xs = find_at p xs ∙ by (nat_lt (position_or_len p xs) (length xs)) refl
  where
    by : (b : Bool) → nat_lt (position_or_len p xs) (length xs) ≡ b → slice_get xs (position_or_len p xs) ≡ option_and_then (slice_get xs) (cond b (Some (position_or_len p xs)) None)
    by true h = refl
    by false h = slice_get_past xs (position_or_len p xs) (ltb-false (position_or_len p xs) (length xs) h)

member_types_are : (env : Env) (t : TypeId) (name : Identifier) (found : Option ℕ) → found ≡ position (is_member_type t name) (declared env)
    → declared_types env t name ≡ option_to_list (option_map (first_declaration env) (option_and_then (slice_get (declared env)) found))
member_types_are env t name found is =
    ap (λ o. option_to_list (option_map (first_declaration env) o)) (find_position (is_member_type t name) (declared env) ∙ ap (option_and_then (slice_get (declared env))) (sym is))

pub member_none : (env : Env) (t : TypeId) (name : Identifier) (found : Option ℕ) → found ≡ position (is_member_type t name) (declared env) → found ≡ None
    → [] ≡ declared_types env t name
member_none env t name found is none = sym (member_types_are env t name found is ∙ ap (λ o. option_to_list (option_map (first_declaration env) (option_and_then (slice_get (declared env)) o))) none)

pub member_declared : (env : Env) (t : TypeId) (name : Identifier) (found : Option ℕ) (n : ℕ) → found ≡ position (is_member_type t name) (declared env) → found ≡ Some n
    → is_declared env (type_id n) ≡ true
member_declared env t name found n is some = ap is_some (found-at (is_member_type t name) (declared env) n (sym is ∙ some)).1

pub member_some : (env : Env) (t : TypeId) (name : Identifier) (found : Option ℕ) (n : ℕ) (first : TypeId) → found ≡ position (is_member_type t name) (declared env)
    → found ≡ Some n → ((d : Declared) → declared_at env (type_id n) ≡ Some d → first ≡ first_declaration env d) → first ∷ [] ≡ declared_types env t name
member_some env t name found n first is some counts =
    let at = found-at (is_member_type t name) (declared env) n (sym is ∙ some) in
    ap (λ x. x ∷ []) (counts at.0 at.1)
    ∙ sym (member_types_are env t name found is ∙ ap (λ o. option_to_list (option_map (first_declaration env) (option_and_then (slice_get (declared env)) o))) some
    ∙ ap (λ o. option_to_list (option_map (first_declaration env) o)) at.1)

-- ---- no name with the key

pub none_with_key : (env : Env) (q : List ℕ) (names : Identifiers) (es : List Entry) (keys : Keys) (k : ℕ) (first : Option ℕ) → es ≡ map entry_of (declared env)
    → keys ≡ map entry_name_key es → k ≡ name_key q names → first ≡ first_from keys k 0 → first ≡ None → None ≡ type_named env q names
none_with_key env q names es keys k first are keyed is from none =
    let Gives : (Entry → Bool) → Type 0 = λ _. Unit {0} in
    named_found env q names es es None refl are
    (sought_all Gives es keys k first (sought_none Gives es keys k first (ap length keyed ∙ length-map es entry_name_key) from) none (entry_is_named q names) tt
    (names_keyed q names es es keys k refl keyed is))
