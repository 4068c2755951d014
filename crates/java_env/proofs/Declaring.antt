-- The methods and constructors that a type declares, by their places.
use Rattle.std.proofs.Common.{◌≡◌, ◌+◌, ◌-◌, ◌<◌, ◌≤◌, ℕ, suc, Bool, true, false, ◌||◌, ◌&&◌, cond, List, [], ◌∷◌, ◌++◌, Option, Some, None, length, drop, inl, inr, refl, sym, ap, ◌∙◌, arith}
use Rattle.std.specs.List.{list_any, filter}
use Rattle.std.specs.Option.{option_map_or}
use Rattle.std.specs.Str.{bytes_eq}
use lib.Pointwise.{pointwise}
use Rattle.std.proofs.lemmas.Bool.{cases_Bool}
use Rattle.std.proofs.lemmas.List.{length-drop, append-nil, append_assoc}
use Rattle.java_tree.specs.declared.occurrence.MethodId.{MethodId}
use Rattle.java_tree.specs.declared.occurrence.TypeId.{TypeId}
use Rattle.java_tree.specs.declared.outline.OutlineMethod.{OutlineMethod}
use Rattle.java_model.specs.Names.Environments.{Env, Declared, declared_at, id_of}
use Rattle.java_model.specs.Names.Methods.{bodies_of, constructors, constructors_in, ids_from, method_name, methods_in, params, same_signature}
use Rattle.java_model.specs.Names.Types.{same_type}
use Rattle.java_types.proofs.Numbers.{own_id}
use Rattle.java_env.specs.Members.{body_count, method_count, methods_of, places}

-- ids are given by a place and a number alone
ids-are : (t : TypeId) (place : ℕ) (ms : List OutlineMethod) → ids_from t place ms ≡ places t place (length ms)
ids-are t place [] = refl
ids-are t place (m ∷ ms) = ap (λ ids. record { of = t; place = place } ∷ ids) (ids-are t (place + 1) ms)

pub methods-are : (env : Env) (t : TypeId) → methods_of env t ≡ places t 0 (method_count env t)
methods-are env t = by (declared_at env t) refl
  where
    by : (o : Option Declared) → declared_at env t ≡ o → option_map_or methods_in o [] ≡ places t 0 (option_map_or (λ d. length d.type.methods) o 0)
    by None e = refl
    by (Some d) e = ids-are (id_of d) 0 d.type.methods ∙ ap (λ u. places u 0 (length d.type.methods)) (own_id env t d e)

length-past : {X : Type 0} (xs ys : List X) → drop (length xs) (xs ++ ys) ≡ ys
length-past [] ys = refl
length-past (x ∷ xs) ys = length-past xs ys

pub constructors-are : (env : Env) (t : TypeId) → constructors env t ≡ places t (method_count env t) (body_count env t - method_count env t)
constructors-are env t = by (declared_at env t) refl
  where
    by : (o : Option Declared) → declared_at env t ≡ o
        → option_map_or (constructors_in env) o [] ≡ places t (option_map_or (λ d. length d.type.methods) o 0) (option_map_or (λ d. length (bodies_of env d)) o 0 - option_map_or (λ d. length d.type.methods) o 0)
    by None e = refl
    by (Some d) e =
        ids-are (id_of d) (length d.type.methods) (drop (length d.type.methods) (bodies_of env d))
        ∙ ap (λ u. places u (length d.type.methods) (length (drop (length d.type.methods) (bodies_of env d)))) (own_id env t d e)
        ∙ ap (places t (length d.type.methods)) (length-drop (length d.type.methods) (bodies_of env d))

-- ---- one place more

pub one-place : (t : TypeId) (place many : ℕ) → place < many → places t place (many - place) ≡ record { of = t; place = place } ∷ places t (place + 1) (many - (place + 1))
one-place t place many h = let e : many - place ≡ suc (many - (place + 1)) = omega (arith, h) in ap (places t place) e

pub no-place : (t : TypeId) (place many : ℕ) → many ≤ place → places t place (many - place) ≡ []
no-place t place many h = let e : many - place ≡ 0 = omega (arith, h) in ap (places t place) e

-- ---- methods of one signature have one name

abbrev pub named : Env → MethodId → MethodId → Bool
named env m n = bytes_eq (method_name env m) (method_name env n)

pub any-alike-named : (env : Env) (m : MethodId) (ms : List MethodId) → list_any (same_signature env m) (filter (named env m) ms) ≡ list_any (same_signature env m) ms
any-alike-named env m [] = refl
any-alike-named env m (n ∷ ns) =
    elim (cases_Bool (bytes_eq (method_name env m) (method_name env n))) as (λ _. list_any (same_signature env m) (filter (named env m) (n ∷ ns)) ≡ list_any (same_signature env m) (n ∷ ns)) [
      | inl is_so ↦ ap (λ b. list_any (same_signature env m) (cond b (n ∷ filter (named env m) ns) (filter (named env m) ns))) is_so ∙ ap (λ b. same_signature env m n || b) (any-alike-named env m ns)
      | inr is_not ↦ ap (λ b. list_any (same_signature env m) (cond b (n ∷ filter (named env m) ns) (filter (named env m) ns))) is_not ∙ any-alike-named env m ns
          ∙ sym (ap (λ b. (b && pointwise same_type (params env m) (params env n)) || list_any (same_signature env m) ns) is_not)
    ]

-- ---- a filter of places, one place more

filter-joined : (p : MethodId → Bool) (m : MethodId) (ms : List MethodId) → filter p (m ∷ []) ++ filter p ms ≡ filter p (m ∷ ms)
filter-joined p m ms = by (p m)
  where
    by : (b : Bool) → cond b (m ∷ []) [] ++ filter p ms ≡ cond b (m ∷ filter p ms) (filter p ms)
    by true = refl
    by false = refl

pub one-filtered : (p : MethodId → Bool) (t : TypeId) (place many : ℕ) (ids after all : List MethodId) → place < many → after ≡ ids ++ filter p (record { of = t; place = place } ∷ [])
    → ids ++ filter p (places t place (many - place)) ≡ all → after ++ filter p (places t (place + 1) (many - (place + 1))) ≡ all
one-filtered p t place many ids after all l is h =
    ap (λ xs. xs ++ filter p (places t (place + 1) (many - (place + 1)))) is
    ∙ append_assoc ids (filter p (record { of = t; place = place } ∷ [])) (filter p (places t (place + 1) (many - (place + 1))))
    ∙ ap (λ ys. ids ++ ys) (filter-joined p (record { of = t; place = place }) (places t (place + 1) (many - (place + 1))) ∙ sym (ap (filter p) (one-place t place many l)))
    ∙ h

pub all-places : (env : Env) (t : TypeId) → methods_of env t ≡ places t 0 (method_count env t - 0)
all-places env t = methods-are env t ∙ ap (places t 0) (let e : method_count env t ≡ method_count env t - 0 = omega arith in e)

pub one-constructor : (t : TypeId) (place many : ℕ) (ids after all : List MethodId) → place < many → after ≡ ids ++ record { of = t; place = place } ∷ []
    → ids ++ places t place (many - place) ≡ all → after ++ places t (place + 1) (many - (place + 1)) ≡ all
one-constructor t place many ids after all l is h =
    ap (λ xs. xs ++ places t (place + 1) (many - (place + 1))) is ∙ append_assoc ids (record { of = t; place = place } ∷ []) (places t (place + 1) (many - (place + 1)))
    ∙ ap (λ ys. ids ++ ys) (sym (one-place t place many l)) ∙ h

pub ended : (t : TypeId) (place many : ℕ) (ids all : List MethodId) → many ≤ place → ids ++ places t place (many - place) ≡ all → ids ≡ all
ended t place many ids all l h = sym (append-nil ids) ∙ ap (λ ys. ids ++ ys) (sym (no-place t place many l)) ∙ h

pub one-signature-less : (q : MethodId → Bool) (t : TypeId) (place many : ℕ) (b : Bool) → place < many → q (record { of = t; place = place }) ≡ false → list_any q (places t place (many - place)) ≡ b → list_any q (places t (place + 1) (many - (place + 1))) ≡ b
one-signature-less q t place many b l e h =
    sym (ap (list_any q) (one-place t place many l) ∙ ap (λ x. x || list_any q (places t (place + 1) (many - (place + 1)))) e) ∙ h
