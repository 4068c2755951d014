-- The methods and constructors that an environment gives stand in it.
use Rattle.std.proofs.Common.{◌≡◌, ◌+◌, ℕ, zero, suc, Bool, true, false, cond, List, [], ◌∷◌, ◌++◌, Option, Some, None, drop, filter, flat_map, length, slice_get, inl, inr, refl, sym, ap, ◌∙◌, arith, zero-add, suc-add}
use Rattle.std.specs.Option.{option_map_or, option_and_then}
use Rattle.std.proofs.lemmas.Option.{none-some}
use Rattle.java_tree.specs.declared.occurrence.MethodId.{MethodId}
use Rattle.java_tree.specs.declared.occurrence.TypeId.{TypeId}
use Rattle.java_tree.specs.declared.outline.OutlineMethod.{OutlineMethod}
use Rattle.java_model.specs.Names.Lists.{Identifier, is_among}
use Rattle.java_model.specs.Names.Environments.{Env, Declared, declared, declared_at, id_of, type_id}
use Rattle.java_model.specs.Names.Methods.{same_method, ids_from, bodies_of, method_at, methods_in, all_methods, constructors_in, default_constructors, methods, methods_by}
use Rattle.java_model.specs.Names.Supertypes.{count}
use Rattle.java_model.proofs.DeclaredLaws.{in-front}
use Rattle.java_laws.proofs.Lists.{Among, among-append}
use Rattle.java_laws.proofs.Numbers.{own-id}

-- LISTS
kept : {X : Type 0} (y : X) (zs : List X) (x : X) (b : Bool) → Among (cond b (y ∷ zs) zs) x → Among (y ∷ zs) x
kept y zs x true a = a
kept y zs x false a = inr a

pub among-filter : {X : Type 0} (p : X → Bool) (xs : List X) (x : X) → Among (filter p xs) x → Among xs x
among-filter p [] x a = absurd a
among-filter p (y ∷ ys) x a = elim (kept y (filter p ys) x (p y) a) [
  | inl e ↦ inl e
  | inr b ↦ inr (among-filter p ys x b)
]

among-flat : {X Y : Type 0} (f : X → List Y) (xs : List X) (y : Y) → Among (flat_map f xs) y → (x : X) × Among xs x × Among (f x) y
among-flat f [] y a = absurd a
among-flat f (x ∷ xs) y a = elim (among-append (f x) (flat_map f xs) y a) [
  | inl b ↦ (x, inl refl, b)
  | inr b ↦ let r = among-flat f xs y b in (r.0, inr r.1, r.2)
]

among-get : {X : Type 0} (xs : List X) (x : X) → Among xs x → (n : ℕ) × (slice_get xs n ≡ Some x)
among-get [] x a = absurd a
among-get (y ∷ ys) x (inl e) = (0, ap Some e)
among-get (y ∷ ys) x (inr a) = let r = among-get ys x a in (suc r.0, r.1)

get-drop : {X : Type 0} (xs : List X) (k j : ℕ) (x : X) → slice_get (drop k xs) j ≡ Some x → slice_get xs (k + j) ≡ Some x
get-drop xs zero j x e = ap (slice_get xs) (zero-add j) ∙ e
get-drop [] (suc k) j x e = absurd (none-some x e)
get-drop (y ∷ ys) (suc k) j x e = ap (slice_get (y ∷ ys)) (suc-add k j) ∙ get-drop ys k j x e

-- IDS from a place on
pub of-ids : (t : TypeId) (place : ℕ) (ms : List OutlineMethod) (m : MethodId) → Among (ids_from t place ms) m → m.of ≡ t
of-ids t place [] m a = absurd a
of-ids t place (o ∷ ms) m (inl e) = ap (λ x. x.of) (sym e)
of-ids t place (o ∷ ms) m (inr a) = of-ids t (place + 1) ms m a

record Placed (place : ℕ) (ms : List OutlineMethod) (m : MethodId) : Type 0 where
  number : ℕ
  method : OutlineMethod
  is : m.place ≡ place + number
  at : slice_get ms number ≡ Some method

placed : (t : TypeId) (place : ℕ) (ms : List OutlineMethod) (m : MethodId) → Among (ids_from t place ms) m → Placed place ms m
placed t place [] m a = absurd a
placed t place (o ∷ ms) m (inl e) =
    record { number = 0; method = o; is = ap (λ x. x.place) (sym e) ∙ (let z : place ≡ place + 0 = omega arith in z); at = refl }
placed t place (o ∷ ms) m (inr a) =
    let r = placed t (place + 1) ms m a in
    record { number = suc r.number; method = r.method; is = r.is ∙ (let z : (place + 1) + r.number ≡ place + suc r.number = omega arith in z); at = r.at }

-- METHODS
abbrev pub IsMethod : Env → MethodId → Type 0
IsMethod env m = (x : OutlineMethod) × (method_at env m ≡ Some x)

method-in : (env : Env) (d : Declared) (m : MethodId) (x : OutlineMethod) → declared_at env m.of ≡ Some d → slice_get (bodies_of env d) m.place ≡ Some x
    → IsMethod env m
method-in env d m x at e = (x, ap (option_and_then (λ y. slice_get (bodies_of env y) m.place)) at ∙ e)

pub constructor-there : (env : Env) (t : TypeId) (o : Option Declared) (m : MethodId) → declared_at env t ≡ o
    → Among (option_map_or (constructors_in env) o []) m → IsMethod env m
constructor-there env t None m e a = absurd a
constructor-there env t (Some d) m e a =
    let before = length d.type.methods in
    let r = placed (id_of d) before (drop before (bodies_of env d)) m a in
    method-in env d m r.method
    (ap (declared_at env) (of-ids (id_of d) before (drop before (bodies_of env d)) m a ∙ own-id env t d e) ∙ e)
    (ap (slice_get (bodies_of env d)) r.is ∙ get-drop (bodies_of env d) before r.number r.method r.at)

declared-there : (env : Env) (d : Declared) (n : ℕ) (m : MethodId) → slice_get (declared env) n ≡ Some d → Among (methods_in d) m → IsMethod env m
declared-there env d n m e a =
    let r = placed (id_of d) 0 d.type.methods m a in
    method-in env d m r.method
    (ap (declared_at env) (of-ids (id_of d) 0 d.type.methods m a ∙ own-id env (type_id n) d e) ∙ e)
    (ap (slice_get (bodies_of env d)) (r.is ∙ zero-add r.number)
    ∙ in-front (d.type.methods ++ d.type.constructors) (default_constructors env d d.type.constructors) r.number r.method
    (in-front d.type.methods d.type.constructors r.number r.method r.at))

pub method-there : (env : Env) (t : TypeId) (name : Identifier) (m : MethodId) → Among (methods env t name) m → IsMethod env m
method-there env t name m a =
    let r = among-flat methods_in (declared env) m (among-filter (λ x. is_among same_method x (methods_by (count env) env t name)) (all_methods env) m a) in
    let at = among-get (declared env) r.0 r.1 in
    declared-there env r.0 at.0 m at.1 r.2
