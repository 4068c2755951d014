-- Arrays that convert, and subtypes of types that aren't declared.
use Rattle.std.proofs.Common.{◌≡◌, ◌<◌, ℕ, zero, suc, false, cond, List, [], ◌∷◌, ◌++◌, Option, Some, None, is_some, refl, ap, ◌∙◌, arith, true≢false}
use Rattle.std.specs.List.{flat_map}
use Rattle.std.specs.Option.{option_map_or}
use Rattle.java_tree.specs.declared.occurrence.TypeId.{TypeId}
use Rattle.java_tree.specs.declared.types.ArrayElement.{ArrayElement}
use Rattle.java_tree.specs.declared.types.JType.TheVariants as types
use Rattle.java_model.specs.Names.Lists.{is_among, fresh, reached}
use Rattle.java_model.specs.Names.Environments.{Env, Declared, declared_at, same_id}
use Rattle.java_model.specs.Names.Conversions.{array_converts, array_to_element, element_converts, element_to_array}
use Rattle.java_model.specs.Names.Supertypes.{count, header_ask, header_supers, is_sub, known_supers, supers, supers_of}
use Rattle.java_model.specs.Names.TypeNames.{class_of}
use Rattle.java_types.specs.Entries.{is_declared}

pub array-same : (env : Env) (m n : ℕ) (e f : ArrayElement) → m ≡ n → array_converts env m e n f ≡ element_converts env e f
array-same env zero zero e f h = refl
array-same env zero (suc n) e f h = absurd (omega (arith, h))
array-same env (suc m) zero e f h = absurd (omega (arith, h))
array-same env (suc m) (suc n) e f h = array-same env m n e f (omega (arith, h))

pub array-less : (env : Env) (m n : ℕ) (e f : ArrayElement) → m < n → array_converts env m e n f ≡ element_to_array e
array-less env zero zero e f h = absurd (omega (arith, h))
array-less env zero (suc n) e f h = refl
array-less env (suc m) zero e f h = absurd (omega (arith, h))
array-less env (suc m) (suc n) e f h = array-less env m n e f (omega (arith, h))

pub array-more : (env : Env) (m n : ℕ) (e f : ArrayElement) → n < m → array_converts env m e n f ≡ array_to_element env f
array-more env zero zero e f h = absurd (omega (arith, h))
array-more env zero (suc n) e f h = absurd (omega (arith, h))
array-more env (suc m) zero e f h = refl
array-more env (suc m) (suc n) e f h = array-more env m n e f (omega (arith, h))

-- ---- a type that isn't declared has no supertypes

undeclared-header : (env : Env) (s : TypeId) → is_declared env s ≡ false → header_supers env s ≡ []
undeclared-header env s h = by (declared_at env s) refl h
  where
    by : (o : Option Declared) → declared_at env s ≡ o → is_some o ≡ false → header_supers env s ≡ []
    by None e k = ap (λ x. option_map_or (supers_of env (header_ask env s)) x []) e
    by (Some d) e k = absurd (true≢false k)

alone : (n : ℕ) (next : TypeId → List TypeId) (s : TypeId) → next s ≡ [] → reached (suc n) same_id next (s ∷ []) [] ≡ []
alone n next s e = ap (λ ts. reached n same_id next (fresh same_id [] (ts ++ [])) ([] ++ fresh same_id [] (ts ++ []))) e ∙ by n
  where
    by : (n : ℕ) → reached n same_id next [] [] ≡ []
    by zero = refl
    by (suc m) = refl

pub undeclared-supers : (env : Env) (s : TypeId) → is_declared env s ≡ false → supers env s ≡ []
undeclared-supers env s h =
    let none = undeclared-header env s h in
    ap (λ ts. cond (is_among same_id s ts) (types.Absent [] ∷ []) (header_supers env s)) (alone (count env) (λ u. flat_map class_of (header_supers env u)) s (ap (flat_map class_of) none)) ∙ none

pub undeclared-is_sub : (env : Env) (s t : TypeId) → is_declared env s ≡ false → is_sub env s t ≡ false
undeclared-is_sub env s t h =
    ap (is_among same_id t) (alone (count env) (known_supers env) s (ap (flat_map class_of) (undeclared-supers env s h)))
