-- The methods of a type, gathered from the types that it may have them of.
use Rattle.std.proofs.Common.{◌≡◌, ◌+◌, ℕ, zero, suc, Bool, true, false, cond, List, [], ◌∷◌, ◌++◌, Some, length, take, inl, inr, refl, sym, ap, ◌∙◌, arith, true≢false}
use Rattle.std.specs.Prelude.{slice_get}
use Rattle.std.specs.BTreeSet.{BTreeSet}
use Rattle.std.specs.List.{filter, flat_map}
use Rattle.std.specs.List.Sorted.{IsStrictlySortedBy}
use Rattle.std.specs.Option.{option_map_or}
use Rattle.std.specs.Ordering.{nat_cmp}
use Rattle.std.proofs.lemmas.Bool.{cases_Bool, or_left, or_right, false_from_ne_true}
use Rattle.std.proofs.lemmas.Option.{none-some, same_Some}
use Rattle.std.proofs.lemmas.List.{append-nil, append_assoc}
use Rattle.java_tree.specs.declared.occurrence.MethodId.{MethodId}
use Rattle.java_tree.specs.declared.occurrence.TypeId.{TypeId}
use Rattle.java_model.specs.Names.Environments.{Env, declared, type_id}
use Rattle.java_model.specs.Names.Lists.{Identifier, is_among}
use Rattle.java_model.specs.Names.Methods.{methods, methods_in, same_method}
use Rattle.java_model.specs.Names.Supertypes.{count}
use Rattle.java_env.specs.Inheriting.{all_next, has_method}
use Rattle.java_env.specs.Members.{methods_of}
use Rattle.java_env.specs.Walks.{IsReached, has}
use Rattle.java_env.proofs.Inheriting.{Ids, elsewhere, method-self, own-methods}
use Rattle.java_env.proofs.Ordering.{is_in, picked}
use Rattle.java_env.proofs.Sets.{rises}

filter-append : {X : Type 0} (p : X → Bool) (xs ys : List X) → filter p (xs ++ ys) ≡ filter p xs ++ filter p ys
filter-append p [] ys = refl
filter-append p (x ∷ xs) ys = elim (cases_Bool (p x)) as (λ _. filter p ((x ∷ xs) ++ ys) ≡ filter p (x ∷ xs) ++ filter p ys) [
  | inl k ↦ ap (λ b. cond b (x ∷ filter p (xs ++ ys)) (filter p (xs ++ ys))) k ∙ ap (λ zs. x ∷ zs) (filter-append p xs ys) ∙ sym (ap (λ b. cond b (x ∷ filter p xs) (filter p xs) ++ filter p ys) k)
  | inr k ↦ ap (λ b. cond b (x ∷ filter p (xs ++ ys)) (filter p (xs ++ ys))) k ∙ filter-append p xs ys ∙ sym (ap (λ b. cond b (x ∷ filter p xs) (filter p xs) ++ filter p ys) k)
]

filter-each : {X Y : Type 0} (p : Y → Bool) (f : X → List Y) (xs : List X) → flat_map (λ x. filter p (f x)) xs ≡ filter p (flat_map f xs)
filter-each p f [] = refl
filter-each p f (x ∷ xs) = ap (λ ys. filter p (f x) ++ ys) (filter-each p f xs) ∙ sym (filter-append p (f x) (flat_map f xs))

filter-none : (p : MethodId → Bool) (ms : List MethodId) → ((m : MethodId) → is_among same_method m ms ≡ true → p m ≡ false) → filter p ms ≡ []
filter-none p [] h = refl
filter-none p (m ∷ ms) h =
    ap (λ b. cond b (m ∷ filter p ms) (filter p ms)) (h m (or_left (same_method m m) (is_among same_method m ms) (method-self m)))
    ∙ filter-none p ms (λ n e. h n (or_right (same_method n m) (is_among same_method n ms) e))

pub gathered : (env : Env) (t : TypeId) (name : Identifier) (numbers : BTreeSet ℕ) → Ids env → IsReached (all_next env) (count env) t (has numbers) → IsStrictlySortedBy nat_cmp numbers.keys
    → flat_map (λ n. filter (has_method env t name) (methods_of env (type_id n))) numbers.keys ≡ methods env t name
gathered env t name numbers ids r ordered =
    picked (λ o. filter (has_method env t name) (option_map_or methods_in o [])) (declared env) numbers.keys refl (rises numbers.keys ordered) outside
    ∙ filter-each (has_method env t name) methods_in (declared env)
  where
    outside : (n : ℕ) → is_in n numbers.keys ≡ false → filter (has_method env t name) (option_map_or methods_in (slice_get (declared env) n) []) ≡ []
    outside n out = filter-none (has_method env t name) (methods_of env (type_id n))
        (λ m e. false_from_ne_true (has_method env t name m)
        (λ k. true≢false (sym (elsewhere env m t name (has numbers) ids r k) ∙ ap (has numbers) (own-methods env m (type_id n) ids e) ∙ out)))

-- ---- the types so far

one-more : {Y : Type 0} (f : ℕ → List Y) (all : List ℕ) (n k : ℕ) → slice_get all n ≡ Some k → flat_map f (take (suc n) all) ≡ flat_map f (take n all) ++ f k
one-more f [] n k e = absurd (none-some k e)
one-more f (x ∷ xs) zero k e = append-nil (f x) ∙ ap f (same_Some x k e)
one-more f (x ∷ xs) (suc n) k e = ap (λ ys. f x ++ ys) (one-more f xs n k e) ∙ sym (append_assoc (f x) (flat_map f (take n xs)) (f k))

pub one-type-more : {Y : Type 0} (f : ℕ → List Y) (all : List ℕ) (n k : ℕ) → slice_get all n ≡ Some k → flat_map f (take (n + 1) all) ≡ flat_map f (take n all) ++ f k
one-type-more f all n k e = ap (λ m. flat_map f (take m all)) (let s : n + 1 ≡ suc n = omega arith in s) ∙ one-more f all n k e

pub take-whole : {X : Type 0} (xs : List X) → take (length xs) xs ≡ xs
take-whole [] = refl
take-whole (x ∷ xs) = ap (λ ys. x ∷ ys) (take-whole xs)
