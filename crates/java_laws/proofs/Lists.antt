-- Elements of lists, by recursion on the list.
use Rattle.std.proofs.Common.{◌≡◌, ◌<◌, ℕ, zero, suc, List, [], ◌∷◌, ◌++◌, map, length, slice_index_or, Contains, ◌⊎◌, inl, inr, ap, subst, arith}
use Rattle.std.specs.List.{AllByRecursion}

abbrev pub Among : {X : Type 0} → List X → X → Type 0
Among [] x = ⊥
Among (y ∷ ys) x = (y ≡ x) ⊎ Among ys x

at-place : {X : Type 0} (xs : List X) (x : X) (k : ℕ) → k < length xs → slice_index_or xs k x ≡ x → Among xs x
at-place [] x k l e = absurd (omega (arith, l))
at-place (y ∷ ys) x zero l e = inl e
at-place (y ∷ ys) x (suc k) l e = inr (at-place ys x k (omega (arith, l)) e)

pub among : {X : Type 0} (xs : List X) (x : X) → Contains xs x → Among xs x
among xs x c = at-place xs x c.0 c.1 c.2

pub contained : {X : Type 0} (xs : List X) (x : X) → Among xs x → Contains xs x
contained [] x a = absurd a
contained (y ∷ ys) x (inl e) = (0, omega arith, e)
contained (y ∷ ys) x (inr a) = let c = contained ys x a in (suc c.0, omega (arith, c.1), c.2)

pub among-left : {X : Type 0} (xs ys : List X) (x : X) → Among xs x → Among (xs ++ ys) x
among-left [] ys x a = absurd a
among-left (z ∷ xs) ys x (inl e) = inl e
among-left (z ∷ xs) ys x (inr a) = inr (among-left xs ys x a)

pub among-right : {X : Type 0} (xs ys : List X) (x : X) → Among ys x → Among (xs ++ ys) x
among-right [] ys x a = a
among-right (z ∷ xs) ys x a = inr (among-right xs ys x a)

pub among-append : {X : Type 0} (xs ys : List X) (x : X) → Among (xs ++ ys) x → Among xs x ⊎ Among ys x
among-append [] ys x a = inr a
among-append (z ∷ xs) ys x (inl e) = inl (inl e)
among-append (z ∷ xs) ys x (inr a) = elim (among-append xs ys x a) [
  | inl b ↦ inl (inr b)
  | inr b ↦ inr b
]

pub mapped : {X Y : Type 0} (f : X → Y) (xs : List X) (x : X) → Among xs x → Among (map f xs) (f x)
mapped f [] x a = absurd a
mapped f (y ∷ ys) x (inl e) = inl (ap f e)
mapped f (y ∷ ys) x (inr a) = inr (mapped f ys x a)

-- what holds of all holds of each
pub each-of : {X : Type 0} (P : X → Type 0) (xs : List X) (x : X) → AllByRecursion P xs → Among xs x → P x
each-of P [] x h a = absurd a
each-of P (y ∷ ys) x h (inl e) = subst P e h.0
each-of P (y ∷ ys) x h (inr a) = each-of P ys x h.1 a
