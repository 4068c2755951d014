-- Lists and names, as the definitions of names use them.
use Rattle.std.specs.Prelude.{ℕ, zero, suc, Bool, true, false, cond, List, [], ◌∷◌, ◌++◌, Option, Some, None}
use Rattle.std.specs.List.{flat_map, list_any, join_with_byte}
use Rattle.std.specs.Str.{bytes_eq, byte}
use lib.Pointwise.{pointwise}

-- an identifier by its bytes, and a name by its identifiers (JLS 6.2)
abbrev pub Identifier : Type 0
Identifier = List ℕ

abbrev pub Identifiers : Type 0
Identifiers = List Identifier

abbrev pub same_name : Identifiers → Identifiers → Bool
same_name = pointwise bytes_eq

-- a name with its dots
abbrev pub with_dots : Identifiers → List ℕ
with_dots = join_with_byte (byte ".")

-- the first answer, and where there is none the second
abbrev pub or_else : {X : Type 0} → List X → (Unit {0} → List X) → List X
or_else [] answer = answer tt
or_else (x ∷ xs) answer = x ∷ xs

abbrev pub otherwise : {X : Type 0} → Option X → (Unit {0} → Option X) → Option X
otherwise None answer = answer tt
otherwise (Some x) answer = Some x

-- an answer that counts where a test fails
abbrev pub unless : {X : Type 0} → Bool → (Unit {0} → List X) → List X
unless true answer = []
unless false answer = answer tt

-- the only element
abbrev pub the_one : {X : Type 0} → List X → Option X
the_one [] = None
the_one (x ∷ []) = Some x
the_one (x ∷ y ∷ xs) = None

abbrev pub is_among : {X : Type 0} → (X → X → Bool) → X → List X → Bool
is_among same x xs = list_any (same x) xs

-- each element of the second list that isn't in the first, once
abbrev pub fresh : {X : Type 0} → (X → X → Bool) → List X → List X → List X
fresh same seen [] = []
fresh same seen (x ∷ xs) = cond (is_among same x seen) (fresh same seen xs) (x ∷ fresh same (x ∷ seen) xs)

-- What `next` leads to from a front, in at most so many steps, after what was seen before.
abbrev pub reached : {X : Type 0} → ℕ → (X → X → Bool) → (X → List X) → List X → List X → List X
reached zero same next front seen = seen
reached (suc d) same next [] seen = seen
reached (suc d) same next (x ∷ xs) seen =
    let new = fresh same seen (flat_map next (x ∷ xs)) in reached d same next new (seen ++ new)
