-- Names with dots after one another.
use Rattle.std.proofs.Common.{◌≡◌, ℕ, ◌-◌, suc, true, false, ◌==◌, List, [], ◌∷◌, ◌++◌, length, take, drop, reverse, refl, sym, ap, ◌∙◌, arith, append_assoc, length-append, true≢false}
use Rattle.std.proofs.lemmas.List.{append-nil, reverse-append, reverse-reverse}
use Rattle.std.proofs.lemmas.Bool.{eqb-true}
use Rattle.std.proofs.Math.Seq.{take-append_seam}
use Rattle.java_model.specs.Names.Lists.{Identifier, Identifiers, with_dots}

some_dotted : (x : Identifier) (xs : Identifiers) (y : Identifier) (ys : Identifiers)
    → with_dots (x ∷ xs) ++ 46 ∷ with_dots (y ∷ ys) ≡ with_dots ((x ∷ xs) ++ y ∷ ys)
some_dotted x [] y ys = refl
some_dotted x (z ∷ zs) y ys =
    append_assoc x (46 ∷ with_dots (z ∷ zs)) (46 ∷ with_dots (y ∷ ys)) ∙ ap (λ bs. x ++ 46 ∷ bs) (some_dotted z zs y ys)

-- a package and names in it
pub dotted_both : (outer names : Identifiers) → (length outer == 0) ≡ false → (length names == 0) ≡ false
    → with_dots outer ++ 46 ∷ with_dots names ≡ with_dots (outer ++ names)
dotted_both [] names p n = absurd (true≢false p)
dotted_both (x ∷ xs) [] p n = absurd (true≢false n)
dotted_both (x ∷ xs) (y ∷ ys) p n = some_dotted x xs y ys

-- what is written, step by step
pub dotted_made : (outer names : Identifiers) (q a dot b i d : List ℕ) → (length outer == 0) ≡ false → (length names == 0) ≡ false
    → q ≡ with_dots outer → a ≡ q → b ≡ a ++ dot → dot ≡ 46 ∷ [] → i ≡ with_dots names → d ≡ b ++ i → d ≡ with_dots (outer ++ names)
dotted_made outer names q a dot b i d o n is_outer begun pushed is_dot is_names ended =
    cc (dotted_both outer names o n, append_assoc (with_dots outer) (46 ∷ []) (with_dots names))

no_element : (n : ℕ) → (suc n == 0) ≡ true → ⊥
no_element n h = let z = eqb-true (suc n) 0 h in omega (arith, z)

pub dotted_outer : (outer names : Identifiers) → (length names == 0) ≡ true → with_dots outer ≡ with_dots (outer ++ names)
dotted_outer outer [] n = ap with_dots (sym (append-nil outer))
dotted_outer outer (y ∷ ys) n = absurd (no_element (length ys) n)

pub dotted_inner : (outer names : Identifiers) → (length outer == 0) ≡ true → with_dots names ≡ with_dots (outer ++ names)
dotted_inner [] names p = refl
dotted_inner (x ∷ xs) names p = absurd (no_element (length xs) p)

front : {X : Type 0} (xs : List X) → take (length (reverse xs) - 1) (reverse xs) ≡ reverse (drop 1 xs)
front [] = refl
front (x ∷ xs) =
    let long : length (reverse xs ++ x ∷ []) - 1 ≡ length (reverse xs) = let l = length-append (reverse xs) (x ∷ []) in omega (arith, l) in
    ap (λ ys. take (length ys - 1) ys) (reverse-append (x ∷ []) xs) ∙ ap (λ k. take k (reverse xs ++ x ∷ [])) long ∙ take-append_seam (reverse xs) (x ∷ [])

-- all but the last
pub all_but_last : {X : Type 0} (xs : List X) → take (length xs - 1) xs ≡ reverse (drop 1 (reverse xs))
all_but_last xs = ap (λ ys. take (length ys - 1) ys) (sym (reverse-reverse xs)) ∙ front (reverse xs)
