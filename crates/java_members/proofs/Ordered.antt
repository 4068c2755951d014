-- What is found of members, in the order of all.
use Rattle.std.proofs.Common.{◌≡◌, ◌&&◌, ◌||◌, Bool, true, false, cond, List, [], ◌∷◌, ◌++◌, filter, flat_map, map, refl, sym, ap, ◌∙◌}
use Rattle.java_tree.specs.declared.occurrence.TypeId.{TypeId}
use Rattle.java_model.specs.Names.Lists.{is_among}
use Rattle.java_model.specs.Names.MemberTypes.{in_order}
use Rattle.java_members.specs.Members.{Rising, Same, same_member}
use Rattle.java_members.specs.declared.member.Member.{Member}
use Rattle.java_members.proofs.Members.{among-filter, rising-filter, same-list}

-- Things are members, and the members things again.
pub record Stands {X : Type 0} (to : X → Member) (from : Member → X) (same : X → X → Bool) : Type 0 where
  pub back : (x : X) → from (to x) ≡ x
  pub same_is : (x y : X) → same x y ≡ same_member (to x) (to y)

pub there-and-back : {X : Type 0} (to : X → Member) (from : Member → X) → ((x : X) → from (to x) ≡ x) → (xs : List X) → map from (map to xs) ≡ xs
there-and-back to from back [] = refl
there-and-back to from back (x ∷ xs) = ap (λ y. y ∷ map from (map to xs)) (back x) ∙ ap (λ ys. x ∷ ys) (there-and-back to from back xs)

pub map-filter : {X : Type 0} (to : X → Member) (p : X → Bool) (q : Member → Bool) → ((x : X) → p x ≡ q (to x)) → (xs : List X) → map to (filter p xs) ≡ filter q (map to xs)
map-filter to p q h [] = refl
map-filter to p q h (x ∷ xs) = by (p x) (q (to x)) (h x) (map-filter to p q h xs)
  where
    by : (a b : Bool) → a ≡ b → map to (filter p xs) ≡ filter q (map to xs) → map to (cond a (x ∷ filter p xs) (filter p xs)) ≡ cond b (to x ∷ filter q (map to xs)) (filter q (map to xs))
    by true true e r = ap (λ ys. to x ∷ ys) r
    by false false e r = r
    by true false e r = absurd cc
    by false true e r = absurd cc

pub map-append : {X : Type 0} (to : X → Member) (xs ys : List X) → map to (xs ++ ys) ≡ map to xs ++ map to ys
map-append to [] ys = refl
map-append to (x ∷ xs) ys = ap (λ zs. to x ∷ zs) (map-append to xs ys)

pub map-flat : {X : Type 0} (to : X → Member) (f : TypeId → List X) (ts : List TypeId) → map to (flat_map f ts) ≡ flat_map (λ t. map to (f t)) ts
map-flat to f [] = refl
map-flat to f (t ∷ ts) = map-append to (f t) (flat_map f ts) ∙ ap (λ zs. map to (f t) ++ zs) (map-flat to f ts)

among-map : {X : Type 0} (to : X → Member) (from : Member → X) (same : X → X → Bool) → Stands to from same → (x : X) (xs : List X) → is_among same x xs ≡ is_among same_member (to x) (map to xs)
among-map to from same s x [] = refl
among-map to from same s x (y ∷ ys) = ap (λ b. b || is_among same x ys) (s.same_is x y) ∙ ap (λ b. same_member (to x) (to y) || b) (among-map to from same s x ys)

both-so : (a b : Bool) → (a ≡ true → b ≡ true) → a ≡ (a && b)
both-so true b h = sym (h refl)
both-so false b h = refl

-- Found members in order are those of all that are found.
pub ordered : {X : Type 0} (to : X → Member) (from : Member → X) (same : X → X → Bool) → Stands to from same → (all found : List X) (ms : List Member)
    → Rising ms → Same ms (map to found) → Rising (map to all) → ((m : Member) → is_among same_member m (map to found) ≡ true → is_among same_member m (map to all) ≡ true)
    → map from ms ≡ in_order same all found
ordered to from same s all found ms r h ra sub =
    let q : Member → Bool = λ m. is_among same_member m (map to found) in
    let kept : map to (in_order same all found) ≡ filter q (map to all) = map-filter to (λ x. is_among same x found) q (λ x. among-map to from same s x found) all in
    let same_members : Same ms (filter q (map to all)) = record { each = λ m. h.each m ∙ both-so (q m) (is_among same_member m (map to all)) (sub m) ∙ sym (among-filter q m (map to all)) } in
    ap (map from) (same-list ms (filter q (map to all)) r (rising-filter q (map to all) ra) same_members ∙ sym kept) ∙ there-and-back to from s.back (in_order same all found)
