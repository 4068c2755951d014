-- A walk through items from the left: their values, the paths into them, and what these name. Each item adds its own
-- parts' walk, and then what it names itself.
use Rattle.std.proofs.Common.{◌≡◌, ℕ, ◌+◌, List, [], ◌∷◌, ◌++◌, Option, Some, None, Bool, true, false, cond, map, length, refl, ap, sym, subst, ◌∙◌, arith, append_assoc, append-nil, add-zero, map-id, ◌&&◌}
use Rattle.std.proofs.lemmas.Option.{none-some}
use Rattle.std.specs.Prelude.{zero, suc, slice_get}
use Rattle.std.specs.Option.{is_some}
use Rattle.java_model.specs.Places.{Rules, lead, same_number, same_place, times, AreAll, HaveValues, no_items, an_item, Name, no_paths, a_path}

-- where a path into a list of items leads
abbrev pub lead_in : {X V O : Type 0} → Rules X V O → List X → List ℕ → Option X
lead_in rules xs [] = None
lead_in rules xs (i ∷ path) = lead rules (slice_get xs i) path

pub record Walked {X V O : Type 0} (rules : Rules X V O) (xs : List X) (vs : List V) (os : List O) : Type 0 where
  pub have : HaveValues rules xs vs
  pub paths : List (List ℕ)
  pub all : AreAll (lead_in rules xs) paths
  pub name : Name rules (lead_in rules xs) paths os

counted-more : (b : Bool) (m n k : ℕ) → m ≡ n + k → cond b (suc m) m ≡ cond b (suc n) n + k
counted-more true m n k e = omega arith
counted-more false m n k e = e

-- how often a path stands in lists one after another
pub times-append : (path : List ℕ) (ps qs : List (List ℕ)) → times path (ps ++ qs) ≡ times path ps + times path qs
times-append path [] qs = omega arith
times-append path (p ∷ ps) qs = counted-more (same_place path p) _ _ _ (times-append path ps qs)

counted-under : (b c : Bool) (t u : ℕ) → t ≡ cond b u 0 → cond (b && c) (suc t) t ≡ cond b (cond c (suc u) u) 0
counted-under true true t u e = ap suc e
counted-under true false t u e = e
counted-under false true t u e = e
counted-under false false t u e = e

nothing-counted : (b : Bool) → ◌≡◌ {A = ℕ} 0 (cond b 0 0)
nothing-counted true = refl
nothing-counted false = refl

-- paths from one number on
times-under : (i j : ℕ) (path : List ℕ) (ps : List (List ℕ)) → times (i ∷ path) (map (λ p. j ∷ p) ps) ≡ cond (same_number i j) (times path ps) 0
times-under i j path [] = nothing-counted (same_number i j)
times-under i j path (p ∷ ps) = counted-under (same_number i j) (same_place path p) _ _ (times-under i j path ps)

none-under : (j : ℕ) (ps : List (List ℕ)) → times [] (map (λ p. j ∷ p) ps) ≡ 0
none-under j [] = refl
none-under j (p ∷ ps) = none-under j ps

-- no path leads from nothing
lead-none : {X V O : Type 0} (rules : Rules X V O) (path : List ℕ) → lead rules None path ≡ None
lead-none rules [] = refl
lead-none rules (i ∷ path) = refl

-- A number in a list with one item more is that of an item of the list, or past its end, or that item's.
data At {X : Type 0} (xs : List X) (x : X) (i : ℕ) : Type 0 where
  before_it : slice_get (xs ++ x ∷ []) i ≡ slice_get xs i → same_number i (length xs) ≡ false → At xs x i
  at_it : slice_get xs i ≡ None → slice_get (xs ++ x ∷ []) i ≡ Some x → same_number i (length xs) ≡ true → At xs x i

at : {X : Type 0} (xs : List X) (x : X) (i : ℕ) → At xs x i
at [] x zero = at_it refl refl refl
at [] x (suc i) = before_it refl refl
at (y ∷ ys) x zero = before_it refl refl
at (y ∷ ys) x (suc i) = elim (at ys x i) [ before_it e f ↦ before_it e f | at_it e f g ↦ at_it e f g ]

-- the number of the added item
at-length : {X : Type 0} (xs : List X) (x : X) → slice_get (xs ++ x ∷ []) (length xs) ≡ Some x
at-length [] x = refl
at-length (y ∷ ys) x = at-length ys x

-- what paths name they name under other numbers too, and one list after another
names-map : {X V O : Type 0} (rules : Rules X V O) (f : List ℕ → List ℕ) (leads to : List ℕ → Option X)
    → ((path : List ℕ) (y : X) → leads path ≡ Some y → to (f path) ≡ Some y)
    → {ps : List (List ℕ)} {os : List O} → Name rules leads ps os → Name rules to (map f ps) os
names-map rules f leads to h no_paths = no_paths
names-map rules f leads to h (a_path path paths x parts found l more) =
    a_path (f path) _ x parts found (record { is = h path x l.is; have = l.have }) (names-map rules f leads to h more)

pub names-append : {X V O : Type 0} (rules : Rules X V O) (leads : List ℕ → Option X) {ps qs : List (List ℕ)} {us vs : List O}
    → Name rules leads ps us → Name rules leads qs vs → Name rules leads (ps ++ qs) (us ++ vs)
names-append rules leads no_paths k = k
names-append rules leads {qs = qs} {vs = vs} (a_path path paths x parts found l more) k =
    subst (λ os. Name rules leads (path ∷ (paths ++ qs)) os) (sym (append_assoc (rules.names x parts) found vs))
    (a_path path _ x parts _ l (names-append rules leads more k))

-- the paths that lead to an item and into it, from what a walk through its parts found
pub record Whole {X V O : Type 0} (rules : Rules X V O) (x : X) (os : List O) : Type 0 where
  pub paths : List (List ℕ)
  pub all : AreAll (lead rules (Some x)) paths
  pub name : Name rules (lead rules (Some x)) paths os

all-of-item : {X V O : Type 0} (rules : Rules X V O) (x : X) (paths : List (List ℕ)) → AreAll (lead_in rules (rules.inside x)) paths
    → AreAll (lead rules (Some x)) (paths ++ [] ∷ [])
all-of-item rules x paths all [] = let e = times-append [] paths ([] ∷ []) in let f = all [] in omega (arith, e, f)
all-of-item rules x paths all (i ∷ path) = let e = times-append (i ∷ path) paths ([] ∷ []) in let f = all (i ∷ path) in e ∙ (add-zero _ ∙ f)

into-item : {X V O : Type 0} (rules : Rules X V O) (x : X) (path : List ℕ) (y : X)
    → lead_in rules (rules.inside x) path ≡ Some y → lead rules (Some x) path ≡ Some y
into-item rules x [] y e = absurd (none-some y e)
into-item rules x (i ∷ path) y e = e

pub whole : {X V O : Type 0} (rules : Rules X V O) (x : X) (parts : List V) (below : List O) → Walked rules (rules.inside x) parts below
    → Whole rules x (below ++ rules.names x parts)
whole rules x parts below w = record {
  paths = w.paths ++ [] ∷ [];
  all = all-of-item rules x w.paths w.all;
  name = names-append rules (lead rules (Some x)) (subst (λ ps. Name rules (lead rules (Some x)) ps below) (map-id w.paths) (names-map rules (λ p. p) _ _ (into-item rules x) w.name))
      (subst (λ os. Name rules (lead rules (Some x)) ([] ∷ []) os) (append-nil (rules.names x parts))
      (a_path [] [] x parts [] (record { is = refl; have = w.have }) no_paths));
}

-- a list with one item more, whose parts were walked through
have-more : {X V O : Type 0} (rules : Rules X V O) {xs : List X} {vs : List V} (x : X) (parts : List V) → HaveValues rules xs vs
    → HaveValues rules (rules.inside x) parts → HaveValues rules (xs ++ x ∷ []) (vs ++ rules.value x parts ∷ [])
have-more rules x parts no_items k = an_item x [] parts [] k no_items
have-more rules x parts (an_item y ys us vs h more) k = an_item y _ us _ h (have-more rules x parts more k)

into-list : {X V O : Type 0} (rules : Rules X V O) (xs : List X) (x : X) (path : List ℕ) (y : X)
    → lead_in rules xs path ≡ Some y → lead_in rules (xs ++ x ∷ []) path ≡ Some y
into-list rules xs x [] y e = e
into-list rules xs x (i ∷ path) y e = elim (at xs x i) [
  | before_it same other ↦ ap (λ o. lead rules o path) same ∙ e
  | at_it past here same ↦ absurd (none-some y (sym (lead-none rules path) ∙ (sym (ap (λ o. lead rules o path) past) ∙ e)))
]

into-last : {X V O : Type 0} (rules : Rules X V O) (xs : List X) (x : X) (path : List ℕ) (y : X)
    → lead rules (Some x) path ≡ Some y → lead_in rules (xs ++ x ∷ []) (length xs ∷ path) ≡ Some y
into-last rules xs x path y e = ap (λ o. lead rules o path) (at-length xs x) ∙ e

past-end : {X V O : Type 0} (rules : Rules X V O) (o : Option X) (path : List ℕ) (n : ℕ) → o ≡ None
    → n ≡ cond (is_some (lead rules o path)) 1 0 → n ≡ 0
past-end rules o path n e h = h ∙ (ap (λ p. cond (is_some (lead rules p path)) 1 0) e ∙ ap (λ p. cond (is_some p) 1 0) (lead-none rules path))

counted-at : {X V O : Type 0} (rules : Rules X V O) (xs : List X) (x : X) (i : ℕ) (path : List ℕ) (ps qs : List (List ℕ))
    → times (i ∷ path) ps ≡ cond (is_some (lead rules (slice_get xs i) path)) 1 0
    → times path qs ≡ cond (is_some (lead rules (Some x) path)) 1 0
    → times (i ∷ path) (ps ++ map (λ p. length xs ∷ p) qs) ≡ cond (is_some (lead rules (slice_get (xs ++ x ∷ []) i) path)) 1 0
counted-at rules xs x i path ps qs h k =
    let e = times-append (i ∷ path) ps (map (λ p. length xs ∷ p) qs) in
    let f = times-under i (length xs) path qs in
    e ∙ elim (at xs x i) [
      | before_it same other ↦ rw (f, other, same) (add-zero _ ∙ h)
      | at_it past here same ↦
          let none = past-end rules (slice_get xs i) path (times (i ∷ path) ps) past h in
          rw (f, same, here) (omega (arith, none, k))
    ]

all-of-list : {X V O : Type 0} (rules : Rules X V O) (xs : List X) (x : X) (ps qs : List (List ℕ))
    → AreAll (lead_in rules xs) ps → AreAll (lead rules (Some x)) qs → AreAll (lead_in rules (xs ++ x ∷ [])) (ps ++ map (λ p. length xs ∷ p) qs)
all-of-list rules xs x ps qs h k [] =
    let e = times-append [] ps (map (λ p. length xs ∷ p) qs) in
    let f = none-under (length xs) qs in
    let g = h [] in
    omega (arith, e, f, g)
all-of-list rules xs x ps qs h k (i ∷ path) = counted-at rules xs x i path ps qs (h (i ∷ path)) (k path)

-- no item, and one item more
pub nothing-walked : {X V O : Type 0} (rules : Rules X V O) → Walked rules [] [] []
nothing-walked rules = record { have = no_items; paths = []; all = all; name = no_paths }
  where
    all : AreAll (lead_in rules []) []
    all [] = refl
    all (i ∷ path) = sym (ap (λ p. cond (is_some p) 1 0) (lead-none rules path))

pub one-more-walked : {X V O : Type 0} (rules : Rules X V O) (xs : List X) (vs : List V) (os : List O) (x : X) (parts : List V) (below : List O)
    → Walked rules xs vs os → Walked rules (rules.inside x) parts below
    → Walked rules (xs ++ x ∷ []) (vs ++ rules.value x parts ∷ []) (os ++ (below ++ rules.names x parts))
one-more-walked rules xs vs os x parts below w u = let it = whole rules x parts below u in record {
  have = have-more rules x parts w.have u.have;
  paths = w.paths ++ map (λ p. length xs ∷ p) it.paths;
  all = all-of-list rules xs x w.paths it.paths w.all it.all;
  name = names-append rules (lead_in rules (xs ++ x ∷ []))
      (subst (λ ps. Name rules (lead_in rules (xs ++ x ∷ [])) ps os) (map-id w.paths) (names-map rules (λ p. p) _ _ (into-list rules xs x) w.name))
      (names-map rules (λ p. length xs ∷ p) _ _ (into-last rules xs x) it.name);
}
