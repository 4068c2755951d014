-- What a place of a tree names it names alone.
use Rattle.std.proofs.Common.{◌≡◌, ℕ, List, [], ◌∷◌, ◌++◌, Option, Some, refl, ap, sym, subst, ◌∙◌}
use Rattle.std.specs.Prelude.{unwrap_or}
use Rattle.java_model.specs.Places.{Rules, HaveValues, no_items, an_item, LeadsTo, Name, no_paths, a_path}

-- what a list of items and their values is made of
abbrev pub Have : {X V O : Type 0} → Rules X V O → List X → List V → Type 0
Have rules [] vs = [] ≡ vs
Have {V = V} rules (x ∷ xs) vs =
    (parts : List V) × (more : List V) × HaveValues rules (rules.inside x) parts × HaveValues rules xs more × (rules.value x parts ∷ more ≡ vs)

pub taken : {X V O : Type 0} (rules : Rules X V O) {xs : List X} {vs : List V} → HaveValues rules xs vs → Have rules xs vs
taken rules no_items = refl
taken rules (an_item x xs parts vs h more) = (parts, vs, h, more, refl)

values-same : {X V O : Type 0} (rules : Rules X V O) {xs : List X} {us vs : List V} → HaveValues rules xs us → Have rules xs vs → us ≡ vs
values-same rules no_items e = e
values-same rules (an_item x xs parts us h more) (parts', vs, h', more', e) =
    let p = values-same rules h (taken rules h') in
    let q = values-same rules more (taken rules more') in
    ap (λ ps. rules.value x ps ∷ us) p ∙ (ap (λ ws. rules.value x parts' ∷ ws) q ∙ e)

pub values-unique : {X V O : Type 0} (rules : Rules X V O) (xs : List X) (us vs : List V) → HaveValues rules xs us → HaveValues rules xs vs → us ≡ vs
values-unique rules xs us vs h k = values-same rules h (taken rules k)

-- a path leads to one item
pub item-unique : {X : Type 0} (leads : List ℕ → Option X) (x y : X) (path : List ℕ) → leads path ≡ Some x → leads path ≡ Some y → x ≡ y
item-unique leads x y path p q = ap (λ o. unwrap_or o x) (sym p ∙ q)

-- and whatever is a function of the item and of its parts' values is one
pub leads-unique : {X V O A : Type 0} (rules : Rules X V O) (leads : List ℕ → Option X) (path : List ℕ) (f : X → List V → A) (x y : X) (us vs : List V)
    → LeadsTo rules leads path x us → LeadsTo rules leads path y vs → f x us ≡ f y vs
leads-unique rules leads path f x y us vs h k =
    let e = item-unique leads x y path h.is k.is in
    let w = subst (λ z. HaveValues rules (rules.inside z) vs) (sym e) k.have in
    ap (λ z. f z us) e ∙ ap (f y) (values-unique rules (rules.inside x) us vs h.have w)

-- what a list of paths and what it names is made of
abbrev pub Named : {X V O : Type 0} → Rules X V O → (List ℕ → Option X) → List (List ℕ) → List O → Type 0
Named rules leads [] os = [] ≡ os
Named {X = X} {V = V} {O = O} rules leads (path ∷ paths) os =
    (x : X) × (parts : List V) × (found : List O) × LeadsTo rules leads path x parts × Name rules leads paths found × (rules.names x parts ++ found ≡ os)

pub told : {X V O : Type 0} (rules : Rules X V O) (leads : List ℕ → Option X) {paths : List (List ℕ)} {os : List O} → Name rules leads paths os → Named rules leads paths os
told rules leads no_paths = refl
told rules leads (a_path path paths x parts found l more) = (x, parts, found, l, more, refl)

names-same : {X V O : Type 0} (rules : Rules X V O) (leads : List ℕ → Option X) {paths : List (List ℕ)} {os ps : List O}
    → Name rules leads paths os → Named rules leads paths ps → os ≡ ps
names-same rules leads no_paths e = e
names-same rules leads (a_path path paths x us found l more) (y, vs, found', l', more', e) =
    let p = leads-unique rules leads path rules.names x y us vs l l' in
    let q = names-same rules leads more (told rules leads more') in
    ap (λ os. os ++ found) p ∙ (ap (λ os. rules.names y vs ++ os) q ∙ e)

pub names-unique : {X V O : Type 0} (rules : Rules X V O) (leads : List ℕ → Option X) (paths : List (List ℕ)) (os ps : List O)
    → Name rules leads paths os → Name rules leads paths ps → os ≡ ps
names-unique rules leads paths os ps h k = names-same rules leads h (told rules leads k)
