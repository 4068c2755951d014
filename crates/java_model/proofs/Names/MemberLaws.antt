-- Laws of members: what is inherited, and what name a member has.
use Rattle.std.proofs.Common.{◌≡◌, ◌==◌, ℕ, zero, suc, Bool, true, List, [], ◌∷◌, ◌++◌, Contains, filter, flat_map, ◌⊎◌, inl, inr, refl}
use Rattle.std.proofs.lemmas.Bool.{and_parts, and_from, eqb-true, eq-eqb}
use Rattle.java_tree.specs.declared.occurrence.FieldId.{FieldId}
use Rattle.java_tree.specs.declared.occurrence.MethodId.{MethodId}
use Rattle.java_tree.specs.declared.occurrence.TypeId.{TypeId}
use Rattle.java_model.specs.Names.Lists.{Identifier, or_else, is_among, fresh}
use Rattle.java_model.specs.Names.Environments.{Env, ids, same_id}
use Rattle.java_model.specs.Names.Supertypes.{count, known_supers, declared_types, inherits_type}
use Rattle.java_model.specs.Names.MemberTypes.{in_order, member_types_by}
use Rattle.java_model.specs.Names.Fields.{same_field, all_fields, declared_fields, inherits_field, fields_by}
use Rattle.java_model.specs.Names.Methods.{same_method, all_methods, declared_methods, object_methods, inherits_method, methods_by}
use Rattle.java_model.specs.Names.Laws.{InheritedTypesAreOfSupers, InheritedFieldsAreOfSupers, InheritedMethodsAreOfSupers}
use Rattle.java_model.proofs.Names.Membership.{Among, among, contained, among-append, among-left, among-right, among-filter, filtered, among-flat_map, flat_mapped, among-from_test, test-from_among, among-fresh}
use Rattle.java_model.proofs.Names.Reaching.{seen_or_fresh}
use Rattle.java_model.proofs.Names.SupertypeLaws.{same_id-sound, same_id-alike}

-- ids
pub same_field-sound : (f g : FieldId) → same_field f g ≡ true → f ≡ g
same_field-sound f g e = let p = and_parts (same_id f.of g.of) (f.place == g.place) e in
    let of = same_id-sound f.of g.of p.0 in let place = eqb-true f.place g.place p.1 in
    λ i. record { of = of i; place = place i }

pub same_field-alike : (f : FieldId) → same_field f f ≡ true
same_field-alike f = and_from (same_id f.of f.of) (f.place == f.place) (same_id-alike f.of) (eq-eqb f.place f.place refl)

pub same_method-sound : (m n : MethodId) → same_method m n ≡ true → m ≡ n
same_method-sound m n e = let p = and_parts (same_id m.of n.of) (m.place == n.place) e in
    let of = same_id-sound m.of n.of p.0 in let place = eqb-true m.place n.place p.1 in
    λ i. record { of = of i; place = place i }

pub same_method-alike : (m : MethodId) → same_method m m ≡ true
same_method-alike m = and_from (same_id m.of m.of) (m.place == m.place) (same_id-alike m.of) (eq-eqb m.place m.place refl)

-- or_else
pub or_else_cases : {X : Type 0} (xs : List X) (f : Unit {0} → List X) (x : X) → Among (or_else xs f) x → Among xs x ⊎ Among (f tt) x
or_else_cases [] f x a = inr a
or_else_cases (y ∷ ys) f x a = inl a

pub or_else_first : {X : Type 0} (xs : List X) (f : Unit {0} → List X) (x : X) → Among xs x → Among (or_else xs f) x
or_else_first [] f x a = absurd a
or_else_first (y ∷ ys) f x a = a

pub or_else_more : {X : Type 0} (xs : List X) (f g : Unit {0} → List X) (x : X) → (Among (f tt) x → Among (g tt) x) → Among (or_else xs f) x → Among (or_else xs g) x
or_else_more [] f g x h a = h a
or_else_more (y ∷ ys) f g x h a = a

-- what is found, in order
pub ordered : {X : Type 0} (same : X → X → Bool) (sound : (x y : X) → same x y ≡ true → x ≡ y) (all found : List X) (x : X)
    → Contains (in_order same all found) x → Among all x × Among found x
ordered same sound all found x c =
    let r = among-filter (λ y. is_among same y found) all x (among (in_order same all found) x c) in
    (r.0, among-from_test same sound x found r.1)

pub in_order_too : {X : Type 0} (same : X → X → Bool) (alike : (x : X) → same x x ≡ true) (all found : List X) (x : X)
    → Among all x → Among found x → Contains (in_order same all found) x
in_order_too same alike all found x a f =
    contained (in_order same all found) x (filtered (λ y. is_among same y found) all x a (test-from_among same alike x found f))

-- each element of the answers for some types is one for one of them
abbrev OfOne : {X : Type 0} → (TypeId → List X) → List TypeId → X → Type 0
OfOne answer ts x = (t : TypeId) × Among ts t × Among (answer t) x

more_of_each : {X : Type 0} (p q : TypeId → List X) (ts : List TypeId) (x : X) → ((t : TypeId) → Among (p t) x → Among (q t) x)
    → Among (flat_map p ts) x → Among (flat_map q ts) x
more_of_each p q ts x h a = let r = among-flat_map p ts x a in flat_mapped q ts r.0 x r.1 (h r.0 r.2)

more_filtered : {X : Type 0} (test : X → Bool) (xs ys : List X) (x : X) → (Among xs x → Among ys x) → Among (filter test xs) x → Among (filter test ys) x
more_filtered test xs ys x h a = let r = among-filter test xs x a in filtered test ys x (h r.0) r.1

-- FIELDS
fields_more : (d : ℕ) (env : Env) (t : TypeId) (name : Identifier) (f : FieldId) → Among (fields_by d env t name) f → Among (fields_by (suc d) env t name) f
fields_more zero env t name f a = or_else_first (declared_fields env t name) _ f a
fields_more (suc d) env t name f a = or_else_more (declared_fields env t name) _ _ f
    (λ b. more_filtered (inherits_field env t) _ _ f
    (λ c. more_of_each (λ s. fields_by d env s name) (λ s. fields_by (suc d) env s name) (known_supers env t) f (λ s m. fields_more d env s name f m) c) b) a

fields_step : (d : ℕ) (env : Env) (t : TypeId) (name : Identifier) (f : FieldId) → Among (fields_by d env t name) f
    → Among (declared_fields env t name) f ⊎ OfOne (λ s. fields_by d env s name) (known_supers env t) f
fields_step zero env t name f a = inl a
fields_step (suc d) env t name f a = elim (or_else_cases (declared_fields env t name) _ f a) [
  | inl b ↦ inl b
  | inr b ↦
      let c = among-filter (inherits_field env t) (flat_map (λ s. fields_by d env s name) (known_supers env t)) f b in
      let r = among-flat_map (λ s. fields_by d env s name) (known_supers env t) f c.0 in
      inr (r.0, r.1, fields_more d env r.0 name f r.2)
]

pub inherited_fields_are_of_supers : InheritedFieldsAreOfSupers
inherited_fields_are_of_supers env t name f c =
    let o = ordered same_field same_field-sound (all_fields env) (fields_by (count env) env t name) f c in
    elim (fields_step (count env) env t name f o.1) [
      | inl a ↦ inl (contained (declared_fields env t name) f a)
      | inr r ↦ inr (
        r.0,
        contained (known_supers env t) r.0 r.1,
        in_order_too same_field same_field-alike (all_fields env) (fields_by (count env) env r.0 name) f o.0 r.2,
      )
    ]

-- METHODS
methods_more : (d : ℕ) (env : Env) (t : TypeId) (name : Identifier) (m : MethodId) → Among (methods_by d env t name) m → Among (methods_by (suc d) env t name) m
methods_more zero env t name m a = among-left (declared_methods env t name) _ m a
methods_more (suc d) env t name m a = elim (among-append (declared_methods env t name) _ m a) [
  | inl b ↦ among-left (declared_methods env t name) _ m b
  | inr b ↦ among-right (declared_methods env t name) _ m (more_filtered (inherits_method env t) _ _ m
      (λ c. elim (among-append (flat_map (λ s. methods_by d env s name) (known_supers env t)) (object_methods env t name) m c) [
        | inl e ↦ among-left (flat_map (λ s. methods_by (suc d) env s name) (known_supers env t)) (object_methods env t name) m
            (more_of_each (λ s. methods_by d env s name) (λ s. methods_by (suc d) env s name) (known_supers env t) m (λ s n. methods_more d env s name m n) e)
        | inr e ↦ among-right (flat_map (λ s. methods_by (suc d) env s name) (known_supers env t)) (object_methods env t name) m e
      ]) b)
]

methods_step : (d : ℕ) (env : Env) (t : TypeId) (name : Identifier) (m : MethodId) → Among (methods_by d env t name) m
    → Among (declared_methods env t name) m ⊎ (OfOne (λ s. methods_by d env s name) (known_supers env t) m ⊎ Among (object_methods env t name) m)
methods_step zero env t name m a = inl a
methods_step (suc d) env t name m a = elim (among-append (declared_methods env t name) _ m a) [
  | inl b ↦ inl b
  | inr b ↦
      let c = among-filter (inherits_method env t) (flat_map (λ s. methods_by d env s name) (known_supers env t) ++ object_methods env t name) m b in
      elim (among-append (flat_map (λ s. methods_by d env s name) (known_supers env t)) (object_methods env t name) m c.0) [
        | inl e ↦
            let r = among-flat_map (λ s. methods_by d env s name) (known_supers env t) m e in
            inr (inl (r.0, r.1, methods_more d env r.0 name m r.2))
        | inr e ↦ inr (inr e)
      ]
]

pub inherited_methods_are_of_supers : InheritedMethodsAreOfSupers
inherited_methods_are_of_supers env t name m c =
    let o = ordered same_method same_method-sound (all_methods env) (methods_by (count env) env t name) m c in
    elim (methods_step (count env) env t name m o.1) [
      | inl a ↦ inl (contained (declared_methods env t name) m a)
      | inr r ↦ elim r [
        | inl s ↦ inr (inl (
          s.0,
          contained (known_supers env t) s.0 s.1,
          in_order_too same_method same_method-alike (all_methods env) (methods_by (count env) env s.0 name) m o.0 s.2,
        ))
        | inr a ↦ inr (inr (contained (object_methods env t name) m a))
      ]
    ]

-- MEMBER TYPES
fresh_too : (xs ys : List TypeId) (t : TypeId) → (Among xs t → Among ys t) → Among (fresh same_id [] xs) t → Among (fresh same_id [] ys) t
fresh_too xs ys t h a = elim (seen_or_fresh same_id same_id-sound same_id-alike [] ys t (h (among-fresh same_id [] xs t a))) [
  | inl b ↦ absurd b
  | inr b ↦ b
]

types_more : (d : ℕ) (env : Env) (t : TypeId) (name : Identifier) (m : TypeId) → Among (member_types_by d env t name) m → Among (member_types_by (suc d) env t name) m
types_more zero env t name m a = or_else_first (declared_types env t name) _ m a
types_more (suc d) env t name m a = or_else_more (declared_types env t name) _ _ m
    (λ b. fresh_too _ _ m (λ c. more_filtered (inherits_type env t) _ _ m
    (λ e. more_of_each (λ s. member_types_by d env s name) (λ s. member_types_by (suc d) env s name) (known_supers env t) m (λ s n. types_more d env s name m n) e) c) b) a

types_step : (d : ℕ) (env : Env) (t : TypeId) (name : Identifier) (m : TypeId) → Among (member_types_by d env t name) m
    → Among (declared_types env t name) m ⊎ OfOne (λ s. member_types_by d env s name) (known_supers env t) m
types_step zero env t name m a = inl a
types_step (suc d) env t name m a = elim (or_else_cases (declared_types env t name) _ m a) [
  | inl b ↦ inl b
  | inr b ↦
      let found = flat_map (λ s. member_types_by d env s name) (known_supers env t) in
      let c = among-filter (inherits_type env t) found m (among-fresh same_id [] (filter (inherits_type env t) found) m b) in
      let r = among-flat_map (λ s. member_types_by d env s name) (known_supers env t) m c.0 in
      inr (r.0, r.1, types_more d env r.0 name m r.2)
]

pub inherited_types_are_of_supers : InheritedTypesAreOfSupers
inherited_types_are_of_supers env t name m c =
    let o = ordered same_id same_id-sound (ids env) (member_types_by (count env) env t name) m c in
    elim (types_step (count env) env t name m o.1) [
      | inl a ↦ inl (contained (declared_types env t name) m a)
      | inr r ↦ inr (
        r.0,
        contained (known_supers env t) r.0 r.1,
        in_order_too same_id same_id-alike (ids env) (member_types_by (count env) env r.0 name) m o.0 r.2,
      )
    ]
