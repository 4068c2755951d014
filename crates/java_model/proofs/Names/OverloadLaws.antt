-- Laws of overriding and of the choice of overloads, and the names of members.
use Rattle.std.proofs.Common.{◌≡◌, ℕ, zero, suc, Bool, true, false, cond, not, ◌&&◌, ◌||◌, List, [], ◌∷◌, ◌++◌, length, filter, find, flat_map, nat_eq, bytes_eq, Option, Some, None, option_map, inl, inr, refl, sym, ap, ◌∙◌, subst, true≢false}
use Rattle.std.specs.Option.{option_map_or}
use Rattle.std.specs.List.{list_any}
use lib.Pointwise.{pointwise}
use Rattle.std.proofs.lemmas.Bool.{and_parts, eqb-true}
use Rattle.std.proofs.lemmas.Option.{same_Some}
use Rattle.java_tree.specs.declared.occurrence.FieldId.{FieldId}
use Rattle.java_tree.specs.declared.occurrence.MethodId.{MethodId}
use Rattle.java_tree.specs.declared.occurrence.TypeId.{TypeId}
use Rattle.java_tree.specs.declared.outline.OutlineField.{OutlineField}
use Rattle.java_tree.specs.declared.types.Choice.TheVariants as choices
use Rattle.java_tree.specs.declared.types.JType.{JType}
use Rattle.java_model.specs.Names.Lists.{Identifier, is_among, fresh, reached}
use Rattle.java_model.specs.Names.Environments.{Env, declared, declared_at, object}
use Rattle.java_model.specs.Names.Supertypes.{ancestors, count, known_supers}
use Rattle.java_model.specs.Names.Types.{same_type}
use Rattle.java_model.specs.Names.Fields.{same_field, field_at, all_fields, is_field_named, declared_fields, inherits_field, fields_by, fields_in}
use Rattle.java_model.specs.Names.Methods.{same_method, all_methods, method_name, params, is_static, is_abstract, same_signature, is_from_super, is_from_object, overrides_directly, directly_overridden, declared_methods, object_methods, public_methods, inherits_method, methods_by, methods_in, constructors_in, is_bare_interface}
use Rattle.java_model.specs.Names.Overloads.{is_applicable, is_maximal, maximal, by_declaration, have_one_signature, first_or, one_of_signature, most_specific, is_unknown, chosen}
use Rattle.java_model.specs.Names.Laws.{OverriddenMethodsAreAlike, ChosenMethodFits, FieldsHaveTheirName, MethodsHaveTheirName}
use Rattle.java_model.proofs.Names.Membership.{Among, contained, among-append, among-filter, among-flat_map, among-from_test, among-fresh}
use Rattle.java_model.proofs.Names.MemberLaws.{same_method-sound, same_field-sound, ordered, or_else_cases}

-- equal texts, and lists that are compared one by one
pub same_bytes : (xs ys : List ℕ) → bytes_eq xs ys ≡ true → xs ≡ ys
same_bytes [] [] e = refl
same_bytes [] (y ∷ ys) e = absurd (true≢false (sym e))
same_bytes (x ∷ xs) [] e = absurd (true≢false (sym e))
same_bytes (x ∷ xs) (y ∷ ys) e =
    let p = and_parts (nat_eq x y) (bytes_eq xs ys) e in
    let first = eqb-true x y p.0 in let rest = same_bytes xs ys p.1 in
    λ i. first i ∷ rest i

pub same_length : {X Y : Type 0} (test : X → Y → Bool) (xs : List X) (ys : List Y) → pointwise test xs ys ≡ true → length xs ≡ length ys
same_length test [] [] e = refl
same_length test [] (y ∷ ys) e = absurd (true≢false (sym e))
same_length test (x ∷ xs) [] e = absurd (true≢false (sym e))
same_length test (x ∷ xs) (y ∷ ys) e =
    ap suc (same_length test xs ys (and_parts (test x y) (pointwise test xs ys) e).1)

-- what is reached has each property that the first one has, and that goes along
reached_keeps : {X : Type 0} (same : X → X → Bool) (next : X → List X) (P : X → Type 0) → ((x y : X) → P x → Among (next x) y → P y)
    → (d : ℕ) (front seen : List X) → ((x : X) → Among front x → P x) → ((x : X) → Among seen x → P x)
    → (x : X) → Among (reached d same next front seen) x → P x
reached_keeps same next P goes zero front seen f s x a = s x a
reached_keeps same next P goes (suc d) [] seen f s x a = s x a
reached_keeps same next P goes (suc d) (y ∷ ys) seen f s x a =
    let new = fresh same seen (flat_map next (y ∷ ys)) in
    let new_are : (z : _) → Among new z → P z = λ z b.
    let r = among-flat_map next (y ∷ ys) z (among-fresh same seen (flat_map next (y ∷ ys)) z b) in goes r.0 z (f r.0 r.1) r.2 in
    reached_keeps same next P goes d new (seen ++ new) new_are
    (λ z b. elim (among-append seen new z b) [
      | inl c ↦ s z c
      | inr c ↦ new_are z c
    ]) x a

-- OVERRIDING
abbrev Alike : Env → MethodId → MethodId → Type 0
Alike env m n = (method_name env n ≡ method_name env m) × (length (params env n) ≡ length (params env m))

alike_signature : (env : Env) (m n : MethodId) → same_signature env m n ≡ true → Alike env m n
alike_signature env m n e =
    let p = and_parts (bytes_eq (method_name env m) (method_name env n)) (pointwise same_type (params env m) (params env n)) e in
    (sym (same_bytes (method_name env m) (method_name env n) p.0), sym (same_length same_type (params env m) (params env n) p.1))

third : (a b c d : Bool) → (a && b && c && d) ≡ true → c ≡ true
third false b c d h = absurd (true≢false (sym h))
third true false c d h = absurd (true≢false (sym h))
third true true false d h = absurd (true≢false (sym h))
third true true true d h = refl

overrides_alike : (env : Env) (m n : MethodId) → overrides_directly env m n ≡ true → Alike env m n
overrides_alike env m n e = alike_signature env m n
    (third (not (is_static env m)) (not (is_static env n)) (same_signature env m n)
    (is_from_super env n m.of || list_any (is_from_object env n) (m.of ∷ ancestors env m.of)) e)

pub overridden_methods_are_alike : OverriddenMethodsAreAlike
overridden_methods_are_alike env m n c =
    let o = ordered same_method same_method-sound (all_methods env) (reached (length (all_methods env)) same_method (directly_overridden env) (m ∷ []) []) n c in
    reached_keeps same_method (directly_overridden env) (Alike env m)
    (λ x y p a. let q = overrides_alike env x y (among-filter (overrides_directly env x) (all_methods env) y a).1 in (q.0 ∙ p.0, q.1 ∙ p.1))
    (length (all_methods env)) (m ∷ []) []
    (λ x a. elim a [
      | inl e ↦ subst (Alike env m) e (refl, refl)
      | inr b ↦ absurd b
    ])
    (λ x a. absurd a) n o.1

-- CHOICE
one_is : (m n : MethodId) → choices.One m ≡ choices.One n → m ≡ n
one_is m n e = cc

found_by : (p : MethodId → Bool) (x : MethodId) (xs : List MethodId) (m : MethodId) (b : Bool) → cond b (Some x) (find p xs) ≡ Some m
    → (find p xs ≡ Some m → Among xs m) → Among (x ∷ xs) m
found_by p x xs m true e rest = inl (same_Some x m e)
found_by p x xs m false e rest = inr (rest e)

found : (p : MethodId → Bool) (ms : List MethodId) (m : MethodId) → find p ms ≡ Some m → Among ms m
found p [] m e = absurd cc
found p (x ∷ xs) m e = found_by p x xs m (p x) e (found p xs m)

first_or_among : (o : Option MethodId) (ms : List MethodId) (m : MethodId) → ((n : MethodId) → o ≡ Some n → Among ms n) → first_or o ms ≡ choices.One m → Among ms m
first_or_among (Some n) ms m h e = subst (Among ms) (one_is n m e) (h n refl)
first_or_among None [] m h e = absurd cc
first_or_among None (n ∷ ms) m h e = inl (one_is n m e)

one_of_signature_among : (env : Env) (ms : List MethodId) (m : MethodId) → one_of_signature env ms ≡ choices.One m → Among ms m
one_of_signature_among env ms m e = first_or_among (find (λ n. not (is_abstract env n)) ms) ms m (λ n h. found (λ n. not (is_abstract env n)) ms n h) e

by_signature : (env : Env) (ms : List MethodId) (m : MethodId) (b : Bool) → cond b (one_of_signature env (by_declaration env ms)) (choices.Ambiguous ms) ≡ choices.One m → Among ms m
by_signature env ms m true e =
    let all = flat_map (λ d. methods_in d ++ constructors_in env d) (declared env) in
    let r = among-filter (λ n. is_among same_method n ms) all m (one_of_signature_among env (by_declaration env ms) m e) in
    among-from_test same_method same_method-sound m ms r.1
by_signature env ms m false e = absurd cc

most_specific_among : (env : Env) (ms : List MethodId) (m : MethodId) → most_specific env ms ≡ choices.One m → Among ms m
most_specific_among env [] m e = absurd cc
most_specific_among env (n ∷ []) m e = inl (one_is n m e)
most_specific_among env (n ∷ o ∷ ms) m e = by_signature env (n ∷ o ∷ ms) m (have_one_signature env (n ∷ o ∷ ms)) e

by_unknown : (env : Env) (ms : List MethodId) (m : MethodId) (b : Bool) → cond b choices.UnknownArgs (most_specific env (maximal env ms)) ≡ choices.One m → Among ms m
by_unknown env ms m true e = absurd cc
by_unknown env ms m false e = (among-filter (is_maximal env ms) ms m (most_specific_among env (maximal env ms) m e)).0

chosen_among : (env : Env) (args : List JType) (ms : List MethodId) (m : MethodId) → chosen env args ms ≡ choices.One m → Among ms m
chosen_among env args [] m e = absurd cc
chosen_among env args (n ∷ []) m e = inl (one_is n m e)
chosen_among env args (n ∷ o ∷ ms) m e = by_unknown env (n ∷ o ∷ ms) m (list_any is_unknown args) e

pub chosen_method_fits : ChosenMethodFits
chosen_method_fits env ms args m e =
    let r = among-filter (is_applicable env args) ms m (chosen_among env args (filter (is_applicable env args) ms) m e) in
    (contained ms m r.0, sym (same_length _ args (params env m) r.1))

-- NAMES
pub named_by : (name : Identifier) (o : Option OutlineField) → option_map_or (λ f. bytes_eq name f.name) o false ≡ true → option_map (λ f. f.name) o ≡ Some name
named_by name None e = absurd (true≢false (sym e))
named_by name (Some f) e = ap Some (sym (same_bytes name f.name e))

pub declared_name : (env : Env) (t : TypeId) (name : Identifier) (f : FieldId) → Among (declared_fields env t name) f → is_field_named env name f ≡ true
declared_name env t name f a = (among-filter (is_field_named env name) (option_map_or fields_in (declared_at env t) []) f a).1

fields_name : (d : ℕ) (env : Env) (t : TypeId) (name : Identifier) (f : FieldId) → Among (fields_by d env t name) f → is_field_named env name f ≡ true
fields_name zero env t name f a = declared_name env t name f a
fields_name (suc d) env t name f a = elim (or_else_cases (declared_fields env t name) _ f a) [
  | inl b ↦ declared_name env t name f b
  | inr b ↦
      let c = among-filter (inherits_field env t) (flat_map (λ s. fields_by d env s name) (known_supers env t)) f b in
      let r = among-flat_map (λ s. fields_by d env s name) (known_supers env t) f c.0 in
      fields_name d env r.0 name f r.2
]

pub fields_have_their_name : FieldsHaveTheirName
fields_have_their_name env t name f c =
    let o = ordered same_field same_field-sound (all_fields env) (fields_by (count env) env t name) f c in
    named_by name (field_at env f) (fields_name (count env) env t name f o.1)

declared_method_name : (env : Env) (t : TypeId) (name : Identifier) (m : MethodId) → Among (declared_methods env t name) m → method_name env m ≡ name
declared_method_name env t name m a =
    sym (same_bytes name (method_name env m) (among-filter (λ n. bytes_eq name (method_name env n)) (option_map_or methods_in (declared_at env t) []) m a).1)

object_by : (b : Bool) (ms : List MethodId) (m : MethodId) → Among (cond b ms []) m → Among ms m
object_by true ms m a = a
object_by false ms m a = absurd a

object_method_name : (env : Env) (t : TypeId) (name : Identifier) (m : MethodId) → Among (object_methods env t name) m → method_name env m ≡ name
object_method_name env t name m a =
    let b = object_by (option_map_or is_bare_interface (declared_at env t) false) (public_methods env (object env) name) m a in
    declared_method_name env (object env) name m (among-filter _ (declared_methods env (object env) name) m b).0

methods_name : (d : ℕ) (env : Env) (t : TypeId) (name : Identifier) (m : MethodId) → Among (methods_by d env t name) m → method_name env m ≡ name
methods_name zero env t name m a = declared_method_name env t name m a
methods_name (suc d) env t name m a = elim (among-append (declared_methods env t name) _ m a) [
  | inl b ↦ declared_method_name env t name m b
  | inr b ↦
      let c = among-filter (inherits_method env t) (flat_map (λ s. methods_by d env s name) (known_supers env t) ++ object_methods env t name) m b in
      elim (among-append (flat_map (λ s. methods_by d env s name) (known_supers env t)) (object_methods env t name) m c.0) [
        | inl e ↦ let r = among-flat_map (λ s. methods_by d env s name) (known_supers env t) m e in methods_name d env r.0 name m r.2
        | inr e ↦ object_method_name env t name m e
      ]
]

pub methods_have_their_name : MethodsHaveTheirName
methods_have_their_name env t name m c =
    let o = ordered same_method same_method-sound (all_methods env) (methods_by (count env) env t name) m c in
    methods_name (count env) env t name m o.1
