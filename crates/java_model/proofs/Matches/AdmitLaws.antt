-- A pattern that a reference fits asks for its key.
use Rattle.std.proofs.Common.{◌≡◌, ◌<◌, ◌^◌, ◌==◌, ℕ, Bool, true, false, cond, ◌&&◌, ◌||◌, List, [], ◌∷◌, length, bytes_eq, decimal, nat_eq, Option, Some, None, option_map, inl, inr, refl, sym, ap, ◌∙◌, subst, true≢false}
use Rattle.std.specs.Option.{option_map_or}
use Rattle.std.specs.List.{list_any}
use Rattle.std.specs.Str.{byte}
use lib.Pointwise.{pointwise}
use Rattle.std.proofs.lemmas.Bool.{and_parts, and_from, or_cases, or_right, eqb-true, eq-eqb}
use Rattle.std.proofs.lemmas.Option.{same_Some}
use Rattle.java_tree.specs.declared.key.Category.{Category}
use Rattle.java_tree.specs.declared.key.Category.TheVariants as categories
use Rattle.java_tree.specs.declared.key.Key.{Key}
use Rattle.java_tree.specs.declared.occurrence.Access.{Access}
use Rattle.java_tree.specs.declared.occurrence.Binding.{Binding}
use Rattle.java_tree.specs.declared.occurrence.Binding.TheVariants as bindings
use Rattle.java_tree.specs.declared.occurrence.MethodId.{MethodId}
use Rattle.java_tree.specs.declared.occurrence.OccKind.{OccKind}
use Rattle.java_tree.specs.declared.occurrence.OccKind.TheVariants as occ
use Rattle.java_tree.specs.declared.occurrence.Occurrence.{Occurrence}
use Rattle.java_tree.specs.declared.outline.OutlineField.{OutlineField}
use Rattle.java_tree.specs.declared.search.Limit.{Limit}
use Rattle.java_tree.specs.declared.search.Limit.TheVariants as limits
use Rattle.java_tree.specs.declared.search.What.{What}
use Rattle.java_tree.specs.declared.search.What.TheVariants as whats
use Rattle.java_tree.specs.declared.types.JType.{JType}
use Rattle.java_model.specs.Names.Environments.{Env, Declared, declared_at, name_at}
use Rattle.java_model.specs.Names.Fields.{field_at}
use Rattle.java_model.specs.Names.Methods.{method_name, params, overridden}
use Rattle.java_model.specs.SearchPattern.NameMatch.{name_matches}
use Rattle.java_model.specs.SearchPattern.Parts.{Pattern, has_limit}
use Rattle.java_model.specs.Matches.TypePatterns.{qualification_of, fits_qualification, fits_declared, fits_param}
use Rattle.java_model.specs.Matches.Fits.{is_declaration, is_reference, is_super, is_field, is_field_ref, reads, writes, picks, fits_params, fits_count, fits_declaring, fits_method, fits_constructor, fits_bound_method, fits_binding}
use Rattle.java_model.specs.Matches.Admits.{refers, declares, asks, key_fields, has_count, is_package, named_by, field_is, admits_key, admits}
use Rattle.java_model.specs.Matches.Keys.{key_of, counted}
use Rattle.java_model.specs.Matches.Laws.{reference_key, CallIsSpelled, NameIsSpelled, IsSpelled, FittingReferencesAreAdmitted}
use Rattle.java_model.proofs.Names.Membership.{Among, contained}
use Rattle.java_model.proofs.Names.OverloadLaws.{same_length, overridden_methods_are_alike}
use Rattle.java_model.proofs.Matches.KeyFields.{fields_of_name, fields_of_counted}

-- what a search looks for, and the category that it asks for
category_of : OccKind → Category
category_of occ.MethodRef = categories.MethodRef
category_of occ.CtorRef = categories.ConstructorRef
category_of _ = categories.Ref

refers_by : (what : What) (k : OccKind) → is_reference what k ≡ true → refers what (category_of k) ≡ true
unfolding category_of
refers_by whats.Class occ.TypeRef h = refl
refers_by whats.Class occ.NameRef h = refl
refers_by whats.Method occ.MethodRef h = refl
refers_by whats.Constructor occ.CtorRef h = refl
refers_by whats.Field occ.FieldRef h = refl
refers_by whats.Field occ.NameRef h = refl
refers_by whats.Package occ.PackageRef h = refl
refers_by _ _ h = absurd (true≢false (sym h))

no_declaration : (what : What) (k : OccKind) (name : List ℕ) (count : ℕ) → is_declaration what k ≡ true → reference_key k name count ≡ None
no_declaration whats.Class occ.TypeDecl name count h = refl
no_declaration whats.Method occ.MethodDecl name count h = refl
no_declaration whats.Constructor occ.CtorDecl name count h = refl
no_declaration whats.Field occ.FieldDecl name count h = refl
no_declaration whats.Package occ.PackageDecl name count h = refl
no_declaration _ _ name count h = absurd (true≢false (sym h))

no_super : (what : What) (k : OccKind) (name : List ℕ) (count : ℕ) → is_super what k ≡ true → reference_key k name count ≡ None
no_super whats.Class occ.Super name count h = refl
no_super _ _ name count h = absurd (true≢false (sym h))

of_field : (what : What) (k : OccKind) → is_field_ref what k ≡ true → (is_reference what k ≡ true) × (has_limit what limits.Writes ≡ true)
of_field whats.Field occ.FieldRef h = (refl, refl)
of_field _ _ h = absurd (true≢false (sym h))

reads_of_field : (what : What) → is_field what ≡ true → has_limit what limits.Reads ≡ true
reads_of_field whats.Field h = refl
reads_of_field _ h = absurd (true≢false (sym h))

nothing_is_something : {X : Type 0} (x : X) → None ≡ Some x → ⊥
nothing_is_something x e = cc

asked : (what : What) (limit : Limit) (k : OccKind) (how : Access) (name : List ℕ) (count : ℕ) (key : Key)
    → reference_key k name count ≡ Some key → picks what limit k how ≡ true
    → (is_reference what k ≡ true) × (asks what limit (category_of k) ≡ true)
asked what limits.Declarations k how name count key r h = absurd (nothing_is_something key (sym (no_declaration what k name count h) ∙ r))
asked what limits.References k how name count key r h = (h, refers_by what k h)
asked what limits.Implementors k how name count key r h = absurd (nothing_is_something key (sym (no_super what k name count h) ∙ r))
asked what limits.All k how name count key r h = elim (or_cases (is_declaration what k) (is_reference what k) h) [
  | inl d ↦ absurd (nothing_is_something key (sym (no_declaration what k name count d) ∙ r))
  | inr g ↦ (g, or_right (declares what (category_of k)) (refers what (category_of k)) (refers_by what k g))
]
asked what limits.Reads k how name count key r h =
    let p = and_parts (is_field what) (is_reference what k) (and_parts (is_field what && is_reference what k) (reads how) h).0 in
    (p.1, and_from (has_limit what limits.Reads) (refers what (category_of k)) (reads_of_field what p.0) (refers_by what k p.1))
asked what limits.Writes k how name count key r h =
    let p = of_field what k (and_parts (is_field_ref what k) (writes how) h).0 in
    (p.0, and_from (has_limit what limits.Writes) (refers what (category_of k)) p.1 (refers_by what k p.0))

-- NAMES
abbrev pub Named : Pattern → List ℕ → Type 0
Named p name = name_matches p.rule p.case p.name name ≡ true

pub class_by : (p : Pattern) (o : Option Declared) (name : List ℕ) → option_map (λ d. d.type.name) o ≡ Some name
    → option_map_or (fits_declared p.rule p.case p.qualification p.name) o false ≡ true → Named p name
class_by p None name s f = absurd (true≢false (sym f))
class_by p (Some d) name s f =
    subst (λ n. name_matches p.rule p.case p.name n ≡ true) (same_Some d.type.name name s)
    (and_parts (name_matches p.rule p.case p.name d.type.name) (fits_qualification p.rule p.case p.qualification (qualification_of d)) f).0

pub field_by : (p : Pattern) (o : Option OutlineField) (name : List ℕ) → option_map (λ x. x.name) o ≡ Some name
    → option_map_or (λ x. name_matches p.rule p.case p.name x.name) o false ≡ true → Named p name
field_by p None name s f = absurd (true≢false (sym f))
field_by p (Some x) name s f = subst (λ n. name_matches p.rule p.case p.name n ≡ true) (same_Some x.name name s) f

no_method : (env : Env) (p : Pattern) (what : What) (k : OccKind) (m : MethodId) → category_of k ≡ categories.Ref → is_reference what k ≡ true
    → fits_bound_method env p what k m ≡ false
unfolding category_of
no_method env p whats.Class k m c h = refl
no_method env p whats.Field k m c h = refl
no_method env p whats.Package k m c h = refl
no_method env p whats.Method occ.MethodRef m c h = absurd cc
no_method env p whats.Method _ m c h = absurd (true≢false (sym h))
no_method env p whats.Constructor occ.CtorRef m c h = absurd cc
no_method env p whats.Constructor _ m c h = absurd (true≢false (sym h))

pub named_spelled : (env : Env) (p : Pattern) (o : Occurrence) (b : Binding) → ((m : MethodId) → fits_bound_method env p p.what o.kind m ≡ false)
    → NameIsSpelled env o b → fits_binding env p o b ≡ true → Named p o.name
named_spelled env p o (bindings.Package name) none s f = subst (λ n. name_matches p.rule p.case p.name n ≡ true) s f
named_spelled env p o (bindings.Class t) none s f = class_by p (declared_at env t) o.name s f
named_spelled env p o (bindings.Field g) none s f =
    field_by p (field_at env g) o.name s (and_parts (option_map_or (λ x. name_matches p.rule p.case p.name x.name) (field_at env g) false) (fits_declaring env p g.of) f).0
named_spelled env p o (bindings.Method m) none s f = absurd (true≢false (sym f ∙ none m))
named_spelled env p o bindings.Nothing none s f = (and_parts (name_matches p.rule p.case p.name o.name) (fits_count p o.count) f).0

named_ref : (env : Env) (p : Pattern) (o : Occurrence) (b : Binding) → category_of o.kind ≡ categories.Ref → is_reference p.what o.kind ≡ true
    → NameIsSpelled env o b → fits_binding env p o b ≡ true → Named p o.name
named_ref env p o b c h = named_spelled env p o b (λ m. no_method env p p.what o.kind m c h)

-- CALLS: the name matches, and there are as many arguments as parameters are given
same_text : (xs : List ℕ) → bytes_eq xs xs ≡ true
same_text [] = refl
same_text (x ∷ xs) = and_from (nat_eq x x) (bytes_eq xs xs) (eq-eqb x x refl) (same_text xs)

count_by : (o : Option (List (List ℕ))) (count : ℕ) → ((texts : List (List ℕ)) → o ≡ Some texts → length texts ≡ count)
    → option_map_or (λ texts. bytes_eq (decimal (length texts)) (decimal count)) o true ≡ true
count_by None count h = refl
count_by (Some texts) count h = subst (λ n. bytes_eq (decimal (length texts)) (decimal n) ≡ true) (h texts refl) (same_text (decimal (length texts)))

by_params : (env : Env) (p : Pattern) (ts : List JType) (o : Option (List (List ℕ)))
    → option_map_or (λ texts. pointwise (fits_param env p.rule p.case) texts ts) o true ≡ true
    → (texts : List (List ℕ)) → o ≡ Some texts → length texts ≡ length ts
by_params env p ts None f texts e = absurd cc
by_params env p ts (Some us) f texts e = ap length (sym (same_Some us texts e)) ∙ same_length (fits_param env p.rule p.case) us ts f

by_count : (count : ℕ) (o : Option (List (List ℕ))) → option_map_or (λ texts. length texts == count) o true ≡ true
    → (texts : List (List ℕ)) → o ≡ Some texts → length texts ≡ count
by_count count None f texts e = absurd cc
by_count count (Some us) f texts e = ap length (sym (same_Some us texts e)) ∙ eqb-true (length us) count f

pub record IsCalled (p : Pattern) (name : List ℕ) (count : ℕ) : Type 0 where
  pub named : name_matches p.rule p.case p.name name ≡ true
  pub counted_as : has_count p (decimal count) ≡ true

unbound_call : (p : Pattern) (o : Occurrence) → name_matches p.rule p.case p.name o.name && fits_count p o.count ≡ true → IsCalled p o.name o.count
unbound_call p o f =
    let r = and_parts (name_matches p.rule p.case p.name o.name) (fits_count p o.count) f in
    record { named = r.0; counted_as = count_by p.params o.count (by_count o.count p.params r.1) }

method_parts : (a b c : Bool) → (a && b && c) ≡ true → (a ≡ true) × (c ≡ true)
method_parts false b c h = absurd (true≢false (sym h))
method_parts true false c h = absurd (true≢false (sym h))
method_parts true true c h = (refl, h)

pub method_called : (env : Env) (p : Pattern) (m : MethodId) (name : List ℕ) (count : ℕ) → method_name env m ≡ name → length (params env m) ≡ count
    → fits_method env p m ≡ true → IsCalled p name count
method_called env p m name count n c f =
    let r = method_parts (name_matches p.rule p.case p.name (method_name env m)) (fits_declaring env p m.of) (fits_params env p (params env m)) f in
    record {
      named = subst (λ x. name_matches p.rule p.case p.name x ≡ true) n r.0;
      counted_as = count_by p.params count (λ texts e. by_params env p (params env m) p.params r.1 texts e ∙ c);
    }

one_passes : (test : MethodId → Bool) (ms : List MethodId) → list_any test ms ≡ true → (m : MethodId) × Among ms m × (test m ≡ true)
one_passes test [] h = absurd (true≢false (sym h))
one_passes test (m ∷ ms) h = elim (or_cases (test m) (list_any test ms) h) [
  | inl e ↦ (m, inl refl, e)
  | inr e ↦ let r = one_passes test ms e in (r.0, inr r.1, r.2)
]

method_reference : (env : Env) (p : Pattern) (m : MethodId) (name : List ℕ) (count : ℕ) → method_name env m ≡ name → length (params env m) ≡ count
    → (fits_method env p m || list_any (fits_method env p) (overridden env m)) ≡ true → IsCalled p name count
method_reference env p m name count n c f = elim (or_cases (fits_method env p m) (list_any (fits_method env p) (overridden env m)) f) [
  | inl e ↦ method_called env p m name count n c e
  | inr e ↦
      let r = one_passes (fits_method env p) (overridden env m) e in
      let alike = overridden_methods_are_alike env m r.0 (contained (overridden env m) r.0 r.1) in
      method_called env p r.0 name count (alike.0 ∙ n) (alike.1 ∙ c) r.2
]

pub constructor_called : (env : Env) (p : Pattern) (m : MethodId) (name : List ℕ) (count : ℕ) → name_at env m.of ≡ Some name → length (params env m) ≡ count
    → fits_constructor env p m ≡ true → IsCalled p name count
constructor_called env p m name count n c f =
    let r = and_parts (option_map_or (fits_declared p.rule p.case p.qualification p.name) (declared_at env m.of) false) (fits_params env p (params env m)) f in
    record {
      named = class_by p (declared_at env m.of) name n r.0;
      counted_as = count_by p.params count (λ texts e. by_params env p (params env m) p.params r.1 texts e ∙ c);
    }

is_of_method : (what : What) → is_reference what occ.MethodRef ≡ true → what ≡ whats.Method
is_of_method whats.Method h = refl
is_of_method _ h = absurd (true≢false (sym h))

is_of_constructor : (what : What) → is_reference what occ.CtorRef ≡ true → what ≡ whats.Constructor
is_of_constructor whats.Constructor h = refl
is_of_constructor _ h = absurd (true≢false (sym h))

called_method : (env : Env) (p : Pattern) (o : Occurrence) (b : Binding) → p.what ≡ whats.Method → o.kind ≡ occ.MethodRef
    → CallIsSpelled (λ m. Some (method_name env m)) env o b → fits_binding env p o b ≡ true → IsCalled p o.name o.count
called_method env p o (bindings.Method m) w k s f =
    method_reference env p m o.name o.count (same_Some (method_name env m) o.name s.0) s.1
    (ap (λ x. fits_bound_method env p whats.Method x m) (sym k) ∙ ap (λ x. fits_bound_method env p x o.kind m) (sym w) ∙ f)
called_method env p o bindings.Nothing w k s f = unbound_call p o f
called_method env p o (bindings.Package name) w k s f = absurd s
called_method env p o (bindings.Class t) w k s f = absurd s
called_method env p o (bindings.Field g) w k s f = absurd s

called_constructor : (env : Env) (p : Pattern) (o : Occurrence) (b : Binding) → p.what ≡ whats.Constructor
    → CallIsSpelled (λ m. name_at env m.of) env o b → fits_binding env p o b ≡ true → IsCalled p o.name o.count
called_constructor env p o (bindings.Method m) w s f =
    constructor_called env p m o.name o.count s.0 s.1 (ap (λ x. fits_bound_method env p x o.kind m) (sym w) ∙ f)
called_constructor env p o bindings.Nothing w s f = unbound_call p o f
called_constructor env p o (bindings.Package name) w s f = absurd s
called_constructor env p o (bindings.Class t) w s f = absurd s
called_constructor env p o (bindings.Field g) w s f = absurd s

-- KEYS
not_package : (what : What) (k : OccKind) (name : List ℕ) (count : ℕ) (key : Key) → reference_key k name count ≡ Some key → is_reference what k ≡ true
    → is_package what ≡ false
not_package whats.Class k name count key r h = refl
not_package whats.Method k name count key r h = refl
not_package whats.Constructor k name count key r h = refl
not_package whats.Field k name count key r h = refl
not_package whats.Package occ.PackageRef name count key r h = absurd (nothing_is_something key r)
not_package whats.Package _ name count key r h = absurd (true≢false (sym h))

-- a field of a key whose fields are these
pub field_of : (fields wanted : List (List ℕ)) (at : ℕ) (test : List ℕ → Bool) → fields ≡ wanted → field_is wanted at test ≡ true → field_is fields at test ≡ true
field_of fields wanted at test e h = ap (λ fs. field_is fs at test) e ∙ h

chosen_by : (b : Bool) (x y : Bool) → b ≡ false → y ≡ true → cond b x y ≡ true
chosen_by true x y h e = absurd (true≢false h)
chosen_by false x y h e = e

ref_admitted : (p : Pattern) (name : List ℕ) → list_any (λ b. b == byte "/") name ≡ false → asks p.what p.limit categories.Ref ≡ true → is_package p.what ≡ false
    → Named p name → admits p categories.Ref (key_of categories.Ref (name ∷ [])).text ≡ true
ref_admitted p name w a k n =
    let text = (key_of categories.Ref (name ∷ [])).text in
    and_from (asks p.what p.limit categories.Ref) (admits_key p categories.Ref text) a
    (chosen_by (is_package p.what) _ (named_by p text) k
    (field_of (key_fields text) (name ∷ []) 0 (name_matches p.rule p.case p.name) (fields_of_name name w) n))

pub called_by : (p : Pattern) (name : List ℕ) (count : ℕ) → list_any (λ b. b == byte "/") name ≡ false → count < 2 ^ 64 → IsCalled p name count
    → (named_by p (counted categories.MethodRef name count).text && field_is (key_fields (counted categories.MethodRef name count).text) 1 (has_count p)) ≡ true
called_by p name count w l c =
    let text = (counted categories.MethodRef name count).text in
    let fields = fields_of_counted name count w l in
    and_from (named_by p text) (field_is (key_fields text) 1 (has_count p))
    (field_of (key_fields text) (name ∷ decimal count ∷ []) 0 (name_matches p.rule p.case p.name) fields c.named)
    (field_of (key_fields text) (name ∷ decimal count ∷ []) 1 (has_count p) fields c.counted_as)

finish : (env : Env) (p : Pattern) (o : Occurrence) (k : OccKind) → o.kind ≡ k → (key : Key) → reference_key k o.name o.count ≡ Some key
    → IsSpelled env o k o.binding → list_any (λ b. b == byte "/") o.name ≡ false → o.count < 2 ^ 64
    → is_reference p.what k ≡ true → asks p.what p.limit (category_of k) ≡ true → fits_binding env p o o.binding ≡ true
    → admits p key.category key.text ≡ true
unfolding category_of
finish env p o occ.TypeRef e key r s w l h a f = subst (λ x. admits p x.category x.text ≡ true) (same_Some _ key r)
    (ref_admitted p o.name w a (not_package p.what occ.TypeRef o.name o.count key r h)
    (named_ref env p o o.binding (ap category_of e) (ap (is_reference p.what) e ∙ h) s f))
finish env p o occ.NameRef e key r s w l h a f = subst (λ x. admits p x.category x.text ≡ true) (same_Some _ key r)
    (ref_admitted p o.name w a (not_package p.what occ.NameRef o.name o.count key r h)
    (named_ref env p o o.binding (ap category_of e) (ap (is_reference p.what) e ∙ h) s f))
finish env p o occ.FieldRef e key r s w l h a f = subst (λ x. admits p x.category x.text ≡ true) (same_Some _ key r)
    (ref_admitted p o.name w a (not_package p.what occ.FieldRef o.name o.count key r h)
    (named_ref env p o o.binding (ap category_of e) (ap (is_reference p.what) e ∙ h) s f))
finish env p o occ.MethodRef e key r s w l h a f = subst (λ x. admits p x.category x.text ≡ true) (same_Some _ key r)
    (and_from (asks p.what p.limit categories.MethodRef) _ a
    (called_by p o.name o.count w l (called_method env p o o.binding (is_of_method p.what h) e s f)))
finish env p o occ.CtorRef e key r s w l h a f = subst (λ x. admits p x.category x.text ≡ true) (same_Some _ key r)
    (and_from (asks p.what p.limit categories.ConstructorRef) _ a
    (called_by p o.name o.count w l (called_constructor env p o o.binding (is_of_constructor p.what h) s f)))
finish env p o _ e key r s w l h a f = absurd (nothing_is_something key r)

pub fitting_references_are_admitted : FittingReferencesAreAdmitted
fitting_references_are_admitted env p o key r s w l f =
    let q = and_parts (picks p.what p.limit o.kind o.access) (fits_binding env p o o.binding) f in
    let a = asked p.what p.limit o.kind o.access o.name o.count key r q.0 in
    finish env p o o.kind refl key r s w l a.0 a.1 q.1
