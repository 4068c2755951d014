-- A pattern that a declaration or a supertype fits asks for its key.
use Rattle.std.proofs.Common.{◌≡◌, ℕ, Bool, true, false, ◌&&◌, List, [], ◌∷◌, ◌++◌, length, ◌⊎◌, inl, inr, refl, sym, ap, ◌∙◌, subst, true≢false}
use Rattle.std.specs.Option.{option_map_or}
use Rattle.std.specs.List.{join_with_byte}
use Rattle.std.specs.Str.{byte}
use Rattle.std.proofs.lemmas.Bool.{and_parts, and_from, or_cases, or_left}
use Rattle.java_tree.specs.declared.key.Category.{Category}
use Rattle.java_tree.specs.declared.key.Category.TheVariants as categories
use Rattle.java_tree.specs.declared.occurrence.Access.{Access}
use Rattle.java_tree.specs.declared.occurrence.OccKind.{OccKind}
use Rattle.java_tree.specs.declared.occurrence.OccKind.TheVariants as occ
use Rattle.java_tree.specs.declared.occurrence.Occurrence.{Occurrence}
use Rattle.java_tree.specs.declared.search.Limit.{Limit}
use Rattle.java_tree.specs.declared.search.Limit.TheVariants as limits
use Rattle.java_tree.specs.declared.search.What.{What}
use Rattle.java_tree.specs.declared.search.What.TheVariants as whats
use Rattle.java_model.specs.Names.Environments.{Declared}
use Rattle.java_model.specs.Names.Fields.{field_at}
use Rattle.java_model.specs.Names.Methods.{method_name, params}
use Rattle.java_model.specs.SearchPattern.NameMatch.{name_matches}
use Rattle.java_model.specs.SearchPattern.Parts.{Pattern}
use Rattle.java_model.specs.SearchPattern.Texts.{separated}
use Rattle.java_model.specs.Matches.TypePatterns.{qualification_of, fits_qualification, fits_declared}
use Rattle.java_model.specs.Matches.Fits.{is_declaration, is_reference, is_super, is_field, is_field_ref, reads, writes, picks, fits_declaring, fits_bound_method, fits_binding}
use Rattle.java_model.specs.Matches.Admits.{declares, refers, asks, key_fields, key_qualification, has_qualification, named_by, admits_key, admits}
use Rattle.java_model.specs.Matches.Keys.{key_of}
use Rattle.java_model.specs.Matches.Laws.{IsField, of_package, of_type, of_method, of_constructor, of_field, of_super, FittingDeclarationsAreAdmitted}
use Rattle.java_model.proofs.Matches.KeyFields.{fields_of_name, first_piece, one_piece}
use Rattle.java_model.proofs.Matches.AdmitLaws.{field_by, field_of, called_by, method_called, constructor_called, named_spelled}

-- what a search looks for, by the kind of declaration
abbrev is_declared : OccKind → Bool
is_declared occ.PackageDecl = true
is_declared occ.TypeDecl = true
is_declared occ.MethodDecl = true
is_declared occ.CtorDecl = true
is_declared occ.FieldDecl = true
is_declared _ = false

each_what : (P : What → Type 0) → P whats.Class → P whats.Method → P whats.Constructor → P whats.Field → P whats.Package → (what : What) → P what
each_what P c m k f p whats.Class = c
each_what P c m k f p whats.Method = m
each_what P c m k f p whats.Constructor = k
each_what P c m k f p whats.Field = f
each_what P c m k f p whats.Package = p

abbrev IsNoReference : OccKind → What → Type 0
IsNoReference k what = (is_reference what k ≡ false) × (is_super what k ≡ false) × (is_field_ref what k ≡ false)

no_reference : (what : What) (k : OccKind) → is_declared k ≡ true → IsNoReference k what
no_reference what occ.PackageDecl h = each_what (IsNoReference occ.PackageDecl) (refl, refl, refl) (refl, refl, refl) (refl, refl, refl) (refl, refl, refl) (refl, refl, refl) what
no_reference what occ.TypeDecl h = each_what (IsNoReference occ.TypeDecl) (refl, refl, refl) (refl, refl, refl) (refl, refl, refl) (refl, refl, refl) (refl, refl, refl) what
no_reference what occ.MethodDecl h = each_what (IsNoReference occ.MethodDecl) (refl, refl, refl) (refl, refl, refl) (refl, refl, refl) (refl, refl, refl) (refl, refl, refl) what
no_reference what occ.CtorDecl h = each_what (IsNoReference occ.CtorDecl) (refl, refl, refl) (refl, refl, refl) (refl, refl, refl) (refl, refl, refl) (refl, refl, refl) what
no_reference what occ.FieldDecl h = each_what (IsNoReference occ.FieldDecl) (refl, refl, refl) (refl, refl, refl) (refl, refl, refl) (refl, refl, refl) (refl, refl, refl) what
no_reference what _ h = absurd (true≢false (sym h))

LimitsDeclarations : Limit → Type 0
LimitsDeclarations limit = (limit ≡ limits.Declarations) ⊎ (limit ≡ limits.All)

-- one that isn't a reference is looked for as a declaration
picked : (what : What) (limit : Limit) (k : OccKind) (how : Access) → is_declared k ≡ true → picks what limit k how ≡ true
    → (is_declaration what k ≡ true) × LimitsDeclarations limit
unfolding LimitsDeclarations
picked what limits.Declarations k how d h = (h, inl refl)
picked what limits.References k how d h = absurd (true≢false (sym h ∙ (no_reference what k d).0))
picked what limits.Implementors k how d h = absurd (true≢false (sym h ∙ (no_reference what k d).1))
picked what limits.All k how d h = elim (or_cases (is_declaration what k) (is_reference what k) h) [
  | inl e ↦ (e, inr refl)
  | inr e ↦ absurd (true≢false (sym e ∙ (no_reference what k d).0))
]
picked what limits.Reads k how d h =
    let e = (and_parts (is_field what) (is_reference what k) (and_parts (is_field what && is_reference what k) (reads how) h).0).1 in
    absurd (true≢false (sym e ∙ (no_reference what k d).0))
picked what limits.Writes k how d h = absurd (true≢false (sym (and_parts (is_field_ref what k) (writes how) h).0 ∙ (no_reference what k d).2))

asked_at : (what sought : What) (limit : Limit) (c : Category) → what ≡ sought → LimitsDeclarations limit → declares sought c ≡ true → asks what limit c ≡ true
unfolding LimitsDeclarations
asked_at what sought limit c e (inl l) d = ap (λ w. asks w limit c) e ∙ ap (λ m. asks sought m c) l ∙ d
asked_at what sought limit c e (inr l) d = ap (λ w. asks w limit c) e ∙ ap (λ m. asks sought m c) l ∙ or_left (declares sought c) (refers sought c) d

is_for : (what : What) (k : OccKind) → What → Type 0
is_for what k sought = is_declaration what k ≡ true → what ≡ sought

for_packages : (what : What) → is_for what occ.PackageDecl whats.Package
unfolding is_for
for_packages whats.Package h = refl
for_packages _ h = absurd (true≢false (sym h))

for_types : (what : What) → is_for what occ.TypeDecl whats.Class
unfolding is_for
for_types whats.Class h = refl
for_types _ h = absurd (true≢false (sym h))

for_methods : (what : What) → is_for what occ.MethodDecl whats.Method
unfolding is_for
for_methods whats.Method h = refl
for_methods _ h = absurd (true≢false (sym h))

for_constructors : (what : What) → is_for what occ.CtorDecl whats.Constructor
unfolding is_for
for_constructors whats.Constructor h = refl
for_constructors _ h = absurd (true≢false (sym h))

for_fields : (what : What) → is_for what occ.FieldDecl whats.Field
unfolding is_for
for_fields whats.Field h = refl
for_fields _ h = absurd (true≢false (sym h))

-- what a fitting declaration of a kind is looked for as, and that its category is asked for
record IsSought (p : Pattern) (sought : What) (c : Category) : Type 0 where
  what : p.what ≡ sought
  asked : asks p.what p.limit c ≡ true

sought_by : (p : Pattern) (o : Occurrence) (k : OccKind) (sought : What) (c : Category) → o.kind ≡ k → is_declared k ≡ true
    → ((what : What) → is_for what k sought) → declares sought c ≡ true → picks p.what p.limit o.kind o.access ≡ true → IsSought p sought c
unfolding is_for
sought_by p o k sought c e d for h t =
    let r = picked p.what p.limit k o.access d (ap (λ x. picks p.what p.limit x o.access) (sym e) ∙ t) in
    record { what = for p.what r.0; asked = asked_at p.what sought p.limit c (for p.what r.0) r.1 h }

-- the fields of the key of a type
fields_of_type : (name qualification kind : List ℕ) → IsField name → IsField qualification → IsField kind
    → key_fields (join_with_byte (byte "/") (name ∷ qualification ∷ kind ∷ [])) ≡ name ∷ qualification ∷ kind ∷ []
fields_of_type name qualification kind n q k =
    first_piece (byte "/") name (qualification ++ byte "/" ∷ kind) n refl
    ∙ ap (λ ts. name ∷ ts) (first_piece (byte "/") qualification kind q refl ∙ ap (λ ts. qualification ∷ ts) (one_piece (byte "/") kind k))

type_admitted : (p : Pattern) (d : Declared) (qualification kind : List ℕ) → asks p.what p.limit categories.TypeDecl ≡ true
    → key_qualification qualification kind ≡ qualification_of d → IsField d.type.name → IsField qualification → IsField kind
    → fits_declared p.rule p.case p.qualification p.name d ≡ true
    → admits p categories.TypeDecl (key_of categories.TypeDecl (d.type.name ∷ qualification ∷ kind ∷ [])).text ≡ true
type_admitted p d qualification kind a e n q k f =
    let text = (key_of categories.TypeDecl (d.type.name ∷ qualification ∷ kind ∷ [])).text in
    let fields = fields_of_type d.type.name qualification kind n q k in
    let r = and_parts (name_matches p.rule p.case p.name d.type.name) (fits_qualification p.rule p.case p.qualification (qualification_of d)) f in
    and_from (asks p.what p.limit categories.TypeDecl) (admits_key p categories.TypeDecl text) a
    (and_from (named_by p text) (has_qualification p (key_fields text))
    (field_of (key_fields text) (d.type.name ∷ qualification ∷ kind ∷ []) 0 (name_matches p.rule p.case p.name) fields r.0)
    (ap (has_qualification p) fields ∙ ap (fits_qualification p.rule p.case p.qualification) e ∙ r.1))

-- supertypes
super_of_type : (what : What) → is_super what occ.Super ≡ true → what ≡ whats.Class
super_of_type whats.Class h = refl
super_of_type _ h = absurd (true≢false (sym h))

abbrev IsOnlySuper : What → Type 0
IsOnlySuper what = (is_declaration what occ.Super ≡ false) × (is_reference what occ.Super ≡ false) × (is_field_ref what occ.Super ≡ false)

no_super : (what : What) → IsOnlySuper what
no_super = each_what IsOnlySuper (refl, refl, refl) (refl, refl, refl) (refl, refl, refl) (refl, refl, refl) (refl, refl, refl)

super_picked : (what : What) (limit : Limit) (how : Access) → picks what limit occ.Super how ≡ true → (what ≡ whats.Class) × (limit ≡ limits.Implementors)
super_picked what limits.Declarations how h = absurd (true≢false (sym h ∙ (no_super what).0))
super_picked what limits.References how h = absurd (true≢false (sym h ∙ (no_super what).1))
super_picked what limits.Implementors how h = (super_of_type what h, refl)
super_picked what limits.All how h = elim (or_cases (is_declaration what occ.Super) (is_reference what occ.Super) h) [
  | inl e ↦ absurd (true≢false (sym e ∙ (no_super what).0))
  | inr e ↦ absurd (true≢false (sym e ∙ (no_super what).1))
]
super_picked what limits.Reads how h =
    let e = (and_parts (is_field what) (is_reference what occ.Super) (and_parts (is_field what && is_reference what occ.Super) (reads how) h).0).1 in
    absurd (true≢false (sym e ∙ (no_super what).1))
super_picked what limits.Writes how h = absurd (true≢false (sym (and_parts (is_field_ref what occ.Super) (writes how) h).0 ∙ (no_super what).2))

pub fitting_declarations_are_admitted : FittingDeclarationsAreAdmitted
fitting_declarations_are_admitted env p o key (of_package name k b e) f =
    let q = and_parts (picks p.what p.limit o.kind o.access) (fits_binding env p o o.binding) f in
    let s = sought_by p o occ.PackageDecl whats.Package categories.PackageDecl k refl for_packages refl q.0 in
    subst (λ x. admits p x.category x.text ≡ true) (sym e)
    (and_from (asks p.what p.limit categories.PackageDecl) _ s.asked (sym (ap (fits_binding env p o) b) ∙ q.1))
fitting_declarations_are_admitted env p o key (of_type t d qualification kind k b at w n g h e) f =
    let q = and_parts (picks p.what p.limit o.kind o.access) (fits_binding env p o o.binding) f in
    let s = sought_by p o occ.TypeDecl whats.Class categories.TypeDecl k refl for_types refl q.0 in
    let fit = fits_declared p.rule p.case p.qualification p.name in
    subst (λ x. admits p x.category x.text ≡ true) (sym e)
    (type_admitted p d qualification kind s.asked w n g h
    (sym (ap (λ x. option_map_or fit x false) at) ∙ sym (ap (fits_binding env p o) b) ∙ q.1))
fitting_declarations_are_admitted env p o key (of_method m k b n l e) f =
    let q = and_parts (picks p.what p.limit o.kind o.access) (fits_binding env p o o.binding) f in
    let s = sought_by p o occ.MethodDecl whats.Method categories.MethodDecl k refl for_methods refl q.0 in
    subst (λ x. admits p x.category x.text ≡ true) (sym e)
    (and_from (asks p.what p.limit categories.MethodDecl) _ s.asked
    (called_by p (method_name env m) (length (params env m)) n l
    (method_called env p m (method_name env m) (length (params env m)) refl refl
    (sym (ap (λ x. fits_bound_method env p whats.Method x m) k) ∙ sym (ap (λ x. fits_bound_method env p x o.kind m) s.what)
    ∙ sym (ap (fits_binding env p o) b) ∙ q.1))))
fitting_declarations_are_admitted env p o key (of_constructor m name k b at n l e) f =
    let q = and_parts (picks p.what p.limit o.kind o.access) (fits_binding env p o o.binding) f in
    let s = sought_by p o occ.CtorDecl whats.Constructor categories.ConstructorDecl k refl for_constructors refl q.0 in
    subst (λ x. admits p x.category x.text ≡ true) (sym e)
    (and_from (asks p.what p.limit categories.ConstructorDecl) _ s.asked
    (called_by p name (length (params env m)) n l
    (constructor_called env p m name (length (params env m)) at refl
    (sym (ap (λ x. fits_bound_method env p x o.kind m) s.what) ∙ sym (ap (fits_binding env p o) b) ∙ q.1))))
fitting_declarations_are_admitted env p o key (of_field g name k b at n e) f =
    let q = and_parts (picks p.what p.limit o.kind o.access) (fits_binding env p o o.binding) f in
    let s = sought_by p o occ.FieldDecl whats.Field categories.FieldDecl k refl for_fields refl q.0 in
    let text = (key_of categories.FieldDecl (name ∷ [])).text in
    let r = and_parts (option_map_or (λ x. name_matches p.rule p.case p.name x.name) (field_at env g) false) (fits_declaring env p g.of)
    (sym (ap (fits_binding env p o) b) ∙ q.1) in
    subst (λ x. admits p x.category x.text ≡ true) (sym e)
    (and_from (asks p.what p.limit categories.FieldDecl) (named_by p text) s.asked
    (field_of (key_fields text) (name ∷ []) 0 (name_matches p.rule p.case p.name) (fields_of_name name n) (field_by p (field_at env g) name at r.0)))
fitting_declarations_are_admitted env p o key (of_super next more k b n e) f =
    let q = and_parts (picks p.what p.limit o.kind o.access) (fits_binding env p o o.binding) f in
    let s = super_picked p.what p.limit o.access (ap (λ x. picks p.what p.limit x o.access) (sym k) ∙ q.0) in
    let rest = join_with_byte (byte "/") (next ∷ more) in
    let text = (key_of categories.SuperRef (o.name ∷ next ∷ more)).text in
    subst (λ x. admits p x.category x.text ≡ true) (sym e)
    (and_from (asks p.what p.limit categories.SuperRef) (named_by p text)
    (ap (λ w. asks w p.limit categories.SuperRef) s.0 ∙ ap (λ m. asks whats.Class m categories.SuperRef) s.1)
    (field_of (key_fields text) (o.name ∷ separated (byte "/") rest) 0 (name_matches p.rule p.case p.name)
    (first_piece (byte "/") o.name rest n refl)
    (named_spelled env p o o.binding (λ m. ap (λ w. fits_bound_method env p w o.kind m) s.0) b q.1)))
