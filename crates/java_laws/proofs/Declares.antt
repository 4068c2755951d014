-- Each declaration and each supertype has its key, and is bound to what that key says.
use Rattle.std.proofs.Common.{◌≡◌, ℕ, Bool, true, false, cond, List, [], ◌∷◌, ◌++◌, Option, Some, None, map, length, inl, inr, refl, true≢false, sym, option_map}
use Rattle.std.specs.List.{AllByRecursion, zip, list_any}
use Rattle.std.specs.Option.{option_to_list}
use Rattle.std.specs.Str.{byte}
use Rattle.std.proofs.lemmas.Option.{none-some}
use Rattle.java_tree.specs.declared.bound.Bound.{Bound}
use Rattle.java_tree.specs.declared.expr.Creation.{Creation}
use Rattle.java_tree.specs.declared.expr.Expr.{Expr}
use Rattle.java_tree.specs.declared.expr.Expr.TheOpen.{First-F, Selector-F}
use Rattle.java_tree.specs.declared.expr.Selector.{Selector, out-Selector}
use Rattle.java_tree.specs.declared.key.Category.TheVariants as categories
use Rattle.java_tree.specs.declared.key.Key.{Key}
use Rattle.java_tree.specs.declared.names.ElementType.{ElementType}
use Rattle.java_tree.specs.declared.names.ElementType.TheVariants as elements
use Rattle.java_tree.specs.declared.names.Ident.{Ident}
use Rattle.java_tree.specs.declared.occurrence.Access.{Access}
use Rattle.java_tree.specs.declared.occurrence.Access.TheVariants.{Read}
use Rattle.java_tree.specs.declared.occurrence.Binding.TheVariants as bindings
use Rattle.java_tree.specs.declared.occurrence.MethodId.{MethodId}
use Rattle.java_tree.specs.declared.occurrence.OccKind.{OccKind}
use Rattle.java_tree.specs.declared.occurrence.OccKind.TheVariants as occ
use Rattle.java_tree.specs.declared.occurrence.Occurrence.{Occurrence}
use Rattle.java_tree.specs.declared.occurrence.TypeId.{TypeId}
use Rattle.java_tree.specs.declared.token.Span.{Span}
use Rattle.java_tree.specs.declared.types.JType.{JType}
use Rattle.java_tree.specs.declared.types.JType.TheVariants as types
use Rattle.java_tree.specs.declared.types.NameKind.{NameKind}
use Rattle.java_tree.specs.declared.types.NameKind.TheVariants as kinds
use Rattle.java_tree.specs.declared.unit.Constructor.{Constructor}
use Rattle.java_tree.specs.declared.unit.Explicit.{Explicit}
use Rattle.java_tree.specs.declared.unit.TypeHead.{TypeHead}
use Rattle.java_tree.specs.declared.unit.TypeHead.TheVariants as heads
use Rattle.java_tree.specs.declared.unit.Unit.{Unit as CompilationUnit}
use Rattle.java_model.specs.Grammar.Forms.{FirstLayer, SelectorLayer}
use Rattle.java_model.specs.Outlines.{spelled_name, package_name}
use Rattle.java_model.specs.Names.Lists.{Identifier, with_dots}
use Rattle.java_model.specs.Names.Environments.{Env, Declared, declared_at}
use Rattle.java_model.specs.Names.Supertypes.{resolve_in_header}
use Rattle.java_model.specs.Tree.Children.{Numbered, header_names}
use Rattle.java_model.specs.Scopes.Contexts.{Context}
use Rattle.java_model.specs.Scopes.NameKinds.{ambiguous_kinds, selected_field, kind_or_nothing}
use Rattle.java_model.specs.Scopes.Scoping.{within_body}
use Rattle.java_model.specs.Scopes.TypeNames.{type_name_kinds, header_kinds, created_kinds}
use Rattle.java_model.specs.Bindings.Calls.{inner_class}
use Rattle.java_model.specs.Bindings.Chains.{Types, flat_types, last_name, anonymous_class, created_class, inner_created, selector_type}
use Rattle.java_model.specs.Occurrences.References.{Role, as_type, as_import, as_qualifier, as_variable, mention, identifier_in, identifiers_in, unbound_last, last_access, package_in, package_run, counts_before, with_last_kind, occurrences_in}
use Rattle.java_model.specs.Occurrences.Expressions.{in_element, in_optional_type, type_binding, field_reference, super_of_anonymous, is_interface_of, constructor_reference, at_created, only_last, all_but_last, at_last, names_in_first, names_in_selector, names_in_chain}
use Rattle.java_model.specs.Occurrences.Declarations.{spelled_superclass, implicit_super, implicit_in, is_constructor, default_super, super_at_last, in_supertype}
use Rattle.java_model.specs.Matches.Keys.{key_of, counted, refs, last_of, type_key, super_key, head_keys, creation_keys}
use Rattle.java_model.specs.Matches.Laws.{NameIsSpelled, IsField, IsDeclarationKey, of_super}
use Rattle.java_model.proofs.KindLaws.{created-called, in-header-called}
use Rattle.java_model.proofs.SpelledLaws.{TypeCalled}
use Rattle.java_laws.specs.Bindings.{IsThere, is_declaring}
use Rattle.java_laws.specs.Preselection.{HasFewParameters, QualificationsAreFields}
use Rattle.java_laws.proofs.Lists.{Among, among-append, among-right, mapped}
use Rattle.java_laws.proofs.NodeKeys.{Had, left-had, right-had, CreationHad, SelectorHad}
use Rattle.java_laws.proofs.Made.{inner-called, inner-type, Laws}

-- a key of the unit that is the occurrence's
pub record HasDeclarationKey (Has : Key → Type 0) (env : Env) (o : Occurrence) : Type 0 where
  pub there : IsThere env o.binding
  pub bound : is_declaring o.kind ≡ true → o.binding ≡ bindings.Nothing → ⊥
  pub keyed : IsField o.name → HasFewParameters env o → QualificationsAreFields env → (key : Key) × Has key × IsDeclarationKey env o key

abbrev pub DeclaredAs : (Key → Type 0) → Env → Occurrence → OccKind → Type 0
DeclaredAs Has env o occ.PackageDecl = HasDeclarationKey Has env o
DeclaredAs Has env o occ.TypeDecl = HasDeclarationKey Has env o
DeclaredAs Has env o occ.Super = HasDeclarationKey Has env o
DeclaredAs Has env o occ.MethodDecl = HasDeclarationKey Has env o
DeclaredAs Has env o occ.CtorDecl = HasDeclarationKey Has env o
DeclaredAs Has env o occ.FieldDecl = HasDeclarationKey Has env o
DeclaredAs Has env o _ = Unit {0}

abbrev pub IsDeclared : (Key → Type 0) → Env → Occurrence → Type 0
IsDeclared Has env o = DeclaredAs Has env o o.kind

abbrev pub AllDeclared : (Key → Type 0) → Env → List Occurrence → Type 0
AllDeclared Has env = AllByRecursion (IsDeclared Has env)

pub append-declared : (Has : Key → Type 0) (env : Env) (os ps : List Occurrence) → AllDeclared Has env os → AllDeclared Has env ps
    → AllDeclared Has env (os ++ ps)
append-declared Has env [] ps h k = k
append-declared Has env (o ∷ os) ps h k = (h.0, append-declared Has env os ps h.1 k)

-- NAMES declare nothing.
unbound-declared : (Has : Key → Type 0) (env : Env) (role : Role) (i : Ident) → IsDeclared Has env (unbound_last role i)
unbound-declared Has env as_type i = tt
unbound-declared Has env as_import i = tt
unbound-declared Has env as_qualifier i = tt
unbound-declared Has env (as_variable how) i = tt

identifier-declared : (Has : Key → Type 0) (env : Env) (how : Access) (unbound : Occurrence) (i : Ident) (k : NameKind) → IsDeclared Has env unbound
    → AllDeclared Has env (identifier_in how unbound i k)
identifier-declared Has env how unbound i (kinds.Class t) u = (tt, tt)
identifier-declared Has env how unbound i (kinds.Field f) u = (tt, tt)
identifier-declared Has env how unbound i (kinds.Local t) u = tt
identifier-declared Has env how unbound i kinds.Package u = tt
identifier-declared Has env how unbound i kinds.Nothing u = (u, tt)

identifiers-declared : (Has : Key → Type 0) (env : Env) (role : Role) (xs : List (Ident × NameKind)) → AllDeclared Has env (identifiers_in role xs)
identifiers-declared Has env role [] = tt
identifiers-declared Has env role (x ∷ []) = identifier-declared Has env (last_access role) (unbound_last role x.0) x.0 x.1 (unbound-declared Has env role x.0)
identifiers-declared Has env role (x ∷ y ∷ more) =
    append-declared Has env (identifier_in Read (unbound_last as_qualifier x.0) x.0 x.1) (identifiers_in role (y ∷ more))
    (identifier-declared Has env Read (unbound_last as_qualifier x.0) x.0 x.1 tt) (identifiers-declared Has env role (y ∷ more))

package-declared : (Has : Key → Type 0) (env : Env) (role : Role) (run : List Ident) (rest : List (Ident × NameKind)) (counts : Bool)
    → AllDeclared Has env (package_in role run rest counts)
package-declared Has env role [] rest counts = tt
package-declared Has env role (i ∷ run) rest true = (tt, tt)
package-declared Has env role (i ∷ run) rest false = tt

pub name-declared : (Has : Key → Type 0) (env : Env) (role : Role) (n : List Ident) (ks : List NameKind) → AllDeclared Has env (occurrences_in role n ks)
name-declared Has env role n ks =
    let r = package_run [] (zip n (with_last_kind role ks)) in
    append-declared Has env (package_in role r.run r.rest (counts_before role r.rest)) (identifiers_in role r.rest)
    (package-declared Has env role r.run r.rest (counts_before role r.rest)) (identifiers-declared Has env role r.rest)

pub element-declared : (Has : Key → Type 0) (C : Context) (s : List Bound) (e : ElementType) → AllDeclared Has C.env (in_element C s e)
element-declared Has C s (elements.Primitive p) = tt
element-declared Has C s (elements.Named n) = name-declared Has C.env as_type n (type_name_kinds C s (spelled_name n))

optional-declared : (Has : Key → Type 0) (C : Context) (s : List Bound) (n : Option (List Ident)) → AllDeclared Has C.env (in_optional_type C s n)
optional-declared Has C s None = tt
optional-declared Has C s (Some n) = name-declared Has C.env as_type n (type_name_kinds C s (spelled_name n))

field-declared : (Has : Key → Type 0) (env : Env) (how : Access) (i : Ident) (k : NameKind) → AllDeclared Has env (field_reference how i k)
field-declared Has env how i k = identifier-declared Has env how (unbound_last (as_variable how) i) i k tt

last-declared : (Has : Key → Type 0) (env : Env) (n : List Ident) (xs : List Expr) (m : Option MethodId) → AllDeclared Has env (at_last n xs m)
last-declared Has env [] xs m = tt
last-declared Has env (i ∷ []) xs m = (tt, tt)
last-declared Has env (i ∷ j ∷ more) xs m = last-declared Has env (j ∷ more) xs m

-- SUPERTYPES
super-spelled : (env : Env) (o : Occurrence) (t : JType) → TypeCalled env o.name t → NameIsSpelled env o (type_binding t)
super-spelled env o (types.Class t) h = h t refl
super-spelled env o (types.Primitive p) h = tt
super-spelled env o types.Void h = tt
super-spelled env o types.Null h = tt
super-spelled env o (types.Absent n) h = tt
super-spelled env o (types.Array e n) h = tt
super-spelled env o types.Unknown h = tt

pub by-name : {X Y : Type 0} (f : X → Y) (o : Option X) (y : Y) → option_map f o ≡ Some y → (x : X) × (o ≡ Some x)
by-name f None y e = absurd (none-some y e)
by-name f (Some x) y e = (x, refl)

pub type-there : (env : Env) (name : Identifier) (t : JType) → TypeCalled env name t → IsThere env (type_binding t)
type-there env name (types.Class t) h = by-name (λ d. d.type.name) (declared_at env t) name (h t refl)
type-there env name (types.Primitive p) h = tt
type-there env name types.Void h = tt
type-there env name types.Null h = tt
type-there env name (types.Absent n) h = tt
type-there env name (types.Array e n) h = tt
type-there env name types.Unknown h = tt

super-declared : (Has : Key → Type 0) (env : Env) (i : Ident) (t : JType) (next : List ℕ) (more : List (List ℕ)) → TypeCalled env i.name t
    → Has (key_of categories.SuperRef (i.name ∷ next ∷ more)) → IsDeclared Has env (mention occ.Super i (type_binding t))
super-declared Has env i t next more called has = record {
  there = type-there env i.name t called;
  bound = λ h e. absurd (true≢false (sym h));
  keyed = λ field few fields.
      let o = mention occ.Super i (type_binding t) in
      (key_of categories.SuperRef (i.name ∷ next ∷ more), has, of_super next more refl (super-spelled env o t called) field refl);
}

super-at-last-declared : (Has : Key → Type 0) (env : Env) (n : List Ident) (t : JType) (next : List ℕ) (more : List (List ℕ)) → TypeCalled env (last_of n) t
    → Has (key_of categories.SuperRef (last_of n ∷ next ∷ more)) → AllDeclared Has env (super_at_last n t)
super-at-last-declared Has env [] t next more called has = tt
super-at-last-declared Has env (i ∷ []) t next more called has = (super-declared Has env i t next more called has, tt)
super-at-last-declared Has env (i ∷ j ∷ rest) t next more called has = super-at-last-declared Has env (j ∷ rest) t next more called has

record SuperKey (Has : Key → Type 0) (u : CompilationUnit) (n : List Ident) : Type 0 where
  sub : Identifier
  how : List ℕ
  has : Has (super_key u sub how n)

super-among : (Has : Key → Type 0) (u : CompilationUnit) (sub : Identifier) (how : List ℕ) (ns : List (List Ident)) (n : List Ident)
    → Had Has (map (super_key u sub how) ns) → Among ns n → SuperKey Has u n
super-among Has u sub how ns n h a = record { sub = sub; how = how; has = h (super_key u sub how n) (mapped (super_key u sub how) ns n a) }

head-super : (Has : Key → Type 0) (u : CompilationUnit) (number : ℕ) (head : TypeHead) (n : List Ident) → Had Has (head_keys u number head)
    → Among (header_names head) n → SuperKey Has u n
head-super Has u number (heads.Class c) n h a =
    let own = type_key u number c.name.name (byte "c" ∷ []) in
    let extended = map (super_key u c.name.name (byte "e" ∷ [])) (option_to_list c.extends) in
    let implemented = map (super_key u c.name.name (byte "i" ∷ [])) c.implements in
    elim (among-append (option_to_list c.extends) c.implements n a) [
      | inl b ↦ super-among Has u c.name.name (byte "e" ∷ []) (option_to_list c.extends) n
          (right-had Has own extended (left-had Has (own ++ extended) implemented h)) b
      | inr b ↦ super-among Has u c.name.name (byte "i" ∷ []) c.implements n (right-had Has (own ++ extended) implemented h) b
    ]
head-super Has u number (heads.Interface i) n h a =
    super-among Has u i.name.name (byte "x" ∷ []) i.extends n
    (right-had Has (type_key u number i.name.name (byte "i" ∷ [])) (map (super_key u i.name.name (byte "x" ∷ [])) i.extends) h) a
head-super Has u number heads.Anonymous n h a = absurd a

pub supertype-declared : (Has : Key → Type 0) (C : Context) (u : CompilationUnit) (t : TypeId) (n : List Ident) (d : Option Declared) (number : ℕ)
    (head : TypeHead)
    → Had Has (head_keys u number head) → Among (header_names head) n → AllDeclared Has C.env (in_supertype C t n d)
supertype-declared Has C u t n None number head h a = tt
supertype-declared Has C u t n (Some d) number head h a =
    let k = head-super Has u number head n h a in
    append-declared Has C.env (occurrences_in as_type n (header_kinds C.env d t (spelled_name n))) _
    (name-declared Has C.env as_type n (header_kinds C.env d t (spelled_name n)))
    (super-at-last-declared Has C.env n (resolve_in_header C.env d t (spelled_name n)) k.sub
    (with_dots (package_name u.«package») ∷ k.how ∷ []) (λ m e. in-header-called C.env d t (spelled_name n) m e) k.has)

-- CREATIONS
-- what stands after the first part and one more element of a list
after-one : (Has : Key → Type 0) (ks : List Key) (k : Key) (ls : List Key) → Had Has (ks ++ k ∷ ls) → Had Has ls
after-one Has ks k ls h key a = h key (among-right ks (k ∷ ls) key (inr a))

abbrev BodyHad : (Key → Type 0) → CompilationUnit → List Ident → Option ℕ → Type 0
BodyHad Has u n body = (brace : ℕ) → body ≡ Some brace → SuperKey Has u n

body-super : (Has : Key → Type 0) (u : CompilationUnit) (how : List ℕ) (n : List Ident) (body : Option ℕ)
    → Had Has (map (λ brace. super_key u [] how n) (option_to_list body)) → BodyHad Has u n body
body-super Has u how n None h brace e = absurd (none-some brace e)
body-super Has u how n (Some b) h brace e = record { sub = []; how = how; has = h (super_key u [] how n) (inl refl) }

creation-super : (Has : Key → Type 0) (u : CompilationUnit) (c : Creation) → Had Has (creation_keys u c) → BodyHad Has u c.class c.body
creation-super Has u c h =
    body-super Has u (byte "a" ∷ []) c.class c.body
    (after-one Has (refs c.class) (counted categories.ConstructorRef (last_of c.class) (length c.arguments))
    (map (λ brace. super_key u [] (byte "a" ∷ []) c.class) (option_to_list c.body)) h)

anonymous-declared : (Has : Key → Type 0) (env : Env) (u : CompilationUnit) (body : Option ℕ) (i : Ident) (t : JType) → TypeCalled env i.name t
    → BodyHad Has u (i ∷ []) body → AllDeclared Has env (super_of_anonymous body i t)
anonymous-declared Has env u None i t called h = tt
anonymous-declared Has env u (Some brace) i t called h =
    let k = h brace refl in (super-declared Has env i t k.sub (with_dots (package_name u.«package») ∷ k.how ∷ []) called k.has, tt)

unless-declared : (Has : Key → Type 0) (env : Env) (b : Bool) (o : Occurrence) → IsDeclared Has env o → AllDeclared Has env (cond b [] (o ∷ []))
unless-declared Has env true o h = tt
unless-declared Has env false o h = (h, tt)

shorter : (Has : Key → Type 0) (u : CompilationUnit) (i j : Ident) (more : List Ident) (body : Option ℕ) → BodyHad Has u (i ∷ j ∷ more) body
    → BodyHad Has u (j ∷ more) body
shorter Has u i j more body h brace e = let k = h brace e in record { sub = k.sub; how = k.how; has = k.has }

created-declared : (Has : Key → Type 0) (C : Context) (u : CompilationUnit) (s : List Bound) (c : Creation) (t : JType) (arguments : Types) (n : List Ident)
    → TypeCalled C.env (last_name (spelled_name n)) t → BodyHad Has u n c.body → AllDeclared Has C.env (at_created C s c t arguments n)
created-declared Has C u s c t arguments [] called h = tt
created-declared Has C u s c t arguments (i ∷ []) called h =
    append-declared Has C.env (super_of_anonymous c.body i t) _ (anonymous-declared Has C.env u c.body i t called h)
    (unless-declared Has C.env (is_interface_of C.env t) (constructor_reference i c.arguments _) tt)
created-declared Has C u s c t arguments (i ∷ j ∷ more) called h =
    created-declared Has C u s c t arguments (j ∷ more) called (shorter Has u i j more c.body h)

pub first-declared : (Has : Key → Type 0) (C : Context) (u : CompilationUnit) (s : List Bound) (how : Access) (f : FirstLayer) (parts : List Types)
    → CreationHad Has u f → AllDeclared Has C.env (names_in_first C s how f parts)
first-declared Has C u s how (First-F.Name n) parts k = name-declared Has C.env (as_variable how) n (ambiguous_kinds C s (spelled_name n))
first-declared Has C u s how (First-F.QualifiedThis n at) parts k = name-declared Has C.env as_type n (type_name_kinds C s (spelled_name n))
first-declared Has C u s how (First-F.SuperField n at i) parts k =
    append-declared Has C.env (in_optional_type C s n) _ (optional-declared Has C s n) (field-declared Has C.env how i _)
first-declared Has C u s how (First-F.Call n xs) parts k =
    append-declared Has C.env (occurrences_in as_qualifier (all_but_last n) (ambiguous_kinds C s (spelled_name (all_but_last n)))) _
    (name-declared Has C.env as_qualifier (all_but_last n) (ambiguous_kinds C s (spelled_name (all_but_last n)))) (last-declared Has C.env n xs _)
first-declared Has C u s how (First-F.SuperCall n at i xs) parts k = append-declared Has C.env (in_optional_type C s n) _ (optional-declared Has C s n) (tt, tt)
first-declared Has C u s how (First-F.New c) parts k =
    let ks = created_kinds C s (anonymous_class C c) (spelled_name c.class) in
    append-declared Has C.env (occurrences_in as_type c.class ks) _ (name-declared Has C.env as_type c.class ks)
    (created-declared Has C u s c (created_class C s c) (flat_types parts) c.class
    (λ m e. created-called C s (anonymous_class C c) (spelled_name c.class) m e) (creation-super Has u c (k c refl)))
first-declared Has C u s how _ parts k = tt

selector-declared : (Has : Key → Type 0) (law : Laws) (C : Context) (u : CompilationUnit) (s : List Bound) (how : Access) (t : JType) (x : SelectorLayer)
    (arguments : Types)
    → SelectorHad Has u x → AllDeclared Has C.env (names_in_selector C s how t x arguments)
selector-declared Has law C u s how t (Selector-F.Field i) arguments h = field-declared Has C.env how i (selected_field C.env t i.name)
selector-declared Has law C u s how t (Selector-F.MemberCall i xs) arguments h = (tt, tt)
selector-declared Has law C u s how t (Selector-F.Index x) arguments h = tt
selector-declared Has law C u s how t (Selector-F.QualifiedNew c) arguments h =
    let name = last_name (spelled_name c.class) in
    let ks = kind_or_nothing kinds.Class (inner_class C.env t name) ∷ [] in
    append-declared Has C.env (occurrences_in as_type (only_last c.class) ks) _ (name-declared Has C.env as_type (only_last c.class) ks)
    (created-declared Has C u s c (inner_created C.env t c) arguments c.class
    (inner-type C.env (spelled_name c.class) name (inner_class C.env t name) (inner-called law.members C.env t name)) (creation-super Has u c (h.inner c refl)))

pub chain-declared : (Has : Key → Type 0) (law : Laws) (C : Context) (u : CompilationUnit) (s : List Bound) (how : Access) (t : JType)
    (xs : List (Selector × Types))
    → AllByRecursion (λ x. SelectorHad Has u (out-Selector x.0)) xs → AllDeclared Has C.env (names_in_chain C s how t xs)
chain-declared Has law C u s how t [] h = tt
chain-declared Has law C u s how t (x ∷ []) h = selector-declared Has law C u s how t (out-Selector x.0) x.1 h.0
chain-declared Has law C u s how t (x ∷ y ∷ more) h =
    append-declared Has C.env (names_in_selector C s Read t (out-Selector x.0) x.1) _ (selector-declared Has law C u s Read t (out-Selector x.0) x.1 h.0)
    (chain-declared Has law C u s how (selector_type C s t (out-Selector x.0) x.1) (y ∷ more) h.1)

-- CONSTRUCTORS that no program spells are no declarations.
implicit-declared : (Has : Key → Type 0) (C : Context) (s : List Bound) (span : Span) (name : Option Identifier)
    → AllDeclared Has C.env (implicit_super C s span name)
implicit-declared Has C s span None = tt
implicit-declared Has C s span (Some name) = (tt, tt)

pub implicit-in-declared : (Has : Key → Type 0) (C : Context) (s : List Bound) (number : ℕ) (c : Constructor) (e : Option Explicit)
    → AllDeclared Has C.env (implicit_in C s number c e)
implicit-in-declared Has C s number c None = implicit-declared Has C s c.name.span _
implicit-in-declared Has C s number c (Some e) = tt

default-by : (Has : Key → Type 0) (C : Context) (s : List Bound) (span : Span) (name : Option Identifier) (b : Bool)
    → AllDeclared Has C.env (cond b [] (implicit_super C s span name))
default-by Has C s span name true = tt
default-by Has C s span name false = implicit-declared Has C s span name

pub default-declared : (Has : Key → Type 0) (C : Context) (s : List Bound) (t : Numbered) (head : TypeHead) → AllDeclared Has C.env (default_super C s t head)
default-declared Has C s t (heads.Class c) =
    default-by Has C (s ++ within_body C (Some t)) c.name.span (spelled_superclass (heads.Class c)) (list_any is_constructor t.type.members)
default-declared Has C s t (heads.Interface i) = tt
default-declared Has C s t heads.Anonymous = tt
