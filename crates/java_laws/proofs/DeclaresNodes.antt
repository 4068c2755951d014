-- Each declaration and each supertype, at each node, has its key.
use Rattle.std.proofs.Common.{◌≡◌, ℕ, suc, List, [], ◌∷◌, Option, Some, None, map, drop, length, slice_get, option_map, inl, refl, sym, ap, ◌∙◌, subst}
use Rattle.std.specs.List.{zip}
use Rattle.std.specs.Option.{option_map_or, option_and_then}
use Rattle.std.proofs.lemmas.Option.{none-some}
use Rattle.java_tree.specs.declared.bound.Bound.{Bound}
use Rattle.java_tree.specs.declared.expr.First.{out-First}
use Rattle.java_tree.specs.declared.key.Category.TheVariants as categories
use Rattle.java_tree.specs.declared.key.Key.{Key}
use Rattle.java_tree.specs.declared.names.Ident.{Ident}
use Rattle.java_tree.specs.declared.occurrence.Binding.TheVariants as bindings
use Rattle.java_tree.specs.declared.occurrence.FieldId.{FieldId}
use Rattle.java_tree.specs.declared.occurrence.MethodId.{MethodId}
use Rattle.java_tree.specs.declared.outline.OutlineMethod.{OutlineMethod}
use Rattle.java_tree.specs.declared.stmt.Variable.{Variable}
use Rattle.java_tree.specs.declared.unit.Callee.{Callee}
use Rattle.java_tree.specs.declared.unit.Callee.TheVariants as callees
use Rattle.java_tree.specs.declared.unit.Constructor.{Constructor}
use Rattle.java_tree.specs.declared.unit.Member.{Member}
use Rattle.java_tree.specs.declared.unit.Member.TheVariants as members
use Rattle.java_tree.specs.declared.unit.Method.{Method}
use Rattle.java_tree.specs.declared.unit.TypeDecl.{TypeDecl}
use Rattle.java_tree.specs.declared.unit.Unit.{Unit as CompilationUnit}
use Rattle.java_model.specs.Grammar.Units.{HasName}
use Rattle.java_model.specs.Outlines.{spelled_name}
use Rattle.java_model.specs.Names.Lists.{with_dots}
use Rattle.java_model.specs.Names.Environments.{Env, Declared, declared_at, name_at}
use Rattle.java_model.specs.Names.Methods.{bodies_of, method_info_of, method_name, params}
use Rattle.java_model.specs.Names.MemberTypes.{resolve_in_body}
use Rattle.java_model.specs.Names.Types.{spelled}
use Rattle.java_model.specs.Tree.Nodes.{Node}
use Rattle.java_model.specs.Tree.Nodes as nodes
use Rattle.java_model.specs.Tree.Children.{Numbered, numbered}
use Rattle.java_model.specs.Scopes.Contexts.{Context, numbered_id}
use Rattle.java_model.specs.Scopes.TypeNames.{kinds_in_import}
use Rattle.java_model.specs.Bindings.Chains.{Types, part}
use Rattle.java_model.specs.Occurrences.Declarations.{simple_name, names_in_explicit, import_role, field_declaration, method_declaration, constructor_declaration, type_declaration, names_in_member, names_in_declaration}
use Rattle.java_model.specs.Occurrences.Laws.{MethodDeclared}
use Rattle.java_model.specs.Occurrences.Occurrences.{node_names}
use Rattle.java_model.specs.Matches.Keys.{key_of, counted, head_keys, default_key, declaration_keys, member_keys, HasKey}
use Rattle.java_model.specs.Matches.Laws.{IsField, of_package, of_method, of_constructor, of_field}
use Rattle.java_model.proofs.ContextLaws.{type-declared}
use Rattle.java_model.proofs.DeclaredLaws.{field-declared, method-declared, constructor-declared}
use Rattle.java_laws.specs.Bindings.{IsThere}
use Rattle.java_laws.specs.Declarations.{IsContext}
use Rattle.java_laws.proofs.Lists.{Among, contained, each-of}
use Rattle.java_laws.proofs.Bound.{fields-are-bound, methods-are-bound, constructors-are-bound}
use Rattle.java_laws.proofs.Shapes.{IsShaped}
use Rattle.java_laws.proofs.Stands.{AsMember, AsField, AsSuper, Stands, get-among, numbered-type}
use Rattle.java_laws.proofs.UnitKeys.{IsAt, had, selectors-had, first-had}
use Rattle.java_laws.proofs.NodeKeys.{Had, left-had, zip-had}
use Rattle.java_laws.proofs.MadeNodes.{Premises, class-head}
use Rattle.java_laws.proofs.Declares.{HasDeclarationKey, IsDeclared, AllDeclared, append-declared, name-declared, element-declared, supertype-declared, first-declared, chain-declared, implicit-in-declared, default-declared}
use Rattle.java_laws.proofs.Qualified as qualified

-- METHODS: what one is called, and how many parameters it has
as-many : {X Y : Type 0} (f : X → Y) (xs : List X) → length (map f xs) ≡ length xs
as-many f [] = refl
as-many f (x ∷ xs) = ap (λ n. suc n) (as-many f xs)

params-by : (env : Env) (m : MethodId) (o : Option Declared) (x : OutlineMethod) → option_and_then (λ d. slice_get (bodies_of env d) m.place) o ≡ Some x
    → length (option_map_or (λ i. i.params)
    (option_and_then (λ d. option_map (method_info_of env d) (slice_get (bodies_of env d) m.place)) o) []) ≡ length x.params
params-by env m None x e = absurd (none-some x e)
params-by env m (Some d) x e =
    ap (λ y. length (option_map_or (λ i. i.params) (option_map (method_info_of env d) y) [])) e ∙ as-many (spelled (resolve_in_body env d)) x.params

-- a method or a constructor by its declaration
record Counts (env : Env) (i : Ident) (n : ℕ) (m : MethodId) : Type 0 where
  name : method_name env m ≡ i.name
  many : length (params env m) ≡ n

counts : (env : Env) (i : Ident) (n : ℕ) (m : MethodId) → MethodDeclared env i n m → Counts env i n m
counts env i n m d = record {
  name = ap (λ o. option_map_or (λ x. x.name) o []) d.at ∙ d.name;
  many = params-by env m (declared_at env m.of) d.method d.at ∙ d.as_many;
}

not-nothing : (m : MethodId) → bindings.Method m ≡ bindings.Nothing → ⊥
not-nothing m e = cc

no-field : (f : FieldId) → bindings.Field f ≡ bindings.Nothing → ⊥
no-field f e = cc

method-at : (u : CompilationUnit) (C : Context) → IsContext u C → (number : ℕ) (t : TypeDecl) (m : Method) → slice_get u.types number ≡ Some t
    → Among t.members (members.Method m) → HasKey u (counted categories.MethodDecl m.name.name (length m.parameters))
    → HasDeclarationKey (HasKey u) C.env (method_declaration C number m.name (length m.parameters))
method-at u C c number t m at a has =
    let b = methods-are-bound u C c number t m at (contained t.members (members.Method m) a) in
    let d = method-declared C number m.name (length m.parameters) b.method b.is in
    let k = counts C.env m.name (length m.parameters) b.method d in
    record {
      there = subst (IsThere C.env) (sym b.is) (d.method, d.at);
      bound = λ h e. not-nothing b.method (sym b.is ∙ e);
      keyed = λ field few fields. (
        counted categories.MethodDecl m.name.name (length m.parameters),
        has,
        of_method b.method refl b.is (subst IsField (sym k.name) field) (few b.method b.is)
            (ap (λ x. counted categories.MethodDecl x (length m.parameters)) (sym k.name)
            ∙ ap (counted categories.MethodDecl (method_name C.env b.method)) (sym k.many)),
      );
    }

constructor-at : (u : CompilationUnit) (C : Context) → IsContext u C → (number : ℕ) (t : TypeDecl) (k : Constructor) → slice_get u.types number ≡ Some t
    → Among t.members (members.Constructor k) → HasName t.head k.name → HasKey u (counted categories.ConstructorDecl k.name.name (length k.parameters))
    → HasDeclarationKey (HasKey u) C.env (constructor_declaration C number k.name (length k.parameters))
constructor-at u C c number t k at a named has =
    let b = constructors-are-bound u C c number t k at (contained t.members (members.Constructor k) a) in
    let x = constructor-declared C number k.name (length k.parameters) b.method b.is in
    let n = counts C.env k.name (length k.parameters) b.method x in
    let d = type-declared c.env c.path u C number t c.of_env c.outlined at in
    let own = class-head t k named in
    let same : k.name.name ≡ own.0.name.name = subst (λ h. HasName h k.name) own.1 named in
    record {
      there = subst (IsThere C.env) (sym b.is) (x.method, x.at);
      bound = λ h e. not-nothing b.method (sym b.is ∙ e);
      keyed = λ field few fields. (
        counted categories.ConstructorDecl k.name.name (length k.parameters),
        has,
        of_constructor b.method k.name.name refl b.is
            (ap (name_at C.env) b.of ∙ ap (option_map (λ x. x.type.name)) d.at ∙ ap Some (d.name ∙ ap simple_name own.1 ∙ sym same))
            field (few b.method b.is) (ap (counted categories.ConstructorDecl k.name.name) (sym n.many)),
      );
    }

field-at : (u : CompilationUnit) (C : Context) → IsContext u C → (number : ℕ) (v : Variable) → AsField u number v
    → HasKey u (key_of categories.FieldDecl (v.name.name ∷ []))
    → HasDeclarationKey (HasKey u) C.env (field_declaration C number v.name)
field-at u C c number v h has =
    let b = fields-are-bound u C c number h.type h.fields v h.at (contained h.type.members (members.Field h.fields) h.among)
    (contained h.fields.variables v h.variable) in
    let d = field-declared C number v.name b.field b.is in
    record {
      there = subst (IsThere C.env) (sym b.is) (d.field, d.at);
      bound = λ h e. no-field b.field (sym b.is ∙ e);
      keyed = λ field few fields. (
        key_of categories.FieldDecl (v.name.name ∷ []),
        has,
        of_field b.field v.name.name refl b.is (ap (option_map (λ x. x.name)) d.at ∙ ap Some d.name) field refl,
      );
    }

explicit-declared : (Has : Key → Type 0) (C : Context) (s : List Bound) (number n : ℕ) (c : Callee) (parts : List Types)
    → IsDeclared Has C.env (names_in_explicit C s number n c parts)
explicit-declared Has C s number n (callees.This span) parts = tt
explicit-declared Has C s number n (callees.Super None span) parts = tt
explicit-declared Has C s number n (callees.Super (Some p) span) parts = tt

-- NODES
member-at : (u : CompilationUnit) (C : Context) → Premises u C → (s : List Bound) (number : ℕ) (m : Member) → AsMember C u s number m
    → Had (HasKey u) (member_keys u number m) → AllDeclared (HasKey u) C.env (names_in_member C s number m)
member-at u C p s number members.Empty h k = tt
member-at u C p s number (members.Initializer is_static b) h k = tt
member-at u C p s number (members.Type brace) h k = tt
member-at u C p s number (members.Field f) h k = tt
member-at u C p s number (members.Method m) h k = (method-at u C p.context number h.type m h.at h.among (k _ (inl refl)), tt)
member-at u C p s number (members.Constructor c) h k =
    let shape = each-of IsShaped u.types h.type p.shaped (get-among u.types number h.type h.at) in (
      constructor-at u C p.context number h.type c h.at h.among (shape.names c h.among) (k _ (inl refl)),
      implicit-in-declared (HasKey u) C s number c c.explicit,
    )

declaration-at : (u : CompilationUnit) (C : Context) → Premises u C → (s : List Bound) (brace : ℕ) (o : Option Numbered) → numbered u.types brace ≡ o
    → Had (HasKey u) (declaration_keys u o) → AllDeclared (HasKey u) C.env (names_in_declaration C s o)
declaration-at u C p s brace None e h = tt
declaration-at u C p s brace (Some t) e h =
    append-declared (HasKey u) C.env (type_declaration (numbered_id C t.number) t.type.head) _
    (qualified.type-declared (HasKey u) u C p.context p.shaped t.number t.type (numbered-type u.types brace t e)
    (left-had (HasKey u) (head_keys u t.number t.type.head) (default_key t.type) h))
    (default-declared (HasKey u) C s t t.type.head)

supertype-at : (u : CompilationUnit) (C : Context) (s : List Bound) (number : ℕ) (n : List Ident) (parts : List Types) → AsSuper u number n
    → AllDeclared (HasKey u) C.env (node_names C s (nodes.supertype number n) parts)
supertype-at u C s number n parts h =
    supertype-declared (HasKey u) C u (numbered_id C number) n (declared_at C.env (numbered_id C number)) h.type.number h.type.type.head
    (left-had (HasKey u) (head_keys u h.type.number h.type.type.head) (default_key h.type.type)
    (subst (λ o. Had (HasKey u) (declaration_keys u o)) h.is (had u (nodes.declaration h.brace) h.outer))) h.among

pub node-declared : (u : CompilationUnit) (C : Context) → Premises u C → (s : List Bound) (n : Node) (parts : List Types) → Stands C u s n → IsAt u n
    → AllDeclared (HasKey u) C.env (node_names C s n parts)
node-declared u C p s (nodes.package_clause n) parts h a =
    let key = key_of categories.PackageDecl (with_dots (spelled_name n) ∷ []) in (
      record {
        there = tt;
        bound = λ x e. cc;
        keyed = λ field few fields. (key, had u (nodes.package_clause n) a key (inl refl), of_package (with_dots (spelled_name n)) refl refl refl);
      },
      tt,
    )
node-declared u C p s (nodes.imported i) parts h a = name-declared (HasKey u) C.env (import_role i.star) i.name
    (kinds_in_import C.env i.star (spelled_name i.name))
node-declared u C p s (nodes.declaration brace) parts h a =
    subst (λ ts. AllDeclared (HasKey u) C.env (names_in_declaration C s (numbered ts brace))) (sym p.same)
    (declaration-at u C p s brace (numbered u.types brace) refl (had u (nodes.declaration brace) a))
node-declared u C p s (nodes.supertype number n) parts h a = supertype-at u C s number n parts h
node-declared u C p s (nodes.member number m) parts h a = member-at u C p s number m h (had u (nodes.member number m) a)
node-declared u C p s (nodes.field number v) parts h a = (field-at u C p.context number v h (had u (nodes.field number v) a _ (inl refl)), tt)
node-declared u C p s (nodes.type_use e dims) parts h a = element-declared (HasKey u) C s e
node-declared u C p s (nodes.explicit number e) parts h a = (explicit-declared (HasKey u) C s number (length e.arguments) e.callee parts, tt)
node-declared u C p s (nodes.primary how x) parts h a =
    chain-declared (HasKey u) p.law C u s how (part 0 parts) (zip x.selectors (drop 1 parts))
    (zip-had (HasKey u) u x.selectors (drop 1 parts) (selectors-had u how x a))
node-declared u C p s (nodes.first how f) parts h a = first-declared (HasKey u) C u s how (out-First f) parts (first-had u how f a)
node-declared u C p s _ parts h a = tt
