-- Each reference to a constructor, at each node, is of a class of its name.
use Rattle.std.proofs.Common.{◌≡◌, ℕ, List, [], ◌++◌, Some, drop, length, slice_get, option_map, Contains, refl, sym, ap, ◌∙◌, subst}
use Rattle.std.specs.List.{AllByRecursion, zip}
use Rattle.std.specs.Option.{option_map_or, option_and_then}
use Rattle.std.proofs.lemmas.Option.{none-some}
use Rattle.java_tree.specs.declared.bound.Bound.{Bound}
use Rattle.java_tree.specs.declared.expr.First.{out-First}
use Rattle.java_tree.specs.declared.occurrence.Occurrence.{Occurrence}
use Rattle.java_tree.specs.declared.occurrence.TypeId.{TypeId}
use Rattle.java_tree.specs.declared.types.JType.TheVariants as types
use Rattle.java_tree.specs.declared.unit.ClassHead.{ClassHead}
use Rattle.java_tree.specs.declared.unit.Constructor.{Constructor}
use Rattle.java_tree.specs.declared.unit.Explicit.{Explicit}
use Rattle.java_tree.specs.declared.unit.Member.{Member}
use Rattle.java_tree.specs.declared.unit.Member.TheVariants as members
use Rattle.java_tree.specs.declared.unit.TypeDecl.{TypeDecl}
use Rattle.java_tree.specs.declared.unit.TypeHead.{TypeHead}
use Rattle.java_tree.specs.declared.unit.TypeHead.TheVariants as heads
use Rattle.java_tree.specs.declared.unit.Unit.{Unit as CompilationUnit}
use Rattle.java_model.specs.Grammar.Signs.{Sign}
use Rattle.java_model.specs.Grammar.Units.{HasName, IsUnitOf}
use Rattle.java_model.specs.Outlines.{spelled_name}
use Rattle.java_model.specs.Names.Lists.{Identifier}
use Rattle.java_model.specs.Names.Environments.{declared_at, name_at, object_name}
use Rattle.java_model.specs.Tree.Nodes.{Node}
use Rattle.java_model.specs.Tree.Nodes as nodes
use Rattle.java_model.specs.Tree.Children.{numbered}
use Rattle.java_model.specs.Scopes.Contexts.{Context, numbered_id, this_type}
use Rattle.java_model.specs.Scopes.Scoping.{within_body}
use Rattle.java_model.specs.Scopes.TypeNames.{kinds_in_import}
use Rattle.java_model.specs.Bindings.Calls.{this_class, super_type}
use Rattle.java_model.specs.Bindings.Chains.{Types, part}
use Rattle.java_model.specs.Occurrences.Declarations.{import_role, spelled_superclass, simple_name, superclass_name, head_of, names_in_member}
use Rattle.java_model.specs.Occurrences.Occurrences.{Occurrences, node_names}
use Rattle.java_model.proofs.ContextLaws.{type-declared}
use Rattle.java_model.proofs.SpelledLaws.{TypeCalled}
use Rattle.java_laws.specs.Constructors.{ConstructorsAreOfTheirClass}
use Rattle.java_laws.specs.Declarations.{IsContext}
use Rattle.java_laws.proofs.Lists.{each-of}
use Rattle.java_laws.proofs.Numbers.{has-place, types-of}
use Rattle.java_laws.proofs.Shapes.{IsShaped, types-shaped}
use Rattle.java_laws.proofs.Supers.{super-called}
use Rattle.java_laws.proofs.Stands.{AsMember, AsExplicit, Stands, get-among, numbered-type, within-this, good-spot}
use Rattle.java_laws.proofs.UnitKeys.{occurrence-at}
use Rattle.java_laws.proofs.Made.{Laws, MadeAs, IsMade, AllMade, name-made, element-made, first-made, chain-made, implicit-in-made, explicit-made, declaration-made, supertype-made}

same-id : (C : Context) (n : ℕ) (k : TypeId) → types.Class (numbered_id C n) ≡ types.Class k → numbered_id C n ≡ k
same-id C n k e = cc

-- what a place inside a type of the unit has as its class and superclass
class-of : (C : Context) (s : List Bound) (n : ℕ) → this_type s ≡ Some (numbered_id C n) → this_class s ≡ types.Class (numbered_id C n)
class-of C s n e = ap (λ o. option_map_or types.Class o types.Unknown) e

own-called : (u : CompilationUnit) (C : Context) → IsContext u C → (s : List Bound) (n : ℕ) (t : TypeDecl) → slice_get u.types n ≡ Some t
    → this_type s ≡ Some (numbered_id C n) → TypeCalled C.env (simple_name t.head) (this_class s)
own-called u C c s n t at this k e =
    let d = type-declared c.env c.path u C n t c.of_env c.outlined at in
    ap (name_at C.env) (sym (same-id C n k (sym (class-of C s n this) ∙ e)))
    ∙ ap (option_map (λ x. x.type.name)) d.at ∙ ap Some d.name

above-called : (u : CompilationUnit) (C : Context) → IsContext u C → (s : List Bound) (n : ℕ) (t : TypeDecl) (h : ClassHead) → slice_get u.types n ≡ Some t
    → t.head ≡ heads.Class h → this_type s ≡ Some (numbered_id C n)
    → TypeCalled C.env (superclass_name (Some (heads.Class h))) (super_type C.env (this_class s))
above-called u C c s n t h at is this =
    subst (λ x. TypeCalled C.env (superclass_name (Some (heads.Class h))) (super_type C.env x)) (sym (class-of C s n this))
    (super-called u C n t h (has-place c.env c.path u C c.of_env c.outlined n t at) is)

-- where the superclass is spelled
spelled-above : (u : CompilationUnit) (C : Context) → IsContext u C → (s : List Bound) (n : ℕ) (t : TypeDecl) → slice_get u.types n ≡ Some t
    → this_type s ≡ Some (numbered_id C n) → (x : Identifier) → spelled_superclass t.head ≡ Some x → TypeCalled C.env x (super_type C.env (this_class s))
spelled-above u C c s n t at this x e = by t.head refl e
  where
    by : (h : TypeHead) → t.head ≡ h → spelled_superclass h ≡ Some x → TypeCalled C.env x (super_type C.env (this_class s))
    by (heads.Class h) is f =
        subst (λ name. TypeCalled C.env name (super_type C.env (this_class s))) (ap (λ o. option_map_or (λ n. n) o object_name) f)
        (above-called u C c s n t h at is this)
    by (heads.Interface i) is f = absurd (none-some x f)
    by heads.Anonymous is f = absurd (none-some x f)

-- a class alone has constructors
pub class-head : (t : TypeDecl) (c : Constructor) → HasName t.head c.name → (h : ClassHead) × (t.head ≡ heads.Class h)
class-head t c named = by t.head refl named
  where
    by : (x : TypeHead) → t.head ≡ x → HasName x c.name → (h : ClassHead) × (t.head ≡ heads.Class h)
    by (heads.Class h) e n = (h, e)
    by (heads.Interface i) e n = absurd n
    by heads.Anonymous e n = absurd n

head-is : (C : Context) (u : CompilationUnit) → C.types ≡ u.types → (n : ℕ) (t : TypeDecl) → slice_get u.types n ≡ Some t → head_of C n ≡ Some t.head
head-is C u same n t at = ap (λ ts. option_map (λ x. x.head) (slice_get ts n)) same ∙ ap (option_map (λ x. x.head)) at

-- NODES
pub record Premises (u : CompilationUnit) (C : Context) : Type 0 where
  pub law : Laws
  pub context : IsContext u C
  pub same : C.types ≡ u.types
  pub shaped : AllByRecursion IsShaped u.types

member-made : (u : CompilationUnit) (C : Context) → Premises u C → (s : List Bound) (number : ℕ) (m : Member) → AsMember C u s number m
    → AllMade C.env (names_in_member C s number m)
member-made u C p s number members.Empty h = tt
member-made u C p s number (members.Initializer is_static b) h = tt
member-made u C p s number (members.Type brace) h = tt
member-made u C p s number (members.Field f) h = tt
member-made u C p s number (members.Method m) h = (tt, tt)
member-made u C p s number (members.Constructor c) h = (
  tt,
  implicit-in-made p.law.chosen C s number c c.explicit
      (λ x e. spelled-above u C p.context s number h.type h.at h.this x
      (sym (ap (option_and_then spelled_superclass) (head-is C u p.same number h.type h.at)) ∙ e)),
)

explicit-at : (u : CompilationUnit) (C : Context) → Premises u C → (s : List Bound) (number : ℕ) (e : Explicit) (parts : List Types) → AsExplicit C u s number e
    → AllMade C.env (node_names C s (nodes.explicit number e) parts)
explicit-at u C p s number e parts h =
    let head = head-is C u p.same number h.type h.at in
    let shape = each-of IsShaped u.types h.type p.shaped (get-among u.types number h.type h.at) in
    let k = class-head h.type h.constructor (shape.names h.constructor h.among) in (
      explicit-made p.law.chosen C s number (length e.arguments) e.callee parts
          (subst (λ o. TypeCalled C.env (option_map_or simple_name o []) (this_class s)) (sym head) (own-called u C p.context s number h.type h.at h.this))
          (subst (λ o. TypeCalled C.env (superclass_name o) (super_type C.env (this_class s))) (sym (head ∙ ap Some k.1))
          (above-called u C p.context s number h.type k.0 h.at k.1 h.this)),
      tt,
    )

declaration-at : (u : CompilationUnit) (C : Context) → Premises u C → (s : List Bound) (brace : ℕ) (parts : List Types)
    → AllMade C.env (node_names C s (nodes.declaration brace) parts)
declaration-at u C p s brace parts = declaration-made p.law.chosen C s (numbered C.types brace)
    (λ v e x f.
    let at = numbered-type u.types brace v (ap (λ ts. numbered ts brace) (sym p.same) ∙ e) in
    spelled-above u C p.context (s ++ within_body C (Some v)) v.number v.type at (within-this C s (Some v) v refl) x f)

pub node-made : (u : CompilationUnit) (C : Context) → Premises u C → (s : List Bound) (n : Node) (parts : List Types) → Stands C u s n
    → AllMade C.env (node_names C s n parts)
node-made u C p s (nodes.package_clause n) parts h = (tt, tt)
node-made u C p s (nodes.imported i) parts h = name-made C.env (import_role i.star) i.name (kinds_in_import C.env i.star (spelled_name i.name))
node-made u C p s (nodes.declaration brace) parts h = declaration-at u C p s brace parts
node-made u C p s (nodes.supertype number n) parts h = supertype-made C (numbered_id C number) n (declared_at C.env (numbered_id C number))
node-made u C p s (nodes.member number m) parts h = member-made u C p s number m h
node-made u C p s (nodes.field number v) parts h = (tt, tt)
node-made u C p s (nodes.type_use e dims) parts h = element-made C s e
node-made u C p s (nodes.explicit number e) parts h = explicit-at u C p s number e parts h
node-made u C p s (nodes.primary how x) parts h = chain-made p.law C s how (part 0 parts) (zip x.selectors (drop 1 parts))
node-made u C p s (nodes.first how f) parts h = first-made p.law C s how (out-First f) parts
node-made u C p s _ parts h = tt

pub is-made : Laws → (tokens : List Sign) (u : CompilationUnit) (C : Context) → IsUnitOf tokens u → IsContext u C → (os : List Occurrence) → Occurrences C u os
    → (o : Occurrence) → Contains os o → IsMade C.env o
is-made law tokens u C unit c os h o a =
    let r = occurrence-at C u os h o a in
    let same = types-of c.env c.path u C c.of_env in
    let p : Premises u C = record { law = law; context = c; same = same; shaped = types-shaped tokens u unit } in
    each-of (IsMade C.env) (node_names C r.1.scope r.1.node r.2) o
    (node-made u C p r.1.scope r.1.node r.2 (good-spot C u same r.0 r.1 r.3.is).stands) r.4

pub constructors-are-of-their-class : Laws → ConstructorsAreOfTheirClass
constructors-are-of-their-class law tokens u C unit c os h o a m k b =
    (subst (λ x. MadeAs C.env o x) k (is-made law tokens u C unit c os h o a) m b).named
