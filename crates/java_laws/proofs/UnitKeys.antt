-- A unit has the keys of its references.
use Rattle.std.proofs.Common.{◌≡◌, ℕ, zero, suc, List, [], ◌∷◌, ◌++◌, Option, Some, None, map, drop, slice_get, length, refl, sym, ap, ◌∙◌, subst, inl, inr, Contains}
use Rattle.std.specs.Prelude.{option_map}
use Rattle.std.specs.List.{AllByRecursion, zip}
use Rattle.std.proofs.lemmas.Option.{none-some, same_Some}
use Rattle.std.proofs.lemmas.List.Sorted.{Contains-permutation, IsPermutation-sym}
use Rattle.java_tree.specs.declared.bound.Bound.{Bound}
use Rattle.java_tree.specs.declared.expr.First.{First, out-First}
use Rattle.java_tree.specs.declared.expr.Primary.{Primary}
use Rattle.java_tree.specs.declared.expr.Selector.{Selector, out-Selector}
use Rattle.java_tree.specs.declared.occurrence.Access.{Access}
use Rattle.java_tree.specs.declared.occurrence.OccKind.TheVariants as occ
use Rattle.java_tree.specs.declared.occurrence.Occurrence.{Occurrence}
use Rattle.java_tree.specs.declared.unit.Unit.{Unit as CompilationUnit}
use Rattle.java_model.specs.Outlines.{spelled_name}
use Rattle.java_model.specs.Names.Environments.{declared_at}
use Rattle.java_model.specs.Places.{Rules, lead, LeadsTo, Name, no_paths, a_path}
use Rattle.java_model.specs.Tree.Nodes.{Node, unit, primary, first, selector, creation}
use Rattle.java_model.specs.Tree.Nodes as nodes
use Rattle.java_model.specs.Tree.InExpressions.{in_first, in_selector}
use Rattle.java_model.specs.Tree.Children.{numbered, children}
use Rattle.java_model.specs.Scopes.Contexts.{Context, numbered_id}
use Rattle.java_model.specs.Scopes.Scoping.{Spot, leaves, spots, inside, opens}
use Rattle.java_model.specs.Scopes.TypeNames.{kinds_in_import}
use Rattle.java_model.specs.Bindings.Chains.{Types, part}
use Rattle.java_model.specs.Occurrences.Declarations.{package_declaration, import_role, field_declaration}
use Rattle.java_model.specs.Occurrences.Occurrences.{Occurrences, java_rules, node_names, spot_at}
use Rattle.java_model.specs.Matches.Keys.{declaration_keys, node_keys, key_rules, HasKey}
use Rattle.java_laws.specs.Keys.{ReferencesHaveKeys, BindingsAreOfTheirKind}
use Rattle.java_laws.proofs.Lists.{Among, among, among-append, contained, each-of}
use Rattle.java_laws.proofs.NameKeys.{Told, AllKeyed, none-keyed, name-keyed}
use Rattle.java_laws.proofs.NodeKeys.{bound-field, Had, idents-keyed, element-keyed, first-keyed, CreationHad, SelectorHad, chain-keyed, zip-had, member-keyed, explicit-keyed, declaration-keyed, supertype-keyed}

-- PLACES
one-further : {X V O : Type 0} (rules : Rules X V O) (at : Option X) (path : List ℕ) (x : X) (i : ℕ) → lead rules at path ≡ Some x
    → lead rules at (path ++ i ∷ []) ≡ slice_get (rules.inside x) i
one-further rules at [] x i e = ap (λ o. lead rules o (i ∷ [])) e
one-further rules None (j ∷ path) x i e = absurd (none-some x e)
one-further rules (Some y) (j ∷ path) x i e = one-further rules (slice_get (rules.inside y) j) path x i e

pub record IsAt (u : CompilationUnit) (n : Node) : Type 0 where
  pub place : List ℕ
  pub leads : lead (key_rules u) (Some (unit u)) place ≡ Some n

pub within : (u : CompilationUnit) (n m : Node) (i : ℕ) → IsAt u n → slice_get (children u.types n) i ≡ Some m → IsAt u m
within u n m i a e = record { place = a.place ++ i ∷ []; leads = one-further (key_rules u) (Some (unit u)) a.place n i a.leads ∙ e }

pub had : (u : CompilationUnit) (n : Node) → IsAt u n → Had (HasKey u) (node_keys u n)
had u n a key k = record { place = a.place; node = n; leads = a.leads; gives = contained (node_keys u n) key k }

-- the node at a place of occurrences is that at the same place of keys
node-of : (C : Context) (s : List Bound) (ns : List Node) (i : ℕ) → option_map (λ x. x.node) (slice_get (spots C s ns) i) ≡ slice_get ns i
node-of C s [] i = refl
node-of C s (n ∷ ns) zero = refl
node-of C s (n ∷ ns) (suc i) = node-of C (s ++ leaves C s n) ns i

same-node : (C : Context) (u : CompilationUnit) → C.types ≡ u.types → (o : Option Spot) (path : List ℕ)
    → option_map (λ x. x.node) (lead (java_rules C) o path) ≡ lead (key_rules u) (option_map (λ x. x.node) o) path
same-node C u same o [] = refl
same-node C u same None (i ∷ path) = refl
same-node C u same (Some x) (i ∷ path) =
    same-node C u same (slice_get (inside C x) i) path
    ∙ ap (λ m. lead (key_rules u) m path) (node-of C (x.scope ++ opens C x.scope x.node) (children C.types x.node) i
    ∙ ap (λ ts. slice_get (children ts x.node) i) same)

pub at-spot : (C : Context) (u : CompilationUnit) → C.types ≡ u.types → (place : List ℕ) (x : Spot) → spot_at C u place ≡ Some x → IsAt u x.node
at-spot C u same place x e = record {
  place = place;
  leads = sym (same-node C u same (Some (record { scope = []; node = unit u })) place)
      ∙ ap (option_map (λ y. y.node)) e;
}

-- NODES
all-by : {X : Type 0} (P : X → Type 0) (xs : List X) → ((i : ℕ) (x : X) → slice_get xs i ≡ Some x → P x) → AllByRecursion P xs
all-by P [] h = tt
all-by P (x ∷ xs) h = (h 0 x refl, all-by P xs (λ i y e. h (suc i) y e))

get-map : {X Y : Type 0} (f : X → Y) (xs : List X) (i : ℕ) (x : X) → slice_get xs i ≡ Some x → slice_get (map f xs) i ≡ Some (f x)
get-map f [] i x e = absurd (none-some x e)
get-map f (y ∷ ys) zero x e = ap (λ z. Some (f z)) (same_Some y x e)
get-map f (y ∷ ys) (suc i) x e = get-map f ys i x e

selector-had : (u : CompilationUnit) (x : Selector) → IsAt u (selector x) → SelectorHad (HasKey u) u (out-Selector x)
selector-had u x a = record {
  own = had u (selector x) a;
  inner = λ c e. had u (creation c) (within u (selector x) (creation c) 0 a (ap (λ y. slice_get (in_selector y) 0) e));
}

pub selectors-had : (u : CompilationUnit) (how : Access) (p : Primary) → IsAt u (primary how p)
    → AllByRecursion (λ x. SelectorHad (HasKey u) u (out-Selector x)) p.selectors
selectors-had u how p a = all-by (λ x. SelectorHad (HasKey u) u (out-Selector x)) p.selectors
    (λ i x e. selector-had u x (within u (primary how p) (selector x) (suc i) a (get-map selector p.selectors i x e)))

pub first-had : (u : CompilationUnit) (how : Access) (f : First) → IsAt u (first how f) → CreationHad (HasKey u) u (out-First f)
first-had u how f a c e = had u (creation c) (within u (first how f) (creation c) 0 a (ap (λ y. slice_get (in_first how y) 0) e))

pub node-keyed : (C : Context) (u : CompilationUnit) (s : List Bound) (n : Node) (parts : List Types) → C.types ≡ u.types → IsAt u n
    → AllKeyed (HasKey u) (node_names C s n parts)
node-keyed C u s (nodes.unit v) parts same a = tt
node-keyed C u s (nodes.package_clause n) parts same a = (none-keyed (HasKey u) (package_declaration n) (λ e. cc) (refl, refl) refl, tt)
node-keyed C u s (nodes.imported i) parts same a =
    name-keyed (HasKey u) (import_role i.star) i.name (kinds_in_import C.env i.star (spelled_name i.name))
    (idents-keyed (HasKey u) i.name (had u (nodes.imported i) a))
node-keyed C u s (nodes.declaration brace) parts same a =
    declaration-keyed (HasKey u) C u s (numbered C.types brace)
    (subst (λ ts. Had (HasKey u) (declaration_keys u (numbered ts brace))) (sym same) (had u (nodes.declaration brace) a))
node-keyed C u s (nodes.supertype number n) parts same a =
    supertype-keyed (HasKey u) C (numbered_id C number) n (declared_at C.env (numbered_id C number)) (had u (nodes.supertype number n) a)
node-keyed C u s (nodes.body brace) parts same a = tt
node-keyed C u s (nodes.member number m) parts same a = member-keyed (HasKey u) C u s number m same (had u (nodes.member number m) a)
node-keyed C u s (nodes.field number v) parts same a =
    (none-keyed (HasKey u) (field_declaration C number v.name) (λ e. cc) (bound-field occ.FieldDecl v.name.name (numbered_id C number) _ refl) refl, tt)
node-keyed C u s (nodes.variable t v) parts same a = tt
node-keyed C u s (nodes.parameter p) parts same a = tt
node-keyed C u s (nodes.type_use e dims) parts same a = element-keyed (HasKey u) C s e (had u (nodes.type_use e dims) a)
node-keyed C u s (nodes.explicit number e) parts same a =
    (explicit-keyed (HasKey u) C u s number (length e.arguments) e.callee parts same (had u (nodes.explicit number e) a _ (inl refl)), tt)
node-keyed C u s (nodes.block b) parts same a = tt
node-keyed C u s (nodes.statement x) parts same a = tt
node-keyed C u s (nodes.locals l) parts same a = tt
node-keyed C u s (nodes.arm x) parts same a = tt
node-keyed C u s (nodes.group g) parts same a = tt
node-keyed C u s (nodes.catch_clause c) parts same a = tt
node-keyed C u s (nodes.expression how x) parts same a = tt
node-keyed C u s (nodes.primary how p) parts same a =
    chain-keyed (HasKey u) C u s how (part 0 parts) (zip p.selectors (drop 1 parts))
    (zip-had (HasKey u) u p.selectors (drop 1 parts) (selectors-had u how p a))
node-keyed C u s (nodes.first how f) parts same a =
    first-keyed (HasKey u) C u s how (out-First f) parts (had u (nodes.first how f) a) (first-had u how f a)
node-keyed C u s (nodes.selector x) parts same a = tt
node-keyed C u s (nodes.creation c) parts same a = tt
node-keyed C u s (nodes.array x) parts same a = tt

-- the place that names an occurrence
pub named-at : {X V O : Type 0} (rules : Rules X V O) (leads : List ℕ → Option X) {paths : List (List ℕ)} {os : List O} → Name rules leads paths os
    → (o : O) → Among os o → (path : List ℕ) × (x : X) × (parts : List V) × LeadsTo rules leads path x parts × Among (rules.names x parts) o
named-at rules leads no_paths o a = absurd a
named-at rules leads (a_path path paths x parts found l more) o a = elim (among-append (rules.names x parts) found o a) [
  | inl b ↦ (path, x, parts, l, b)
  | inr b ↦ named-at rules leads more o b
]

pub occurrence-at : (C : Context) (u : CompilationUnit) (os : List Occurrence) → Occurrences C u os → (o : Occurrence) → Contains os o
    → (path : List ℕ) × (x : Spot) × (parts : List Types) × LeadsTo (java_rules C) (spot_at C u) path x parts × Among (node_names C x.scope x.node parts) o
occurrence-at C u os h o c =
    named-at (java_rules C) (spot_at C u) h.name o (among h.named o (Contains-permutation os h.named o (IsPermutation-sym h.named os h.same) c))

pub told : (C : Context) (u : CompilationUnit) (os : List Occurrence) → C.types ≡ u.types → Occurrences C u os → (o : Occurrence) → Contains os o
    → Told (HasKey u) o
told C u os same h o c =
    let r = occurrence-at C u os h o c in
    each-of (Told (HasKey u)) (node_names C r.1.scope r.1.node r.2) o
    (node-keyed C u r.1.scope r.1.node r.2 same (at-spot C u same r.0 r.1 r.3.is)) r.4

pub references-have-keys : ReferencesHaveKeys
references-have-keys C u os same h o c = (told C u os same h o c).keyed

pub bindings-are-of-their-kind : BindingsAreOfTheirKind
bindings-are-of-their-kind C u os same h o c = (told C u os same h o c).of_kind
