-- What the occurrences weigh that a node names, by sorts of kinds of which one token gives one each.
use Rattle.std.proofs.Common.{◌≡◌, ◌≤◌, ◌+◌, ℕ, Bool, true, false, cond, List, [], ◌∷◌, ◌++◌, Option, Some, None, map, refl, ap, arith, length, drop}
use Rattle.std.specs.List.{zip, list_any}
use Rattle.java_tree.specs.declared.bound.Bound.{Bound}
use Rattle.java_tree.specs.declared.names.ElementType.{ElementType}
use Rattle.java_tree.specs.declared.names.ElementType.TheVariants as elements
use Rattle.java_tree.specs.declared.names.Ident.{Ident}
use Rattle.java_tree.specs.declared.occurrence.Access.{Access}
use Rattle.java_tree.specs.declared.occurrence.Access.TheVariants.{Read}
use Rattle.java_tree.specs.declared.occurrence.MethodId.{MethodId}
use Rattle.java_tree.specs.declared.occurrence.OccKind.{OccKind}
use Rattle.java_tree.specs.declared.occurrence.OccKind.TheVariants as occ
use Rattle.java_tree.specs.declared.occurrence.Occurrence.{Occurrence}
use Rattle.java_tree.specs.declared.occurrence.TypeId.{TypeId}
use Rattle.java_tree.specs.declared.token.Span.{Span}
use Rattle.java_tree.specs.declared.types.JType.{JType}
use Rattle.java_tree.specs.declared.types.NameKind.{NameKind}
use Rattle.java_tree.specs.declared.types.NameKind.TheVariants as kinds
use Rattle.java_tree.specs.declared.expr.Creation.{Creation}
use Rattle.java_tree.specs.declared.expr.Expr.{Expr}
use Rattle.java_tree.specs.declared.expr.Expr.TheOpen.{First-F, Selector-F}
use Rattle.java_tree.specs.declared.expr.First.{out-First}
use Rattle.java_tree.specs.declared.expr.Selector.{Selector, out-Selector}
use Rattle.java_tree.specs.declared.unit.Callee.{Callee}
use Rattle.java_tree.specs.declared.unit.Callee.TheVariants as callees
use Rattle.java_tree.specs.declared.unit.Constructor.{Constructor}
use Rattle.java_tree.specs.declared.unit.Explicit.{Explicit}
use Rattle.java_tree.specs.declared.unit.Member.{Member}
use Rattle.java_tree.specs.declared.unit.Member.TheVariants as members
use Rattle.java_tree.specs.declared.unit.TypeHead.{TypeHead}
use Rattle.java_tree.specs.declared.unit.TypeHead.TheVariants as heads
use Rattle.java_model.specs.Grammar.Forms.{FirstLayer, SelectorLayer}
use Rattle.java_model.specs.Names.Environments.{Declared}
use Rattle.java_model.specs.Names.Lists.{Identifier}
use Rattle.java_model.specs.Outlines.{spelled_name}
use Rattle.java_model.specs.Scopes.Contexts.{Context}
use Rattle.java_model.specs.Tree.Nodes.{Node}
use Rattle.java_model.specs.Tree.Nodes as nodes
use Rattle.java_model.specs.Tree.Children.{Numbered, numbered, children}
use Rattle.java_model.specs.Tree.InExpressions.{in_first, in_selector}
use Rattle.java_model.specs.Bindings.Chains.{Types, part, selector_type, anonymous_class, created_class, inner_created, last_name}
use Rattle.java_model.specs.Bindings.Calls.{inner_class}
use Rattle.java_model.specs.Scopes.Scoping.{within_body}
use Rattle.java_model.specs.Scopes.NameKinds.{kind_or_nothing}
use Rattle.java_model.specs.Scopes.TypeNames.{created_kinds}
use Rattle.java_model.specs.Occurrences.References.{no_span, whole_span, Role, as_type, as_import, as_qualifier, as_variable, last_access, with_last_kind, unbound_last, identifier_in, identifiers_in, package_run, counts_before, package_in, occurrences_in}
use Rattle.java_model.specs.Occurrences.Expressions.{super_of_anonymous, constructor_reference, is_interface_of, at_created, in_creation, only_last, in_inner_creation, all_but_last, at_last, in_call, names_in_first, names_in_selector, names_in_chain, in_optional_type, in_element, field_reference}
use Rattle.java_model.specs.Occurrences.Declarations.{package_declaration, is_constructor, spelled_superclass, import_role, implicit_super, implicit_in, names_in_member, names_in_explicit, type_declaration, default_super, names_in_declaration, super_at_last, in_supertype}
use Rattle.java_model.specs.Occurrences.Occurrences.{node_names}
use Rattle.java_laws.proofs.Starts.{Weight, idents, total}
use Rattle.java_laws.proofs.StartsExpr.{own, own-package, own-selector, own-element, own-option, own-first, own-callee, own-member, own-head, own-declared}

-- An identifier may give one name, one supertype and one constructor.
pub data Sort : Type 0 where
  names : Sort
  supers : Sort
  creates : Sort

abbrev pub same-sort : Sort → Sort → Bool
same-sort names names = true
same-sort supers supers = true
same-sort creates creates = true
same-sort g h = false

abbrev pub sort-of : OccKind → Sort
sort-of occ.Super = supers
sort-of occ.CtorRef = creates
sort-of k = names

-- k, where the sorts are the same
abbrev pub share : Sort → Sort → ℕ → ℕ
share g h k = cond (same-sort g h) k 0

abbrev pub counted : Weight → Sort → Occurrence → ℕ
counted at g o = share g (sort-of o.kind) (at.weigh o.span)

abbrev pub counts : Weight → Sort → List Occurrence → ℕ
counts at g [] = 0
counts at g (o ∷ os) = counted at g o + counts at g os

pub counts-append : (at : Weight) (g : Sort) (os qs : List Occurrence) → counts at g (os ++ qs) ≡ counts at g os + counts at g qs
counts-append at g [] qs = omega arith
counts-append at g (o ∷ os) qs = let e = counts-append at g os qs in omega (arith, e)

share-most : (g h : Sort) (k : ℕ) → share g h k ≤ k
share-most g h k = by (same-sort g h)
  where
    by : (b : Bool) → cond b k 0 ≤ k
    by true = omega arith
    by false = omega arith

share-more : (g h : Sort) (k l : ℕ) → k ≤ l → share g h k ≤ share g h l
share-more g h k l e = by (same-sort g h)
  where
    by : (b : Bool) → cond b k 0 ≤ cond b l 0
    by true = e
    by false = omega arith

share-sum : (g h : Sort) (k l : ℕ) → share g h (k + l) ≡ share g h k + share g h l
share-sum g h k l = by (same-sort g h)
  where
    by : (b : Bool) → cond b (k + l) 0 ≡ cond b k 0 + cond b l 0
    by true = refl
    by false = omega arith

-- one of each sort
thirds : (g : Sort) (a b : ℕ) → b ≤ a → share g names a + share g supers b + share g creates b ≤ a
thirds names a b h = omega (arith, h)
thirds supers a b h = omega (arith, h)
thirds creates a b h = omega (arith, h)

abbrev firsts : Weight → List (Ident × NameKind) → ℕ
firsts at [] = 0
firsts at (x ∷ xs) = at.weigh x.0.span + firsts at xs

abbrev last-one : Weight → List Ident → ℕ
last-one at [] = 0
last-one at (i ∷ []) = at.weigh i.span
last-one at (i ∷ j ∷ more) = last-one at (j ∷ more)

module _ (at : Weight) (g : Sort) where
  unbound-counted : (role : Role) (i : Ident) → counted at g (unbound_last role i) ≤ share g names (at.weigh i.span)
  unbound-counted as_type i = omega arith
  unbound-counted (as_variable how) i = omega arith
  unbound-counted as_import i = omega arith
  unbound-counted as_qualifier i = omega arith

  identifier-counted : (how : Access) (o : Occurrence) (i : Ident) (kind : NameKind) → counted at g o ≤ share g names (at.weigh i.span)
      → counts at g (identifier_in how o i kind) ≤ share g names (at.weigh i.span)
  identifier-counted how o i (kinds.Class t) h = omega arith
  identifier-counted how o i (kinds.Field f) h = omega arith
  identifier-counted how o i kinds.Nothing h = omega (arith, h)
  identifier-counted how o i (kinds.Local t) h = omega arith
  identifier-counted how o i kinds.Package h = omega arith

  identifiers-counted : (role : Role) (xs : List (Ident × NameKind)) → counts at g (identifiers_in role xs) ≤ share g names (firsts at xs)
  identifiers-counted role [] = omega arith
  identifiers-counted role (x ∷ []) =
      let h = identifier-counted (last_access role) (unbound_last role x.0) x.0 x.1 (unbound-counted role x.0) in
      let e = share-sum g names (at.weigh x.0.span) 0 in
      omega (arith, h, e)
  identifiers-counted role (x ∷ y ∷ more) =
      let h = identifier-counted Read (unbound_last as_qualifier x.0) x.0 x.1 (unbound-counted as_qualifier x.0) in
      let k = identifiers-counted role (y ∷ more) in
      let e = share-sum g names (at.weigh x.0.span) (firsts at (y ∷ more)) in
      let f = counts-append at g (identifier_in Read (unbound_last as_qualifier x.0) x.0 x.1) (identifiers_in role (y ∷ more)) in
      omega (arith, h, k, e, f)

  idents-append : (is js : List Ident) → idents at (is ++ js) ≡ idents at is + idents at js
  idents-append [] js = omega arith
  idents-append (i ∷ is) js = let e = idents-append is js in omega (arith, e)

  run-counted : (done : List Ident) (xs : List (Ident × NameKind))
      → idents at (package_run done xs).run + firsts at (package_run done xs).rest ≡ idents at done + firsts at xs
  run-counted done [] = omega arith
  run-counted done ((i, kinds.Package) ∷ more) =
      let h = run-counted (done ++ i ∷ []) more in
      let e = idents-append done (i ∷ []) in
      omega (arith, h, e)
  run-counted done ((i, kinds.Class t) ∷ more) = refl
  run-counted done ((i, kinds.Field t) ∷ more) = refl
  run-counted done ((i, kinds.Local t) ∷ more) = refl
  run-counted done ((i, kinds.Nothing) ∷ more) = refl

  package-counted : (role : Role) (run : List Ident) (rest : List (Ident × NameKind)) (b : Bool)
      → counts at g (package_in role run rest b) ≤ share g names (idents at run)
  package-counted role [] rest b = omega arith
  package-counted role (i ∷ run) rest false = omega arith
  package-counted role (i ∷ run) rest true =
      let e = share-more g names (at.weigh (whole_span (i ∷ run))) (idents at (i ∷ run)) (at.wide i run) in
      omega (arith, e)

  zipped : (n : List Ident) (ks : List NameKind) → firsts at (zip n ks) ≤ idents at n
  zipped [] ks = omega arith
  zipped (i ∷ n) [] = omega arith
  zipped (i ∷ n) (k ∷ ks) = let h = zipped n ks in omega (arith, h)

  name-counted : (role : Role) (n : List Ident) (ks : List NameKind) → counts at g (occurrences_in role n ks) ≤ share g names (idents at n)
  name-counted role n ks =
      let marked = zip n (with_last_kind role ks) in
      let found = package_run [] marked in
      let a = package-counted role found.run found.rest (counts_before role found.rest) in
      let b = identifiers-counted role found.rest in
      let c = run-counted [] marked in
      let d = zipped n (with_last_kind role ks) in
      let m : (idents at found.run + firsts at found.rest) ≤ idents at n = omega (arith, c, d) in
      let e = share-more g names (idents at found.run + firsts at found.rest) (idents at n) m in
      let f = share-sum g names (idents at found.run) (firsts at found.rest) in
      let h = counts-append at g (package_in role found.run found.rest (counts_before role found.rest)) (identifiers_in role found.rest) in
      omega (arith, a, b, e, f, h)

  last-least : (n : List Ident) → last-one at n ≤ idents at n
  last-least [] = omega arith
  last-least (i ∷ []) = omega arith
  last-least (i ∷ j ∷ more) = let h = last-least (j ∷ more) in omega (arith, h)

  only-last : (n : List Ident) → idents at (only_last n) ≡ last-one at n
  only-last [] = refl
  only-last (i ∷ []) = omega arith
  only-last (i ∷ j ∷ more) = only-last (j ∷ more)

  parted-last : (n : List Ident) → idents at (all_but_last n) + last-one at n ≡ idents at n
  parted-last [] = omega arith
  parted-last (i ∷ []) = omega arith
  parted-last (i ∷ j ∷ more) = let h = parted-last (j ∷ more) in omega (arith, h)

  supers-counted : (n : List Ident) (t : JType) → counts at g (super_at_last n t) ≤ share g supers (last-one at n)
  supers-counted [] t = omega arith
  supers-counted (i ∷ []) t = omega arith
  supers-counted (i ∷ j ∷ more) t = supers-counted (j ∷ more) t

  appended : (os qs : List Occurrence) (k l : ℕ) → counts at g os ≤ k → counts at g qs ≤ l → counts at g (os ++ qs) ≤ k + l
  appended os qs k l h f = let e = counts-append at g os qs in omega (arith, e, h, f)

  creates-counted : (b : Bool) (i : Ident) (xs : List Expr) (m : Option MethodId)
      → counts at g (cond b [] (constructor_reference i xs m ∷ [])) ≤ share g creates (at.weigh i.span)
  creates-counted true i xs m = omega arith
  creates-counted false i xs m = omega arith

  anonymous-counted : (b : Option ℕ) (i : Ident) (t : JType) → counts at g (super_of_anonymous b i t) ≤ share g supers (at.weigh i.span)
  anonymous-counted None i t = omega arith
  anonymous-counted (Some brace) i t = omega arith

  created-counted : (C : Context) (s : List Bound) (c : Creation) (t : JType) (xs : Types) (n : List Ident)
      → counts at g (at_created C s c t xs n) ≤ share g supers (last-one at n) + share g creates (last-one at n)
  created-counted C s c t xs [] = omega arith
  created-counted C s c t xs (i ∷ []) = appended _ _ _ _ (anonymous-counted c.body i t) (creates-counted (is_interface_of C.env t) i c.arguments _)
  created-counted C s c t xs (i ∷ j ∷ more) = created-counted C s c t xs (j ∷ more)

  at-last-counted : (n : List Ident) (xs : List Expr) (m : Option MethodId) → counts at g (at_last n xs m) ≤ share g names (last-one at n)
  at-last-counted [] xs m = omega arith
  at-last-counted (i ∷ []) xs m = omega arith
  at-last-counted (i ∷ j ∷ more) xs m = at-last-counted (j ∷ more) xs m

  all-last : (n : List Ident) → share g names (idents at n) + (share g supers (last-one at n) + share g creates (last-one at n)) ≤ idents at n
  all-last n = let a = thirds g (idents at n) (last-one at n) (last-least n) in omega (arith, a)

  only-all-last : (n : List Ident) → share g names (idents at (only_last n)) + (share g supers (last-one at n) + share g creates (last-one at n)) ≤ idents at n
  only-all-last n =
      let a = thirds g (last-one at n) (last-one at n) (omega arith) in
      let b = last-least n in
      let c = ap (share g names) (only-last n) in
      omega (arith, a, b, c)

  below : (a b c : ℕ) → a ≤ b → b ≤ c → a ≤ c
  below a b c h k = omega (arith, h, k)

  creation-counted : (C : Context) (s : List Bound) (c : Creation) (xs : Types) → counts at g (in_creation C s c xs) ≤ idents at c.class
  creation-counted C s c xs =
      below _ _ _ (appended _ _ _ _ (name-counted as_type c.class (created_kinds C s (anonymous_class C c) (spelled_name c.class)))
      (created-counted C s c (created_class C s c) xs c.class)) (all-last c.class)

  inner-counted : (C : Context) (s : List Bound) (t : JType) (c : Creation) (xs : Types) → counts at g (in_inner_creation C s t c xs) ≤ idents at c.class
  inner-counted C s t c xs =
      below _ _ _ (appended _ _ _ _
      (name-counted as_type (only_last c.class) (kind_or_nothing kinds.Class (inner_class C.env t (last_name (spelled_name c.class))) ∷ []))
      (created-counted C s c (inner_created C.env t c) xs c.class)) (only-all-last c.class)

  name-most : (role : Role) (n : List Ident) (ks : List NameKind) → counts at g (occurrences_in role n ks) ≤ idents at n
  name-most role n ks = below _ _ _ (name-counted role n ks) (share-most g names (idents at n))

  call-counted : (C : Context) (s : List Bound) (n : List Ident) (xs : List Expr) (ts : Types) → counts at g (in_call C s n xs ts) ≤ idents at n
  call-counted C s n xs ts =
      let e = parted-last n in
      below _ _ _ (appended _ _ _ _ (name-most as_qualifier (all_but_last n) _)
      (below _ _ _ (at-last-counted n xs _) (share-most g names (last-one at n)))) (omega (arith, e))

  field-counted : (how : Access) (i : Ident) (kind : NameKind) → counts at g (field_reference how i kind) ≤ at.weigh i.span
  field-counted how i kind =
      below _ _ _ (identifier-counted how (unbound_last (as_variable how) i) i kind (unbound-counted (as_variable how) i)) (share-most g names
      (at.weigh i.span))

  option-counted : (C : Context) (s : List Bound) (n : Option (List Ident)) → counts at g (in_optional_type C s n) ≤ own-option at n
  option-counted C s None = omega arith
  option-counted C s (Some n) = name-most as_type n _

  -- one occurrence alone
  spanned : (h : Sort) (span : Span) → share g h (at.weigh span) + 0 ≤ at.weigh span
  spanned h span = let e = share-most g h (at.weigh span) in omega (arith, e)

  element-counted : (C : Context) (s : List Bound) (e : ElementType) → counts at g (in_element C s e) ≤ own-element at e
  element-counted C s (elements.Primitive p) = omega arith
  element-counted C s (elements.Named n) = name-most as_type n _

-- what a node has named by the node around it
abbrev pub extra-selector : Weight → SelectorLayer → ℕ
extra-selector at (Selector-F.Field i) = at.weigh i.span
extra-selector at (Selector-F.MemberCall i xs) = at.weigh i.span
extra-selector at (Selector-F.Index x) = 0
extra-selector at (Selector-F.QualifiedNew c) = idents at c.class

abbrev pub extra : Weight → Node → ℕ
extra at (nodes.selector x) = extra-selector at (out-Selector x)
extra at (nodes.creation c) = idents at c.class
extra at _ = 0

module _ (at : Weight) (g : Sort) where
  first-fits : (C : Context) (s : List Bound) (how : Access) (l : FirstLayer) (parts : List Types)
      → counts at g (names_in_first C s how l parts) ≤ own-first at l + total (extra at) (in_first how l)
  first-fits C s how (First-F.Name n) parts = below at g _ _ _ (name-most at g (as_variable how) n _) (omega arith)
  first-fits C s how (First-F.QualifiedThis n i) parts = below at g _ _ _ (name-most at g as_type n _) (omega arith)
  first-fits C s how (First-F.SuperField n x i) parts = below at g _ _ _ (appended at g _ _ _ _ (option-counted at g C s n) (field-counted at g how i _))
      (omega arith)
  first-fits C s how (First-F.Call n xs) parts = below at g _ _ _ (call-counted at g C s n xs _) (omega arith)
  first-fits C s how (First-F.SuperCall n x i xs) parts = below at g _ _ _ (appended at g _ _ _ _ (option-counted at g C s n) (spanned at g names i.span))
      (omega arith)
  first-fits C s how (First-F.New c) parts = below at g _ _ _ (creation-counted at g C s c _) (omega arith)
  first-fits C s how (First-F.Literal l) parts = omega arith
  first-fits C s how (First-F.This x) parts = omega arith
  first-fits C s how (First-F.Parenthesized x) parts = omega arith
  first-fits C s how (First-F.ClassLiteral t) parts = omega arith
  first-fits C s how First-F.VoidClass parts = omega arith
  first-fits C s how (First-F.NewArray e xs dims) parts = omega arith
  first-fits C s how (First-F.NewArrayOf e dims a) parts = omega arith

  selector-fits : (C : Context) (s : List Bound) (how : Access) (t : JType) (l : SelectorLayer) (xs : Types)
      → counts at g (names_in_selector C s how t l xs) ≤ extra-selector at l
  selector-fits C s how t (Selector-F.Field i) xs = field-counted at g how i _
  selector-fits C s how t (Selector-F.MemberCall i ys) xs = spanned at g names i.span
  selector-fits C s how t (Selector-F.Index x) xs = omega arith
  selector-fits C s how t (Selector-F.QualifiedNew c) xs = inner-counted at g C s t c xs

  chained : List (Selector × Types) → ℕ
  chained [] = 0
  chained (x ∷ xs) = extra-selector at (out-Selector x.0) + chained xs

  chain-fits : (C : Context) (s : List Bound) (how : Access) (t : JType) (xs : List (Selector × Types)) → counts at g (names_in_chain C s how t xs) ≤ chained xs
  unfolding chained
  chain-fits C s how t [] = omega arith
  chain-fits C s how t (x ∷ []) = let h = selector-fits C s how t (out-Selector x.0) x.1 in omega (arith, h)
  chain-fits C s how t (x ∷ y ∷ more) =
      appended at g _ _ _ _ (selector-fits C s Read t (out-Selector x.0) x.1) (chain-fits C s how (selector_type C s t (out-Selector x.0) x.1) (y ∷ more))

  chained-least : (xs : List Selector) (ts : List Types) → chained (zip xs ts) ≤ total (extra at) (map nodes.selector xs)
  unfolding chained
  chained-least [] ts = omega arith
  chained-least (x ∷ xs) [] = omega arith
  chained-least (x ∷ xs) (t ∷ ts) = let h = chained-least xs ts in omega (arith, h)

  -- a name and a constructor
  two-sorts : (k : ℕ) → share g names k + share g creates k ≤ k
  two-sorts k = let h = thirds g k k (omega arith) in omega (arith, h)

  implicit-counted : (C : Context) (s : List Bound) (span : Span) (n : Option Identifier)
      → counts at g (implicit_super C s span n) ≤ share g creates (at.weigh span)
  implicit-counted C s span None = omega arith
  implicit-counted C s span (Some n) = omega arith

  implicit-in-counted : (C : Context) (s : List Bound) (number : ℕ) (c : Constructor) (e : Option Explicit)
      → counts at g (implicit_in C s number c e) ≤ share g creates (at.weigh c.name.span)
  implicit-in-counted C s number c None = implicit-counted C s c.name.span _
  implicit-in-counted C s number c (Some e) = omega arith

  member-fits : (C : Context) (s : List Bound) (number : ℕ) (m : Member) → counts at g (names_in_member C s number m) ≤ own-member at m
  member-fits C s number (members.Method m) = spanned at g names m.name.span
  member-fits C s number (members.Constructor c) =
      let h = implicit-in-counted C s number c c.explicit in
      let e = two-sorts (at.weigh c.name.span) in
      omega (arith, h, e)
  member-fits C s number members.Empty = omega arith
  member-fits C s number (members.Initializer b x) = omega arith
  member-fits C s number (members.Type brace) = omega arith
  member-fits C s number (members.Field f) = omega arith

  callee-fits : (C : Context) (s : List Bound) (number count : ℕ) (c : Callee) (parts : List Types)
      → counts at g (names_in_explicit C s number count c parts ∷ []) ≤ own-callee at c
  callee-fits C s number count (callees.This x) parts = spanned at g creates x
  callee-fits C s number count (callees.Super None x) parts = spanned at g creates x
  callee-fits C s number count (callees.Super (Some p) x) parts = spanned at g creates x

  unless-counted : (b : Bool) (os : List Occurrence) (k : ℕ) → counts at g os ≤ k → counts at g (cond b [] os) ≤ k
  unless-counted true os k h = omega arith
  unless-counted false os k h = h

  head-fits : (C : Context) (s : List Bound) (t : Numbered) (id : TypeId) (h : TypeHead)
      → counts at g (type_declaration id h ++ default_super C s t h) ≤ own-head at h
  head-fits C s t id (heads.Class c) =
      below at g _ _ _ (appended at g (type_declaration id (heads.Class c)) (default_super C s t (heads.Class c)) (share g names (at.weigh c.name.span))
      (share g creates (at.weigh c.name.span)) (omega arith) (unless-counted (list_any is_constructor t.type.members) (implicit_super C
      (s ++ within_body C (Some t)) c.name.span (spelled_superclass (heads.Class c))) _
      (implicit-counted C (s ++ within_body C (Some t)) c.name.span (spelled_superclass (heads.Class c)))))
      (two-sorts (at.weigh c.name.span))
  head-fits C s t id (heads.Interface i) = spanned at g names i.name.span
  head-fits C s t id heads.Anonymous = omega arith

  declaration-fits : (C : Context) (s : List Bound) (o : Option Numbered) → counts at g (names_in_declaration C s o) ≤ own-declared at o
  declaration-fits C s None = omega arith
  declaration-fits C s (Some t) = head-fits C s t _ t.type.head

  supertype-fits : (C : Context) (t : TypeId) (n : List Ident) (o : Option Declared) → counts at g (in_supertype C t n o) ≤ idents at n
  supertype-fits C t n None = omega arith
  supertype-fits C t n (Some d) =
      let e = all-last at g n in
      below at g _ _ _ (appended at g _ _ _ _ (name-counted at g as_type n _) (supers-counted at g n _)) (omega (arith, e))

  package-fits : (n : List Ident) → counts at g (package_declaration n ∷ []) ≤ own-package at n
  package-fits [] = spanned at g names no_span
  package-fits (i ∷ n) =
      let h = share-most g names (at.weigh (whole_span (i ∷ n))) in
      let w = at.wide i n in
      omega (arith, h, w)

  selector-covers : (l : SelectorLayer) → extra-selector at l ≤ own-selector at l + total (extra at) (in_selector l)
  selector-covers (Selector-F.Field i) = omega arith
  selector-covers (Selector-F.MemberCall i xs) = omega arith
  selector-covers (Selector-F.Index x) = omega arith
  selector-covers (Selector-F.QualifiedNew c) = omega arith

  less-own : (T : Node → ℕ) (a b : ℕ) (ns : List Node) → a ≤ b → a + 0 ≤ b + total T ns
  less-own T a b ns h = omega (arith, h)

  pub node-fits : (C : Context) (s : List Bound) (n : Node) (parts : List Types)
      → counts at g (node_names C s n parts) + extra at n ≤ own at C.types n + total (extra at) (children C.types n)
  node-fits C s (nodes.unit u) parts = omega arith
  node-fits C s (nodes.package_clause n) parts = less-own (extra at) _ _ [] (package-fits n)
  node-fits C s (nodes.imported i) parts = less-own (extra at) _ _ [] (name-most at g (import_role i.star) i.name _)
  node-fits C s (nodes.declaration brace) parts = less-own (extra at) _ _ _ (declaration-fits C s (numbered C.types brace))
  node-fits C s (nodes.supertype number n) parts = less-own (extra at) _ _ [] (supertype-fits C _ n _)
  node-fits C s (nodes.body brace) parts = omega arith
  node-fits C s (nodes.member number m) parts = less-own (extra at) _ _ _ (member-fits C s number m)
  node-fits C s (nodes.field number v) parts = less-own (extra at) _ _ _ (spanned at g names v.name.span)
  node-fits C s (nodes.variable t v) parts = omega arith
  node-fits C s (nodes.parameter p) parts = omega arith
  node-fits C s (nodes.type_use e dims) parts = less-own (extra at) _ _ [] (element-counted at g C s e)
  node-fits C s (nodes.explicit number e) parts = less-own (extra at) _ _ _ (callee-fits C s number (length e.arguments) e.callee parts)
  node-fits C s (nodes.block b) parts = omega arith
  node-fits C s (nodes.statement x) parts = omega arith
  node-fits C s (nodes.locals l) parts = omega arith
  node-fits C s (nodes.arm x) parts = omega arith
  node-fits C s (nodes.group x) parts = omega arith
  node-fits C s (nodes.catch_clause c) parts = omega arith
  node-fits C s (nodes.expression how x) parts = omega arith
  node-fits C s (nodes.primary how p) parts =
      let a = chain-fits C s how (part 0 parts) (zip p.selectors (drop 1 parts)) in
      let b = chained-least p.selectors (drop 1 parts) in
      omega (arith, a, b)
  node-fits C s (nodes.first how f) parts = let h = first-fits C s how (out-First f) parts in omega (arith, h)
  node-fits C s (nodes.selector x) parts = let h = selector-covers (out-Selector x) in omega (arith, h)
  node-fits C s (nodes.creation c) parts = omega arith
  node-fits C s (nodes.array b) parts = omega arith
