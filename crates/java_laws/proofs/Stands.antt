-- Where members, fields, explicit constructor invocations and names in headers stand in their unit.
use Rattle.std.proofs.Common.{◌≡◌, ℕ, zero, suc, Bool, true, false, List, [], ◌∷◌, ◌++◌, Option, Some, None, map, flat_map, slice_get, option_map, inl, inr, refl, sym, ap, ◌∙◌, subst, true≢false}
use Rattle.std.specs.List.{AllByRecursion}
use Rattle.std.specs.Option.{option_or, option_and_then, option_to_list}
use Rattle.std.proofs.lemmas.Option.{none-some, same_Some}
use Rattle.java_tree.specs.declared.bound.Bound.{Bound}
use Rattle.java_tree.specs.declared.expr.Expr.{out-Expr}
use Rattle.java_tree.specs.declared.expr.Expr.TheOpen.{Expr-F, First-F, Initializer-F, Operation-F, Selector-F}
use Rattle.java_tree.specs.declared.expr.First.{out-First}
use Rattle.java_tree.specs.declared.expr.Initializer.{Initializer, out-Initializer}
use Rattle.java_tree.specs.declared.expr.Operation.{out-Operation}
use Rattle.java_tree.specs.declared.expr.Selector.{out-Selector}
use Rattle.java_tree.specs.declared.names.Ident.{Ident}
use Rattle.java_tree.specs.declared.names.TypeUse.{TypeUse}
use Rattle.java_tree.specs.declared.occurrence.Access.{Access}
use Rattle.java_tree.specs.declared.stmt.Block.{Block}
use Rattle.java_tree.specs.declared.stmt.BlockStatement.{BlockStatement, out-BlockStatement}
use Rattle.java_tree.specs.declared.stmt.BlockStatement.TheOpen.{Stmt-F, BlockStatement-F}
use Rattle.java_tree.specs.declared.expr.Expr.{Expr}
use Rattle.java_tree.specs.declared.stmt.ForInit.{ForInit}
use Rattle.java_tree.specs.declared.stmt.ForInit.TheVariants as inits
use Rattle.java_tree.specs.declared.stmt.Stmt.{Stmt, out-Stmt}
use Rattle.java_tree.specs.declared.stmt.SwitchLabel.{SwitchLabel}
use Rattle.java_tree.specs.declared.stmt.SwitchLabel.TheVariants as labels
use Rattle.java_tree.specs.declared.stmt.Variable.{Variable}
use Rattle.java_tree.specs.declared.unit.Callee.{Callee}
use Rattle.java_tree.specs.declared.unit.Callee.TheVariants as callees
use Rattle.java_tree.specs.declared.unit.Constructor.{Constructor}
use Rattle.java_tree.specs.declared.unit.Explicit.{Explicit}
use Rattle.java_tree.specs.declared.unit.Fields.{Fields}
use Rattle.java_tree.specs.declared.unit.Member.{Member}
use Rattle.java_tree.specs.declared.unit.Member.TheVariants as members
use Rattle.java_tree.specs.declared.unit.ResultType.{ResultType}
use Rattle.java_tree.specs.declared.unit.ResultType.TheVariants as results
use Rattle.java_tree.specs.declared.unit.TopLevel.{TopLevel}
use Rattle.java_tree.specs.declared.unit.TopLevel.TheVariants as tops
use Rattle.java_tree.specs.declared.unit.TypeDecl.{TypeDecl}
use Rattle.java_tree.specs.declared.unit.TypePlace.{TypePlace}
use Rattle.java_tree.specs.declared.unit.TypePlace.TheVariants as places
use Rattle.java_tree.specs.declared.unit.Unit.{Unit as CompilationUnit}
use Rattle.java_model.specs.Grammar.Forms.{ExprLayer, FirstLayer, SelectorLayer}
use Rattle.java_model.specs.Places.{lead}
use Rattle.java_model.specs.Tree.Nodes.{Node}
use Rattle.java_model.specs.Tree.Nodes as nodes
use Rattle.java_model.specs.Tree.InExpressions.{InitializerLayer, OperationLayer, reads, initializer_in, initializer, operand_in, operand, in_expression, in_first, in_selector, type_name}
use Rattle.java_model.specs.Tree.InStatements.{StmtLayer, BlockStatementLayer, block_statement_in, block_statement, optional_expression, optional_block, optional_statement, in_for_init, in_label, in_statement}
use Rattle.java_model.specs.Tree.Children.{Numbered, number_of, numbered, header_names, in_declaration, in_body, in_result, in_member, in_callee, top_level, children}
use Rattle.java_model.specs.Scopes.Contexts.{Context, numbered_id, body_of, this_type}
use Rattle.java_model.specs.Scopes.Scoping.{Spot, local_class, declared_locally, within_body, local_variable, opens, leaves_one, leaves_each, leaves, spots, inside}
use Rattle.java_model.specs.Occurrences.Occurrences.{java_rules, root_spot, spot_at}
use Rattle.java_laws.proofs.Lists.{Among, among-append, each-of}
use Rattle.java_laws.proofs.UnitKeys.{IsAt, within}

-- LISTS
pub get-among : {X : Type 0} (xs : List X) (i : ℕ) (x : X) → slice_get xs i ≡ Some x → Among xs x
get-among [] i x e = absurd (none-some x e)
get-among (y ∷ ys) zero x e = inl (same_Some y x e)
get-among (y ∷ ys) (suc i) x e = inr (get-among ys i x e)

pub among-map : {X Y : Type 0} (f : X → Y) (xs : List X) (y : Y) → Among (map f xs) y → (x : X) × Among xs x × (f x ≡ y)
among-map f [] y a = absurd a
among-map f (x ∷ xs) y (inl e) = (x, inl refl, e)
among-map f (x ∷ xs) y (inr a) = let r = among-map f xs y a in (r.0, inr r.1, r.2)

pub among-option : {X : Type 0} (o : Option X) (x : X) → Among (option_to_list o) x → o ≡ Some x
among-option None x a = absurd a
among-option (Some y) x (inl e) = ap Some e
among-option (Some y) x (inr a) = absurd a

-- THE INNERMOST TYPE around a place
or-none : {X : Type 0} (o : Option X) → o ≡ option_or o None
or-none None = refl
or-none (Some x) = refl

or-assoc : {X : Type 0} (a b c : Option X) → option_or (option_or a b) c ≡ option_or a (option_or b c)
or-assoc None b c = refl
or-assoc (Some x) b c = refl

pub this-append : (s t : List Bound) → this_type (s ++ t) ≡ option_or (this_type t) (this_type s)
this-append [] t = or-none (this_type t)
this-append (b ∷ s) t = ap (λ o. option_or o (body_of b)) (this-append s t) ∙ or-assoc (this_type t) (this_type s) (body_of b)

pub nothing-more : (s t : List Bound) → this_type t ≡ None → this_type (s ++ t) ≡ this_type s
nothing-more s t e = this-append s t ∙ ap (λ o. option_or o (this_type s)) e

local-none : (C : Context) (number : ℕ) (place : TypePlace) → this_type (local_class C number place) ≡ None
local-none C number places.Local = refl
local-none C number _ = refl

declared-none : (C : Context) (t : Option Numbered) → this_type (declared_locally C t) ≡ None
declared-none C None = refl
declared-none C (Some t) = local-none C t.number t.type.place

locals-none : (C : Context) (s : List Bound) (t : TypeUse) (vs : List Variable) → this_type (map (local_variable C s t) vs) ≡ None
locals-none C s t [] = refl
locals-none C s t (v ∷ vs) = ap (λ o. option_or o None) (locals-none C s t vs)

one-none : (C : Context) (s : List Bound) (n : Node) → this_type (leaves_one C s n) ≡ None
one-none C s (nodes.declaration brace) = declared-none C (numbered C.types brace)
one-none C s (nodes.locals l) = locals-none C s l.of l.variables
one-none C s _ = refl

each-none : (C : Context) (s : List Bound) (ns : List Node) → this_type (leaves_each C s ns) ≡ None
each-none C s [] = refl
each-none C s (n ∷ ns) =
    nothing-more (leaves_one C s n) (leaves_each C (s ++ leaves_one C s n) ns) (each-none C (s ++ leaves_one C s n) ns) ∙ one-none C s n

leaves-none : (C : Context) (s : List Bound) (n : Node) → this_type (leaves C s n) ≡ None
leaves-none C s (nodes.group g) = each-none C s (map block_statement g.statements)
leaves-none C s (nodes.declaration brace) = one-none C s (nodes.declaration brace)
leaves-none C s (nodes.locals l) = one-none C s (nodes.locals l)
leaves-none C s _ = refl

-- a spot in a list has the innermost type of the list
record SpotAt (s : List Bound) (ns : List Node) (i : ℕ) (y : Spot) : Type 0 where
  node : slice_get ns i ≡ Some y.node
  this : this_type y.scope ≡ this_type s

spot-in : (C : Context) (s : List Bound) (ns : List Node) (i : ℕ) (y : Spot) → slice_get (spots C s ns) i ≡ Some y → SpotAt s ns i y
spot-in C s [] i y e = absurd (none-some y e)
spot-in C s (n ∷ ns) zero y e =
    let r = same_Some (record { scope = s; node = n }) y e in
    record { node = ap (λ z. Some z.node) r; this = ap (λ z. this_type z.scope) (sym r) }
spot-in C s (n ∷ ns) (suc i) y e =
    let r = spot-in C (s ++ leaves C s n) ns i y e in
    record { node = r.node; this = r.this ∙ nothing-more s (leaves C s n) (leaves-none C s n) }

-- NUMBERED TYPES
got : (types : List TypeDecl) (n : ℕ) (o : Option TypeDecl) (t : Numbered) → slice_get types n ≡ o
    → option_map (λ x. record { number = n; type = x }) o ≡ Some t → slice_get types t.number ≡ Some t.type
got types n None t e f = absurd (none-some t f)
got types n (Some x) t e f =
    let r : ◌≡◌ {A = Numbered} (record { number = n; type = x }) t = same_Some (record { number = n; type = x }) t f in
    ap (λ y. slice_get types y.number) (sym r) ∙ e ∙ ap (λ y. Some y.type) r

got-by : (types : List TypeDecl) (o : Option ℕ) (t : Numbered)
    → option_and_then (λ n. option_map (λ x. record { number = n; type = x }) (slice_get types n)) o ≡ Some t → slice_get types t.number ≡ Some t.type
got-by types None t e = absurd (none-some t e)
got-by types (Some n) t e = got types n (slice_get types n) t refl e

pub numbered-type : (types : List TypeDecl) (brace : ℕ) (t : Numbered) → numbered types brace ≡ Some t → slice_get types t.number ≡ Some t.type
numbered-type types brace t e = got-by types (number_of types brace) t e

-- WHAT STANDS WHERE
pub record AsMember (C : Context) (u : CompilationUnit) (s : List Bound) (number : ℕ) (m : Member) : Type 0 where
  pub type : TypeDecl
  pub at : slice_get u.types number ≡ Some type
  pub among : Among type.members m
  pub this : this_type s ≡ Some (numbered_id C number)

pub record AsField (u : CompilationUnit) (number : ℕ) (v : Variable) : Type 0 where
  pub type : TypeDecl
  pub at : slice_get u.types number ≡ Some type
  pub fields : Fields
  pub among : Among type.members (members.Field fields)
  pub variable : Among fields.variables v

pub record AsExplicit (C : Context) (u : CompilationUnit) (s : List Bound) (number : ℕ) (e : Explicit) : Type 0 where
  pub type : TypeDecl
  pub at : slice_get u.types number ≡ Some type
  pub constructor : Constructor
  pub among : Among type.members (members.Constructor constructor)
  pub this : this_type s ≡ Some (numbered_id C number)

pub record AsSuper (u : CompilationUnit) (number : ℕ) (n : List Ident) : Type 0 where
  pub brace : ℕ
  pub type : Numbered
  pub is : numbered u.types brace ≡ Some type
  pub among : Among (header_names type.type.head) n
  pub outer : IsAt u (nodes.declaration brace)
  pub same : type.number ≡ number

abbrev pub Stands : Context → CompilationUnit → List Bound → Node → Type 0
Stands C u s (nodes.member number m) = AsMember C u s number m
Stands C u s (nodes.field number v) = AsField u number v
Stands C u s (nodes.explicit number e) = AsExplicit C u s number e
Stands C u s (nodes.supertype number n) = AsSuper u number n
Stands C u s _ = Unit {0}

-- any other node
abbrev is_plain : Node → Bool
is_plain (nodes.member number m) = false
is_plain (nodes.field number v) = false
is_plain (nodes.explicit number e) = false
is_plain (nodes.supertype number n) = false
is_plain _ = true

plain-stands : (C : Context) (u : CompilationUnit) (s : List Bound) (n : Node) → is_plain n ≡ true → Stands C u s n
plain-stands C u s (nodes.member number m) h = absurd (true≢false (sym h))
plain-stands C u s (nodes.field number v) h = absurd (true≢false (sym h))
plain-stands C u s (nodes.explicit number e) h = absurd (true≢false (sym h))
plain-stands C u s (nodes.supertype number n) h = absurd (true≢false (sym h))
plain-stands C u s _ h = tt

abbrev ArePlain : List Node → Type 0
ArePlain = AllByRecursion (λ n. is_plain n ≡ true)

map-plain : {X : Type 0} (f : X → Node) (xs : List X) → ((x : X) → is_plain (f x) ≡ true) → ArePlain (map f xs)
map-plain f [] h = tt
map-plain f (x ∷ xs) h = (h x, map-plain f xs h)

both-plain : (ms ns : List Node) → ArePlain ms → ArePlain ns → ArePlain (ms ++ ns)
both-plain [] ns h k = k
both-plain (m ∷ ms) ns h k = (h.0, both-plain ms ns h.1 k)

flat-plain : {X : Type 0} (f : X → List Node) (xs : List X) → ((x : X) → ArePlain (f x)) → ArePlain (flat_map f xs)
flat-plain f [] h = tt
flat-plain f (x ∷ xs) h = both-plain (f x) (flat_map f xs) (h x) (flat-plain f xs h)

initializer-plain : (l : InitializerLayer) → is_plain (initializer_in l) ≡ true
initializer-plain (Initializer-F.Value x) = refl
initializer-plain (Initializer-F.Array a) = refl

operand-plain : (l : OperationLayer) → is_plain (operand_in l) ≡ true
operand-plain (Operation-F.Infix op x) = refl
operand-plain (Operation-F.InstanceOf t) = refl

block-statement-plain : (l : BlockStatementLayer) → is_plain (block_statement_in l) ≡ true
block-statement-plain (BlockStatement-F.LocalClass brace) = refl
block-statement-plain (BlockStatement-F.Local l) = refl
block-statement-plain (BlockStatement-F.Statement s) = refl

initializers-plain : (xs : List Initializer) → ArePlain (map initializer xs)
initializers-plain xs = map-plain initializer xs (λ x. initializer-plain (out-Initializer x))

statements-plain : (xs : List BlockStatement) → ArePlain (map block_statement xs)
statements-plain xs = map-plain block_statement xs (λ x. block-statement-plain (out-BlockStatement x))

expressions-plain : (xs : List Expr) → ArePlain (map reads xs)
expressions-plain xs = map-plain reads xs (λ x. refl)

optional-expression-plain : (x : Option Expr) → ArePlain (optional_expression x)
optional-expression-plain None = tt
optional-expression-plain (Some x) = (refl, tt)

optional-block-plain : (b : Option Block) → ArePlain (optional_block b)
optional-block-plain None = tt
optional-block-plain (Some b) = (refl, tt)

optional-statement-plain : (s : Option Stmt) → ArePlain (optional_statement s)
optional-statement-plain None = tt
optional-statement-plain (Some s) = (refl, tt)

for-init-plain : (i : ForInit) → ArePlain (in_for_init i)
for-init-plain (inits.Local l) = (refl, tt)
for-init-plain (inits.Expressions xs) = expressions-plain xs

label-plain : (l : SwitchLabel) → ArePlain (in_label l)
label-plain (labels.Case x) = (refl, tt)
label-plain labels.Default = tt

expression-plain : (how : Access) (x : ExprLayer) → ArePlain (in_expression how x)
expression-plain how (Expr-F.Assign target op value) = (refl, (refl, tt))
expression-plain how (Expr-F.Conditional test x y) = (refl, (refl, (refl, tt)))
expression-plain how (Expr-F.Binary x rest) = (refl, map-plain operand rest (λ o. operand-plain (out-Operation o)))
expression-plain how (Expr-F.Prefix op x) = (refl, tt)
expression-plain how (Expr-F.Cast t x) = (refl, (refl, tt))
expression-plain how (Expr-F.Postfix p ops) = (refl, tt)

first-plain : (how : Access) (f : FirstLayer) → ArePlain (in_first how f)
first-plain how (First-F.Parenthesized x) = (refl, tt)
first-plain how (First-F.ClassLiteral t) = (refl, tt)
first-plain how (First-F.Call n xs) = expressions-plain xs
first-plain how (First-F.SuperCall n s i xs) = expressions-plain xs
first-plain how (First-F.New c) = (refl, tt)
first-plain how (First-F.NewArray e sizes dims) = (refl, expressions-plain sizes)
first-plain how (First-F.NewArrayOf e dims a) = (refl, (refl, tt))
first-plain how _ = tt

selector-plain : (x : SelectorLayer) → ArePlain (in_selector x)
selector-plain (Selector-F.Field i) = tt
selector-plain (Selector-F.MemberCall i xs) = expressions-plain xs
selector-plain (Selector-F.Index x) = (refl, tt)
selector-plain (Selector-F.QualifiedNew c) = (refl, tt)

statement-plain : (x : StmtLayer) → ArePlain (in_statement x)
statement-plain (Stmt-F.Block b) = (refl, tt)
statement-plain (Stmt-F.Labeled i s) = (refl, tt)
statement-plain (Stmt-F.Expression x) = (refl, tt)
statement-plain (Stmt-F.If arms last) = both-plain (map nodes.arm arms) (optional_statement last) (map-plain nodes.arm arms (λ a. refl))
    (optional-statement-plain last)
statement-plain (Stmt-F.While x s) = (refl, (refl, tt))
statement-plain (Stmt-F.Do s x) = (refl, (refl, tt))
statement-plain (Stmt-F.For init test update s) =
    both-plain (in_for_init init ++ optional_expression test ++ map reads update) (nodes.statement s ∷ [])
    (both-plain (in_for_init init ++ optional_expression test) (map reads update)
    (both-plain (in_for_init init) (optional_expression test) (for-init-plain init) (optional-expression-plain test)) (expressions-plain update))
    (refl, tt)
statement-plain (Stmt-F.Switch x brace groups) = (refl, map-plain nodes.group groups (λ g. refl))
statement-plain (Stmt-F.Return x) = optional-expression-plain x
statement-plain (Stmt-F.Throw x) = (refl, tt)
statement-plain (Stmt-F.Synchronized x b) = (refl, (refl, tt))
statement-plain (Stmt-F.Try b catches last) =
    (refl, both-plain (map nodes.catch_clause catches) (optional_block last) (map-plain nodes.catch_clause catches (λ c. refl)) (optional-block-plain last))
statement-plain (Stmt-F.Assert x detail) = (refl, optional-expression-plain detail)
statement-plain _ = tt

top-plain : (t : TopLevel) → ArePlain (top_level t)
top-plain (tops.Type brace) = (refl, tt)
top-plain tops.Empty = tt

callee-plain : (c : Callee) → ArePlain (in_callee c)
callee-plain (callees.This s) = tt
callee-plain (callees.Super None s) = tt
callee-plain (callees.Super (Some p) s) = (refl, tt)

result-plain : (r : ResultType) (dims : ℕ) → ArePlain (in_result r dims)
result-plain results.Void dims = tt
result-plain (results.Of t) dims = (refl, tt)

-- what a declaration, a body and a member have inside is no other's
abbrev is_carrier : Node → Bool
is_carrier (nodes.declaration brace) = true
is_carrier (nodes.body brace) = true
is_carrier (nodes.member number m) = true
is_carrier _ = false

children-plain : (types : List TypeDecl) (n : Node) → is_carrier n ≡ false → ArePlain (children types n)
children-plain types (nodes.unit u) h =
    let own = map nodes.package_clause (option_to_list u.«package») in
    let imports = map nodes.imported u.imports in
    both-plain (own ++ imports) (flat_map top_level u.declarations)
    (both-plain own imports (map-plain nodes.package_clause (option_to_list u.«package») (λ x. refl)) (map-plain nodes.imported u.imports (λ x. refl)))
    (flat-plain top_level u.declarations top-plain)
children-plain types (nodes.declaration brace) h = absurd (true≢false h)
children-plain types (nodes.body brace) h = absurd (true≢false h)
children-plain types (nodes.member number m) h = absurd (true≢false h)
children-plain types (nodes.field number v) h = initializers-plain (option_to_list v.initializer)
children-plain types (nodes.variable t v) h = initializers-plain (option_to_list v.initializer)
children-plain types (nodes.parameter p) h = (refl, tt)
children-plain types (nodes.explicit number e) h = both-plain (in_callee e.callee) (map reads e.arguments) (callee-plain e.callee)
    (expressions-plain e.arguments)
children-plain types (nodes.block b) h = statements-plain b.statements
children-plain types (nodes.statement s) h = statement-plain (out-Stmt s)
children-plain types (nodes.locals l) h = (refl, map-plain (nodes.variable l.of) l.variables (λ v. refl))
children-plain types (nodes.arm a) h = (refl, (refl, tt))
children-plain types (nodes.group g) h = both-plain (in_label g.label) (map block_statement g.statements) (label-plain g.label) (statements-plain g.statements)
children-plain types (nodes.catch_clause c) h = (refl, (refl, tt))
children-plain types (nodes.expression how x) h = expression-plain how (out-Expr x)
children-plain types (nodes.primary how p) h = (refl, map-plain nodes.selector p.selectors (λ s. refl))
children-plain types (nodes.first how f) h = first-plain how (out-First f)
children-plain types (nodes.selector s) h = selector-plain (out-Selector s)
children-plain types (nodes.creation c) h = both-plain (map reads c.arguments) (map nodes.body (option_to_list c.body)) (expressions-plain c.arguments)
    (map-plain nodes.body (option_to_list c.body) (λ x. refl))
children-plain types (nodes.array a) h = initializers-plain a.elements
children-plain types _ h = tt

-- INSIDE the nodes that carry others
in-declaration : (C : Context) (u : CompilationUnit) (s : List Bound) (brace : ℕ) (o : Option Numbered) (y : Node) → numbered u.types brace ≡ o
    → IsAt u (nodes.declaration brace) → Among (in_declaration brace o) y → Stands C u s y
in-declaration C u s brace None y e at a = absurd a
in-declaration C u s brace (Some t) y e at a = elim (among-append (map (nodes.supertype t.number) (header_names t.type.head)) (nodes.body brace ∷ []) y a) [
  | inl b ↦
      let r = among-map (nodes.supertype t.number) (header_names t.type.head) y b in
      subst (λ n. Stands C u s n) r.2 (record { brace = brace; type = t; is = e; among = r.1; outer = at; same = refl })
  | inr b ↦ elim b [
    | inl f ↦ subst (λ n. Stands C u s n) f tt
    | inr f ↦ absurd f
  ]
]

in-body : (C : Context) (u : CompilationUnit) (s : List Bound) (brace : ℕ) (o : Option Numbered) (y : Node) → numbered u.types brace ≡ o
    → ((t : Numbered) → o ≡ Some t → this_type s ≡ Some (numbered_id C t.number)) → Among (in_body o) y → Stands C u s y
in-body C u s brace None y e this a = absurd a
in-body C u s brace (Some t) y e this a =
    let r = among-map (nodes.member t.number) t.type.members y a in
    subst (λ n. Stands C u s n) r.2 (record { type = t.type; at = numbered-type u.types brace t e; among = r.1; this = this t refl })

all-plain : (C : Context) (u : CompilationUnit) (s : List Bound) (ns : List Node) (y : Node) → ArePlain ns → Among ns y → Stands C u s y
all-plain C u s ns y h a = plain-stands C u s y (each-of (λ n. is_plain n ≡ true) ns y h a)

in-constructor : (C : Context) (u : CompilationUnit) (s : List Bound) (number : ℕ) (c : Constructor) (y : Node) → AsMember C u s number (members.Constructor c)
    → Among (in_member number (members.Constructor c)) y → Stands C u s y
in-constructor C u s number c y h a =
    let ps = map nodes.parameter c.parameters in
    let ts = map type_name c.throws in
    let es = map (nodes.explicit number) (option_to_list c.explicit) in
    let ss = map block_statement c.statements in
    elim (among-append (ps ++ ts ++ es) ss y a) [
      | inl b ↦ elim (among-append (ps ++ ts) es y b) [
        | inl d ↦ elim (among-append ps ts y d) [
          | inl f ↦ all-plain C u s ps y (map-plain nodes.parameter c.parameters (λ p. refl)) f
          | inr f ↦ all-plain C u s ts y (map-plain type_name c.throws (λ n. refl)) f
        ]
        | inr d ↦
            let r = among-map (nodes.explicit number) (option_to_list c.explicit) y d in
            subst (λ n. Stands C u s n) r.2 (record { type = h.type; at = h.at; constructor = c; among = h.among; this = h.this })
      ]
      | inr b ↦ all-plain C u s ss y (statements-plain c.statements) b
    ]

in-member : (C : Context) (u : CompilationUnit) (s : List Bound) (number : ℕ) (m : Member) (y : Node) → AsMember C u s number m
    → Among (in_member number m) y → Stands C u s y
in-member C u s number members.Empty y h a = absurd a
in-member C u s number (members.Initializer is_static b) y h a = all-plain C u s (nodes.block b ∷ []) y (refl, tt) a
in-member C u s number (members.Type brace) y h a = all-plain C u s (nodes.declaration brace ∷ []) y (refl, tt) a
in-member C u s number (members.Method m) y h a =
    let rs = in_result m.result m.dims in
    let ps = map nodes.parameter m.parameters in
    let ts = map type_name m.throws in
    let bs = optional_block m.body in
    all-plain C u s (rs ++ ps ++ ts ++ bs) y
    (both-plain (rs ++ ps ++ ts) bs
    (both-plain (rs ++ ps) ts
    (both-plain rs ps (result-plain m.result m.dims) (map-plain nodes.parameter m.parameters (λ p. refl)))
    (map-plain type_name m.throws (λ n. refl)))
    (optional-block-plain m.body)) a
in-member C u s number (members.Constructor c) y h a = in-constructor C u s number c y h a
in-member C u s number (members.Field f) y h (inl e) = subst (λ n. Stands C u s n) e tt
in-member C u s number (members.Field f) y h (inr a) =
    let r = among-map (nodes.field number) f.variables y a in
    subst (λ n. Stands C u s n) r.2 (record { type = h.type; at = h.at; fields = f; among = h.among; variable = r.1 })

-- SPOTS
pub record Good (C : Context) (u : CompilationUnit) (x : Spot) : Type 0 where
  pub stands : Stands C u x.scope x.node
  pub at : IsAt u x.node

moved-member : (C : Context) (u : CompilationUnit) (s t : List Bound) (number : ℕ) (m : Member) → this_type t ≡ this_type s → AsMember C u s number m
    → AsMember C u t number m
moved-member C u s t number m e h = record { type = h.type; at = h.at; among = h.among; this = e ∙ h.this }

pub within-this : (C : Context) (s : List Bound) (o : Option Numbered) (t : Numbered) → o ≡ Some t
    → this_type (s ++ within_body C o) ≡ Some (numbered_id C t.number)
within-this C s None t e = absurd (none-some t e)
within-this C s (Some v) t e =
    this-append s (within_body C (Some v))
    ∙ ap (λ o. option_or o (this_type s)) (this-append (local_class C v.number v.type.place) _)
    ∙ ap (λ x. Some (numbered_id C x.number)) (same_Some v t e)

plain-inside : (C : Context) (u : CompilationUnit) (t : List Bound) (n y : Node) → is_carrier n ≡ false → Among (children C.types n) y → Stands C u t y
plain-inside C u t n y h a = all-plain C u t (children C.types n) y (children-plain C.types n h) a

stands-in : (C : Context) (u : CompilationUnit) → C.types ≡ u.types → (s t : List Bound) (n : Node) (y : Node) → Stands C u s n → IsAt u n
    → this_type t ≡ this_type (s ++ opens C s n) → Among (children C.types n) y → Stands C u t y
stands-in C u same s t (nodes.declaration brace) y h at e a =
    in-declaration C u t brace (numbered C.types brace) y (ap (λ ts. numbered ts brace) (sym same)) at a
stands-in C u same s t (nodes.body brace) y h at e a =
    in-body C u t brace (numbered C.types brace) y (ap (λ ts. numbered ts brace) (sym same))
    (λ v f. e ∙ within-this C s (numbered C.types brace) v f) a
stands-in C u same s t (nodes.member number m) y h at e a =
    in-member C u t number m y (moved-member C u s t number m (e ∙ nothing-more s [] refl) h) a
stands-in C u same s t (nodes.unit v) y h at e a = plain-inside C u t (nodes.unit v) y refl a
stands-in C u same s t (nodes.package_clause n) y h at e a = absurd a
stands-in C u same s t (nodes.imported i) y h at e a = absurd a
stands-in C u same s t (nodes.supertype number n) y h at e a = absurd a
stands-in C u same s t (nodes.field number v) y h at e a = plain-inside C u t (nodes.field number v) y refl a
stands-in C u same s t (nodes.variable v w) y h at e a = plain-inside C u t (nodes.variable v w) y refl a
stands-in C u same s t (nodes.parameter p) y h at e a = plain-inside C u t (nodes.parameter p) y refl a
stands-in C u same s t (nodes.type_use v dims) y h at e a = absurd a
stands-in C u same s t (nodes.explicit number x) y h at e a = plain-inside C u t (nodes.explicit number x) y refl a
stands-in C u same s t (nodes.block b) y h at e a = plain-inside C u t (nodes.block b) y refl a
stands-in C u same s t (nodes.statement x) y h at e a = plain-inside C u t (nodes.statement x) y refl a
stands-in C u same s t (nodes.locals l) y h at e a = plain-inside C u t (nodes.locals l) y refl a
stands-in C u same s t (nodes.arm x) y h at e a = plain-inside C u t (nodes.arm x) y refl a
stands-in C u same s t (nodes.group g) y h at e a = plain-inside C u t (nodes.group g) y refl a
stands-in C u same s t (nodes.catch_clause c) y h at e a = plain-inside C u t (nodes.catch_clause c) y refl a
stands-in C u same s t (nodes.expression how x) y h at e a = plain-inside C u t (nodes.expression how x) y refl a
stands-in C u same s t (nodes.primary how p) y h at e a = plain-inside C u t (nodes.primary how p) y refl a
stands-in C u same s t (nodes.first how f) y h at e a = plain-inside C u t (nodes.first how f) y refl a
stands-in C u same s t (nodes.selector x) y h at e a = plain-inside C u t (nodes.selector x) y refl a
stands-in C u same s t (nodes.creation c) y h at e a = plain-inside C u t (nodes.creation c) y refl a
stands-in C u same s t (nodes.array x) y h at e a = plain-inside C u t (nodes.array x) y refl a

good-inside : (C : Context) (u : CompilationUnit) → C.types ≡ u.types → (x : Spot) → Good C u x → (i : ℕ) (y : Spot) → slice_get (inside C x) i ≡ Some y
    → Good C u y
good-inside C u same x g i y e =
    let r = spot-in C (x.scope ++ opens C x.scope x.node) (children C.types x.node) i y e in
    record {
      stands = stands-in C u same x.scope y.scope x.node y.node g.stands g.at r.this (get-among (children C.types x.node) i y.node r.node);
      at = within u x.node y.node i g.at (ap (λ ts. slice_get (children ts x.node) i) (sym same) ∙ r.node);
    }

good-lead : (C : Context) (u : CompilationUnit) → C.types ≡ u.types → (o : Option Spot) → ((x : Spot) → o ≡ Some x → Good C u x)
    → (path : List ℕ) (y : Spot) → lead (java_rules C) o path ≡ Some y → Good C u y
good-lead C u same o h [] y e = h y e
good-lead C u same None h (i ∷ path) y e = absurd (none-some y e)
good-lead C u same (Some x) h (i ∷ path) y e =
    good-lead C u same (slice_get (inside C x) i) (λ z f. good-inside C u same x (h x refl) i z f) path y e

pub good-spot : (C : Context) (u : CompilationUnit) → C.types ≡ u.types → (place : List ℕ) (x : Spot) → spot_at C u place ≡ Some x → Good C u x
good-spot C u same = good-lead C u same (Some (root_spot u))
    (λ x e. subst (λ y. Good C u y) (same_Some (root_spot u) x e) (record { stands = tt; at = record { place = []; leads = refl } }))
