-- The keys of a document: rows that the names spelled in its unit give, whatever they mean. It depends on the unit alone.
use Rattle.std.specs.Prelude.{◌≡◌, ◌↔◌, ℕ, Bool, true, false, cond, List, [], ◌∷◌, ◌++◌, Option, Some, None, map, reverse, drop, length, slice_get, option_map, Contains}
use Rattle.std.specs.List.{list_any, join_with_byte}
use Rattle.std.specs.Option.{option_map_or, option_and_then, option_to_list}
use Rattle.std.specs.Str.{byte}
use Rattle.std.specs.Fmt.{decimal}
use Rattle.java_tree.specs.declared.expr.Creation.{Creation}
use Rattle.java_tree.specs.declared.expr.Expr.TheOpen.{First-F, Selector-F}
use Rattle.java_tree.specs.declared.expr.First.{out-First}
use Rattle.java_tree.specs.declared.expr.Selector.{out-Selector}
use Rattle.java_tree.specs.declared.key.Category.{Category}
use Rattle.java_tree.specs.declared.key.Category.TheVariants as categories
use Rattle.java_tree.specs.declared.key.Key.{Key}
use Rattle.java_tree.specs.declared.names.ElementType.{ElementType}
use Rattle.java_tree.specs.declared.names.ElementType.TheVariants as elements
use Rattle.java_tree.specs.declared.names.Ident.{Ident}
use Rattle.java_tree.specs.declared.unit.Callee.{Callee}
use Rattle.java_tree.specs.declared.unit.Callee.TheVariants as callees
use Rattle.java_tree.specs.declared.unit.Member.{Member}
use Rattle.java_tree.specs.declared.unit.Member.TheVariants as members
use Rattle.java_tree.specs.declared.unit.TypeDecl.{TypeDecl}
use Rattle.java_tree.specs.declared.unit.TypeHead.{TypeHead}
use Rattle.java_tree.specs.declared.unit.TypeHead.TheVariants as heads
use Rattle.java_tree.specs.declared.unit.TypePlace.{TypePlace}
use Rattle.java_tree.specs.declared.unit.TypePlace.TheVariants as places
use Rattle.java_tree.specs.declared.unit.Unit.{Unit as CompilationUnit}
use Rattle.java_model.specs.Grammar.Forms.{FirstLayer, SelectorLayer}
use Rattle.java_model.specs.Outlines.{spelled_name, package_name}
use Rattle.java_model.specs.Names.Lists.{Identifier, Identifiers, with_dots}
use Rattle.java_model.specs.Names.Environments.{outward}
use Rattle.java_model.specs.Places.{Rules, lead}
use Rattle.java_model.specs.Tree.Nodes.{Node, unit, package_clause, imported, declaration, supertype, member, field, type_use, explicit, first, selector, creation}
use Rattle.java_model.specs.Tree.Children.{Numbered, numbered, children}
use Rattle.java_model.specs.Bindings.Chains.{but_last, last_name}
use Rattle.java_model.specs.Occurrences.Declarations.{spelled_superclass, superclass_name, simple_name, is_constructor}

-- a key, its fields separated by `/`
abbrev pub key_of : Category → List (List ℕ) → Key
key_of category fields = record { category = category; text = join_with_byte (byte "/") fields }

abbrev pub counted : Category → Identifier → ℕ → Key
counted category name count = key_of category (name ∷ decimal count ∷ [])

-- a reference at each identifier
abbrev pub references : Identifiers → List Key
references = map (λ name. key_of categories.Ref (name ∷ []))

abbrev pub refs : List Ident → List Key
refs n = references (spelled_name n)

abbrev pub last_of : List Ident → Identifier
last_of n = last_name (spelled_name n)

-- TYPES. A local or anonymous class, and a type in the body of one, has no qualified name (JLS 6.7).
abbrev pub around_type : List TypeDecl → ℕ → List ℕ
around_type types number = outward (λ n. option_and_then (λ t. t.parent) (slice_get types n)) (length types) (Some number)

abbrev pub is_in_block : TypePlace → Bool
is_in_block places.Local = true
is_in_block places.Anonymous = true
is_in_block _ = false

abbrev pub is_local_type : List TypeDecl → ℕ → Bool
is_local_type types number = list_any (λ n. option_map_or (λ t. is_in_block t.place) (slice_get types n) false) (around_type types number)

-- the package, and the names of the types around, outermost first
abbrev pub qualification : CompilationUnit → ℕ → Identifiers
qualification u number =
    package_name u.package ++ reverse (map (λ n. option_map_or (λ t. simple_name t.head) (slice_get u.types n) []) (drop 1 (around_type u.types number)))

abbrev pub type_key : CompilationUnit → ℕ → Identifier → List ℕ → List Key
type_key u number name kind =
    cond (is_local_type u.types number) (key_of categories.TypeDecl (name ∷ [] ∷ (byte "l" ∷ []) ∷ []))
    (key_of categories.TypeDecl (name ∷ with_dots (qualification u number) ∷ kind ∷ []))
    ∷ []

-- a supertype by its last identifier: `e` of a class it extends, `i` of an interface it implements, `x` of an interface that
-- an interface extends, `a` of an anonymous class
abbrev pub super_key : CompilationUnit → Identifier → List ℕ → List Ident → Key
super_key u sub how n = key_of categories.SuperRef (last_of n ∷ sub ∷ with_dots (package_name u.package) ∷ how ∷ [])

-- the constructor of a superclass that a program doesn't spell, where its class is spelled (JLS 8.8.5, 8.8.7)
abbrev pub implicit_key : TypeHead → List Key
implicit_key head = map (λ name. counted categories.ConstructorRef name 0) (option_to_list (spelled_superclass head))

abbrev pub default_key : TypeDecl → List Key
default_key t = cond (list_any is_constructor t.members) [] (implicit_key t.head)

abbrev pub head_keys : CompilationUnit → ℕ → TypeHead → List Key
head_keys u number (heads.Class c) =
    type_key u number c.name.name (byte "c" ∷ [])
    ++ map (super_key u c.name.name (byte "e" ∷ [])) (option_to_list c.extends)
    ++ map (super_key u c.name.name (byte "i" ∷ [])) c.implements
head_keys u number (heads.Interface i) =
    type_key u number i.name.name (byte "i" ∷ []) ++ map (super_key u i.name.name (byte "x" ∷ [])) i.extends
head_keys u number heads.Anonymous = []

abbrev pub declaration_keys : CompilationUnit → Option Numbered → List Key
declaration_keys u None = []
declaration_keys u (Some t) = head_keys u t.number t.type.head ++ default_key t.type

-- MEMBERS
abbrev pub head_at : CompilationUnit → ℕ → Option TypeHead
head_at u number = option_map (λ t. t.head) (slice_get u.types number)

abbrev pub implicit_at : CompilationUnit → ℕ → List Key
implicit_at u number = option_map_or implicit_key (head_at u number) []

abbrev pub member_keys : CompilationUnit → ℕ → Member → List Key
member_keys u number (members.Method m) = counted categories.MethodDecl m.name.name (length m.parameters) ∷ []
member_keys u number (members.Constructor c) =
    counted categories.ConstructorDecl c.name.name (length c.parameters) ∷ option_map_or (λ e. []) c.explicit (implicit_at u number)
member_keys u number _ = []

-- `this(..)` has the name of its class, `super(..)` that of the spelled superclass or Object (JLS 8.8.5.1)
abbrev pub callee_name : Callee → Option TypeHead → Identifier
callee_name (callees.This span) head = option_map_or simple_name head []
callee_name (callees.Super outer span) head = superclass_name head

-- EXPRESSIONS
abbrev pub element_keys : ElementType → List Key
element_keys (elements.Primitive p) = []
element_keys (elements.Named n) = refs n

abbrev pub optional_refs : Option (List Ident) → List Key
optional_refs n = option_map_or refs n []

abbrev pub first_keys : FirstLayer → List Key
first_keys (First-F.Name n) = refs n
first_keys (First-F.QualifiedThis n span) = refs n
first_keys (First-F.SuperField n span i) = optional_refs n ++ refs (i ∷ [])
first_keys (First-F.Call n arguments) = references (but_last (spelled_name n)) ++ counted categories.MethodRef (last_of n) (length arguments) ∷ []
first_keys (First-F.SuperCall n span i arguments) = optional_refs n ++ counted categories.MethodRef i.name (length arguments) ∷ []
first_keys _ = []

abbrev pub selector_keys : SelectorLayer → List Key
selector_keys (Selector-F.Field i) = refs (i ∷ [])
selector_keys (Selector-F.MemberCall i arguments) = counted categories.MethodRef i.name (length arguments) ∷ []
selector_keys _ = []

-- the created class, a class or an interface; an anonymous class has it as its supertype (JLS 15.9)
abbrev pub creation_keys : CompilationUnit → Creation → List Key
creation_keys u c =
    refs c.class
    ++ counted categories.ConstructorRef (last_of c.class) (length c.arguments)
    ∷ map (λ brace. super_key u [] (byte "a" ∷ []) c.class) (option_to_list c.body)

-- the keys that a node of a unit itself gives
abbrev pub node_keys : CompilationUnit → Node → List Key
node_keys u (package_clause n) = key_of categories.PackageDecl (with_dots (spelled_name n) ∷ []) ∷ []
node_keys u (imported i) = refs i.name
node_keys u (declaration brace) = declaration_keys u (numbered u.types brace)
node_keys u (supertype number n) = refs n
node_keys u (member number m) = member_keys u number m
node_keys u (field number v) = key_of categories.FieldDecl (v.name.name ∷ []) ∷ []
node_keys u (type_use e dims) = element_keys e
node_keys u (explicit number e) = counted categories.ConstructorRef (callee_name e.callee (head_at u number)) (length e.arguments) ∷ []
node_keys u (first how f) = first_keys (out-First f)
node_keys u (selector s) = selector_keys (out-Selector s)
node_keys u (creation c) = creation_keys u c
node_keys u _ = []

-- Each place of the tree gives its keys, and asks no scope.
abbrev pub key_rules : CompilationUnit → Rules Node (Unit {0}) Key
key_rules u = record { inside = children u.types; value = λ n parts. tt; names = λ n parts. node_keys u n }

-- a key of a unit
pub record HasKey (u : CompilationUnit) (key : Key) : Type 0 where
  pub place : List ℕ
  pub node : Node
  pub leads : lead (key_rules u) (Some (unit u)) place ≡ Some node
  pub gives : Contains (node_keys u node) key

-- these are the keys of a unit
abbrev pub AreKeys : CompilationUnit → List Key → Type 0
AreKeys u keys = (key : Key) → Contains keys key ↔ HasKey u key
