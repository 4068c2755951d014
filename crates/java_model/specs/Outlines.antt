-- The outline of a unit: what it declares and imports (JLS 7, 8, 9).
use Rattle.std.specs.Prelude.{◌≡◌, ℕ, ◌+◌, ◌==◌, Bool, true, false, cond, List, [], ◌∷◌, Option, Some, None, map, sum, Contains, position, slice_get, codes}
use Rattle.std.specs.List.{flat_map, list_any}
use Rattle.java_tree.specs.declared.names.ElementType.{ElementType}
use Rattle.java_tree.specs.declared.names.ElementType.TheVariants as elements
use Rattle.java_tree.specs.declared.names.Ident.{Ident}
use Rattle.java_tree.specs.declared.names.Modifier.{Modifier}
use Rattle.java_tree.specs.declared.names.Modifier.TheVariants as modifiers
use Rattle.java_tree.specs.declared.names.Primitive.{Primitive}
use Rattle.java_tree.specs.declared.names.Primitive.TheVariants as primitives
use Rattle.java_tree.specs.declared.names.TypeUse.{TypeUse}
use Rattle.java_tree.specs.declared.outline.ImportName.{ImportName}
use Rattle.java_tree.specs.declared.outline.Outline.{Outline}
use Rattle.java_tree.specs.declared.outline.OutlineField.{OutlineField}
use Rattle.java_tree.specs.declared.outline.OutlineMethod.{OutlineMethod}
use Rattle.java_tree.specs.declared.outline.OutlineType.{OutlineType}
use Rattle.java_tree.specs.declared.outline.SpelledType.{SpelledType}
use Rattle.java_tree.specs.declared.outline.TypeKind.{TypeKind}
use Rattle.java_tree.specs.declared.outline.TypeKind.TheVariants as kinds
use Rattle.java_tree.specs.declared.stmt.Parameter.{Parameter}
use Rattle.java_tree.specs.declared.stmt.Variable.{Variable}
use Rattle.java_tree.specs.declared.token.Span.{Span}
use Rattle.java_tree.specs.declared.unit.Constructor.{Constructor}
use Rattle.java_tree.specs.declared.unit.Fields.{Fields}
use Rattle.java_tree.specs.declared.unit.Import.{Import}
use Rattle.java_tree.specs.declared.unit.Member.{Member}
use Rattle.java_tree.specs.declared.unit.Member.TheVariants as members
use Rattle.java_tree.specs.declared.unit.Method.{Method}
use Rattle.java_tree.specs.declared.unit.ResultType.{ResultType}
use Rattle.java_tree.specs.declared.unit.ResultType.TheVariants as results
use Rattle.java_tree.specs.declared.unit.TypeDecl.{TypeDecl}
use Rattle.java_tree.specs.declared.unit.TypeHead.{TypeHead}
use Rattle.java_tree.specs.declared.unit.TypeHead.TheVariants as heads
use Rattle.java_tree.specs.declared.unit.TypePlace.{TypePlace}
use Rattle.java_tree.specs.declared.unit.TypePlace.TheVariants as places
use Rattle.java_tree.specs.declared.unit.Unit.{Unit as CompilationUnit}
use Rattle.java_model.specs.Grammar.Pieces.{Hole}
use Rattle.java_model.specs.Grammar.Forms.{last_or}
use Rattle.java_model.specs.Grammar.Runs.{holes_of}
use Rattle.java_model.specs.Grammar.YieldUnit.{yield_type_decl, yield_unit}

-- the identifiers of a name (JLS 6.2)
abbrev pub spelled_name : List Ident → List (List ℕ)
spelled_name = map (λ i. i.name)

abbrev pub spelled_names : List (List Ident) → List (List (List ℕ))
spelled_names = map spelled_name

-- JLS 4.2
abbrev pub spelled_primitive : Primitive → List ℕ
spelled_primitive primitives.Boolean = codes "boolean"
spelled_primitive primitives.Byte = codes "byte"
spelled_primitive primitives.Short = codes "short"
spelled_primitive primitives.Char = codes "char"
spelled_primitive primitives.Int = codes "int"
spelled_primitive primitives.Long = codes "long"
spelled_primitive primitives.Float = codes "float"
spelled_primitive primitives.Double = codes "double"

-- the one word of a primitive type, or the identifiers of a name
abbrev pub spelled_element : ElementType → List (List ℕ)
spelled_element (elements.Primitive p) = spelled_primitive p ∷ []
spelled_element (elements.Named n) = spelled_name n

-- a type with so many `[]` after what it is the type of (JLS 8.3, 8.4, 10.2)
abbrev pub spelled_type : TypeUse → ℕ → SpelledType
spelled_type t dims = record { name = spelled_element t.element; dims = t.dims + dims }

abbrev pub spelled_void : ℕ → SpelledType
spelled_void dims = record { name = codes "void" ∷ []; dims = dims }

abbrev pub spelled_result : ResultType → ℕ → SpelledType
spelled_result results.Void dims = spelled_void dims
spelled_result (results.Of t) dims = spelled_type t dims

-- the bit of a modifier
abbrev pub bit_of : Modifier → ℕ
bit_of modifiers.Abstract = 1
bit_of modifiers.Final = 2
bit_of modifiers.Native = 4
bit_of modifiers.Private = 8
bit_of modifiers.Protected = 16
bit_of modifiers.Public = 32
bit_of modifiers.Static = 64
bit_of modifiers.StrictFp = 128
bit_of modifiers.Synchronized = 256
bit_of modifiers.Transient = 512
bit_of modifiers.Volatile = 1024

-- this bit, where a modifier that has it is spelled, once or more
abbrev pub bit_in : List Modifier → ℕ → ℕ
bit_in ms bit = cond (list_any (λ m. bit_of m == bit) ms) bit 0

-- the modifiers that are spelled (JLS 8.1.1, 8.3.1, 8.4.3)
abbrev pub spelled_modifiers : List Modifier → ℕ
spelled_modifiers ms = sum (map (bit_in ms) (1 ∷ 2 ∷ 4 ∷ 8 ∷ 16 ∷ 32 ∷ 64 ∷ 128 ∷ 256 ∷ 512 ∷ 1024 ∷ []))

-- a variable of a field declaration is a field (JLS 8.3, 9.3)
abbrev pub field_of : Fields → Variable → OutlineField
field_of f v = record { name = v.name.name; of = spelled_type f.of v.dims; modifiers = spelled_modifiers f.modifiers; span = v.name.span }

-- the types of parameters (JLS 8.4.1)
abbrev pub parameter_types : List Parameter → List SpelledType
parameter_types = map (λ p. spelled_type p.of p.dims)

-- JLS 8.4, 9.4
abbrev pub method_of : Method → OutlineMethod
method_of m = record {
  name = m.name.name;
  params = parameter_types m.parameters;
  result = spelled_result m.result m.dims;
  modifiers = spelled_modifiers m.modifiers;
  span = m.name.span;
}

-- JLS 8.8
abbrev pub constructor_of : Constructor → OutlineMethod
constructor_of c = record {
  name = c.name.name;
  params = parameter_types c.parameters;
  result = spelled_void 0;
  modifiers = spelled_modifiers c.modifiers;
  span = c.name.span;
}

abbrev pub fields_in : Member → List OutlineField
fields_in (members.Field f) = map (field_of f) f.variables
fields_in _ = []

abbrev pub methods_in : Member → List OutlineMethod
methods_in (members.Method m) = method_of m ∷ []
methods_in _ = []

abbrev pub constructors_in : Member → List OutlineMethod
constructors_in (members.Constructor c) = constructor_of c ∷ []
constructors_in _ = []

-- The numbers of types, of which the offsets of the `{` are given.
abbrev pub put_number : Option ℕ → List ℕ → List ℕ
put_number None ns = ns
put_number (Some n) ns = n ∷ ns

abbrev pub numbers_of : List TypeDecl → List ℕ → List ℕ
numbers_of types [] = []
numbers_of types (brace ∷ more) = put_number (position (λ t. t.brace == brace) types) (numbers_of types more)

-- the local classes in scope at the header of a local or anonymous class, innermost first (JLS 14.3)
abbrev pub locals_at : List TypeDecl → TypePlace → List ℕ → List ℕ
locals_at types places.Local locals = numbers_of types locals
locals_at types places.Anonymous locals = numbers_of types locals
locals_at types _ locals = []

abbrev pub is_local : TypePlace → Bool
is_local places.Local = true
is_local _ = false

abbrev pub optional_name : Option (List Ident) → List (List (List ℕ))
optional_name None = []
optional_name (Some n) = spelled_name n ∷ []

-- what the head of a type gives
pub record Headed : Type 0 where
  pub kind : TypeKind
  pub name : List ℕ
  pub span : Span
  pub modifiers : ℕ
  pub extends : List (List (List ℕ))
  pub implements : List (List (List ℕ))

abbrev pub no_span : Span
no_span = record { start = 0; end = 0 }

-- An anonymous class has no name; the name in its creation is what it extends, and its span is that of
-- the last identifier there (JLS 15.9.5).
abbrev pub headed : Hole → TypeHead → Headed
headed h (heads.Class c) = record {
  kind = kinds.Class;
  name = c.name.name;
  span = c.name.span;
  modifiers = spelled_modifiers c.modifiers;
  extends = optional_name c.extends;
  implements = spelled_names c.implements;
}
headed h (heads.Interface i) = record {
  kind = kinds.Interface;
  name = i.name.name;
  span = i.name.span;
  modifiers = spelled_modifiers i.modifiers;
  extends = spelled_names i.extends;
  implements = [];
}
headed h heads.Anonymous = record {
  kind = kinds.Anonymous;
  name = [];
  span = last_or no_span (map (λ i. i.span) h.created);
  modifiers = 0;
  extends = spelled_name h.created ∷ [];
  implements = [];
}

-- a type of a unit that stands in this hole (JLS 8, 9)
abbrev pub outline_type : List TypeDecl → Hole → TypeDecl → OutlineType
outline_type types h t = let head = headed h t.head in record {
  kind = head.kind;
  local = is_local t.place;
  name = head.name;
  span = head.span;
  modifiers = head.modifiers;
  parent = t.parent;
  locals = locals_at types t.place h.around.locals;
  extends = head.extends;
  implements = head.implements;
  fields = flat_map fields_in t.members;
  methods = flat_map methods_in t.members;
  constructors = flat_map constructors_in t.members;
}

-- A hole of a unit: one in the unit itself, or one in a type that stands in a hole of the unit.
pub data IsHoleOf (u : CompilationUnit) : Hole → Type 0 where
  in_unit : (h : Hole) → Contains (holes_of (yield_unit u)) h → IsHoleOf u h
  in_type : (k h : Hole) (number : ℕ) (t : TypeDecl) → IsHoleOf u k → slice_get u.types number ≡ Some t → t.brace ≡ k.brace
      → Contains (holes_of (yield_type_decl number k t)) h → IsHoleOf u h

-- a type of a unit, in its own hole
pub record IsOutlineType (u : CompilationUnit) (t : TypeDecl) (o : OutlineType) : Type 0 where
  pub hole : Hole
  pub declares : IsHoleOf u hole
  pub brace : t.brace ≡ hole.brace
  pub is : o ≡ outline_type u.types hole t

-- each type in order
abbrev pub AreOutlineTypes : CompilationUnit → List TypeDecl → List OutlineType → Type 0
AreOutlineTypes u [] [] = Unit {0}
AreOutlineTypes u (t ∷ ts) (o ∷ os) = IsOutlineType u t o × AreOutlineTypes u ts os
AreOutlineTypes u _ _ = ⊥

-- JLS 7.5
abbrev pub import_name : Import → ImportName
import_name i = record { name = spelled_name i.name; star = i.star }

-- JLS 7.4
abbrev pub package_name : Option (List Ident) → List (List ℕ)
package_name None = []
package_name (Some n) = spelled_name n

-- the outline of a unit (JLS 7, 8, 9)
pub record IsOutline (u : CompilationUnit) (o : Outline) : Type 0 where
  pub in_package : o.package ≡ package_name u.package
  pub imports : o.imports ≡ map import_name u.imports
  pub types : AreOutlineTypes u u.types o.types
