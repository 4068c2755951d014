-- The outlines of types, from the holes in which they stand.
use Rattle.std.specs.Prelude.{◌≡◌, ℕ, zero, suc, ◌+◌, ◌<◌, ◌==◌, List, [], ◌∷◌, ◌++◌, Option, Some, None, map, length, get_or, position, slice_get}
use Rattle.std.specs.List.{flat_map}
use Rattle.java_tree.specs.declared.outline.OutlineType.{OutlineType}
use Rattle.java_tree.specs.declared.outline.TypeKind.TheVariants as kinds
use Rattle.java_tree.specs.declared.unit.TypeDecl.{TypeDecl}
use Rattle.java_tree.specs.declared.unit.TypeHead.{TypeHead}
use Rattle.java_tree.specs.declared.unit.TypeHead.TheVariants as heads
use Rattle.java_tree.specs.declared.unit.TypePlace.{TypePlace}
use Rattle.java_tree.specs.declared.unit.TypePlace.TheVariants as places
use Rattle.java_model.specs.Grammar.Braces.{braces_of}
use Rattle.java_model.specs.Grammar.Pieces.{Hole}
use Rattle.java_model.specs.Grammar.Runs.{holes_of}
use Rattle.java_model.specs.Grammar.YieldUnit.{yield_type_decl}
use Rattle.java_model.specs.Outlines.{spelled_modifiers, optional_name, spelled_names, fields_in, methods_in, constructors_in, put_number, is_local}
use Rattle.java_document.specs.Holes.{kept}
use Rattle.java_document.specs.declared.head.Head.{Head}
use Rattle.java_document.specs.declared.hole.FoundHole.{FoundHole}

-- each number is below those after it
pub record Rises (xs : List ℕ) : Type 0 where
  pub below : (i j : ℕ) → i < j → j < length xs → get_or xs i 0 < get_or xs j 0

-- what the head of a type gives in a hole (JLS 8.1, 9.1, 15.9.5)
abbrev pub head_of : FoundHole → TypeHead → Head
head_of f (heads.Class c) = record {
  kind = kinds.Class;
  name = c.name.name;
  span = c.name.span;
  modifiers = spelled_modifiers c.modifiers;
  extends = optional_name c.extends;
  implements = spelled_names c.implements;
}
head_of f (heads.Interface i) = record {
  kind = kinds.Interface;
  name = i.name.name;
  span = i.name.span;
  modifiers = spelled_modifiers i.modifiers;
  extends = spelled_names i.extends;
  implements = [];
}
head_of f heads.Anonymous = record {
  kind = kinds.Anonymous;
  name = [];
  span = f.span;
  modifiers = 0;
  extends = f.created ∷ [];
  implements = [];
}

-- the number of the type with this `{`, among those with these
abbrev pub number_in : List ℕ → ℕ → Option ℕ
number_in braces brace = position (λ b. b == brace) braces

abbrev pub numbers_in : List ℕ → List ℕ → List ℕ
numbers_in braces [] = []
numbers_in braces (brace ∷ more) = put_number (number_in braces brace) (numbers_in braces more)

abbrev pub local_numbers : List ℕ → TypePlace → List ℕ → List ℕ
local_numbers braces places.Local locals = numbers_in braces locals
local_numbers braces places.Anonymous locals = numbers_in braces locals
local_numbers braces _ locals = []

-- the outline of a type in a hole
abbrev pub outlined : List ℕ → FoundHole → TypeDecl → OutlineType
outlined braces f t = let head = head_of f t.head in record {
  kind = head.kind;
  local = is_local f.place;
  name = head.name;
  span = head.span;
  modifiers = head.modifiers;
  parent = t.parent;
  locals = local_numbers braces f.place f.locals;
  extends = head.extends;
  implements = head.implements;
  fields = flat_map fields_in t.members;
  methods = flat_map methods_in t.members;
  constructors = flat_map constructors_in t.members;
}

-- what stands in holes, from the type with this number on
abbrev pub in_order : (ℕ → Hole → List OutlineType) → ℕ → List Hole → List OutlineType
in_order each n [] = []
in_order each n (h ∷ hs) = each n h ++ in_order each (n + length (each n h)) hs

abbrev pub type_at : (ℕ → Hole → List OutlineType) → List TypeDecl → ℕ → Hole → Option TypeDecl → List OutlineType
type_at each types n h None = []
type_at each types n h (Some t) = outlined (braces_of types) (kept h) t ∷ in_order each (suc n) (holes_of (yield_type_decl n h t))

-- The type with this number in its hole, and those in it, with so many types inside one another.
unfoldable pub types_from : ℕ → List TypeDecl → ℕ → Hole → List OutlineType
types_from zero types n h = []
types_from (suc k) types n h = type_at (types_from k types) types n h (slice_get types n)

-- these were found in the members of a type, whichever hole it is that was kept
pub record AreHolesIn (f : FoundHole) (t : TypeDecl) (fs : List FoundHole) : Type 0 where
  pub are : (n : ℕ) (h : Hole) → f ≡ kept h → fs ≡ map kept (holes_of (yield_type_decl n h t))

-- the outlines of what stands in a hole come after those before
pub record OutlinesOne (types : List TypeDecl) (left : ℕ) (f : FoundHole) (before after : List OutlineType) : Type 0 where
  pub one : (h : Hole) → f ≡ kept h → after ≡ before ++ types_from left types (length before) h

pub record OutlinesAll (types : List TypeDecl) (left : ℕ) (fs : List FoundHole) (before after : List OutlineType) : Type 0 where
  pub all : (hs : List Hole) → fs ≡ map kept hs → after ≡ before ++ in_order (types_from left types) (length before) hs
