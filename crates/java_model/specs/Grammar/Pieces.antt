-- The parts of what a tree yields: tokens, and holes for the types that it declares.
use Rattle.std.specs.Prelude.{ℕ, zero, suc, List, [], ◌∷◌, ◌++◌, Option}
use Rattle.java_tree.specs.declared.mark.Mark.{Mark}
use Rattle.java_tree.specs.declared.mark.Mark.TheVariants as marks
use Rattle.java_tree.specs.declared.names.Ident.{Ident}
use Rattle.java_tree.specs.declared.names.ElementType.{ElementType}
use Rattle.java_tree.specs.declared.names.ElementType.TheVariants as elements
use Rattle.java_tree.specs.declared.names.TypeUse.{TypeUse}
use Rattle.java_tree.specs.declared.unit.TypePlace.{TypePlace}
use Rattle.java_model.specs.Grammar.Signs.{Sign, mark, word, primitive_mark}

-- What is around a place of a tree: the depth that is left, the number of the innermost type, and the
-- local classes in scope there (JLS 14.3), innermost first, by the offsets of their `{`.
pub record Around : Type 0 where
  pub left : ℕ
  pub within : Option ℕ
  pub locals : List ℕ

-- A type where it is declared. `created` is the name in the creation of an anonymous class, else empty.
pub record Hole : Type 0 where
  pub brace : ℕ
  pub place : TypePlace
  pub created : List Ident
  pub around : Around

pub data Piece : Type 0 where
  token : Sign → Piece
  hole : Hole → Piece

-- what a tree yields at a place: its pieces from left to right
abbrev pub Yield : Type 0
Yield = Around → List Piece

-- a mark as a piece
abbrev pub the : Mark → Piece
the m = token (mark m)

abbrev pub less : ℕ → ℕ
less zero = zero
less (suc d) = d

-- within a counted symbol one of the depth is taken
abbrev pub deeper : Around → Around
deeper a = record { left = less a.left; within = a.within; locals = a.locals }

-- within the scope of one more local class
abbrev pub with_local : ℕ → Around → Around
with_local brace a = record { left = a.left; within = a.within; locals = brace ∷ a.locals }

-- one after another
abbrev pub each : List Yield → Yield
each [] a = []
each (y ∷ ys) a = y a ++ each ys a

-- each after a comma
abbrev pub behind_commas : List Yield → Yield
behind_commas [] a = []
behind_commas (y ∷ ys) a = the marks.Comma ∷ (y a ++ behind_commas ys a)

-- separated by commas
abbrev pub parted : List Yield → Yield
parted [] a = []
parted (y ∷ ys) a = y a ++ behind_commas ys a

-- identifiers, each after a dot
abbrev pub dotted : List Ident → List Piece
dotted [] = []
dotted (i ∷ more) = the marks.Dot ∷ token (word i) ∷ dotted more

-- Name = Identifier {'.' Identifier} (JLS 6.2)
abbrev pub yield_name : List Ident → List Piece
yield_name [] = []
yield_name (i ∷ more) = token (word i) ∷ dotted more

-- names, each after a comma
abbrev pub names_behind : List (List Ident) → List Piece
names_behind [] = []
names_behind (n ∷ more) = the marks.Comma ∷ (yield_name n ++ names_behind more)

-- Name {',' Name}
abbrev pub yield_names : List (List Ident) → List Piece
yield_names [] = []
yield_names (n ∷ more) = yield_name n ++ names_behind more

-- Dims = {'[' ']'} (JLS 10.1)
abbrev pub yield_dims : ℕ → List Piece
yield_dims zero = []
yield_dims (suc n) = the marks.LeftBracket ∷ the marks.RightBracket ∷ yield_dims n

-- PrimitiveType | Name
abbrev pub yield_element : ElementType → List Piece
yield_element (elements.Primitive p) = the (primitive_mark p) ∷ []
yield_element (elements.Named n) = yield_name n

-- Type = (PrimitiveType | Name) Dims (JLS 4.1)
abbrev pub yield_type : TypeUse → List Piece
yield_type t = yield_element t.element ++ yield_dims t.dims
