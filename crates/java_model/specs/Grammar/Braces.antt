-- The braces of trees and tokens.
use Rattle.std.specs.Prelude.{◌≡◌, ℕ, zero, suc, List, [], ◌∷◌, ◌++◌, Option, Some, None, map}
use Rattle.java_tree.specs.declared.mark.Mark.TheVariants as marks
use Rattle.java_tree.specs.declared.unit.TypeDecl.{TypeDecl}
use Rattle.java_tree.specs.declared.unit.TypePlace.TheVariants as places
use Rattle.java_model.specs.Grammar.Signs.{Sign, mark, left_brace}
use Rattle.java_model.specs.Grammar.Pieces.{Piece, token, hole}

-- the offsets of the `{` among tokens
abbrev pub left_braces : List Sign → List ℕ
left_braces [] = []
left_braces (left_brace at ∷ ts) = at ∷ left_braces ts
left_braces (_ ∷ ts) = left_braces ts

-- the offsets of the `{` of the bodies of types
abbrev pub braces_of : List TypeDecl → List ℕ
braces_of = map (λ t. t.brace)

-- the first list is the second one without some of its elements
pub data IsSublist : List ℕ → List ℕ → Type 0 where
  none_of : (ys : List ℕ) → IsSublist [] ys
  takes : (x : ℕ) (xs ys : List ℕ) → IsSublist xs ys → IsSublist (x ∷ xs) (x ∷ ys)
  skips : (y : ℕ) (xs ys : List ℕ) → IsSublist xs ys → IsSublist xs (y ∷ ys)

-- How many braces are open after pieces, before which so many are. Holes don't count. None where a
-- `}` closes no brace.
abbrev pub open_behind : List Piece → ℕ → Option ℕ
open_behind [] d = Some d
open_behind (token (left_brace at) ∷ ps) d = open_behind ps (suc d)
open_behind (token (mark marks.RightBrace) ∷ ps) zero = None
open_behind (token (mark marks.RightBrace) ∷ ps) (suc d) = open_behind ps d
open_behind (p ∷ ps) d = open_behind ps d

-- pieces in which each brace is closed
pub record IsBalanced (ps : List Piece) : Type 0 where
  pub keeps : (d : ℕ) (qs : List Piece) → open_behind (ps ++ qs) d ≡ open_behind qs d

-- pieces that declare anonymous classes alone
abbrev pub AreAnonymous : List Piece → Type 0
AreAnonymous [] = Unit {0}
AreAnonymous (token s ∷ ps) = AreAnonymous ps
AreAnonymous (hole h ∷ ps) = (h.place ≡ places.Anonymous) × AreAnonymous ps
