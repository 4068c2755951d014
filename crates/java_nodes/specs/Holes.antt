-- The types of a unit by their `{`.
use Rattle.std.specs.Prelude.{◌<◌, ℕ, List, [], ◌∷◌, AllPairs}
use Rattle.java_tree.specs.declared.unit.TopLevel.{TopLevel}
use Rattle.java_tree.specs.declared.unit.TopLevel.TheVariants as tops
use Rattle.java_tree.specs.declared.unit.TypeDecl.{TypeDecl}

-- the `{` of top-level types (JLS 7.6)
abbrev pub top_holes : List TopLevel → List ℕ
top_holes [] = []
top_holes (tops.Type brace ∷ ts) = brace ∷ top_holes ts
top_holes (tops.Empty ∷ ts) = top_holes ts

-- types in the order of their `{`
abbrev pub AreInOrder : List TypeDecl → Type 0
AreInOrder = AllPairs (λ a b. a.brace < b.brace)
