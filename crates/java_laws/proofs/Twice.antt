-- A tree that no text has: two imports with one span. Their occurrences are alike in start, end and kind.
use Rattle.std.proofs.Common.{◌≡◌, ◌<◌, ◌≤◌, ◌+◌, ℕ, zero, suc, List, [], ◌∷◌, ◌++◌, Some, None, false, codes, get_or, slice_get, refl, lit≤, arith}
use Rattle.std.proofs.lemmas.List.Sorted.{IsNonDecreasingBy-from_all_adjacent, IsPermutation-refl}
use Rattle.java_tree.specs.declared.occurrence.Occurrence.{Occurrence}
use Rattle.java_tree.specs.declared.occurrence.Binding.TheVariants as bindings
use Rattle.java_tree.specs.declared.occurrence.OccKind.TheVariants as occurs
use Rattle.java_tree.specs.declared.unit.Import.{Import}
use Rattle.java_tree.specs.declared.unit.Unit.{Unit as CompilationUnit}
use Rattle.java_model.specs.Tree.Nodes.{Node}
use Rattle.java_model.specs.Tree.Nodes as nodes
use Rattle.java_model.specs.Scopes.Contexts.{Context}
use Rattle.java_model.specs.Scopes.Scoping.{Spot, inside}
use Rattle.java_model.specs.Occurrences.References.{mention}
use Rattle.java_model.specs.Occurrences.Occurrences.{Occurrences, java_rules, root_spot, rank, node_names}
use Rattle.java_model.proofs.Walks.{Walked, nothing-walked, one-more-walked, whole}

abbrev of_x : Import
of_x = record { name = record { name = codes "x"; span = record { start = 7; end = 8 } } ∷ []; star = false }

abbrev twice : CompilationUnit
twice = record { «package» = None; imports = of_x ∷ of_x ∷ []; declarations = []; types = [] }

abbrev C : Context
C = record { env = []; outline = record { «package» = []; imports = []; types = [] }; first = 0; types = [] }

abbrev spot : Spot
spot = record { scope = []; node = nodes.imported of_x }

abbrev leaf : Walked (java_rules C) (inside C spot) [] []
leaf = nothing-walked (java_rules C)

abbrev names : List Occurrence
names = node_names C [] (nodes.imported of_x) []

abbrev in_unit : Walked (java_rules C) (inside C (root_spot twice)) ([] ∷ [] ∷ []) (names ++ names)
in_unit =
    one-more-walked (java_rules C) (spot ∷ []) ([] ∷ []) names spot [] []
    (one-more-walked (java_rules C) [] [] [] spot [] [] (nothing-walked (java_rules C)) leaf) leaf

abbrev x : Occurrence
x = mention occurs.TypeRef (record { name = codes "x"; span = record { start = 7; end = 8 } }) bindings.Nothing

occurrences : List Occurrence
occurrences = x ∷ x ∷ []

in_order : (k : ℕ) (d : Occurrence) → k + 1 < 2 → rank (get_or occurrences k d) ≤ rank (get_or occurrences (k + 1) d)
unfolding occurrences
in_order zero d h = lit≤ tt
in_order (suc k) d h = absurd (omega (arith, h))

all : Occurrences C twice occurrences
unfolding occurrences
all = let w = whole (java_rules C) (root_spot twice) ([] ∷ [] ∷ []) _ in_unit in record {
  places = w.paths;
  all = w.all;
  named = occurrences;
  name = w.name;
  same = IsPermutation-refl occurrences;
  rise = IsNonDecreasingBy-from_all_adjacent rank occurrences in_order;
}

alike : (slice_get occurrences 0 ≡ Some x) × (slice_get occurrences 1 ≡ Some x)
unfolding occurrences
alike = (refl, refl)
