-- All occurrences of the source, in order.
use Rattle.std.proofs.Common.{◌≡◌, ℕ, List, [], ◌∷◌, refl, sym, subst, true}
use Rattle.std.specs.List.Sorted.{IsPermutation}
use Rattle.java_tree.specs.declared.occurrence.Occurrence.{Occurrence}
use Rattle.java_model.specs.Scopes.Scoping.{Spot, inside}
use Rattle.java_model.specs.Tree.Nodes.{Node}
use Rattle.java_model.specs.Tree.Nodes as nodes
use Rattle.java_model.specs.Occurrences.Occurrences.{Occurrences, java_rules, root_spot, rank}
use Rattle.java_model.proofs.Walks.{whole}
use Rattle.java_model.proofs.PlaceLaws.{occurrences-alike}
use Rattle.java_laws.proofs.OneOrder.{swaps-below, rises, no-falls, one-order}
use Rattle.java_laws.proofs.UsualSource.Source.{C, source, class, in_p, java_util, items_field, main, in_class}
use Rattle.java_laws.proofs.UsualSource.Steps.{spot, Is, Walk, nothing, step, sole, silent}
use Rattle.java_laws.proofs.UsualSource.Expected.{expected, package_p, util, class_main, list, array_list, new_array_list, items_declared, main_declared, string, main_type, main_again, new_main, items_read, add_called, system, out, println_called, items_read_again, size_called, them}
use Rattle.java_laws.proofs.UsualSource.InField.{in-field}
use Rattle.java_laws.proofs.UsualSource.InMain.{method-is, in-parts}

package-is : Is C [] (nodes.package_clause in_p) [] [] [] (package_p ∷ [])
unfolding package_p
package-is = record { within = refl; types = refl; names = refl }

import-is : Is C [] (nodes.imported java_util) [] [] [] (util ∷ [])
unfolding C util
import-is = record { within = refl; types = refl; names = refl }

-- the two members
abbrev members : List Spot
members = spot in_class (nodes.member 0 items_field) ∷ spot in_class (nodes.member 0 main) ∷ []

body-is : Is C [] (nodes.body 49) members ([] ∷ [] ∷ []) [] []
unfolding C source class
body-is = record { within = refl; types = refl; names = refl }

class-is : Is C [] (nodes.declaration 49) (spot [] (nodes.body 49) ∷ []) ([] ∷ []) [] (class_main ∷ [])
unfolding C source class class_main
class-is = record { within = refl; types = refl; names = refl }

abbrev parts : List Spot
parts = spot [] (nodes.package_clause in_p) ∷ spot [] (nodes.imported java_util) ∷ spot [] (nodes.declaration 49) ∷ []

unit-is : Is C [] (nodes.unit source) parts ([] ∷ [] ∷ [] ∷ []) [] []
unfolding C source
unit-is = record { within = refl; types = refl; names = refl }

-- what the nodes name, each after what is inside it
abbrev named : List Occurrence
named =
    package_p ∷ util
    ∷ list ∷ array_list ∷ new_array_list ∷ items_declared
    ∷ string ∷ main_type ∷ main_again ∷ new_main
    ∷ items_read ∷ add_called
    ∷ items_read_again ∷ size_called ∷ system ∷ out ∷ println_called
    ∷ main_declared ∷ class_main
    ∷ []

in-class : Walk C members ([] ∷ [] ∷ []) (list ∷ array_list ∷ new_array_list ∷ items_declared
    ∷ string ∷ main_type ∷ main_again ∷ new_main ∷ items_read ∷ add_called
    ∷ items_read_again ∷ size_called ∷ system ∷ out ∷ println_called ∷ main_declared ∷ [])
in-class = step method-is in-field in-parts

in-unit : Walk C parts ([] ∷ [] ∷ [] ∷ []) named
in-unit = step class-is (step import-is (sole package-is (nothing C)) (nothing C)) (silent body-is in-class)

-- the exchanges that put them in order
abbrev exchanges : List (ℕ × ℕ)
exchanges = (17, 18) ∷ (13, 17) ∷ (12, 18) ∷ (11, 17) ∷ (10, 18) ∷ (9, 17) ∷ (8, 18) ∷ (7, 17) ∷ (6, 18) ∷ (5, 18) ∷ (4, 5) ∷ (3, 18) ∷ (2, 18) ∷ []

moved : IsPermutation named expected
moved = record { moves = exchanges; below = swaps-below 19 exchanges refl; is = refl }

pub rise : rises rank expected ≡ true
unfolding them
rise = refl

in-source : Walk C (inside C (root_spot source)) ([] ∷ [] ∷ [] ∷ []) named
in-source = subst (λ xs. Walk C xs ([] ∷ [] ∷ [] ∷ []) named) (sym unit-is.within) in-unit

-- they are the occurrences of the source, and it has no other list of them
pub all : Occurrences C source expected
all = let w = whole (java_rules C) (root_spot source) _ named in-source in record {
  places = w.paths;
  all = w.all;
  named = named;
  name = w.name;
  same = moved;
  rise = no-falls rank expected rise;
}

pub alone : (os : List Occurrence) → Occurrences C source os → expected ≡ os
alone os h = one-order rank expected os rise h.rise (occurrences-alike C source expected os all h)
