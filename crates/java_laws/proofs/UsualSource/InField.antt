-- What `private List items = new ArrayList();` names.
use Rattle.std.proofs.Common.{List, [], ◌∷◌, refl, codes}
use Rattle.java_tree.specs.declared.names.Ident.{Ident}
use Rattle.java_tree.specs.declared.occurrence.Access.TheVariants.{Read}
use Rattle.java_tree.specs.declared.types.JType.TheVariants as types
use Rattle.java_model.specs.Scopes.Scoping.{Spot}
use Rattle.java_model.specs.Tree.Nodes.{Node}
use Rattle.java_model.specs.Tree.Nodes as nodes
use Rattle.java_laws.proofs.UsualSource.Source.{C, list_use, items, items_field, id, creation, new, plain, in_class}
use Rattle.java_laws.proofs.UsualSource.Steps.{outs, spot, Is, Walk, nothing, step, sole, silent, expression}
use Rattle.java_laws.proofs.UsualSource.Expected.{list, array_list, new_array_list, items_declared}

abbrev class : Ident
class = id (codes "ArrayList") 78

abbrev created : Node
created = nodes.creation (creation class)

created-is : Is C in_class created [] [] [] []
created-is = record { within = refl; types = refl; names = refl }

creating-is : Is C in_class (nodes.first Read (new class)) (spot in_class created ∷ []) ([] ∷ []) (types.Absent (codes "ArrayList" ∷ []) ∷ [])
    (array_list ∷ new_array_list ∷ [])
unfolding C array_list new_array_list
creating-is = record { within = simp outs; types = simp outs; names = simp outs }

abbrev use_node : Node
use_node = nodes.type_use list_use.element 0

use-is : Is C in_class use_node [] [] (types.Absent (codes "List" ∷ []) ∷ []) (list ∷ [])
unfolding C list
use-is = record { within = refl; types = refl; names = refl }

items-is : Is C in_class (nodes.field 0 items)
    (spot in_class (nodes.expression Read (plain (new class))) ∷ []) ((types.Absent (codes "ArrayList" ∷ []) ∷ []) ∷ []) [] (items_declared ∷ [])
unfolding C items items_declared
items-is = record { within = simp outs; types = refl; names = refl }

abbrev parts : List Spot
parts = spot in_class use_node ∷ spot in_class (nodes.field 0 items) ∷ []

field-is : Is C in_class (nodes.member 0 items_field) parts ((types.Absent (codes "List" ∷ []) ∷ []) ∷ [] ∷ []) [] []
unfolding items_field
field-is = record { within = refl; types = refl; names = refl }

pub in-field : Walk C (spot in_class (nodes.member 0 items_field) ∷ []) ([] ∷ []) (list ∷ array_list ∷ new_array_list ∷ items_declared ∷ [])
in-field = silent field-is (step items-is (sole use-is (nothing C)) (expression creating-is (silent created-is (nothing C))))
