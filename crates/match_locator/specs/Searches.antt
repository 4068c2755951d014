-- The searches for types and packages, and what their occurrences are bound to.
use Rattle.std.specs.Prelude.{Bool, true, false, List}
use Rattle.std.specs.List.{list_all}
use Rattle.java_tree.specs.declared.occurrence.Binding.{Binding}
use Rattle.java_tree.specs.declared.occurrence.Binding.TheVariants as bindings
use Rattle.java_tree.specs.declared.occurrence.OccKind.{OccKind}
use Rattle.java_tree.specs.declared.occurrence.OccKind.TheVariants as occ
use Rattle.java_tree.specs.declared.occurrence.Occurrence.{Occurrence}
use Rattle.java_tree.specs.declared.search.What.{What}
use Rattle.java_tree.specs.declared.search.What.TheVariants as whats

-- a search for types or packages
abbrev pub is_for_types : What → Bool
is_for_types whats.Class = true
is_for_types whats.Package = true
is_for_types _ = false

-- Only what declares a field or refers to one is bound to a field.
abbrev pub binds_by_kind : OccKind → Binding → Bool
binds_by_kind occ.FieldDecl binding = true
binds_by_kind occ.FieldRef binding = true
binds_by_kind kind (bindings.Field f) = false
binds_by_kind kind binding = true

-- each of these occurrences
abbrev pub have_bindings_by_kind : List Occurrence → Bool
have_bindings_by_kind = list_all (λ o. binds_by_kind o.kind o.binding)
