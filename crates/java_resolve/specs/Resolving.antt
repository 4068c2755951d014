-- What is around a place, as the definitions of type names see it.
use Rattle.std.specs.Prelude.{List, map}
use Rattle.java_tree.specs.declared.outline.Outline.{Outline}
use Rattle.java_model.specs.Names.TypeNames as names
use Rattle.java_model.specs.Names.TypeNames.{TypeScope}
use Rattle.java_resolve.specs.declared.type_bound.TypeBound.{TypeBound}
use Rattle.java_resolve.specs.declared.type_bound.TypeBound.TheVariants as bounds

abbrev pub bound_of : TypeBound → names.TypeBound
bound_of (bounds.LocalClass t) = names.LocalClass t
bound_of (bounds.Body t) = names.Body t

abbrev pub scope_of : Outline → List TypeBound → TypeScope
scope_of o around = record { outline = o; bounds = map bound_of around }
