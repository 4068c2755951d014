-- The types around a place.
use Rattle.std.specs.Prelude.{List, [], ◌∷◌, ◌++◌}
use Rattle.std.specs.Option.{option_to_list}
use Rattle.java_tree.specs.declared.bound.Bound.{Bound}
use Rattle.java_tree.specs.declared.occurrence.TypeId.{TypeId}
use Rattle.java_model.specs.Scopes.Contexts.{body_of}

-- the types in whose bodies a place is, innermost first
abbrev pub bodies : List Bound → List TypeId
bodies [] = []
bodies (b ∷ bs) = bodies bs ++ option_to_list (body_of b)
