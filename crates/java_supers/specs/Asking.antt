-- What a type inherits, given the answers about other types.
use Rattle.std.specs.List.{flat_map}
use Rattle.java_model.specs.Names.Environments.{Env}
use Rattle.java_model.specs.Names.TypeNames.{Ask, class_of}
use Rattle.java_model.specs.Names.Supertypes.{inherited_types, supers_asking}

abbrev pub inherited_asking : Env → Ask → Ask
inherited_asking env ask t name = inherited_types env ask t name (flat_map class_of (supers_asking env ask t))
