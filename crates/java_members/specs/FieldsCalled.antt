-- The fields of a name among those of a type, from a place on.
use Rattle.std.specs.Prelude.{ℕ, ◌+◌, cond, List, [], ◌∷◌}
use Rattle.std.specs.Str.{bytes_eq}
use Rattle.java_tree.specs.declared.occurrence.FieldId.{FieldId}
use Rattle.java_tree.specs.declared.occurrence.TypeId.{TypeId}
use Rattle.java_tree.specs.declared.outline.OutlineField.{OutlineField}
use Rattle.java_model.specs.Names.Lists.{Identifier}

abbrev pub fields_called : TypeId → ℕ → Identifier → List OutlineField → List FieldId
fields_called t place name [] = []
fields_called t place name (f ∷ fs) =
    cond (bytes_eq name f.name) (record { of = t; place = place } ∷ fields_called t (place + 1) name fs) (fields_called t (place + 1) name fs)
