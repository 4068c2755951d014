-- An anonymous class that the environment has.
use Rattle.std.specs.Prelude.{◌≡◌, true, Option, Some}
use Rattle.java_tree.specs.declared.occurrence.TypeId.{TypeId}
use Rattle.java_model.specs.Names.Environments.{Env}
use Rattle.java_types.specs.Entries.{is_declared}

abbrev pub IsHeld : Env → Option TypeId → TypeId → Type 0
IsHeld env a t = (a ≡ Some t) × (is_declared env t ≡ true)
