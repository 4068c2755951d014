-- For whom member types are asked.
use Rattle.java_tree.specs.declared.occurrence.TypeId.{TypeId}
use Rattle.java_model.specs.Names.Environments.{Env}

-- The type whose header, or whose supertypes' members, are looked up.
pub record Occasion : Type 0 where
  pub env : Env
  pub of : TypeId
