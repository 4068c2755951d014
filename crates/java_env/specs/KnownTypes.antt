-- The types that the language knows by name (JLS 4.3.2, 10.7).
use Rattle.std.specs.Prelude.{◌≡◌, [], ◌∷◌, codes}
use Rattle.java_model.specs.Names.Environments.{Env, java_lang, object, type_named}
use Rattle.java_model.specs.Names.Lists.{with_dots}
use Rattle.java_env.specs.declared.known_types.KnownTypes.{KnownTypes}

-- These are the types of an environment.
pub record AreOf (env : Env) (known : KnownTypes) : Type 0 where
  pub object : known.object ≡ object env
  pub cloneable : known.cloneable ≡ type_named env (with_dots java_lang) (codes "Cloneable" ∷ [])
  pub serializable : known.serializable ≡ type_named env (with_dots (codes "java" ∷ codes "io" ∷ [])) (codes "Serializable" ∷ [])
