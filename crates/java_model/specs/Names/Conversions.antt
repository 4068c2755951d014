-- Method invocation conversion (JLS 5.3).
use Rattle.std.specs.Prelude.{ℕ, zero, suc, Bool, true, false, ◌||◌, [], ◌∷◌, codes}
use Rattle.std.specs.Option.{option_map_or}
use Rattle.java_tree.specs.declared.names.Primitive.{Primitive}
use Rattle.java_tree.specs.declared.names.Primitive.TheVariants as primitives
use Rattle.java_tree.specs.declared.occurrence.TypeId.{TypeId}
use Rattle.java_tree.specs.declared.types.ArrayElement.{ArrayElement}
use Rattle.java_tree.specs.declared.types.ArrayElement.TheVariants as elements
use Rattle.java_tree.specs.declared.types.JType.{JType}
use Rattle.java_tree.specs.declared.types.JType.TheVariants as types
use Rattle.java_model.specs.Names.Lists.{Identifier, Identifiers, with_dots}
use Rattle.java_model.specs.Names.Environments.{Env, same_id, type_named, java_lang, object}
use Rattle.java_model.specs.Names.Supertypes.{is_sub}
use Rattle.java_model.specs.Names.Types.{same_element, same_primitive, same_type}

-- widening primitive conversion (JLS 5.1.2)
abbrev pub widens : Primitive → Primitive → Bool
widens primitives.Byte primitives.Short = true
widens primitives.Byte primitives.Int = true
widens primitives.Byte primitives.Long = true
widens primitives.Byte primitives.Float = true
widens primitives.Byte primitives.Double = true
widens primitives.Short primitives.Int = true
widens primitives.Short primitives.Long = true
widens primitives.Short primitives.Float = true
widens primitives.Short primitives.Double = true
widens primitives.Char primitives.Int = true
widens primitives.Char primitives.Long = true
widens primitives.Char primitives.Float = true
widens primitives.Char primitives.Double = true
widens primitives.Int primitives.Long = true
widens primitives.Int primitives.Float = true
widens primitives.Int primitives.Double = true
widens primitives.Long primitives.Float = true
widens primitives.Long primitives.Double = true
widens primitives.Float primitives.Double = true
widens _ _ = false

-- what an array has as its superclass and its interfaces (JLS 4.3.2, 10.7)
abbrev pub is_type_named : Env → Identifiers → Identifier → TypeId → Bool
is_type_named env qualifier name t = option_map_or (same_id t) (type_named env (with_dots qualifier) (name ∷ [])) false

abbrev pub is_array_super : Env → TypeId → Bool
is_array_super env t =
    same_id t (object env)
    || is_type_named env java_lang (codes "Cloneable") t
    || is_type_named env (codes "java" ∷ codes "io" ∷ []) (codes "Serializable") t

-- a class or interface to its supertypes and to Object
abbrev pub class_converts : Env → TypeId → TypeId → Bool
class_converts env s t = same_id s t || is_sub env s t || same_id t (object env)

-- Array elements: primitives must be equal. A type that no document declares converts to each reference type, and back.
abbrev pub element_converts : Env → ArrayElement → ArrayElement → Bool
element_converts env (elements.Class s) (elements.Class t) = class_converts env s t
element_converts env (elements.Class s) (elements.Absent n) = true
element_converts env (elements.Absent m) (elements.Class t) = true
element_converts env (elements.Absent m) (elements.Absent n) = true
element_converts env e f = same_element e f

-- an array as an element of an array, and the other way round
abbrev pub array_to_element : Env → ArrayElement → Bool
array_to_element env (elements.Class t) = is_array_super env t
array_to_element env (elements.Absent n) = true
array_to_element env _ = false

abbrev pub element_to_array : ArrayElement → Bool
element_to_array (elements.Absent n) = true
element_to_array _ = false

-- arrays of so many dimensions (JLS 5.1.4)
abbrev pub array_converts : Env → ℕ → ArrayElement → ℕ → ArrayElement → Bool
array_converts env zero e zero f = element_converts env e f
array_converts env zero e (suc n) f = element_to_array e
array_converts env (suc m) e zero f = array_to_element env f
array_converts env (suc m) e (suc n) f = array_converts env m e n f

-- Conv
abbrev pub converts : Env → JType → JType → Bool
converts env types.Unknown to = true
converts env (types.Primitive p) (types.Primitive q) = same_primitive p q || widens p q
converts env types.Null (types.Class t) = true
converts env types.Null (types.Absent n) = true
converts env types.Null (types.Array f n) = true
converts env (types.Class s) (types.Class t) = class_converts env s t
converts env (types.Class s) (types.Absent n) = true
converts env (types.Absent m) (types.Class t) = true
converts env (types.Absent m) (types.Absent n) = true
converts env (types.Absent m) (types.Array f n) = true
converts env (types.Array e m) (types.Class t) = is_array_super env t
converts env (types.Array e m) (types.Absent n) = true
converts env (types.Array e m) (types.Array f n) = array_converts env m e n f
converts env from to = same_type from to
