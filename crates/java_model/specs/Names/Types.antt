-- Types as values: arrays, equality, and what a spelled type means (JLS 4, 10).
use Rattle.std.specs.Prelude.{ℕ, zero, suc, ◌+◌, Bool, true, false, ◌&&◌, ◌==◌, List, [], ◌∷◌, Option, Some, None, codes, cond}
use Rattle.std.specs.List.{find}
use Rattle.std.specs.Str.{bytes_eq}
use Rattle.java_tree.specs.declared.names.Primitive.{Primitive}
use Rattle.java_tree.specs.declared.names.Primitive.TheVariants as primitives
use Rattle.java_tree.specs.declared.outline.SpelledType.{SpelledType}
use Rattle.java_tree.specs.declared.types.ArrayElement.{ArrayElement}
use Rattle.java_tree.specs.declared.types.ArrayElement.TheVariants as elements
use Rattle.java_tree.specs.declared.types.JType.{JType}
use Rattle.java_tree.specs.declared.types.JType.TheVariants as types
use Rattle.java_model.specs.Outlines.{spelled_primitive}
use Rattle.java_model.specs.Names.Lists.{Identifier, Identifiers, same_name}
use Rattle.java_model.specs.Names.Environments.{same_id}

abbrev pub same_primitive : Primitive → Primitive → Bool
same_primitive p q = bytes_eq (spelled_primitive p) (spelled_primitive q)

abbrev pub same_element : ArrayElement → ArrayElement → Bool
same_element (elements.Primitive p) (elements.Primitive q) = same_primitive p q
same_element elements.Void elements.Void = true
same_element (elements.Class s) (elements.Class t) = same_id s t
same_element (elements.Absent m) (elements.Absent n) = same_name m n
same_element _ _ = false

-- Absent types are equal where their names are.
abbrev pub same_type : JType → JType → Bool
same_type (types.Primitive p) (types.Primitive q) = same_primitive p q
same_type types.Void types.Void = true
same_type types.Null types.Null = true
same_type (types.Class s) (types.Class t) = same_id s t
same_type (types.Absent m) (types.Absent n) = same_name m n
same_type (types.Array e m) (types.Array f n) = same_element e f && (m == n)
same_type types.Unknown types.Unknown = true
same_type _ _ = false

-- an element type by itself
abbrev pub element_type : ArrayElement → JType
element_type (elements.Primitive p) = types.Primitive p
element_type elements.Void = types.Void
element_type (elements.Class t) = types.Class t
element_type (elements.Absent n) = types.Absent n

-- a type with so many `[]` more (JLS 10.1)
abbrev pub array_of : ArrayElement → ℕ → JType
array_of e zero = element_type e
array_of e (suc n) = types.Array e (suc n)

abbrev pub with_dims : JType → ℕ → JType
with_dims (types.Primitive p) n = array_of (elements.Primitive p) n
with_dims types.Void n = array_of elements.Void n
with_dims types.Null n = types.Null
with_dims (types.Class t) n = array_of (elements.Class t) n
with_dims (types.Absent m) n = array_of (elements.Absent m) n
with_dims (types.Array e m) n = array_of e (m + n)
with_dims types.Unknown n = types.Unknown

-- the type that one index takes from an array (JLS 15.13)
abbrev pub component : JType → JType
component (types.Array e (suc n)) = array_of e n
component _ = types.Unknown

-- JLS 4.2
abbrev pub all_primitives : List Primitive
all_primitives =
    primitives.Boolean ∷ primitives.Byte ∷ primitives.Short ∷ primitives.Char
    ∷ primitives.Int ∷ primitives.Long ∷ primitives.Float ∷ primitives.Double ∷ []

abbrev pub primitive_named : Identifier → Option Primitive
primitive_named name = find (λ p. bytes_eq name (spelled_primitive p)) all_primitives

abbrev pub primitive_or : Option Primitive → JType → JType
primitive_or None t = t
primitive_or (Some p) t = types.Primitive p

-- the one word of a primitive type or of `void`, or a name
abbrev pub word_type : (Identifiers → JType) → Identifiers → JType
word_type mean (x ∷ []) = primitive_or (primitive_named x) (cond (bytes_eq x (codes "void")) types.Void (mean (x ∷ [])))
word_type mean names = mean names

-- what a spelled type means, where type names mean so
abbrev pub spelled : (Identifiers → JType) → SpelledType → JType
spelled mean s = with_dims (word_type mean s.name) s.dims
