-- Access (JLS 6.6) as modifiers give it, and whether a member is inherited.
use Rattle.std.specs.Prelude.{ℕ, Bool, true, false, ◌==◌, bit_and, cond}
use Rattle.std.specs.Option.{option_map_or}
use Rattle.std.specs.Str.{bytes_eq}
use Rattle.java_tree.specs.declared.names.Modifier.{Modifier}
use Rattle.java_tree.specs.declared.names.Modifier.TheVariants as modifiers
use Rattle.java_tree.specs.declared.occurrence.TypeId.{TypeId}
use Rattle.java_model.specs.Outlines.{bit_of}
use Rattle.java_model.specs.Names.Environments.{Env, Declared, declared_at, is_interface, package_of}

abbrev pub has_modifier : Modifier → ℕ → Bool
has_modifier m bits = bit_and bits (bit_of m) == bit_of m

-- JLS 6.6.1
pub data Visibility : Type 0 where
  PrivateAccess : Visibility
  DefaultAccess : Visibility
  ProtectedAccess : Visibility
  PublicAccess : Visibility

-- Of several access modifiers private counts before public before protected.
abbrev pub spelled_visibility : ℕ → Visibility
spelled_visibility bits =
    cond (has_modifier modifiers.Private bits) PrivateAccess
    (cond (has_modifier modifiers.Public bits) PublicAccess
    (cond (has_modifier modifiers.Protected bits) ProtectedAccess DefaultAccess))

abbrev pub is_public : Visibility → Bool
is_public PublicAccess = true
is_public _ = false

-- the modifiers of an access
abbrev pub access_bits : Visibility → ℕ
access_bits PrivateAccess = bit_of modifiers.Private
access_bits DefaultAccess = 0
access_bits ProtectedAccess = bit_of modifiers.Protected
access_bits PublicAccess = bit_of modifiers.Public

-- the access of a member with these modifiers; members of interfaces are public (JLS 9.1.4)
abbrev pub visibility : Declared → ℕ → Visibility
visibility owner bits = cond (is_interface owner.type.kind) PublicAccess (spelled_visibility bits)

-- whether a member of this access is inherited from its type by a subtype (JLS 8.2)
abbrev pub is_inherited : Visibility → Declared → Declared → Bool
is_inherited PrivateAccess owner heir = false
is_inherited DefaultAccess owner heir = bytes_eq (package_of owner) (package_of heir)
is_inherited ProtectedAccess owner heir = true
is_inherited PublicAccess owner heir = true

-- the same of types of the environment
abbrev pub passes_on : Env → TypeId → ℕ → TypeId → Bool
passes_on env owner bits heir =
    option_map_or (λ o. option_map_or (is_inherited (visibility o bits) o) (declared_at env heir) false) (declared_at env owner) false
