-- Access at a place (JLS 6.6.1), as it counts for methods and constructors.
use Rattle.std.specs.Prelude.{ℕ, ◌+◌, Bool, true, false, ◌||◌, List, Option, None, option_map}
use Rattle.std.specs.List.{list_any, last_or}
use Rattle.std.specs.Option.{option_map_or}
use Rattle.std.specs.Str.{bytes_eq}
use Rattle.java_tree.specs.declared.occurrence.MethodId.{MethodId}
use Rattle.java_tree.specs.declared.occurrence.TypeId.{TypeId}
use Rattle.java_model.specs.Names.Environments.{Env, Declared, declared_at, around, package_of, same_id, type_id}
use Rattle.java_model.specs.Names.Access.{Visibility, PrivateAccess, DefaultAccess, ProtectedAccess, PublicAccess, visibility}
use Rattle.java_model.specs.Names.Supertypes.{is_sub}
use Rattle.java_model.specs.Names.Methods.{method_modifiers}

-- the top level type around a type (JLS 7.6)
abbrev pub top_level : Declared → Option TypeId
top_level d = option_map (λ n. type_id (d.first + n)) (last_or None (around d))

abbrev pub is_within : Env → Option TypeId → TypeId → Bool
is_within env top t = option_map_or (λ d. option_map_or (λ u. option_map_or (same_id u) (top_level d) false) top false) (declared_at env t) false

-- in the body of the type or of a subclass (JLS 6.6.2)
abbrev pub is_protected_in : Env → TypeId → TypeId → Bool
is_protected_in env owner t = same_id owner t || is_sub env t owner

-- Whether a member of this access of a type is accessible where the bodies of `bodies` are around, in a package.
abbrev pub accessible_by : Visibility → Env → List TypeId → List ℕ → Declared → TypeId → Bool
accessible_by PrivateAccess env bodies here d owner = list_any (is_within env (top_level d)) bodies
accessible_by DefaultAccess env bodies here d owner = bytes_eq here (package_of d)
accessible_by ProtectedAccess env bodies here d owner = bytes_eq here (package_of d) || list_any (is_protected_in env owner) bodies
accessible_by PublicAccess env bodies here d owner = true

-- A method or constructor. What is inside the arguments of an anonymous class counts as in its body.
abbrev pub is_accessible : Env → List TypeId → List ℕ → MethodId → Bool
is_accessible env bodies here m =
    option_map_or (λ d. accessible_by (visibility d (method_modifiers env m)) env bodies here d m.of) (declared_at env m.of) false
