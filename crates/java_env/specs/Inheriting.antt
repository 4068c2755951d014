-- The ways along which methods are inherited (JLS 8.4.6, 9.2, 9.4.1).
use Rattle.std.specs.Prelude.{Bool, false, cond, [], ◌∷◌, ◌++◌, Option, Some, None}
use Rattle.std.specs.Option.{option_map_or}
use Rattle.java_tree.specs.declared.occurrence.MethodId.{MethodId}
use Rattle.java_tree.specs.declared.occurrence.TypeId.{TypeId}
use Rattle.java_model.specs.Names.Environments.{Env, declared_at, object}
use Rattle.java_model.specs.Names.Lists.{Identifier, is_among}
use Rattle.java_model.specs.Names.Methods.{inherits_method, is_bare_interface, method_name, methods_by, object_methods, same_method}
use Rattle.java_model.specs.Names.Supertypes.{count, known_supers}
use Rattle.java_env.specs.Walks.{Next}

-- whether a type has the public methods of Object, as an interface without superinterfaces
abbrev pub is_bare : Env → TypeId → Bool
is_bare env t = option_map_or is_bare_interface (declared_at env t) false

-- whether a method is one of those
abbrev pub is_of_object : Env → TypeId → MethodId → Bool
is_of_object env t m = is_among same_method m (object_methods env t (method_name env m))

-- the types of which a type may have methods
abbrev pub all_next : Env → Next
all_next env t = known_supers env t ++ cond (is_bare env t) (object env ∷ []) []

-- those of which it may have this method
abbrev pub next_of : Env → MethodId → Next
next_of env m t = cond (inherits_method env t m) (known_supers env t ++ cond (is_of_object env t m) (object env ∷ []) []) []

-- whether a type has a method by this name
abbrev pub has_method : Env → TypeId → Identifier → MethodId → Bool
has_method env t name m = is_among same_method m (methods_by (count env) env t name)

-- the ways of one method, or of any
abbrev pub ways : Env → Option MethodId → Next
ways env None = all_next env
ways env (Some m) = next_of env m
