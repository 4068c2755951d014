-- The first of methods in order of declaration.
use Rattle.std.specs.Prelude.{Bool, not, ◌&&◌, ◌||◌, ◌==◌, nat_lt, cond, Option, Some, None, is_some}
use Rattle.java_tree.specs.declared.occurrence.MethodId.{MethodId}
use Rattle.java_model.specs.Names.Environments.{Env}
use Rattle.java_model.specs.Names.Methods.{is_abstract, method_info}

abbrev pub comes_before : MethodId → MethodId → Bool
comes_before m n = nat_lt m.of.0 n.of.0 || ((m.of.0 == n.of.0) && nat_lt m.place n.place)

-- whether a method is one of the environment, and isn't abstract if that is asked for
abbrev pub counts : Env → Bool → MethodId → Bool
counts env concrete m = is_some (method_info env m) && not (concrete && is_abstract env m)

abbrev pub earlier : MethodId → Option MethodId → Option MethodId
earlier m None = Some m
earlier m (Some n) = cond (comes_before m n) (Some m) (Some n)
