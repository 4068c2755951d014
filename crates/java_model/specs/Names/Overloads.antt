-- Which of several methods or constructors a call means (JLS 15.12.2, 15.9.3).
use Rattle.std.specs.Prelude.{Bool, true, false, not, ◌&&◌, ◌||◌, cond, List, [], ◌∷◌, ◌++◌, Option, Some, None}
use Rattle.std.specs.List.{filter, flat_map, list_any, list_all, find}
use lib.Pointwise.{pointwise}
use Rattle.java_tree.specs.declared.occurrence.MethodId.{MethodId}
use Rattle.java_tree.specs.declared.types.Choice.{Choice}
use Rattle.java_tree.specs.declared.types.Choice.TheVariants as choices
use Rattle.java_tree.specs.declared.types.JType.{JType}
use Rattle.java_tree.specs.declared.types.JType.TheVariants as types
use Rattle.java_model.specs.Names.Environments.{Env, declared}
use Rattle.java_model.specs.Names.Conversions.{converts}
use Rattle.java_model.specs.Names.MemberTypes.{in_order}
use Rattle.java_model.specs.Names.Methods.{methods_in, constructors_in, params, same_method, same_signature, is_abstract}

-- as many, and each converts (JLS 15.12.2.1)
abbrev pub all_convert : Env → List JType → List JType → Bool
all_convert env = pointwise (converts env)

abbrev pub is_applicable : Env → List JType → MethodId → Bool
is_applicable env args m = all_convert env args (params env m)

-- JLS 15.12.2.2
abbrev pub is_more_specific : Env → MethodId → MethodId → Bool
is_more_specific env m n = converts env (types.Class m.of) (types.Class n.of) && all_convert env (params env m) (params env n)

-- No other is more specific without the converse.
abbrev pub is_maximal : Env → List MethodId → MethodId → Bool
is_maximal env among m = list_all (λ n. not (is_more_specific env n m) || is_more_specific env m n) among

abbrev pub maximal : Env → List MethodId → List MethodId
maximal env among = filter (is_maximal env among) among

-- in order of their types, then of their places there
abbrev pub by_declaration : Env → List MethodId → List MethodId
by_declaration env = in_order same_method (flat_map (λ d. methods_in d ++ constructors_in env d) (declared env))

-- Of several with one signature the first that isn't abstract counts, else the first.
abbrev pub have_one_signature : Env → List MethodId → Bool
have_one_signature env [] = false
have_one_signature env (m ∷ ms) = list_all (same_signature env m) ms

abbrev pub first_or : Option MethodId → List MethodId → Choice
first_or (Some m) ms = choices.One m
first_or None [] = choices.NoMethod
first_or None (m ∷ ms) = choices.One m

abbrev pub one_of_signature : Env → List MethodId → Choice
one_of_signature env ms = first_or (find (λ m. not (is_abstract env m)) ms) ms

abbrev pub most_specific : Env → List MethodId → Choice
most_specific env (m ∷ []) = choices.One m
most_specific env ms = cond (have_one_signature env ms) (one_of_signature env (by_declaration env ms)) (choices.Ambiguous ms)

abbrev pub is_unknown : JType → Bool
is_unknown types.Unknown = true
is_unknown _ = false

-- which of the applicable ones is chosen
abbrev pub chosen : Env → List JType → List MethodId → Choice
chosen env args [] = choices.NoMethod
chosen env args (m ∷ []) = choices.One m
chosen env args ms = cond (list_any is_unknown args) choices.UnknownArgs (most_specific env (maximal env ms))

-- of methods or constructors that are accessible at the call
abbrev pub choose : Env → List MethodId → List JType → Choice
choose env ms args = chosen env args (filter (is_applicable env args) ms)
