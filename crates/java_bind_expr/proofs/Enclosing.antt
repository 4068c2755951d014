-- The types around a place that have a method are those whose members are in scope.
use Rattle.std.proofs.Common.{◌≡◌, List, [], ◌∷◌, ◌++◌, Option, Some, None, refl, sym, ap, ◌∙◌}
use Rattle.std.specs.Option.{option_or, option_to_list}
use Rattle.java_tree.specs.declared.bound.Bound.{Bound}
use Rattle.java_tree.specs.declared.bound.Bound.TheVariants as bounds
use Rattle.java_tree.specs.declared.occurrence.TypeId.{TypeId}
use Rattle.java_model.specs.Names.Lists.{Identifier}
use Rattle.java_model.specs.Names.Environments.{Env}
use Rattle.java_model.specs.Names.Methods.{methods}
use Rattle.java_model.specs.Bindings.Calls.{has_method, if_any}
use Rattle.java_model.specs.Scopes.Contexts.{body_of, innermost}
use Rattle.java_scope.specs.Around.{bodies}
use Rattle.java_bind_expr.specs.Around.{first_with_method}

or-none : {A : Type 0} → (o : Option A) → option_or o None ≡ o
or-none None = refl
or-none (Some x) = refl

or-or : {A : Type 0} → (o p q : Option A) → option_or (option_or o p) q ≡ option_or o (option_or p q)
or-or None p q = refl
or-or (Some x) p q = refl

first-append : (env : Env) (name : Identifier) (ts us : List TypeId) → first_with_method env name (ts ++ us) ≡ option_or (first_with_method env name ts) (first_with_method env name us)
first-append env name [] us = refl
first-append env name (t ∷ ts) us =
    ap (option_or (if_any t (methods env t name))) (first-append env name ts us)
    ∙ sym (or-or (if_any t (methods env t name)) (first_with_method env name ts) (first_with_method env name us))

one-bound : (env : Env) (name : Identifier) (b : Bound) → first_with_method env name (option_to_list (body_of b)) ≡ has_method env name b
one-bound env name (bounds.Variable n t) = refl
one-bound env name (bounds.Class t) = refl
one-bound env name (bounds.Members t) = or-none (if_any t (methods env t name))
one-bound env name (bounds.Arguments t) = refl

pub innermost-has_method : (env : Env) (name : Identifier) (s : List Bound) → first_with_method env name (bodies s) ≡ innermost (has_method env name) s
innermost-has_method env name [] = refl
innermost-has_method env name (b ∷ bs) =
    first-append env name (bodies bs) (option_to_list (body_of b))
    ∙ ap (λ o. option_or o (first_with_method env name (option_to_list (body_of b)))) (innermost-has_method env name bs)
    ∙ ap (option_or (innermost (has_method env name) bs)) (one-bound env name b)
