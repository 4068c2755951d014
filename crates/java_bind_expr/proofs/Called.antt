-- The methods that calls by a name are bound to.
use Rattle.std.proofs.Common.{◌≡◌, List, [], ◌∷◌, Option, Some, None, Result, IfOk, refl, ap, ◌∙◌, subst}
use Rattle.std.specs.Option.{option_map}
use Rattle.java_tree.specs.declared.bound.Bound.{Bound}
use Rattle.java_tree.specs.declared.occurrence.MethodId.{MethodId}
use Rattle.java_tree.specs.declared.occurrence.TypeId.{TypeId}
use Rattle.java_tree.specs.declared.types.NameKind.{NameKind}
use Rattle.java_model.specs.Names.Lists.{Identifier, Identifiers}
use Rattle.java_model.specs.Names.Methods.{methods}
use Rattle.java_model.specs.Scopes.Contexts.{Context}
use Rattle.java_model.specs.Scopes.NameKinds.{ambiguous_kinds}
use Rattle.java_model.specs.Bindings.Calls.{call_in, chosen_at}
use Rattle.java_model.specs.Bindings.Chains.{Types, but_last, last_name, named_call, type_before}
use Rattle.java_bind_expr.specs.Around.{type_after}

pub called_around : {E : Type 0} (C : Context) (s : List Bound) (name : Identifier) (arguments : Types) (o : Option TypeId) (ms : List MethodId) (r : Result (Option MethodId) E)
    → Some ms ≡ option_map (λ u. methods C.env u name) o → IfOk r (λ m. m ≡ chosen_at C s ms arguments) → IfOk r (λ m. m ≡ call_in C s name arguments o)
called_around C s name arguments None ms r e h = absurd cc
called_around C s name arguments (Some t) ms r e h =
    let f : ms ≡ methods C.env t name = cc in subst (λ xs. IfOk r (λ m. m ≡ chosen_at C s xs arguments)) f h

pub called_nowhere : (C : Context) (s : List Bound) (name : Identifier) (arguments : Types) (o : Option TypeId)
    → None ≡ option_map (λ u. methods C.env u name) o → None ≡ call_in C s name arguments o
called_nowhere C s name arguments None e = refl
called_nowhere C s name arguments (Some t) e = absurd cc

pub type_after-before : (C : Context) (s : List Bound) (before : Identifiers) (name : Identifier) → type_after C s (ambiguous_kinds C s before) name ≡ type_before C s before name
type_after-before C s [] name = refl
type_after-before C s (x ∷ xs) name = refl

pub named_after : (C : Context) (s : List Bound) (names : Identifiers) (arguments : Types) (ks : List NameKind) (name : Identifier)
    → ks ≡ ambiguous_kinds C s (but_last names) → name ≡ last_name names
    → call_in C s name arguments (type_after C s ks name) ≡ named_call C s names arguments
named_after C s names arguments ks name e f =
    ap (λ ns. call_in C s name arguments (type_after C s ns name)) e
    ∙ ap (λ n. call_in C s n arguments (type_after C s (ambiguous_kinds C s (but_last names)) n)) f
    ∙ ap (call_in C s (last_name names) arguments) (type_after-before C s (but_last names) (last_name names))
