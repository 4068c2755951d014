-- The bounds that bring types into scope.
use Rattle.std.proofs.Common.{◌≡◌, ◌+◌, false, List, [], ◌∷◌, ◌++◌, map, refl, ap, ◌∙◌, append-nil, subst, Result, true≢false}
use Rattle.std.specs.Prelude.{IfOk}
use Rattle.java_tree.specs.declared.bound.Bound.{Bound}
use Rattle.java_tree.specs.declared.bound.Bound.TheVariants as bounds
use Rattle.java_tree.specs.declared.names.ElementType.{ElementType}
use Rattle.java_tree.specs.declared.names.ElementType.TheVariants as elements
use Rattle.java_tree.specs.declared.names.TypeUse.{TypeUse}
use Rattle.java_tree.specs.declared.stmt.Variable.{Variable}
use Rattle.java_tree.specs.declared.types.JType.{JType}
use Rattle.java_tree.specs.declared.types.NameKind.{NameKind}
use Rattle.java_model.specs.Names.Lists.{Identifiers}
use Rattle.java_model.specs.Names.TypeNames.{TypeBound}
use Rattle.java_model.specs.Names.MemberTypes.{member_types, resolve}
use Rattle.java_model.specs.Outlines.{spelled_name}
use Rattle.java_model.specs.Names.Types.{with_dims}
use Rattle.java_model.specs.Scopes.Contexts.{Context, element_at, resolve_at, type_bound, type_bounds}
use Rattle.java_model.specs.Scopes.TypeNames.{kinds_by, type_name_kinds}
use Rattle.java_model.specs.Scopes.Scoping.{local_variable}
use Rattle.java_scope.specs.Linked.{is_around}
use Rattle.java_scope.proofs.Gathering.{Gathers, lists, joined}

pub all_types : Gathers (lists TypeBound) type_bound type_bounds
all_types = record { nil = refl; step = λ b bs. refl }

pub no_types : (b : Bound) → is_around b ≡ false → type_bound b ≡ []
no_types (bounds.Variable n t) e = refl
no_types (bounds.Class t) e = absurd (true≢false e)
no_types (bounds.Members t) e = absurd (true≢false e)
no_types (bounds.Arguments t) e = absurd (true≢false e)

-- Variables bring no type into scope.
variables_only : (C : Context) (s : List Bound) (of : TypeUse) (vs : List Variable) → type_bounds (map (local_variable C s of) vs) ≡ []
variables_only C s of [] = refl
variables_only C s of (v ∷ vs) = append-nil (type_bounds (map (local_variable C s of) vs)) ∙ variables_only C s of vs

with_variables : (C : Context) (s : List Bound) (of : TypeUse) (vs : List Variable) → type_bounds (s ++ map (local_variable C s of) vs) ≡ type_bounds s
with_variables C s of vs =
    joined (lists TypeBound) type_bound type_bounds all_types s (map (local_variable C s of) vs)
    ∙ ap (λ bs. bs ++ type_bounds s) (variables_only C s of vs)

same_element : (C : Context) (s t : List Bound) (e : ElementType) → type_bounds s ≡ type_bounds t → element_at C s e ≡ element_at C t e
same_element C s t (elements.Primitive p) same = refl
same_element C s t (elements.Named n) same = ap (λ bs. resolve C.env (record { outline = C.outline; bounds = bs }) (spelled_name n)) same

-- A variable of the same declaration means the same with those before it in scope.
pub same_variable : (C : Context) (s : List Bound) (of : TypeUse) (vs : List Variable) (v : Variable)
    → local_variable C (s ++ map (local_variable C s of) vs) of v ≡ local_variable C s of v
same_variable C s of vs v =
    ap (λ e. bounds.Variable v.name.name (with_dims e (of.dims + v.dims))) (same_element C (s ++ map (local_variable C s of) vs) s of.element (with_variables C s of vs))

-- What a type name means by the bounds that bring types into scope.
pub resolved : {E : Type 0} (C : Context) (s : List Bound) (bs : List TypeBound) (name : Identifiers) (r : Result JType E) → bs ≡ type_bounds s
    → IfOk r (λ t. t ≡ resolve C.env (record { outline = C.outline; bounds = bs }) name) → IfOk r (λ t. t ≡ resolve_at C s name)
resolved C s bs name r same h = subst (λ xs. IfOk r (λ t. t ≡ resolve C.env (record { outline = C.outline; bounds = xs }) name)) same h

pub resolved_kinds : {E : Type 0} (C : Context) (s : List Bound) (bs : List TypeBound) (name : Identifiers) (r : Result (List NameKind) E) → bs ≡ type_bounds s
    → IfOk r (λ ks. ks ≡ kinds_by C.env (member_types C.env) (resolve C.env (record { outline = C.outline; bounds = bs })) name)
    → IfOk r (λ ks. ks ≡ type_name_kinds C s name)
resolved_kinds C s bs name r same h =
    subst (λ xs. IfOk r (λ ks. ks ≡ kinds_by C.env (member_types C.env) (resolve C.env (record { outline = C.outline; bounds = xs })) name)) same h
