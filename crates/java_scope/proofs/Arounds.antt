-- What the bounds around a place give.
use Rattle.std.proofs.Common.{◌≡◌, false, List, [], Option, None, refl, true≢false}
use Rattle.std.specs.Option.{option_to_list}
use Rattle.java_tree.specs.declared.bound.Bound.{Bound}
use Rattle.java_tree.specs.declared.bound.Bound.TheVariants as bounds
use Rattle.java_tree.specs.declared.occurrence.TypeId.{TypeId}
use Rattle.java_model.specs.Bindings.Calls.{reaching_type, reaching_types}
use Rattle.java_model.specs.Scopes.Contexts.{body_of, innermost}
use Rattle.java_scope.specs.Around.{bodies}
use Rattle.java_scope.specs.Linked.{is_around, is_body}
use Rattle.java_scope.proofs.Gathering.{Gathers, lists, options}

pub all_innermost : {A : Type 0} (f : Bound → Option A) → Gathers (options A) f (innermost f)
all_innermost f = record { nil = refl; step = λ b bs. refl }

pub all_reaching : Gathers (lists TypeId) reaching_type reaching_types
all_reaching = record { nil = refl; step = λ b bs. refl }

abbrev pub body_list : Bound → List TypeId
body_list b = option_to_list (body_of b)

pub all_bodies : Gathers (lists TypeId) body_list bodies
all_bodies = record { nil = refl; step = λ b bs. refl }

pub no_reaching : (b : Bound) → is_around b ≡ false → reaching_type b ≡ []
no_reaching (bounds.Variable n t) e = refl
no_reaching (bounds.Class t) e = absurd (true≢false e)
no_reaching (bounds.Members t) e = absurd (true≢false e)
no_reaching (bounds.Arguments t) e = absurd (true≢false e)

pub no_body : (b : Bound) → is_body b ≡ false → body_of b ≡ None
no_body (bounds.Variable n t) e = refl
no_body (bounds.Class t) e = refl
no_body (bounds.Members t) e = absurd (true≢false e)
no_body (bounds.Arguments t) e = refl

pub no_body_list : (b : Bound) → is_body b ≡ false → body_list b ≡ []
no_body_list (bounds.Variable n t) e = refl
no_body_list (bounds.Class t) e = refl
no_body_list (bounds.Members t) e = absurd (true≢false e)
no_body_list (bounds.Arguments t) e = refl
