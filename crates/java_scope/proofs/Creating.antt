-- What the name in a creation means, whose anonymous class is declared or not.
use Rattle.std.proofs.Common.{◌≡◌, true, false, Option, Some, None, Result, refl, sym, ap, ◌∙◌, subst, true≢false}
use Rattle.std.specs.Prelude.{IfOk, List, is_some}
use Rattle.std.specs.Option.{option_and_then}
use Rattle.std.proofs.lemmas.Option.{same_Some}
use Rattle.java_tree.specs.declared.bound.Bound.{Bound}
use Rattle.java_tree.specs.declared.occurrence.TypeId.{TypeId}
use Rattle.java_tree.specs.declared.types.JType.{JType}
use Rattle.java_tree.specs.declared.types.JType.TheVariants as types
use Rattle.java_tree.specs.declared.types.NameKind.{NameKind}
use Rattle.java_model.specs.Names.Lists.{Identifiers}
use Rattle.java_model.specs.Names.Environments.{Env, Declared, declared_at}
use Rattle.java_model.specs.Names.Supertypes.{resolve_in_header}
use Rattle.java_model.specs.Scopes.Contexts.{Context}
use Rattle.java_model.specs.Scopes.TypeNames.{created_kinds, created_type, header_kinds}
use Rattle.java_model.specs.Occurrences.Occurrences.{header_type}
use Rattle.java_types.specs.Entries.{is_declared}
use Rattle.java_types.proofs.Numbers.{own_id}
use Rattle.java_scope.specs.Held.{IsHeld}

known : (env : Env) (t : TypeId) → is_declared env t ≡ true → (d : Declared) × (declared_at env t ≡ Some d)
known env t h = by (declared_at env t) refl h
  where
    by : (o : Option Declared) → declared_at env t ≡ o → is_declared env t ≡ true → (d : Declared) × (declared_at env t ≡ Some d)
    by None e g = absurd (true≢false (sym g ∙ ap is_some e))
    by (Some d) e g = (d, e)

pub none_held : (env : Env) (t : TypeId) → is_declared env t ≡ false → declared_at env t ≡ None
none_held env t h = by (declared_at env t) refl
  where
    by : (o : Option Declared) → declared_at env t ≡ o → declared_at env t ≡ None
    by None e = e
    by (Some d) e = absurd (true≢false (sym (ap is_some e) ∙ h))

module _ (C : Context) (s : List Bound) (a : Option TypeId) (t : TypeId) (name : Identifiers) (held : IsHeld C.env a t) where
  d : (d : Declared) × (declared_at C.env t ≡ Some d)
  d = known C.env t held.1

  its : option_and_then (declared_at C.env) a ≡ Some d.0
  its = ap (option_and_then (declared_at C.env)) held.0 ∙ d.1

  pub held_type : {E : Type 0} (r : Result JType E) → ((x : Declared) → declared_at C.env t ≡ Some x → IfOk r (λ of. of ≡ resolve_in_header C.env x t name))
      → IfOk r (λ of. of ≡ created_type C s (option_and_then (declared_at C.env) a) name)
  held_type r h =
      subst (λ o. IfOk r (λ of. of ≡ created_type C s o name)) (sym its)
      (subst (λ i. IfOk r (λ of. of ≡ resolve_in_header C.env d.0 i name)) (sym (own_id C.env t d.0 d.1)) (h d.0 d.1))

  pub held_kinds : {E : Type 0} (r : Result (List NameKind) E) → ((x : Declared) → declared_at C.env t ≡ Some x → IfOk r (λ ks. ks ≡ header_kinds C.env x t name))
      → IfOk r (λ ks. ks ≡ created_kinds C s (option_and_then (declared_at C.env) a) name)
  held_kinds r h =
      subst (λ o. IfOk r (λ ks. ks ≡ created_kinds C s o name)) (sym its)
      (subst (λ i. IfOk r (λ ks. ks ≡ header_kinds C.env d.0 i name)) (sym (own_id C.env t d.0 d.1)) (h d.0 d.1))

-- ---- in the header of a type

pub held_header : {E : Type 0} (env : Env) (n id t : TypeId) (name : Identifiers) (r : Result JType E) → id ≡ n → IsHeld env (Some id) t
    → ((x : Declared) → declared_at env t ≡ Some x → IfOk r (λ of. of ≡ resolve_in_header env x t name)) → IfOk r (λ of. of ≡ header_type env n (declared_at env n) name)
held_header env n id t name r is held h =
    let got = known env t held.1 in
    let same : t ≡ n = sym (same_Some id t held.0) ∙ is in
    subst (λ i. IfOk r (λ of. of ≡ header_type env i (declared_at env i) name)) same
    (subst (λ o. IfOk r (λ of. of ≡ header_type env t o name)) (sym got.1) (h got.0 got.1))

pub no_header : (env : Env) (n id : TypeId) (name words : Identifiers) → id ≡ n → option_and_then (declared_at env) (Some id) ≡ None → words ≡ name
    → types.Absent words ≡ header_type env n (declared_at env n) name
no_header env n id name words is none copied = ap types.Absent copied ∙ sym (ap (λ o. header_type env n o name) (ap (declared_at env) (sym is) ∙ none))
