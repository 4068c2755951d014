-- Types that no document declares: they have no members, and are their own top level types.
use Rattle.std.proofs.Common.{◌≡◌, true, false, List, [], Option, Some, None, is_some, refl, sym, ap, ◌∙◌, subst, true≢false}
use Rattle.std.specs.Option.{option_and_then, option_map_or}
use Rattle.java_tree.specs.declared.occurrence.TypeId.{TypeId}
use Rattle.java_tree.specs.declared.types.FieldInfo.{FieldInfo}
use Rattle.java_tree.specs.declared.types.MethodInfo.{MethodInfo}
use Rattle.java_model.specs.Names.Environments.{Env, Declared, declared_at, id_of}
use Rattle.java_model.specs.Names.Methods.{is_bare_interface}
use Rattle.java_types.specs.Entries.{has_no_document, is_declared}
use Rattle.java_types.proofs.Homes.{IsUndeclared, is_object, is_string, undocumented}
use Rattle.java_types.proofs.Numbers.{own_id}
use Rattle.java_env.specs.declared.members.Members.{Members}
use Rattle.java_env.specs.Inheriting.{is_bare}
use Rattle.java_env.specs.Members.{bodies_kept, fields_kept, members_at, members_of, methods_kept, top_kept}

-- what no document declares is one of these
pub data NoDocument (env : Env) (t : TypeId) : Type 0 where
  none : declared_at env t ≡ None → NoDocument env t
  one : (d : Declared) → declared_at env t ≡ Some d → IsUndeclared d → NoDocument env t

pub no-document : (env : Env) (t : TypeId) → has_no_document env t → NoDocument env t
no-document env t h = by (declared_at env t) refl
  where
    by : (o : Option Declared) → declared_at env t ≡ o → NoDocument env t
    by None e = none e
    by (Some d) e = one d e (undocumented env t d e (sym (ap (option_and_then (λ (x : Declared). x.doc)) e) ∙ h))

-- ---- it has no members

members-none : (env : Env) (d : Declared) → IsUndeclared d → (fields_kept env (Some d) ≡ []) × (bodies_kept env (Some d) ≡ []) × (methods_kept (Some d) ≡ 0) × (top_kept (Some d) ≡ Some (id_of d))
members-none env d (is_object n e) = subst (λ x. (fields_kept env (Some x) ≡ []) × (bodies_kept env (Some x) ≡ []) × (methods_kept (Some x) ≡ 0) × (top_kept (Some x) ≡ Some (id_of x))) (sym e) (refl, refl, refl, refl)
members-none env d (is_string n e) = subst (λ x. (fields_kept env (Some x) ≡ []) × (bodies_kept env (Some x) ≡ []) × (methods_kept (Some x) ≡ 0) × (top_kept (Some x) ≡ Some (id_of x))) (sym e) (refl, refl, refl, refl)

abbrev pub made : List FieldInfo → List MethodInfo → Option TypeId → Members
made fields bodies top = record { fields = fields; bodies = bodies; methods = 0; top = top }

pub no-members : (env : Env) (t : TypeId) (top : Option TypeId) → has_no_document env t → top ≡ top_kept (declared_at env t)
    → record { fields = []; bodies = []; methods = 0; top = top } ≡ members_of env t
no-members env t top h e = by (no-document env t h)
  where
    at : (o : Option Declared) → declared_at env t ≡ o → fields_kept env o ≡ [] → bodies_kept env o ≡ [] → methods_kept o ≡ 0 → record { fields = []; bodies = []; methods = 0; top = top } ≡ members_of env t
    at o is f b m =
        ap (λ fs. record { fields = fs; bodies = []; methods = 0; top = top }) (sym f)
        ∙ ap (λ bs. record { fields = fields_kept env o; bodies = bs; methods = 0; top = top }) (sym b)
        ∙ ap (λ k. record { fields = fields_kept env o; bodies = bodies_kept env o; methods = k; top = top }) (sym m)
        ∙ ap (λ k. record { fields = fields_kept env o; bodies = bodies_kept env o; methods = methods_kept o; top = k }) (e ∙ ap top_kept is)
        ∙ ap (members_at env) (sym is)

    by : NoDocument env t → record { fields = []; bodies = []; methods = 0; top = top } ≡ members_of env t
    by (none is) = at None is refl refl refl
    by (one d is u) = let r = members-none env d u in at (Some d) is r.0 r.1 r.2

pub own-top : (env : Env) (t : TypeId) → has_no_document env t → is_declared env t ≡ true → Some t ≡ top_kept (declared_at env t)
own-top env t h known = by (no-document env t h)
  where
    by : NoDocument env t → Some t ≡ top_kept (declared_at env t)
    by (none is) = absurd (true≢false (sym known ∙ ap is_some is))
    by (one d is u) = ap Some (sym (own_id env t d is)) ∙ sym (members-none env d u).3 ∙ ap top_kept (sym is)

pub no-top-at : (env : Env) (t : TypeId) → is_declared env t ≡ false → None ≡ top_kept (declared_at env t)
no-top-at env t h = by (declared_at env t) refl
  where
    by : (o : Option Declared) → declared_at env t ≡ o → None ≡ top_kept o
    by None e = refl
    by (Some d) e = absurd (true≢false (sym (ap is_some e) ∙ h))

-- ---- it is no interface

bare-none : (d : Declared) → IsUndeclared d → is_bare_interface d ≡ false
bare-none d (is_object n e) = subst (λ x. is_bare_interface x ≡ false) (sym e) refl
bare-none d (is_string n e) = subst (λ x. is_bare_interface x ≡ false) (sym e) refl

pub not-bare : (env : Env) (t : TypeId) → has_no_document env t → is_bare env t ≡ false
not-bare env t h = by (no-document env t h)
  where
    by : NoDocument env t → is_bare env t ≡ false
    by (none is) = ap (λ o. option_map_or is_bare_interface o false) is
    by (one d is u) = ap (λ o. option_map_or is_bare_interface o false) is ∙ bare-none d u
