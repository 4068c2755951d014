-- The supertypes of types that no document declares, and of Object.
use Rattle.std.proofs.Common.{◌≡◌, Bool, true, false, cond, List, [], ◌∷◌, Option, Some, None, is_some, refl, sym, ap, ◌∙◌, true≢false}
use Rattle.std.specs.Option.{option_and_then, option_map_or}
use Rattle.java_tree.specs.declared.occurrence.TypeId.{TypeId}
use Rattle.java_tree.specs.declared.types.JType.{JType}
use Rattle.java_tree.specs.declared.types.JType.TheVariants as types
use Rattle.java_model.specs.Names.Environments.{Env, Declared, declared_at, object, is_java_lang, object_name, string_name, undeclared}
use Rattle.java_model.specs.Names.Supertypes.{supers_asking, supers_by, supers_of}
use Rattle.java_model.specs.Names.TypeNames.{Ask, resolve_by, header_scope}
use Rattle.java_types.specs.Entries.{has_no_document, is_declared}
use Rattle.java_types.proofs.Homes.{IsUndeclared, is_object, is_string, undocumented}

pub none_declared : (env : Env) (a : Ask) (t : TypeId) (ts : List JType) → is_declared env t ≡ false → ts ≡ [] → ts ≡ supers_asking env a t
none_declared env a t ts e none = none ∙ by (declared_at env t) e
  where
    by : (o : Option Declared) → is_some o ≡ false → [] ≡ option_map_or (supers_of env a) o []
    by None e = refl
    by (Some d) e = absurd (true≢false e)

of_object : (env : Env) (a : Ask) (d : Declared) → is_java_lang object_name d ≡ true → [] ≡ supers_of env a d
of_object env a d e = sym (ap (λ b. cond b [] (supers_by env (resolve_by env a (header_scope d)) d.type.kind d.type.extends d.type.implements)) e)

pub object_has_none : (env : Env) (a : Ask) (t : TypeId) (ts : List JType) (b : Bool) → ((d : Declared) → declared_at env t ≡ Some d → b ≡ is_java_lang object_name d) → b ≡ true
    → ts ≡ [] → ts ≡ supers_asking env a t
object_has_none env a t ts b is e none = none ∙ by (declared_at env t) refl
  where
    by : (o : Option Declared) → declared_at env t ≡ o → [] ≡ option_map_or (supers_of env a) o []
    by None at = refl
    by (Some d) at = of_object env a d (sym (is d at) ∙ e)

of_undeclared : (env : Env) (a : Ask) (d : Declared) → IsUndeclared d → is_java_lang object_name d ≡ false → types.Class (object env) ∷ [] ≡ supers_of env a d
of_undeclared env a d (is_object n s) e =
    let yes : is_java_lang object_name (undeclared n object_name) ≡ true = refl in absurd (true≢false (sym yes ∙ sym (ap (is_java_lang object_name) s) ∙ e))
of_undeclared env a d (is_string n s) e =
    let is : types.Class (object env) ∷ [] ≡ supers_of env a (undeclared n string_name) = refl in is ∙ sym (ap (supers_of env a) s)

pub string_has_object : (env : Env) (a : Ask) (t : TypeId) (ts : List JType) (b : Bool) → is_declared env t ≡ true → has_no_document env t
    → ((d : Declared) → declared_at env t ≡ Some d → b ≡ is_java_lang object_name d) → b ≡ false → ts ≡ types.Class (object env) ∷ [] → ts ≡ supers_asking env a t
string_has_object env a t ts b there none is e made = made ∙ by (declared_at env t) refl
  where
    by : (o : Option Declared) → declared_at env t ≡ o → types.Class (object env) ∷ [] ≡ option_map_or (supers_of env a) o []
    by None at = absurd (true≢false (sym there ∙ ap is_some at))
    by (Some d) at = of_undeclared env a d (undocumented env t d at (sym (ap (option_and_then (λ (x : Declared). x.doc)) at) ∙ none)) (sym (is d at) ∙ e)

pub its_supers : (env : Env) (a : Ask) (d : Declared) (b : Bool) (ts : List JType) → b ≡ is_java_lang object_name d → b ≡ false
    → ts ≡ supers_by env (resolve_by env a (header_scope d)) d.type.kind d.type.extends d.type.implements → ts ≡ supers_of env a d
its_supers env a d b ts is e so = so ∙ sym (ap (λ c. cond c [] (supers_by env (resolve_by env a (header_scope d)) d.type.kind d.type.extends d.type.implements)) (sym is ∙ e))
