-- What is declared in a type, by the outline of its document.
use Rattle.std.proofs.Common.{◌≡◌, ℕ, Option, Some, None, option_map, refl, ap, sym, ◌∙◌}
use Rattle.std.specs.Option.{option_and_then}
use Rattle.java_tree.specs.declared.occurrence.TypeId.{TypeId}
use Rattle.java_tree.specs.declared.outline.OutlineType.{OutlineType}
use Rattle.java_model.specs.Names.Environments.{Env, Declared, declared_at, object_name, string_name, empty_class}
use Rattle.java_model.specs.Scopes.Contexts.{Context, numbered_id}
use Rattle.java_model.specs.Occurrences.Declarations.{outlined}
use Rattle.java_types.specs.Entries.{has_no_document}
use Rattle.java_types.proofs.Homes.{IsUndeclared, is_object, is_string, undocumented}

abbrev its_type : Declared → OutlineType
its_type d = d.type

module _ (f : OutlineType → Option ℕ) where
  pub listed : (env : Env) (id : TypeId) (d : Declared) (p : Option ℕ) → declared_at env id ≡ Some d → p ≡ f d.type
      → p ≡ option_and_then f (option_map (λ (t : Declared). t.type) (declared_at env id))
  listed env id d p at e = e ∙ sym (ap (λ o. option_and_then f (option_map (λ (t : Declared). t.type) o)) at)

  of_undeclared : f (empty_class object_name) ≡ None → f (empty_class string_name) ≡ None → (d : Declared) → IsUndeclared d → None ≡ f d.type
  of_undeclared o s d (is_object n e) = sym (ap (λ (t : Declared). f t.type) e ∙ o)
  of_undeclared o s d (is_string n e) = sym (ap (λ (t : Declared). f t.type) e ∙ s)

  pub unlisted : (env : Env) (id : TypeId) → f (empty_class object_name) ≡ None → f (empty_class string_name) ≡ None → has_no_document env id
      → None ≡ option_and_then f (option_map (λ (t : Declared). t.type) (declared_at env id))
  unlisted env id o s none = by (declared_at env id) refl
    where
      by : (found : Option Declared) → declared_at env id ≡ found → None ≡ option_and_then f (option_map (λ (t : Declared). t.type) found)
      by None at = refl
      by (Some d) at = of_undeclared o s d (undocumented env id d at (sym (ap (option_and_then (λ (t : Declared). t.doc)) at) ∙ none))

  -- by what the code asked on the way
  pub listed_in : (C : Context) (number : ℕ) (env : Env) (id : TypeId) (d : Declared) (o : OutlineType) (q p : Option ℕ) → env ≡ C.env → id ≡ numbered_id C number
      → declared_at env id ≡ Some d → o ≡ d.type → q ≡ f o → p ≡ q → p ≡ option_and_then f (outlined C number)
  listed_in C number env id d o q p same is at of e g =
      listed C.env (numbered_id C number) d p
      (sym (ap (λ x. declared_at x id) same ∙ ap (declared_at C.env) is) ∙ at) (g ∙ e ∙ ap f of)

  pub unlisted_in : (C : Context) (number : ℕ) (env : Env) (id : TypeId) → env ≡ C.env → id ≡ numbered_id C number
      → f (empty_class object_name) ≡ None → f (empty_class string_name) ≡ None → has_no_document env id → None ≡ option_and_then f (outlined C number)
  unlisted_in C number env id same is o s none =
      unlisted C.env (numbered_id C number) o s
      (sym (ap (λ x. option_and_then (λ (t : Declared). t.doc) (declared_at x id)) same ∙ ap (λ j. option_and_then (λ (t : Declared). t.doc) (declared_at C.env j)) is) ∙ none)
