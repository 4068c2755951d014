-- The top level types around two types.
use Rattle.std.proofs.Common.{◌≡◌, Bool, false, Option, Some, None, refl, sym, ap, ◌∙◌}
use Rattle.std.specs.Option.{option_map_or}
use Rattle.std.proofs.lemmas.Option.{none-some}
use Rattle.java_tree.specs.declared.occurrence.TypeId.{TypeId}
use Rattle.java_model.specs.Names.Accessibility.{is_within, top_level}
use Rattle.java_model.specs.Names.Environments.{Env, Declared, declared_at, same_id}
use Rattle.java_env.specs.Members.{top_kept}

abbrev Within : Option TypeId → Option Declared → Bool
Within top o = option_map_or (λ d. option_map_or (λ u. option_map_or (same_id u) (top_level d) false) top false) o false

pub within-both : (env : Env) (t u v : TypeId) (top : Option TypeId) → top ≡ Some u → Some v ≡ top_kept (declared_at env t) → same_id u v ≡ is_within env top t
within-both env t u v top e k = by (declared_at env t) k
  where
    at : (d : Declared) (o : Option TypeId) → top_level d ≡ o → Some v ≡ o → same_id u v ≡ Within top (Some d)
    at d o is s =
        ap (λ x. option_map_or (same_id u) x false) s ∙ ap (λ x. option_map_or (same_id u) x false) (sym is)
        ∙ ap (λ x. option_map_or (λ w. option_map_or (same_id w) (top_level d) false) x false) (sym e)

    by : (o : Option Declared) → Some v ≡ top_kept o → same_id u v ≡ Within top o
    by None s = absurd (none-some v (sym s))
    by (Some d) s = at d (top_level d) refl s

pub within-no-top : (env : Env) (t : TypeId) (top : Option TypeId) → top ≡ None → false ≡ is_within env top t
within-no-top env t top e = by (declared_at env t)
  where
    by : (o : Option Declared) → false ≡ Within top o
    by None = refl
    by (Some d) = ap (λ x. option_map_or (λ w. option_map_or (same_id w) (top_level d) false) x false) (sym e)

pub within-none : (env : Env) (t : TypeId) (top : Option TypeId) → None ≡ top_kept (declared_at env t) → false ≡ is_within env top t
within-none env t top k = by (declared_at env t) k
  where
    none-of : (top o : Option TypeId) → None ≡ o → false ≡ option_map_or (λ u. option_map_or (same_id u) o false) top false
    none-of None o s = refl
    none-of (Some u) o s = ap (λ x. option_map_or (same_id u) x false) s

    by : (o : Option Declared) → None ≡ top_kept o → false ≡ Within top o
    by None s = refl
    by (Some d) s = none-of top (top_level d) s
