-- What an asker for member types is told holds of the member types that types have.
use Rattle.std.proofs.Common.{◌≡◌, Bool, true, false, refl, ap, ◌∙◌}
use Rattle.java_model.specs.Names.Environments.{Env, type_id}
use Rattle.java_model.specs.Names.Lists.{Identifiers}
use Rattle.java_model.specs.Names.MemberTypes.{member_types}
use Rattle.java_model.specs.Names.TypeNames.{Ask}
use Rattle.java_model.specs.Scopes.TypeNames.{kinds_in_import}
use Rattle.java_resolve.specs.Kinds.{kinds_in_import_by}
use Rattle.java_resolve.specs.Occasions.{Occasion}

pub asked : {X : Type 0} (env seen asker : Env) (f : Env → Ask → X) (x : X) → seen ≡ env → ((o : Occasion) → env ≡ o.env → asker ≡ o.env)
    → ((a : Ask) → a ≡ member_types asker → x ≡ f seen a) → x ≡ f env (member_types env)
asked env seen asker f x same keeps value =
    value (member_types asker) refl ∙ ap (λ e. f e (member_types asker)) same ∙ ap (λ e. f env (member_types e)) (keeps (record { env = env; of = type_id 0 }) refl)

pub import-kinds : (env : Env) (star : Bool) (name : Identifiers) → kinds_in_import_by env (member_types env) star name ≡ kinds_in_import env star name
import-kinds env true name = refl
import-kinds env false name = refl
