use Rattle.std.proofs.Common.{◌≡◌, None, sym, ◌∙◌, subst}
use Rattle.std.specs.Prelude.{IfOk, MatchOption}
use Rattle.std.proofs.lemmas.Option.{none-some, same_Some}
use Rattle.java_model.specs.Scopes.Contexts.{Context}
use Rattle.java_model.specs.Occurrences.Occurrences.{spot_at, MeansType}
use Rattle.java_scope.specs.Units.{context}
use Rattle.java_scope.proofs.places.resolve_type.Goals as goal

pub type_at-requires : goal.type_at-requires
type_at-requires c = sym c.in-Some.ensures.types

pub returns-in-Some : goal.returns-in-Some
returns-in-Some c = record {
  some = λ C e. subst
      (λ (D : Context). IfOk c.type_at.result (λ t. MatchOption t (spot_at D c.args.tree.now.unit.now c.args.place.now ≡ None) (MeansType D c.args.tree.now.unit.now c.args.place.now c.args.name.now)))
      (same_Some (context c.in-Some.unit) C (c.in-Some.ensures.value ∙ e)) c.type_at.ensures;
  none = λ e. absurd (none-some (context c.in-Some.unit) (sym (c.in-Some.ensures.value ∙ e)));
}
