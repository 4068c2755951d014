use Rattle.std.proofs.Common.{◌≡◌, None, sym, ◌∙◌, subst}
use Rattle.std.specs.Prelude.{IfOk, MatchOption}
use Rattle.std.proofs.lemmas.Option.{none-some, same_Some}
use Rattle.java_model.specs.Scopes.Contexts.{Context}
use Rattle.java_model.specs.Occurrences.Occurrences.{spot_at, MeansKind}
use Rattle.java_scope.specs.Units.{context}
use Rattle.java_scope.proofs.places.classify_at.Goals as goal

pub kind_at-requires : goal.kind_at-requires
kind_at-requires c = sym c.in-Some.ensures.types

pub returns-in-Some : goal.returns-in-Some
returns-in-Some c = record {
  some = λ C e. subst
      (λ (D : Context). IfOk c.kind_at.result (λ t. MatchOption t (spot_at D c.args.tree.now.unit.now c.args.place.now ≡ None) (MeansKind D c.args.tree.now.unit.now c.args.place.now c.args.name.now)))
      (same_Some (context c.in-Some.unit) C (c.in-Some.ensures.value ∙ e)) c.kind_at.ensures;
  none = λ e. absurd (none-some (context c.in-Some.unit) (sym (c.in-Some.ensures.value ∙ e)));
}
