use Rattle.std.proofs.Common.{refl}
use Rattle.java_model.specs.Occurrences.Declarations.{constructor_place}
use Rattle.java_scope.specs.Units.{context}
use Rattle.java_bind.proofs.Outlined.{listed_in, unlisted_in}
use Rattle.java_bind.proofs.declared.place_of_constructor.Goals as goal

pub returns-in_ok-place-in-Some : goal.returns-in_ok-place-in-Some
returns-in_ok-place-in-Some c =
    listed_in (constructor_place c.args.i.now c.args.parameters) (context c.args.unit.now) c.args.number _ _ _ _ _ _
    c.types.ensures c.in_ok-id.ensures c.in-Some.ensures c.of.ensures c.in_ok-place-in-Some.ensures c.as_place.ensures

pub returns-in-None : goal.returns-in-None
returns-in-None c = unlisted_in (constructor_place c.args.i.now c.args.parameters) (context c.args.unit.now) c.args.number _ _ c.types.ensures c.in_ok-id.ensures refl refl c.in-None.ensures
