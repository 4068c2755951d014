use Rattle.java_model.proofs.PlaceLaws.{typed-unique, named-unique}
use Rattle.java_model.proofs.place_laws.types_are_unique.Goals as goal

pub returns-clause-typed : goal.returns-clause-typed
returns-clause-typed c = typed-unique

pub returns-clause-named : goal.returns-clause-named
returns-clause-named c = named-unique
