use Rattle.std.proofs.Common.{cond, [], ◌∷◌, ◌++◌, sym, subst}
use Rattle.std.specs.List.{flat_map}
use Rattle.java_model.specs.Names.Environments.{object}
use Rattle.java_model.specs.Names.Supertypes.{known_supers}
use Rattle.java_model.specs.Names.TypeNames.{class_of}
use Rattle.java_env.specs.Walks.{Adds, has}
use Rattle.java_env.proofs.Walking.{adds-more}
use Rattle.java_env.proofs.inherited.add_supers.Goals as goal

pub returns-in_ok-add_one : goal.returns-in_ok-add_one
returns-in_ok-add_one c =
    subst (λ b. Adds (has c.args.seen.now) c.args.new.now (known_supers c.args.env.now c.args.t ++ cond b (object c.args.env.now ∷ []) []) (has c.add_one.new.seen) c.add_one.new.new) (sym c.if-of_object.true)
    (adds-more (has c.args.seen.now) (has c.add_classes.new.seen) (has c.add_one.new.seen) c.args.new.now c.add_classes.new.new c.add_one.new.new (known_supers c.args.env.now c.args.t) (object c.args.env.now ∷ [])
    (subst (λ ts. Adds (has c.args.seen.now) c.args.new.now (flat_map class_of ts) (has c.add_classes.new.seen) c.add_classes.new.new) c.supers.ensures c.in_ok-add_classes.ensures)
    (subst (λ o. Adds (has c.add_classes.new.seen) c.add_classes.new.new (o ∷ []) (has c.add_one.new.seen) c.add_one.new.new) c.object.ensures c.in_ok-add_one.ensures))
