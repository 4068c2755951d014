-- What the function that reads units finds.
use Rattle.std.proofs.Common.{◌≡◌, List, Some, ap, subst}
use Rattle.java_model.specs.Grammar.Signs.{Sign}
use Rattle.java_model.specs.Grammar.Units.{IsUnitOf}
use Rattle.java_unit_reading.specs.Reading.Expressions.{exprs}
use Rattle.java_unit_reading.specs.Reading.Steps.{Outcome, Done, Fail}
use Rattle.java_unit_reading.specs.Reading.Units.{unit_of}
use Rattle.java_unit_reading.specs.ReadingLaws.{tree_in, read_unit, AtMostOneUnit, ReadsEachUnit, ReadsNoOtherUnit}
use Rattle.java_unit_reading.proofs.Sounding.{IfDone, done}
use Rattle.java_unit_reading.proofs.UnitLaws.{sound_unit, unit_gives, units_are_one}
use Rattle.java_unit_reading.proofs.Expressions.Instance.{exprs_hold}

pub at_most_one_unit : (tokens : List Sign) → AtMostOneUnit tokens
at_most_one_unit tokens = units_are_one exprs exprs_hold tokens

pub reads_each_unit : ReadsEachUnit
unfolding read_unit
reads_each_unit tokens u h = let given = unit_gives exprs exprs_hold tokens u h in ap tree_in given.is

some_tree : {A : Type 0} (Q : A → Type 0) (x : A) (o : Outcome A) → IfDone (λ y s. Q y) o → tree_in o ≡ Some x → Q x
some_tree Q x (Done y s) (done h) e = let same : y ≡ x = cc in subst Q same h
some_tree Q x Fail h e = absurd cc

pub reads_no_other_unit : ReadsNoOtherUnit
unfolding read_unit
reads_no_other_unit tokens u e = some_tree (IsUnitOf tokens) u (unit_of exprs tokens) (sound_unit exprs exprs_hold tokens) e
