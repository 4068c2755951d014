-- The step at a place is the next element there, or the fault.
use Rattle.std.specs.Prelude.{map}
use Rattle.java_model.specs.Lexical.Escapes.{raw}
use Rattle.java_model.specs.Lexical.Elements.{Element}
use Rattle.java_model.specs.Lexical.Elements.Element.{white_space, traditional_comment, end_of_line_comment, token}
use Rattle.java_model.proofs.Lexical.Reading.{Found}
use Rattle.java_model.proofs.Lexical.Reading.Found.{found, nothing}
use Rattle.java_model.proofs.Lexical.Faulting.{fault_of}
use Rattle.java_scan.specs.Place.{Place, advance}
use Rattle.java_scan.specs.Steps.{Step}
use Rattle.java_scan.specs.Steps.Step.{passed, taken, failed}

abbrev pub gives : Element → Place → Step
gives white_space p = passed p
gives traditional_comment p = passed p
gives end_of_line_comment p = passed p
gives (token kind) p = taken kind p

-- what is found at a place, as a step from there
abbrev pub step_of : Place → Found → Step
step_of p (found element n) = gives element (advance n p)
step_of p nothing = failed (fault_of p.at (map raw p.left))
