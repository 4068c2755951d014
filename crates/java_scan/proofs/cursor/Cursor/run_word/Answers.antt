use Rattle.std.proofs.Common.{ap, ◌∙◌}
use Rattle.java_scan.specs.Place.{after_run}
use Rattle.java_scan.specs.declared.class.Class.TheVariants.{LetterOrDigit}
use Rattle.java_scan.specs.Classes.{passes}
use Rattle.java_scan.proofs.LetterLaws.{word_run}
use Rattle.java_scan.proofs.cursor.Cursor.run_word.Goals as goal

pub returns : goal.returns
returns c = c.run-2.ensures ∙ (ap (after_run (passes LetterOrDigit)) c.run.ensures ∙ word_run c.args.self.now)
