use Rattle.std.proofs.Common.{Bool, sym, ap, ◌∙◌}
use Rattle.java_model.specs.Lexical.Escapes.{begins_escape}
use Rattle.java_scan.proofs.UnitLaws.{marked_escape}
use Rattle.java_scan.proofs.cursor.Cursor.sees_escape_mark.Goals as goal

pub returns-then-even : goal.returns-then-even
returns-then-even c = c.sees.ensures ∙ (sym (marked_escape c.args.self.now.left) ∙ ap (λ (b : Bool). begins_escape b c.args.self.now.left) (sym c.if-even.true))
