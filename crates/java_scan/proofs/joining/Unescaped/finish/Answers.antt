use Rattle.std.proofs.Common.{◌≡◌, ◌∷◌, ◌++◌, [], List, ℕ, Option, Some, None, string_bytes, sym, subst}
use Rattle.java_scan.specs.declared.joining.Unit.{Unit as Held}
use Rattle.java_scan.specs.declared.joining.Unescaped.{Unescaped}
use Rattle.java_scan.specs.Joining.{IsJoining, IsJoined}
use Rattle.java_scan.proofs.JoiningLaws.{finished_none, finished_high}
use Rattle.java_scan.proofs.joining.Unescaped.finish.Goals as goal
use Rattle.java_scan.proofs.joining.Unescaped.finish.Goals.{in-Some+in_ok-push, in_default}

pub returns-clause-ok : goal.returns-clause-ok
returns-clause-ok c = λ units j e.
    let old = c.args.self.now in
    let joining : (waiting : Option Held) → c.args.waiting ≡ waiting → IsJoining units waiting (string_bytes old.text) old.places.items = λ waiting is. subst (λ (w : Option Held). IsJoining units w (string_bytes old.text) old.places.items) is j in
    subst (λ (ps : List ℕ). IsJoined units (string_bytes c.match-waiting.self.text) ps) (sym c.in_ok-push-2.ensures.items) (elim c.match-waiting.branch [
      | in-Some+in_ok-push w ↦
          subst (λ (s : Unescaped). IsJoined units (string_bytes s.text) (s.places.items ++ c.args.end ∷ [])) (sym w.self-is)
          (finished_high w.in-Some.high c.args.end (joining (Some w.in-Some.high) w.in-Some.is) w.in_ok-push.ensures.ok e)
      | in_default w ↦
          subst (λ (s : Unescaped). IsJoined units (string_bytes s.text) (s.places.items ++ c.args.end ∷ [])) (sym w.self-is)
          (finished_none c.args.end (joining None w.in_default.is) e)
    ])
