use Rattle.std.proofs.Common.{◌≡◌, true, false, Option, Some, sym, ◌∙◌, subst, string_bytes}
use Rattle.std.proofs.lemmas.Result.{IfOk-weaker}
use Rattle.java_model.specs.Lexical.Escapes.{is_low, is_high}
use Rattle.java_scan.specs.declared.joining.Unit.{Unit as Held}
use Rattle.java_scan.specs.Joining.{input_of, IsHigh, IsJoining}
use Rattle.java_scan.proofs.JoiningLaws.{ready_alone, joined_both}
use Rattle.java_scan.proofs.joining.Unescaped.join.Goals as goal

pub returns-then-is_low-clause-ok : goal.returns-then-is_low-clause-ok
returns-then-is_low-clause-ok c = λ units width j at.
    let some : IsJoining units (Some c.in-Some.high) (string_bytes c.args.self.now.text) c.args.self.now.places.items = subst (λ (h : Option Held). IsJoining units h (string_bytes c.args.self.now.text) c.args.self.now.places.items) c.in-Some.is j in
    let high : is_high (input_of c.in-Some.high width) ≡ true = subst IsHigh c.in-Some.is c.requires.high in
    let low : is_low (input_of c.args.unit width) ≡ true = sym c.is_low.ensures ∙ c.if-is_low.true in
    joined_both c.in-Some.high c.args.unit width c.pair_of.result some high low c.pair_of.ensures.value c.in_ok-push.ensures.ok

pub returns-clause-ok : goal.returns-clause-ok
returns-clause-ok c = IfOk-weaker c.start-2.result _ _ (λ high adds units width j at.
    let some : IsJoining units (Some c.in-Some.high) (string_bytes c.args.self.now.text) c.args.self.now.places.items = subst (λ (h : Option Held). IsJoining units h (string_bytes c.args.self.now.text) c.args.self.now.places.items) c.in-Some.is j in
    let low : is_low (input_of c.args.unit width) ≡ false = sym c.is_low.ensures ∙ c.if-is_low.false in
    adds units width (ready_alone c.in-Some.high (input_of c.args.unit width) some low c.in_ok-push-2.ensures.ok) at) c.start-2.ensures.ok
