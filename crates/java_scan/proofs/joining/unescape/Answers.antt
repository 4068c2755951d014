use Rattle.std.proofs.Common.{◌≡◌, ℕ, not, string_bytes, sym, ap, ◌∙◌, ne_eqb}
use Rattle.java_model.specs.Lexical.Characters.{backslash}
use Rattle.java_scan.specs.declared.joining.Unit.{Unit as Held}
use Rattle.java_scan.proofs.UnderwayLaws.{underway_start, underway_more, underway_run, run_shorter}
use Rattle.java_scan.proofs.joining.unescape.Goals as goal

pub loop-c-init : goal.loop-c-init
loop-c-init c =
    underway_start c.args.text.now (string_bytes c.in_ok-with_capacity.field-0) c.in_ok-with_capacity-2.field-0.items c.start-cursor.result c.start-cursor.ensures c.in_ok-with_capacity.ensures.bytes c.in_ok-with_capacity-2.ensures.items

pub loop-c-preserved : goal.loop-c-preserved
loop-c-preserved c =
    let code = c.in-Some-unit.read.code in
    let unit : Held = record { code = code; at = c.offset-at.result } in
    let same : unit ≡ record { code = code; at = c.loop-c.cursor.at } = ap (λ (n : ℕ). let u : Held = record { code = code; at = n } in u) c.offset-at.ensures in
    underway_more unit c.loop-c.invariant c.in-Some-unit.ensures same c.in_ok-waiting.ensures.ok c.in_ok-waiting.ensures.high

pub loop-c-smaller-then-is_none : goal.loop-c-smaller-then-is_none
loop-c-smaller-then-is_none c = run_shorter c.loop-c.cursor c.push_run.new.cursor c.in-Some.c (sym c.in-Some.ensures) (ne_eqb c.in-Some.c backslash c.if-c-ne92.true) c.in_ok-push_run.ensures.ok.passes.after

pub loop-c-preserved-then-is_none : goal.loop-c-preserved-then-is_none
loop-c-preserved-then-is_none c = underway_run c.loop-c.waiting c.in-Some.c c.loop-c.invariant (c.is_none.ensures ∙ ap not c.if-is_none.true) (sym c.in-Some.ensures) (ne_eqb c.in-Some.c backslash c.if-c-ne92.true) c.in_ok-push_run.ensures.ok
