use Rattle.std.proofs.Common.{◌≡◌, get_or, Some, None, sym, ap, ◌∙◌}
use Rattle.search_pattern.specs.Camel.{after_byte}
use Rattle.search_pattern.proofs.CamelNames.{sought, camel_fails, camel_begins, left_fails, left_more}
use Rattle.search_pattern.proofs.camel.is_camel.Goals as goal

pub returns-in_default-after_byte : goal.returns-in_default-after_byte
returns-in_default-after_byte c =
    sym (camel_fails c.args.pattern.now c.args.name.now c.in-Some.first.now c.in-Some.more.now c.in-Some.ensures.cases.0 (sym c.in_default-after_byte.ensures))

pub loop-byte-init : goal.loop-byte-init
loop-byte-init c =
    camel_begins c.args.pattern.now c.args.name.now c.in-Some.first.now c.in-Some.more.now c.in-Some-after_byte.left.now c.in-Some.ensures.cases.0 (sym c.in-Some-after_byte.ensures)

pub returns-in_default-after_byte-2 : goal.returns-in_default-after_byte-2
returns-in_default-after_byte-2 c =
    let p = get_or c.in-Some.more.now c.loop-byte.byte-index 0 in
    let none : after_byte p (sought p c.loop-byte.left.now) ≡ None = ap (after_byte p) (sym c.sought.ensures) ∙ sym c.in_default-after_byte-2.ensures in
    sym (left_fails c.in-Some.more.now c.loop-byte.left.now c.loop-byte.byte-index c.loop-byte-test.true none) ∙ c.loop-byte.invariant

pub loop-byte-preserved : goal.loop-byte-preserved
loop-byte-preserved c =
    let p = get_or c.in-Some.more.now c.loop-byte.byte-index 0 in
    let after = c.in-Some-after_byte-2.after.now in
    let some : after_byte p (sought p c.loop-byte.left.now) ≡ Some after = ap (after_byte p) (sym c.sought.ensures) ∙ sym c.in-Some-after_byte-2.ensures in
    left_more c.in-Some.more.now c.loop-byte.left.now c.loop-byte.byte-index after c.loop-byte-test.true some ∙ c.loop-byte.invariant
