use Rattle.std.proofs.Common.{◌≡◌, List, map, None, sym, subst, arith}
use Rattle.std.proofs.lemmas.Result.{err_from_is_err_and}
use Rattle.java_tree.specs.declared.token.Token.{Token}
use Rattle.java_model.specs.Lexical.Escapes.{raw}
use Rattle.java_model.specs.Lexical.Tokens.{AreElements}
use Rattle.java_model.specs.Lexical.Tokens.AreElements.{none}
use Rattle.java_scan.specs.Place.{first}
use Rattle.java_scan.proofs.ElementLaws.{elements_more, passes_shorter, scans_failed, all_scanned}
use Rattle.java_scan.proofs.WhiteLaws.{white_passed, white_shorter}
use Rattle.java_scan.proofs.elements.tokens.Goals as goal

pub loop-c-init : goal.loop-c-init
loop-c-init c =
    let p = c.args.cursor.now in
    subst (λ (ts : List Token). AreElements c.args.level p.at (map raw p.left) ts p.at (map raw p.left)) (sym c.in_ok-tokens.ensures.items) none

pub loop-c-smaller : goal.loop-c-smaller
loop-c-smaller c =
    let q = c.peek_past_white.new.self in
    omega (arith, white_shorter c.loop-c.cursor q c.peek_past_white.ensures.after, passes_shorter c.args.level q c.push_element.new.cursor c.loop-c.tokens.items c.push_element.new.tokens.items c.in_ok-push_element.ensures)

pub loop-c-preserved : goal.loop-c-preserved
loop-c-preserved c =
    let q = c.peek_past_white.new.self in
    let walk = white_passed c.args.level c.args.cursor.now c.loop-c.cursor q c.loop-c.tokens.items c.peek_past_white.ensures.after c.loop-c.invariant in
    elements_more c.args.level c.args.cursor.now q c.push_element.new.cursor c.loop-c.tokens.items c.push_element.new.tokens.items walk c.in_ok-push_element.ensures

pub returns-in_err-push_element : goal.returns-in_err-push_element
returns-in_err-push_element c =
    let q = c.peek_past_white.new.self in
    let walk = white_passed c.args.level c.args.cursor.now c.loop-c.cursor q c.loop-c.tokens.items c.peek_past_white.ensures.after c.loop-c.invariant in
    let p = err_from_is_err_and c.from_residual-in_err-push_element.result c.from_residual-in_err-push_element.ensures.1 in
    rw (p.1, p.2) (scans_failed c.args.level c.args.cursor.now q c.push_element.new.cursor c.push_element.new.cursor c.in-Some.c c.loop-c.tokens.items c.push_element.new.tokens.items c.in_err-push_element.field-0.0 (sym c.in-Some.ensures.value) walk c.in_err-push_element.ensures)

pub returns : goal.returns
returns c =
    let q = c.peek_past_white.new.self in
    let walk = white_passed c.args.level c.args.cursor.now c.loop-c.cursor q c.loop-c.tokens.items c.peek_past_white.ensures.after c.loop-c.invariant in
    let over : None ≡ first q.left = cc in
    all_scanned c.args.level c.args.cursor.now q c.loop-c.tokens.items (sym over) walk
