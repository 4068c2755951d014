use Rattle.std.proofs.Common.{◌≡◌, ◌+◌, drop, chars, Some, sym, ap, ◌∙◌, subst}
use Rattle.std.specs.Str.{IsCharBoundary}
use Rattle.java_scan.specs.Place.{first, place_in, next}
use Rattle.java_scan.proofs.PlaceLaws.{cut_first, place_next}
use Rattle.java_scan.proofs.cursor.Cursor.skip.Goals as goal

pub invariant_of-self : goal.invariant_of-self
invariant_of-self c =
    let text = c.self.inside.text.now in
    let at = c.self.inside.at in
    let here : first (chars (drop at text)) ≡ Some c.args.c = ap (λ p. first p.left) c.self.view_is ∙ c.requires in
    let k = cut_first text at c.args.c c.self.invariant.0 c.self.invariant.1 here in
    (c.self.invariant.0, subst (λ n. IsCharBoundary text (at + n)) (sym c.len_utf8.ensures.value) k.boundary, c.self.invariant.2)

pub returns : goal.returns
returns c =
    let text = c.self.inside.text.now in
    let at = c.self.inside.at in
    let here : first (chars (drop at text)) ≡ Some c.args.c = ap (λ p. first p.left) c.self.view_is ∙ c.requires in
    ap (λ n. place_in text (at + n)) c.len_utf8.ensures.value ∙ (place_next text at c.args.c c.self.invariant.0 c.self.invariant.1 here ∙ ap next c.self.view_is)
