use Rattle.std.proofs.Common.{◌≡◌, List, ℕ, take, encode_utf8_all, sym, ap, ◌∙◌}
use Rattle.std.specs.List.{slice_range}
use Rattle.java_scan.specs.Place.{advance, place_in}
use Rattle.java_scan.proofs.PlaceLaws.{range_between}
use Rattle.java_scan.proofs.cursor.Cursor.text_since.Goals as goal

pub returns : goal.returns
returns c = λ n e.
    let text = c.start.inside.text.now in
    let at = c.start.inside.at in
    let same : c.self.inside.text.now ≡ text = ap (λ p. p.text) c.self.view_is ∙ (sym c.requires.text ∙ sym (ap (λ p. p.text) c.start.view_is)) in
    let end : c.self.inside.at ≡ (advance n (place_in text at)).at = ap (λ p. p.at) c.self.view_is ∙ (ap (λ p. p.at) e ∙ ap (λ p. (advance n p).at) (sym c.start.view_is)) in
    c.range.ensures.value ∙ (ap (λ (bytes : List ℕ). slice_range bytes at c.self.inside.at) same ∙ (range_between text at n c.start.invariant.0 c.start.invariant.1 c.self.inside.at end ∙ ap (λ p. encode_utf8_all (take n p.left)) c.start.view_is))
