use Rattle.std.proofs.Common.{◌≡◌, ◌++◌, ℕ, List, take, encode_utf8_all, string_bytes, sym, ap, ◌∙◌, arith}
use Rattle.std.specs.Str.{all_scalars}
use Rattle.std.proofs.lemmas.Str.{chars_from_encodes, scalars-chars}
use Rattle.java_model.proofs.Lexical.Reading.{run}
use Rattle.java_scan.specs.Place.{Place, advance, no_backslash}
use Rattle.java_scan.specs.Joining.{run_of}
use Rattle.java_scan.proofs.PlaceLaws.{advance-text, advance-at}
use Rattle.java_scan.proofs.joining.Unescaped.push_run.Goals as goal

pub text_since-requires-clause-text : goal.text_since-requires-clause-text
text_since-requires-clause-text c =
    let p = c.args.cursor.now in
    ap (λ (q : Place). q.text) c.copy-start.ensures ∙ sym (ap (λ (q : Place). q.text) c.in_ok-run_places.ensures.ok.after ∙ advance-text (run no_backslash p.left) p)

pub text_since-requires-clause-before : goal.text_since-requires-clause-before
text_since-requires-clause-before c =
    let p = c.args.cursor.now in
    omega (arith, ap (λ (q : Place). q.at) c.copy-start.ensures, ap (λ (q : Place). q.at) c.in_ok-run_places.ensures.ok.after, advance-at (run no_backslash p.left) p)

pub returns-clause-ok : goal.returns-clause-ok
returns-clause-ok c =
    let p = c.args.cursor.now in
    let n = run no_backslash p.left in
    let passes = c.in_ok-run_places.ensures.ok in
    let since : c.text_since.result.now ≡ encode_utf8_all (take n c.copy-start.result.left) = c.text_since.ensures n (passes.after ∙ ap (advance n) (sym c.copy-start.ensures)) in
    let text : c.text_since.result.now ≡ encode_utf8_all (run_of p) = since ∙ ap (λ (q : Place). encode_utf8_all (take n q.left)) c.copy-start.ensures in
    let characters = chars_from_encodes (run_of p) c.text_since.result.now c.text_since.utf8 (sym text) in
    record {
      passes = passes;
      spelled = c.in_ok-push_str.ensures.bytes ∙ ap (λ (bs : List ℕ). string_bytes c.args.self.now.text ++ bs) text;
      scalars = ap all_scalars characters ∙ scalars-chars c.text_since.result.now c.text_since.utf8;
    }
