use Rattle.std.proofs.Common.{◌≡◌, take, encode_utf8_all, sym, ap, ap₂, ◌∙◌, arith}
use Rattle.java_model.specs.Lexical.Words.{is_reserved}
use Rattle.java_model.proofs.Lexical.Reading.{word_kind}
use Rattle.java_scan.specs.Place.{Place, advance}
use Rattle.java_scan.specs.Steps.{word_step, word_length}
use Rattle.java_scan.specs.Steps.Step.{taken}
use Rattle.java_scan.proofs.PlaceLaws.{word_end, advance-text, advance-at}
use Rattle.java_scan.proofs.WordLaws.{reserved_encodes}
use Rattle.java_scan.proofs.cursor.Cursor.word.Goals as goal

pub text_since-requires-clause-text : goal.text_since-requires-clause-text
text_since-requires-clause-text c =
    let p = c.args.self.now in
    let end : c.run_word.new.self ≡ advance (word_length p.left) p = word_end p c.skip.new.self c.run_word.new.self c.skip.ensures c.run_word.ensures in
    ap (λ (q : Place). q.text) c.copy-start.ensures ∙ (sym (advance-text (word_length p.left) p) ∙ ap (λ (q : Place). q.text) (sym end))

pub text_since-requires-clause-before : goal.text_since-requires-clause-before
text_since-requires-clause-before c =
    let p = c.args.self.now in
    let end : c.run_word.new.self ≡ advance (word_length p.left) p = word_end p c.skip.new.self c.run_word.new.self c.skip.ensures c.run_word.ensures in
    omega (arith, ap (λ (q : Place). q.at) c.copy-start.ensures, ap (λ (q : Place). q.at) end, advance-at (word_length p.left) p)

pub returns : goal.returns
unfolding word_step
returns c =
    let p = c.args.self.now in
    let n = word_length p.left in
    let end : c.run_word.new.self ≡ advance n p = word_end p c.skip.new.self c.run_word.new.self c.skip.ensures c.run_word.ensures in
    let bytes : c.text_since.result.now ≡ encode_utf8_all (take n p.left) = c.text_since.ensures n (end ∙ ap (advance n) (sym c.copy-start.ensures)) ∙ ap (λ (q : Place). encode_utf8_all (take n q.left)) c.copy-start.ensures in
    let kind = c.word_kind.ensures ∙ ap word_kind (ap (is_reserved c.args.level) bytes ∙ reserved_encodes c.args.level (take n p.left)) in
    ap₂ taken kind end
