use Rattle.std.proofs.Common.{◌≡◌, ℕ, ◌+◌, List, map, take, encode_utf8_all, sym, ap, ◌∙◌}
use Rattle.java_tree.specs.declared.token.TokenKind.{TokenKind}
use Rattle.java_tree.specs.declared.token.Token.{Token}
use Rattle.java_model.specs.Lexical.Escapes.{raw, width_of}
use Rattle.java_scan.specs.Place.{Place}
use Rattle.java_scan.proofs.PlaceLaws.{advance-at}
use Rattle.java_scan.proofs.QuotedSteps.{raw_characters}
use Rattle.java_scan.proofs.elements.token_since.Goals as goal

token_of : (kind : TokenKind) {n m : List ℕ} {s t : ℕ} {u v : ℕ} → n ≡ m → s ≡ t → u ≡ v → (let a : Token = record { kind = kind; name = n; span = record { start = s; end = u } } in a) ≡ record { kind = kind; name = m; span = record { start = t; end = v } }
token_of kind p q r = cc

pub returns-clause-ok : goal.returns-clause-ok
returns-clause-ok c = λ n e.
    let p = c.args.start.now in
    let cs = take n p.left in
    let name : c.in_ok-name.name ≡ encode_utf8_all cs = c.in_ok-name.ensures ∙ c.text_since.ensures n e in
    let same : c.in_ok-name.name ≡ encode_utf8_all (Rattle.java_model.specs.Lexical.Escapes.characters_of (map raw cs)) = name ∙ ap encode_utf8_all (sym (raw_characters cs)) in
    let end : c.offset-2.result ≡ p.at + width_of (map raw cs) = c.offset-2.ensures ∙ (ap (λ (q : Place). q.at) e ∙ advance-at n p) in
    token_of c.args.kind same c.offset.ensures end
