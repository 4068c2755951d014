use Rattle.std.proofs.Common.{◌≡◌, ℕ, [], ◌∷◌, ◌++◌, map, take, Option, Some, Ok, refl, sym, ap, ◌∙◌, subst, arith}
use Rattle.std.proofs.lemmas.Result.{err_from_is_err_and}
use Rattle.java_tree.specs.declared.outline.Level.{Level}
use Rattle.java_tree.specs.declared.token.Token.{Token}
use Rattle.java_tree.specs.declared.token.TokenKind.{TokenKind}
use Rattle.java_model.specs.Lexical.Escapes.{raw}
use Rattle.java_model.specs.Lexical.Elements.Element.{token}
use Rattle.java_model.specs.Lexical.Tokens.{token_at}
use Rattle.java_model.proofs.Lexical.Reading.{next_of}
use Rattle.java_model.proofs.Lexical.Reading.Found.{found}
use Rattle.java_scan.specs.Place.{Place, advance}
use Rattle.java_scan.specs.Steps.{Gives}
use Rattle.java_scan.specs.Next.{step_of}
use Rattle.java_scan.proofs.PlaceLaws.{advance-text, advance-at}
use Rattle.java_scan.proofs.ElementLaws.{adds_failed, passed_passes, taken_passes}
use Rattle.java_scan.proofs.elements.push_element.Goals as goal

pub returns-in_err-kind : goal.returns-in_err-kind
returns-in_err-kind c =
    let p = err_from_is_err_and c.from_residual.result c.from_residual.ensures.1 in
    rw (p.1, p.2) (adds_failed c.args.level c.args.cursor.now c.args.tokens.now.items c.args.tokens.now.items c.in_err-kind.field-0.0 c.element.new.self c.element.new.self c.in_err-kind.ensures)

-- what is known where a token was passed
taken_here : (p new : Place) (level : Level) (option : Option TokenKind) (kind : TokenKind) → option ≡ Some kind → Gives (Ok option) new (step_of p (next_of level p.left)) → (n : ℕ) × (next_of level p.left ≡ found (token kind) n) × (new ≡ advance n p)
taken_here p new level option kind e g = taken_passes level p new kind (next_of level p.left) (subst (λ (o : Option TokenKind). Gives (Ok o) new (step_of p (next_of level p.left))) e g)

pub returns-in_default : goal.returns-in_default
returns-in_default c =
    let p = c.args.cursor.now in
    let g : Gives (Ok c.in_ok-kind.field-0) c.element.new.self (step_of p (next_of c.args.level p.left)) = c.in_ok-kind.ensures in
    passed_passes c.args.level p c.element.new.self c.args.tokens.now.items (next_of c.args.level p.left) refl (subst (λ (o : Option TokenKind). Gives (Ok o) c.element.new.self (step_of p (next_of c.args.level p.left))) c.in_default.is g)

pub token_since-requires-clause-text : goal.token_since-requires-clause-text
token_since-requires-clause-text c =
    let p = c.args.cursor.now in
    let t = taken_here p c.element.new.self c.args.level c.in_ok-kind.field-0 c.in-Some.kind c.in-Some.is c.in_ok-kind.ensures in
    ap (λ (q : Place). q.text) c.copy-start.ensures ∙ (sym (advance-text t.0 p) ∙ ap (λ (q : Place). q.text) (sym t.2))

pub token_since-requires-clause-before : goal.token_since-requires-clause-before
token_since-requires-clause-before c =
    let p = c.args.cursor.now in
    let t = taken_here p c.element.new.self c.args.level c.in_ok-kind.field-0 c.in-Some.kind c.in-Some.is c.in_ok-kind.ensures in
    omega (arith, ap (λ (q : Place). q.at) c.copy-start.ensures, ap (λ (q : Place). q.at) t.2, advance-at t.0 p)

pub returns : goal.returns
returns c =
    let p = c.args.cursor.now in
    let t = taken_here p c.element.new.self c.args.level c.in_ok-kind.field-0 c.in-Some.kind c.in-Some.is c.in_ok-kind.ensures in
    let made : c.in_ok-token.token ≡ token_at c.in-Some.kind c.copy-start.result.at (map raw (take t.0 c.copy-start.result.left)) = c.in_ok-token.ensures.ok t.0 (t.2 ∙ ap (advance t.0) (sym c.copy-start.ensures)) in
    let token_here : c.in_ok-token.token ≡ token_at c.in-Some.kind p.at (map raw (take t.0 p.left)) = made ∙ ap (λ (q : Place). token_at c.in-Some.kind q.at (map raw (take t.0 q.left))) c.copy-start.ensures in
    let items : c.push.new.self.items ≡ c.args.tokens.now.items ++ c.in_ok-token.token ∷ [] = c.in_ok-push.ensures.items in
    record {
      element = token c.in-Some.kind;
      count = t.0;
      here = t.1;
      end = t.2;
      kept = items ∙ ap (λ (x : Token). c.args.tokens.now.items ++ x ∷ []) token_here;
    }
