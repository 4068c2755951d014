use Rattle.std.proofs.Common.{◌∷◌, [], ◌∙◌, sym}
use Rattle.search_main.specs.Inner.Located.{AreMatchesOf, AreMatchesAmong}
use Rattle.search_main.specs.Inner.Views.{document_read}
use Rattle.search_main.proofs.Scanning.{if_ok, one_in_scope, one_outside}
use Rattle.search_main.proofs.locating.matches_in_scope.Goals as goal

pub returns-then-not-is_in_scope : goal.returns-then-not-is_in_scope
returns-then-not-is_in_scope c =
    one_outside c.args.env.now c.args.scope.now c.args.pattern.now (document_read c.args.one.now) _ (sym c.is_in_scope.ensures ∙ c.if-not-is_in_scope.true) c.new.ensures.items

pub returns : goal.returns
returns c =
    if_ok (λ ms. AreMatchesOf c.args.env.now c.args.pattern.now (document_read c.args.one.now) ms.items) (λ ms. AreMatchesAmong c.args.env.now c.args.scope.now c.args.pattern.now (document_read c.args.one.now ∷ []) ms.items)
    (λ ms are. one_in_scope c.args.env.now c.args.scope.now c.args.pattern.now (document_read c.args.one.now) ms.items (sym c.is_in_scope.ensures ∙ c.if-not-is_in_scope.false) are)
    c.matches_in.result c.matches_in.ensures
