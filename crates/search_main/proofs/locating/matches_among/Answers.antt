use Rattle.std.proofs.Common.{◌++◌, ◌∷◌, [], sym, subst, take}
use Rattle.search_main.specs.Inner.Located.{AreMatchesAmong, IsOpenedIn, nowhere}
use Rattle.search_main.specs.Inner.Views.{document_read, documents_read}
use Rattle.search_main.proofs.Scanning.{documents_more, joined}
use Rattle.search_main.proofs.Documents.{each_here}
use Rattle.search_main.proofs.locating.matches_among.Goals as goal

pub loop-one-init : goal.loop-one-init
loop-one-init c = subst (λ ms. AreMatchesAmong c.args.env.now c.args.scope.now c.args.pattern.now [] ms) (sym c.new-matches.ensures.items) nowhere

pub matches_in_scope-requires-clause-opened : goal.matches_in_scope-requires-clause-opened
matches_in_scope-requires-clause-opened c =
    each_here (IsOpenedIn c.args.env.now) c.args.opened.now c.loop-one.one-index c.one-item.result c.requires.opened c.loop-one-test.true c.one-item.is

pub loop-one-preserved : goal.loop-one-preserved
loop-one-preserved c =
    let found = joined c.args.env.now c.args.scope.now c.args.pattern.now (documents_read (take c.loop-one.one-index c.args.opened.now)) (document_read c.one-item.result ∷ [])
    c.loop-one.matches.items _ c.loop-one.invariant c.in_ok-matches_in_scope.ensures in
    subst (λ ds. AreMatchesAmong c.args.env.now c.args.scope.now c.args.pattern.now ds c.append.new.all.items) (sym (documents_more c.args.opened.now c.loop-one.one-index c.one-item.result c.loop-one-test.true c.one-item.is))
    (subst (λ ms. AreMatchesAmong c.args.env.now c.args.scope.now c.args.pattern.now (documents_read (take c.loop-one.one-index c.args.opened.now) ++ document_read c.one-item.result ∷ []) ms) (sym c.in_ok-append.ensures) found)
