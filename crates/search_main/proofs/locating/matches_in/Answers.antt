use Rattle.std.proofs.Common.{subst}
use Rattle.java_document.specs.Readings.{IsUnitIfAny}
use Rattle.search_main.specs.Inner.Located.{AreMatchesIn, AreMatchesOf}
use Rattle.search_main.specs.Inner.Views.{document_read}
use Rattle.search_main.proofs.Scanning.{if_ok, none_found, unit_found, unit_stands}
use Rattle.search_main.proofs.locating.matches_in.Goals as goal

pub matches_in_unit-requires-clause-stands : goal.matches_in_unit-requires-clause-stands
matches_in_unit-requires-clause-stands c =
    let unit = subst (IsUnitIfAny c.args.one.now.document.level c.args.one.now.document.text) c.in-Some.is c.in_ok-unit.ensures.unit in
    unit_stands c.args.env.now c.args.one.now c.in_ok-path-in-Some.path c.in-Some.unit c.requires.opened c.in_ok-path-in-Some.ensures unit

pub returns-in-Some : goal.returns-in-Some
returns-in-Some c =
    let unit = subst (IsUnitIfAny c.args.one.now.document.level c.args.one.now.document.text) c.in-Some.is c.in_ok-unit.ensures.unit in
    if_ok (λ ms. AreMatchesIn c.args.env.now c.args.pattern.now c.in_ok-path-in-Some.path c.in-Some.unit ms.items)
    (λ ms. AreMatchesOf c.args.env.now c.args.pattern.now (document_read c.args.one.now) ms.items)
    (λ ms are. unit_found c.args.env.now c.args.pattern.now c.args.one.now c.in_ok-path-in-Some.path c.in-Some.unit ms.items c.requires.opened
    c.in_ok-path-in-Some.ensures unit are)
    c.matches_in_unit.result c.matches_in_unit.ensures

pub returns : goal.returns
returns c =
    let unread = subst (IsUnitIfAny c.args.one.now.document.level c.args.one.now.document.text) c.in-None.is c.in_ok-unit.ensures.unit in
    none_found c.args.env.now c.args.pattern.now c.args.one.now _ c.requires.opened unread c.new.ensures.items
