use Rattle.std.proofs.Common.{◌≡◌, true, List, sym, subst}
use Rattle.java_tree.specs.declared.occurrence.Occurrence.{Occurrence}
use Rattle.match_locator.specs.Searches.{have_bindings_by_kind}
use Rattle.java_model.specs.Matches.Scans.{matches_of}
use Rattle.search_main.specs.Inner.Located.{AreMatchesIn}
use Rattle.search_main.proofs.Scanning.{if_ok, have_kinds, types_of}
use Rattle.search_main.proofs.locating.matches_in_unit.Goals as goal

pub locate-requires-clause-kinds : goal.locate-requires-clause-kinds
locate-requires-clause-kinds c =
    let C = c.requires.stands.context in
    let same = types_of c.args.env.now c.args.path.now c.args.unit.now C c.requires.stands.is in
    let are = c.in_ok-found.ensures C c.requires.stands.is in
    subst (λ (os : List Occurrence). have_bindings_by_kind os ≡ true) (sym c.as_slice.ensures) (have_kinds c.in_ok-found.found (c.bindings_are_of_their_kind.ensures C c.args.unit.now c.in_ok-found.found same are))

pub returns : goal.returns
returns c =
    if_ok (λ ms. ms.items ≡ matches_of c.types.result.now c.args.pattern.now c.args.path.now c.as_slice.result.now) (λ ms. AreMatchesIn c.args.env.now c.args.pattern.now c.args.path.now c.args.unit.now ms.items)
    (λ ms is. record {
      stands = c.requires.stands;
      found = c.in_ok-found.found;
      are = c.in_ok-found.ensures c.requires.stands.context c.requires.stands.is;
      matches = rw (c.types.ensures, c.as_slice.ensures) at is;
    }) c.locate.result c.locate.ensures
