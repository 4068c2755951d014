use Rattle.std.proofs.Common.{rules, of_calls}
use Rattle.std.proofs.lemmas.Fn.{always_returns_same}
use Rattle.java_types.specs.Documents.{path_cmp}
use Rattle.java_types.proofs.Paths.{found_place, no_place}
use Rattle.java_types.proofs.finding.place_of.Goals as goal

pub returns-in-Ok : goal.returns-in-Ok
returns-in-Ok c =
    found_place c.args.documents.now c.args.path.now c.in-Ok.place c.binary_search_by.result c.in-Ok.is c.in-Ok.ensures.bound
    (c.binary_search_by.ensures.position (λ d. path_cmp d.path c.args.path.now) (always_returns_same _ _ _ (λ a r f k. search (rules, of_calls))))

pub returns-in-Err : goal.returns-in-Err
returns-in-Err c =
    no_place c.args.documents.now c.args.path.now c.in-Err.field-0 c.binary_search_by.result c.in-Err.is c.requires
    (c.binary_search_by.ensures.position (λ d. path_cmp d.path c.args.path.now) (always_returns_same _ _ _ (λ a r f k. search (rules, of_calls))))
