use Rattle.std.proofs.Common.{refl}
use Rattle.index_store.proofs.PlaceLaws.{held_chosen, free_chosen, none_free}
use Rattle.index_store.proofs.place.next_place.Goals as goal

pub returns-in-Some-clause-chosen : goal.returns-in-Some-clause-chosen
returns-in-Some-clause-chosen c acks is =
    let found = c.in-Some.ensures.found in
    held_chosen acks c.args.table.now c.args.name.now c.in-Some.pair c.index-table-pair.result c.place_after.result is found.0 c.index-table-pair.is found.1 found.2 c.place_after.ensures.follows

pub returns-in-Some-find_free-clause-chosen : goal.returns-in-Some-find_free-clause-chosen
returns-in-Some-find_free-clause-chosen c acks is =
    let found = c.in-Some-find_free.ensures.found in
    free_chosen acks c.args.table.now c.args.name.now is c.in_default.ensures.absent c.in-Some-find_free.pair found.0 found.1 found.2

pub returns-in-None-clause-chosen : goal.returns-in-None-clause-chosen
returns-in-None-clause-chosen c acks is = (refl, none_free acks c.args.table.now c.args.name.now is c.in_default.ensures.absent c.in-None.ensures.absent)
