use Rattle.std.proofs.Common.{refl}
use Rattle.java_expr_reading.proofs.InitialLaws.{keyword_between}
use Rattle.java_expr_reading.proofs.SignLaws.{first_keyword, second_keyword}
use Rattle.java_expr_reading.proofs.signs.keyword_mark.Goals as goal

pub returns-in-Some : goal.returns-in-Some
returns-in-Some c =
    let among = keyword_between _ _ c.args.name.now _ _ _ _ c.mark_in.ensures refl c.first_byte.ensures c.keywords_from-start.ensures in
    first_keyword c.args.name.now c.mark_in.result c.in-Some.mark among c.in-Some.is

pub returns-in-None : goal.returns-in-None
returns-in-None c =
    let among = keyword_between _ _ c.args.name.now _ _ _ _ c.mark_in.ensures refl c.first_byte.ensures c.keywords_from-start.ensures in
    second_keyword c.args.name.now c.mark_in.result c.mark_in-in-None.result among c.in-None.is c.mark_in-in-None.ensures
