use Rattle.std.proofs.Common.{Some, None, sym, ◌∙◌, arith, rules}
use Rattle.std.proofs.lemmas.Str.Pattern.{split_parts}
use Rattle.match_locator.proofs.Tails.{found, none_left, next_left}
use Rattle.match_locator.proofs.qualified.ends_in.Goals as goal

pub loop-rest-preserved : goal.loop-rest-preserved
loop-rest-preserved c =
    let p = split_parts 46 c.loop-rest.rest.now (Some (c.in-Some._before, c.in-Some.after)) c.in-Some.ensures.cases (omega arith) in
    record {
      text = search rules;
      left = next_left c.args.case c.args.given.now c.loop-rest.rest.now _ c.loop-rest.invariant.left c.in-Some._before.now c.in-Some.after.now (sym c.name_matches.ensures ∙ c.loop-rest-test.true) p.0 p.1;
    }

pub returns-in-None : goal.returns-in-None
returns-in-None c =
    none_left c.args.case c.args.given.now c.loop-rest.rest.now _ c.loop-rest.invariant.left (sym c.name_matches.ensures ∙ c.loop-rest-test.true)
    (split_parts 46 c.loop-rest.rest.now None c.in-None.ensures.cases (omega arith))

pub returns : goal.returns
returns c = found c.args.case c.args.given.now c.loop-rest.rest.now _ c.loop-rest.invariant.left (sym c.name_matches.ensures ∙ c.loop-rest-test.false)
