use Rattle.std.proofs.Common.{◌≡◌, ◌∷◌, ◌+◌, map, drop, Some, None, ap, ◌∙◌, sym, arith}
use Rattle.std.proofs.lemmas.List.{drop_more, drop_all}
use Rattle.std.proofs.lemmas.Result.{err_from_is_err_and}
use Rattle.java_unit_reading.specs.Bodies.{body_from}
use Rattle.java_parse_stmt.specs.Knot.{inside}
use Rattle.java_unit_reading.specs.Reading.Nested as spec
use Rattle.java_unit_reading.specs.Reading.Expressions.{exprs}
use Rattle.java_parse_stmt.proofs.BodyLaws.{first_body, no_first_body, no_body}
use Rattle.java_parse_stmt.proofs.grammar.Grammar.read_bodies.Goals as goal

pub returns-in_err-found : goal.returns-in_err-found
returns-in_err-found g c =
    let p = err_from_is_err_and c.from_residual.result c.from_residual.ensures.1 in
    let self = c.args.self.now in
    let i = c.loop-body.body-index in
    rw (p.1, p.2) (λ n. c.loop-body.invariant
    ∙ ap (λ bs. spec.bodies exprs (inside self.depth) self.depth self.within (map (body_from c.args.marked.now) bs) c.loop-body.found) (drop_more c.args.bodies.now i _ (omega (arith, c.loop-body-test.true)))
    ∙ no_first_body exprs (inside self.depth) self.depth self.within _ _ c.loop-body.found (c.in_err-found.ensures n))

pub loop-body-preserved : goal.loop-body-preserved
loop-body-preserved g c =
    let self = c.args.self.now in
    let i = c.loop-body.body-index in
    c.loop-body.invariant
    ∙ ap (λ bs. spec.bodies exprs (inside self.depth) self.depth self.within (map (body_from c.args.marked.now) bs) c.loop-body.found) (drop_more c.args.bodies.now i _ (omega (arith, c.loop-body-test.true)))
    ∙ first_body exprs (inside self.depth) self.depth self.within _ _ c.loop-body.found c.in_ok-found.found c.in_ok-found.ensures

pub returns : goal.returns
returns g c =
    let self = c.args.self.now in
    c.loop-body.invariant
    ∙ ap (λ bs. spec.bodies exprs (inside self.depth) self.depth self.within (map (body_from c.args.marked.now) bs) c.loop-body.found) (drop_all c.loop-body.body-index c.args.bodies.now (omega (arith, c.loop-body-test.false)))
    ∙ no_body exprs (inside self.depth) self.depth self.within c.loop-body.found
