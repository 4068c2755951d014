use Rattle.std.proofs.Common.{◌≡◌, Some, None, subst, sym, ap, ◌∙◌}
use Rattle.std.proofs.lemmas.Result.{err_from_is_err_and}
use Rattle.java_parse_stmt.specs.Knot.{inside}
use Rattle.java_unit_reading.specs.Reading.Expressions.{exprs}
use Rattle.java_unit_reading.specs.Bodies.{qualifier}
use Rattle.java_unit_reading.specs.Reading.Steps.{state, Done, Fail}
use Rattle.java_parse_stmt.proofs.Passed.{primary_done, primary_bodies_fail, no_primary_done}
use Rattle.java_parse_stmt.proofs.grammar.Grammar.qualifier.Goals as goal

pub returns-in-Err-NoExpr : goal.returns-in-Err-NoExpr
returns-in-Err-NoExpr g c =
    let self = c.args.self.now in
    let types = c.args.reader.now.types in
    subst (λ ts. qualifier exprs (inside self.depth) self.depth self.within (state types ts) ≡ Done None (state types ts)) c.place-at.ensures.tokens
    (no_primary_done (inside self.depth) c.place-at.result.0.now c.place-at.result.1 self.depth self.within types c.requires.few c.place-at.ensures.within
    (c.in-Err-NoExpr.ensures (λ e. cc)))

pub returns-in_err-types : goal.returns-in_err-types
returns-in_err-types g c =
    let p = err_from_is_err_and c.from_residual.result c.from_residual.ensures.1 in
    let self = c.args.self.now in
    let types = c.args.reader.now.types in
    let found = c.in-Ok.found in
    rw (p.1, p.2) (λ n. subst (λ ts. qualifier exprs (inside self.depth) self.depth self.within (state types ts) ≡ Fail) c.place-at.ensures.tokens
    (primary_bodies_fail (inside self.depth) c.place-at.result.0.now c.place-at.result.1 self.depth self.within types c.requires.few c.place-at.ensures.within
    found.primary found.next found.bodies _ _ c.in-Ok.ensures c.as_slice.ensures c.take_types-types.ensures.types (c.in_err-types.ensures n)))

pub returns : goal.returns
returns g c =
    let self = c.args.self.now in
    let types = c.args.reader.now.types in
    let found = c.in-Ok.found in
    subst (λ ts. qualifier exprs (inside self.depth) self.depth self.within (state types ts) ≡ Done (Some c.primary_of.result) c.at.result) c.place-at.ensures.tokens
    (primary_done (inside self.depth) c.place-at.result.0.now c.place-at.result.1 self.depth self.within types c.requires.few c.place-at.ensures.within
    found.primary c.primary_of.result found.next found.bodies _ _ c.in_ok-types.types c.in-Ok.ensures c.primary_of.ensures c.as_slice.ensures
    c.take_types-types.ensures.types c.in_ok-types.ensures
    ∙ ap (λ s. Done (Some c.primary_of.result) s) (sym c.at.ensures))
