use Rattle.std.proofs.Common.{◌≡◌, subst, sym, ap, ◌∙◌}
use Rattle.std.proofs.lemmas.Result.{err_from_is_err_and}
use Rattle.java_parse_stmt.specs.Knot.{inside}
use Rattle.java_unit_reading.specs.Reading.Expressions.{exprs}
use Rattle.java_unit_reading.specs.Reading.Nested as spec
use Rattle.java_unit_reading.specs.Reading.Steps.{state, Done, Fail}
use Rattle.java_parse_stmt.proofs.Passed.{array_done, array_bodies_fail, array_fails}
use Rattle.java_parse_stmt.proofs.grammar.Grammar.array.Goals as goal

pub returns-in_err-found : goal.returns-in_err-found
returns-in_err-found g c =
    let p = err_from_is_err_and c.from_residual.result c.from_residual.ensures.1 in
    let self = c.args.self.now in
    let types = c.args.reader.now.types in
    rw (p.1, p.2) (λ n. subst (λ ts. spec.array exprs (inside self.depth) self.depth self.within (state types ts) ≡ Fail) c.place-at.ensures.tokens
    (array_fails (inside self.depth) c.place-at.result.0.now c.place-at.result.1 self.depth self.within types c.requires.few c.place-at.ensures.within
    c.in_err-found.field-0.0 c.in_err-found.ensures n))

pub returns-in_err-types : goal.returns-in_err-types
returns-in_err-types g c =
    let p = err_from_is_err_and c.from_residual-in_err-types.result c.from_residual-in_err-types.ensures.1 in
    let self = c.args.self.now in
    let types = c.args.reader.now.types in
    let found = c.in_ok-found.found in
    rw (p.1, p.2) (λ n. subst (λ ts. spec.array exprs (inside self.depth) self.depth self.within (state types ts) ≡ Fail) c.place-at.ensures.tokens
    (array_bodies_fail (inside self.depth) c.place-at.result.0.now c.place-at.result.1 self.depth self.within types c.requires.few c.place-at.ensures.within
    found.array found.next found.bodies _ _ c.in_ok-found.ensures c.as_slice.ensures c.take_types-types.ensures.types (c.in_err-types.ensures n)))

pub returns : goal.returns
returns g c =
    let self = c.args.self.now in
    let types = c.args.reader.now.types in
    let found = c.in_ok-found.found in
    subst (λ ts. spec.array exprs (inside self.depth) self.depth self.within (state types ts) ≡ Done c.array_of.result c.at.result) c.place-at.ensures.tokens
    (array_done (inside self.depth) c.place-at.result.0.now c.place-at.result.1 self.depth self.within types c.requires.few c.place-at.ensures.within
    found.array c.array_of.result found.next found.bodies _ _ c.in_ok-types.types c.in_ok-found.ensures c.array_of.ensures c.as_slice.ensures
    c.take_types-types.ensures.types c.in_ok-types.ensures
    ∙ ap (λ s. Done c.array_of.result s) (sym c.at.ensures))
