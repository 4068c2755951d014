use Rattle.std.proofs.Common.{◌≡◌, ◌∷◌, ◌≢◌, true, false, drop, refl, sym, ap, ◌∙◌, arith}
use Rattle.std.specs.Prelude.{slice_index_or}
use Rattle.std.proofs.lemmas.Bool.{eq-eqb, ne_eqb}
use Rattle.java_model.specs.Names.Environments.{same_id, type_id}
use Rattle.java_model.specs.Names.Lists.{is_among}
use Rattle.java_supers.specs.Reaching.{next_in}
use Rattle.java_supers.proofs.Ranks.{at_most}
use Rattle.java_supers.proofs.Walks.{at-end, first-of, found-beside, found-first, goes-on, one-lower}
use Rattle.java_supers.proofs.walking.leads_to.Goals as goal

pub loop-step-init : goal.loop-step-init
loop-step-init c = record {
  same = refl;
  low = λ have. let m = at_most c.args.nexts.now have.ranks have.are c.args.s in omega (arith, m);
}

pub returns-then-is_among : goal.returns-then-is_among
returns-then-is_among c =
    sym (found-beside c.args.nexts.now c.requires.ranked c.args.beside.now c.requires.beside c.loop-step.of c.args.t
    (ap (is_among same_id c.args.t) (sym c.next_in.ensures) ∙ sym c.is_among.ensures ∙ c.if-is_among.true))
    ∙ c.loop-step.invariant.same

pub returns-then-first-t : goal.returns-then-first-t
returns-then-first-t c =
    let us = c.next_in-in-loop-step.result.now in
    let p = slice_index_or us 0 (type_id 0) in
    let e : next_in c.args.nexts.now c.loop-step.of ≡ p ∷ drop 1 us = sym c.next_in-in-loop-step.ensures ∙ first-of us (type_id 0) c.in-len1-up.len_at_least in
    sym (found-first c.args.nexts.now c.requires.ranked c.args.beside.now c.requires.beside c.loop-step.of c.args.t p (drop 1 us) e (eq-eqb c.args.t.0 p.0 (sym c.if-first-t.true)))
    ∙ c.loop-step.invariant.same

pub loop-step-preserved : goal.loop-step-preserved
loop-step-preserved c =
    let us = c.next_in-in-loop-step.result.now in
    let p = slice_index_or us 0 (type_id 0) in
    let e : next_in c.args.nexts.now c.loop-step.of ≡ p ∷ drop 1 us = sym c.next_in-in-loop-step.ensures ∙ first-of us (type_id 0) c.in-len1-up.len_at_least in
    record {
      same =
          goes-on c.args.nexts.now c.requires.ranked c.args.beside.now c.requires.beside c.loop-step.of c.args.t p (drop 1 us) e
          (ap (is_among same_id c.args.t) (sym c.next_in.ensures) ∙ sym c.is_among.ensures ∙ c.if-is_among.false)
          (ne_eqb c.args.t.0 p.0 (λ same. c.if-first-t.false (sym same)))
          ∙ c.loop-step.invariant.same;
      low = λ have.
          let l = one-lower c.args.nexts.now have c.args.beside.now c.requires.beside c.loop-step.of c.args.t p (drop 1 us) e in
          let m = c.loop-step.invariant.low have in
          omega (arith, l, m);
    }

pub returns : goal.returns
returns c =
    let low = c.loop-step.invariant.low c.requires.ranked in
    sym (at-end c.args.nexts.now c.requires.ranked c.loop-step.of c.args.t (omega (arith, low, c.loop-step-test.false)))
    ∙ c.loop-step.invariant.same
