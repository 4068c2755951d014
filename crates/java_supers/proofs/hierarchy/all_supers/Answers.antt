use Rattle.std.proofs.Common.{◌<◌, cond, [], ◌∷◌, length, arith, refl, ap, ◌∙◌}
use Rattle.std.proofs.lemmas.Option.{slice_get_read}
use Rattle.java_tree.specs.declared.types.JType.TheVariants as types
use Rattle.java_model.specs.Names.Environments.{type_id}
use Rattle.java_model.specs.Names.Supertypes.{count, header_supers, supers}
use Rattle.java_supers.proofs.Tables.{has-more, its-own, its-supers}
use Rattle.java_supers.proofs.hierarchy.all_supers.Goals as goal

pub loop-number-preserved : goal.loop-number-preserved
loop-number-preserved c =
    let n = c.loop-number.number in
    let within : n < length c.args.headers.now = omega (arith, c.loop-number-test.true) in
    let below : n < count c.args.env.now = omega (arith, within, c.requires.headers.many_are) in
    let at = c.as_slice-header.ensures ∙ its-own (header_supers c.args.env.now) c.args.env.now c.args.headers.now (type_id n) c.index-headers-number.result c.requires.headers
    (slice_get_read c.args.headers.now (length c.args.headers.now) n c.index-headers-number.result refl within c.index-headers-number.is) below in
    record {
      within = omega (arith, within);
      first = has-more (supers c.args.env.now) n c.loop-number.supers c.push.new.self c.in_ok-own.own c.loop-number.invariant.first
          (its-supers c.args.env.now c.args.headers.now c.args.nexts.now (type_id n) c.in_ok-own.own c.as_slice-header.result.now c.requires.headers c.requires.nexts
          (c.in_ok-own.ensures ∙ ap (λ b. cond b (types.Absent [] ∷ []) c.as_slice-header.result.now) c.in_ok-on_cycle.ensures.value) at) c.in_ok-push.ensures.ok;
      none = c.in_ok-on_cycle.ensures.unmarked;
    }
