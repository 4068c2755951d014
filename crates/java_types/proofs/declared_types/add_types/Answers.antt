use Rattle.std.proofs.Common.{rules, Some}
use Rattle.java_types.proofs.Declaring.{types_next}
use Rattle.java_types.proofs.declared_types.add_types.Goals as goal

pub loop-declared-preserved : goal.loop-declared-preserved
loop-declared-preserved c = record {
  counted = search rules;
  added =
      types_next (Some c.args.document.now.path) c.args.document.now.outline c.len-first.result c.args.document.now.outline.types c.as_slice-declared-items.result.now c.loop-declared.declared-index c.loop-declared.number
      c.declared-item.result c.args.entries.now c.loop-declared.entries c.push.new.self c.in_ok-entry_of.field-0
      c.as_slice-declared-items.ensures (search rules) c.declared-item.is c.loop-declared.invariant.counted c.loop-declared.invariant.added c.in_ok-entry_of.ensures c.in_ok-push.ensures.ok;
}
