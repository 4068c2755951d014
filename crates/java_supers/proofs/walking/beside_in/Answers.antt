use Rattle.std.proofs.Common.{rules, ◌∙◌}
use Rattle.java_supers.proofs.Walks.{beside-next}
use Rattle.java_supers.proofs.walking.beside_in.Goals as goal

pub loop-other-preserved : goal.loop-other-preserved
loop-other-preserved c = record {
  value =
      beside-next c.args.nexts.now c.others_in-others.result.now c.loop-other.other-index _ c.loop-other.beside c.push.new.self c.append.new.self c.in_ok-reached_in.field-0 (search rules) (search rules)
      c.loop-other.invariant.value c.in_ok-push.ensures.ok c.in_ok-reached_in.ensures.value c.in_ok-append.ensures;
  none = c.in_ok-reached_in.ensures.unmarked;
}
