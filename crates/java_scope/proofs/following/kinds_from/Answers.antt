use Rattle.std.proofs.Common.{rules, length, ◌<◌, ◌∙◌}
use Rattle.java_scope.proofs.NextKinds.{kinds_more, taken_more, read}
use Rattle.java_scope.proofs.following.kinds_from.Goals as goal

pub next_kind-requires : goal.next_kind-requires
next_kind-requires c =
    taken_more c.args.names.now c.loop-at.at c.as_str-name.result.now
    (read c.args.names.now c.loop-at.at c.index-names-at.result c.as_str-name.result.now (let h : c.loop-at.at < length c.args.names.now = search rules in h) c.index-names-at.is c.as_str-name.ensures)

pub loop-at-preserved : goal.loop-at-preserved
loop-at-preserved c =
    kinds_more c.args.env.now c.args.names.now c.loop-at.at c.as_str-name.result.now c.loop-at.kinds c.push.new.self c.loop-at.kind c.in_ok-next.next
    (read c.args.names.now c.loop-at.at c.index-names-at.result c.as_str-name.result.now (let h : c.loop-at.at < length c.args.names.now = search rules in h) c.index-names-at.is c.as_str-name.ensures)
    c.in_ok-next.ensures c.in_ok-push.ensures.ok
    ∙ c.loop-at.invariant
