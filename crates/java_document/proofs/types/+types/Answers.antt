use Rattle.std.proofs.Common.{rules, length, ◌-◌, ap, subst}
use Rattle.std.proofs.lemmas.Result.{on_ok_weaker}
use Rattle.java_document.specs.Outlining.{outlined, OutlinesAll}
use Rattle.java_document.proofs.Outlining.{one_past, one_more_type, one_pushed, got_none, got_some}
use Rattle.java_document.proofs.types.+types.Goals as goal

pub in_type-returns-in_default : goal.in_type-returns-in_default
in_type-returns-in_default t c = one_past c.args.types.now c.args.left c.args.found c.args.outlines.now.items
    (got_none c.args.types.now (length c.args.outlines.now.items) c.len.result c.get.result (search rules) c.get.ensures.value (search rules))

pub in_type-returns : goal.in_type-returns
in_type-returns t c =
    on_ok_weaker c.in_holes.result
    (λ more. one_more_type c.args.types.now c.args.left (c.args.left - 1) c.args.found c.in-Some.declared.now c.in_ok-holes.holes.items c.args.outlines.now.items c.in_holes.new.outlines.items
    (search rules) (got_some c.args.types.now (length c.args.outlines.now.items) c.len.result c.get.result c.in-Some.declared (search rules) c.get.ensures.value (search rules)) c.in_ok-holes.ensures
    (subst (λ b. OutlinesAll c.args.types.now (c.args.left - 1) c.in_ok-holes.holes.items b c.in_holes.new.outlines.items)
    (one_pushed c.args.outlines.now.items c.push.new.self.items c.in_ok-outlined.field-0 (outlined c.args.braces.now c.args.found c.in-Some.declared.now) _ (search rules) c.in_ok-outlined.ensures
    (ap (λ bs. outlined bs c.args.found c.in-Some.declared.now) c.requires.table))
    more))
    c.in_holes.ensures
