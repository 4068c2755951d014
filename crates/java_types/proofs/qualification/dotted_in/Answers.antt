use Rattle.std.proofs.Common.{sym, ◌∙◌, lit<}
use Rattle.java_types.proofs.Qualifying.{dotted_made, dotted_inner, dotted_outer}
use Rattle.java_types.proofs.qualification.dotted_in.Goals as goal

pub returns-then-is_empty : goal.returns-then-is_empty
returns-then-is_empty c =
    c.in_ok-whole.ensures ∙ (c.requires ∙ dotted_outer c.args.package_names.now c.args.names.now (sym c.is_empty.ensures ∙ c.if-is_empty.true))

pub returns-then-is_empty-2 : goal.returns-then-is_empty-2
returns-then-is_empty-2 c = c.in_ok-inner.ensures ∙ dotted_inner c.args.package_names.now c.args.names.now (sym c.is_empty-2.ensures ∙ c.if-is_empty-2.true)

pub returns : goal.returns
returns c =
    c.from_string.ensures
    ∙ dotted_made c.args.package_names.now c.args.names.now c.args.qualifier.now _ _ _ c.as_str-2.result.now _ (sym c.is_empty-2.ensures ∙ c.if-is_empty-2.false) (sym c.is_empty.ensures ∙ c.if-is_empty.false)
    c.requires (c.in_ok-dotted.ensures.ok ∙ c.as_str.ensures) c.in_ok-push.ensures.bytes (c.in_ok-push.ensures.ascii (lit< tt)) (c.as_str-2.ensures ∙ c.in_ok-inner.ensures) c.in_ok-push_str.ensures.bytes
