use Rattle.std.proofs.Common.{[], ◌∷◌, refl, ap}
use Rattle.java_model.specs.Names.Lists.{with_dots}
use Rattle.java_model.specs.Names.Environments.{java_lang}
use Rattle.java_types.proofs.Naming.{java_lang_there, java_lang_added}
use Rattle.java_types.proofs.declared_types.add_java_lang.Goals as goal

pub returns-then-has_named : goal.returns-then-has_named
returns-then-has_named c =
    java_lang_there c.args.name.now (with_dots java_lang) (c.in_ok-from_str.field-0 ∷ []) c.as_slice.result.now c.args.entries.now c.has_named.result c.has_named.ensures c.if-has_named.true c.as_slice.ensures refl
    (ap (λ name. name ∷ []) c.in_ok-from_str.ensures)

pub returns : goal.returns
returns c =
    java_lang_added c.args.name.now (with_dots java_lang) (c.in_ok-from_str.field-0 ∷ []) c.as_slice.result.now c.args.entries.now c.push.new.self c.has_named.result c.len.result c.in_ok-undeclared.field-0
    c.has_named.ensures c.if-has_named.false c.as_slice.ensures refl (ap (λ name. name ∷ []) c.in_ok-from_str.ensures) c.in_ok-undeclared.ensures c.len.ensures c.in_ok-push.ensures.ok
