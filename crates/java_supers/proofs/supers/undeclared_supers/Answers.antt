use Rattle.std.proofs.Common.{rules, ap, ◌∷◌, [], ◌++◌, ◌∙◌}
use Rattle.java_tree.specs.declared.types.JType.TheVariants as types
use Rattle.java_supers.proofs.Heads.{none_declared, object_has_none, string_has_object}
use Rattle.java_supers.proofs.supers.undeclared_supers.Goals as goal

pub returns-then-not-has : goal.returns-then-not-has
returns-then-not-has c = λ a. none_declared c.args.env.now a c.args.t _ (search rules) (search rules)

pub returns-then-branch : goal.returns-then-branch
returns-then-branch c = λ a. object_has_none c.args.env.now a c.args.t _ _ c.in_ok-is_object.ensures (search rules) (search rules)

pub returns : goal.returns
returns c = λ a. string_has_object c.args.env.now a c.args.t _ _ (search rules) c.requires c.in_ok-is_object.ensures (search rules)
    (c.in_ok-push.ensures.ok ∙ ap (λ ts. ts ++ types.Class c.in_ok-object.field-0 ∷ []) c.new-types.ensures ∙ ap (λ t. types.Class t ∷ []) c.in_ok-object.ensures)
