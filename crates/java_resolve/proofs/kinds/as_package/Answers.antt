use Rattle.std.proofs.Common.{rules, ◌≡◌, ◌∙◌, ap, sym, true, false, map}
use Rattle.java_tree.specs.declared.types.NameKind.TheVariants as kinds
use Rattle.java_model.specs.Grammar.Forms.{last_or}
use Rattle.java_resolve.specs.Kinds.{is_package}
use Rattle.java_resolve.proofs.Packages.{is-packages, is-itself}
use Rattle.java_resolve.proofs.kinds.as_package.Goals as goal

pub returns-in_ok-kinds : goal.returns-in_ok-kinds
returns-in_ok-kinds c =
    let ends : is_package (last_or kinds.Nothing c.args.before) ≡ true = ap (λ ks. is_package (last_or kinds.Nothing ks)) (sym c.as_slice.ensures) ∙ sym c.ends_in_package.ensures ∙ c.if-ends_in_package.true in
    is-packages c.args.before c.in_ok-kinds.kinds ends (c.in_ok-kinds.ensures ∙ ap (map (λ _. kinds.Package)) c.as_slice-then-ends_in_package.ensures)

pub returns-else-ends_in_package : goal.returns-else-ends_in_package
returns-else-ends_in_package c =
    let not : is_package (last_or kinds.Nothing c.args.before) ≡ false = ap (λ ks. is_package (last_or kinds.Nothing ks)) (sym c.as_slice.ensures) ∙ sym c.ends_in_package.ensures ∙ c.if-ends_in_package.false in
    is-itself c.args.before not
