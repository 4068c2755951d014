-- What may be assigned to (JLS 15.26), by the outermost layer of a tree.
use Rattle.std.specs.Prelude.{Bool, true, false, []}
use Rattle.java_tree.specs.declared.expr.Expr.TheOpen.{Expr-F, First-F, Selector-F}
use Rattle.java_model.specs.Grammar.Forms.{ExprLayer, FirstLayer, SelectorLayer, is_target, is_target_expr}

abbrev pub selector_target_in : SelectorLayer → Bool
selector_target_in (Selector-F.Field i) = true
selector_target_in (Selector-F.Index x) = true
selector_target_in _ = false

abbrev pub first_target_in : FirstLayer → Bool
first_target_in (First-F.Name n) = true
first_target_in (First-F.SuperField n s i) = true
first_target_in (First-F.Parenthesized x) = is_target_expr x
first_target_in _ = false

abbrev pub expr_target_in : ExprLayer → Bool
expr_target_in (Expr-F.Postfix p []) = is_target p
expr_target_in _ = false
