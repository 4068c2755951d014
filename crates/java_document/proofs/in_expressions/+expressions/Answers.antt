-- Forms that the search does not find by itself.
use Rattle.std.proofs.Common.{rules, map, subst, sym}
use Rattle.java_model.specs.Grammar.Pieces.{each}
use Rattle.java_model.specs.Grammar.YieldExpr.{yield_expr, yield_first}
use Rattle.java_document.specs.Holes.{locals_in, Finds}
use Rattle.std.proofs.lemmas.Result.{on_ok_weaker}
use Rattle.java_document.proofs.InExpressions.{in_binary, in_prefix, in_cast, in_postfix, in_call, in_super_call, in_new, in_new_sizes, in_new_elements, in_index, in_qualified_new}
use Rattle.java_document.proofs.in_expressions.+expressions.Goals as goal

pub in_expr-returns-in_ok-in_expr-in-Binary : goal.in_expr-returns-in_ok-in_expr-in-Binary
in_expr-returns-in_ok-in_expr-in-Binary t c = search (rules, in_binary)

pub in_expr-returns-in-Prefix : goal.in_expr-returns-in-Prefix
in_expr-returns-in-Prefix t c = search (rules, in_prefix)

pub in_expr-returns-in-Cast : goal.in_expr-returns-in-Cast
in_expr-returns-in-Cast t c = search (rules, in_cast)

pub in_expr-returns-in-Postfix : goal.in_expr-returns-in-Postfix
in_expr-returns-in-Postfix t c = search (rules, in_postfix)

pub in_first-returns-in-Call : goal.in_first-returns-in-Call
in_first-returns-in-Call t c = search (rules, in_call)

pub in_first-returns-in-SuperCall : goal.in_first-returns-in-SuperCall
in_first-returns-in-SuperCall t c = search (rules, in_super_call)

pub in_first-returns-in-New : goal.in_first-returns-in-New
in_first-returns-in-New t c = search (rules, in_new)

pub in_first-returns-in-NewArray : goal.in_first-returns-in-NewArray
in_first-returns-in-NewArray t c =
    on_ok_weaker c.in_exprs-in-NewArray.result
    (λ f. subst (λ x. Finds (locals_in c.args.scope.now) (yield_first x) c.args.found.now.items c.in_exprs-in-NewArray.new.found.items) (sym c.in-NewArray.is)
    (in_new_sizes _ c.in-NewArray.field-0 c.in-NewArray.sizes c.in-NewArray.field-2 _ _
    (subst (λ xs. Finds (locals_in c.args.scope.now) (each (map yield_expr xs)) c.args.found.now.items c.in_exprs-in-NewArray.new.found.items) c.as_slice-in-NewArray.ensures f)))
    c.in_exprs-in-NewArray.ensures

pub in_first-returns-in-NewArrayOf : goal.in_first-returns-in-NewArrayOf
in_first-returns-in-NewArrayOf t c =
    on_ok_weaker c.in_array.result
    (λ f. subst (λ x. Finds (locals_in c.args.scope.now) (yield_first x) c.args.found.now.items c.in_array.new.found.items) (sym c.in-NewArrayOf.is)
    (in_new_elements _ c.in-NewArrayOf.field-0 c.in-NewArrayOf.field-1 c.in-NewArrayOf.array _ _ f))
    c.in_array.ensures

pub in_selector-returns-in-Index : goal.in_selector-returns-in-Index
in_selector-returns-in-Index t c = search (rules, in_index)

pub in_selector-returns-in-QualifiedNew : goal.in_selector-returns-in-QualifiedNew
in_selector-returns-in-QualifiedNew t c = search (rules, in_qualified_new)
