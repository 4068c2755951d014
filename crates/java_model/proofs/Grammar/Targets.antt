-- What may be assigned to, for each form of an expression.
use Rattle.std.proofs.Common.{◌≡◌, ℕ, Bool, true, false, List, [], ◌∷◌, Option, map, sym, ap, ◌∙◌}
use Rattle.java_tree.specs.declared.names.ElementType.{ElementType}
use Rattle.java_tree.specs.declared.names.Ident.{Ident}
use Rattle.java_tree.specs.declared.names.Literal.{Literal}
use Rattle.java_tree.specs.declared.names.TypeUse.{TypeUse}
use Rattle.java_tree.specs.declared.operators.AssignOp.{AssignOp}
use Rattle.java_tree.specs.declared.operators.PrefixOp.{PrefixOp}
use Rattle.java_tree.specs.declared.operators.PostfixOp.{PostfixOp}
use Rattle.java_tree.specs.declared.token.Span.{Span}
use Rattle.java_tree.specs.declared.expr.Expr.{Expr, fold-roll-Expr}
use Rattle.java_tree.specs.declared.expr.Expr.TheVariants as exprs
use Rattle.java_tree.specs.declared.expr.Expr.TheOpen.{Expr-F, First-F, Selector-F}
use Rattle.java_tree.specs.declared.expr.First.{fold-roll-First}
use Rattle.java_tree.specs.declared.expr.First.TheVariants as firsts
use Rattle.java_tree.specs.declared.expr.Operation.{Operation}
use Rattle.java_tree.specs.declared.expr.Selector.{fold-roll-Selector}
use Rattle.java_tree.specs.declared.expr.Selector.TheVariants as selectors
use Rattle.java_tree.specs.declared.expr.ArrayInitializer.{ArrayInitializer}
use Rattle.java_tree.specs.declared.expr.Creation.{Creation}
use Rattle.java_tree.specs.declared.expr.Primary.{Primary, fold_out-Primary}
use Rattle.java_model.specs.Grammar.Forms.{last_or, target_in_expr, target_in_first, target_in_selector, target_in_primary, is_target, is_target_first, is_target_selector, is_target_expr}

pub is_target-parts : (p : Primary) → is_target p ≡ last_or (is_target_first p.first) (map is_target_selector p.selectors)
unfolding is_target is_target_first is_target_selector is_target_expr
is_target-parts p = fold_out-Primary Bool Bool Bool Bool Bool Bool Bool Bool target_in_expr target_in_first (λ _. false) (λ _. false) target_in_selector (λ _. false) (λ _. false) target_in_primary p

pub is_target_expr-Assign : (target : Primary) (op : AssignOp) (value : Expr) → is_target_expr (exprs.Assign target op value) ≡ false
unfolding is_target is_target_first is_target_selector is_target_expr
is_target_expr-Assign target op value = ap is_target_expr (sym (exprs.rolls-Assign target op value)) ∙ fold-roll-Expr Bool Bool Bool Bool Bool Bool Bool Bool target_in_expr target_in_first (λ _. false) (λ _. false) target_in_selector (λ _. false) (λ _. false) target_in_primary (Expr-F.Assign target op value)

pub is_target_expr-Conditional : (test : Expr) (then : Expr) (other : Expr) → is_target_expr (exprs.Conditional test then other) ≡ false
unfolding is_target is_target_first is_target_selector is_target_expr
is_target_expr-Conditional test then other = ap is_target_expr (sym (exprs.rolls-Conditional test then other)) ∙ fold-roll-Expr Bool Bool Bool Bool Bool Bool Bool Bool target_in_expr target_in_first (λ _. false) (λ _. false) target_in_selector (λ _. false) (λ _. false) target_in_primary (Expr-F.Conditional test then other)

pub is_target_expr-Binary : (first : Expr) (rest : List Operation) → is_target_expr (exprs.Binary first rest) ≡ false
unfolding is_target is_target_first is_target_selector is_target_expr
is_target_expr-Binary first rest = ap is_target_expr (sym (exprs.rolls-Binary first rest)) ∙ fold-roll-Expr Bool Bool Bool Bool Bool Bool Bool Bool target_in_expr target_in_first (λ _. false) (λ _. false) target_in_selector (λ _. false) (λ _. false) target_in_primary (Expr-F.Binary first rest)

pub is_target_expr-Prefix : (op : PrefixOp) (operand : Expr) → is_target_expr (exprs.Prefix op operand) ≡ false
unfolding is_target is_target_first is_target_selector is_target_expr
is_target_expr-Prefix op operand = ap is_target_expr (sym (exprs.rolls-Prefix op operand)) ∙ fold-roll-Expr Bool Bool Bool Bool Bool Bool Bool Bool target_in_expr target_in_first (λ _. false) (λ _. false) target_in_selector (λ _. false) (λ _. false) target_in_primary (Expr-F.Prefix op operand)

pub is_target_expr-Cast : (type : TypeUse) (operand : Expr) → is_target_expr (exprs.Cast type operand) ≡ false
unfolding is_target is_target_first is_target_selector is_target_expr
is_target_expr-Cast type operand = ap is_target_expr (sym (exprs.rolls-Cast type operand)) ∙ fold-roll-Expr Bool Bool Bool Bool Bool Bool Bool Bool target_in_expr target_in_first (λ _. false) (λ _. false) target_in_selector (λ _. false) (λ _. false) target_in_primary (Expr-F.Cast type operand)

pub is_target_expr-bare : (p : Primary) → is_target_expr (exprs.Postfix p []) ≡ is_target p
unfolding is_target is_target_first is_target_selector is_target_expr
is_target_expr-bare p = ap is_target_expr (sym (exprs.rolls-Postfix p [])) ∙ fold-roll-Expr Bool Bool Bool Bool Bool Bool Bool Bool target_in_expr target_in_first (λ _. false) (λ _. false) target_in_selector (λ _. false) (λ _. false) target_in_primary (Expr-F.Postfix p [])

pub is_target_expr-stepped : (p : Primary) (op : PostfixOp) (ops : List PostfixOp) → is_target_expr (exprs.Postfix p (op ∷ ops)) ≡ false
unfolding is_target is_target_first is_target_selector is_target_expr
is_target_expr-stepped p op ops = ap is_target_expr (sym (exprs.rolls-Postfix p (op ∷ ops))) ∙ fold-roll-Expr Bool Bool Bool Bool Bool Bool Bool Bool target_in_expr target_in_first (λ _. false) (λ _. false) target_in_selector (λ _. false) (λ _. false) target_in_primary (Expr-F.Postfix p (op ∷ ops))

pub is_target_first-Literal : (l : Literal) → is_target_first (firsts.Literal l) ≡ false
unfolding is_target is_target_first is_target_selector is_target_expr
is_target_first-Literal l = ap is_target_first (sym (firsts.rolls-Literal l)) ∙ fold-roll-First Bool Bool Bool Bool Bool Bool Bool Bool target_in_expr target_in_first (λ _. false) (λ _. false) target_in_selector (λ _. false) (λ _. false) target_in_primary (First-F.Literal l)

pub is_target_first-This : (s : Span) → is_target_first (firsts.This s) ≡ false
unfolding is_target is_target_first is_target_selector is_target_expr
is_target_first-This s = ap is_target_first (sym (firsts.rolls-This s)) ∙ fold-roll-First Bool Bool Bool Bool Bool Bool Bool Bool target_in_expr target_in_first (λ _. false) (λ _. false) target_in_selector (λ _. false) (λ _. false) target_in_primary (First-F.This s)

pub is_target_first-Name : (n : List Ident) → is_target_first (firsts.Name n) ≡ true
unfolding is_target is_target_first is_target_selector is_target_expr
is_target_first-Name n = ap is_target_first (sym (firsts.rolls-Name n)) ∙ fold-roll-First Bool Bool Bool Bool Bool Bool Bool Bool target_in_expr target_in_first (λ _. false) (λ _. false) target_in_selector (λ _. false) (λ _. false) target_in_primary (First-F.Name n)

pub is_target_first-Parenthesized : (x : Expr) → is_target_first (firsts.Parenthesized x) ≡ is_target_expr x
unfolding is_target is_target_first is_target_selector is_target_expr
is_target_first-Parenthesized x = ap is_target_first (sym (firsts.rolls-Parenthesized x)) ∙ fold-roll-First Bool Bool Bool Bool Bool Bool Bool Bool target_in_expr target_in_first (λ _. false) (λ _. false) target_in_selector (λ _. false) (λ _. false) target_in_primary (First-F.Parenthesized x)

pub is_target_first-ClassLiteral : (type : TypeUse) → is_target_first (firsts.ClassLiteral type) ≡ false
unfolding is_target is_target_first is_target_selector is_target_expr
is_target_first-ClassLiteral type = ap is_target_first (sym (firsts.rolls-ClassLiteral type)) ∙ fold-roll-First Bool Bool Bool Bool Bool Bool Bool Bool target_in_expr target_in_first (λ _. false) (λ _. false) target_in_selector (λ _. false) (λ _. false) target_in_primary (First-F.ClassLiteral type)

pub is_target_first-VoidClass : is_target_first firsts.VoidClass ≡ false
unfolding is_target is_target_first is_target_selector is_target_expr
is_target_first-VoidClass = ap is_target_first (sym firsts.rolls-VoidClass) ∙ fold-roll-First Bool Bool Bool Bool Bool Bool Bool Bool target_in_expr target_in_first (λ _. false) (λ _. false) target_in_selector (λ _. false) (λ _. false) target_in_primary First-F.VoidClass

pub is_target_first-QualifiedThis : (n : List Ident) (s : Span) → is_target_first (firsts.QualifiedThis n s) ≡ false
unfolding is_target is_target_first is_target_selector is_target_expr
is_target_first-QualifiedThis n s = ap is_target_first (sym (firsts.rolls-QualifiedThis n s)) ∙ fold-roll-First Bool Bool Bool Bool Bool Bool Bool Bool target_in_expr target_in_first (λ _. false) (λ _. false) target_in_selector (λ _. false) (λ _. false) target_in_primary (First-F.QualifiedThis n s)

pub is_target_first-SuperField : (n : Option (List Ident)) (s : Span) (i : Ident) → is_target_first (firsts.SuperField n s i) ≡ true
unfolding is_target is_target_first is_target_selector is_target_expr
is_target_first-SuperField n s i = ap is_target_first (sym (firsts.rolls-SuperField n s i)) ∙ fold-roll-First Bool Bool Bool Bool Bool Bool Bool Bool target_in_expr target_in_first (λ _. false) (λ _. false) target_in_selector (λ _. false) (λ _. false) target_in_primary (First-F.SuperField n s i)

pub is_target_first-Call : (n : List Ident) (args : List Expr) → is_target_first (firsts.Call n args) ≡ false
unfolding is_target is_target_first is_target_selector is_target_expr
is_target_first-Call n args = ap is_target_first (sym (firsts.rolls-Call n args)) ∙ fold-roll-First Bool Bool Bool Bool Bool Bool Bool Bool target_in_expr target_in_first (λ _. false) (λ _. false) target_in_selector (λ _. false) (λ _. false) target_in_primary (First-F.Call n args)

pub is_target_first-SuperCall : (n : Option (List Ident)) (s : Span) (i : Ident) (args : List Expr) → is_target_first (firsts.SuperCall n s i args) ≡ false
unfolding is_target is_target_first is_target_selector is_target_expr
is_target_first-SuperCall n s i args = ap is_target_first (sym (firsts.rolls-SuperCall n s i args)) ∙ fold-roll-First Bool Bool Bool Bool Bool Bool Bool Bool target_in_expr target_in_first (λ _. false) (λ _. false) target_in_selector (λ _. false) (λ _. false) target_in_primary (First-F.SuperCall n s i args)

pub is_target_first-New : (creation : Creation) → is_target_first (firsts.New creation) ≡ false
unfolding is_target is_target_first is_target_selector is_target_expr
is_target_first-New creation = ap is_target_first (sym (firsts.rolls-New creation)) ∙ fold-roll-First Bool Bool Bool Bool Bool Bool Bool Bool target_in_expr target_in_first (λ _. false) (λ _. false) target_in_selector (λ _. false) (λ _. false) target_in_primary (First-F.New creation)

pub is_target_first-NewArray : (element : ElementType) (sizes : List Expr) (dims : ℕ) → is_target_first (firsts.NewArray element sizes dims) ≡ false
unfolding is_target is_target_first is_target_selector is_target_expr
is_target_first-NewArray element sizes dims = ap is_target_first (sym (firsts.rolls-NewArray element sizes dims)) ∙ fold-roll-First Bool Bool Bool Bool Bool Bool Bool Bool target_in_expr target_in_first (λ _. false) (λ _. false) target_in_selector (λ _. false) (λ _. false) target_in_primary (First-F.NewArray element sizes dims)

pub is_target_first-NewArrayOf : (element : ElementType) (dims : ℕ) (array : ArrayInitializer) → is_target_first (firsts.NewArrayOf element dims array) ≡ false
unfolding is_target is_target_first is_target_selector is_target_expr
is_target_first-NewArrayOf element dims array = ap is_target_first (sym (firsts.rolls-NewArrayOf element dims array)) ∙ fold-roll-First Bool Bool Bool Bool Bool Bool Bool Bool target_in_expr target_in_first (λ _. false) (λ _. false) target_in_selector (λ _. false) (λ _. false) target_in_primary (First-F.NewArrayOf element dims array)

pub is_target_selector-Field : (i : Ident) → is_target_selector (selectors.Field i) ≡ true
unfolding is_target is_target_first is_target_selector is_target_expr
is_target_selector-Field i = ap is_target_selector (sym (selectors.rolls-Field i)) ∙ fold-roll-Selector Bool Bool Bool Bool Bool Bool Bool Bool target_in_expr target_in_first (λ _. false) (λ _. false) target_in_selector (λ _. false) (λ _. false) target_in_primary (Selector-F.Field i)

pub is_target_selector-MemberCall : (i : Ident) (args : List Expr) → is_target_selector (selectors.MemberCall i args) ≡ false
unfolding is_target is_target_first is_target_selector is_target_expr
is_target_selector-MemberCall i args = ap is_target_selector (sym (selectors.rolls-MemberCall i args)) ∙ fold-roll-Selector Bool Bool Bool Bool Bool Bool Bool Bool target_in_expr target_in_first (λ _. false) (λ _. false) target_in_selector (λ _. false) (λ _. false) target_in_primary (Selector-F.MemberCall i args)

pub is_target_selector-Index : (x : Expr) → is_target_selector (selectors.Index x) ≡ true
unfolding is_target is_target_first is_target_selector is_target_expr
is_target_selector-Index x = ap is_target_selector (sym (selectors.rolls-Index x)) ∙ fold-roll-Selector Bool Bool Bool Bool Bool Bool Bool Bool target_in_expr target_in_first (λ _. false) (λ _. false) target_in_selector (λ _. false) (λ _. false) target_in_primary (Selector-F.Index x)

pub is_target_selector-QualifiedNew : (creation : Creation) → is_target_selector (selectors.QualifiedNew creation) ≡ false
unfolding is_target is_target_first is_target_selector is_target_expr
is_target_selector-QualifiedNew creation = ap is_target_selector (sym (selectors.rolls-QualifiedNew creation)) ∙ fold-roll-Selector Bool Bool Bool Bool Bool Bool Bool Bool target_in_expr target_in_first (λ _. false) (λ _. false) target_in_selector (λ _. false) (λ _. false) target_in_primary (Selector-F.QualifiedNew creation)

-- all of them
pub ruleset targets = (is_target-parts, is_target_expr-Assign, is_target_expr-Conditional, is_target_expr-Binary, is_target_expr-Prefix, is_target_expr-Cast, is_target_expr-bare, is_target_expr-stepped, is_target_first-Literal, is_target_first-This, is_target_first-Name, is_target_first-Parenthesized, is_target_first-ClassLiteral, is_target_first-VoidClass, is_target_first-QualifiedThis, is_target_first-SuperField, is_target_first-Call, is_target_first-SuperCall, is_target_first-New, is_target_first-NewArray, is_target_first-NewArrayOf, is_target_selector-Field, is_target_selector-MemberCall, is_target_selector-Index, is_target_selector-QualifiedNew)
