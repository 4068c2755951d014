-- Targets by the outermost layer of a tree, and the last of the selectors, which decides.
use Rattle.std.proofs.Common.{◌≡◌, ℕ, suc, ◌-◌, Bool, List, [], ◌∷◌, length, map, Option, Some, None, refl, sym, ap, ◌∙◌, arith}
use Rattle.std.specs.List.{slice_get}
use Rattle.std.specs.Option.{option_copied}
use Rattle.std.specs.Borrow.{Bor}
use Rattle.java_tree.specs.declared.expr.Expr.{Expr, out-Expr}
use Rattle.java_tree.specs.declared.expr.Expr.TheVariants as exprs
use Rattle.java_tree.specs.declared.expr.Expr.TheOpen.{Expr-F, First-F, Selector-F}
use Rattle.java_tree.specs.declared.expr.First.{First, out-First, roll-First, roll-out-First}
use Rattle.java_tree.specs.declared.expr.First.TheVariants as firsts
use Rattle.java_tree.specs.declared.expr.Primary.{Primary}
use Rattle.java_tree.specs.declared.expr.Selector.{Selector, out-Selector, roll-Selector, roll-out-Selector}
use Rattle.java_tree.specs.declared.expr.Selector.TheVariants as selectors
use Rattle.java_model.specs.Grammar.Forms.{ExprLayer, FirstLayer, SelectorLayer, last_or, is_target, is_target_first, is_target_selector, is_target_expr}
use Rattle.java_model.proofs.Grammar.Targets.{is_target-parts, is_target_expr-Assign, is_target_expr-Conditional, is_target_expr-Binary, is_target_expr-Prefix, is_target_expr-Cast, is_target_expr-bare, is_target_expr-stepped, is_target_first-Literal, is_target_first-This, is_target_first-Name, is_target_first-Parenthesized, is_target_first-ClassLiteral, is_target_first-VoidClass, is_target_first-QualifiedThis, is_target_first-SuperField, is_target_first-Call, is_target_first-SuperCall, is_target_first-New, is_target_first-NewArray, is_target_first-NewArrayOf, is_target_selector-Field, is_target_selector-MemberCall, is_target_selector-Index, is_target_selector-QualifiedNew}
use Rattle.java_expr_reading.specs.Targets.{selector_target_in, first_target_in, expr_target_in}
use Rattle.java_expr_reading.proofs.ExprSound.{layer_is}

-- ---- layers

expr_target : (x : Expr) (l : ExprLayer) → out-Expr x ≡ l → is_target_expr x ≡ expr_target_in l
expr_target x (Expr-F.Assign t op v) e = ap is_target_expr (layer_is x (Expr-F.Assign t op v) e ∙ exprs.rolls-Assign t op v) ∙ is_target_expr-Assign t op v
expr_target x (Expr-F.Conditional c y z) e = ap is_target_expr (layer_is x (Expr-F.Conditional c y z) e ∙ exprs.rolls-Conditional c y z) ∙ is_target_expr-Conditional c y z
expr_target x (Expr-F.Binary y os) e = ap is_target_expr (layer_is x (Expr-F.Binary y os) e ∙ exprs.rolls-Binary y os) ∙ is_target_expr-Binary y os
expr_target x (Expr-F.Prefix op y) e = ap is_target_expr (layer_is x (Expr-F.Prefix op y) e ∙ exprs.rolls-Prefix op y) ∙ is_target_expr-Prefix op y
expr_target x (Expr-F.Cast t y) e = ap is_target_expr (layer_is x (Expr-F.Cast t y) e ∙ exprs.rolls-Cast t y) ∙ is_target_expr-Cast t y
expr_target x (Expr-F.Postfix p []) e = ap is_target_expr (layer_is x (Expr-F.Postfix p []) e ∙ exprs.rolls-Postfix p []) ∙ is_target_expr-bare p
expr_target x (Expr-F.Postfix p (op ∷ ops)) e = ap is_target_expr (layer_is x (Expr-F.Postfix p (op ∷ ops)) e ∙ exprs.rolls-Postfix p (op ∷ ops)) ∙ is_target_expr-stepped p op ops

pub target_expr_out : (x : Expr) → is_target_expr x ≡ expr_target_in (out-Expr x)
target_expr_out x = expr_target x (out-Expr x) refl

first_layer_is : (f : First) (l : FirstLayer) → out-First f ≡ l → f ≡ roll-First l
first_layer_is f l e = sym (roll-out-First f) ∙ ap roll-First e

first_target : (f : First) (l : FirstLayer) → out-First f ≡ l → is_target_first f ≡ first_target_in l
first_target f (First-F.Literal l) e = ap is_target_first (first_layer_is f (First-F.Literal l) e ∙ firsts.rolls-Literal l) ∙ is_target_first-Literal l
first_target f (First-F.This s) e = ap is_target_first (first_layer_is f (First-F.This s) e ∙ firsts.rolls-This s) ∙ is_target_first-This s
first_target f (First-F.Name n) e = ap is_target_first (first_layer_is f (First-F.Name n) e ∙ firsts.rolls-Name n) ∙ is_target_first-Name n
first_target f (First-F.Parenthesized x) e = ap is_target_first (first_layer_is f (First-F.Parenthesized x) e ∙ firsts.rolls-Parenthesized x) ∙ is_target_first-Parenthesized x
first_target f (First-F.ClassLiteral t) e = ap is_target_first (first_layer_is f (First-F.ClassLiteral t) e ∙ firsts.rolls-ClassLiteral t) ∙ is_target_first-ClassLiteral t
first_target f First-F.VoidClass e = ap is_target_first (first_layer_is f First-F.VoidClass e ∙ firsts.rolls-VoidClass) ∙ is_target_first-VoidClass
first_target f (First-F.QualifiedThis n s) e = ap is_target_first (first_layer_is f (First-F.QualifiedThis n s) e ∙ firsts.rolls-QualifiedThis n s) ∙ is_target_first-QualifiedThis n s
first_target f (First-F.SuperField n s i) e = ap is_target_first (first_layer_is f (First-F.SuperField n s i) e ∙ firsts.rolls-SuperField n s i) ∙ is_target_first-SuperField n s i
first_target f (First-F.Call n xs) e = ap is_target_first (first_layer_is f (First-F.Call n xs) e ∙ firsts.rolls-Call n xs) ∙ is_target_first-Call n xs
first_target f (First-F.SuperCall n s i xs) e = ap is_target_first (first_layer_is f (First-F.SuperCall n s i xs) e ∙ firsts.rolls-SuperCall n s i xs) ∙ is_target_first-SuperCall n s i xs
first_target f (First-F.New c) e = ap is_target_first (first_layer_is f (First-F.New c) e ∙ firsts.rolls-New c) ∙ is_target_first-New c
first_target f (First-F.NewArray t xs n) e = ap is_target_first (first_layer_is f (First-F.NewArray t xs n) e ∙ firsts.rolls-NewArray t xs n) ∙ is_target_first-NewArray t xs n
first_target f (First-F.NewArrayOf t n b) e = ap is_target_first (first_layer_is f (First-F.NewArrayOf t n b) e ∙ firsts.rolls-NewArrayOf t n b) ∙ is_target_first-NewArrayOf t n b

pub target_first_out : (f : First) → is_target_first f ≡ first_target_in (out-First f)
target_first_out f = first_target f (out-First f) refl

selector_layer_is : (s : Selector) (l : SelectorLayer) → out-Selector s ≡ l → s ≡ roll-Selector l
selector_layer_is s l e = sym (roll-out-Selector s) ∙ ap roll-Selector e

selector_target : (s : Selector) (l : SelectorLayer) → out-Selector s ≡ l → is_target_selector s ≡ selector_target_in l
selector_target s (Selector-F.Field i) e = ap is_target_selector (selector_layer_is s (Selector-F.Field i) e ∙ selectors.rolls-Field i) ∙ is_target_selector-Field i
selector_target s (Selector-F.MemberCall i xs) e = ap is_target_selector (selector_layer_is s (Selector-F.MemberCall i xs) e ∙ selectors.rolls-MemberCall i xs) ∙ is_target_selector-MemberCall i xs
selector_target s (Selector-F.Index x) e = ap is_target_selector (selector_layer_is s (Selector-F.Index x) e ∙ selectors.rolls-Index x) ∙ is_target_selector-Index x
selector_target s (Selector-F.QualifiedNew c) e = ap is_target_selector (selector_layer_is s (Selector-F.QualifiedNew c) e ∙ selectors.rolls-QualifiedNew c) ∙ is_target_selector-QualifiedNew c

pub target_selector_out : (s : Selector) → is_target_selector s ≡ selector_target_in (out-Selector s)
target_selector_out s = selector_target s (out-Selector s) refl

-- ---- the last selector

later : {A : Type 0} (x y : A) (ys : List A) → slice_get (y ∷ ys) (length (y ∷ ys) - 1) ≡ slice_get (x ∷ y ∷ ys) (length (x ∷ y ∷ ys) - 1)
later x y ys =
    ap (λ (k : ℕ). slice_get (y ∷ ys) k) (let n : length (y ∷ ys) - 1 ≡ length ys = omega arith in n)
    ∙ ap (λ (k : ℕ). slice_get (x ∷ y ∷ ys) k) (let n : suc (length ys) ≡ length (x ∷ y ∷ ys) - 1 = omega arith in n)

pub last_some : {A : Type 0} (f : A → Bool) (first : Bool) (s : A) (xs : List A) → slice_get xs (length xs - 1) ≡ Some s → last_or first (map f xs) ≡ f s
last_some f first s [] e = absurd cc
last_some f first s (x ∷ []) e = let is : x ≡ s = cc in ap f is
last_some f first s (x ∷ y ∷ ys) e = last_some f (f x) s (y ∷ ys) (later x y ys ∙ e)

pub last_none : {A : Type 0} (f : A → Bool) (first : Bool) (xs : List A) → slice_get xs (length xs - 1) ≡ None → last_or first (map f xs) ≡ first
last_none f first [] e = refl
last_none f first (x ∷ []) e = absurd cc
last_none f first (x ∷ y ∷ ys) e = absurd (some_last x y ys e)
  where
    some_last : {A : Type 0} (x y : A) (ys : List A) → slice_get (x ∷ y ∷ ys) (length (x ∷ y ∷ ys) - 1) ≡ None → ⊥
    some_last x y [] e = cc
    some_last x y (z ∷ zs) e = some_last y z zs (later x y (z ∷ zs) ∙ e)

pub target_last : (p : Primary) (s : Selector) → slice_get p.selectors (length p.selectors - 1) ≡ Some s → is_target p ≡ is_target_selector s
target_last p s e = is_target-parts p ∙ last_some is_target_selector (is_target_first p.first) s p.selectors e

pub target_alone : (p : Primary) → slice_get p.selectors (length p.selectors - 1) ≡ None → is_target p ≡ is_target_first p.first
target_alone p e = is_target-parts p ∙ last_none is_target_selector (is_target_first p.first) p.selectors e

-- what `last` answered is the last selector
pub last_is : (xs ys : List Selector) (r : Option (Bor Selector)) → ys ≡ xs → option_copied r ≡ slice_get ys (length ys - 1) → slice_get xs (length xs - 1) ≡ option_copied r
last_is xs ys r e h = ap (λ (zs : List Selector). slice_get zs (length zs - 1)) (sym e) ∙ sym h
