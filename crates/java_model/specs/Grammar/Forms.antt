-- The forms of trees that side rules ask for.
use Rattle.std.specs.Prelude.{ℕ, Bool, true, false, ◌||◌, List, [], ◌∷◌, map}
use Rattle.java_tree.specs.declared.operators.BinaryOp.{BinaryOp}
use Rattle.java_tree.specs.declared.operators.BinaryOp.TheVariants as binaries
use Rattle.java_tree.specs.declared.operators.PrefixOp.{PrefixOp}
use Rattle.java_tree.specs.declared.operators.PrefixOp.TheVariants as prefixes
use Rattle.java_tree.specs.declared.expr.Expr.{Expr, out-Expr, fold-Expr}
use Rattle.java_tree.specs.declared.expr.Expr.TheOpen.{Expr-F, First-F, Selector-F, Primary-F}
use Rattle.java_tree.specs.declared.expr.First.{First, out-First, fold-First}
use Rattle.java_tree.specs.declared.expr.Initializer.{Initializer}
use Rattle.java_tree.specs.declared.expr.Operation.{Operation}
use Rattle.java_tree.specs.declared.expr.Selector.{Selector, out-Selector, fold-Selector}
use Rattle.java_tree.specs.declared.expr.ArrayInitializer.{ArrayInitializer}
use Rattle.java_tree.specs.declared.expr.Creation.{Creation}
use Rattle.java_tree.specs.declared.expr.Primary.{Primary, fold-Primary}

-- some element stands in the list
abbrev pub IsNonEmpty : {A : Type 0} → List A → Type 0
IsNonEmpty [] = ⊥
IsNonEmpty (x ∷ xs) = Unit {0}

-- one element stands in the list
abbrev pub IsSingle : {A : Type 0} → List A → Type 0
IsSingle [] = ⊥
IsSingle (x ∷ []) = Unit {0}
IsSingle (x ∷ y ∷ more) = ⊥

abbrev pub is_nonempty : {A : Type 0} → List A → Bool
is_nonempty [] = false
is_nonempty (x ∷ xs) = true

-- the last element, or the one that is given
abbrev pub last_or : {A : Type 0} → A → List A → A
last_or x [] = x
last_or x (y ∷ ys) = last_or y ys

-- The level of a binary operator, tightest first: `*` has 1, `||` has 10 (JLS 15.17 to 15.24).
abbrev pub level : BinaryOp → ℕ
level binaries.ConditionalOr = 10
level binaries.ConditionalAnd = 9
level binaries.Or = 8
level binaries.Xor = 7
level binaries.And = 6
level binaries.Equal = 5
level binaries.NotEqual = 5
level binaries.Less = 4
level binaries.Greater = 4
level binaries.LessEqual = 4
level binaries.GreaterEqual = 4
level binaries.LeftShift = 3
level binaries.RightShift = 3
level binaries.UnsignedRightShift = 3
level binaries.Add = 2
level binaries.Subtract = 2
level binaries.Multiply = 1
level binaries.Divide = 1
level binaries.Remainder = 1

-- `instanceof` is a relational operator (JLS 15.20)
abbrev pub instanceof_level : ℕ
instanceof_level = 4

abbrev pub ExprLayer : Type 0
ExprLayer = Expr-F Expr First Initializer Operation Selector ArrayInitializer Creation Primary

abbrev pub FirstLayer : Type 0
FirstLayer = First-F Expr First Initializer Operation Selector ArrayInitializer Creation Primary

abbrev pub SelectorLayer : Type 0
SelectorLayer = Selector-F Expr First Initializer Operation Selector ArrayInitializer Creation Primary

-- an assignment (JLS 15.26)
abbrev pub is_assignment_in : ExprLayer → Bool
is_assignment_in (Expr-F.Assign target op value) = true
is_assignment_in _ = false

abbrev pub is_assignment : Expr → Bool
is_assignment x = is_assignment_in (out-Expr x)

-- `+`, `-`, `++` and `--` may also stand after or between operands
abbrev pub is_sign : PrefixOp → Bool
is_sign prefixes.Complement = false
is_sign prefixes.Not = false
is_sign _ = true

-- a unary expression that begins with one of them
abbrev pub begins_with_sign_in : ExprLayer → Bool
begins_with_sign_in (Expr-F.Prefix op operand) = is_sign op
begins_with_sign_in _ = false

abbrev pub begins_with_sign : Expr → Bool
begins_with_sign x = begins_with_sign_in (out-Expr x)

-- a method call or a class creation (JLS 15.12, 15.9)
abbrev pub is_call_in : FirstLayer → Bool
is_call_in (First-F.Call n args) = true
is_call_in (First-F.SuperCall n s i args) = true
is_call_in (First-F.New creation) = true
is_call_in _ = false

abbrev pub is_call_selector_in : SelectorLayer → Bool
is_call_selector_in (Selector-F.MemberCall i args) = true
is_call_selector_in (Selector-F.QualifiedNew creation) = true
is_call_selector_in _ = false

-- a primary expression that is a call or a creation as a whole
abbrev pub is_call : Primary → Bool
is_call p = last_or (is_call_in (out-First p.first)) (map (λ s. is_call_selector_in (out-Selector s)) p.selectors)

abbrev pub is_step : PrefixOp → Bool
is_step prefixes.Increment = true
is_step prefixes.Decrement = true
is_step _ = false

-- an expression that may be a statement: an assignment, `++`, `--`, a call or a creation (JLS 14.8)
abbrev pub is_statement_in : ExprLayer → Bool
is_statement_in (Expr-F.Assign target op value) = true
is_statement_in (Expr-F.Prefix op operand) = is_step op
is_statement_in (Expr-F.Postfix primary ops) = is_nonempty ops || is_call primary
is_statement_in _ = false

abbrev pub is_statement : Expr → Bool
is_statement x = is_statement_in (out-Expr x)

-- `.name`, with or without arguments: after a name it belongs to the name
abbrev pub is_member_in : SelectorLayer → Bool
is_member_in (Selector-F.Field i) = true
is_member_in (Selector-F.MemberCall i args) = true
is_member_in _ = false

abbrev pub begins_with_member : List Selector → Bool
begins_with_member [] = false
begins_with_member (s ∷ more) = is_member_in (out-Selector s)

abbrev pub is_index_in : SelectorLayer → Bool
is_index_in (Selector-F.Index x) = true
is_index_in _ = false

abbrev pub begins_with_index : List Selector → Bool
begins_with_index [] = false
begins_with_index (s ∷ more) = is_index_in (out-Selector s)

-- What may be assigned to (JLS 15.26): a name, a field access or an index access, also in parentheses.
-- One layer of a tree, with the answer for each part in its place.
abbrev pub target_in_expr : Expr-F Bool Bool Bool Bool Bool Bool Bool Bool → Bool
target_in_expr (Expr-F.Postfix primary []) = primary
target_in_expr _ = false

abbrev pub target_in_first : First-F Bool Bool Bool Bool Bool Bool Bool Bool → Bool
target_in_first (First-F.Name n) = true
target_in_first (First-F.SuperField n s i) = true
target_in_first (First-F.Parenthesized x) = x
target_in_first _ = false

abbrev pub target_in_selector : Selector-F Bool Bool Bool Bool Bool Bool Bool Bool → Bool
target_in_selector (Selector-F.Field i) = true
target_in_selector (Selector-F.Index x) = true
target_in_selector _ = false

abbrev pub target_in_primary : Primary-F Bool Bool Bool Bool Bool Bool Bool Bool → Bool
target_in_primary p = last_or p.first p.selectors

unfoldable pub is_target : Primary → Bool
is_target = fold-Primary Bool Bool Bool Bool Bool Bool Bool Bool
    target_in_expr target_in_first (λ _. false) (λ _. false) target_in_selector (λ _. false) (λ _. false) target_in_primary

unfoldable pub is_target_first : First → Bool
is_target_first = fold-First Bool Bool Bool Bool Bool Bool Bool Bool
    target_in_expr target_in_first (λ _. false) (λ _. false) target_in_selector (λ _. false) (λ _. false) target_in_primary

unfoldable pub is_target_selector : Selector → Bool
is_target_selector = fold-Selector Bool Bool Bool Bool Bool Bool Bool Bool
    target_in_expr target_in_first (λ _. false) (λ _. false) target_in_selector (λ _. false) (λ _. false) target_in_primary

unfoldable pub is_target_expr : Expr → Bool
is_target_expr = fold-Expr Bool Bool Bool Bool Bool Bool Bool Bool
    target_in_expr target_in_first (λ _. false) (λ _. false) target_in_selector (λ _. false) (λ _. false) target_in_primary
