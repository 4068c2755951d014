-- Chains of operators: what a level holds begins with a unary expression, and ends where no operator follows.
use Rattle.std.proofs.Common.{◌≡◌, ℕ, zero, suc, ◌+◌, ◌-◌, ◌<◌, arith, List, [], refl, ap, sym, ◌∙◌, None}
use Rattle.java_tree.specs.declared.expr.Expr.{Expr}
use Rattle.java_tree.specs.declared.expr.Operation.{Operation}
use Rattle.java_expr_reading.specs.Input.{Input, Outcome, Parser, Done, Fail, and_then, shape, many, many_from}
use Rattle.java_expr_reading.specs.Reading.Operators.{operator_by}
use Rattle.java_expr_reading.specs.Reading.Primaries.{Nest}
use Rattle.java_expr_reading.specs.Reading.Expressions.{unary, binary, operation, chain_of}
use Rattle.java_expr_reading.specs.declared.operators.Operator.TheVariants as kinds
use Rattle.java_parse_expr.specs.Chains.{chain, chains}

module _ (depth_left : ℕ) (N : Nest) where
  no_chain : (o : Outcome Expr) → o ≡ and_then o (chains depth_left N zero)
  unfolding chains
  no_chain (Done x j) = refl
  no_chain Fail = refl

  one_more_chain : (k : ℕ) (o : Outcome Expr) → and_then (and_then o (chains depth_left N k)) (chain depth_left N k) ≡ and_then o (chains depth_left N (suc k))
  unfolding chains
  one_more_chain k (Done x j) = refl
  one_more_chain k Fail = refl

  -- a level holds a unary expression, and the chains over it
  pub binary_chains : (k : ℕ) (i : Input) → binary depth_left N k i ≡ and_then (unary depth_left N i) (chains depth_left N k)
  unfolding binary
  binary_chains zero i = no_chain (unary depth_left N i)
  binary_chains (suc k) i = ap (λ o. and_then o (chain depth_left N k)) (binary_chains k i) ∙ one_more_chain k (unary depth_left N i)

  pub first_fails : (k : ℕ) (i : Input) → unary depth_left N i ≡ Fail → binary depth_left N k i ≡ Fail
  first_fails k i e = binary_chains k i ∙ ap (λ o. and_then o (chains depth_left N k)) e

  pub first_found : (k : ℕ) (i j : Input) (x : Expr) → unary depth_left N i ≡ Done x j → binary depth_left N k i ≡ chains depth_left N k x j
  first_found k i j x e = binary_chains k i ∙ ap (λ o. and_then o (chains depth_left N k)) e

  module _ (i : Input) (none : (k : ℕ) → operator_by k (shape i) ≡ kinds.Other) where
    no_operation : (k : ℕ) (operand : Parser Expr) → operation depth_left N k operand i ≡ Done None i
    unfolding operation
    no_operation k operand = rw (none k) refl

    no_operations : (k : ℕ) (operand : Parser Expr) → many (operation depth_left N k operand) [] i ≡ Done [] i
    unfolding many many_from
    no_operations k operand = rw (no_operation k operand) refl

    ends_chain : (k : ℕ) (x : Expr) → chain depth_left N k x i ≡ Done x i
    ends_chain k x = rw (no_operations (suc k) (binary depth_left N k)) refl

    -- no chain follows where no operator does
    pub ends_chains : (k : ℕ) (x : Expr) → chains depth_left N k x i ≡ Done x i
    unfolding chains
    ends_chains zero x = refl
    ends_chains (suc k) x = rw (ends_chains k x) (ends_chain k x)

  -- a level that fails makes the looser ones fail
  pub chains_fail : (x : Expr) (i : Input) (k n : ℕ) → chains depth_left N k x i ≡ Fail → chains depth_left N (n + k) x i ≡ Fail
  unfolding chains
  chains_fail x i k zero e = let none : 0 + k ≡ k = omega arith in ap (λ m. chains depth_left N m x i) none ∙ e
  chains_fail x i k (suc n) e =
      let more : suc n + k ≡ suc (n + k) = omega arith in
      ap (λ m. chains depth_left N m x i) more ∙ ap (λ o. and_then o (chain depth_left N (n + k))) (chains_fail x i k n e)

  -- a failure behind the first operand
  pub chain_fails : (x y : Expr) (i j : Input) (k l : ℕ) (found : List Operation) → k < l → found ≡ [] → chains depth_left N k x i ≡ Done y j
      → many (operation depth_left N (suc k) (binary depth_left N k)) found j ≡ Fail → chains depth_left N l x i ≡ Fail
  unfolding chains
  chain_fails x y i j k l found less empty e f =
      let here : chains depth_left N (suc k) x i ≡ Fail = rw e (rw (sym empty) (rw f refl)) in
      let above : (l - suc k) + suc k ≡ l = omega (arith, less) in
      ap (λ n. chains depth_left N n x i) (sym above) ∙ chains_fail x i (suc k) (l - suc k) here

  pub chain_found : (x y : Expr) (i j m : Input) (k l : ℕ) (found os : List Operation) → l ≡ suc k → found ≡ [] → chains depth_left N k x i ≡ Done y j
      → many (operation depth_left N (suc k) (binary depth_left N k)) found j ≡ Done os m → chains depth_left N l x i ≡ Done (chain_of y os) m
  unfolding chains
  chain_found x y i j m k l found os above empty e f = rw above (rw e (rw (sym empty) (rw f refl)))
