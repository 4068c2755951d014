-- What the parsers of expressions answer, with the bodies that were read after them.
use Rattle.std.proofs.Common.{◌≡◌, ℕ, zero, suc, ◌-◌, ◌≤◌, List, [], ◌∷◌, length, drop, map, Option, Some, None, Result, Ok, Err, refl, sym, ap, ◌∙◌, subst, arith}
use Rattle.std.specs.Prelude.{◌≢◌}
use Rattle.java_tree.specs.declared.expr.ArrayInitializer.{ArrayInitializer}
use Rattle.java_tree.specs.declared.expr.Expr.{Expr}
use Rattle.java_tree.specs.declared.expr.Primary.{Primary}
use Rattle.java_tree.specs.declared.unit.TypeDecl.{TypeDecl}
use Rattle.java_model.specs.Grammar.Signs.{Sign}
use Rattle.java_model.specs.Grammar.Pieces.{Piece, Around, deeper}
use Rattle.java_model.specs.Grammar.YieldExpr.{yield_expr, yield_array, yield_primary}
use Rattle.java_expr_reading.specs.Input.{Input, Outcome, Done as done_by, Fail as fail_by}
use Rattle.java_expr_reading.specs.Answers.{input_at}
use Rattle.java_expr_reading.specs.Reading.Expressions.{read_nest, read_goal, read_qualifier}
use Rattle.java_expr_reading.specs.declared.fault.ExprFault.{ExprFault}
use Rattle.java_expr_reading.specs.declared.fault.ExprFault.TheVariants as expr_faults
use Rattle.java_expr_reading.specs.declared.parsed.Goal.TheVariants as goals
use Rattle.java_expr_reading.specs.declared.parsed.PendingBody.{PendingBody}
use Rattle.java_unit_reading.specs.declared.fault.UnitFault.{UnitFault}
use Rattle.java_unit_reading.specs.declared.fault.UnitFault.TheVariants.{NoMemory}
use Rattle.java_unit_reading.specs.Bodies.{body_from, qualifier, qualifier_of}
use Rattle.java_unit_reading.specs.Gives.{unit_fault}
use Rattle.java_unit_reading.specs.Reading.Steps.{State, state, Done, Fail, and_then, pure}
use Rattle.java_unit_reading.specs.Reading.Nested.{Parts, Found, Here, Nothing, around, bodies, settle, expr, array}
use Rattle.java_unit_reading.specs.Reading.Expressions.{exprs}
use Rattle.java_unit_reading.proofs.Expressions.Placed.{IsHere, expr_here, no_expr_here, array_here, no_array_here, primary_here, no_primary_here, settled, not_settled, nothing_settled}

-- the place after a tree, in all tokens
after : List Sign → ℕ → List PendingBody → Input
after all next bs = record { rest = drop next all; at = next; bodies = bs }

back : (d : ℕ) → d ≤ 256 → 256 - (256 - d) ≡ d
back d h = omega arith

-- an outcome that is none, from a fault that isn't a want of memory
fail_of : {A : Type 0} (o : Outcome A) (f : ExprFault) → (f ≢ expr_faults.NoMemory → o ≡ fail_by) → unit_fault f ≢ NoMemory → o ≡ fail_by
fail_of o expr_faults.NoExpr h n = h (λ e. cc)
fail_of o expr_faults.NoMemory h n = absurd (n refl)

-- the optional Primary, from what was settled
module _ (P : Parts) (d : ℕ) (w : Option ℕ) where
  found_done : (read : Found Primary) (x : Primary) (us : List Sign) (s t : State) → read ≡ Here x us
      → settle exprs P d w yield_primary read s ≡ Done x t → qualifier_of exprs P d w read s ≡ Done (Some x) t
  found_done read x us s t here e =
      let k : settle exprs P d w yield_primary (Here x us) s ≡ Done x t = ap (λ r. settle exprs P d w yield_primary r s) (sym here) ∙ e in
      ap (λ r. qualifier_of exprs P d w r s) here ∙ ap (λ o. and_then o (λ q. pure (Some q))) k

  found_fails : (read : Found Primary) (x : Primary) (us : List Sign) (s : State) → read ≡ Here x us
      → settle exprs P d w yield_primary read s ≡ Fail → qualifier_of exprs P d w read s ≡ Fail
  found_fails read x us s here e =
      let k : settle exprs P d w yield_primary (Here x us) s ≡ Fail = ap (λ r. settle exprs P d w yield_primary r s) (sym here) ∙ e in
      ap (λ r. qualifier_of exprs P d w r s) here ∙ ap (λ o. and_then o (λ q. pure (Some q))) k

module _ (P : Parts) (all : List Sign) (at d : ℕ) (w : Option ℕ) (types : List TypeDecl) (few : d ≤ 256) (place : at ≤ length all) where
  -- ---- one tree of any kind

  kind_done : {A : Type 0} (Y : A → Around → List Piece) (read : Found A) (x : A) (next : ℕ) (bs cs : List PendingBody) (before more : List TypeDecl)
      → IsHere all at read (λ y. Y y (around d)) x (after all next bs) → cs ≡ bs → before ≡ types
      → bodies exprs P d w (map (body_from all) cs) before ≡ Some more
      → settle exprs P d w Y read (state types (drop at all)) ≡ Done x (state more (drop next all))
  unfolding after
  kind_done Y read x next bs cs before more here same types_same e =
      let b : bodies exprs P d w (map (body_from all) bs) types ≡ Some more =
      ap (λ l. bodies exprs P d w (map (body_from all) l) types) (sym same) ∙ ap (λ ts. bodies exprs P d w (map (body_from all) cs) ts) (sym types_same) ∙ e in
      settled P d w Y all at types more read x (after all next bs) here b

  kind_fails : {A : Type 0} (Y : A → Around → List Piece) (read : Found A) (x : A) (next : ℕ) (bs cs : List PendingBody) (before : List TypeDecl)
      → IsHere all at read (λ y. Y y (around d)) x (after all next bs) → cs ≡ bs → before ≡ types
      → bodies exprs P d w (map (body_from all) cs) before ≡ None
      → settle exprs P d w Y read (state types (drop at all)) ≡ Fail
  unfolding after
  kind_fails Y read x next bs cs before here same types_same e =
      let b : bodies exprs P d w (map (body_from all) bs) types ≡ None =
      ap (λ l. bodies exprs P d w (map (body_from all) l) types) (sym same) ∙ ap (λ ts. bodies exprs P d w (map (body_from all) cs) ts) (sym types_same) ∙ e in
      not_settled P d w Y all at types read x (after all next bs) here b

  -- ---- an Expr

  expr_is_here : (x : Expr) (next : ℕ) (bs : List PendingBody)
      → read_goal goals.Any (256 - (256 - d)) (input_at all at) ≡ done_by x (record { rest = drop next all; at = next; bodies = bs })
      → IsHere all at (exprs.expr d (drop at all)) (λ y. yield_expr y (deeper (around d))) x (after all next bs)
  unfolding after
  expr_is_here x next bs e = expr_here all at d x (after all next bs) few place (ap (λ n. read_goal goals.Any n (input_at all at)) (sym (back d few)) ∙ e)

  pub expr_done : (x y : Expr) (next : ℕ) (bs cs : List PendingBody) (before more : List TypeDecl)
      → read_goal goals.Any (256 - (256 - d)) (input_at all at) ≡ done_by x (record { rest = drop next all; at = next; bodies = bs })
      → y ≡ x → cs ≡ bs → before ≡ types
      → bodies exprs P d w (map (body_from all) cs) before ≡ Some more
      → expr exprs P d w (state types (drop at all)) ≡ Done y (state more (drop next all))
  unfolding expr
  expr_done x y next bs cs before more e tree same types_same b =
      kind_done (λ z a. yield_expr z (deeper a)) (exprs.expr d (drop at all)) x next bs cs before more (expr_is_here x next bs e) same types_same b
      ∙ ap (λ z. Done z (state more (drop next all))) (sym tree)

  pub expr_bodies_fail : (x : Expr) (next : ℕ) (bs cs : List PendingBody) (before : List TypeDecl)
      → read_goal goals.Any (256 - (256 - d)) (input_at all at) ≡ done_by x (record { rest = drop next all; at = next; bodies = bs })
      → cs ≡ bs → before ≡ types
      → bodies exprs P d w (map (body_from all) cs) before ≡ None
      → expr exprs P d w (state types (drop at all)) ≡ Fail
  unfolding expr
  expr_bodies_fail x next bs cs before e same types_same b =
      kind_fails (λ z a. yield_expr z (deeper a)) (exprs.expr d (drop at all)) x next bs cs before (expr_is_here x next bs e) same types_same b

  pub expr_fails : (f : ExprFault)
      → (f ≢ expr_faults.NoMemory → read_goal goals.Any (256 - (256 - d)) (input_at all at) ≡ fail_by)
      → unit_fault f ≢ NoMemory
      → expr exprs P d w (state types (drop at all)) ≡ Fail
  unfolding expr
  expr_fails f h n =
      let e = ap (λ k. read_goal goals.Any k (input_at all at)) (sym (back d few)) ∙ fail_of (read_goal goals.Any (256 - (256 - d)) (input_at all at)) f h n in
      nothing_settled P d w (λ z a. yield_expr z (deeper a)) all at types (exprs.expr d (drop at all)) (no_expr_here all at d few e)

  -- ---- an ArrayInitializer

  array_is_here : (x : ArrayInitializer) (next : ℕ) (bs : List PendingBody)
      → (read_nest (256 - (256 - d))).braces (input_at all at) ≡ done_by x (record { rest = drop next all; at = next; bodies = bs })
      → IsHere all at (exprs.array d (drop at all)) (λ y. yield_array y (around d)) x (after all next bs)
  unfolding after
  array_is_here x next bs e = array_here all at d x (after all next bs) few place (ap (λ n. (read_nest n).braces (input_at all at)) (sym (back d few)) ∙ e)

  pub array_done : (x y : ArrayInitializer) (next : ℕ) (bs cs : List PendingBody) (before more : List TypeDecl)
      → (read_nest (256 - (256 - d))).braces (input_at all at) ≡ done_by x (record { rest = drop next all; at = next; bodies = bs })
      → y ≡ x → cs ≡ bs → before ≡ types
      → bodies exprs P d w (map (body_from all) cs) before ≡ Some more
      → array exprs P d w (state types (drop at all)) ≡ Done y (state more (drop next all))
  unfolding array
  array_done x y next bs cs before more e tree same types_same b =
      kind_done yield_array (exprs.array d (drop at all)) x next bs cs before more (array_is_here x next bs e) same types_same b
      ∙ ap (λ z. Done z (state more (drop next all))) (sym tree)

  pub array_bodies_fail : (x : ArrayInitializer) (next : ℕ) (bs cs : List PendingBody) (before : List TypeDecl)
      → (read_nest (256 - (256 - d))).braces (input_at all at) ≡ done_by x (record { rest = drop next all; at = next; bodies = bs })
      → cs ≡ bs → before ≡ types
      → bodies exprs P d w (map (body_from all) cs) before ≡ None
      → array exprs P d w (state types (drop at all)) ≡ Fail
  unfolding array
  array_bodies_fail x next bs cs before e same types_same b =
      kind_fails yield_array (exprs.array d (drop at all)) x next bs cs before (array_is_here x next bs e) same types_same b

  pub array_fails : (f : ExprFault)
      → (f ≢ expr_faults.NoMemory → (read_nest (256 - (256 - d))).braces (input_at all at) ≡ fail_by)
      → unit_fault f ≢ NoMemory
      → array exprs P d w (state types (drop at all)) ≡ Fail
  unfolding array
  array_fails f h n =
      let e = ap (λ k. (read_nest k).braces (input_at all at)) (sym (back d few)) ∙ fail_of ((read_nest (256 - (256 - d))).braces (input_at all at)) f h n in
      nothing_settled P d w yield_array all at types (exprs.array d (drop at all)) (no_array_here all at d few e)

  -- ---- a Primary before `.super(`

  primary_is_here : (x : Primary) (next : ℕ) (bs : List PendingBody)
      → read_qualifier (256 - (256 - d)) (input_at all at) ≡ done_by x (record { rest = drop next all; at = next; bodies = bs })
      → IsHere all at (exprs.primary d (drop at all)) (λ y. yield_primary y (around d)) x (after all next bs)
  unfolding after
  primary_is_here x next bs e = primary_here all at d x (after all next bs) few place (ap (λ n. read_qualifier n (input_at all at)) (sym (back d few)) ∙ e)

  pub primary_done : (x y : Primary) (next : ℕ) (bs cs : List PendingBody) (before more : List TypeDecl)
      → read_qualifier (256 - (256 - d)) (input_at all at) ≡ done_by x (record { rest = drop next all; at = next; bodies = bs })
      → y ≡ x → cs ≡ bs → before ≡ types
      → bodies exprs P d w (map (body_from all) cs) before ≡ Some more
      → qualifier exprs P d w (state types (drop at all)) ≡ Done (Some y) (state more (drop next all))
  unfolding qualifier after
  primary_done x y next bs cs before more e tree same types_same b =
      let here = primary_is_here x next bs e in
      let s = kind_done yield_primary (exprs.primary d (drop at all)) x next bs cs before more here same types_same b in
      found_done P d w (exprs.primary d (drop at all)) x (drop next all) (state types (drop at all)) (state more (drop next all)) here.here s
      ∙ ap (λ z. Done (Some z) (state more (drop next all))) (sym tree)

  pub primary_bodies_fail : (x : Primary) (next : ℕ) (bs cs : List PendingBody) (before : List TypeDecl)
      → read_qualifier (256 - (256 - d)) (input_at all at) ≡ done_by x (record { rest = drop next all; at = next; bodies = bs })
      → cs ≡ bs → before ≡ types
      → bodies exprs P d w (map (body_from all) cs) before ≡ None
      → qualifier exprs P d w (state types (drop at all)) ≡ Fail
  unfolding qualifier after
  primary_bodies_fail x next bs cs before e same types_same b =
      let here = primary_is_here x next bs e in
      let s = kind_fails yield_primary (exprs.primary d (drop at all)) x next bs cs before here same types_same b in
      found_fails P d w (exprs.primary d (drop at all)) x (drop next all) (state types (drop at all)) here.here s

  pub no_primary_done : read_qualifier (256 - (256 - d)) (input_at all at) ≡ fail_by
      → qualifier exprs P d w (state types (drop at all)) ≡ Done None (state types (drop at all))
  unfolding qualifier
  no_primary_done h =
      let e = no_primary_here all at d few (ap (λ k. read_qualifier k (input_at all at)) (sym (back d few)) ∙ h) in rw e refl
