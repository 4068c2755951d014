-- In what a statement yields each brace is closed.
use Rattle.std.proofs.Common.{◌≡◌, ℕ, zero, suc, Bool, true, false, List, [], ◌∷◌, ◌++◌, Option, Some, None, option_map, map, refl, IfSome}
use Rattle.std.specs.List.{AllByRecursion}
use Rattle.java_tree.specs.declared.mark.Mark.TheVariants as marks
use Rattle.java_tree.specs.declared.names.Ident.{Ident}
use Rattle.java_tree.specs.declared.expr.Expr.{Expr}
use Rattle.java_tree.specs.declared.stmt.Variable.{Variable}
use Rattle.java_tree.specs.declared.stmt.LocalVariables.{LocalVariables}
use Rattle.java_tree.specs.declared.stmt.Parameter.{Parameter}
use Rattle.java_tree.specs.declared.stmt.ForInit.{ForInit}
use Rattle.java_tree.specs.declared.stmt.ForInit.TheVariants as inits
use Rattle.java_tree.specs.declared.stmt.SwitchLabel.{SwitchLabel}
use Rattle.java_tree.specs.declared.stmt.SwitchLabel.TheVariants as labels
use Rattle.java_tree.specs.declared.stmt.Stmt.{Stmt}
use Rattle.java_tree.specs.declared.stmt.BlockStatement.{BlockStatement}
use Rattle.java_tree.specs.declared.stmt.Block.{Block}
use Rattle.java_tree.specs.declared.stmt.Catch.{Catch}
use Rattle.java_tree.specs.declared.stmt.IfArm.{IfArm}
use Rattle.java_tree.specs.declared.stmt.SwitchGroup.{SwitchGroup}
use Rattle.java_model.specs.Grammar.Signs.{word}
use Rattle.java_model.specs.Grammar.Pieces.{Yield, Piece, token, the, Around, deeper, each, yield_dims, yield_type}
use Rattle.java_model.specs.Grammar.YieldStmt.{Step, all_yield, yield_final, yield_nested, yield_any_expr, yield_detail, yield_condition, yield_any_label, yield_any_initializer, yield_variable, yield_variables, yield_local, yield_parameter, yield_exprs, yield_for_init, yield_switch_label, behind_else, yield_arms, yield_finally, yield_stmt, yield_block_statement, yield_block, yield_catch, yield_arm, yield_group}
use Rattle.java_model.specs.Grammar.Expressions.{Nested, IsInitializer, nested}
use Rattle.java_model.specs.Grammar.Statements.{Ifs, any, no_short, IsStatementExpr, IsVariable, IsVariables, IsLocal, IsForInit, IsSwitchLabel, IsBlockStatement, local_class, local, statement, IsBlockStatements, IsBlock, IsGroup, IsCatch, IsArm, IsPlain, block, empty, labeled, expression, while, do_while, for, switch, break, continue, return, throw, synchronized, try_catch, try_finally, assert, IsStmtOver, plain, short_if, if_else, IsStmt}
use Rattle.java_model.specs.Grammar.Braces.{open_behind, IsBalanced}
use Rattle.java_model.proofs.Grammar.YieldStmt.{yield_stmt-Block, yield_stmt-Empty, yield_stmt-Labeled, yield_stmt-Expression, yield_stmt-If, yield_stmt-While, yield_stmt-Do, yield_stmt-For, yield_stmt-Switch, yield_stmt-Break, yield_stmt-Continue, yield_stmt-Return, yield_stmt-Throw, yield_stmt-Synchronized, yield_stmt-Try, yield_stmt-Assert, yield_block_statement-LocalClass, yield_block_statement-Local, yield_block_statement-Statement, yield_block-parts, yield_catch-parts, yield_arm-parts, yield_group-parts}
use Rattle.java_model.proofs.Grammar.Balanced.{balanced_both, balanced_next, balanced_nothing, balanced_braced, balanced_between, balanced_type, balanced_dims, all_balanced, balanced_each, balanced_parted, AreBalanced, AreClosed, initializer_closed, nested_closed}

-- what computes
abbrev IsOpen : List Piece → Type 0
IsOpen ps = (d : ℕ) (qs : List Piece) → open_behind (ps ++ qs) d ≡ open_behind qs d

computed : (ps : List Piece) → IsOpen ps → IsBalanced ps
computed ps h = record { keeps = h }

balanced_final : (b : Bool) → IsBalanced (yield_final b)
balanced_final true = computed _ (λ d qs. refl)
balanced_final false = balanced_nothing

balanced_label : (i : Option Ident) → IsBalanced (yield_any_label i)
balanced_label None = balanced_nothing
balanced_label (Some i) = computed _ (λ d qs. refl)

-- a mark and a statement's `;`
pub balanced_ended : (ps : List Piece) → IsBalanced ps → IsBalanced (ps ++ the marks.Semicolon ∷ [])
balanced_ended ps h = balanced_both ps _ h (computed _ (λ d qs. refl))

pub balanced_parameter : (p : Parameter) (a : Around) → IsBalanced (yield_parameter p a)
balanced_parameter p a =
    balanced_both (yield_final p.is_final ++ yield_type p.of) _ (balanced_both (yield_final p.is_final) _ (balanced_final p.is_final) (balanced_type p.of))
    (balanced_next (token (word p.name)) _ (λ d qs. refl) (balanced_dims p.dims))

-- steps that are balanced everywhere
abbrev pub AreClosedSteps : List Step → Type 0
AreClosedSteps = AllByRecursion (λ s. (a : Around) → IsBalanced (s.yields a))

pub all_closed : (ss : List Step) (a : Around) → AreClosedSteps ss → IsBalanced (all_yield ss a)
all_closed [] a h = balanced_nothing
all_closed (s ∷ ss) a h = balanced_both (s.yields a) _ (h.0 a) (all_closed ss (s.leaves a) h.1)

steps_closed : {X : Type 0} (P : X → Type 0) (f : X → Step) → ((x : X) → P x → (a : Around) → IsBalanced ((f x).yields a))
    → (xs : List X) → AllByRecursion P xs → AreClosedSteps (map f xs)
steps_closed P f k [] h = tt
steps_closed P f k (x ∷ xs) h = (k x h.0, steps_closed P f k xs h.1)

behind_closed : (ys : List Yield) (a : Around) → AreBalanced ys → IsBalanced (behind_else ys a)
behind_closed [] a h = balanced_nothing
behind_closed (y ∷ ys) a h = balanced_next (the marks.Else) _ (λ d qs. refl) (balanced_both (y a) _ (h.0 a) (behind_closed ys a h.1))

arms_closed : (ys : List Yield) (a : Around) → AreBalanced ys → IsBalanced (yield_arms ys a)
arms_closed [] a h = balanced_nothing
arms_closed (y ∷ ys) a h = balanced_both (y a) _ (h.0 a) (behind_closed ys a h.1)

module _ (N : Nested) (S : Ifs → Stmt → Type 0) (closed : AreClosed N) (stmts_closed : (ifs : Ifs) (s : Stmt) → S ifs s → (a : Around) → IsBalanced (yield_stmt s a)) where
  any_expr_closed : (x : Option Expr) (a : Around) → IfSome x N.expr → IsBalanced (yield_any_expr x a)
  any_expr_closed None a h = balanced_nothing
  any_expr_closed (Some x) a h = closed.expr x h (deeper a)

  detail_closed : (x : Option Expr) (a : Around) → IfSome x N.expr → IsBalanced (yield_detail x a)
  detail_closed None a h = balanced_nothing
  detail_closed (Some x) a h = balanced_next (the marks.Colon) _ (λ d qs. refl) (closed.expr x h (deeper a))

  condition_closed : (x : Expr) (a : Around) → N.expr x → IsBalanced (yield_condition x a)
  condition_closed x a h = balanced_between marks.LeftParen marks.RightParen (yield_nested x a) (λ d qs. refl) (λ d qs. refl) (closed.expr x h (deeper a))

  variable_closed : (v : Variable) → IsVariable N v → (a : Around) → IsBalanced (yield_variable v a)
  variable_closed v h a =
      balanced_next (token (word v.name)) _ (λ d qs. refl)
      (balanced_both (yield_dims v.dims) (yield_any_initializer v.initializer a) (balanced_dims v.dims)
      (elim v.initializer as (λ i. IfSome i (IsInitializer N) → IsBalanced (yield_any_initializer i a)) [
        | None ↦ λ _. balanced_nothing
        | Some i ↦ λ g. balanced_next (the marks.Assign) _ (λ d qs. refl) (initializer_closed N closed i g a)
      ] h))

  pub variables_closed : (vs : List Variable) (a : Around) → IsVariables N vs → IsBalanced (yield_variables vs a)
  variables_closed vs a h = balanced_parted (map yield_variable vs) a (all_balanced (IsVariable N) yield_variable variable_closed vs h.1)

  local_closed : (l : LocalVariables) (a : Around) → IsLocal N l → IsBalanced (yield_local l a)
  local_closed l a h =
      balanced_both (yield_final l.is_final ++ yield_type l.of) (yield_variables l.variables a)
      (balanced_both (yield_final l.is_final) _ (balanced_final l.is_final) (balanced_type l.of)) (variables_closed l.variables a h.1)

  nested_is_closed : (x : Expr) → IsStatementExpr N x → (a : Around) → IsBalanced (yield_nested x a)
  nested_is_closed x h a = closed.expr x h.0 (deeper a)

  exprs_closed : (xs : List Expr) (a : Around) → AllByRecursion (IsStatementExpr N) xs → IsBalanced (yield_exprs xs a)
  exprs_closed xs a h = balanced_parted (map yield_nested xs) a (all_balanced (IsStatementExpr N) yield_nested nested_is_closed xs h)

  for_init_closed : (i : ForInit) (a : Around) → IsForInit N i → IsBalanced (yield_for_init i a)
  for_init_closed (inits.Local l) a h = local_closed l a h
  for_init_closed (inits.Expressions xs) a h = exprs_closed xs a h

  label_closed : (l : SwitchLabel) (a : Around) → IsSwitchLabel N l → IsBalanced (yield_switch_label l a)
  label_closed (labels.Case x) a h =
      balanced_between marks.Case marks.Colon (yield_nested x a) (λ d qs. refl) (λ d qs. refl) (closed.expr x h (deeper a))
  label_closed labels.Default a h = computed _ (λ d qs. refl)

  block_statement_closed : (b : BlockStatement) → IsBlockStatement N S b → (a : Around) → IsBalanced ((yield_block_statement b).yields a)
  block_statement_closed b (local_class at e) a = rw (e, yield_block_statement-LocalClass) (computed _ (λ d qs. refl))
  block_statement_closed b (local l e h) a = rw (e, yield_block_statement-Local) (balanced_ended (yield_local l a) (local_closed l a h))
  block_statement_closed b (statement s e h) a = rw (e, yield_block_statement-Statement) (stmts_closed any s h (deeper a))

  pub block_statements_closed : (bs : List BlockStatement) (a : Around) → IsBlockStatements N S bs → IsBalanced (all_yield (map yield_block_statement bs) a)
  block_statements_closed bs a h = all_closed (map yield_block_statement bs) a (steps_closed (IsBlockStatement N S) yield_block_statement block_statement_closed bs h)

  pub block_closed : (b : Block) (a : Around) → IsBlock N S b → IsBalanced (yield_block b a)
  block_closed b a h = rw yield_block-parts (balanced_braced b.brace _ (block_statements_closed b.statements a h))

  group_closed : (g : SwitchGroup) → IsGroup N S g → (a : Around) → IsBalanced ((yield_group g).yields a)
  group_closed g h a =
      rw yield_group-parts (balanced_both (yield_switch_label g.label a) _ (label_closed g.label a h.0) (block_statements_closed g.statements a h.1))

  catch_closed : (c : Catch) → IsCatch N S c → (a : Around) → IsBalanced (yield_catch c a)
  catch_closed c h a =
      rw yield_catch-parts
      (balanced_next (the marks.Catch) _ (λ d qs. refl) (balanced_next (the marks.LeftParen) _ (λ d qs. refl)
      (balanced_both (yield_parameter c.parameter a) _ (balanced_parameter c.parameter a)
      (balanced_next (the marks.RightParen) _ (λ d qs. refl) (block_closed c.block a h.1)))))

  arm_closed : (ifs : Ifs) (arm : IfArm) → IsArm N S ifs arm → (a : Around) → IsBalanced (yield_arm arm a)
  arm_closed ifs arm h a =
      rw yield_arm-parts
      (balanced_next (the marks.If) _ (λ d qs. refl)
      (balanced_both (yield_condition arm.condition a) _ (condition_closed arm.condition a h.0) (stmts_closed ifs arm.then h.1 (deeper a))))

  short_arms_closed : (arms : List IfArm) (last : IfArm) → AllByRecursion (IsArm N S no_short) arms → IsArm N S any last
      → AreBalanced (map yield_arm (arms ++ last ∷ []))
  short_arms_closed [] last hs h = (arm_closed any last h, tt)
  short_arms_closed (arm ∷ arms) last hs h = (arm_closed no_short arm hs.0, short_arms_closed arms last hs.1 h)

  finally_closed : (b : Option Block) (a : Around) → IfSome b (IsBlock N S) → IsBalanced (yield_finally (option_map yield_block b) a)
  finally_closed None a h = balanced_nothing
  finally_closed (Some b) a h = balanced_next (the marks.Finally) _ (λ d qs. refl) (block_closed b a h)

  plain_closed : (ifs : Ifs) (s : Stmt) (a : Around) → IsPlain N S ifs s → IsBalanced (yield_stmt s a)
  plain_closed ifs s a (block b e h) = rw (e, yield_stmt-Block) (block_closed b a h)
  plain_closed ifs s a (empty e) = rw (e, yield_stmt-Empty) (computed _ (λ d qs. refl))
  plain_closed ifs s a (labeled i y e h) =
      rw (e, yield_stmt-Labeled)
      (balanced_next (token (word i)) _ (λ d qs. refl) (balanced_next (the marks.Colon) _ (λ d qs. refl) (stmts_closed ifs y h (deeper a))))
  plain_closed ifs s a (expression x e h) = rw (e, yield_stmt-Expression) (balanced_ended (yield_nested x a) (nested_is_closed x h a))
  plain_closed ifs s a (while x y e h g) =
      rw (e, yield_stmt-While)
      (balanced_next (the marks.While) _ (λ d qs. refl) (balanced_both (yield_condition x a) _ (condition_closed x a h) (stmts_closed ifs y g (deeper a))))
  plain_closed ifs s a (do_while y x e h g) =
      rw (e, yield_stmt-Do)
      (balanced_next (the marks.Do) _ (λ d qs. refl)
      (balanced_both (yield_stmt y (deeper a)) _ (stmts_closed any y h (deeper a))
      (balanced_next (the marks.While) _ (λ d qs. refl) (balanced_ended (yield_condition x a) (condition_closed x a g)))))
  plain_closed ifs s a (for init test update y e h g k l) =
      rw (e, yield_stmt-For)
      (balanced_next (the marks.For) _ (λ d qs. refl) (balanced_next (the marks.LeftParen) _ (λ d qs. refl)
      (balanced_both (yield_for_init init a) _ (for_init_closed init a h) (balanced_next (the marks.Semicolon) _ (λ d qs. refl)
      (balanced_both (yield_any_expr test a) _ (any_expr_closed test a g) (balanced_next (the marks.Semicolon) _ (λ d qs. refl)
      (balanced_both (yield_exprs update a) _ (exprs_closed update a k)
      (balanced_next (the marks.RightParen) _ (λ d qs. refl) (stmts_closed ifs y l (deeper a))))))))))
  plain_closed ifs s a (switch x brace groups e h g) =
      rw (e, yield_stmt-Switch)
      (balanced_next (the marks.Switch) _ (λ d qs. refl)
      (balanced_both (yield_condition x a) _ (condition_closed x a h)
      (balanced_braced brace _ (all_closed (map yield_group groups) a (steps_closed (IsGroup N S) yield_group group_closed groups g)))))
  plain_closed ifs s a (break label e) = rw (e, yield_stmt-Break) (balanced_next (the marks.Break) _ (λ d qs. refl) (balanced_ended _ (balanced_label label)))
  plain_closed ifs s a (continue label e) =
      rw (e, yield_stmt-Continue) (balanced_next (the marks.Continue) _ (λ d qs. refl) (balanced_ended _ (balanced_label label)))
  plain_closed ifs s a (return x e h) =
      rw (e, yield_stmt-Return) (balanced_next (the marks.Return) _ (λ d qs. refl) (balanced_ended (yield_any_expr x a) (any_expr_closed x a h)))
  plain_closed ifs s a (throw x e h) =
      rw (e, yield_stmt-Throw) (balanced_next (the marks.Throw) _ (λ d qs. refl) (balanced_ended (yield_nested x a) (closed.expr x h (deeper a))))
  plain_closed ifs s a (synchronized x b e h g) =
      rw (e, yield_stmt-Synchronized)
      (balanced_next (the marks.Synchronized) _ (λ d qs. refl) (balanced_both (yield_condition x a) _ (condition_closed x a h) (block_closed b a g)))
  plain_closed ifs s a (try_catch b c cs finally e h g l m) =
      rw (e, yield_stmt-Try)
      (balanced_next (the marks.Try) _ (λ d qs. refl)
      (balanced_both (yield_block b a ++ each (map yield_catch (c ∷ cs)) a) _
      (balanced_both (yield_block b a) _ (block_closed b a h)
      (balanced_each (map yield_catch (c ∷ cs)) a (all_balanced (IsCatch N S) yield_catch catch_closed (c ∷ cs) (g, l))))
      (finally_closed finally a m)))
  plain_closed ifs s a (try_finally b finally e h g) =
      rw (e, yield_stmt-Try)
      (balanced_next (the marks.Try) _ (λ d qs. refl)
      (balanced_both (yield_block b a ++ []) _ (balanced_both (yield_block b a) [] (block_closed b a h) balanced_nothing) (finally_closed (Some finally) a g)))
  plain_closed ifs s a (assert x detail e h g) =
      rw (e, yield_stmt-Assert)
      (balanced_next (the marks.Assert) _ (λ d qs. refl)
      (balanced_ended (yield_nested x a ++ yield_detail detail a)
      (balanced_both (yield_nested x a) _ (closed.expr x h (deeper a)) (detail_closed detail a g))))

  stmt_closed : (ifs : Ifs) (s : Stmt) → IsStmtOver N S ifs s → (a : Around) → IsBalanced (yield_stmt s a)
  stmt_closed ifs s (plain h) a = plain_closed ifs s a h
  stmt_closed ifs s (short_if arms last e k hs h) a =
      rw (e, yield_stmt-If)
      (balanced_both (yield_arms (map yield_arm (arms ++ last ∷ [])) a) [] (arms_closed (map yield_arm (arms ++ last ∷ [])) a (short_arms_closed arms last hs h)) balanced_nothing)
  stmt_closed ifs s (if_else arm arms other e h hs p) a =
      rw (e, yield_stmt-If)
      (balanced_both (yield_arms (map yield_arm (arm ∷ arms)) a) (the marks.Else ∷ yield_stmt other a)
      (arms_closed (map yield_arm (arm ∷ arms)) a (all_balanced (IsArm N S no_short) yield_arm (arm_closed no_short) (arm ∷ arms) (h, hs)))
      (balanced_next (the marks.Else) _ (λ d qs. refl) (plain_closed ifs other a p)))

pub stmts_are_closed : (d : ℕ) (ifs : Ifs) (s : Stmt) → IsStmt d ifs s → (a : Around) → IsBalanced (yield_stmt s a)
unfolding IsStmt
stmts_are_closed zero ifs s h a = absurd h
stmts_are_closed (suc d) ifs s h a = stmt_closed (nested d) (IsStmt d) (nested_closed d) (stmts_are_closed d) ifs s h a
