-- Statements: what their readers give stands in the tokens.
use Rattle.std.proofs.Common.{◌≤◌, ◌≡◌, ℕ, zero, suc, Bool, true, false, List, [], ◌∷◌, ◌++◌, length, map, Option, Some, None, option_map, IfSome, refl, sym, ap, ◌∙◌, subst, append_assoc}
use Rattle.std.specs.List.{AllByRecursion}
use Rattle.std.proofs.lemmas.List.{append-nil}
use Rattle.java_tree.specs.declared.mark.Mark.{Mark}
use Rattle.java_tree.specs.declared.mark.Mark.TheVariants as marks
use Rattle.java_tree.specs.declared.expr.Expr.{Expr}
use Rattle.java_tree.specs.declared.stmt.Stmt.{Stmt}
use Rattle.java_tree.specs.declared.stmt.Stmt.TheVariants as stmts
use Rattle.java_tree.specs.declared.stmt.BlockStatement.{BlockStatement}
use Rattle.java_tree.specs.declared.stmt.Block.{Block}
use Rattle.java_tree.specs.declared.stmt.Catch.{Catch}
use Rattle.java_tree.specs.declared.stmt.IfArm.{IfArm}
use Rattle.java_tree.specs.declared.stmt.SwitchGroup.{SwitchGroup}
use Rattle.java_tree.specs.declared.unit.TypePlace.TheVariants as places
use Rattle.java_model.specs.Grammar.Signs.{Sign, mark, left_brace, this, super, word, literal, stray}
use Rattle.java_model.specs.Grammar.Pieces.{Yield, the, Around, each}
use Rattle.java_model.specs.Grammar.YieldExpr.{yield_initializer}
use Rattle.java_model.specs.Grammar.YieldStmt.{all_yield, all_leave, yield_final, yield_nested, yield_any_expr, yield_detail, yield_any_label, yield_any_initializer, yield_variable, yield_variables, yield_local, yield_parameter, yield_exprs, yield_for_init, yield_switch_label, behind_else, yield_arms, yield_finally, yield_stmt, yield_block_statement, yield_block, yield_catch, yield_arm, yield_group}
use Rattle.java_model.specs.Grammar.Expressions.{IsExpr, IsInitializer, nested}
use Rattle.java_model.specs.Grammar.Statements.{Ifs, any, no_short, IsStatementExpr, IsVariable, IsVariables, IsLocal, IsParameter, IsForInit, IsSwitchLabel, IsBlockStatement, local_class as a_local_class, local as a_local, statement as a_statement, IsBlockStatements, IsBlock, IsGroup, IsCatch, IsArm, IsPlain, block as a_block, empty as an_empty, labeled as a_labeled, expression as an_expression, while as a_while, do_while as a_do, for as a_for, switch as a_switch, break as a_break, continue as a_continue, return as a_return, throw as a_throw, synchronized as a_synchronized, try_catch, try_finally, assert as an_assert, IsStmtOver, plain, short_if, if_else, IsStmt}
use Rattle.java_model.proofs.Grammar.YieldStmt.{yield_stmt-Block, yield_stmt-Empty, yield_stmt-Labeled, yield_stmt-Expression, yield_stmt-If, yield_stmt-While, yield_stmt-Do, yield_stmt-For, yield_stmt-Switch, yield_stmt-Break, yield_stmt-Continue, yield_stmt-Return, yield_stmt-Throw, yield_stmt-Synchronized, yield_stmt-Try, yield_stmt-Assert, yield_block_statement-LocalClass, yield_block_statement-LocalClass-leaves, yield_block_statement-Local, yield_block_statement-Local-leaves, yield_block_statement-Statement, yield_block_statement-Statement-leaves, yield_block-parts, yield_catch-parts, yield_arm-parts, yield_group-parts, yield_group-parts-leaves}
use Rattle.java_unit_reading.specs.Reading.Steps.{State, sees, tail, next, introduced, list, unless}
use Rattle.java_unit_reading.specs.Reading.Words.{is_word}
use Rattle.java_unit_reading.specs.Reading.Nested.{Exprs, Parts, expr, statement_expr, initializer, comma_statement_expr}
use Rattle.java_unit_reading.specs.Reading.Statements.{begins_class, begins_local, ends_block, begins_label, variable, comma_variable, variables, local, parameter, any_expr, statement_exprs, for_init, local_class, local_variables, nested_statement, block_statement, any_block_statement, block, case_label, default_label, switch_label, group, any_group, catch_clause, any_catch, any_label, block_stmt, empty_stmt, labeled_stmt, expression_stmt, while_stmt, do_stmt, for_stmt, switch_stmt, break_stmt, continue_stmt, return_stmt, throw_stmt, synchronized_stmt, tried, try_stmt, assert_stmt, plain_by, plain_at, plain_stmt, arm, arms_from, if_stmt, stmt}
use Rattle.java_unit_reading.proofs.Sounding.{Stands, stands_nothing, stands_both, stands_one, stands_as, IfDone, done, fails, then, either, weaken, sees_is, sound_expect, sound_brace, sound_identifier, Sound, Whatever}
use Rattle.java_unit_reading.proofs.Listing.{spread, stays, ItemStands, sound_many}
use Rattle.java_unit_reading.proofs.WordLaws.{sound_dims, sound_type_use, introduced_yield, sound_option, eaten_yield, sound_eat, sound_unless}
use Rattle.java_unit_reading.proofs.Commas.{sound_commas}
use Rattle.java_unit_reading.proofs.Expressions.Holding.{ExprsHold, InPlace, Allowed, PartsHold}
use Rattle.java_unit_reading.proofs.NestedLaws.{sound_expr, sound_statement_expr, sound_initializer, sound_condition}

abbrev pub same_place : Around → Around
same_place a = a

pub spread_block : (xs : List BlockStatement) (a : Around)
    → spread (λ x b. (yield_block_statement x).yields b) (λ x b. (yield_block_statement x).leaves b) xs a ≡ all_yield (map yield_block_statement xs) a
spread_block [] a = refl
spread_block (x ∷ xs) a = ap (λ ps. (yield_block_statement x).yields a ++ ps) (spread_block xs ((yield_block_statement x).leaves a))

pub spread_groups : (xs : List SwitchGroup) (a : Around)
    → spread (λ x b. (yield_group x).yields b) (λ x b. (yield_group x).leaves b) xs a ≡ all_yield (map yield_group xs) a
spread_groups [] a = refl
spread_groups (x ∷ xs) a = ap (λ ps. (yield_group x).yields a ++ ps) (spread_groups xs ((yield_group x).leaves a))

pub spread_each : {A : Type 0} (f : A → Yield) (xs : List A) (a : Around) → spread (λ x b. f x b) stays xs a ≡ each (map f xs) a
spread_each f [] a = refl
spread_each f (x ∷ xs) a = ap (λ ps. f x a ++ ps) (spread_each f xs a)

module _ (E : Exprs) (P : Parts) (d : ℕ) (w : Option ℕ) (fits : d ≤ 256) (holds : ExprsHold E) (parts : PartsHold E P d) where
  sound_any_initializer : Sound (InPlace d w) (λ o. IfSome o (IsInitializer (nested d))) (λ o a. yield_any_initializer o a) (introduced marks.Assign (initializer E P d w))
  sound_any_initializer s =
      weaken (sound_option (InPlace d w) (IsInitializer (nested d)) (λ i a. yield_initializer i a) marks.Assign (initializer E P d w) (sound_initializer E P d w fits holds parts) s)
      (λ o t h. by_option o h)
    where
      by_option : (o : Option _) {t : State}
          → IfSome o (IsInitializer (nested d)) × ((a : Around) → InPlace d w a → Stands (introduced_yield marks.Assign (λ i b. yield_initializer i b) o a) s t)
          → IfSome o (IsInitializer (nested d)) × ((a : Around) → InPlace d w a → Stands (yield_any_initializer o a) s t)
      by_option None h = h
      by_option (Some x) h = h

  pub sound_variable : Sound (InPlace d w) (IsVariable (nested d)) (λ v a. yield_variable v a) (variable E P d w)
  unfolding variable
  sound_variable s =
      then (sound_identifier s) (λ i t h. then (sound_dims t) (λ n u g. then (sound_any_initializer u) (λ o v k.
      done (k.0, λ a j. stands_both h (stands_both (g.1 a tt) (k.1 a j))))))

  pub sound_variables : Sound (InPlace d w) (IsVariables (nested d)) (λ vs a. yield_variables vs a) (variables E P d w)
  unfolding variables comma_variable
  sound_variables s = sound_commas (InPlace d w) (IsVariable (nested d)) yield_variable same_place (variable E P d w) sound_variable s

  pub final_is : (b : Bool) → eaten_yield marks.Final b ≡ yield_final b
  final_is true = refl
  final_is false = refl

  pub sound_local : Sound (InPlace d w) (IsLocal (nested d)) (λ l a. yield_local l a) (local E P d w)
  unfolding local
  sound_local s =
      then (sound_eat marks.Final s) (λ b t h. then (sound_type_use t) (λ ty u g. then (sound_variables u) (λ vs v k.
      done ((g.0, k.0), λ a j. stands_both (stands_both (stands_as (final_is b) h) (g.1 a tt)) (k.1 a j)))))

  pub sound_parameter : Sound (InPlace d w) IsParameter (λ p a. yield_parameter p a) (parameter E P d w)
  unfolding parameter
  sound_parameter s =
      then (sound_eat marks.Final s) (λ b t h. then (sound_type_use t) (λ ty u g. then (sound_identifier u) (λ i v k. then (sound_dims v) (λ n x r.
      done (g.0, λ a j. stands_both (stands_both (stands_as (final_is b) h) (g.1 a tt)) (stands_both k (r.1 a tt)))))))

  sound_any_expr : (m : Mark) → Sound (InPlace d w) (λ o. IfSome o (IsExpr d)) (λ o a. yield_any_expr o a) (any_expr E P d w m)
  unfolding any_expr
  sound_any_expr m s = weaken (sound_unless (InPlace d w) (IsExpr d) (λ x a. yield_nested x a) (sees m) (expr E P d w) (sound_expr E P d w fits holds parts) s) (λ o t h. by_option o h)
    where
      by_option : (o : Option Expr) {t : State}
          → ItemStands (InPlace d w) (IsExpr d) (λ x a. yield_nested x a) s o t
          → IfSome o (IsExpr d) × ((a : Around) → InPlace d w a → Stands (yield_any_expr o a) s t)
      by_option None h = (tt, λ a i. h)
      by_option (Some x) h = h

  sound_statement_exprs : (m : Mark)
      → Sound (InPlace d w) (AllByRecursion (IsStatementExpr (nested d))) (λ xs a. yield_exprs xs a) (statement_exprs E P d w m)
  unfolding statement_exprs comma_statement_expr
  sound_statement_exprs m s =
      either (sees m s.tokens) (λ e. done (tt, λ a i. stands_nothing s))
      (λ e. weaken (sound_commas (InPlace d w) (IsStatementExpr (nested d)) yield_nested same_place (statement_expr E P d w) (sound_statement_expr E P d w fits holds parts) s) (λ xs t h. (h.0.1, h.1)))

  sound_for_init : Sound (InPlace d w) (IsForInit (nested d)) (λ i a. yield_for_init i a) (for_init E P d w)
  unfolding for_init
  sound_for_init s =
      either (begins_local s.tokens) (λ e. then (sound_local s) (λ l t h. done h)) (λ e. then (sound_statement_exprs marks.Semicolon s) (λ xs t h. done h))

  -- ---- blocks

  abbrev pub BlockItem : BlockStatement → Type 0
  BlockItem = IsBlockStatement (nested d) (IsStmt d)

  sound_local_class : Sound (InPlace d w) BlockItem (λ x a. (yield_block_statement x).yields a) (local_class E P d w)
  unfolding local_class
  sound_local_class s =
      then (parts.type_sound d places.Local w s) (λ at t h. done (
        a_local_class at refl,
        λ a i.
            stands_as (sym (yield_block_statement-LocalClass at a)) (h _ refl refl i.left i.within),
      ))

  sound_local_variables : Sound (InPlace d w) BlockItem (λ x a. (yield_block_statement x).yields a) (local_variables E P d w)
  unfolding local_variables
  sound_local_variables s =
      then (sound_local s) (λ l t h. then (sound_expect marks.Semicolon t) (λ _ u g. done (
        a_local l refl h.0,
        λ a i.
            stands_as (sym (yield_block_statement-Local l a)) (stands_both (h.1 a i) g),
      )))

  sound_nested_statement : Sound (InPlace d w) BlockItem (λ x a. (yield_block_statement x).yields a) (nested_statement E P d w)
  unfolding nested_statement
  sound_nested_statement s =
      then (parts.stmt_sound w s) (λ x t h. done (a_statement x refl (h.0 any tt), λ a i. stands_as (sym (yield_block_statement-Statement x a)) (h.1 a i)))

  sound_block_statement : Sound (InPlace d w) BlockItem (λ x a. (yield_block_statement x).yields a) (block_statement E P d w)
  unfolding block_statement
  sound_block_statement s =
      either (begins_class s.tokens) (λ e. sound_local_class s) (λ e. either (begins_local s.tokens) (λ e2. sound_local_variables s) (λ e2. sound_nested_statement s))

  pub leaves_in_place : (x : BlockStatement) (a : Around) → BlockItem x → InPlace d w a → InPlace d w ((yield_block_statement x).leaves a)
  leaves_in_place x a (a_local_class at e) i =
      subst (λ y. InPlace d w ((yield_block_statement y).leaves a)) (sym e) (subst (InPlace d w) (sym (yield_block_statement-LocalClass-leaves at a)) (record { left = i.left; within = i.within }))
  leaves_in_place x a (a_local l e h) i = subst (λ y. InPlace d w ((yield_block_statement y).leaves a)) (sym e) (subst (InPlace d w) (sym (yield_block_statement-Local-leaves l a)) i)
  leaves_in_place x a (a_statement s e h) i = subst (λ y. InPlace d w ((yield_block_statement y).leaves a)) (sym e) (subst (InPlace d w) (sym (yield_block_statement-Statement-leaves s a)) i)

  pub all_leave_in_place : (xs : List BlockStatement) (a : Around)
      → IsBlockStatements (nested d) (IsStmt d) xs → InPlace d w a
      → InPlace d w (all_leave (map yield_block_statement xs) a)
  all_leave_in_place [] a h i = i
  all_leave_in_place (x ∷ xs) a h i = all_leave_in_place xs ((yield_block_statement x).leaves a) h.1 (leaves_in_place x a h.0 i)

  pub sound_statements : Sound (InPlace d w) (IsBlockStatements (nested d) (IsStmt d)) (λ xs a. all_yield (map yield_block_statement xs) a) (list (any_block_statement E P d w))
  unfolding any_block_statement
  sound_statements s =
      weaken (sound_many (InPlace d w) BlockItem (λ x a. (yield_block_statement x).yields a) (λ x a. (yield_block_statement x).leaves a) (unless ends_block (block_statement E P d w)) leaves_in_place
      (sound_unless (InPlace d w) BlockItem (λ x a. (yield_block_statement x).yields a) ends_block (block_statement E P d w) sound_block_statement) _ [] s)
      (λ xs t g. (
        subst (IsBlockStatements (nested d) (IsStmt d)) (sym g.is) g.shapes,
        λ a i. stands_as (spread_block g.more a ∙ ap (λ ys. all_yield (map yield_block_statement ys) a) (sym g.is)) (g.stands a i),
      ))

  pub sound_block : Sound (InPlace d w) (IsBlock (nested d) (IsStmt d)) (λ b a. yield_block b a) (block E P d w)
  unfolding block
  sound_block s =
      then (sound_brace s) (λ at t h. then (sound_statements t) (λ xs u g. then (sound_expect marks.RightBrace u) (λ _ v k.
      done (g.0, λ a i. stands_as (sym (yield_block-parts _ a)) (stands_both h (stands_both (g.1 a i) k))))))

  sound_switch_label : Sound (InPlace d w) (IsSwitchLabel (nested d)) (λ l a. yield_switch_label l a) (switch_label E P d w)
  unfolding switch_label case_label default_label
  sound_switch_label s =
      either (sees marks.Case s.tokens)
      (λ e. then (sound_expect marks.Case s) (λ _ t h. then (sound_expr E P d w fits holds parts t) (λ x u g. then (sound_expect marks.Colon u) (λ _ v k.
      done (g.0, λ a i. stands_both h (stands_both (g.1 a i) k))))))
      (λ e. then (sound_expect marks.Default s) (λ _ t h. then (sound_expect marks.Colon t) (λ _ u g. done (tt, λ a i. stands_both h g))))

  sound_group : Sound (InPlace d w) (IsGroup (nested d) (IsStmt d)) (λ g a. (yield_group g).yields a) (group E P d w)
  unfolding group
  sound_group s =
      then (sound_switch_label s) (λ l t h. then (sound_statements t) (λ xs u g. done ((h.0, g.0), λ a i. stands_as (sym (yield_group-parts _ a)) (stands_both (h.1 a i) (g.1 a i)))))

  pub group_in_place : (x : SwitchGroup) (a : Around) → IsGroup (nested d) (IsStmt d) x → InPlace d w a → InPlace d w ((yield_group x).leaves a)
  group_in_place x a h i = subst (InPlace d w) (sym (yield_group-parts-leaves x a)) (all_leave_in_place x.statements a h.1 i)

  sound_groups : Sound (InPlace d w) (AllByRecursion (IsGroup (nested d) (IsStmt d))) (λ gs a. all_yield (map yield_group gs) a) (list (any_group E P d w))
  unfolding any_group
  sound_groups s =
      weaken (sound_many (InPlace d w) (IsGroup (nested d) (IsStmt d)) (λ x a. (yield_group x).yields a) (λ x a. (yield_group x).leaves a) (unless (sees marks.RightBrace) (group E P d w)) group_in_place
      (sound_unless (InPlace d w) (IsGroup (nested d) (IsStmt d)) (λ x a. (yield_group x).yields a) (sees marks.RightBrace) (group E P d w) sound_group) _ [] s)
      (λ xs t g. (
        subst (AllByRecursion (IsGroup (nested d) (IsStmt d))) (sym g.is) g.shapes,
        λ a i. stands_as (spread_groups g.more a ∙ ap (λ ys. all_yield (map yield_group ys) a) (sym g.is)) (g.stands a i),
      ))

  sound_catch : Sound (InPlace d w) (IsCatch (nested d) (IsStmt d)) (λ c a. yield_catch c a) (catch_clause E P d w)
  unfolding catch_clause
  sound_catch s =
      then (sound_expect marks.Catch s) (λ _ t h. then (sound_expect marks.LeftParen t) (λ _ u g. then (sound_parameter u) (λ p v k. then (sound_expect marks.RightParen v) (λ _ x r. then (sound_block x) (λ b y q.
      done ((k.0, q.0), λ a i. stands_as (sym (yield_catch-parts _ a)) (stands_both h (stands_both g (stands_both (k.1 a i) (stands_both r (q.1 a i)))))))))))

  sound_any_catch : (s : State) → IfDone (ItemStands (InPlace d w) (IsCatch (nested d) (IsStmt d)) (λ c a. yield_catch c a) s) (any_catch E P d w s)
  unfolding any_catch
  sound_any_catch s = either (sees marks.Catch s.tokens) (λ e. then (sound_catch s) (λ c t h. done h)) (λ e. done (stands_nothing s))

  sound_catches : Sound (InPlace d w) (AllByRecursion (IsCatch (nested d) (IsStmt d))) (λ cs a. each (map yield_catch cs) a) (list (any_catch E P d w))
  sound_catches s =
      weaken (sound_many (InPlace d w) (IsCatch (nested d) (IsStmt d)) (λ c a. yield_catch c a) stays (any_catch E P d w) (λ x a _ i. i) sound_any_catch _ [] s)
      (λ xs t g. (
        subst (AllByRecursion (IsCatch (nested d) (IsStmt d))) (sym g.is) g.shapes,
        λ a i. stands_as (spread_each yield_catch g.more a ∙ ap (λ ys. each (map yield_catch ys) a) (sym g.is)) (g.stands a i),
      ))

  sound_any_label : Sound (InPlace d w) Whatever (λ o a. yield_any_label o) (any_label E P d w)
  unfolding any_label
  sound_any_label s = either (is_word s.tokens) (λ e. then (sound_identifier s) (λ i t h. done (tt, λ a _. h))) (λ e. done (tt, λ a i. stands_nothing s))

  -- ---- statements other than `if`

  abbrev pub PlainIs : State → Stmt → State → Type 0
  PlainIs s x t = ((ifs : Ifs) → Allowed ifs t.tokens → IsPlain (nested d) (IsStmt d) ifs x)
      × ((a : Around) → InPlace d w a → Stands (yield_stmt x a) s t)

  sound_block_stmt : (s : State) → IfDone (PlainIs s) (block_stmt E P d w s)
  unfolding block_stmt
  sound_block_stmt s = then (sound_block s) (λ b t h. done (λ ifs ok. a_block b refl h.0, λ a i. stands_as (sym (yield_stmt-Block b a)) (h.1 a i)))

  sound_empty_stmt : (s : State) → IfDone (PlainIs s) (empty_stmt E P d w s)
  unfolding empty_stmt
  sound_empty_stmt s = then (sound_expect marks.Semicolon s) (λ _ t h. done (λ ifs ok. an_empty refl, λ a i. stands_as (sym (yield_stmt-Empty a)) h))

  sound_labeled_stmt : (s : State) → IfDone (PlainIs s) (labeled_stmt E P d w s)
  unfolding labeled_stmt
  sound_labeled_stmt s =
      then (sound_identifier s) (λ i t h. then (sound_expect marks.Colon t) (λ _ u g. then (parts.stmt_sound w u) (λ x v k.
      done (λ ifs ok. a_labeled i x refl (k.0 ifs ok), λ a j. stands_as (sym (yield_stmt-Labeled i x a)) (stands_both h (stands_both g (k.1 a j)))))))

  sound_expression_stmt : (s : State) → IfDone (PlainIs s) (expression_stmt E P d w s)
  unfolding expression_stmt
  sound_expression_stmt s =
      then (sound_statement_expr E P d w fits holds parts s) (λ x t h. then (sound_expect marks.Semicolon t) (λ _ u g.
      done (λ ifs ok. an_expression x refl h.0, λ a j. stands_as (sym (yield_stmt-Expression x a)) (stands_both (h.1 a j) g))))

  sound_while_stmt : (s : State) → IfDone (PlainIs s) (while_stmt E P d w s)
  unfolding while_stmt
  sound_while_stmt s =
      then (sound_expect marks.While s) (λ _ t h. then (sound_condition E P d w fits holds parts t) (λ x u g. then (parts.stmt_sound w u) (λ y v k.
      done (λ ifs ok. a_while x y refl g.0 (k.0 ifs ok), λ a j. stands_as (sym (yield_stmt-While x y a)) (stands_both h (stands_both (g.1 a j) (k.1 a j)))))))

  sound_do_stmt : (s : State) → IfDone (PlainIs s) (do_stmt E P d w s)
  unfolding do_stmt
  sound_do_stmt s =
      then (sound_expect marks.Do s) (λ _ t h. then (parts.stmt_sound w t) (λ y u g. then (sound_expect marks.While u) (λ _ v k. then (sound_condition E P d w fits holds parts v) (λ x m q. then (sound_expect marks.Semicolon m) (λ _ n r.
      done (λ ifs ok. a_do y x refl (g.0 any tt) q.0, λ a j. stands_as (sym (yield_stmt-Do y x a)) (stands_both h (stands_both (g.1 a j) (stands_both k (stands_both (q.1 a j) r))))))))))

  sound_for_stmt : (s : State) → IfDone (PlainIs s) (for_stmt E P d w s)
  unfolding for_stmt
  sound_for_stmt s =
      then (sound_expect marks.For s) (λ _ t h. then (sound_expect marks.LeftParen t) (λ _ u g. then (sound_for_init u) (λ init v k. then (sound_expect marks.Semicolon v) (λ _ m q. then (sound_any_expr marks.Semicolon m) (λ test n r.
      then (sound_expect marks.Semicolon n) (λ _ s6 h6. then (sound_statement_exprs marks.RightParen s6) (λ update s7 h7. then (sound_expect marks.RightParen s7) (λ _ s8 h8. then (parts.stmt_sound w s8) (λ y s9 h9.
      done (
        λ ifs ok. a_for init test update y refl k.0 r.0 h7.0 (h9.0 ifs ok),
        λ a j. stands_as (sym (yield_stmt-For init test update y a))
            (stands_both h (stands_both g (stands_both (k.1 a j) (stands_both q (stands_both (r.1 a j) (stands_both h6 (stands_both (h7.1 a j) (stands_both h8 (h9.1 a j))))))))),
      ))))))))))

  sound_switch_stmt : (s : State) → IfDone (PlainIs s) (switch_stmt E P d w s)
  unfolding switch_stmt
  sound_switch_stmt s =
      then (sound_expect marks.Switch s) (λ _ t h. then (sound_condition E P d w fits holds parts t) (λ x u g. then (sound_brace u) (λ at v k. then (sound_groups v) (λ gs m q. then (sound_expect marks.RightBrace m) (λ _ n r.
      done (λ ifs ok. a_switch x at gs refl g.0 q.0, λ a j. stands_as (sym (yield_stmt-Switch x at gs a)) (stands_both h (stands_both (g.1 a j) (stands_both k (stands_both (q.1 a j) r))))))))))

  sound_break_stmt : (s : State) → IfDone (PlainIs s) (break_stmt E P d w s)
  unfolding break_stmt
  sound_break_stmt s =
      then (sound_expect marks.Break s) (λ _ t h. then (sound_any_label t) (λ o u g. then (sound_expect marks.Semicolon u) (λ _ v k.
      done (λ ifs ok. a_break o refl, λ a j. stands_as (sym (yield_stmt-Break o a)) (stands_both h (stands_both (g.1 a j) k))))))

  sound_continue_stmt : (s : State) → IfDone (PlainIs s) (continue_stmt E P d w s)
  unfolding continue_stmt
  sound_continue_stmt s =
      then (sound_expect marks.Continue s) (λ _ t h. then (sound_any_label t) (λ o u g. then (sound_expect marks.Semicolon u) (λ _ v k.
      done (λ ifs ok. a_continue o refl, λ a j. stands_as (sym (yield_stmt-Continue o a)) (stands_both h (stands_both (g.1 a j) k))))))

  sound_return_stmt : (s : State) → IfDone (PlainIs s) (return_stmt E P d w s)
  unfolding return_stmt
  sound_return_stmt s =
      then (sound_expect marks.Return s) (λ _ t h. then (sound_any_expr marks.Semicolon t) (λ o u g. then (sound_expect marks.Semicolon u) (λ _ v k.
      done (λ ifs ok. a_return o refl g.0, λ a j. stands_as (sym (yield_stmt-Return o a)) (stands_both h (stands_both (g.1 a j) k))))))

  sound_throw_stmt : (s : State) → IfDone (PlainIs s) (throw_stmt E P d w s)
  unfolding throw_stmt
  sound_throw_stmt s =
      then (sound_expect marks.Throw s) (λ _ t h. then (sound_expr E P d w fits holds parts t) (λ x u g. then (sound_expect marks.Semicolon u) (λ _ v k.
      done (λ ifs ok. a_throw x refl g.0, λ a j. stands_as (sym (yield_stmt-Throw x a)) (stands_both h (stands_both (g.1 a j) k))))))

  sound_synchronized_stmt : (s : State) → IfDone (PlainIs s) (synchronized_stmt E P d w s)
  unfolding synchronized_stmt
  sound_synchronized_stmt s =
      then (sound_expect marks.Synchronized s) (λ _ t h. then (sound_condition E P d w fits holds parts t) (λ x u g. then (sound_block u) (λ b v k.
      done (λ ifs ok. a_synchronized x b refl g.0 k.0, λ a j. stands_as (sym (yield_stmt-Synchronized x b a)) (stands_both h (stands_both (g.1 a j) (k.1 a j)))))))

  sound_finally : Sound (InPlace d w) (λ o. IfSome o (IsBlock (nested d) (IsStmt d))) (λ o a. yield_finally (option_map yield_block o) a) (introduced marks.Finally (block E P d w))
  sound_finally s = weaken (sound_option (InPlace d w) (IsBlock (nested d) (IsStmt d)) (λ b a. yield_block b a) marks.Finally (block E P d w) sound_block s) (λ o t h. by_option o h)
    where
      by_option : (o : Option Block) {t : State}
          → IfSome o (IsBlock (nested d) (IsStmt d)) × ((a : Around) → InPlace d w a → Stands (introduced_yield marks.Finally (λ b c. yield_block b c) o a) s t)
          → IfSome o (IsBlock (nested d) (IsStmt d)) × ((a : Around) → InPlace d w a → Stands (yield_finally (option_map yield_block o) a) s t)
      by_option None h = h
      by_option (Some x) h = h

  sound_tried : (b : Block) (cs : List Catch) (f : Option Block) (s t : State)
      → IsBlock (nested d) (IsStmt d) b → AllByRecursion (IsCatch (nested d) (IsStmt d)) cs
      → IfSome f (IsBlock (nested d) (IsStmt d))
      → ((a : Around) → InPlace d w a → Stands (the marks.Try ∷ (yield_block b a ++ each (map yield_catch cs) a ++ yield_finally (option_map yield_block f) a)) s t)
      → IfDone (PlainIs s) (tried E P d w b cs f t)
  sound_tried b [] None s t h g k r = fails
  sound_tried b [] (Some f) s t h g k r = done (λ ifs ok. try_finally b f refl h k, λ a i. stands_as (sym (yield_stmt-Try b [] (Some f) a)) (r a i))
  sound_tried b (c ∷ cs) f s t h g k r = done (λ ifs ok. try_catch b c cs f refl h g.0 g.1 k, λ a i. stands_as (sym (yield_stmt-Try b (c ∷ cs) f a)) (r a i))

  sound_try_stmt : (s : State) → IfDone (PlainIs s) (try_stmt E P d w s)
  unfolding try_stmt
  sound_try_stmt s =
      then (sound_expect marks.Try s) (λ _ t h. then (sound_block t) (λ b u g. then (sound_catches u) (λ cs v k. then (sound_finally v) (λ f m q.
      sound_tried b cs f s m g.0 k.0 q.0 (λ a j. stands_both h (stands_both (stands_both (g.1 a j) (k.1 a j)) (q.1 a j)))))))

  sound_detail : Sound (InPlace d w) (λ o. IfSome o (IsExpr d)) (λ o a. yield_detail o a) (introduced marks.Colon (expr E P d w))
  sound_detail s = weaken (sound_option (InPlace d w) (IsExpr d) (λ x a. yield_nested x a) marks.Colon (expr E P d w) (sound_expr E P d w fits holds parts) s) (λ o t h. by_option o h)
    where
      by_option : (o : Option Expr) {t : State}
          → IfSome o (IsExpr d) × ((a : Around) → InPlace d w a → Stands (introduced_yield marks.Colon (λ x c. yield_nested x c) o a) s t)
          → IfSome o (IsExpr d) × ((a : Around) → InPlace d w a → Stands (yield_detail o a) s t)
      by_option None h = h
      by_option (Some x) h = h

  sound_assert_stmt : (s : State) → IfDone (PlainIs s) (assert_stmt E P d w s)
  unfolding assert_stmt
  sound_assert_stmt s =
      then (sound_expect marks.Assert s) (λ _ t h. then (sound_expr E P d w fits holds parts t) (λ x u g. then (sound_detail u) (λ o v k. then (sound_expect marks.Semicolon v) (λ _ m q.
      done (λ ifs ok. an_assert x o refl g.0 k.0, λ a j. stands_as (sym (yield_stmt-Assert x o a)) (stands_both h (stands_both (stands_both (g.1 a j) (k.1 a j)) q)))))))

  sound_plain_by : (m : Mark) (s : State) → IfDone (PlainIs s) (plain_by E P d w m s)
  sound_plain_by marks.Semicolon s = sound_empty_stmt s
  sound_plain_by marks.While s = sound_while_stmt s
  sound_plain_by marks.Do s = sound_do_stmt s
  sound_plain_by marks.For s = sound_for_stmt s
  sound_plain_by marks.Switch s = sound_switch_stmt s
  sound_plain_by marks.Break s = sound_break_stmt s
  sound_plain_by marks.Continue s = sound_continue_stmt s
  sound_plain_by marks.Return s = sound_return_stmt s
  sound_plain_by marks.Throw s = sound_throw_stmt s
  sound_plain_by marks.Synchronized s = sound_synchronized_stmt s
  sound_plain_by marks.Try s = sound_try_stmt s
  sound_plain_by marks.Assert s = sound_assert_stmt s
  sound_plain_by marks.If s = fails
  sound_plain_by marks.Else s = fails
  sound_plain_by marks.Catch s = fails
  sound_plain_by marks.Finally s = fails
  sound_plain_by _ s = sound_expression_stmt s

  sound_plain_at : (ts : List Sign) (s : State) → IfDone (PlainIs s) (plain_at E P d w ts s)
  sound_plain_at [] s = sound_expression_stmt s
  sound_plain_at (left_brace at ∷ ts) s = sound_block_stmt s
  sound_plain_at (mark m ∷ ts) s = sound_plain_by m s
  sound_plain_at (this x ∷ ts) s = sound_expression_stmt s
  sound_plain_at (super x ∷ ts) s = sound_expression_stmt s
  sound_plain_at (word i ∷ ts) s = either (begins_label s.tokens) (λ e. sound_labeled_stmt s) (λ e. sound_expression_stmt s)
  sound_plain_at (literal l ∷ ts) s = sound_expression_stmt s
  sound_plain_at (stray ∷ ts) s = sound_expression_stmt s

  pub sound_plain_stmt : (s : State) → IfDone (PlainIs s) (plain_stmt E P d w s)
  unfolding plain_stmt
  sound_plain_stmt s = sound_plain_at s.tokens s

  -- ---- `if`

  sound_arm : (s : State)
      → IfDone (λ x t. ((ifs : Ifs) → Allowed ifs t.tokens → IsArm (nested d) (IsStmt d) ifs x) × ((a : Around) → InPlace d w a → Stands (yield_arm x a) s t)) (arm E P d w s)
  unfolding arm
  sound_arm s =
      then (sound_expect marks.If s) (λ _ t h. then (sound_condition E P d w fits holds parts t) (λ x u g. then (parts.stmt_sound w u) (λ y v k.
      done (λ ifs ok. (g.0, k.0 ifs ok), λ a i. stands_as (sym (yield_arm-parts _ a)) (stands_both h (stands_both (g.1 a i) (k.1 a i)))))))

  -- arms of which a last one may be short, before tokens
  pub record Arms (xs : List IfArm) (ts : List Sign) : Type 0 where
    pub front : List IfArm
    pub last : IfArm
    pub is : xs ≡ front ++ last ∷ []
    pub fronts : AllByRecursion (IsArm (nested d) (IsStmt d) no_short) front
    pub lasts : (ifs : Ifs) → Allowed ifs ts → IsArm (nested d) (IsStmt d) ifs last

  abbrev Longs : List IfArm → Type 0
  Longs = AllByRecursion (IsArm (nested d) (IsStmt d) no_short)

  longs_more : (xs : List IfArm) (x : IfArm) → Longs xs → IsArm (nested d) (IsStmt d) no_short x → Longs (xs ++ x ∷ [])
  longs_more [] x h g = (g, tt)
  longs_more (y ∷ xs) x h g = (h.0, longs_more xs x h.1 g)

  all_long : (xs : List IfArm) (ts : List Sign) → Arms xs ts → sees marks.Else ts ≡ true → Longs xs
  all_long xs ts h e = subst Longs (sym h.is) (longs_more h.front h.last h.fronts (h.lasts no_short e))

  behind_more : (xs : List IfArm) (x : IfArm) (a : Around)
      → behind_else (map yield_arm (xs ++ x ∷ [])) a ≡ behind_else (map yield_arm xs) a ++ the marks.Else ∷ yield_arm x a
  behind_more [] x a = ap (λ ps. the marks.Else ∷ ps) (append-nil (yield_arm x a))
  behind_more (y ∷ xs) x a =
      ap (λ ps. the marks.Else ∷ (yield_arm y a ++ ps)) (behind_more xs x a)
      ∙ ap (λ ps. the marks.Else ∷ ps) (sym (append_assoc (yield_arm y a) (behind_else (map yield_arm xs) a) (the marks.Else ∷ yield_arm x a)))

  pub arms_more : (first : IfArm) (xs : List IfArm) (x : IfArm) (a : Around)
      → yield_arms (map yield_arm (first ∷ xs ++ x ∷ [])) a ≡ yield_arms (map yield_arm (first ∷ xs)) a ++ the marks.Else ∷ yield_arm x a
  arms_more first xs x a =
      ap (λ ps. yield_arm first a ++ ps) (behind_more xs x a) ∙ sym (append_assoc (yield_arm first a) (behind_else (map yield_arm xs) a) (the marks.Else ∷ yield_arm x a))

  abbrev pub StmtOver : State → Stmt → State → Type 0
  StmtOver s x t = ((ifs : Ifs) → Allowed ifs t.tokens → IsStmtOver (nested d) (IsStmt d) ifs x)
      × ((a : Around) → InPlace d w a → Stands (yield_stmt x a) s t)

  short_shape : (xs : List IfArm) (ts : List Sign) (ifs : Ifs) → Arms xs ts → sees marks.Else ts ≡ false
      → Allowed ifs ts → IsStmtOver (nested d) (IsStmt d) ifs (stmts.If xs None)
  short_shape xs ts any h e ok = short_if h.front h.last (ap (λ ys. stmts.If ys None) h.is) refl h.fronts (h.lasts any tt)
  short_shape xs ts no_short h e ok = absurd cc

  sound_arms : (n : ℕ) (first : IfArm) (xs : List IfArm) (s t : State) → Arms (first ∷ xs) t.tokens
      → ((a : Around) → InPlace d w a → Stands (yield_arms (map yield_arm (first ∷ xs)) a) s t)
      → IfDone (StmtOver s) (arms_from E P d w n (first ∷ xs) t)
  unfolding arms_from
  sound_arms zero first xs s t h g = fails
  sound_arms (suc n) first xs s t h g =
      either (sees marks.Else t.tokens)
      (λ e. let one = stands_one (mark marks.Else) t (next t) (sees_is marks.Else t.tokens e) refl in
      either (sees marks.If (tail t.tokens))
      (λ e2. then (sound_arm (next t)) (λ x u k. sound_arms n first (xs ++ x ∷ []) s u
      (record { front = first ∷ xs; last = x; is = refl; fronts = all_long (first ∷ xs) t.tokens h e; lasts = k.0 })
      (λ a i. stands_as (sym (arms_more first xs x a)) (stands_both (g a i) (stands_both one (k.1 a i))))))
      (λ e2. then (sound_plain_stmt (next t)) (λ x u k.
      let longs = all_long (first ∷ xs) t.tokens h e in
      done (
        λ ifs ok. if_else first xs x refl longs.0 longs.1 (k.0 ifs ok),
        λ a i. stands_as (sym (yield_stmt-If (first ∷ xs) (Some x) a)) (stands_both (g a i) (stands_both one (k.1 a i))),
      ))))
      (λ e. done (λ ifs ok. short_shape (first ∷ xs) t.tokens ifs h e ok, λ a i. stands_as (sym (yield_stmt-If (first ∷ xs) None a)) (stands_both (g a i) (stands_nothing t))))

  sound_if_stmt : (s : State) → IfDone (StmtOver s) (if_stmt E P d w s)
  unfolding if_stmt
  sound_if_stmt s =
      then (sound_arm s) (λ x t h. sound_arms (suc (length t.tokens)) x [] s t (record { front = []; last = x; is = refl; fronts = tt; lasts = h.0 })
      (λ a i. stands_as (sym (append-nil (yield_arm x a))) (h.1 a i)))

  pub sound_stmt : (s : State) → IfDone (StmtOver s) (stmt E P d w s)
  unfolding stmt
  sound_stmt s =
      either (sees marks.If s.tokens) (λ e. sound_if_stmt s) (λ e. weaken (sound_plain_stmt s) (λ x t h. (λ ifs ok. plain (h.0 ifs ok), h.1)))
