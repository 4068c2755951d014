-- What each form of a statement yields.
use Rattle.std.proofs.Common.{◌≡◌, ℕ, List, [], ◌∷◌, ◌++◌, Option, Some, None, option_map, map, sym, ap, ◌∙◌}
use Rattle.java_tree.specs.declared.mark.Mark.TheVariants as marks
use Rattle.java_tree.specs.declared.unit.TypePlace.TheVariants as places
use Rattle.java_tree.specs.declared.names.Ident.{Ident}
use Rattle.java_tree.specs.declared.expr.Expr.{Expr}
use Rattle.java_tree.specs.declared.stmt.LocalVariables.{LocalVariables}
use Rattle.java_tree.specs.declared.stmt.ForInit.{ForInit}
use Rattle.java_tree.specs.declared.stmt.Stmt.{Stmt, fold-roll-Stmt}
use Rattle.java_tree.specs.declared.stmt.Stmt.TheVariants as stmts
use Rattle.java_tree.specs.declared.stmt.BlockStatement.{fold-roll-BlockStatement}
use Rattle.java_tree.specs.declared.stmt.BlockStatement.TheVariants as block_statements
use Rattle.java_tree.specs.declared.stmt.BlockStatement.TheOpen.{Stmt-F, BlockStatement-F}
use Rattle.java_tree.specs.declared.stmt.Block.{Block, fold_out-Block}
use Rattle.java_tree.specs.declared.stmt.Catch.{Catch, fold_out-Catch}
use Rattle.java_tree.specs.declared.stmt.IfArm.{IfArm, fold_out-IfArm}
use Rattle.java_tree.specs.declared.stmt.SwitchGroup.{SwitchGroup, fold_out-SwitchGroup}
use Rattle.java_model.specs.Grammar.Signs.{word}
use Rattle.java_model.specs.Grammar.Pieces.{Yield, token, hole, the, Around, deeper, with_local, each}
use Rattle.java_model.specs.Grammar.YieldStmt.{Step, all_yield, all_leave, yield_nested, yield_any_expr, yield_detail, yield_condition, yield_any_label, yield_local, yield_parameter, yield_exprs, yield_for_init, yield_switch_label, yield_arms, yield_else, yield_finally, yield_braced, stmt_step, block_statement_step, block_step, catch_step, arm_step, group_step, yield_stmt, yield_block_statement, yield_block, yield_catch, yield_arm, yield_group}

pub yield_stmt-Block : (block : Block) (a : Around) → yield_stmt (stmts.Block block) a ≡ yield_block block a
unfolding yield_stmt yield_block_statement yield_block yield_catch yield_arm yield_group
yield_stmt-Block block a = ap (λ y. y a) (ap yield_stmt (sym (stmts.rolls-Block block)) ∙ fold-roll-Stmt Step Yield Yield Yield Yield Step block_statement_step stmt_step block_step catch_step arm_step group_step (Stmt-F.Block block))

pub yield_stmt-Empty : (a : Around) → yield_stmt stmts.Empty a ≡ the marks.Semicolon ∷ []
unfolding yield_stmt yield_block_statement yield_block yield_catch yield_arm yield_group
yield_stmt-Empty a = ap (λ y. y a) (ap yield_stmt (sym stmts.rolls-Empty) ∙ fold-roll-Stmt Step Yield Yield Yield Yield Step block_statement_step stmt_step block_step catch_step arm_step group_step Stmt-F.Empty)

pub yield_stmt-Labeled : (i : Ident) (s : Stmt) (a : Around) → yield_stmt (stmts.Labeled i s) a ≡ token (word i) ∷ the marks.Colon ∷ yield_stmt s (deeper a)
unfolding yield_stmt yield_block_statement yield_block yield_catch yield_arm yield_group
yield_stmt-Labeled i s a = ap (λ y. y a) (ap yield_stmt (sym (stmts.rolls-Labeled i s)) ∙ fold-roll-Stmt Step Yield Yield Yield Yield Step block_statement_step stmt_step block_step catch_step arm_step group_step (Stmt-F.Labeled i s))

pub yield_stmt-Expression : (x : Expr) (a : Around) → yield_stmt (stmts.Expression x) a ≡ yield_nested x a ++ the marks.Semicolon ∷ []
unfolding yield_stmt yield_block_statement yield_block yield_catch yield_arm yield_group
yield_stmt-Expression x a = ap (λ y. y a) (ap yield_stmt (sym (stmts.rolls-Expression x)) ∙ fold-roll-Stmt Step Yield Yield Yield Yield Step block_statement_step stmt_step block_step catch_step arm_step group_step (Stmt-F.Expression x))

pub yield_stmt-If : (arms : List IfArm) (last : Option Stmt) (a : Around) → yield_stmt (stmts.If arms last) a ≡ yield_arms (map yield_arm arms) a ++ yield_else (option_map yield_stmt last) a
unfolding yield_stmt yield_block_statement yield_block yield_catch yield_arm yield_group
yield_stmt-If arms None a = ap (λ y. y a) (ap yield_stmt (sym (stmts.rolls-If arms None)) ∙ fold-roll-Stmt Step Yield Yield Yield Yield Step block_statement_step stmt_step block_step catch_step arm_step group_step (Stmt-F.If arms None))
yield_stmt-If arms (Some last) a = ap (λ y. y a) (ap yield_stmt (sym (stmts.rolls-If arms (Some last))) ∙ fold-roll-Stmt Step Yield Yield Yield Yield Step block_statement_step stmt_step block_step catch_step arm_step group_step (Stmt-F.If arms (Some last)))

pub yield_stmt-While : (x : Expr) (s : Stmt) (a : Around) → yield_stmt (stmts.While x s) a ≡ the marks.While ∷ (yield_condition x a ++ yield_stmt s (deeper a))
unfolding yield_stmt yield_block_statement yield_block yield_catch yield_arm yield_group
yield_stmt-While x s a = ap (λ y. y a) (ap yield_stmt (sym (stmts.rolls-While x s)) ∙ fold-roll-Stmt Step Yield Yield Yield Yield Step block_statement_step stmt_step block_step catch_step arm_step group_step (Stmt-F.While x s))

pub yield_stmt-Do : (s : Stmt) (x : Expr) (a : Around) → yield_stmt (stmts.Do s x) a ≡ the marks.Do ∷ (yield_stmt s (deeper a) ++ the marks.While ∷ (yield_condition x a ++ the marks.Semicolon ∷ []))
unfolding yield_stmt yield_block_statement yield_block yield_catch yield_arm yield_group
yield_stmt-Do s x a = ap (λ y. y a) (ap yield_stmt (sym (stmts.rolls-Do s x)) ∙ fold-roll-Stmt Step Yield Yield Yield Yield Step block_statement_step stmt_step block_step catch_step arm_step group_step (Stmt-F.Do s x))

pub yield_stmt-For : (init : ForInit) (test : Option Expr) (update : List Expr) (s : Stmt) (a : Around) → yield_stmt (stmts.For init test update s) a ≡ the marks.For ∷ the marks.LeftParen ∷ (yield_for_init init a ++ the marks.Semicolon ∷ (yield_any_expr test a ++ the marks.Semicolon ∷ (yield_exprs update a ++ the marks.RightParen ∷ yield_stmt s (deeper a))))
unfolding yield_stmt yield_block_statement yield_block yield_catch yield_arm yield_group
yield_stmt-For init test update s a = ap (λ y. y a) (ap yield_stmt (sym (stmts.rolls-For init test update s)) ∙ fold-roll-Stmt Step Yield Yield Yield Yield Step block_statement_step stmt_step block_step catch_step arm_step group_step (Stmt-F.For init test update s))

pub yield_stmt-Switch : (x : Expr) (brace : ℕ) (groups : List SwitchGroup) (a : Around) → yield_stmt (stmts.Switch x brace groups) a ≡ the marks.Switch ∷ (yield_condition x a ++ yield_braced brace (map yield_group groups) a)
unfolding yield_stmt yield_block_statement yield_block yield_catch yield_arm yield_group
yield_stmt-Switch x brace groups a = ap (λ y. y a) (ap yield_stmt (sym (stmts.rolls-Switch x brace groups)) ∙ fold-roll-Stmt Step Yield Yield Yield Yield Step block_statement_step stmt_step block_step catch_step arm_step group_step (Stmt-F.Switch x brace groups))

pub yield_stmt-Break : (label : Option Ident) (a : Around) → yield_stmt (stmts.Break label) a ≡ the marks.Break ∷ (yield_any_label label ++ the marks.Semicolon ∷ [])
unfolding yield_stmt yield_block_statement yield_block yield_catch yield_arm yield_group
yield_stmt-Break label a = ap (λ y. y a) (ap yield_stmt (sym (stmts.rolls-Break label)) ∙ fold-roll-Stmt Step Yield Yield Yield Yield Step block_statement_step stmt_step block_step catch_step arm_step group_step (Stmt-F.Break label))

pub yield_stmt-Continue : (label : Option Ident) (a : Around) → yield_stmt (stmts.Continue label) a ≡ the marks.Continue ∷ (yield_any_label label ++ the marks.Semicolon ∷ [])
unfolding yield_stmt yield_block_statement yield_block yield_catch yield_arm yield_group
yield_stmt-Continue label a = ap (λ y. y a) (ap yield_stmt (sym (stmts.rolls-Continue label)) ∙ fold-roll-Stmt Step Yield Yield Yield Yield Step block_statement_step stmt_step block_step catch_step arm_step group_step (Stmt-F.Continue label))

pub yield_stmt-Return : (x : Option Expr) (a : Around) → yield_stmt (stmts.Return x) a ≡ the marks.Return ∷ (yield_any_expr x a ++ the marks.Semicolon ∷ [])
unfolding yield_stmt yield_block_statement yield_block yield_catch yield_arm yield_group
yield_stmt-Return x a = ap (λ y. y a) (ap yield_stmt (sym (stmts.rolls-Return x)) ∙ fold-roll-Stmt Step Yield Yield Yield Yield Step block_statement_step stmt_step block_step catch_step arm_step group_step (Stmt-F.Return x))

pub yield_stmt-Throw : (x : Expr) (a : Around) → yield_stmt (stmts.Throw x) a ≡ the marks.Throw ∷ (yield_nested x a ++ the marks.Semicolon ∷ [])
unfolding yield_stmt yield_block_statement yield_block yield_catch yield_arm yield_group
yield_stmt-Throw x a = ap (λ y. y a) (ap yield_stmt (sym (stmts.rolls-Throw x)) ∙ fold-roll-Stmt Step Yield Yield Yield Yield Step block_statement_step stmt_step block_step catch_step arm_step group_step (Stmt-F.Throw x))

pub yield_stmt-Synchronized : (x : Expr) (block : Block) (a : Around) → yield_stmt (stmts.Synchronized x block) a ≡ the marks.Synchronized ∷ (yield_condition x a ++ yield_block block a)
unfolding yield_stmt yield_block_statement yield_block yield_catch yield_arm yield_group
yield_stmt-Synchronized x block a = ap (λ y. y a) (ap yield_stmt (sym (stmts.rolls-Synchronized x block)) ∙ fold-roll-Stmt Step Yield Yield Yield Yield Step block_statement_step stmt_step block_step catch_step arm_step group_step (Stmt-F.Synchronized x block))

pub yield_stmt-Try : (block : Block) (catches : List Catch) (finally : Option Block) (a : Around) → yield_stmt (stmts.Try block catches finally) a ≡ the marks.Try ∷ (yield_block block a ++ each (map yield_catch catches) a ++ yield_finally (option_map yield_block finally) a)
unfolding yield_stmt yield_block_statement yield_block yield_catch yield_arm yield_group
yield_stmt-Try block catches None a = ap (λ y. y a) (ap yield_stmt (sym (stmts.rolls-Try block catches None)) ∙ fold-roll-Stmt Step Yield Yield Yield Yield Step block_statement_step stmt_step block_step catch_step arm_step group_step (Stmt-F.Try block catches None))
yield_stmt-Try block catches (Some finally) a = ap (λ y. y a) (ap yield_stmt (sym (stmts.rolls-Try block catches (Some finally))) ∙ fold-roll-Stmt Step Yield Yield Yield Yield Step block_statement_step stmt_step block_step catch_step arm_step group_step (Stmt-F.Try block catches (Some finally)))

pub yield_stmt-Assert : (x : Expr) (y : Option Expr) (a : Around) → yield_stmt (stmts.Assert x y) a ≡ the marks.Assert ∷ (yield_nested x a ++ yield_detail y a ++ the marks.Semicolon ∷ [])
unfolding yield_stmt yield_block_statement yield_block yield_catch yield_arm yield_group
yield_stmt-Assert x y a = ap (λ y. y a) (ap yield_stmt (sym (stmts.rolls-Assert x y)) ∙ fold-roll-Stmt Step Yield Yield Yield Yield Step block_statement_step stmt_step block_step catch_step arm_step group_step (Stmt-F.Assert x y))

pub yield_block_statement-LocalClass : (brace : ℕ) (a : Around) → (yield_block_statement (block_statements.LocalClass brace)).yields a ≡ hole (record { brace = brace; place = places.Local; created = []; around = a }) ∷ []
unfolding yield_stmt yield_block_statement yield_block yield_catch yield_arm yield_group
yield_block_statement-LocalClass brace a = ap (λ y. y.yields a) (ap yield_block_statement (sym (block_statements.rolls-LocalClass brace)) ∙ fold-roll-BlockStatement Step Yield Yield Yield Yield Step block_statement_step stmt_step block_step catch_step arm_step group_step (BlockStatement-F.LocalClass brace))

pub yield_block_statement-LocalClass-leaves : (brace : ℕ) (a : Around) → (yield_block_statement (block_statements.LocalClass brace)).leaves a ≡ with_local brace a
unfolding yield_stmt yield_block_statement yield_block yield_catch yield_arm yield_group
yield_block_statement-LocalClass-leaves brace a = ap (λ y. y.leaves a) (ap yield_block_statement (sym (block_statements.rolls-LocalClass brace)) ∙ fold-roll-BlockStatement Step Yield Yield Yield Yield Step block_statement_step stmt_step block_step catch_step arm_step group_step (BlockStatement-F.LocalClass brace))

pub yield_block_statement-Local : (l : LocalVariables) (a : Around) → (yield_block_statement (block_statements.Local l)).yields a ≡ yield_local l a ++ the marks.Semicolon ∷ []
unfolding yield_stmt yield_block_statement yield_block yield_catch yield_arm yield_group
yield_block_statement-Local l a = ap (λ y. y.yields a) (ap yield_block_statement (sym (block_statements.rolls-Local l)) ∙ fold-roll-BlockStatement Step Yield Yield Yield Yield Step block_statement_step stmt_step block_step catch_step arm_step group_step (BlockStatement-F.Local l))

pub yield_block_statement-Local-leaves : (l : LocalVariables) (a : Around) → (yield_block_statement (block_statements.Local l)).leaves a ≡ a
unfolding yield_stmt yield_block_statement yield_block yield_catch yield_arm yield_group
yield_block_statement-Local-leaves l a = ap (λ y. y.leaves a) (ap yield_block_statement (sym (block_statements.rolls-Local l)) ∙ fold-roll-BlockStatement Step Yield Yield Yield Yield Step block_statement_step stmt_step block_step catch_step arm_step group_step (BlockStatement-F.Local l))

pub yield_block_statement-Statement : (s : Stmt) (a : Around) → (yield_block_statement (block_statements.Statement s)).yields a ≡ yield_stmt s (deeper a)
unfolding yield_stmt yield_block_statement yield_block yield_catch yield_arm yield_group
yield_block_statement-Statement s a = ap (λ y. y.yields a) (ap yield_block_statement (sym (block_statements.rolls-Statement s)) ∙ fold-roll-BlockStatement Step Yield Yield Yield Yield Step block_statement_step stmt_step block_step catch_step arm_step group_step (BlockStatement-F.Statement s))

pub yield_block_statement-Statement-leaves : (s : Stmt) (a : Around) → (yield_block_statement (block_statements.Statement s)).leaves a ≡ a
unfolding yield_stmt yield_block_statement yield_block yield_catch yield_arm yield_group
yield_block_statement-Statement-leaves s a = ap (λ y. y.leaves a) (ap yield_block_statement (sym (block_statements.rolls-Statement s)) ∙ fold-roll-BlockStatement Step Yield Yield Yield Yield Step block_statement_step stmt_step block_step catch_step arm_step group_step (BlockStatement-F.Statement s))

pub yield_block-parts : (b : Block) (a : Around) → yield_block b a ≡ yield_braced b.brace (map yield_block_statement b.statements) a
unfolding yield_stmt yield_block_statement yield_block yield_catch yield_arm yield_group
yield_block-parts b a = ap (λ y. y a) (fold_out-Block Step Yield Yield Yield Yield Step block_statement_step stmt_step block_step catch_step arm_step group_step b)

pub yield_catch-parts : (c : Catch) (a : Around) → yield_catch c a ≡ the marks.Catch ∷ the marks.LeftParen ∷ (yield_parameter c.parameter a ++ the marks.RightParen ∷ yield_block c.block a)
unfolding yield_stmt yield_block_statement yield_block yield_catch yield_arm yield_group
yield_catch-parts c a = ap (λ y. y a) (fold_out-Catch Step Yield Yield Yield Yield Step block_statement_step stmt_step block_step catch_step arm_step group_step c)

pub yield_arm-parts : (arm : IfArm) (a : Around) → yield_arm arm a ≡ the marks.If ∷ (yield_condition arm.condition a ++ yield_stmt arm.then (deeper a))
unfolding yield_stmt yield_block_statement yield_block yield_catch yield_arm yield_group
yield_arm-parts arm a = ap (λ y. y a) (fold_out-IfArm Step Yield Yield Yield Yield Step block_statement_step stmt_step block_step catch_step arm_step group_step arm)

pub yield_group-parts : (g : SwitchGroup) (a : Around) → (yield_group g).yields a ≡ yield_switch_label g.label a ++ all_yield (map yield_block_statement g.statements) a
unfolding yield_stmt yield_block_statement yield_block yield_catch yield_arm yield_group
yield_group-parts g a = ap (λ y. y.yields a) (fold_out-SwitchGroup Step Yield Yield Yield Yield Step block_statement_step stmt_step block_step catch_step arm_step group_step g)

pub yield_group-parts-leaves : (g : SwitchGroup) (a : Around) → (yield_group g).leaves a ≡ all_leave (map yield_block_statement g.statements) a
unfolding yield_stmt yield_block_statement yield_block yield_catch yield_arm yield_group
yield_group-parts-leaves g a = ap (λ y. y.leaves a) (fold_out-SwitchGroup Step Yield Yield Yield Yield Step block_statement_step stmt_step block_step catch_step arm_step group_step g)

-- all of them
pub ruleset stmt_yields = (yield_stmt-Block, yield_stmt-Empty, yield_stmt-Labeled, yield_stmt-Expression, yield_stmt-If, yield_stmt-While, yield_stmt-Do, yield_stmt-For, yield_stmt-Switch, yield_stmt-Break, yield_stmt-Continue, yield_stmt-Return, yield_stmt-Throw, yield_stmt-Synchronized, yield_stmt-Try, yield_stmt-Assert, yield_block_statement-LocalClass, yield_block_statement-LocalClass-leaves, yield_block_statement-Local, yield_block_statement-Local-leaves, yield_block_statement-Statement, yield_block_statement-Statement-leaves, yield_block-parts, yield_catch-parts, yield_arm-parts, yield_group-parts, yield_group-parts-leaves)
