-- Each form of a statement, opened: its parts can be read off, so a tree has its form in one way.
use Rattle.std.proofs.Common.{◌≡◌, ℕ, List, Option, Some, None, sym, ap, ◌∙◌}
use Rattle.java_tree.specs.declared.names.Ident.{Ident}
use Rattle.java_tree.specs.declared.expr.Expr.{Expr}
use Rattle.java_tree.specs.declared.stmt.LocalVariables.{LocalVariables}
use Rattle.java_tree.specs.declared.stmt.ForInit.{ForInit}
use Rattle.java_tree.specs.declared.stmt.Stmt.{Stmt, out-Stmt, out-roll-Stmt}
use Rattle.java_tree.specs.declared.stmt.Stmt.TheVariants as stmts
use Rattle.java_tree.specs.declared.stmt.BlockStatement.{out-BlockStatement, out-roll-BlockStatement}
use Rattle.java_tree.specs.declared.stmt.BlockStatement.TheVariants as block_statements
use Rattle.java_tree.specs.declared.stmt.BlockStatement.TheOpen.{Stmt-F, BlockStatement-F}
use Rattle.java_tree.specs.declared.stmt.Block.{Block}
use Rattle.java_tree.specs.declared.stmt.Catch.{Catch}
use Rattle.java_tree.specs.declared.stmt.IfArm.{IfArm}
use Rattle.java_tree.specs.declared.stmt.SwitchGroup.{SwitchGroup}

pub out-stmt-Block : (block : Block) → out-Stmt (stmts.Block block) ≡ Stmt-F.Block block
out-stmt-Block block = ap out-Stmt (sym (stmts.rolls-Block block)) ∙ out-roll-Stmt (Stmt-F.Block block)

pub out-stmt-Empty : out-Stmt stmts.Empty ≡ Stmt-F.Empty
out-stmt-Empty = ap out-Stmt (sym stmts.rolls-Empty) ∙ out-roll-Stmt Stmt-F.Empty

pub out-stmt-Labeled : (i : Ident) (s : Stmt) → out-Stmt (stmts.Labeled i s) ≡ Stmt-F.Labeled i s
out-stmt-Labeled i s = ap out-Stmt (sym (stmts.rolls-Labeled i s)) ∙ out-roll-Stmt (Stmt-F.Labeled i s)

pub out-stmt-Expression : (x : Expr) → out-Stmt (stmts.Expression x) ≡ Stmt-F.Expression x
out-stmt-Expression x = ap out-Stmt (sym (stmts.rolls-Expression x)) ∙ out-roll-Stmt (Stmt-F.Expression x)

pub out-stmt-If : (arms : List IfArm) (last : Option Stmt) → out-Stmt (stmts.If arms last) ≡ Stmt-F.If arms last
out-stmt-If arms None = ap out-Stmt (sym (stmts.rolls-If arms None)) ∙ out-roll-Stmt (Stmt-F.If arms None)
out-stmt-If arms (Some last) = ap out-Stmt (sym (stmts.rolls-If arms (Some last))) ∙ out-roll-Stmt (Stmt-F.If arms (Some last))

pub out-stmt-While : (x : Expr) (s : Stmt) → out-Stmt (stmts.While x s) ≡ Stmt-F.While x s
out-stmt-While x s = ap out-Stmt (sym (stmts.rolls-While x s)) ∙ out-roll-Stmt (Stmt-F.While x s)

pub out-stmt-Do : (s : Stmt) (x : Expr) → out-Stmt (stmts.Do s x) ≡ Stmt-F.Do s x
out-stmt-Do s x = ap out-Stmt (sym (stmts.rolls-Do s x)) ∙ out-roll-Stmt (Stmt-F.Do s x)

pub out-stmt-For : (init : ForInit) (test : Option Expr) (update : List Expr) (s : Stmt) → out-Stmt (stmts.For init test update s) ≡ Stmt-F.For init test update s
out-stmt-For init test update s = ap out-Stmt (sym (stmts.rolls-For init test update s)) ∙ out-roll-Stmt (Stmt-F.For init test update s)

pub out-stmt-Switch : (x : Expr) (brace : ℕ) (groups : List SwitchGroup) → out-Stmt (stmts.Switch x brace groups) ≡ Stmt-F.Switch x brace groups
out-stmt-Switch x brace groups = ap out-Stmt (sym (stmts.rolls-Switch x brace groups)) ∙ out-roll-Stmt (Stmt-F.Switch x brace groups)

pub out-stmt-Break : (label : Option Ident) → out-Stmt (stmts.Break label) ≡ Stmt-F.Break label
out-stmt-Break label = ap out-Stmt (sym (stmts.rolls-Break label)) ∙ out-roll-Stmt (Stmt-F.Break label)

pub out-stmt-Continue : (label : Option Ident) → out-Stmt (stmts.Continue label) ≡ Stmt-F.Continue label
out-stmt-Continue label = ap out-Stmt (sym (stmts.rolls-Continue label)) ∙ out-roll-Stmt (Stmt-F.Continue label)

pub out-stmt-Return : (x : Option Expr) → out-Stmt (stmts.Return x) ≡ Stmt-F.Return x
out-stmt-Return x = ap out-Stmt (sym (stmts.rolls-Return x)) ∙ out-roll-Stmt (Stmt-F.Return x)

pub out-stmt-Throw : (x : Expr) → out-Stmt (stmts.Throw x) ≡ Stmt-F.Throw x
out-stmt-Throw x = ap out-Stmt (sym (stmts.rolls-Throw x)) ∙ out-roll-Stmt (Stmt-F.Throw x)

pub out-stmt-Synchronized : (x : Expr) (block : Block) → out-Stmt (stmts.Synchronized x block) ≡ Stmt-F.Synchronized x block
out-stmt-Synchronized x block = ap out-Stmt (sym (stmts.rolls-Synchronized x block)) ∙ out-roll-Stmt (Stmt-F.Synchronized x block)

pub out-stmt-Try : (block : Block) (catches : List Catch) (finally : Option Block) → out-Stmt (stmts.Try block catches finally) ≡ Stmt-F.Try block catches finally
out-stmt-Try block catches None = ap out-Stmt (sym (stmts.rolls-Try block catches None)) ∙ out-roll-Stmt (Stmt-F.Try block catches None)
out-stmt-Try block catches (Some finally) = ap out-Stmt (sym (stmts.rolls-Try block catches (Some finally))) ∙ out-roll-Stmt (Stmt-F.Try block catches (Some finally))

pub out-stmt-Assert : (x : Expr) (y : Option Expr) → out-Stmt (stmts.Assert x y) ≡ Stmt-F.Assert x y
out-stmt-Assert x y = ap out-Stmt (sym (stmts.rolls-Assert x y)) ∙ out-roll-Stmt (Stmt-F.Assert x y)

pub out-block_statement-LocalClass : (brace : ℕ) → out-BlockStatement (block_statements.LocalClass brace) ≡ BlockStatement-F.LocalClass brace
out-block_statement-LocalClass brace = ap out-BlockStatement (sym (block_statements.rolls-LocalClass brace)) ∙ out-roll-BlockStatement (BlockStatement-F.LocalClass brace)

pub out-block_statement-Local : (l : LocalVariables) → out-BlockStatement (block_statements.Local l) ≡ BlockStatement-F.Local l
out-block_statement-Local l = ap out-BlockStatement (sym (block_statements.rolls-Local l)) ∙ out-roll-BlockStatement (BlockStatement-F.Local l)

pub out-block_statement-Statement : (s : Stmt) → out-BlockStatement (block_statements.Statement s) ≡ BlockStatement-F.Statement s
out-block_statement-Statement s = ap out-BlockStatement (sym (block_statements.rolls-Statement s)) ∙ out-roll-BlockStatement (BlockStatement-F.Statement s)

-- all of them
pub ruleset stmt_layers = (out-stmt-Block, out-stmt-Empty, out-stmt-Labeled, out-stmt-Expression, out-stmt-If, out-stmt-While, out-stmt-Do, out-stmt-For, out-stmt-Switch, out-stmt-Break, out-stmt-Continue, out-stmt-Return, out-stmt-Throw, out-stmt-Synchronized, out-stmt-Try, out-stmt-Assert, out-block_statement-LocalClass, out-block_statement-Local, out-block_statement-Statement)
