-- What lies directly inside a statement, in order.
use Rattle.std.specs.Prelude.{List, [], ◌∷◌, ◌++◌, Option, Some, None, map}
use Rattle.std.specs.Option.{option_to_list}
use Rattle.java_tree.specs.declared.expr.Expr.{Expr}
use Rattle.java_tree.specs.declared.stmt.Block.{Block}
use Rattle.java_tree.specs.declared.stmt.BlockStatement.{BlockStatement, out-BlockStatement}
use Rattle.java_tree.specs.declared.stmt.BlockStatement.TheOpen.{Stmt-F, BlockStatement-F}
use Rattle.java_tree.specs.declared.stmt.Catch.{Catch}
use Rattle.java_tree.specs.declared.stmt.ForInit.{ForInit}
use Rattle.java_tree.specs.declared.stmt.ForInit.TheVariants as inits
use Rattle.java_tree.specs.declared.stmt.IfArm.{IfArm}
use Rattle.java_tree.specs.declared.stmt.Stmt.{Stmt}
use Rattle.java_tree.specs.declared.stmt.SwitchGroup.{SwitchGroup}
use Rattle.java_tree.specs.declared.stmt.SwitchLabel.{SwitchLabel}
use Rattle.java_tree.specs.declared.stmt.SwitchLabel.TheVariants as labels
use Rattle.java_tree.specs.declared.stmt.Variable.{Variable}
use Rattle.java_model.specs.Tree.Nodes.{Node, declaration, block, statement, locals, arm, group, catch_clause}
use Rattle.java_model.specs.Tree.InExpressions.{reads, initializer}

abbrev pub StmtLayer : Type 0
StmtLayer = Stmt-F BlockStatement Stmt Block Catch IfArm SwitchGroup

abbrev pub BlockStatementLayer : Type 0
BlockStatementLayer = BlockStatement-F BlockStatement Stmt Block Catch IfArm SwitchGroup

abbrev pub block_statement_in : BlockStatementLayer → Node
block_statement_in (BlockStatement-F.LocalClass brace) = declaration brace
block_statement_in (BlockStatement-F.Local l) = locals l
block_statement_in (BlockStatement-F.Statement s) = statement s

-- JLS 14.2
abbrev pub block_statement : BlockStatement → Node
block_statement s = block_statement_in (out-BlockStatement s)

abbrev pub optional_expression : Option Expr → List Node
optional_expression None = []
optional_expression (Some x) = reads x ∷ []

abbrev pub optional_block : Option Block → List Node
optional_block None = []
optional_block (Some b) = block b ∷ []

abbrev pub optional_statement : Option Stmt → List Node
optional_statement None = []
optional_statement (Some s) = statement s ∷ []

abbrev pub in_for_init : ForInit → List Node
in_for_init (inits.Local l) = locals l ∷ []
in_for_init (inits.Expressions xs) = map reads xs

abbrev pub in_label : SwitchLabel → List Node
in_label (labels.Case x) = reads x ∷ []
in_label labels.Default = []

-- a VariableDeclarator (JLS 8.3, 14.4)
abbrev pub in_variable : Variable → List Node
in_variable v = map initializer (option_to_list v.initializer)

abbrev pub in_statement : StmtLayer → List Node
in_statement (Stmt-F.Block b) = block b ∷ []
in_statement (Stmt-F.Labeled i s) = statement s ∷ []
in_statement (Stmt-F.Expression x) = reads x ∷ []
in_statement (Stmt-F.If arms last) = map arm arms ++ optional_statement last
in_statement (Stmt-F.While x s) = reads x ∷ statement s ∷ []
in_statement (Stmt-F.Do s x) = statement s ∷ reads x ∷ []
in_statement (Stmt-F.For init test update s) = in_for_init init ++ optional_expression test ++ map reads update ++ statement s ∷ []
in_statement (Stmt-F.Switch x brace groups) = reads x ∷ map group groups
in_statement (Stmt-F.Return x) = optional_expression x
in_statement (Stmt-F.Throw x) = reads x ∷ []
in_statement (Stmt-F.Synchronized x b) = reads x ∷ block b ∷ []
in_statement (Stmt-F.Try b catches last) = block b ∷ map catch_clause catches ++ optional_block last
in_statement (Stmt-F.Assert x detail) = reads x ∷ optional_expression detail
in_statement _ = []
