-- What a statement yields: its tokens from left to right, and a hole for each class that it declares.
use Rattle.std.specs.Prelude.{ℕ, Bool, true, false, List, [], ◌∷◌, ◌++◌, Option, Some, None, map}
use Rattle.java_tree.specs.declared.mark.Mark.TheVariants as marks
use Rattle.java_tree.specs.declared.names.Ident.{Ident}
use Rattle.java_tree.specs.declared.expr.Expr.{Expr}
use Rattle.java_tree.specs.declared.expr.Initializer.{Initializer}
use Rattle.java_tree.specs.declared.unit.TypePlace.TheVariants as places
use Rattle.java_tree.specs.declared.stmt.Variable.{Variable}
use Rattle.java_tree.specs.declared.stmt.LocalVariables.{LocalVariables}
use Rattle.java_tree.specs.declared.stmt.Parameter.{Parameter}
use Rattle.java_tree.specs.declared.stmt.ForInit.{ForInit}
use Rattle.java_tree.specs.declared.stmt.ForInit.TheVariants as inits
use Rattle.java_tree.specs.declared.stmt.SwitchLabel.{SwitchLabel}
use Rattle.java_tree.specs.declared.stmt.SwitchLabel.TheVariants as labels
use Rattle.java_tree.specs.declared.stmt.Stmt.{Stmt, fold-Stmt}
use Rattle.java_tree.specs.declared.stmt.BlockStatement.TheOpen.{Stmt-F, BlockStatement-F, Block-F, Catch-F, IfArm-F, SwitchGroup-F}
use Rattle.java_tree.specs.declared.stmt.BlockStatement.{BlockStatement, fold-BlockStatement}
use Rattle.java_tree.specs.declared.stmt.Block.{Block, fold-Block}
use Rattle.java_tree.specs.declared.stmt.Catch.{Catch, fold-Catch}
use Rattle.java_tree.specs.declared.stmt.IfArm.{IfArm, fold-IfArm}
use Rattle.java_tree.specs.declared.stmt.SwitchGroup.{SwitchGroup, fold-SwitchGroup}
use Rattle.java_model.specs.Grammar.Signs.{left_brace, word}
use Rattle.java_model.specs.Grammar.Pieces.{Yield, Piece, token, hole, the, Around, deeper, with_local, each, parted, yield_dims, yield_type}
use Rattle.java_model.specs.Grammar.YieldExpr.{yield_expr, yield_initializer}

-- What stands in a block yields pieces, and is in the way of what follows: a local class is in scope
-- there (JLS 14.3).
pub record Step : Type 0 where
  pub yields : Yield
  pub leaves : Around → Around

-- in its own scope, a step leaves all as it is
abbrev pub apart : Yield → Step
apart y = record { yields = y; leaves = λ a. a }

abbrev pub all_yield : List Step → Yield
all_yield [] a = []
all_yield (s ∷ ss) a = s.yields a ++ all_yield ss (s.leaves a)

abbrev pub all_leave : List Step → Around → Around
all_leave [] a = a
all_leave (s ∷ ss) a = all_leave ss (s.leaves a)

-- one after another
abbrev pub in_sequence : List Step → Step
in_sequence ss = record { yields = all_yield ss; leaves = all_leave ss }

-- ['final']
abbrev pub yield_final : Bool → List Piece
yield_final true = the marks.Final ∷ []
yield_final false = []

-- Expression
abbrev pub yield_nested : Expr → Yield
yield_nested x a = yield_expr x (deeper a)

-- [Expression]
abbrev pub yield_any_expr : Option Expr → Yield
yield_any_expr None a = []
yield_any_expr (Some x) a = yield_nested x a

-- [':' Expression]
abbrev pub yield_detail : Option Expr → Yield
yield_detail None a = []
yield_detail (Some x) a = the marks.Colon ∷ yield_nested x a

-- '(' Expression ')'
abbrev pub yield_condition : Expr → Yield
yield_condition x a = the marks.LeftParen ∷ (yield_nested x a ++ the marks.RightParen ∷ [])

-- [Identifier]
abbrev pub yield_any_label : Option Ident → List Piece
yield_any_label None = []
yield_any_label (Some i) = token (word i) ∷ []

-- ['=' VariableInitializer]
abbrev pub yield_any_initializer : Option Initializer → Yield
yield_any_initializer None a = []
yield_any_initializer (Some i) a = the marks.Assign ∷ yield_initializer i a

-- VariableDeclarator = Identifier Dims ['=' VariableInitializer] (JLS 8.3, 14.4)
abbrev pub yield_variable : Variable → Yield
yield_variable v a = token (word v.name) ∷ (yield_dims v.dims ++ yield_any_initializer v.initializer a)

-- VariableDeclarators = VariableDeclarator {',' VariableDeclarator}
abbrev pub yield_variables : List Variable → Yield
yield_variables vs = parted (map yield_variable vs)

-- LocalVariableDeclaration = ['final'] Type VariableDeclarators (JLS 14.4)
abbrev pub yield_local : LocalVariables → Yield
yield_local l a = yield_final l.is_final ++ yield_type l.of ++ yield_variables l.variables a

-- FormalParameter = ['final'] Type Identifier Dims (JLS 8.4.1)
abbrev pub yield_parameter : Parameter → Yield
yield_parameter p a = yield_final p.is_final ++ yield_type p.of ++ token (word p.name) ∷ yield_dims p.dims

-- StatementExpressionList = StatementExpression {',' StatementExpression}
abbrev pub yield_exprs : List Expr → Yield
yield_exprs xs = parted (map yield_nested xs)

-- [LocalVariableDeclaration | StatementExpressionList] (JLS 14.13)
abbrev pub yield_for_init : ForInit → Yield
yield_for_init (inits.Local l) a = yield_local l a
yield_for_init (inits.Expressions xs) a = yield_exprs xs a

-- ('case' Expression | 'default') ':' (JLS 14.10)
abbrev pub yield_switch_label : SwitchLabel → Yield
yield_switch_label (labels.Case x) a = the marks.Case ∷ (yield_nested x a ++ the marks.Colon ∷ [])
yield_switch_label labels.Default a = the marks.Default ∷ the marks.Colon ∷ []

-- each arm after `else`
abbrev pub behind_else : List Yield → Yield
behind_else [] a = []
behind_else (y ∷ ys) a = the marks.Else ∷ (y a ++ behind_else ys a)

-- the arms of an `if`, separated by `else`
abbrev pub yield_arms : List Yield → Yield
yield_arms [] a = []
yield_arms (y ∷ ys) a = y a ++ behind_else ys a

-- A statement directly after `else` isn't counted.
abbrev pub yield_else : Option Yield → Yield
yield_else None a = []
yield_else (Some y) a = the marks.Else ∷ y a

-- ['finally' Block]
abbrev pub yield_finally : Option Yield → Yield
yield_finally None a = []
yield_finally (Some y) a = the marks.Finally ∷ y a

-- '{' {BlockStatement} '}'
abbrev pub yield_braced : ℕ → List Step → Yield
yield_braced brace steps a = token (left_brace brace) ∷ (all_yield steps a ++ the marks.RightBrace ∷ [])

-- One layer of a tree, with what each part yields in its place. Each other Statement is deeper by one.
abbrev pub stmt_step : Stmt-F Step Yield Yield Yield Yield Step → Yield
stmt_step (Stmt-F.Block block) a = block a
stmt_step Stmt-F.Empty a = the marks.Semicolon ∷ []
stmt_step (Stmt-F.Labeled i s) a = token (word i) ∷ the marks.Colon ∷ s (deeper a)
stmt_step (Stmt-F.Expression x) a = yield_nested x a ++ the marks.Semicolon ∷ []
stmt_step (Stmt-F.If arms last) a = yield_arms arms a ++ yield_else last a
stmt_step (Stmt-F.While x s) a = the marks.While ∷ (yield_condition x a ++ s (deeper a))
stmt_step (Stmt-F.Do s x) a = the marks.Do ∷ (s (deeper a) ++ the marks.While ∷ (yield_condition x a ++ the marks.Semicolon ∷ []))
stmt_step (Stmt-F.For init test update s) a =
    the marks.For ∷ the marks.LeftParen ∷ (yield_for_init init a ++ the marks.Semicolon ∷ (yield_any_expr test a
    ++ the marks.Semicolon ∷ (yield_exprs update a ++ the marks.RightParen ∷ s (deeper a))))
stmt_step (Stmt-F.Switch x brace groups) a = the marks.Switch ∷ (yield_condition x a ++ yield_braced brace groups a)
stmt_step (Stmt-F.Break label) a = the marks.Break ∷ (yield_any_label label ++ the marks.Semicolon ∷ [])
stmt_step (Stmt-F.Continue label) a = the marks.Continue ∷ (yield_any_label label ++ the marks.Semicolon ∷ [])
stmt_step (Stmt-F.Return x) a = the marks.Return ∷ (yield_any_expr x a ++ the marks.Semicolon ∷ [])
stmt_step (Stmt-F.Throw x) a = the marks.Throw ∷ (yield_nested x a ++ the marks.Semicolon ∷ [])
stmt_step (Stmt-F.Synchronized x block) a = the marks.Synchronized ∷ (yield_condition x a ++ block a)
stmt_step (Stmt-F.Try block catches finally) a = the marks.Try ∷ (block a ++ each catches a ++ yield_finally finally a)
stmt_step (Stmt-F.Assert x detail) a = the marks.Assert ∷ (yield_nested x a ++ yield_detail detail a ++ the marks.Semicolon ∷ [])

abbrev pub block_statement_step : BlockStatement-F Step Yield Yield Yield Yield Step → Step
block_statement_step (BlockStatement-F.LocalClass brace) = record {
  yields = λ a. hole (record { brace = brace; place = places.Local; created = []; around = a }) ∷ [];
  leaves = with_local brace;
}
block_statement_step (BlockStatement-F.Local l) = apart (λ a. yield_local l a ++ the marks.Semicolon ∷ [])
block_statement_step (BlockStatement-F.Statement s) = apart (λ a. s (deeper a))

abbrev pub block_step : Block-F Step Yield Yield Yield Yield Step → Yield
block_step b = yield_braced b.brace b.statements

abbrev pub catch_step : Catch-F Step Yield Yield Yield Yield Step → Yield
catch_step c a = the marks.Catch ∷ the marks.LeftParen ∷ (yield_parameter c.parameter a ++ the marks.RightParen ∷ c.block a)

abbrev pub arm_step : IfArm-F Step Yield Yield Yield Yield Step → Yield
arm_step arm a = the marks.If ∷ (yield_condition arm.condition a ++ arm.then (deeper a))

-- The braces of a `switch` are one block: what a group declares is in scope in the groups after it.
abbrev pub group_step : SwitchGroup-F Step Yield Yield Yield Yield Step → Step
group_step g = record { yields = λ a. yield_switch_label g.label a ++ all_yield g.statements a; leaves = all_leave g.statements }

unfoldable pub yield_stmt : Stmt → Yield
yield_stmt = fold-Stmt Step Yield Yield Yield Yield Step block_statement_step stmt_step block_step catch_step arm_step group_step

unfoldable pub yield_block_statement : BlockStatement → Step
yield_block_statement = fold-BlockStatement Step Yield Yield Yield Yield Step block_statement_step stmt_step block_step catch_step arm_step group_step

unfoldable pub yield_block : Block → Yield
yield_block = fold-Block Step Yield Yield Yield Yield Step block_statement_step stmt_step block_step catch_step arm_step group_step

unfoldable pub yield_catch : Catch → Yield
yield_catch = fold-Catch Step Yield Yield Yield Yield Step block_statement_step stmt_step block_step catch_step arm_step group_step

unfoldable pub yield_arm : IfArm → Yield
yield_arm = fold-IfArm Step Yield Yield Yield Yield Step block_statement_step stmt_step block_step catch_step arm_step group_step

unfoldable pub yield_group : SwitchGroup → Step
yield_group = fold-SwitchGroup Step Yield Yield Yield Yield Step block_statement_step stmt_step block_step catch_step arm_step group_step
