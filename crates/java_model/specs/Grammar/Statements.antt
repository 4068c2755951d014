-- The productions of statements (JLS 14), over what is nested in them.
use Rattle.std.specs.Prelude.{◌≡◌, ℕ, zero, suc, true, List, [], ◌∷◌, ◌++◌, Option, Some, None, IfSome}
use Rattle.std.specs.List.{AllByRecursion}
use Rattle.java_tree.specs.declared.names.Ident.{Ident}
use Rattle.java_tree.specs.declared.expr.Expr.{Expr}
use Rattle.java_tree.specs.declared.stmt.Variable.{Variable}
use Rattle.java_tree.specs.declared.stmt.LocalVariables.{LocalVariables}
use Rattle.java_tree.specs.declared.stmt.Parameter.{Parameter}
use Rattle.java_tree.specs.declared.stmt.ForInit.{ForInit}
use Rattle.java_tree.specs.declared.stmt.ForInit.TheVariants as inits
use Rattle.java_tree.specs.declared.stmt.SwitchLabel.{SwitchLabel}
use Rattle.java_tree.specs.declared.stmt.SwitchLabel.TheVariants as labels
use Rattle.java_tree.specs.declared.stmt.Stmt.{Stmt}
use Rattle.java_tree.specs.declared.stmt.Stmt.TheVariants as stmts
use Rattle.java_tree.specs.declared.stmt.BlockStatement.{BlockStatement}
use Rattle.java_tree.specs.declared.stmt.BlockStatement.TheVariants as block_statements
use Rattle.java_tree.specs.declared.stmt.Block.{Block}
use Rattle.java_tree.specs.declared.stmt.Catch.{Catch}
use Rattle.java_tree.specs.declared.stmt.IfArm.{IfArm}
use Rattle.java_tree.specs.declared.stmt.SwitchGroup.{SwitchGroup}
use Rattle.java_model.specs.Grammar.Forms.{IsNonEmpty, is_statement}
use Rattle.java_model.specs.Grammar.Expressions.{Nested, IsType, IsInitializer, nested}

-- Statement and StatementNoShortIf: before an `else` that belongs to an outer `if` no inner `if` is
-- without one (JLS 14.5).
pub data Ifs : Type 0 where
  any : Ifs
  no_short : Ifs

-- StatementExpression: an expression that may be a statement (JLS 14.8)
abbrev pub IsStatementExpr : Nested → Expr → Type 0
IsStatementExpr N x = N.expr x × (is_statement x ≡ true)

-- VariableDeclarator = Identifier Dims ['=' VariableInitializer] (JLS 8.3, 14.4)
abbrev pub IsVariable : Nested → Variable → Type 0
IsVariable N v = IfSome v.initializer (IsInitializer N)

-- Type VariableDeclarators, VariableDeclarators = VariableDeclarator {',' VariableDeclarator} (JLS 8.3, 14.4)
abbrev pub IsVariables : Nested → List Variable → Type 0
IsVariables N vs = IsNonEmpty vs × AllByRecursion (IsVariable N) vs

-- LocalVariableDeclaration = ['final'] Type VariableDeclarators (JLS 14.4)
abbrev pub IsLocal : Nested → LocalVariables → Type 0
IsLocal N l = IsType l.of × IsVariables N l.variables

-- FormalParameter = ['final'] Type Identifier Dims (JLS 8.4.1)
abbrev pub IsParameter : Parameter → Type 0
IsParameter p = IsType p.of

-- [LocalVariableDeclaration | StatementExpressionList] (JLS 14.13)
abbrev pub IsForInit : Nested → ForInit → Type 0
IsForInit N (inits.Local l) = IsLocal N l
IsForInit N (inits.Expressions xs) = AllByRecursion (IsStatementExpr N) xs

-- 'case' Expression | 'default' (JLS 14.10)
abbrev pub IsSwitchLabel : Nested → SwitchLabel → Type 0
IsSwitchLabel N (labels.Case x) = N.expr x
IsSwitchLabel N labels.Default = Unit {0}

-- BlockStatement = {Modifier} ClassDeclaration | LocalVariableDeclaration ';' | Statement (JLS 14.2). Of the class its own declaration has the shape.
pub data IsBlockStatement (N : Nested) (S : Ifs → Stmt → Type 0) (b : BlockStatement) : Type 0 where
  local_class : (brace : ℕ) → b ≡ block_statements.LocalClass brace → IsBlockStatement N S b
  local : (l : LocalVariables) → b ≡ block_statements.Local l → IsLocal N l → IsBlockStatement N S b
  statement : (s : Stmt) → b ≡ block_statements.Statement s → S any s → IsBlockStatement N S b

-- {BlockStatement}
abbrev pub IsBlockStatements : Nested → (Ifs → Stmt → Type 0) → List BlockStatement → Type 0
IsBlockStatements N S = AllByRecursion (IsBlockStatement N S)

-- Block = '{' {BlockStatement} '}' (JLS 14.2)
abbrev pub IsBlock : Nested → (Ifs → Stmt → Type 0) → Block → Type 0
IsBlock N S b = IsBlockStatements N S b.statements

-- ('case' Expression | 'default') ':' {BlockStatement} (JLS 14.10)
abbrev pub IsGroup : Nested → (Ifs → Stmt → Type 0) → SwitchGroup → Type 0
IsGroup N S g = IsSwitchLabel N g.label × IsBlockStatements N S g.statements

-- 'catch' '(' FormalParameter ')' Block (JLS 14.19)
abbrev pub IsCatch : Nested → (Ifs → Stmt → Type 0) → Catch → Type 0
IsCatch N S c = IsParameter c.parameter × IsBlock N S c.block

-- 'if' '(' Expression ')' Statement, with what may stand before an `else` (JLS 14.9)
abbrev pub IsArm : Nested → (Ifs → Stmt → Type 0) → Ifs → IfArm → Type 0
IsArm N S ifs arm = N.expr arm.condition × S ifs arm.then

-- The statements other than `if`. One that ends in a statement passes on whether an `else` may follow.
pub data IsPlain (N : Nested) (S : Ifs → Stmt → Type 0) (ifs : Ifs) (s : Stmt) : Type 0 where
  -- JLS 14.2
  block : (b : Block) → s ≡ stmts.Block b → IsBlock N S b → IsPlain N S ifs s
  -- JLS 14.6
  empty : s ≡ stmts.Empty → IsPlain N S ifs s
  -- JLS 14.7
  labeled : (i : Ident) (y : Stmt) → s ≡ stmts.Labeled i y → S ifs y → IsPlain N S ifs s
  -- JLS 14.8
  expression : (x : Expr) → s ≡ stmts.Expression x → IsStatementExpr N x → IsPlain N S ifs s
  -- JLS 14.11
  while : (x : Expr) (y : Stmt) → s ≡ stmts.While x y → N.expr x → S ifs y → IsPlain N S ifs s
  -- JLS 14.12
  do_while : (y : Stmt) (x : Expr) → s ≡ stmts.Do y x → S any y → N.expr x → IsPlain N S ifs s
  -- JLS 14.13
  for : (init : ForInit) (test : Option Expr) (update : List Expr) (y : Stmt) → s ≡ stmts.For init test update y
      → IsForInit N init → IfSome test N.expr → AllByRecursion (IsStatementExpr N) update → S ifs y → IsPlain N S ifs s
  -- JLS 14.10
  switch : (x : Expr) (brace : ℕ) (groups : List SwitchGroup) → s ≡ stmts.Switch x brace groups → N.expr x
      → AllByRecursion (IsGroup N S) groups → IsPlain N S ifs s
  -- JLS 14.14
  break : (label : Option Ident) → s ≡ stmts.Break label → IsPlain N S ifs s
  -- JLS 14.15
  continue : (label : Option Ident) → s ≡ stmts.Continue label → IsPlain N S ifs s
  -- JLS 14.16
  return : (x : Option Expr) → s ≡ stmts.Return x → IfSome x N.expr → IsPlain N S ifs s
  -- JLS 14.17
  throw : (x : Expr) → s ≡ stmts.Throw x → N.expr x → IsPlain N S ifs s
  -- JLS 14.18
  synchronized : (x : Expr) (b : Block) → s ≡ stmts.Synchronized x b → N.expr x → IsBlock N S b → IsPlain N S ifs s
  -- JLS 14.19: a `try` has a `catch` or a `finally`
  try_catch : (b : Block) (c : Catch) (cs : List Catch) (finally : Option Block) → s ≡ stmts.Try b (c ∷ cs) finally
      → IsBlock N S b → IsCatch N S c → AllByRecursion (IsCatch N S) cs → IfSome finally (IsBlock N S) → IsPlain N S ifs s
  try_finally : (b finally : Block) → s ≡ stmts.Try b [] (Some finally) → IsBlock N S b → IsBlock N S finally → IsPlain N S ifs s
  -- JSR 41
  assert : (x : Expr) (detail : Option Expr) → s ≡ stmts.Assert x detail → N.expr x → IfSome detail N.expr → IsPlain N S ifs s

-- Statement (JLS 14.5). An `else` belongs to the nearest `if` (JLS 14.9), so what stands before one has no
-- short `if`; an `if` that is short itself stands before none. The statement after a last `else` is
-- no `if`, since that would be an arm, and isn't counted.
pub data IsStmtOver (N : Nested) (S : Ifs → Stmt → Type 0) (ifs : Ifs) (s : Stmt) : Type 0 where
  plain : IsPlain N S ifs s → IsStmtOver N S ifs s
  short_if : (arms : List IfArm) (last : IfArm) → s ≡ stmts.If (arms ++ last ∷ []) None → ifs ≡ any
      → AllByRecursion (IsArm N S no_short) arms → IsArm N S any last → IsStmtOver N S ifs s
  if_else : (arm : IfArm) (arms : List IfArm) (other : Stmt) → s ≡ stmts.If (arm ∷ arms) (Some other)
      → IsArm N S no_short arm → AllByRecursion (IsArm N S no_short) arms → IsPlain N S ifs other → IsStmtOver N S ifs s

-- the knot: a Statement with so much of the depth left outside it
unfoldable pub IsStmt : ℕ → Ifs → Stmt → Type 0
IsStmt zero ifs s = ⊥
IsStmt (suc d) ifs s = IsStmtOver (nested d) (IsStmt d) ifs s
