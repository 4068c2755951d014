-- How statements are read (JLS 14).
use Rattle.std.specs.Prelude.{ℕ, zero, suc, Bool, false, ◌||◌, cond, List, [], ◌∷◌, ◌++◌, length, Option, Some, None}
use Rattle.java_tree.specs.declared.mark.Mark.{Mark}
use Rattle.java_tree.specs.declared.mark.Mark.TheVariants as marks
use Rattle.java_tree.specs.declared.names.Ident.{Ident}
use Rattle.java_tree.specs.declared.expr.Expr.{Expr}
use Rattle.java_tree.specs.declared.stmt.Variable.{Variable}
use Rattle.java_tree.specs.declared.stmt.LocalVariables.{LocalVariables}
use Rattle.java_tree.specs.declared.stmt.Parameter.{Parameter}
use Rattle.java_tree.specs.declared.stmt.ForInit.{ForInit}
use Rattle.java_tree.specs.declared.stmt.ForInit.TheVariants as inits
use Rattle.java_tree.specs.declared.stmt.SwitchLabel.{SwitchLabel}
use Rattle.java_tree.specs.declared.stmt.SwitchLabel.TheVariants as labels
use Rattle.java_tree.specs.declared.stmt.Stmt.{Stmt}
use Rattle.java_tree.specs.declared.stmt.Stmt.TheVariants as stmts
use Rattle.java_tree.specs.declared.stmt.BlockStatement.{BlockStatement}
use Rattle.java_tree.specs.declared.stmt.BlockStatement.TheVariants as block_statements
use Rattle.java_tree.specs.declared.stmt.Block.{Block}
use Rattle.java_tree.specs.declared.stmt.Catch.{Catch}
use Rattle.java_tree.specs.declared.stmt.IfArm.{IfArm}
use Rattle.java_tree.specs.declared.stmt.SwitchGroup.{SwitchGroup}
use Rattle.java_tree.specs.declared.unit.TypePlace.TheVariants as places
use Rattle.java_model.specs.Grammar.Signs.{Sign, mark, left_brace, word}
use Rattle.java_unit_reading.specs.Reading.Steps.{Done, Fail, Parser, and_then, ◌>>=◌, ◌>>◌, pure, refuse, choose, sees, tail, next, expect, eat, brace, identifier, introduced, list, list_from, unless}
use Rattle.java_unit_reading.specs.Reading.Words.{is_word, dims, type_use, skip_modifiers, declares}
use Rattle.java_unit_reading.specs.Reading.Nested.{Exprs, Parts, expr, statement_expr, initializer, condition, comma_statement_expr}

-- Looking ahead: whether modifiers and `class` come next (JLS 14.3).
abbrev pub begins_class : List Sign → Bool
begins_class ts = sees marks.Class (skip_modifiers ts)

-- Looking ahead: whether local variables are declared (JLS 14.4).
abbrev pub begins_local : List Sign → Bool
begins_local ts = sees marks.Final ts || declares ts

-- what no statement of a block begins with
abbrev pub ends_block : List Sign → Bool
ends_block ts = sees marks.RightBrace ts || (sees marks.Case ts || sees marks.Default ts)

-- Id ':' (JLS 14.7)
abbrev pub begins_label : List Sign → Bool
begins_label (word i ∷ ts) = sees marks.Colon ts
begins_label _ = false

module _ (E : Exprs) (P : Parts) (d : ℕ) (w : Option ℕ) where
  -- Var = Id Dims ['=' Init] (JLS 8.3, 14.4)
  unfoldable pub variable : Parser Variable
  variable =
      identifier >>= λ i. dims >>= λ n. introduced marks.Assign (initializer E P d w) >>= λ x.
      pure (record { name = i; dims = n; initializer = x })

  unfoldable pub comma_variable : Parser (Option Variable)
  comma_variable = introduced marks.Comma variable

  -- Vars = Var {',' Var}
  unfoldable pub variables : Parser (List Variable)
  variables = variable >>= λ v. list_from comma_variable (v ∷ [])

  -- Local = ['final'] Type Vars (JLS 14.4)
  unfoldable pub local : Parser LocalVariables
  local = eat marks.Final >>= λ f. type_use >>= λ t. variables >>= λ vs. pure (record { is_final = f; of = t; variables = vs })

  -- Param = ['final'] Type Id Dims (JLS 8.4.1)
  unfoldable pub parameter : Parser Parameter
  parameter =
      eat marks.Final >>= λ f. type_use >>= λ t. identifier >>= λ i. dims >>= λ n.
      pure (record { is_final = f; of = t; name = i; dims = n })

  -- [Expr], before a mark
  unfoldable pub any_expr : Mark → Parser (Option Expr)
  any_expr m = unless (sees m) (expr E P d w)

  -- [StExpr {',' StExpr}], before a mark
  unfoldable pub statement_exprs : Mark → Parser (List Expr)
  statement_exprs m = choose (sees m) (pure []) (statement_expr E P d w >>= λ x. list_from (comma_statement_expr E P d w) (x ∷ []))

  -- [Local | StExprs] (JLS 14.13)
  unfoldable pub for_init : Parser ForInit
  for_init =
      choose begins_local (local >>= λ l. pure (inits.Local l)) (statement_exprs marks.Semicolon >>= λ xs. pure (inits.Expressions xs))

  unfoldable pub local_class : Parser BlockStatement
  local_class = P.type d places.Local w >>= λ at. pure (block_statements.LocalClass at)

  unfoldable pub local_variables : Parser BlockStatement
  local_variables = local >>= λ l. expect marks.Semicolon >> pure (block_statements.Local l)

  unfoldable pub nested_statement : Parser BlockStatement
  nested_statement = P.stmt w >>= λ s. pure (block_statements.Statement s)

  -- BlockSt = Mods Class | Local ';' | Stmt (JLS 14.2)
  unfoldable pub block_statement : Parser BlockStatement
  block_statement = choose begins_class local_class (choose begins_local local_variables nested_statement)

  unfoldable pub any_block_statement : Parser (Option BlockStatement)
  any_block_statement = unless ends_block block_statement

  -- Block = '{' {BlockSt} '}' (JLS 14.2)
  unfoldable pub block : Parser Block
  block = brace >>= λ at. list any_block_statement >>= λ ss. expect marks.RightBrace >> pure (record { brace = at; statements = ss })

  -- ('case' Expr | 'default') ':' (JLS 14.10)
  unfoldable pub case_label : Parser SwitchLabel
  case_label = expect marks.Case >> (expr E P d w >>= λ x. expect marks.Colon >> pure (labels.Case x))

  unfoldable pub default_label : Parser SwitchLabel
  default_label = expect marks.Default >> (expect marks.Colon >> pure labels.Default)

  unfoldable pub switch_label : Parser SwitchLabel
  switch_label = choose (sees marks.Case) case_label default_label

  unfoldable pub group : Parser SwitchGroup
  group = switch_label >>= λ l. list any_block_statement >>= λ ss. pure (record { label = l; statements = ss })

  unfoldable pub any_group : Parser (Option SwitchGroup)
  any_group = unless (sees marks.RightBrace) group

  -- 'catch' '(' Param ')' Block (JLS 14.19)
  unfoldable pub catch_clause : Parser Catch
  catch_clause =
      expect marks.Catch >> (expect marks.LeftParen >> (parameter >>= λ p. expect marks.RightParen >>
      (block >>= λ b. pure (record { parameter = p; block = b }))))

  unfoldable pub any_catch : Parser (Option Catch)
  any_catch = choose (sees marks.Catch) (catch_clause >>= λ c. pure (Some c)) (pure None)

  -- [Id]
  unfoldable pub any_label : Parser (Option Ident)
  any_label = choose is_word (identifier >>= λ i. pure (Some i)) (pure None)

  unfoldable pub block_stmt : Parser Stmt
  block_stmt = block >>= λ b. pure (stmts.Block b)

  unfoldable pub empty_stmt : Parser Stmt
  empty_stmt = expect marks.Semicolon >> pure stmts.Empty

  unfoldable pub labeled_stmt : Parser Stmt
  labeled_stmt = identifier >>= λ i. expect marks.Colon >> (P.stmt w >>= λ s. pure (stmts.Labeled i s))

  unfoldable pub expression_stmt : Parser Stmt
  expression_stmt = statement_expr E P d w >>= λ x. expect marks.Semicolon >> pure (stmts.Expression x)

  unfoldable pub while_stmt : Parser Stmt
  while_stmt = expect marks.While >> (condition E P d w >>= λ x. P.stmt w >>= λ s. pure (stmts.While x s))

  unfoldable pub do_stmt : Parser Stmt
  do_stmt =
      expect marks.Do >> (P.stmt w >>= λ s. expect marks.While >> (condition E P d w >>= λ x. expect marks.Semicolon >> pure (stmts.Do s x)))

  unfoldable pub for_stmt : Parser Stmt
  for_stmt =
      expect marks.For >> (expect marks.LeftParen >> (for_init >>= λ init. expect marks.Semicolon >> (any_expr marks.Semicolon >>= λ test.
      expect marks.Semicolon >> (statement_exprs marks.RightParen >>= λ update. expect marks.RightParen >> (P.stmt w >>= λ s.
      pure (stmts.For init test update s))))))

  unfoldable pub switch_stmt : Parser Stmt
  switch_stmt =
      expect marks.Switch >> (condition E P d w >>= λ x. brace >>= λ at. list any_group >>= λ gs.
      expect marks.RightBrace >> pure (stmts.Switch x at gs))

  unfoldable pub break_stmt : Parser Stmt
  break_stmt = expect marks.Break >> (any_label >>= λ i. expect marks.Semicolon >> pure (stmts.Break i))

  unfoldable pub continue_stmt : Parser Stmt
  continue_stmt = expect marks.Continue >> (any_label >>= λ i. expect marks.Semicolon >> pure (stmts.Continue i))

  unfoldable pub return_stmt : Parser Stmt
  return_stmt = expect marks.Return >> (any_expr marks.Semicolon >>= λ x. expect marks.Semicolon >> pure (stmts.Return x))

  unfoldable pub throw_stmt : Parser Stmt
  throw_stmt = expect marks.Throw >> (expr E P d w >>= λ x. expect marks.Semicolon >> pure (stmts.Throw x))

  unfoldable pub synchronized_stmt : Parser Stmt
  synchronized_stmt = expect marks.Synchronized >> (condition E P d w >>= λ x. block >>= λ b. pure (stmts.Synchronized x b))

  -- a `try` has a `catch` or a `finally` (JLS 14.19)
  abbrev pub tried : Block → List Catch → Option Block → Parser Stmt
  tried b [] None = refuse
  tried b cs f = pure (stmts.Try b cs f)

  unfoldable pub try_stmt : Parser Stmt
  try_stmt = expect marks.Try >> (block >>= λ b. list any_catch >>= λ cs. introduced marks.Finally block >>= λ f. tried b cs f)

  unfoldable pub assert_stmt : Parser Stmt
  assert_stmt =
      expect marks.Assert >> (expr E P d w >>= λ x. introduced marks.Colon (expr E P d w) >>= λ y.
      expect marks.Semicolon >> pure (stmts.Assert x y))

  -- the statement that a mark begins, other than `if`
  abbrev pub plain_by : Mark → Parser Stmt
  plain_by marks.Semicolon = empty_stmt
  plain_by marks.While = while_stmt
  plain_by marks.Do = do_stmt
  plain_by marks.For = for_stmt
  plain_by marks.Switch = switch_stmt
  plain_by marks.Break = break_stmt
  plain_by marks.Continue = continue_stmt
  plain_by marks.Return = return_stmt
  plain_by marks.Throw = throw_stmt
  plain_by marks.Synchronized = synchronized_stmt
  plain_by marks.Try = try_stmt
  plain_by marks.Assert = assert_stmt
  plain_by marks.If = refuse
  plain_by marks.Else = refuse
  plain_by marks.Catch = refuse
  plain_by marks.Finally = refuse
  plain_by _ = expression_stmt

  abbrev pub plain_at : List Sign → Parser Stmt
  plain_at (left_brace at ∷ ts) = block_stmt
  plain_at (mark m ∷ ts) = plain_by m
  plain_at (word i ∷ ts) = choose begins_label labeled_stmt expression_stmt
  plain_at _ = expression_stmt

  -- a statement other than `if`
  unfoldable pub plain_stmt : Parser Stmt
  plain_stmt s = plain_at s.tokens s

  -- 'if' '(' Expr ')' Stmt (JLS 14.9)
  unfoldable pub arm : Parser IfArm
  arm = expect marks.If >> (condition E P d w >>= λ x. P.stmt w >>= λ s. pure (record { condition = x; then = s }))

  -- what stands behind an `else` that no `if` follows
  abbrev pub last_else : List IfArm → Parser Stmt
  last_else arms = plain_stmt >>= λ other. pure (stmts.If arms (Some other))

  -- the arms behind those that were found, with at most so many steps, and what follows a last `else`
  unfoldable pub arms_from : ℕ → List IfArm → Parser Stmt
  arms_from zero found s = Fail
  arms_from (suc n) found s =
      cond (sees marks.Else s.tokens)
      (cond (sees marks.If (tail s.tokens)) (and_then (arm (next s)) (λ a. arms_from n (found ++ a ∷ []))) (last_else found (next s)))
      (Done (stmts.If found None) s)

  unfoldable pub if_stmt : Parser Stmt
  if_stmt = arm >>= λ a s. arms_from (suc (length s.tokens)) (a ∷ []) s

  -- Stmt (JLS 14.5)
  unfoldable pub stmt : Parser Stmt
  stmt = choose (sees marks.If) if_stmt plain_stmt
