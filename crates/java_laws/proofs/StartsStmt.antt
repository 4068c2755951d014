-- What tokens weigh in statements.
use Rattle.std.proofs.Common.{◌≡◌, ◌+◌, ℕ, Bool, true, false, List, [], ◌∷◌, ◌++◌, Option, Some, None, map, refl, ap, arith, option_to_list}
use Rattle.java_tree.specs.declared.mark.Mark.TheVariants as marks
use Rattle.java_tree.specs.declared.names.Ident.{Ident}
use Rattle.java_tree.specs.declared.expr.Expr.{Expr}
use Rattle.java_tree.specs.declared.expr.Initializer.{Initializer}
use Rattle.java_tree.specs.declared.stmt.Block.{Block}
use Rattle.java_tree.specs.declared.stmt.BlockStatement.{BlockStatement, out-BlockStatement, fold_out-BlockStatement, map-BlockStatement}
use Rattle.java_tree.specs.declared.stmt.BlockStatement.TheOpen.{BlockStatement-F, Stmt-F}
use Rattle.java_tree.specs.declared.stmt.Catch.{Catch}
use Rattle.java_tree.specs.declared.stmt.ForInit.{ForInit}
use Rattle.java_tree.specs.declared.stmt.ForInit.TheVariants as inits
use Rattle.java_tree.specs.declared.stmt.IfArm.{IfArm}
use Rattle.java_tree.specs.declared.stmt.LocalVariables.{LocalVariables}
use Rattle.java_tree.specs.declared.stmt.Parameter.{Parameter}
use Rattle.java_tree.specs.declared.stmt.Stmt.{Stmt, out-Stmt, fold_out-Stmt, map-Stmt}
use Rattle.java_tree.specs.declared.stmt.SwitchGroup.{SwitchGroup}
use Rattle.java_tree.specs.declared.stmt.SwitchLabel.{SwitchLabel}
use Rattle.java_tree.specs.declared.stmt.SwitchLabel.TheVariants as labels
use Rattle.java_tree.specs.declared.stmt.Variable.{Variable}
use Rattle.java_tree.specs.declared.unit.TypeDecl.{TypeDecl}
use Rattle.java_model.specs.Tree.Nodes.{Node}
use Rattle.java_model.specs.Tree.Nodes as nodes
use Rattle.java_model.specs.Tree.InExpressions.{reads, spelled, initializer}
use Rattle.java_model.specs.Tree.InStatements.{StmtLayer, BlockStatementLayer, block_statement_in, block_statement, optional_expression, in_for_init, in_label, in_variable, in_statement}
use Rattle.java_model.specs.Grammar.Signs.{mark, left_brace, word}
use Rattle.java_model.specs.Grammar.Pieces.{Yield, Piece, token, the, Around, deeper, each, yield_dims, yield_type}
use Rattle.java_model.specs.Grammar.YieldStmt.{Step, all_yield, yield_final, yield_nested, yield_any_expr, yield_detail, yield_condition, yield_any_label, yield_any_initializer, yield_variable, yield_local, yield_parameter, yield_exprs, yield_for_init, yield_switch_label, behind_else, yield_arms, yield_stmt, yield_block_statement, yield_block, yield_catch, yield_arm, yield_group, block_statement_step, stmt_step, block_step, catch_step, arm_step, group_step}
use Rattle.java_model.proofs.Grammar.YieldStmt.{yield_block-parts, yield_catch-parts, yield_arm-parts, yield_group-parts}
use Rattle.java_laws.proofs.Starts.{Weight, total-append, Holds, nothing, fit, next, skip, one-token, behind, before-plain, dims-hold, between, each-holds, parted-holds}
use Rattle.java_laws.proofs.StartsExpr.{Good, type-holds, initializer-holds}

abbrev opened-block-statement : BlockStatementLayer → Step
opened-block-statement l = block_statement_step (map-BlockStatement BlockStatement Stmt Block Catch IfArm SwitchGroup Step Yield Yield Yield Yield Step
    yield_block_statement yield_stmt yield_block yield_catch yield_arm yield_group l)

yields-block-statement : (b : BlockStatement) → yield_block_statement b ≡ opened-block-statement (out-BlockStatement b)
unfolding yield_stmt yield_block_statement yield_block yield_catch yield_arm yield_group
yields-block-statement b = fold_out-BlockStatement Step Yield Yield Yield Yield Step block_statement_step stmt_step block_step catch_step arm_step group_step b

abbrev opened-stmt : StmtLayer → Yield
opened-stmt l = stmt_step (map-Stmt BlockStatement Stmt Block Catch IfArm SwitchGroup Step Yield Yield Yield Yield Step
    yield_block_statement yield_stmt yield_block yield_catch yield_arm yield_group l)

yields-stmt : (s : Stmt) (a : Around) → yield_stmt s a ≡ opened-stmt (out-Stmt s) a
unfolding yield_stmt yield_block_statement yield_block yield_catch yield_arm yield_group
yields-stmt s a = ap (λ y. y a) (fold_out-Stmt Step Yield Yield Yield Yield Step block_statement_step stmt_step block_step catch_step arm_step group_step s)

module _ (at : Weight) (types : List TypeDecl) (T : Node → ℕ) (G : (n : Node) → Good at types T n) where
  block-statement-layer : (l : BlockStatementLayer) (a : Around) → Holds at types T ((opened-block-statement l).yields a) 0 (block_statement_in l ∷ [])
  block-statement-layer (BlockStatement-F.LocalClass brace) a = G (nodes.declaration brace) _ refl
  block-statement-layer (BlockStatement-F.Local l) a = before-plain at types T (yield_local l a) _ 0 _ (G (nodes.locals l) a) (one-token at types T
      (mark marks.Semicolon))
  block-statement-layer (BlockStatement-F.Statement s) a = G (nodes.statement s) (deeper a)

  block-statement-holds : (b : BlockStatement) (a : Around) → Holds at types T ((yield_block_statement b).yields a) 0 (block_statement b ∷ [])
  block-statement-holds b a = rw (yields-block-statement b) (block-statement-layer (out-BlockStatement b) a)

  pub statements-hold : (bs : List BlockStatement) (a : Around) → Holds at types T (all_yield (map yield_block_statement bs) a) 0 (map block_statement bs)
  statements-hold [] a = nothing at types T
  statements-hold (b ∷ bs) a = behind at types T ((yield_block_statement b).yields a) _ (block_statement b ∷ []) (map block_statement bs)
      (block-statement-holds b a) (statements-hold bs ((yield_block_statement b).leaves a))

  groups-hold : (gs : List SwitchGroup) (a : Around) → Holds at types T (all_yield (map yield_group gs) a) 0 (map nodes.group gs)
  groups-hold [] a = nothing at types T
  groups-hold (g ∷ gs) a = behind at types T ((yield_group g).yields a) _ (nodes.group g ∷ []) (map nodes.group gs)
      (G (nodes.group g) a) (groups-hold gs ((yield_group g).leaves a))

  final-holds : (b : Bool) → Holds at types T (yield_final b) 0 []
  final-holds true = one-token at types T (mark marks.Final)
  final-holds false = nothing at types T

  label-holds : (i : Option Ident) → Holds at types T (yield_any_label i) 0 []
  label-holds None = nothing at types T
  label-holds (Some i) = one-token at types T (word i)

  ended : (ps : List Piece) (ns : List Node) → Holds at types T ps 0 ns → Holds at types T (ps ++ the marks.Semicolon ∷ []) 0 ns
  ended ps ns h = before-plain at types T ps _ 0 ns h (one-token at types T (mark marks.Semicolon))

  any-expr-holds : (x : Option Expr) (a : Around) → Holds at types T (yield_any_expr x a) 0 (optional_expression x)
  any-expr-holds None a = nothing at types T
  any-expr-holds (Some x) a = G (reads x) (deeper a)

  detail-holds : (x : Option Expr) (a : Around) → Holds at types T (yield_detail x a) 0 (optional_expression x)
  detail-holds None a = nothing at types T
  detail-holds (Some x) a = skip at types T (mark marks.Colon) _ 0 _ (G (reads x) (deeper a))

  condition-holds : (x : Expr) (a : Around) → Holds at types T (yield_condition x a) 0 (reads x ∷ [])
  condition-holds x a = between at types T (mark marks.LeftParen) (mark marks.RightParen) _ _ (G (reads x) (deeper a))

  any-initializer-holds : (i : Option Initializer) (a : Around) → Holds at types T (yield_any_initializer i a) 0 (map initializer (option_to_list i))
  any-initializer-holds None a = nothing at types T
  any-initializer-holds (Some i) a = skip at types T (mark marks.Assign) _ 0 _ (initializer-holds at types T G i a)

  pub variable-parts : (v : Variable) (a : Around) → Holds at types T (yield_variable v a) (at.weigh v.name.span) (in_variable v)
  variable-parts v a = fit at types T _ (at.weigh v.name.span + 0) _ (in_variable v) (in_variable v) (omega arith)
      (next at types T (word v.name) _ 0 _ (behind at types T (yield_dims v.dims) _ [] (in_variable v) (dims-hold at types T v.dims)
      (any-initializer-holds v.initializer a)))

  pub local-parts : (l : LocalVariables) (a : Around) → Holds at types T (yield_local l a) 0 (spelled l.of ∷ map (nodes.variable l.of) l.variables)
  local-parts l a = behind at types T (yield_final l.is_final ++ yield_type l.of) _ (spelled l.of ∷ []) (map (nodes.variable l.of) l.variables)
      (behind at types T (yield_final l.is_final) (yield_type l.of) [] (spelled l.of ∷ []) (final-holds l.is_final) (type-holds at types T G l.of l.of.dims))
      (parted-holds at types T yield_variable (nodes.variable l.of) (λ v b. G (nodes.variable l.of v) b) l.variables a)

  pub parameter-parts : (p : Parameter) (a : Around) → Holds at types T (yield_parameter p a) 0 (spelled p.of ∷ [])
  parameter-parts p a = before-plain at types T (yield_final p.is_final ++ yield_type p.of) _ 0 _
      (behind at types T (yield_final p.is_final) (yield_type p.of) [] (spelled p.of ∷ []) (final-holds p.is_final) (type-holds at types T G p.of p.of.dims))
      (skip at types T (word p.name) _ 0 [] (dims-hold at types T p.dims))

  exprs-hold : (xs : List Expr) (a : Around) → Holds at types T (yield_exprs xs a) 0 (map reads xs)
  exprs-hold xs a = parted-holds at types T yield_nested reads (λ x b. G (reads x) (deeper b)) xs a

  for-init-holds : (i : ForInit) (a : Around) → Holds at types T (yield_for_init i a) 0 (in_for_init i)
  for-init-holds (inits.Local l) a = G (nodes.locals l) a
  for-init-holds (inits.Expressions xs) a = exprs-hold xs a

  switch-label-holds : (l : SwitchLabel) (a : Around) → Holds at types T (yield_switch_label l a) 0 (in_label l)
  switch-label-holds (labels.Case x) a = between at types T (mark marks.Case) (mark marks.Colon) _ _ (G (reads x) (deeper a))
  switch-label-holds labels.Default a = skip at types T (mark marks.Default) _ 0 [] (one-token at types T (mark marks.Colon))

  else-arms-hold : (xs : List IfArm) (a : Around) → Holds at types T (behind_else (map yield_arm xs) a) 0 (map nodes.arm xs)
  else-arms-hold [] a = nothing at types T
  else-arms-hold (x ∷ xs) a = skip at types T (mark marks.Else) _ 0 _
      (behind at types T (yield_arm x a) _ (nodes.arm x ∷ []) (map nodes.arm xs) (G (nodes.arm x) a) (else-arms-hold xs a))

  arms-hold : (xs : List IfArm) (a : Around) → Holds at types T (yield_arms (map yield_arm xs) a) 0 (map nodes.arm xs)
  arms-hold [] a = nothing at types T
  arms-hold (x ∷ xs) a = behind at types T (yield_arm x a) _ (nodes.arm x ∷ []) (map nodes.arm xs) (G (nodes.arm x) a) (else-arms-hold xs a)

  braced : (brace : ℕ) (ps : List Piece) (ns : List Node) → Holds at types T ps 0 ns
      → Holds at types T (token (left_brace brace) ∷ (ps ++ the marks.RightBrace ∷ [])) 0 ns
  braced brace ps ns h = between at types T (left_brace brace) (mark marks.RightBrace) ps ns h

  pub block-parts : (b : Block) (a : Around) → Holds at types T (yield_block b a) 0 (map block_statement b.statements)
  block-parts b a = rw (yield_block-parts b a) (braced b.brace _ _ (statements-hold b.statements a))

  pub catch-parts : (c : Catch) (a : Around) → Holds at types T (yield_catch c a) 0 (nodes.parameter c.parameter ∷ nodes.block c.block ∷ [])
  catch-parts c a = rw (yield_catch-parts c a) (skip at types T (mark marks.Catch) _ 0 _ (skip at types T (mark marks.LeftParen) _ 0 _
      (behind at types T (yield_parameter c.parameter a) _ (nodes.parameter c.parameter ∷ []) (nodes.block c.block ∷ []) (G (nodes.parameter c.parameter) a)
      (skip at types T (mark marks.RightParen) _ 0 _ (G (nodes.block c.block) a)))))

  pub arm-parts : (x : IfArm) (a : Around) → Holds at types T (yield_arm x a) 0 (reads x.condition ∷ nodes.statement x.then ∷ [])
  arm-parts x a = rw (yield_arm-parts x a) (skip at types T (mark marks.If) _ 0 _
      (behind at types T (yield_condition x.condition a) _ (reads x.condition ∷ []) (nodes.statement x.then ∷ []) (condition-holds x.condition a)
      (G (nodes.statement x.then) (deeper a))))

  pub group-parts : (g : SwitchGroup) (a : Around) → Holds at types T ((yield_group g).yields a) 0 (in_label g.label ++ map block_statement g.statements)
  group-parts g a = rw (yield_group-parts g a)
      (behind at types T (yield_switch_label g.label a) _ (in_label g.label) (map block_statement g.statements) (switch-label-holds g.label a)
      (statements-hold g.statements a))

  stmt-layer : (l : StmtLayer) (a : Around) → Holds at types T (opened-stmt l a) 0 (in_statement l)
  stmt-layer (Stmt-F.Block b) a = G (nodes.block b) a
  stmt-layer Stmt-F.Empty a = one-token at types T (mark marks.Semicolon)
  stmt-layer (Stmt-F.Labeled i s) a = skip at types T (word i) _ 0 _ (skip at types T (mark marks.Colon) _ 0 _ (G (nodes.statement s) (deeper a)))
  stmt-layer (Stmt-F.Expression x) a = ended _ _ (G (reads x) (deeper a))
  stmt-layer (Stmt-F.If xs None) a = behind at types T (yield_arms (map yield_arm xs) a) [] (map nodes.arm xs) [] (arms-hold xs a) (nothing at types T)
  stmt-layer (Stmt-F.If xs (Some last)) a = behind at types T (yield_arms (map yield_arm xs) a) _ (map nodes.arm xs) (nodes.statement last ∷ [])
      (arms-hold xs a)
      (skip at types T (mark marks.Else) _ 0 _ (G (nodes.statement last) a))
  stmt-layer (Stmt-F.While x s) a = skip at types T (mark marks.While) _ 0 _
      (behind at types T (yield_condition x a) _ (reads x ∷ []) (nodes.statement s ∷ []) (condition-holds x a) (G (nodes.statement s) (deeper a)))
  stmt-layer (Stmt-F.Do s x) a = skip at types T (mark marks.Do) _ 0 _
      (behind at types T (yield_stmt s (deeper a)) _ (nodes.statement s ∷ []) (reads x ∷ []) (G (nodes.statement s) (deeper a))
      (skip at types T (mark marks.While) _ 0 _ (ended _ _ (condition-holds x a))))
  stmt-layer (Stmt-F.For init test update s) a =
      let I = in_for_init init in
      let E = optional_expression test in
      let U = map reads update in
      let S = nodes.statement s ∷ [] in
      let e = total-append T I (E ++ (U ++ S)) in
      let f = total-append T E (U ++ S) in
      let g = total-append T U S in
      let h = total-append T (I ++ E ++ U) S in
      let i = total-append T (I ++ E) U in
      let j = total-append T I E in
      fit at types T _ 0 0 (I ++ (E ++ (U ++ S))) (I ++ E ++ U ++ S) (omega (arith, e, f, g, h, i, j))
      (skip at types T (mark marks.For) _ 0 _ (skip at types T (mark marks.LeftParen) _ 0 _
      (behind at types T (yield_for_init init a) _ I _ (for-init-holds init a) (skip at types T (mark marks.Semicolon) _ 0 _
      (behind at types T (yield_any_expr test a) _ E _ (any-expr-holds test a) (skip at types T (mark marks.Semicolon) _ 0 _
      (behind at types T (yield_exprs update a) _ U _ (exprs-hold update a)
      (skip at types T (mark marks.RightParen) _ 0 _ (G (nodes.statement s) (deeper a))))))))))
  stmt-layer (Stmt-F.Switch x brace groups) a = skip at types T (mark marks.Switch) _ 0 _
      (behind at types T (yield_condition x a) _ (reads x ∷ []) (map nodes.group groups) (condition-holds x a) (braced brace _ _ (groups-hold groups a)))
  stmt-layer (Stmt-F.Break i) a = skip at types T (mark marks.Break) _ 0 [] (ended _ [] (label-holds i))
  stmt-layer (Stmt-F.Continue i) a = skip at types T (mark marks.Continue) _ 0 [] (ended _ [] (label-holds i))
  stmt-layer (Stmt-F.Return x) a = skip at types T (mark marks.Return) _ 0 _ (ended _ _ (any-expr-holds x a))
  stmt-layer (Stmt-F.Throw x) a = skip at types T (mark marks.Throw) _ 0 _ (ended _ _ (G (reads x) (deeper a)))
  stmt-layer (Stmt-F.Synchronized x b) a = skip at types T (mark marks.Synchronized) _ 0 _
      (behind at types T (yield_condition x a) _ (reads x ∷ []) (nodes.block b ∷ []) (condition-holds x a) (G (nodes.block b) a))
  stmt-layer (Stmt-F.Try b cs None) a = skip at types T (mark marks.Try) _ 0 _
      (behind at types T (yield_block b a ++ each (map yield_catch cs) a) [] (nodes.block b ∷ map nodes.catch_clause cs) []
      (behind at types T (yield_block b a) _ (nodes.block b ∷ []) (map nodes.catch_clause cs) (G (nodes.block b) a)
      (each-holds at types T yield_catch nodes.catch_clause (λ c d. G (nodes.catch_clause c) d) cs a)) (nothing at types T))
  stmt-layer (Stmt-F.Try b cs (Some last)) a = skip at types T (mark marks.Try) _ 0 _
      (behind at types T (yield_block b a ++ each (map yield_catch cs) a) _ (nodes.block b ∷ map nodes.catch_clause cs) (nodes.block last ∷ [])
      (behind at types T (yield_block b a) _ (nodes.block b ∷ []) (map nodes.catch_clause cs) (G (nodes.block b) a)
      (each-holds at types T yield_catch nodes.catch_clause (λ c d. G (nodes.catch_clause c) d) cs a))
      (skip at types T (mark marks.Finally) _ 0 _ (G (nodes.block last) a)))
  stmt-layer (Stmt-F.Assert x detail) a = skip at types T (mark marks.Assert) _ 0 _
      (ended _ _ (behind at types T (yield_nested x a) _ (reads x ∷ []) (optional_expression detail) (G (reads x) (deeper a)) (detail-holds detail a)))

  pub stmt-parts : (s : Stmt) (a : Around) → Holds at types T (yield_stmt s a) 0 (in_statement (out-Stmt s))
  stmt-parts s a = rw (yields-stmt s a) (stmt-layer (out-Stmt s) a)
