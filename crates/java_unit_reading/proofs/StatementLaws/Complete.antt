-- Statements: their readers give what stands in the tokens.
use Rattle.std.proofs.Common.{◌≡◌, ℕ, zero, suc, Bool, true, false, cond, List, [], ◌∷◌, ◌++◌, length, map, Option, Some, None, option_map, IfSome, refl, sym, ap, ◌∙◌, subst}
use Rattle.std.specs.List.{AllByRecursion}
use Rattle.std.proofs.lemmas.List.{append-nil}
use Rattle.java_tree.specs.declared.mark.Mark.{Mark}
use Rattle.java_tree.specs.declared.mark.Mark.TheVariants as marks
use Rattle.java_tree.specs.declared.names.Ident.{Ident}
use Rattle.java_tree.specs.declared.expr.Expr.{Expr}
use Rattle.java_tree.specs.declared.stmt.Variable.{Variable}
use Rattle.java_tree.specs.declared.stmt.LocalVariables.{LocalVariables}
use Rattle.java_tree.specs.declared.stmt.Parameter.{Parameter}
use Rattle.java_tree.specs.declared.stmt.ForInit.{ForInit}
use Rattle.java_tree.specs.declared.stmt.ForInit.TheVariants as inits
use Rattle.java_tree.specs.declared.stmt.SwitchLabel.{SwitchLabel}
use Rattle.java_tree.specs.declared.stmt.SwitchLabel.TheVariants as labels
use Rattle.java_tree.specs.declared.stmt.Stmt.{Stmt}
use Rattle.java_tree.specs.declared.stmt.Stmt.TheVariants as stmts
use Rattle.java_tree.specs.declared.stmt.BlockStatement.{BlockStatement}
use Rattle.java_tree.specs.declared.stmt.BlockStatement.TheVariants as block_statements
use Rattle.java_tree.specs.declared.stmt.Block.{Block}
use Rattle.java_tree.specs.declared.stmt.Catch.{Catch}
use Rattle.java_tree.specs.declared.stmt.IfArm.{IfArm}
use Rattle.java_tree.specs.declared.stmt.SwitchGroup.{SwitchGroup}
use Rattle.java_tree.specs.declared.unit.TypePlace.TheVariants as places
use Rattle.java_model.specs.Grammar.Signs.{Sign, mark, word}
use Rattle.java_model.specs.Grammar.Pieces.{Piece, token, hole, Hole, the, Around, deeper, each, yield_dims, yield_type}
use Rattle.java_model.specs.Grammar.YieldExpr.{yield_initializer}
use Rattle.java_model.specs.Grammar.YieldStmt.{all_yield, yield_final, yield_nested, yield_any_expr, yield_detail, yield_condition, yield_any_label, yield_any_initializer, yield_variable, yield_variables, yield_local, yield_parameter, yield_exprs, yield_for_init, yield_switch_label, yield_finally, yield_braced, yield_stmt, yield_block_statement, yield_block, yield_catch, yield_group}
use Rattle.java_model.specs.Grammar.Forms.{IsNonEmpty}
use Rattle.java_model.specs.Grammar.Expressions.{IsExpr, IsType, IsInitializer, nested}
use Rattle.java_model.specs.Grammar.Statements.{Ifs, any, IsStatementExpr, IsVariable, IsVariables, IsLocal, IsParameter, IsForInit, IsSwitchLabel, local_class as a_local_class, local as a_local, statement as a_statement, IsBlockStatements, IsBlock, IsGroup, IsCatch, IsPlain, block as a_block, empty as an_empty, labeled as a_labeled, expression as an_expression, while as a_while, do_while as a_do, for as a_for, switch as a_switch, break as a_break, continue as a_continue, return as a_return, throw as a_throw, synchronized as a_synchronized, try_catch, try_finally, assert as an_assert, plain, short_if, if_else, IsStmt}
use Rattle.java_model.proofs.Grammar.YieldStmt.{yield_stmt-Block, yield_stmt-Empty, yield_stmt-Labeled, yield_stmt-Expression, yield_stmt-If, yield_stmt-While, yield_stmt-Do, yield_stmt-For, yield_stmt-Switch, yield_stmt-Break, yield_stmt-Continue, yield_stmt-Return, yield_stmt-Throw, yield_stmt-Synchronized, yield_stmt-Try, yield_stmt-Assert, yield_block_statement-LocalClass, yield_block_statement-Local, yield_block_statement-Statement, yield_block-parts, yield_catch-parts, yield_arm-parts, yield_group-parts}
use Rattle.java_unit_reading.specs.Reading.Steps.{State, Done, Fail, Parser, and_then, ◌>>=◌, pure, sees, tail, next, expect, eat, brace, identifier, introduced, list, list_from}
use Rattle.java_unit_reading.specs.Reading.Words.{is_word, dims, type_use, declares}
use Rattle.java_unit_reading.specs.Reading.Nested.{Exprs, Parts, expr, statement_expr, initializer, condition, comma_statement_expr}
use Rattle.java_unit_reading.specs.Reading.Statements.{begins_class, begins_local, ends_block, variable, comma_variable, variables, local, parameter, any_expr, statement_exprs, for_init, local_class, local_variables, nested_statement, block_statement, any_block_statement, block, case_label, default_label, switch_label, group, any_group, catch_clause, any_catch, any_label, block_stmt, empty_stmt, labeled_stmt, expression_stmt, while_stmt, do_stmt, for_stmt, switch_stmt, break_stmt, continue_stmt, return_stmt, throw_stmt, synchronized_stmt, tried, try_stmt, assert_stmt}
use Rattle.java_unit_reading.proofs.Sounding.{sees_is}
use Rattle.std.proofs.Common.{◌≤◌, arith, ◌||◌}
use Rattle.java_tree.specs.declared.names.Primitive.TheVariants as primitives
use Rattle.java_model.specs.Grammar.Runs.{ends_expr}
use Rattle.java_model.specs.Grammar.Signs.{primitive_mark, modifier_mark}
use Rattle.java_tree.specs.declared.names.Primitive.{Primitive}
use Rattle.java_tree.specs.declared.names.Modifier.{Modifier}
use Rattle.java_tree.specs.declared.names.Modifier.TheVariants as modifier_words
use Rattle.java_tree.specs.declared.names.TypeUse.{TypeUse}
use Rattle.java_tree.specs.declared.unit.TypeDecl.{TypeDecl}
use Rattle.java_tree.specs.declared.unit.TypeHead.{TypeHead}
use Rattle.java_tree.specs.declared.unit.TypeHead.TheVariants as heads
use Rattle.java_model.specs.Grammar.Units.{Stage, stage, Spells, spells_nothing, IsHead}
use Rattle.java_model.specs.Grammar.YieldUnit.{yield_head, yield_modifiers}
use Rattle.java_model.proofs.Grammar.Reads.{spells_split, spells_token_of, spells_type_of}
use Rattle.java_expr_reading.specs.Shapes.{same_mark}
use Rattle.java_unit_reading.specs.Reading.Words.{skip_modifiers}
use Rattle.java_unit_reading.proofs.Completing.{At, Gives, gives, Complete, Always, then_gives, first_gives, second_gives, at_end, headed, sees_same, sees_next, expect_gives, brace_gives, word_gives, part_gives, last_gives, spells_as, spells_right}
use Rattle.java_unit_reading.proofs.Listing.{stays, behind_item, many_gives, some_piece}
use Rattle.java_unit_reading.proofs.WordLaws.{eaten_yield, NoModifier, NoDim, WordNext, dims_gives, type_gives, option_gives, eat_gives, unless_gives, unless_stops, unless_done}
use Rattle.java_unit_reading.proofs.Commas.{EndsList, commas_gives}
use Rattle.java_unit_reading.proofs.Expressions.Holding.{begins_expr_with, OpensExpr, ExprsHold, EndsStmt, InPlace, PartsHold}
use Rattle.java_unit_reading.proofs.NestedLaws.{EndsExpr, no_sees, then_done, expr_opens, expr_gives, statement_expr_gives, initializer_gives, condition_gives, comma_ends}
use Rattle.java_unit_reading.proofs.Lookahead.{skips_modifiers, type_headed, type_declares, end_ends, class_ends, local_ends, ends_no_catch, ends_no_finally}
use Rattle.java_unit_reading.proofs.StatementLaws.Sound.{same_place, spread_block, spread_groups, spread_each, BlockItem, leaves_in_place, group_in_place}

-- the tokens behind a declaration of variables: `;` alone ends one
abbrev pub EndsVariables : List Sign → Type 0
EndsVariables ts = sees marks.Semicolon ts ≡ true

semicolon_ends : (ts : List Sign) → EndsVariables ts → EndsExpr ts
semicolon_ends ts h = subst EndsExpr (sym (sees_is marks.Semicolon ts h)) refl

-- what may follow a variable
abbrev pub EndsVariable : List Sign → Type 0
EndsVariable ts = (sees marks.Assign ts ≡ false) × (NoDim ts × EndsExpr ts)

comma_ends_variable : (ts : List Sign) → sees marks.Comma ts ≡ true → EndsVariable ts
unfolding sees same_mark
comma_ends_variable ts h = subst EndsVariable (sym (sees_is marks.Comma ts h)) (refl, (refl, refl))

semicolon_ends_variables : (ts : List Sign) → EndsVariables ts → EndsList EndsVariable ts
unfolding sees same_mark
semicolon_ends_variables ts h = subst (EndsList EndsVariable) (sym (sees_is marks.Semicolon ts h)) (refl, (refl, (refl, refl)))

-- a statement yields something
plain_some : (d : ℕ) (ifs : Ifs) (x : Stmt) (a : Around) → IsPlain (nested d) (IsStmt d) ifs x → IsNonEmpty (yield_stmt x a)
plain_some d ifs x a (a_block b e h) = rw (e, yield_stmt-Block, yield_block-parts) tt
plain_some d ifs x a (an_empty e) = rw (e, yield_stmt-Empty) tt
plain_some d ifs x a (a_labeled i y e h) = rw (e, yield_stmt-Labeled) tt
plain_some d ifs x a (an_expression y e h) = rw (e, yield_stmt-Expression) (some_piece (yield_nested y a) _ [])
plain_some d ifs x a (a_while y z e h g) = rw (e, yield_stmt-While) tt
plain_some d ifs x a (a_do y z e h g) = rw (e, yield_stmt-Do) tt
plain_some d ifs x a (a_for init test update y e h g k l) = rw (e, yield_stmt-For) tt
plain_some d ifs x a (a_switch y brace groups e h g) = rw (e, yield_stmt-Switch) tt
plain_some d ifs x a (a_break label e) = rw (e, yield_stmt-Break) tt
plain_some d ifs x a (a_continue label e) = rw (e, yield_stmt-Continue) tt
plain_some d ifs x a (a_return y e h) = rw (e, yield_stmt-Return) tt
plain_some d ifs x a (a_throw y e h) = rw (e, yield_stmt-Throw) tt
plain_some d ifs x a (a_synchronized y b e h g) = rw (e, yield_stmt-Synchronized) tt
plain_some d ifs x a (try_catch b c cs f e h g k l) = rw (e, yield_stmt-Try) tt
plain_some d ifs x a (try_finally b f e h g) = rw (e, yield_stmt-Try) tt
plain_some d ifs x a (an_assert y o e h g) = rw (e, yield_stmt-Assert) tt

arms_some : (x : IfArm) (xs : List IfArm) (o : Option Stmt) (a : Around) → IsNonEmpty (yield_stmt (stmts.If (x ∷ xs) o) a)
arms_some x xs o a = rw (yield_stmt-If, yield_arm-parts) tt

stmt_some : (d : ℕ) (ifs : Ifs) (x : Stmt) (a : Around) → IsStmt d ifs x → IsNonEmpty (yield_stmt x a)
unfolding IsStmt
stmt_some zero ifs x a h = absurd h
stmt_some (suc d) ifs x a (plain h) = plain_some d ifs x a h
stmt_some (suc d) ifs x a (short_if [] last e i h g) = rw e (arms_some last [] None a)
stmt_some (suc d) ifs x a (short_if (y ∷ ys) last e i h g) = rw e (arms_some y (ys ++ last ∷ []) None a)
stmt_some (suc d) ifs x a (if_else y ys z e h g k) = rw e (arms_some y ys (Some z) a)

module _ (E : Exprs) (P : Parts) (d : ℕ) (w : Option ℕ) (fits : d ≤ 256) (holds : ExprsHold E) (parts : PartsHold E P d) where
  assign_no_dim : (o : Option _) (a : Around) (p q : Stage) → Spells (yield_any_initializer o a) p q → NoDim q.tokens → NoDim p.tokens
  unfolding sees same_mark
  assign_no_dim None a p q (spells_nothing _) h = h
  assign_no_dim (Some i) a p q g h = headed NoDim (mark marks.Assign) _ p q (λ ts. refl) g

  pub any_initializer_gives : (o : Option _) (a : Around) → IfSome o (IsInitializer (nested d))
      → InPlace d w a
      → Complete (introduced marks.Assign (initializer E P d w)) (yield_any_initializer o a) o EndsVariable
  any_initializer_gives None a h i total s from to at g follow =
      option_gives (λ x b. yield_initializer x b) (IsInitializer (nested d)) (InPlace d w) marks.Assign (initializer E P d w) EndsExpr (λ x b k j. initializer_gives E P d w fits holds parts x b k j) None a h i total s from to at g (follow.0, follow.1.1)
  any_initializer_gives (Some x) a h i total s from to at g follow =
      option_gives (λ y b. yield_initializer y b) (IsInitializer (nested d)) (InPlace d w) marks.Assign (initializer E P d w) EndsExpr (λ y b k j. initializer_gives E P d w fits holds parts y b k j) (Some x) a h i total s from to at g (follow.0, follow.1.1)

  pub variable_gives : (v : Variable) (a : Around) → IsVariable (nested d) v → InPlace d w a
      → Complete (variable E P d w) (yield_variable v a) v EndsVariable
  unfolding variable
  variable_gives v a h i total s from to at g follow =
      word_gives v.name _ _ at g (λ t mid at2 r.
      part_gives dims (yield_dims v.dims) (yield_any_initializer v.initializer a) NoDim _ (dims_gives v.dims) at2 r (λ m l. assign_no_dim v.initializer a m to l follow.1.0) (λ u mid2 at3 l.
      last_gives (introduced marks.Assign (initializer E P d w)) (yield_any_initializer v.initializer a) EndsVariable _ (any_initializer_gives v.initializer a h i) at3 l follow (λ x at4. gives x at4)))

  pub variables_gives : (vs : List Variable) (a : Around) → IsVariables (nested d) vs → InPlace d w a
      → Complete (variables E P d w) (yield_variables vs a) vs EndsVariables
  unfolding variables comma_variable
  variables_gives [] a h i total s from to at g follow = absurd h.0
  variables_gives (v ∷ vs) a h i total s from to at g follow =
      commas_gives (InPlace d w) (IsVariable (nested d)) yield_variable same_place (variable E P d w) EndsVariable (λ x b k j. variable_gives x b k j) comma_ends_variable v vs a h.1 i total s from to at g
      (semicolon_ends_variables to.tokens follow)

  pub variables_headed : (vs : List Variable) (a : Around) (p q : Stage) → IsVariables (nested d) vs
      → Spells (yield_variables vs a) p q → WordNext p.tokens
  variables_headed [] a p q h g = absurd h.0
  variables_headed (v ∷ vs) a p q h g = headed WordNext (word v.name) _ p q (λ ts. refl) g

  no_final : (t : TypeUse) (qs : List Piece) (p q : Stage) → IsType t → Spells (yield_type t ++ qs) p q → sees marks.Final p.tokens ≡ false
  unfolding sees same_mark
  no_final t qs p q h g = type_headed (λ ts. sees marks.Final ts ≡ false) t qs p q h primitive_no_final (λ i ts. refl) g
    where
      primitive_no_final : (x : Primitive) (ts : List Sign) → sees marks.Final (mark (primitive_mark x) ∷ ts) ≡ false
      primitive_no_final primitives.Boolean ts = refl
      primitive_no_final primitives.Byte ts = refl
      primitive_no_final primitives.Short ts = refl
      primitive_no_final primitives.Char ts = refl
      primitive_no_final primitives.Int ts = refl
      primitive_no_final primitives.Long ts = refl
      primitive_no_final primitives.Float ts = refl
      primitive_no_final primitives.Double ts = refl

  final_is_eaten : (b : Bool) → yield_final b ≡ eaten_yield marks.Final b
  final_is_eaten true = refl
  final_is_eaten false = refl

  -- ['final'] Type, before an identifier
  pub final_type_gives : {B : Type 0} {total : List TypeDecl} {y : B} {s : State} {p q end : Stage} (b : Bool) (t : TypeUse) (qs : List Piece) (f : Bool → TypeUse → Parser B)
      → IsType t
      → At total s p → Spells (yield_final b ++ yield_type t ++ qs) p q → ((m : Stage) → Spells qs m q → WordNext m.tokens)
      → ((u : State) (m : Stage) → At total u m → Spells qs m q → Gives total y end (f b t u))
      → Gives total y end (and_then (eat marks.Final s) (λ c. type_use >>= λ ty. f c ty))
  final_type_gives {s = s} {p = p} {q = q} b t qs f h at g follow k =
      let g2 = spells_as (ap (λ ps. ps ++ (yield_type t ++ qs)) (final_is_eaten b)) (spells_right (yield_final b) (yield_type t) qs g) in
      part_gives (eat marks.Final) (eaten_yield marks.Final b) (yield_type t ++ qs) (λ ts. b ≡ false → sees marks.Final ts ≡ false) _ (eat_gives marks.Final b) at g2 (λ m l e. no_final t qs m q h l) (λ u mid at2 l.
      part_gives type_use (yield_type t) qs WordNext _ (type_gives t h) at2 l follow k)

  pub local_gives : (l : LocalVariables) (a : Around) → IsLocal (nested d) l → InPlace d w a
      → Complete (local E P d w) (yield_local l a) l EndsVariables
  unfolding local
  local_gives l a h i total s from to at g follow =
      final_type_gives l.is_final l.of (yield_variables l.variables a) (λ b t. variables E P d w >>= λ vs. pure (record { is_final = b; of = t; variables = vs })) h.0 at g
      (λ m r. variables_headed l.variables a m to h.1 r)
      (λ u m at2 r. last_gives (variables E P d w) (yield_variables l.variables a) EndsVariables _ (variables_gives l.variables a h.1 i) at2 r follow (λ x at3. gives x at3))

  pub parameter_gives : (x : Parameter) (a : Around) → IsParameter x → InPlace d w a → Complete (parameter E P d w) (yield_parameter x a) x NoDim
  unfolding parameter
  parameter_gives x a h i total s from to at g follow =
      final_type_gives x.is_final x.of (token (word x.name) ∷ yield_dims x.dims) (λ b t. identifier >>= λ i. dims >>= λ n. pure (record { is_final = b; of = t; name = i; dims = n })) h at g
      (λ m r. headed WordNext (word x.name) _ m to (λ ts. refl) r)
      (λ u m at2 r. word_gives x.name _ _ at2 r (λ v mid at3 l. last_gives dims (yield_dims x.dims) NoDim _ (dims_gives x.dims) at3 l follow (λ y at4. gives y at4)))

  -- [Expr] before a mark that ends one
  pub any_expr_gives : (m : Mark) (o : Option Expr) (a : Around) → ends_expr (mark m ∷ []) ≡ true
      → begins_expr_with m ≡ false → IfSome o (IsExpr d) → InPlace d w a
      → Complete (any_expr E P d w m) (yield_any_expr o a) o (λ ts. sees m ts ≡ true)
  unfolding any_expr
  any_expr_gives m None a c n h i total s from to at g follow =
      first_gives (sees m s.tokens) _ _ (ap (sees m) (at_end at g).tokens ∙ follow) (gives s (at_end at g))
  any_expr_gives m (Some x) a c n h i total s from to at g follow =
      let found = expr_gives E P d w fits holds parts x a h i total s from to at g (subst EndsExpr (sym (sees_is m to.tokens follow)) c) in
      unless_gives (sees m) (expr E P d w) x s (no_sees m s.tokens n (expr_opens E P d w fits holds parts s found.end x found.is).begins) found

  mark_ends_list : (m : Mark) (ts : List Sign) → ends_expr (mark m ∷ []) ≡ true
      → same_mark m marks.Comma ≡ false → sees m ts ≡ true → EndsList EndsExpr ts
  unfolding sees
  mark_ends_list m ts h k e = subst (EndsList EndsExpr) (sym (sees_is m ts e)) (k, h)

  pub statement_expr_opens : (s t : State) (x : Expr) → statement_expr E P d w s ≡ Done x t → OpensExpr s.tokens
  unfolding statement_expr
  statement_expr_opens s t x e = then_done (expr E P d w s) _ e (λ y u f. expr_opens E P d w fits holds parts s u y f)

  -- [StExprs] before a mark that ends them
  pub statement_exprs_gives : (m : Mark) (xs : List Expr) (a : Around) → ends_expr (mark m ∷ []) ≡ true
      → same_mark m marks.Comma ≡ false → begins_expr_with m ≡ false
      → AllByRecursion (IsStatementExpr (nested d)) xs → InPlace d w a
      → Complete (statement_exprs E P d w m) (yield_exprs xs a) xs (λ ts. sees m ts ≡ true)
  unfolding statement_exprs comma_statement_expr
  statement_exprs_gives m [] a c k n h i total s from to at g follow =
      first_gives (sees m s.tokens) _ _ (ap (sees m) (at_end at g).tokens ∙ follow) (gives s (at_end at g))
  statement_exprs_gives m (x ∷ xs) a c k n h i total s from to at g follow =
      let found = commas_gives (InPlace d w) (IsStatementExpr (nested d)) yield_nested same_place (statement_expr E P d w) EndsExpr (λ y b l j. statement_expr_gives E P d w fits holds parts y b l j) (comma_ends E P d w fits holds parts) x xs a h i total s from to at g
      (mark_ends_list m to.tokens c k follow) in
      second_gives (sees m s.tokens) _ _
      (then_done (statement_expr E P d w s) _ found.is (λ y t e. no_sees m s.tokens n (statement_expr_opens s t y e).begins)) found

  exprs_open : (m : Mark) (s t : State) (x : Expr) (xs : List Expr) → statement_exprs E P d w m s ≡ Done (x ∷ xs) t → OpensExpr s.tokens
  unfolding statement_exprs
  exprs_open m s t x xs e = by_test (sees m s.tokens) e
    where
      by_test : (b : Bool)
          → cond b (Done [] s) (and_then (statement_expr E P d w s) (λ y. list_from (comma_statement_expr E P d w) (y ∷ []))) ≡ Done (x ∷ xs) t
          → OpensExpr s.tokens
      by_test true f = absurd cc
      by_test false f = then_done (statement_expr E P d w s) _ f (λ y u r. statement_expr_opens s u y r)

  -- ---- how declarations of variables begin

  type_no_class : (t : TypeUse) (qs : List Piece) (p q : Stage) → IsType t
      → Spells (yield_type t ++ qs) p q → (begins_class p.tokens ≡ false) × (ends_block p.tokens ≡ false)
  unfolding sees same_mark skip_modifiers
  type_no_class t qs p q h g = type_headed (λ ts. (begins_class ts ≡ false) × (ends_block ts ≡ false)) t qs p q h primitive_no_class (λ i ts. (refl, refl)) g
    where
      primitive_no_class : (x : Primitive) (ts : List Sign)
          → (begins_class (mark (primitive_mark x) ∷ ts) ≡ false) × (ends_block (mark (primitive_mark x) ∷ ts) ≡ false)
      primitive_no_class primitives.Boolean ts = (refl, refl)
      primitive_no_class primitives.Byte ts = (refl, refl)
      primitive_no_class primitives.Short ts = (refl, refl)
      primitive_no_class primitives.Char ts = (refl, refl)
      primitive_no_class primitives.Int ts = (refl, refl)
      primitive_no_class primitives.Long ts = (refl, refl)
      primitive_no_class primitives.Float ts = (refl, refl)
      primitive_no_class primitives.Double ts = (refl, refl)

  final_skipped : (ts : List Sign) → begins_class (mark marks.Final ∷ ts) ≡ begins_class ts
  unfolding skip_modifiers
  final_skipped ts = refl

  final_no_end : (ts : List Sign) → ends_block (mark marks.Final ∷ ts) ≡ false
  unfolding sees same_mark
  final_no_end ts = refl

  or_left : (a b : Bool) → a ≡ true → (a || b) ≡ true
  or_left true b h = refl
  or_left false b h = absurd cc

  or_right : (a b : Bool) → a ≡ false → b ≡ true → (a || b) ≡ true
  or_right true b h g = refl
  or_right false b h g = g

  pub record LocalOpens (ts : List Sign) : Type 0 where
    pub is_local : begins_local ts ≡ true
    pub no_class : begins_class ts ≡ false
    pub no_end : ends_block ts ≡ false

  pub local_begins : (l : LocalVariables) (a : Around) (qs : List Piece) (p q : Stage)
      → IsLocal (nested d) l → Spells (yield_local l a ++ qs) p q → LocalOpens p.tokens
  local_begins l a qs p q h g =
      by_final l.is_final (spells_right (yield_final l.is_final) (yield_type l.of) (yield_variables l.variables a ++ qs) (spells_right (yield_final l.is_final ++ yield_type l.of) (yield_variables l.variables a) qs g))
    where
      vars_next : (m : Stage) → Spells (yield_variables l.variables a ++ qs) m q → WordNext m.tokens
      vars_next m r = spells_split (yield_variables l.variables a) qs m q r (λ n k j. variables_headed l.variables a m n h.1 k)

      by_type : (p2 : Stage) → Spells (yield_type l.of ++ (yield_variables l.variables a ++ qs)) p2 q → declares p2.tokens ≡ true
      by_type p2 r = spells_split (yield_type l.of) (yield_variables l.variables a ++ qs) p2 q r (λ m k j. type_declares l.of p2 m h.0 k (vars_next m j))

      by_final : (b : Bool) → Spells (yield_final b ++ (yield_type l.of ++ (yield_variables l.variables a ++ qs))) p q → LocalOpens p.tokens
      by_final true r =
          spells_token_of (mark marks.Final) _ p q r (λ ts e r2.
          let opens = type_no_class l.of _ _ q h.0 r2 in
          record {
            is_local = or_left (sees marks.Final p.tokens) _ (ap (sees marks.Final) e ∙ sees_same marks.Final ts);
            no_class = ap begins_class e ∙ final_skipped ts ∙ opens.0;
            no_end = ap ends_block e ∙ final_no_end ts;
          })
      by_final false r =
          let opens = type_no_class l.of _ p q h.0 r in
          record { is_local = or_right (sees marks.Final p.tokens) _ (no_final l.of _ p q h.0 r) (by_type p r); no_class = opens.0; no_end = opens.1 }

  pub modifiers_headed : (F : List Sign → Type 0) (ms : List Modifier) (qs : List Piece) (p q : Stage)
      → ((m : Modifier) (ts : List Sign) → F (mark (modifier_mark m) ∷ ts)) → (Spells qs p q → F p.tokens)
      → Spells (yield_modifiers ms ++ qs) p q → F p.tokens
  modifiers_headed F [] qs p q f k g = k g
  modifiers_headed F (m ∷ ms) qs p q f k g = headed F (mark (modifier_mark m)) _ p q (f m) g

  modifier_no_end : (m : Modifier) (ts : List Sign) → ends_block (mark (modifier_mark m) ∷ ts) ≡ false
  unfolding sees same_mark
  modifier_no_end modifier_words.Abstract ts = refl
  modifier_no_end modifier_words.Final ts = refl
  modifier_no_end modifier_words.Native ts = refl
  modifier_no_end modifier_words.Private ts = refl
  modifier_no_end modifier_words.Protected ts = refl
  modifier_no_end modifier_words.Public ts = refl
  modifier_no_end modifier_words.Static ts = refl
  modifier_no_end modifier_words.StrictFp ts = refl
  modifier_no_end modifier_words.Synchronized ts = refl
  modifier_no_end modifier_words.Transient ts = refl
  modifier_no_end modifier_words.Volatile ts = refl

  class_no_end : (ts : List Sign) → ends_block (mark marks.Class ∷ ts) ≡ false
  unfolding sees same_mark
  class_no_end ts = refl

  pub class_begins : (h : Hole) (qs : List Piece) (p q : Stage) → h.place ≡ places.Local
      → Spells (hole h ∷ qs) p q → (begins_class p.tokens ≡ true) × (ends_block p.tokens ≡ false)
  class_begins h qs p q e g =
      spells_type_of h qs p q g (λ c types m et shape inner rest.
      by_head c.head _ (subst (λ x. IsHead x c.head) e shape.head) inner)
    where
      at_class : (ms : List Modifier) (rs : List Piece) (a b : Stage)
          → Spells (yield_modifiers ms ++ the marks.Class ∷ rs) a b
          → (begins_class a.tokens ≡ true) × (ends_block a.tokens ≡ false)
      at_class ms rs a b r =
          spells_split (yield_modifiers ms) (the marks.Class ∷ rs) a b r (λ m l j. (
            ap (sees marks.Class) (skips_modifiers ms a m l (headed NoModifier (mark marks.Class) rs m b (λ ts. refl) j)) ∙ headed (λ ts. sees marks.Class ts ≡ true) (mark marks.Class) rs m b (sees_same marks.Class) j,
            modifiers_headed (λ ts. ends_block ts ≡ false) ms (the marks.Class ∷ rs) a b modifier_no_end (λ k. headed (λ ts. ends_block ts ≡ false) (mark marks.Class) rs a b class_no_end k) r,
          ))

      by_head : (head : TypeHead) (ps : List Piece) {n : ℕ} {types : List TypeDecl} {m : Stage}
          → IsHead places.Local head → Spells (yield_head head ++ ps) (stage n types p.tokens) m
          → (begins_class p.tokens ≡ true) × (ends_block p.tokens ≡ false)
      by_head (heads.Class c) ps {n = n} {types = types} {m = m} k r = at_class c.modifiers _ (stage n types p.tokens) m (spells_right (yield_modifiers c.modifiers) _ ps r)
      by_head (heads.Interface c) ps k r = absurd k
      by_head heads.Anonymous ps k r = absurd k

  pub type_gives_at : (h : Hole) (left : ℕ) (place : _) (v : Option ℕ) → h.around.left ≡ left
      → h.place ≡ place → h.around.within ≡ v → left ≤ d
      → Complete (P.type left place v) (hole h ∷ []) h.brace Always
  type_gives_at h left place v e f g below =
      subst (λ x. Complete (P.type x place v) (hole h ∷ []) h.brace Always) e (subst (λ x. Complete (P.type h.around.left x v) (hole h ∷ []) h.brace Always) f
      (subst (λ x. Complete (P.type h.around.left h.place x) (hole h ∷ []) h.brace Always) g (parts.type_complete h (subst (λ x. x ≤ d) (sym e) below))))

  -- ---- blocks

  pub block_statement_gives : (x : BlockStatement) (a : Around) → BlockItem E P d w fits holds parts x
      → InPlace d w a
      → Complete (any_block_statement E P d w) ((yield_block_statement x).yields a) (Some x) (EndsStmt any)
  unfolding any_block_statement block_statement local_class local_variables nested_statement
  block_statement_gives x a (a_local_class brace e) i total s from to at g follow =
      let h : Hole = record { brace = brace; place = places.Local; created = []; around = a } in
      let g2 = spells_as (ap (λ y. (yield_block_statement y).yields a) e ∙ yield_block_statement-LocalClass brace a) g in
      let opens = class_begins h [] from to refl g2 in
      subst (λ y. Gives total (Some y) to (any_block_statement E P d w s)) (sym e)
      (unless_gives ends_block (block_statement E P d w) (block_statements.LocalClass brace) s (ap ends_block at.tokens ∙ opens.1)
      (first_gives (begins_class s.tokens) _ _ (ap begins_class at.tokens ∙ opens.0)
      (last_gives (P.type d places.Local w) (hole h ∷ []) Always _ (type_gives_at h d places.Local w i.left refl i.within (omega arith)) at g2 tt (λ t at2. gives t at2))))
  block_statement_gives x a (a_local l e h) i total s from to at g follow =
      let g2 = spells_as (ap (λ y. (yield_block_statement y).yields a) e ∙ yield_block_statement-Local l a) g in
      let opens = local_begins l a _ from to h g2 in
      subst (λ y. Gives total (Some y) to (any_block_statement E P d w s)) (sym e)
      (unless_gives ends_block (block_statement E P d w) (block_statements.Local l) s (ap ends_block at.tokens ∙ opens.no_end)
      (second_gives (begins_class s.tokens) _ _ (ap begins_class at.tokens ∙ opens.no_class)
      (first_gives (begins_local s.tokens) _ _ (ap begins_local at.tokens ∙ opens.is_local)
      (part_gives (local E P d w) (yield_local l a) (the marks.Semicolon ∷ []) EndsVariables _ (local_gives l a h i) at g2 (λ m r. headed EndsVariables (mark marks.Semicolon) [] m to (sees_same marks.Semicolon) r) (λ t mid at2 r.
      expect_gives marks.Semicolon [] _ at2 r (λ u mid2 at3 last. gives u (at_end at3 last)))))))
  block_statement_gives x a (a_statement y e h) i total s from to at g follow =
      let g2 = spells_as (ap (λ z. (yield_block_statement z).yields a) e ∙ yield_block_statement-Statement y a) g in
      let found = parts.stmt_complete w a any y i h total s from to at g2 follow in
      let opens = parts.stmt_opens w s found.end y found.is in
      subst (λ z. Gives total (Some z) to (any_block_statement E P d w s)) (sym e)
      (unless_gives ends_block (block_statement E P d w) (block_statements.Statement y) s opens.no_end
      (second_gives (begins_class s.tokens) _ _ opens.no_class (second_gives (begins_local s.tokens) _ _ opens.no_local (then_gives (P.stmt w s) _ found (λ t at2. gives t at2)))))

  -- what stands behind a statement of a block
  block_statement_begins : (x : BlockStatement) (s t : State) → any_block_statement E P d w s ≡ Done (Some x) t → EndsStmt any s.tokens
  unfolding any_block_statement block_statement local_class local_variables nested_statement
  block_statement_begins x s t e =
      unless_done ends_block (block_statement E P d w) x s t e (λ n f. by_class (begins_class s.tokens) refl f)
    where
      by_local : (b : Bool) → begins_local s.tokens ≡ b
          → cond b (local_variables E P d w s) (nested_statement E P d w s) ≡ Done x t
          → EndsStmt any s.tokens
      by_local true k f = local_ends s.tokens k
      by_local false k f = then_done (P.stmt w s) _ f (λ y u r. (parts.stmt_opens w s u y r).ends)

      by_class : (b : Bool) → begins_class s.tokens ≡ b
          → cond b (local_class E P d w s) (cond (begins_local s.tokens) (local_variables E P d w s) (nested_statement E P d w s)) ≡ Done x t
          → EndsStmt any s.tokens
      by_class true k f = class_ends s.tokens k
      by_class false k f = by_local (begins_local s.tokens) refl f

  abbrev pub EndsBlock : List Sign → Type 0
  EndsBlock ts = ends_block ts ≡ true

  block_statement_some : (x : BlockStatement) (a : Around) → BlockItem E P d w fits holds parts x → IsNonEmpty ((yield_block_statement x).yields a)
  block_statement_some x a (a_local_class brace e) = rw (e, yield_block_statement-LocalClass) tt
  block_statement_some x a (a_local l e h) = rw (e, yield_block_statement-Local) (some_piece (yield_local l a) _ [])
  block_statement_some x a (a_statement y e h) = rw (e, yield_block_statement-Statement) (stmt_some d any y (deeper a) h)

  any_stops : (s : State) → EndsBlock s.tokens → any_block_statement E P d w s ≡ Done None s
  unfolding any_block_statement
  any_stops s h = unless_stops ends_block (block_statement E P d w) s h

  pub statements_gives : (xs : List BlockStatement) (a : Around) → IsBlockStatements (nested d) (IsStmt d) xs → InPlace d w a
      → Complete (list (any_block_statement E P d w)) (all_yield (map yield_block_statement xs) a) xs EndsBlock
  statements_gives xs a h i total s from to at g follow =
      many_gives (InPlace d w) (BlockItem E P d w fits holds parts) (λ x b. (yield_block_statement x).yields b) (λ x b. (yield_block_statement x).leaves b) (any_block_statement E P d w) EndsBlock (EndsStmt any)
      (leaves_in_place E P d w fits holds parts) block_statement_gives any_stops block_statement_begins end_ends block_statement_some
      xs a (suc (length s.tokens)) [] total s from to h i (omega arith) at (spells_as (sym (spread_block xs a)) g) follow

  pub behind_statements : (xs : List BlockStatement) (a : Around) (p q : Stage)
      → IsBlockStatements (nested d) (IsStmt d) xs → InPlace d w a
      → Spells (all_yield (map yield_block_statement xs) a) p q → EndsBlock q.tokens → EndsStmt any p.tokens
  behind_statements xs a p q h i g e =
      behind_item (InPlace d w) (BlockItem E P d w fits holds parts) (λ x b. (yield_block_statement x).yields b) (λ x b. (yield_block_statement x).leaves b) (any_block_statement E P d w) EndsBlock (EndsStmt any)
      (leaves_in_place E P d w fits holds parts) block_statement_gives any_stops block_statement_begins end_ends block_statement_some
      xs a p q h i (spells_as (sym (spread_block xs a)) g) e

  pub right_brace_ends : (ts : List Sign) → EndsBlock (mark marks.RightBrace ∷ ts)
  unfolding sees same_mark
  right_brace_ends ts = refl

  pub block_gives : (b : Block) (a : Around) → IsBlock (nested d) (IsStmt d) b → InPlace d w a → Complete (block E P d w) (yield_block b a) b Always
  unfolding block
  block_gives b a h i total s from to at g follow =
      brace_gives b.brace _ _ at (spells_as (yield_block-parts b a) g) (λ t mid at2 r.
      part_gives (list (any_block_statement E P d w)) (all_yield (map yield_block_statement b.statements) a) (the marks.RightBrace ∷ []) EndsBlock _ (statements_gives b.statements a h i) at2 r
      (λ m l. headed EndsBlock (mark marks.RightBrace) [] m to right_brace_ends l) (λ u mid2 at3 l.
      expect_gives marks.RightBrace [] _ at3 l (λ v mid3 at4 last. gives v (at_end at4 last))))

  case_ends : (ts : List Sign) → EndsBlock (mark marks.Case ∷ ts)
  unfolding sees same_mark
  case_ends ts = refl

  default_ends : (ts : List Sign) → (EndsBlock (mark marks.Default ∷ ts)) × (sees marks.Case (mark marks.Default ∷ ts) ≡ false)
  unfolding sees same_mark
  default_ends ts = (refl, refl)

  pub switch_label_gives : (l : SwitchLabel) (a : Around) → IsSwitchLabel (nested d) l → InPlace d w a
      → Complete (switch_label E P d w) (yield_switch_label l a) l Always
  unfolding switch_label case_label default_label
  switch_label_gives (labels.Case x) a h i total s from to at g follow =
      first_gives (sees marks.Case s.tokens) _ _ (sees_next marks.Case _ at g)
      (expect_gives marks.Case _ _ at g (λ t mid at2 r.
      part_gives (expr E P d w) (yield_nested x a) (the marks.Colon ∷ []) EndsExpr _ (expr_gives E P d w fits holds parts x a h i) at2 r (λ m l. headed EndsExpr (mark marks.Colon) [] m to (λ ts. refl) l) (λ u mid2 at3 l.
      expect_gives marks.Colon [] _ at3 l (λ v mid3 at4 last. gives v (at_end at4 last)))))
  switch_label_gives labels.Default a h i total s from to at g follow =
      second_gives (sees marks.Case s.tokens) _ _ (ap (sees marks.Case) at.tokens ∙ headed (λ ts. sees marks.Case ts ≡ false) (mark marks.Default) _ from to (λ ts. (default_ends ts).1) g)
      (expect_gives marks.Default _ _ at g (λ t mid at2 r. expect_gives marks.Colon [] _ at2 r (λ u mid2 at3 last. gives u (at_end at3 last))))

  -- a group begins with `case` or `default`
  group_headed : (x : SwitchGroup) (a : Around) (F : List Sign → Type 0) (p q : Stage)
      → ((ts : List Sign) → F (mark marks.Case ∷ ts)) → ((ts : List Sign) → F (mark marks.Default ∷ ts))
      → Spells ((yield_group x).yields a) p q → F p.tokens
  group_headed x a F p q f k g = by_label x.label (spells_as (yield_group-parts x a) g)
    where
      by_label : (l : SwitchLabel) → Spells (yield_switch_label l a ++ all_yield (map yield_block_statement x.statements) a) p q → F p.tokens
      by_label (labels.Case y) r = headed F (mark marks.Case) _ p q f r
      by_label labels.Default r = headed F (mark marks.Default) _ p q k r

  no_right_brace : (ts : List Sign)
      → (sees marks.RightBrace (mark marks.Case ∷ ts) ≡ false) × (sees marks.RightBrace (mark marks.Default ∷ ts) ≡ false)
  unfolding sees same_mark
  no_right_brace ts = (refl, refl)

  pub group_gives : (x : SwitchGroup) (a : Around) → IsGroup (nested d) (IsStmt d) x → InPlace d w a
      → Complete (any_group E P d w) ((yield_group x).yields a) (Some x) EndsBlock
  unfolding any_group group
  group_gives x a h i total s from to at g follow =
      unless_gives (sees marks.RightBrace) (group E P d w) x s
      (ap (sees marks.RightBrace) at.tokens ∙ group_headed x a (λ ts. sees marks.RightBrace ts ≡ false) from to (λ ts. (no_right_brace ts).0) (λ ts. (no_right_brace ts).1) g)
      (part_gives (switch_label E P d w) (yield_switch_label x.label a) _ Always _ (switch_label_gives x.label a h.0 i) at (spells_as (yield_group-parts x a) g) (λ m r. tt) (λ t mid at2 r.
      last_gives (list (any_block_statement E P d w)) (all_yield (map yield_block_statement x.statements) a) EndsBlock _ (statements_gives x.statements a h.1 i) at2 r follow (λ u at3. gives u at3)))

  pub expect_sees : (m : Mark) (s t : State) (x : Unit {0}) → expect m s ≡ Done x t → sees m s.tokens ≡ true
  unfolding expect
  expect_sees m s t x e = by_test (sees m s.tokens) e
    where
      by_test : (b : Bool) → cond b (Done tt (next s)) Fail ≡ Done x t → b ≡ true
      by_test true f = refl
      by_test false f = absurd cc

  group_begins : (x : SwitchGroup) (s t : State) → any_group E P d w s ≡ Done (Some x) t → EndsBlock s.tokens
  unfolding any_group group switch_label case_label default_label
  group_begins x s t e =
      unless_done (sees marks.RightBrace) (group E P d w) x s t e (λ n f. then_done (switch_label E P d w s) _ f (λ l u r. by_case (sees marks.Case s.tokens) refl l u r))
    where
      by_case : (b : Bool) → sees marks.Case s.tokens ≡ b → (l : SwitchLabel) (u : State)
          → cond b (case_label E P d w s) (default_label E P d w s) ≡ Done l u → EndsBlock s.tokens
      by_case true k l u r = subst EndsBlock (sym (sees_is marks.Case s.tokens k)) (case_ends (tail s.tokens))
      by_case false k l u r = then_done (expect marks.Default s) _ r (λ y v j. subst EndsBlock (sym (sees_is marks.Default s.tokens (expect_sees marks.Default s v y j))) (default_ends (tail s.tokens)).0)

  group_some : (x : SwitchGroup) (a : Around) → IsGroup (nested d) (IsStmt d) x → IsNonEmpty ((yield_group x).yields a)
  group_some x a h = by_label x.label (yield_group-parts x a)
    where
      by_label : (l : SwitchLabel)
          → (yield_group x).yields a ≡ yield_switch_label l a ++ all_yield (map yield_block_statement x.statements) a
          → IsNonEmpty ((yield_group x).yields a)
      by_label (labels.Case y) e = subst IsNonEmpty (sym e) tt
      by_label labels.Default e = subst IsNonEmpty (sym e) tt

  abbrev pub EndsGroups : List Sign → Type 0
  EndsGroups ts = sees marks.RightBrace ts ≡ true

  groups_end : (ts : List Sign) → EndsGroups ts → EndsBlock ts
  groups_end ts h = subst EndsBlock (sym (sees_is marks.RightBrace ts h)) (right_brace_ends (tail ts))

  groups_stop : (s : State) → EndsGroups s.tokens → any_group E P d w s ≡ Done None s
  unfolding any_group
  groups_stop s h = unless_stops (sees marks.RightBrace) (group E P d w) s h

  pub groups_gives : (xs : List SwitchGroup) (a : Around)
      → AllByRecursion (IsGroup (nested d) (IsStmt d)) xs → InPlace d w a
      → Complete (list (any_group E P d w)) (all_yield (map yield_group xs) a) xs EndsGroups
  groups_gives xs a h i total s from to at g follow =
      many_gives (InPlace d w) (IsGroup (nested d) (IsStmt d)) (λ x b. (yield_group x).yields b) (λ x b. (yield_group x).leaves b) (any_group E P d w) EndsGroups EndsBlock
      (group_in_place E P d w fits holds parts) group_gives groups_stop group_begins groups_end group_some
      xs a (suc (length s.tokens)) [] total s from to h i (omega arith) at (spells_as (sym (spread_groups xs a)) g) follow

  paren_no_dim : (ts : List Sign) → NoDim (mark marks.RightParen ∷ ts)
  unfolding sees same_mark
  paren_no_dim ts = refl

  pub catch_clause_gives : (c : Catch) (a : Around) → IsCatch (nested d) (IsStmt d) c → InPlace d w a
      → Complete (catch_clause E P d w) (yield_catch c a) c Always
  unfolding catch_clause
  catch_clause_gives c a h i total s from to at g follow =
      let g2 = spells_as (yield_catch-parts c a) g in
      expect_gives marks.Catch _ _ at g2 (λ t mid at2 r. expect_gives marks.LeftParen _ _ at2 r (λ u mid2 at3 r2.
      part_gives (parameter E P d w) (yield_parameter c.parameter a) _ NoDim _ (parameter_gives c.parameter a h.0 i) at3 r2 (λ m l. headed NoDim (mark marks.RightParen) _ m to paren_no_dim l) (λ v mid3 at4 r3.
      expect_gives marks.RightParen _ _ at4 r3 (λ x mid4 at5 r4. last_gives (block E P d w) (yield_block c.block a) Always _ (block_gives c.block a h.1 i) at5 r4 tt (λ y at6. gives y at6)))))

  pub catch_gives : (c : Catch) (a : Around) → IsCatch (nested d) (IsStmt d) c → InPlace d w a
      → Complete (any_catch E P d w) (yield_catch c a) (Some c) Always
  unfolding any_catch
  catch_gives c a h i total s from to at g follow =
      first_gives (sees marks.Catch s.tokens) _ _ (sees_next marks.Catch _ at (spells_as (yield_catch-parts c a) g))
      (last_gives (catch_clause E P d w) (yield_catch c a) Always _ (catch_clause_gives c a h i) at g tt (λ y at6. gives y at6))

  abbrev pub NoCatch : List Sign → Type 0
  NoCatch ts = sees marks.Catch ts ≡ false

  catches_stop : (s : State) → NoCatch s.tokens → any_catch E P d w s ≡ Done None s
  unfolding any_catch
  catches_stop s h = rw h

  catch_some : (c : Catch) (a : Around) → IsCatch (nested d) (IsStmt d) c → IsNonEmpty (yield_catch c a)
  catch_some c a h = rw yield_catch-parts tt

  pub catches_gives : (xs : List Catch) (a : Around) → AllByRecursion (IsCatch (nested d) (IsStmt d)) xs
      → InPlace d w a → Complete (list (any_catch E P d w)) (each (map yield_catch xs) a) xs NoCatch
  catches_gives xs a h i total s from to at g follow =
      many_gives (InPlace d w) (IsCatch (nested d) (IsStmt d)) (λ x b. yield_catch x b) stays (any_catch E P d w) NoCatch Always
      (λ x b _ j. j) catch_gives catches_stop (λ x u v e. tt) (λ ts e. tt) catch_some
      xs a (suc (length s.tokens)) [] total s from to h i (omega arith) at (spells_as (sym (spread_each yield_catch xs a)) g) follow

  pub any_label_gives : (o : Option Ident) → Complete (any_label E P d w) (yield_any_label o) o (λ ts. is_word ts ≡ false)
  unfolding any_label
  any_label_gives None total s from to at g follow = second_gives (is_word s.tokens) _ _ (ap is_word (at_end at g).tokens ∙ follow) (gives s (at_end at g))
  any_label_gives (Some i) total s from to at g follow =
      first_gives (is_word s.tokens) _ _ (ap is_word at.tokens ∙ headed WordNext (word i) [] from to (λ ts. refl) g) (word_gives i [] _ at g (λ t mid at2 last. gives t (at_end at2 last)))

  -- ---- statements other than `if`

  pub block_stmt_gives : (b : Block) (a : Around) → IsBlock (nested d) (IsStmt d) b → InPlace d w a
      → Complete (block_stmt E P d w) (yield_stmt (stmts.Block b) a) (stmts.Block b) Always
  unfolding block_stmt
  block_stmt_gives b a h i total s from to at g follow =
      last_gives (block E P d w) (yield_block b a) Always _ (block_gives b a h i) at (spells_as (yield_stmt-Block b a) g) tt (λ t at2. gives t at2)

  pub empty_stmt_gives : (a : Around) → Complete (empty_stmt E P d w) (yield_stmt stmts.Empty a) stmts.Empty Always
  unfolding empty_stmt
  empty_stmt_gives a total s from to at g follow = expect_gives marks.Semicolon [] _ at (spells_as (yield_stmt-Empty a) g) (λ t mid at2 last. gives t (at_end at2 last))

  pub labeled_stmt_gives : (j : Ident) (x : Stmt) (ifs : Ifs) (a : Around) → IsStmt d ifs x
      → InPlace d w a
      → Complete (labeled_stmt E P d w) (yield_stmt (stmts.Labeled j x) a) (stmts.Labeled j x) (EndsStmt ifs)
  unfolding labeled_stmt
  labeled_stmt_gives j x ifs a h i total s from to at g follow =
      word_gives j _ _ at (spells_as (yield_stmt-Labeled j x a) g) (λ t mid at2 r. expect_gives marks.Colon _ _ at2 r (λ u mid2 at3 r2.
      last_gives (P.stmt w) (yield_stmt x (deeper a)) (EndsStmt ifs) _ (parts.stmt_complete w a ifs x i h) at3 r2 follow (λ v at4. gives v at4)))

  semi_ends_expr : (ps : List Piece) (p q : Stage) → Spells (the marks.Semicolon ∷ ps) p q → EndsExpr p.tokens
  semi_ends_expr ps p q g = headed EndsExpr (mark marks.Semicolon) ps p q (λ ts. refl) g

  pub expression_stmt_gives : (x : Expr) (a : Around) → IsStatementExpr (nested d) x → InPlace d w a
      → Complete (expression_stmt E P d w) (yield_stmt (stmts.Expression x) a) (stmts.Expression x) Always
  unfolding expression_stmt
  expression_stmt_gives x a h i total s from to at g follow =
      part_gives (statement_expr E P d w) (yield_nested x a) (the marks.Semicolon ∷ []) EndsExpr _ (statement_expr_gives E P d w fits holds parts x a h i) at (spells_as (yield_stmt-Expression x a) g)
      (λ m r. semi_ends_expr [] m to r) (λ t mid at2 r. expect_gives marks.Semicolon [] _ at2 r (λ u mid2 at3 last. gives u (at_end at3 last)))

  pub while_stmt_gives : (x : Expr) (y : Stmt) (ifs : Ifs) (a : Around) → IsExpr d x → IsStmt d ifs y
      → InPlace d w a
      → Complete (while_stmt E P d w) (yield_stmt (stmts.While x y) a) (stmts.While x y) (EndsStmt ifs)
  unfolding while_stmt
  while_stmt_gives x y ifs a h k i total s from to at g follow =
      expect_gives marks.While _ _ at (spells_as (yield_stmt-While x y a) g) (λ t mid at2 r.
      part_gives (condition E P d w) (yield_condition x a) _ Always _ (condition_gives E P d w fits holds parts x a h i) at2 r (λ m l. tt) (λ u mid2 at3 r2.
      last_gives (P.stmt w) (yield_stmt y (deeper a)) (EndsStmt ifs) _ (parts.stmt_complete w a ifs y i k) at3 r2 follow (λ v at4. gives v at4)))

  pub do_stmt_gives : (y : Stmt) (x : Expr) (a : Around) → IsStmt d any y → IsExpr d x → InPlace d w a
      → Complete (do_stmt E P d w) (yield_stmt (stmts.Do y x) a) (stmts.Do y x) Always
  unfolding do_stmt
  do_stmt_gives y x a k h i total s from to at g follow =
      expect_gives marks.Do _ _ at (spells_as (yield_stmt-Do y x a) g) (λ t mid at2 r.
      part_gives (P.stmt w) (yield_stmt y (deeper a)) _ (EndsStmt any) _ (parts.stmt_complete w a any y i k) at2 r (λ m l. headed (EndsStmt any) (mark marks.While) _ m to (λ ts. refl) l) (λ u mid2 at3 r2.
      expect_gives marks.While _ _ at3 r2 (λ v mid3 at4 r3.
      part_gives (condition E P d w) (yield_condition x a) _ Always _ (condition_gives E P d w fits holds parts x a h i) at4 r3 (λ m l. tt) (λ z mid4 at5 r4.
      expect_gives marks.Semicolon [] _ at5 r4 (λ o mid5 at6 last. gives o (at_end at6 last))))))

  abbrev pub Semicolons : List Sign → Type 0
  Semicolons ts = sees marks.Semicolon ts ≡ true

  abbrev pub Parens : List Sign → Type 0
  Parens ts = sees marks.RightParen ts ≡ true

  semi_no_comma : same_mark marks.Semicolon marks.Comma ≡ false
  unfolding same_mark
  semi_no_comma = refl

  paren_no_comma : same_mark marks.RightParen marks.Comma ≡ false
  unfolding same_mark
  paren_no_comma = refl

  semi_no_local : (ts : List Sign) → Semicolons ts → begins_local ts ≡ false
  unfolding declares sees same_mark
  semi_no_local ts h = subst (λ us. begins_local us ≡ false) (sym (sees_is marks.Semicolon ts h)) refl

  pub or_false : (x y : Bool) → x ≡ false → y ≡ false → (x || y) ≡ false
  or_false true y h k = h
  or_false false y h k = k

  -- no expression declares variables
  pub expr_no_local : (ts : List Sign) → OpensExpr ts → begins_local ts ≡ false
  expr_no_local ts h = or_false (sees marks.Final ts) (declares ts) (no_sees marks.Final ts refl h.begins) h.no_declaration

  pub for_init_gives : (init : ForInit) (a : Around) → IsForInit (nested d) init → InPlace d w a
      → Complete (for_init E P d w) (yield_for_init init a) init Semicolons
  unfolding for_init
  for_init_gives (inits.Local l) a h i total s from to at g follow =
      let opens = local_begins l a [] from to h (spells_as (sym (append-nil (yield_local l a))) g) in
      first_gives (begins_local s.tokens) _ _ (ap begins_local at.tokens ∙ opens.is_local)
      (last_gives (local E P d w) (yield_local l a) EndsVariables _ (local_gives l a h i) at g follow (λ t at2. gives t at2))
  for_init_gives (inits.Expressions []) a h i total s from to at g follow =
      second_gives (begins_local s.tokens) _ _ (semi_no_local s.tokens (ap (sees marks.Semicolon) (at_end at g).tokens ∙ follow))
      (last_gives (statement_exprs E P d w marks.Semicolon) (yield_exprs [] a) Semicolons _ (statement_exprs_gives marks.Semicolon [] a refl semi_no_comma refl h i) at g follow (λ t at2. gives t at2))
  for_init_gives (inits.Expressions (x ∷ xs)) a h i total s from to at g follow =
      let found = statement_exprs_gives marks.Semicolon (x ∷ xs) a refl semi_no_comma refl h i total s from to at g follow in
      second_gives (begins_local s.tokens) _ _ (expr_no_local s.tokens (exprs_open marks.Semicolon s found.end x xs found.is))
      (then_gives (statement_exprs E P d w marks.Semicolon s) _ found (λ t at2. gives t at2))

  pub for_stmt_gives : (init : ForInit) (test : Option Expr) (update : List Expr) (y : Stmt) (ifs : Ifs) (a : Around)
      → IsForInit (nested d) init → IfSome test (IsExpr d)
      → AllByRecursion (IsStatementExpr (nested d)) update → IsStmt d ifs y → InPlace d w a
      → Complete (for_stmt E P d w) (yield_stmt (stmts.For init test update y) a) (stmts.For init test update y) (EndsStmt ifs)
  unfolding for_stmt
  for_stmt_gives init test update y ifs a h1 h2 h3 h4 i total s from to at g follow =
      expect_gives marks.For _ _ at (spells_as (yield_stmt-For init test update y a) g) (λ t1 m1 at1 r1. expect_gives marks.LeftParen _ _ at1 r1 (λ t2 m2 at2 r2.
      part_gives (for_init E P d w) (yield_for_init init a) _ Semicolons _ (for_init_gives init a h1 i) at2 r2 (λ m l. headed Semicolons (mark marks.Semicolon) _ m to (sees_same marks.Semicolon) l) (λ t3 m3 at3 r3.
      expect_gives marks.Semicolon _ _ at3 r3 (λ t4 m4 at4 r4.
      part_gives (any_expr E P d w marks.Semicolon) (yield_any_expr test a) _ Semicolons _ (any_expr_gives marks.Semicolon test a refl refl h2 i) at4 r4 (λ m l. headed Semicolons (mark marks.Semicolon) _ m to (sees_same marks.Semicolon) l) (λ t5 m5 at5 r5.
      expect_gives marks.Semicolon _ _ at5 r5 (λ t6 m6 at6 r6.
      part_gives (statement_exprs E P d w marks.RightParen) (yield_exprs update a) _ Parens _ (statement_exprs_gives marks.RightParen update a refl paren_no_comma refl h3 i) at6 r6 (λ m l. headed Parens (mark marks.RightParen) _ m to (sees_same marks.RightParen) l) (λ t7 m7 at7 r7.
      expect_gives marks.RightParen _ _ at7 r7 (λ t8 m8 at8 r8.
      last_gives (P.stmt w) (yield_stmt y (deeper a)) (EndsStmt ifs) _ (parts.stmt_complete w a ifs y i h4) at8 r8 follow (λ v at9. gives v at9)))))))))

  pub switch_stmt_gives : (x : Expr) (brace : ℕ) (groups : List SwitchGroup) (a : Around) → IsExpr d x
      → AllByRecursion (IsGroup (nested d) (IsStmt d)) groups → InPlace d w a
      → Complete (switch_stmt E P d w) (yield_stmt (stmts.Switch x brace groups) a) (stmts.Switch x brace groups) Always
  unfolding switch_stmt
  switch_stmt_gives x brace groups a h k i total s from to at g follow =
      expect_gives marks.Switch _ _ at (spells_as (yield_stmt-Switch x brace groups a) g) (λ t1 m1 at1 r1.
      part_gives (condition E P d w) (yield_condition x a) (yield_braced brace (map yield_group groups) a) Always _ (condition_gives E P d w fits holds parts x a h i) at1 r1 (λ m l. tt) (λ t2 m2 at2 r2.
      brace_gives brace _ _ at2 r2 (λ t3 m3 at3 r3.
      part_gives (list (any_group E P d w)) (all_yield (map yield_group groups) a) (the marks.RightBrace ∷ []) EndsGroups _ (groups_gives groups a k i) at3 r3 (λ m l. headed EndsGroups (mark marks.RightBrace) [] m to (sees_same marks.RightBrace) l) (λ t4 m4 at4 r4.
      expect_gives marks.RightBrace [] _ at4 r4 (λ t5 m5 at5 last. gives t5 (at_end at5 last))))))

  pub break_stmt_gives : (o : Option Ident) (a : Around) → Complete (break_stmt E P d w) (yield_stmt (stmts.Break o) a) (stmts.Break o) Always
  unfolding break_stmt
  break_stmt_gives o a total s from to at g follow =
      expect_gives marks.Break _ _ at (spells_as (yield_stmt-Break o a) g) (λ t1 m1 at1 r1.
      part_gives (any_label E P d w) (yield_any_label o) (the marks.Semicolon ∷ []) (λ ts. is_word ts ≡ false) _ (any_label_gives o) at1 r1 (λ m l. headed (λ ts. is_word ts ≡ false) (mark marks.Semicolon) [] m to (λ ts. refl) l) (λ t2 m2 at2 r2.
      expect_gives marks.Semicolon [] _ at2 r2 (λ t5 m5 at5 last. gives t5 (at_end at5 last))))

  pub continue_stmt_gives : (o : Option Ident) (a : Around)
      → Complete (continue_stmt E P d w) (yield_stmt (stmts.Continue o) a) (stmts.Continue o) Always
  unfolding continue_stmt
  continue_stmt_gives o a total s from to at g follow =
      expect_gives marks.Continue _ _ at (spells_as (yield_stmt-Continue o a) g) (λ t1 m1 at1 r1.
      part_gives (any_label E P d w) (yield_any_label o) (the marks.Semicolon ∷ []) (λ ts. is_word ts ≡ false) _ (any_label_gives o) at1 r1 (λ m l. headed (λ ts. is_word ts ≡ false) (mark marks.Semicolon) [] m to (λ ts. refl) l) (λ t2 m2 at2 r2.
      expect_gives marks.Semicolon [] _ at2 r2 (λ t5 m5 at5 last. gives t5 (at_end at5 last))))

  pub return_stmt_gives : (o : Option Expr) (a : Around) → IfSome o (IsExpr d) → InPlace d w a
      → Complete (return_stmt E P d w) (yield_stmt (stmts.Return o) a) (stmts.Return o) Always
  unfolding return_stmt
  return_stmt_gives o a h i total s from to at g follow =
      expect_gives marks.Return _ _ at (spells_as (yield_stmt-Return o a) g) (λ t1 m1 at1 r1.
      part_gives (any_expr E P d w marks.Semicolon) (yield_any_expr o a) (the marks.Semicolon ∷ []) Semicolons _ (any_expr_gives marks.Semicolon o a refl refl h i) at1 r1 (λ m l. headed Semicolons (mark marks.Semicolon) [] m to (sees_same marks.Semicolon) l) (λ t2 m2 at2 r2.
      expect_gives marks.Semicolon [] _ at2 r2 (λ t5 m5 at5 last. gives t5 (at_end at5 last))))

  pub throw_stmt_gives : (x : Expr) (a : Around) → IsExpr d x → InPlace d w a
      → Complete (throw_stmt E P d w) (yield_stmt (stmts.Throw x) a) (stmts.Throw x) Always
  unfolding throw_stmt
  throw_stmt_gives x a h i total s from to at g follow =
      expect_gives marks.Throw _ _ at (spells_as (yield_stmt-Throw x a) g) (λ t1 m1 at1 r1.
      part_gives (expr E P d w) (yield_nested x a) (the marks.Semicolon ∷ []) EndsExpr _ (expr_gives E P d w fits holds parts x a h i) at1 r1 (λ m l. semi_ends_expr [] m to l) (λ t2 m2 at2 r2.
      expect_gives marks.Semicolon [] _ at2 r2 (λ t5 m5 at5 last. gives t5 (at_end at5 last))))

  pub synchronized_stmt_gives : (x : Expr) (b : Block) (a : Around) → IsExpr d x
      → IsBlock (nested d) (IsStmt d) b → InPlace d w a
      → Complete (synchronized_stmt E P d w) (yield_stmt (stmts.Synchronized x b) a) (stmts.Synchronized x b) Always
  unfolding synchronized_stmt
  synchronized_stmt_gives x b a h k i total s from to at g follow =
      expect_gives marks.Synchronized _ _ at (spells_as (yield_stmt-Synchronized x b a) g) (λ t1 m1 at1 r1.
      part_gives (condition E P d w) (yield_condition x a) _ Always _ (condition_gives E P d w fits holds parts x a h i) at1 r1 (λ m l. tt) (λ t2 m2 at2 r2.
      last_gives (block E P d w) (yield_block b a) Always _ (block_gives b a k i) at2 r2 tt (λ v at9. gives v at9)))

  pub finally_gives : (o : Option Block) (a : Around) → IfSome o (IsBlock (nested d) (IsStmt d))
      → InPlace d w a
      → Complete (introduced marks.Finally (block E P d w)) (yield_finally (option_map yield_block o) a) o (λ ts. sees marks.Finally ts ≡ false)
  finally_gives None a h i total s from to at g follow = option_gives (λ b c. yield_block b c) (IsBlock (nested d) (IsStmt d)) (InPlace d w) marks.Finally (block E P d w) Always (λ x c k j. block_gives x c k j) None a h i total s from to at g (follow, tt)
  finally_gives (Some b) a h i total s from to at g follow = option_gives (λ b c. yield_block b c) (IsBlock (nested d) (IsStmt d)) (InPlace d w) marks.Finally (block E P d w) Always (λ x c k j. block_gives x c k j) (Some b) a h i total s from to at g (follow, tt)

  finally_no_catch : (o : Option Block) (a : Around) (p q : Stage)
      → Spells (yield_finally (option_map yield_block o) a) p q → NoCatch q.tokens → NoCatch p.tokens
  unfolding sees same_mark
  finally_no_catch None a p q (spells_nothing _) h = h
  finally_no_catch (Some b) a p q g h = headed NoCatch (mark marks.Finally) _ p q (λ ts. refl) g

  -- a `try` has a `catch` or a `finally`
  abbrev pub HasEnd : List Catch → Option Block → Type 0
  HasEnd [] None = ⊥
  HasEnd [] (Some b) = Unit {0}
  HasEnd (c ∷ cs) o = Unit {0}

  pub tried_gives : (b : Block) (cs : List Catch) (o : Option Block) (total : List TypeDecl) (s : State) (p : Stage)
      → HasEnd cs o → At total s p → Gives total (stmts.Try b cs o) p (tried E P d w b cs o s)
  tried_gives b [] None total s p h at = absurd h
  tried_gives b [] (Some f) total s p h at = gives s at
  tried_gives b (c ∷ cs) o total s p h at = gives s at

  pub try_stmt_gives : (b : Block) (cs : List Catch) (o : Option Block) (ifs : Ifs) (a : Around)
      → HasEnd cs o → IsBlock (nested d) (IsStmt d) b → AllByRecursion (IsCatch (nested d) (IsStmt d)) cs
      → IfSome o (IsBlock (nested d) (IsStmt d)) → InPlace d w a
      → Complete (try_stmt E P d w) (yield_stmt (stmts.Try b cs o) a) (stmts.Try b cs o) (EndsStmt ifs)
  unfolding try_stmt
  try_stmt_gives b cs o ifs a end h1 h2 h3 i total s from to at g follow =
      expect_gives marks.Try _ _ at (spells_as (yield_stmt-Try b cs o a) g) (λ t1 m1 at1 r1.
      part_gives (block E P d w) (yield_block b a) _ Always _ (block_gives b a h1 i) at1 (spells_right (yield_block b a) (each (map yield_catch cs) a) (yield_finally (option_map yield_block o) a) r1) (λ m l. tt) (λ t2 m2 at2 r2.
      part_gives (list (any_catch E P d w)) (each (map yield_catch cs) a) _ NoCatch _ (catches_gives cs a h2 i) at2 r2 (λ m l. finally_no_catch o a m to l (ends_no_catch ifs to.tokens follow)) (λ t3 m3 at3 r3.
      last_gives (introduced marks.Finally (block E P d w)) (yield_finally (option_map yield_block o) a) (λ ts. sees marks.Finally ts ≡ false) _ (finally_gives o a h3 i) at3 r3 (ends_no_finally ifs to.tokens follow) (λ t4 at4. tried_gives b cs o total t4 to end at4))))

  pub detail_gives : (o : Option Expr) (a : Around) → IfSome o (IsExpr d) → InPlace d w a
      → Complete (introduced marks.Colon (expr E P d w)) (yield_detail o a) o Semicolons
  unfolding sees same_mark
  detail_gives None a h i total s from to at g follow =
      option_gives (λ x c. yield_nested x c) (IsExpr d) (InPlace d w) marks.Colon (expr E P d w) EndsExpr (λ x c k j. expr_gives E P d w fits holds parts x c k j) None a h i total s from to at g
      (subst (λ ts. (sees marks.Colon ts ≡ false) × EndsExpr ts) (sym (sees_is marks.Semicolon to.tokens follow)) (refl, refl))
  detail_gives (Some y) a h i total s from to at g follow =
      option_gives (λ x c. yield_nested x c) (IsExpr d) (InPlace d w) marks.Colon (expr E P d w) EndsExpr (λ x c k j. expr_gives E P d w fits holds parts x c k j) (Some y) a h i total s from to at g
      (subst (λ ts. (sees marks.Colon ts ≡ false) × EndsExpr ts) (sym (sees_is marks.Semicolon to.tokens follow)) (refl, refl))

  detail_ends : (o : Option Expr) (a : Around) (p q : Stage) → Spells (yield_detail o a ++ the marks.Semicolon ∷ []) p q → EndsExpr p.tokens
  detail_ends None a p q g = headed EndsExpr (mark marks.Semicolon) _ p q (λ ts. refl) g
  detail_ends (Some x) a p q g = headed EndsExpr (mark marks.Colon) _ p q (λ ts. refl) g

  pub assert_stmt_gives : (x : Expr) (o : Option Expr) (a : Around) → IsExpr d x → IfSome o (IsExpr d)
      → InPlace d w a
      → Complete (assert_stmt E P d w) (yield_stmt (stmts.Assert x o) a) (stmts.Assert x o) Always
  unfolding assert_stmt
  assert_stmt_gives x o a h k i total s from to at g follow =
      expect_gives marks.Assert _ _ at (spells_as (yield_stmt-Assert x o a) g) (λ t1 m1 at1 r1.
      part_gives (expr E P d w) (yield_nested x a) _ EndsExpr _ (expr_gives E P d w fits holds parts x a h i) at1 (spells_right (yield_nested x a) (yield_detail o a) (the marks.Semicolon ∷ []) r1) (λ m l. detail_ends o a m to l) (λ t2 m2 at2 r2.
      part_gives (introduced marks.Colon (expr E P d w)) (yield_detail o a) (the marks.Semicolon ∷ []) Semicolons _ (detail_gives o a k i) at2 r2 (λ m l. headed Semicolons (mark marks.Semicolon) [] m to (sees_same marks.Semicolon) l) (λ t3 m3 at3 r3.
      expect_gives marks.Semicolon [] _ at3 r3 (λ t5 m5 at5 last. gives t5 (at_end at5 last)))))
