-- Statements as a whole: which form is read, and the arms of an `if`.
use Rattle.std.proofs.Common.{◌≡◌, ℕ, zero, suc, Bool, true, false, cond, List, [], ◌∷◌, ◌++◌, length, map, Option, Some, None, option_map, refl, sym, ap, ◌∙◌, subst, append_assoc}
use Rattle.std.specs.List.{AllByRecursion}
use Rattle.std.proofs.lemmas.List.{append-nil}
use Rattle.java_tree.specs.declared.mark.Mark.{Mark}
use Rattle.java_tree.specs.declared.mark.Mark.TheVariants as marks
use Rattle.java_tree.specs.declared.names.Ident.{Ident}
use Rattle.java_tree.specs.declared.expr.Expr.{Expr}
use Rattle.java_tree.specs.declared.stmt.Stmt.{Stmt}
use Rattle.java_tree.specs.declared.stmt.Stmt.TheVariants as stmts
use Rattle.java_tree.specs.declared.stmt.IfArm.{IfArm}
use Rattle.java_model.specs.Grammar.Signs.{Sign, mark, left_brace, this, super, word, literal, stray}
use Rattle.java_model.specs.Grammar.Pieces.{Piece, token, the, Around, deeper}
use Rattle.java_model.specs.Grammar.YieldStmt.{yield_nested, yield_condition, behind_else, yield_else, yield_stmt, yield_arm}
use Rattle.java_model.specs.Grammar.Expressions.{IsExpr, nested}
use Rattle.java_model.specs.Grammar.Statements.{Ifs, any, no_short, IsArm, IsPlain, block as a_block, empty as an_empty, labeled as a_labeled, expression as an_expression, while as a_while, do_while as a_do, for as a_for, switch as a_switch, break as a_break, continue as a_continue, return as a_return, throw as a_throw, synchronized as a_synchronized, try_catch, try_finally, assert as an_assert, IsStmtOver, plain, short_if, if_else, IsStmt}
use Rattle.java_model.proofs.Grammar.YieldStmt.{yield_stmt-Block, yield_stmt-Empty, yield_stmt-Labeled, yield_stmt-If, yield_stmt-While, yield_stmt-Do, yield_stmt-For, yield_stmt-Switch, yield_stmt-Break, yield_stmt-Continue, yield_stmt-Return, yield_stmt-Throw, yield_stmt-Synchronized, yield_stmt-Try, yield_stmt-Assert, yield_block-parts, yield_arm-parts}
use Rattle.java_unit_reading.specs.Reading.Steps.{State, Outcome, Done, Fail, sees, tail, next, expect, brace}
use Rattle.java_unit_reading.specs.Reading.Words.{declares}
use Rattle.java_unit_reading.specs.Reading.Nested.{Exprs, Parts, statement_expr, condition}
use Rattle.java_unit_reading.specs.Reading.Statements.{begins_class, begins_local, ends_block, begins_label, block_stmt, labeled_stmt, expression_stmt, synchronized_stmt, plain_by, plain_at, plain_stmt, arm, arms_from, if_stmt, stmt}
use Rattle.java_unit_reading.proofs.Sounding.{sees_is}
use Rattle.std.proofs.Common.{◌<◌, ◌≤◌, arith}
use Rattle.java_model.specs.Grammar.Follows.{ends_stmt}
use Rattle.java_model.specs.Grammar.Runs.{Reads}
use Rattle.java_tree.specs.declared.unit.TypeDecl.{TypeDecl}
use Rattle.java_model.specs.Grammar.Units.{Stage, Spells, spells_nothing}
use Rattle.java_model.proofs.Grammar.Shapes.{simple, expr-simple}
use Rattle.java_model.proofs.Grammar.Yield.{expr_yields}
use Rattle.java_model.proofs.Grammar.Reads.{spells_split, spells_token_of}
use Rattle.java_expr_reading.specs.Shapes.{same_mark}
use Rattle.java_unit_reading.specs.Reading.Words.{skip_modifiers}
use Rattle.java_unit_reading.specs.Reading.Nested.{Here}
use Rattle.java_unit_reading.proofs.Completing.{At, Gives, gives, Complete, Always, then_gives, first_gives, second_gives, at_next, headed, sees_same, sees_next, expect_gives, part_gives, last_gives, spells_as, spells_right}
use Rattle.java_unit_reading.proofs.Listing.{shorter}
use Rattle.java_unit_reading.proofs.Expressions.Holding.{begins_expr, begins_expr_with, OpensExpr, ExprsHold, EndsStmt, OpensStmt, InPlace, PartsHold}
use Rattle.java_unit_reading.proofs.NestedLaws.{expr_opens, condition_gives}
use Rattle.java_unit_reading.proofs.Lookahead.{ends_no_else}
use Rattle.java_model.specs.Grammar.Pieces.{Around}
use Rattle.java_unit_reading.specs.Reading.Nested.{around}
use Rattle.java_unit_reading.specs.Reading.Words.{skip_dotted, skip_dims}
use Rattle.java_unit_reading.specs.Reading.Statements.{begins_label}
use Rattle.java_tree.specs.declared.expr.Primary.{Primary}
use Rattle.java_unit_reading.specs.Reading.Members.{begins_super_call, other, opening}
use Rattle.java_unit_reading.proofs.NestedLaws.{expr_found, statement_expr_found, then_both, done_state}
use Rattle.java_unit_reading.proofs.StatementLaws.Complete.{block_stmt_gives, empty_stmt_gives, labeled_stmt_gives, expression_stmt_gives, while_stmt_gives, do_stmt_gives, for_stmt_gives, switch_stmt_gives, break_stmt_gives, continue_stmt_gives, return_stmt_gives, throw_stmt_gives, synchronized_stmt_gives, try_stmt_gives, assert_stmt_gives, expr_no_local, expect_sees}

-- where an expression begins, one is read
expression_mark : (E : Exprs) (P : Parts) (d : ℕ) (w : Option ℕ) (m : Mark) (s : State)
    → begins_expr_with m ≡ true → plain_by E P d w m s ≡ expression_stmt E P d w s
expression_mark E P d w marks.Semicolon s h = absurd cc
expression_mark E P d w marks.While s h = absurd cc
expression_mark E P d w marks.Do s h = absurd cc
expression_mark E P d w marks.For s h = absurd cc
expression_mark E P d w marks.Switch s h = absurd cc
expression_mark E P d w marks.Break s h = absurd cc
expression_mark E P d w marks.Continue s h = absurd cc
expression_mark E P d w marks.Return s h = absurd cc
expression_mark E P d w marks.Throw s h = absurd cc
expression_mark E P d w marks.Synchronized s h = absurd cc
expression_mark E P d w marks.Try s h = absurd cc
expression_mark E P d w marks.Assert s h = absurd cc
expression_mark E P d w marks.If s h = absurd cc
expression_mark E P d w marks.Else s h = absurd cc
expression_mark E P d w marks.Catch s h = absurd cc
expression_mark E P d w marks.Finally s h = absurd cc
expression_mark E P d w _ s h = refl

pub colon_semicolon : (us vs : List Sign) → (mark marks.Colon ∷ us) ≡ vs → sees marks.Semicolon vs ≡ true → ⊥
unfolding sees same_mark
colon_semicolon us vs e h = let f = ap (sees marks.Semicolon) e ∙ h in cc

label_is : (ts : List Sign) → begins_label ts ≡ true → (i : Ident) × (ts ≡ word i ∷ mark marks.Colon ∷ tail (tail ts))
label_is [] h = absurd cc
label_is (word i ∷ ts) h = (i, ap (λ us. word i ∷ us) (sees_is marks.Colon ts h))
label_is (mark m ∷ ts) h = absurd cc
label_is (left_brace at ∷ ts) h = absurd cc
label_is (this s ∷ ts) h = absurd cc
label_is (super s ∷ ts) h = absurd cc
label_is (literal l ∷ ts) h = absurd cc
label_is (stray ∷ ts) h = absurd cc

same_left : (x y : Expr) (us vs : List Sign) → Here x us ≡ Here y vs → us ≡ vs
same_left x y us vs e = cc

simple_expr : (n : ℕ) (y : Expr) (i : Ident) → IsExpr n y → IsExpr n (simple i)
unfolding nested
simple_expr zero y i k = absurd k
simple_expr (suc n) y i k = expr-simple n i

pub expr_mark_plain : (m : Mark) (ts : List Sign) → begins_expr_with m ≡ true
    → (ends_block (mark m ∷ ts) ≡ false) × (begins_class (mark m ∷ ts) ≡ false) × (ends_stmt any (mark m ∷ ts) ≡ true)
unfolding sees same_mark skip_modifiers
expr_mark_plain marks.LeftParen ts h = (refl, refl, refl)
expr_mark_plain marks.New ts h = (refl, refl, refl)
expr_mark_plain marks.Void ts h = (refl, refl, refl)
expr_mark_plain marks.Increment ts h = (refl, refl, refl)
expr_mark_plain marks.Decrement ts h = (refl, refl, refl)
expr_mark_plain marks.Plus ts h = (refl, refl, refl)
expr_mark_plain marks.Minus ts h = (refl, refl, refl)
expr_mark_plain marks.Tilde ts h = (refl, refl, refl)
expr_mark_plain marks.Bang ts h = (refl, refl, refl)
expr_mark_plain marks.Boolean ts h = (refl, refl, refl)
expr_mark_plain marks.Byte ts h = (refl, refl, refl)
expr_mark_plain marks.Short ts h = (refl, refl, refl)
expr_mark_plain marks.Char ts h = (refl, refl, refl)
expr_mark_plain marks.Int ts h = (refl, refl, refl)
expr_mark_plain marks.Long ts h = (refl, refl, refl)
expr_mark_plain marks.Float ts h = (refl, refl, refl)
expr_mark_plain marks.Double ts h = (refl, refl, refl)
expr_mark_plain _ ts h = absurd cc

-- what is not skipped is no class
not_synchronized : (ts us : List Sign) → ts ≡ mark marks.LeftParen ∷ us → begins_class (mark marks.Synchronized ∷ ts) ≡ false
unfolding sees same_mark skip_modifiers
not_synchronized ts us e = subst (λ xs. begins_class (mark marks.Synchronized ∷ xs) ≡ false) (sym e) refl

synchronized_opens : (ts us : List Sign) → ts ≡ mark marks.LeftParen ∷ us → OpensStmt (mark marks.Synchronized ∷ ts)
unfolding sees same_mark declares
synchronized_opens ts us e = record { no_end = refl; no_class = not_synchronized ts us e; no_local = refl; ends = refl; no_invocation = refl }

semicolon_opens : (ts : List Sign) → OpensStmt (mark marks.Semicolon ∷ ts)
unfolding sees same_mark skip_modifiers declares
semicolon_opens ts = record { no_end = refl; no_class = refl; no_local = refl; ends = refl; no_invocation = refl }

while_opens : (ts : List Sign) → OpensStmt (mark marks.While ∷ ts)
unfolding sees same_mark skip_modifiers declares
while_opens ts = record { no_end = refl; no_class = refl; no_local = refl; ends = refl; no_invocation = refl }

do_opens : (ts : List Sign) → OpensStmt (mark marks.Do ∷ ts)
unfolding sees same_mark skip_modifiers declares
do_opens ts = record { no_end = refl; no_class = refl; no_local = refl; ends = refl; no_invocation = refl }

for_opens : (ts : List Sign) → OpensStmt (mark marks.For ∷ ts)
unfolding sees same_mark skip_modifiers declares
for_opens ts = record { no_end = refl; no_class = refl; no_local = refl; ends = refl; no_invocation = refl }

switch_opens : (ts : List Sign) → OpensStmt (mark marks.Switch ∷ ts)
unfolding sees same_mark skip_modifiers declares
switch_opens ts = record { no_end = refl; no_class = refl; no_local = refl; ends = refl; no_invocation = refl }

break_opens : (ts : List Sign) → OpensStmt (mark marks.Break ∷ ts)
unfolding sees same_mark skip_modifiers declares
break_opens ts = record { no_end = refl; no_class = refl; no_local = refl; ends = refl; no_invocation = refl }

continue_opens : (ts : List Sign) → OpensStmt (mark marks.Continue ∷ ts)
unfolding sees same_mark skip_modifiers declares
continue_opens ts = record { no_end = refl; no_class = refl; no_local = refl; ends = refl; no_invocation = refl }

return_opens : (ts : List Sign) → OpensStmt (mark marks.Return ∷ ts)
unfolding sees same_mark skip_modifiers declares
return_opens ts = record { no_end = refl; no_class = refl; no_local = refl; ends = refl; no_invocation = refl }

throw_opens : (ts : List Sign) → OpensStmt (mark marks.Throw ∷ ts)
unfolding sees same_mark skip_modifiers declares
throw_opens ts = record { no_end = refl; no_class = refl; no_local = refl; ends = refl; no_invocation = refl }

try_opens : (ts : List Sign) → OpensStmt (mark marks.Try ∷ ts)
unfolding sees same_mark skip_modifiers declares
try_opens ts = record { no_end = refl; no_class = refl; no_local = refl; ends = refl; no_invocation = refl }

assert_opens : (ts : List Sign) → OpensStmt (mark marks.Assert ∷ ts)
unfolding sees same_mark skip_modifiers declares
assert_opens ts = record { no_end = refl; no_class = refl; no_local = refl; ends = refl; no_invocation = refl }

if_opens : (ts : List Sign) → OpensStmt (mark marks.If ∷ ts)
unfolding sees same_mark skip_modifiers declares
if_opens ts = record { no_end = refl; no_class = refl; no_local = refl; ends = refl; no_invocation = refl }

brace_opens : (b : ℕ) (ts : List Sign) → OpensStmt (left_brace b ∷ ts)
unfolding sees same_mark skip_modifiers declares
brace_opens b ts = record { no_end = refl; no_class = refl; no_local = refl; ends = refl; no_invocation = refl }

-- an expression that begins with no mark
expr_word_opens : (ts : List Sign) → opening ts ≡ other → begins_expr ts ≡ true → begins_local ts ≡ false
    → ((m : Mark) (us : List Sign) → ts ≡ mark m ∷ us → ⊥) → OpensStmt ts
unfolding sees same_mark skip_modifiers
expr_word_opens [] v h k n = absurd cc
expr_word_opens (left_brace at ∷ ts) v h k n = absurd cc
expr_word_opens (mark m ∷ ts) v h k n = absurd (n m ts refl)
expr_word_opens (this s ∷ ts) v h k n = record { no_end = refl; no_class = refl; no_local = k; ends = refl; no_invocation = v }
expr_word_opens (super s ∷ ts) v h k n = record { no_end = refl; no_class = refl; no_local = k; ends = refl; no_invocation = v }
expr_word_opens (word i ∷ ts) v h k n = record { no_end = refl; no_class = refl; no_local = k; ends = refl; no_invocation = v }
expr_word_opens (literal l ∷ ts) v h k n = record { no_end = refl; no_class = refl; no_local = k; ends = refl; no_invocation = v }
expr_word_opens (stray ∷ ts) v h k n = absurd cc

label_opens : (i : Ident) (ts : List Sign) → OpensStmt (word i ∷ mark marks.Colon ∷ ts)
unfolding sees same_mark skip_modifiers declares skip_dotted skip_dims
label_opens i [] = record { no_end = refl; no_class = refl; no_local = refl; ends = refl; no_invocation = refl }
label_opens i (t ∷ ts) = record { no_end = refl; no_class = refl; no_local = refl; ends = refl; no_invocation = refl }

module _ (E : Exprs) (P : Parts) (d : ℕ) (w : Option ℕ) (fits : d ≤ 256) (holds : ExprsHold E) (parts : PartsHold E P d) where
  simple_reads : (i : Ident) (a : Around) (ts us : List Sign) → ts ≡ word i ∷ us → Reads (yield_nested (simple i) a) ts us
  simple_reads i a ts us e = subst (λ ps. Reads ps ts us) (sym (simple_yield i a)) (us, e, refl)
    where
      simple_yield : (j : Ident) (b : Around) → yield_nested (simple j) b ≡ token (word j) ∷ []
      simple_yield j b = simp expr_yields

  -- no expression before `;` is a label
  no_label : (s u : State) (y : Expr) → E.expr d s.tokens ≡ Here y u.tokens → sees marks.Semicolon u.tokens ≡ true → begins_label s.tokens ≡ false
  no_label s u y e h = by_test (begins_label s.tokens) refl
    where
      by_test : (b : Bool) → begins_label s.tokens ≡ b → begins_label s.tokens ≡ false
      by_test false k = k
      by_test true k =
          let l = label_is s.tokens k in
          let other = holds.expr_complete d fits (simple l.0) (around d) s.tokens (mark marks.Colon ∷ tail (tail s.tokens)) (simple_expr d y l.0 (holds.expr_sound d fits y s.tokens u.tokens e).0) refl (simple_reads l.0 (around d) s.tokens _ l.1) refl in
          absurd (colon_semicolon _ u.tokens (same_left _ y _ _ (sym other ∙ e)) h)

  expression_plain : (ts : List Sign) (s : State) → begins_expr ts ≡ true → begins_label s.tokens ≡ false
      → plain_at E P d w ts s ≡ expression_stmt E P d w s
  expression_plain [] s h k = absurd cc
  expression_plain (left_brace at ∷ ts) s h k = absurd cc
  expression_plain (mark m ∷ ts) s h k = expression_mark E P d w m s h
  expression_plain (this x ∷ ts) s h k = refl
  expression_plain (super x ∷ ts) s h k = refl
  expression_plain (word i ∷ ts) s h k = rw k
  expression_plain (literal l ∷ ts) s h k = refl
  expression_plain (stray ∷ ts) s h k = absurd cc

  -- what an expression statement begins with
  expression_opens : {C : Type 0} (s t : State) (x : Stmt) → expression_stmt E P d w s ≡ Done x t
      → (OpensExpr s.tokens → begins_label s.tokens ≡ false → C) → C
  unfolding expression_stmt
  expression_opens s t x e k =
      then_both (statement_expr E P d w s) _ e (λ y u f r. then_both (expect marks.Semicolon u) _ r (λ n m j q.
      let g = statement_expr_found E P d w fits holds parts s u y f in
      k (expr_opens E P d w fits holds parts s u y g) (no_label s u y (expr_found E P d w fits holds parts s u y g) (expect_sees E P d w fits holds parts marks.Semicolon u m n j))))

  -- the form that a first token tells
  at_mark : {total : List TypeDecl} {x : Stmt} {to : Stage} (m : Mark) (ps : List Piece) (s : State) (p q : Stage)
      → At total s p → Spells (the m ∷ ps) p q → Gives total x to (plain_by E P d w m s)
      → Gives total x to (plain_stmt E P d w s)
  unfolding plain_stmt
  at_mark {total = total} {x = x} {to = to} m ps s p q at g h = spells_token_of (mark m) ps p q g (λ ts e r. subst (λ us. Gives total x to (plain_at E P d w us s)) (sym (at.tokens ∙ e)) h)

  at_brace : {total : List TypeDecl} {x : Stmt} {to : Stage} (b : ℕ) (ps : List Piece) (s : State) (p q : Stage)
      → At total s p → Spells (token (left_brace b) ∷ ps) p q → Gives total x to (block_stmt E P d w s)
      → Gives total x to (plain_stmt E P d w s)
  unfolding plain_stmt
  at_brace {total = total} {x = x} {to = to} b ps s p q at g h = spells_token_of (left_brace b) ps p q g (λ ts e r. subst (λ us. Gives total x to (plain_at E P d w us s)) (sym (at.tokens ∙ e)) h)

  at_label : {total : List TypeDecl} {x : Stmt} {to : Stage} (i : Ident) (ps : List Piece) (s : State) (p q : Stage)
      → At total s p → Spells (token (word i) ∷ the marks.Colon ∷ ps) p q
      → Gives total x to (labeled_stmt E P d w s) → Gives total x to (plain_stmt E P d w s)
  unfolding plain_stmt
  at_label {total = total} {x = x} {to = to} i ps s p q at g h =
      spells_token_of (word i) _ p q g (λ ts e r. subst (λ us. Gives total x to (plain_at E P d w us s)) (sym (at.tokens ∙ e))
      (first_gives (begins_label s.tokens) _ _ (ap begins_label (at.tokens ∙ e) ∙ headed (λ us. sees marks.Colon us ≡ true) (mark marks.Colon) ps _ q (sees_same marks.Colon) r) h))

  at_expression : {total : List TypeDecl} {x : Stmt} {to : Stage} (s : State)
      → Gives total x to (expression_stmt E P d w s) → Gives total x to (plain_stmt E P d w s)
  unfolding plain_stmt
  at_expression {total = total} {x = x} {to = to} s h =
      expression_opens s h.end x h.is (λ opens no_l. subst (λ o. Gives total x to o) (sym (expression_plain s.tokens s opens.begins no_l)) h)

  as_stmt : {total : List TypeDecl} {to : Stage} (x y : Stmt) (o : Outcome Stmt) → x ≡ y → Gives total y to o → Gives total x to o
  as_stmt {total = total} {to = to} x y o e h = subst (λ z. Gives total z to o) (sym e) h

  as_spells : (x y : Stmt) (a : Around) (p q : Stage) → x ≡ y → Spells (yield_stmt x a) p q → Spells (yield_stmt y a) p q
  as_spells x y a p q e g = spells_as (ap (λ z. yield_stmt z a) e) g

  pub plain_gives : (x : Stmt) (ifs : Ifs) (a : Around) → IsPlain (nested d) (IsStmt d) ifs x
      → InPlace d w a → Complete (plain_stmt E P d w) (yield_stmt x a) x (EndsStmt ifs)
  plain_gives x ifs a (a_block b e h) i total s from to at g follow =
      let g2 = as_spells x _ a from to e g in as_stmt x _ _ e
      (at_brace b.brace _ s from to at (spells_as (yield_stmt-Block b a ∙ yield_block-parts b a) g2) (block_stmt_gives E P d w fits holds parts b a h i total s from to at g2 tt))
  plain_gives x ifs a (an_empty e) i total s from to at g follow =
      let g2 = as_spells x _ a from to e g in as_stmt x _ _ e
      (at_mark marks.Semicolon _ s from to at (spells_as (yield_stmt-Empty a) g2) (empty_stmt_gives E P d w fits holds parts a total s from to at g2 tt))
  plain_gives x ifs a (a_labeled j y e h) i total s from to at g follow =
      let g2 = as_spells x _ a from to e g in as_stmt x _ _ e
      (at_label j _ s from to at (spells_as (yield_stmt-Labeled j y a) g2) (labeled_stmt_gives E P d w fits holds parts j y ifs a h i total s from to at g2 follow))
  plain_gives x ifs a (an_expression y e h) i total s from to at g follow =
      let g2 = as_spells x _ a from to e g in as_stmt x _ _ e
      (at_expression s (expression_stmt_gives E P d w fits holds parts y a h i total s from to at g2 tt))
  plain_gives x ifs a (a_while y z e h k) i total s from to at g follow =
      let g2 = as_spells x _ a from to e g in as_stmt x _ _ e
      (at_mark marks.While _ s from to at (spells_as (yield_stmt-While y z a) g2) (while_stmt_gives E P d w fits holds parts y z ifs a h k i total s from to at g2 follow))
  plain_gives x ifs a (a_do y z e h k) i total s from to at g follow =
      let g2 = as_spells x _ a from to e g in as_stmt x _ _ e
      (at_mark marks.Do _ s from to at (spells_as (yield_stmt-Do y z a) g2) (do_stmt_gives E P d w fits holds parts y z a h k i total s from to at g2 tt))
  plain_gives x ifs a (a_for init test update y e h1 h2 h3 h4) i total s from to at g follow =
      let g2 = as_spells x _ a from to e g in as_stmt x _ _ e
      (at_mark marks.For _ s from to at (spells_as (yield_stmt-For init test update y a) g2) (for_stmt_gives E P d w fits holds parts init test update y ifs a h1 h2 h3 h4 i total s from to at g2 follow))
  plain_gives x ifs a (a_switch y brace groups e h k) i total s from to at g follow =
      let g2 = as_spells x _ a from to e g in as_stmt x _ _ e
      (at_mark marks.Switch _ s from to at (spells_as (yield_stmt-Switch y brace groups a) g2) (switch_stmt_gives E P d w fits holds parts y brace groups a h k i total s from to at g2 tt))
  plain_gives x ifs a (a_break o e) i total s from to at g follow =
      let g2 = as_spells x _ a from to e g in as_stmt x _ _ e
      (at_mark marks.Break _ s from to at (spells_as (yield_stmt-Break o a) g2) (break_stmt_gives E P d w fits holds parts o a total s from to at g2 tt))
  plain_gives x ifs a (a_continue o e) i total s from to at g follow =
      let g2 = as_spells x _ a from to e g in as_stmt x _ _ e
      (at_mark marks.Continue _ s from to at (spells_as (yield_stmt-Continue o a) g2) (continue_stmt_gives E P d w fits holds parts o a total s from to at g2 tt))
  plain_gives x ifs a (a_return o e h) i total s from to at g follow =
      let g2 = as_spells x _ a from to e g in as_stmt x _ _ e
      (at_mark marks.Return _ s from to at (spells_as (yield_stmt-Return o a) g2) (return_stmt_gives E P d w fits holds parts o a h i total s from to at g2 tt))
  plain_gives x ifs a (a_throw y e h) i total s from to at g follow =
      let g2 = as_spells x _ a from to e g in as_stmt x _ _ e
      (at_mark marks.Throw _ s from to at (spells_as (yield_stmt-Throw y a) g2) (throw_stmt_gives E P d w fits holds parts y a h i total s from to at g2 tt))
  plain_gives x ifs a (a_synchronized y b e h k) i total s from to at g follow =
      let g2 = as_spells x _ a from to e g in as_stmt x _ _ e
      (at_mark marks.Synchronized _ s from to at (spells_as (yield_stmt-Synchronized y b a) g2) (synchronized_stmt_gives E P d w fits holds parts y b a h k i total s from to at g2 tt))
  plain_gives x ifs a (try_catch b c cs f e h k l m) i total s from to at g follow =
      let g2 = as_spells x _ a from to e g in as_stmt x _ _ e
      (at_mark marks.Try _ s from to at (spells_as (yield_stmt-Try b (c ∷ cs) f a) g2) (try_stmt_gives E P d w fits holds parts b (c ∷ cs) f ifs a tt h (k, l) m i total s from to at g2 follow))
  plain_gives x ifs a (try_finally b f e h k) i total s from to at g follow =
      let g2 = as_spells x _ a from to e g in as_stmt x _ _ e
      (at_mark marks.Try _ s from to at (spells_as (yield_stmt-Try b [] (Some f) a) g2) (try_stmt_gives E P d w fits holds parts b [] (Some f) ifs a tt h tt k i total s from to at g2 follow))
  plain_gives x ifs a (an_assert y o e h k) i total s from to at g follow =
      let g2 = as_spells x _ a from to e g in as_stmt x _ _ e
      (at_mark marks.Assert _ s from to at (spells_as (yield_stmt-Assert y o a) g2) (assert_stmt_gives E P d w fits holds parts y o a h k i total s from to at g2 tt))

  -- ---- `if`

  -- which `if`s may end an arm, before these arms and what follows a last `else`
  abbrev kind : List IfArm → Option Stmt → Ifs
  kind xs (Some y) = no_short
  kind [] None = any
  kind (x ∷ xs) None = no_short

  abbrev IsArmOf : Ifs → IfArm → Type 0
  IsArmOf = IsArm (nested d) (IsStmt d)

  -- the arms and the statement that are left
  abbrev AreLeft : Ifs → List IfArm → Option Stmt → Type 0
  AreLeft ifs [] None = Unit {0}
  AreLeft ifs [] (Some y) = IsPlain (nested d) (IsStmt d) ifs y
  AreLeft ifs (x ∷ xs) o = IsArmOf (kind xs o) x × AreLeft ifs xs o

  -- what may follow an `if`
  abbrev EndsIf : Ifs → Option Stmt → List Sign → Type 0
  EndsIf ifs None ts = EndsStmt any ts
  EndsIf ifs (Some y) ts = EndsStmt ifs ts

  arm_gives : (x : IfArm) (ifs : Ifs) (a : Around) → IsArmOf ifs x → InPlace d w a → Complete (arm E P d w) (yield_arm x a) x (EndsStmt ifs)
  unfolding arm
  arm_gives x ifs a h i total s from to at g follow =
      expect_gives marks.If _ _ at (spells_as (yield_arm-parts x a) g) (λ t1 m1 at1 r1.
      part_gives (condition E P d w) (yield_condition x.condition a) _ Always _ (condition_gives E P d w fits holds parts x.condition a h.0 i) at1 r1 (λ m l. tt) (λ t2 m2 at2 r2.
      last_gives (P.stmt w) (yield_stmt x.then (deeper a)) (EndsStmt ifs) _ (parts.stmt_complete w a ifs x.then i h.1) at2 r2 follow (λ v at9. gives v at9)))

  else_ends : (ts : List Sign) → EndsStmt no_short (mark marks.Else ∷ ts)
  else_ends ts = refl

  -- what stands behind an arm
  behind_arm : (xs : List IfArm) (o : Option Stmt) (ifs : Ifs) (a : Around) (p q : Stage)
      → Spells (behind_else (map yield_arm xs) a ++ yield_else (option_map yield_stmt o) a) p q
      → EndsIf ifs o q.tokens → EndsStmt (kind xs o) p.tokens
  behind_arm [] None ifs a p q (spells_nothing _) h = h
  behind_arm [] (Some y) ifs a p q g h = headed (EndsStmt no_short) (mark marks.Else) _ p q else_ends g
  behind_arm (x ∷ xs) None ifs a p q g h = headed (EndsStmt no_short) (mark marks.Else) _ p q else_ends g
  behind_arm (x ∷ xs) (Some y) ifs a p q g h = headed (EndsStmt no_short) (mark marks.Else) _ p q else_ends g

  no_if_plain : (s t : State) (x : Stmt) → plain_stmt E P d w s ≡ Done x t → sees marks.If s.tokens ≡ false
  unfolding plain_stmt
  no_if_plain s t x e = by_test (sees marks.If s.tokens) refl
    where
      no_fail : Fail ≡ Done x t → ⊥
      no_fail h = cc

      by_test : (b : Bool) → sees marks.If s.tokens ≡ b → sees marks.If s.tokens ≡ false
      by_test false k = k
      by_test true k = absurd (no_fail (sym (ap (λ ts. plain_at E P d w ts s) (sees_is marks.If s.tokens k)) ∙ e))

  abbrev done_stmt : Stmt → State → Outcome Stmt
  done_stmt x s = Done x s

  arms_give : (xs : List IfArm) (o : Option Stmt) (ifs : Ifs) (a : Around) (n : ℕ) (found : List IfArm) (total : List TypeDecl) (s : State) (p q : Stage)
      → AreLeft ifs xs o → InPlace d w a → length s.tokens < n
      → At total s p
      → Spells (behind_else (map yield_arm xs) a ++ yield_else (option_map yield_stmt o) a) p q
      → EndsIf ifs o q.tokens → Gives total (stmts.If (found ++ xs) o) q (arms_from E P d w n found s)
  unfolding arms_from
  arms_give xs o ifs a zero found total s p q h i few at g e = absurd (omega arith)
  arms_give [] None ifs a (suc n) found total s p q h i few at (spells_nothing _) e =
      second_gives (sees marks.Else s.tokens) _ _ (ap (sees marks.Else) at.tokens ∙ ends_no_else p.tokens e)
      (record { end = s; at = at; is = ap (λ ys. done_stmt (stmts.If ys None) s) (sym (append-nil found)) })
  arms_give [] (Some y) ifs a (suc n) found total s p q h i few at g e =
      spells_token_of (mark marks.Else) _ p q g (λ ts et r.
      let at2 = at_next (mark marks.Else) ts at et in
      let one = plain_gives y ifs a h i total (next s) _ q at2 r e in
      first_gives (sees marks.Else s.tokens) _ _ (sees_next marks.Else _ at g)
      (second_gives (sees marks.If (tail s.tokens)) _ _ (no_if_plain (next s) one.end y one.is)
      (then_gives (plain_stmt E P d w (next s)) _ one (λ t at3. record { end = t; at = at3; is = ap (λ ys. done_stmt (stmts.If ys (Some y)) t) (sym (append-nil found)) }))))
  arms_give (x ∷ xs) o ifs a (suc n) found total s p q h i few at g e =
      let g2 = spells_as (append_assoc (the marks.Else ∷ yield_arm x a) (behind_else (map yield_arm xs) a) (yield_else (option_map yield_stmt o) a)) g in
      spells_token_of (mark marks.Else) _ p q g2 (λ ts et r.
      let at2 = at_next (mark marks.Else) ts at et in
      spells_split (yield_arm x a) (behind_else (map yield_arm xs) a ++ yield_else (option_map yield_stmt o) a) _ q r (λ m l k.
      let one = arm_gives x (kind xs o) a h.0 i total (next s) _ m at2 l (behind_arm xs o ifs a m q k e) in
      first_gives (sees marks.Else s.tokens) _ _ (sees_next marks.Else _ at g)
      (first_gives (sees marks.If (tail s.tokens)) _ _ (sees_next marks.If _ at2 (spells_as (yield_arm-parts x a) l))
      (then_gives (arm E P d w (next s)) _ one (λ t at3.
      let here : length s.tokens ≡ suc (length ts) = ap length (at.tokens ∙ et) in
      let there : length t.tokens ≡ length m.tokens = ap length at3.tokens in
      let short = (shorter l).weak in
      let rest = arms_give xs o ifs a n (found ++ x ∷ []) total t m q h.1 i (omega arith) at3 k e in
      record { end = rest.end; at = rest.at; is = rest.is ∙ ap (λ ys. done_stmt (stmts.If ys o) rest.end) (append_assoc found (x ∷ []) xs) })))))

  if_gives : (x : IfArm) (xs : List IfArm) (o : Option Stmt) (ifs : Ifs) (a : Around)
      → AreLeft ifs (x ∷ xs) o → InPlace d w a
      → Complete (stmt E P d w) (yield_stmt (stmts.If (x ∷ xs) o) a) (stmts.If (x ∷ xs) o) (EndsIf ifs o)
  unfolding stmt if_stmt
  if_gives x xs o ifs a h i total s from to at g follow =
      let g2 = spells_right (yield_arm x a) (behind_else (map yield_arm xs) a) (yield_else (option_map yield_stmt o) a) (spells_as (yield_stmt-If (x ∷ xs) o a) g) in
      spells_split (yield_arm x a) (behind_else (map yield_arm xs) a ++ yield_else (option_map yield_stmt o) a) from to g2 (λ m l k.
      first_gives (sees marks.If s.tokens) _ _ (sees_next marks.If _ at (spells_as (yield_arm-parts x a) l))
      (then_gives (arm E P d w s) _ (arm_gives x (kind xs o) a h.0 i total s from m at l (behind_arm xs o ifs a m to k follow)) (λ t at2.
      arms_give xs o ifs a (suc (length t.tokens)) (x ∷ []) total t m to h.1 i (omega arith) at2 k follow)))

  kind_more : (xs : List IfArm) (x : IfArm) → kind (xs ++ x ∷ []) None ≡ no_short
  kind_more [] x = refl
  kind_more (y ∷ xs) x = refl

  short_left : (ifs : Ifs) (xs : List IfArm) (x : IfArm) → AllByRecursion (IsArmOf no_short) xs → IsArmOf any x → AreLeft ifs (xs ++ x ∷ []) None
  short_left ifs [] x h g = (g, tt)
  short_left ifs (y ∷ xs) x h g = (subst (λ k. IsArmOf k y) (sym (kind_more xs x)) h.0, short_left ifs xs x h.1 g)

  long_left : (ifs : Ifs) (xs : List IfArm) (y : Stmt) → AllByRecursion (IsArmOf no_short) xs
      → IsPlain (nested d) (IsStmt d) ifs y → AreLeft ifs xs (Some y)
  long_left ifs [] y h g = g
  long_left ifs (x ∷ xs) y h g = (h.0, long_left ifs xs y h.1 g)

  short_gives : (arms : List IfArm) (last : IfArm) (a : Around) → AllByRecursion (IsArmOf no_short) arms → IsArmOf any last → InPlace d w a
      → Complete (stmt E P d w) (yield_stmt (stmts.If (arms ++ last ∷ []) None) a) (stmts.If (arms ++ last ∷ []) None) (EndsStmt any)
  short_gives [] last a h k i = if_gives last [] None any a (short_left any [] last h k) i
  short_gives (x ∷ xs) last a h k i = if_gives x (xs ++ last ∷ []) None any a (short_left any (x ∷ xs) last h k) i

  pub stmt_gives : (x : Stmt) (ifs : Ifs) (a : Around) → IsStmtOver (nested d) (IsStmt d) ifs x
      → InPlace d w a → Complete (stmt E P d w) (yield_stmt x a) x (EndsStmt ifs)
  unfolding stmt
  stmt_gives x ifs a (plain h) i total s from to at g follow =
      let one = plain_gives x ifs a h i total s from to at g follow in
      second_gives (sees marks.If s.tokens) _ _ (no_if_plain s one.end x one.is) one
  stmt_gives x ifs a (short_if arms last e n h k) i total s from to at g follow =
      let g2 = as_spells x _ a from to e g in as_stmt x _ _ e (short_gives arms last a h k i total s from to at g2 (subst (λ v. EndsStmt v to.tokens) n follow))
  stmt_gives x ifs a (if_else first arms last e h hs k) i total s from to at g follow =
      let g2 = as_spells x _ a from to e g in as_stmt x _ _ e (if_gives first arms (Some last) ifs a (h, long_left ifs arms last hs k) i total s from to at g2 follow)

  -- ---- how statements begin

  expr_opens_stmt : (ts : List Sign) → OpensExpr ts → OpensStmt ts
  expr_opens_stmt ts h = by_first ts h
    where
      no_mark : (t : Sign) (us : List Sign) → ((m : Mark) → t ≡ mark m → ⊥) → (m : Mark) (vs : List Sign) → (t ∷ us) ≡ mark m ∷ vs → ⊥
      no_mark t us f m vs e = f m cc

      others : (us : List Sign) → OpensExpr us → ((m : Mark) (vs : List Sign) → us ≡ mark m ∷ vs → ⊥) → OpensStmt us
      others us k n = expr_word_opens us k.no_invocation k.begins (expr_no_local E P d w fits holds parts us k) n

      by_first : (us : List Sign) → OpensExpr us → OpensStmt us
      by_first [] k = others [] k (λ m vs e. absurd cc)
      by_first (left_brace at ∷ us) k = others _ k (no_mark (left_brace at) us (λ m e. absurd cc))
      by_first (mark m ∷ us) k =
          let f = expr_mark_plain m us k.begins in record { no_end = f.0; no_class = f.1; no_local = expr_no_local E P d w fits holds parts (mark m ∷ us) k; ends = f.2; no_invocation = k.no_invocation }
      by_first (this s ∷ us) k = others _ k (no_mark (this s) us (λ m e. absurd cc))
      by_first (super s ∷ us) k = others _ k (no_mark (super s) us (λ m e. absurd cc))
      by_first (word i ∷ us) k = others _ k (no_mark (word i) us (λ m e. absurd cc))
      by_first (literal l ∷ us) k = others _ k (no_mark (literal l) us (λ m e. absurd cc))
      by_first (stray ∷ us) k = others _ k (no_mark stray us (λ m e. absurd cc))

  expression_opens_stmt : (s t : State) (x : Stmt) → expression_stmt E P d w s ≡ Done x t → OpensStmt s.tokens
  expression_opens_stmt s t x e = expression_opens s t x e (λ opens l. expr_opens_stmt s.tokens opens)

  tail_same : (x y : Sign) (us vs : List Sign) → (x ∷ us) ≡ (y ∷ vs) → us ≡ vs
  tail_same x y us vs e = cc

  expect_next : (m : Mark) (s t : State) (x : Unit {0}) → expect m s ≡ Done x t → t.tokens ≡ tail s.tokens
  unfolding expect
  expect_next m s t x e = by_test (sees m s.tokens) e
    where
      by_test : (b : Bool) → cond b (Done tt (next s)) Fail ≡ Done x t → t.tokens ≡ tail s.tokens
      by_test true f = ap (λ v. v.tokens) (sym (done_state tt x (next s) t f))
      by_test false f = absurd cc

  synchronized_begins : (s t : State) (x : Stmt) (ts : List Sign)
      → s.tokens ≡ mark marks.Synchronized ∷ ts → synchronized_stmt E P d w s ≡ Done x t
      → OpensStmt (mark marks.Synchronized ∷ ts)
  unfolding synchronized_stmt condition
  synchronized_begins s t x ts g e =
      then_both (expect marks.Synchronized s) _ e (λ n u f r. then_both (condition E P d w u) _ r (λ y v j q. then_both (expect marks.LeftParen u) _ j (λ n2 z k r2.
      synchronized_opens ts (tail u.tokens) (ap tail (sym g) ∙ sym (expect_next marks.Synchronized s u n f) ∙ sees_is marks.LeftParen u.tokens (expect_sees E P d w fits holds parts marks.LeftParen u z n2 k)))))

  by_mark_opens : (m : Mark) (ts : List Sign) (s t : State) (x : Stmt) → s.tokens ≡ mark m ∷ ts
      → plain_by E P d w m s ≡ Done x t → OpensStmt (mark m ∷ ts)
  by_mark_opens marks.Semicolon ts s t x g e = semicolon_opens ts
  by_mark_opens marks.While ts s t x g e = while_opens ts
  by_mark_opens marks.Do ts s t x g e = do_opens ts
  by_mark_opens marks.For ts s t x g e = for_opens ts
  by_mark_opens marks.Switch ts s t x g e = switch_opens ts
  by_mark_opens marks.Break ts s t x g e = break_opens ts
  by_mark_opens marks.Continue ts s t x g e = continue_opens ts
  by_mark_opens marks.Return ts s t x g e = return_opens ts
  by_mark_opens marks.Throw ts s t x g e = throw_opens ts
  by_mark_opens marks.Synchronized ts s t x g e = synchronized_begins s t x ts g e
  by_mark_opens marks.Try ts s t x g e = try_opens ts
  by_mark_opens marks.Assert ts s t x g e = assert_opens ts
  by_mark_opens marks.If ts s t x g e = absurd cc
  by_mark_opens marks.Else ts s t x g e = absurd cc
  by_mark_opens marks.Catch ts s t x g e = absurd cc
  by_mark_opens marks.Finally ts s t x g e = absurd cc
  by_mark_opens m ts s t x g e = subst OpensStmt g (expression_opens_stmt s t x e)

  plain_opens : (ts : List Sign) (s t : State) (x : Stmt) → s.tokens ≡ ts → plain_at E P d w ts s ≡ Done x t → OpensStmt ts
  plain_opens [] s t x g e = subst OpensStmt g (expression_opens_stmt s t x e)
  plain_opens (left_brace b ∷ ts) s t x g e = brace_opens b ts
  plain_opens (mark m ∷ ts) s t x g e = by_mark_opens m ts s t x g e
  plain_opens (this y ∷ ts) s t x g e = subst OpensStmt g (expression_opens_stmt s t x e)
  plain_opens (super y ∷ ts) s t x g e = subst OpensStmt g (expression_opens_stmt s t x e)
  plain_opens (word i ∷ ts) s t x g e = by_label (begins_label s.tokens) refl e
    where
      by_label : (b : Bool) → begins_label s.tokens ≡ b
          → cond b (labeled_stmt E P d w s) (expression_stmt E P d w s) ≡ Done x t
          → OpensStmt (word i ∷ ts)
      by_label true k f = let l = label_is s.tokens k in subst OpensStmt g (subst OpensStmt (sym l.1) (label_opens l.0 (tail (tail s.tokens))))
      by_label false k f = subst OpensStmt g (expression_opens_stmt s t x f)
  plain_opens (literal l ∷ ts) s t x g e = subst OpensStmt g (expression_opens_stmt s t x e)
  plain_opens (stray ∷ ts) s t x g e = subst OpensStmt g (expression_opens_stmt s t x e)

  pub stmt_opens : (s t : State) (x : Stmt) → stmt E P d w s ≡ Done x t → OpensStmt s.tokens
  unfolding stmt plain_stmt
  stmt_opens s t x e = by_if (sees marks.If s.tokens) refl e
    where
      by_if : (b : Bool) → sees marks.If s.tokens ≡ b → cond b (if_stmt E P d w s) (plain_at E P d w s.tokens s) ≡ Done x t → OpensStmt s.tokens
      by_if true k f = subst OpensStmt (sym (sees_is marks.If s.tokens k)) (if_opens (tail s.tokens))
      by_if false k f = plain_opens s.tokens s t x refl f

  -- no statement begins with a primary expression and `.super(`
  expression_alone : (s t : State) (x : Stmt) (e : ℕ) → e ≤ 256 → (p : Primary) (us : List Sign)
      → expression_stmt E P d w s ≡ Done x t → E.primary e s.tokens ≡ Here p us
      → begins_super_call us ≡ true → ⊥
  unfolding expression_stmt
  expression_alone s t x e low p us h g b =
      then_both (statement_expr E P d w s) _ h (λ y u f r.
      holds.primary_alone e d low fits p y s.tokens us u.tokens g b (expr_found E P d w fits holds parts s u y (statement_expr_found E P d w fits holds parts s u y f)))

  stmt_same : (o r : Outcome Stmt) (x : Stmt) (t : State) → o ≡ r → o ≡ Done x t → r ≡ Done x t
  stmt_same o r x t e h = sym e ∙ h

  pub stmt_alone : (s t : State) (x : Stmt) (e : ℕ) → e ≤ 256 → (p : Primary) (us : List Sign)
      → stmt E P d w s ≡ Done x t → E.primary e s.tokens ≡ Here p us → begins_super_call us ≡ true → ⊥
  unfolding stmt plain_stmt
  stmt_alone s t x e low p us h g b =
      let opens = holds.primary_opens e low p s.tokens us g b in
      by_if (sees marks.If s.tokens) refl opens.0 opens.1 h
    where
      no_if : begins_expr s.tokens ≡ true → sees marks.If s.tokens ≡ true → ⊥
      no_if k l = let f = sym (ap begins_expr (sees_is marks.If s.tokens l)) ∙ k in cc

      by_if : (v : Bool) → sees marks.If s.tokens ≡ v → OpensExpr s.tokens
          → begins_label s.tokens ≡ false
          → cond v (if_stmt E P d w s) (plain_at E P d w s.tokens s) ≡ Done x t → ⊥
      by_if true k o l f = no_if o.begins k
      by_if false k o l f = expression_alone s t x e low p us (stmt_same _ _ x t (expression_plain s.tokens s o.begins l) f) g b
