-- What the functions that read find stands at its place, and what stands there they find.
use Rattle.std.proofs.Common.{◌≡◌, ℕ, ◌-◌, ◌≤◌, true, ◌&&◌, List, ◌∷◌, length, drop, Option, Some, refl, sym, ap, ◌∙◌, subst, arith}
use Rattle.std.proofs.lemmas.List.{length-drop}
use Rattle.java_tree.specs.declared.mark.Mark.TheVariants as marks
use Rattle.java_tree.specs.declared.token.Span.{Span}
use Rattle.java_tree.specs.declared.expr.Expr.{Expr}
use Rattle.java_tree.specs.declared.expr.Primary.{Primary}
use Rattle.java_model.specs.Grammar.Signs.{Sign, mark, super}
use Rattle.java_model.specs.Grammar.Pieces.{Piece, Around, deeper}
use Rattle.java_model.specs.Grammar.YieldExpr.{yield_expr, yield_primary}
use Rattle.java_model.specs.Grammar.Runs.{Reads, above, ends_expr, StandsAt, holes_of, AtMostOneExpr}
use Rattle.java_expr_reading.specs.Shapes.{same_mark, shape_by, is_super}
use Rattle.java_expr_reading.specs.Input.{Input, sign, shape, left, next, Done, sees}
use Rattle.java_expr_reading.specs.Reading.Operators.{ends_by}
use Rattle.java_expr_reading.specs.Reading.Expressions.{read_expr, meets, read_goal, sees_super_call, read_qualifier}
use Rattle.java_expr_reading.specs.ReadingLaws.{ReadsEachExpr, ReadsNoOther, ReadsEachQualifier, ReadsNoOtherQualifier}
use Rattle.java_expr_reading.specs.Answers.{GoalStandsAt, AreRunsOf, begins_super_call, PrimaryStandsAt, input_at}
use Rattle.java_expr_reading.specs.declared.parsed.Goal.{Goal}
use Rattle.java_expr_reading.specs.declared.parsed.Goal.TheVariants as goals
use Rattle.java_expr_reading.proofs.Taken.{Fit, fit_shorter, done, done_value, done_input}
use Rattle.java_expr_reading.proofs.Tokens.{sees-is}
use Rattle.java_expr_reading.proofs.NameLaws.{both_true}
use Rattle.java_expr_reading.proofs.Places.{IsAt, fit-reads, reads-taken, fit-leaves, sign-is}
use Rattle.java_expr_reading.proofs.GoalLaws.{read_expr-sound, read_expr-complete, read_primary-sound, read_primary-complete, goal_ends, ends-rest, read_goal-parts, read_goal-from, read_qualifier-parts, read_qualifier-from, super_call_ends}

pub within : (depth : ℕ) → 256 - depth ≤ 256
within depth = omega arith

pub start : (tokens : List Sign) (at : ℕ) → at ≤ length tokens → IsAt tokens (input_at tokens at)
start tokens at h = record { rest = refl; within = h }

-- two places with the same tokens behind them
pub same_place : (tokens : List Sign) (m n : ℕ) → m ≤ length tokens → n ≤ length tokens → drop m tokens ≡ drop n tokens → m ≡ n
same_place tokens m n h g e =
    let l : length tokens - m ≡ length tokens - n = sym (length-drop m tokens) ∙ ap length e ∙ length-drop n tokens in omega arith

-- ---- what is read stands there

-- nothing is read backwards
not_before : (tokens : List Sign) (at : ℕ) (ps : List Piece) (j : Input) → at ≤ length tokens → IsAt tokens j → Fit ps (input_at tokens at) j → at ≤ j.at
unfolding left
not_before tokens at ps j h there fit =
    let fewer : length j.rest ≤ length (drop at tokens) = fit_shorter ps (input_at tokens at) j fit in
    let there_ : length j.rest ≡ length tokens - j.at = ap length there.rest ∙ length-drop j.at tokens in
    let inside = there.within in
    omega (arith, length-drop at tokens)

pub record StandsAsRead (tokens : List Sign) (at depth : ℕ) (x : Expr) (j : Input) : Type 0 where
  pub stands : StandsAt tokens at depth j.at x
  pub bodies : AreRunsOf tokens (holes_of (yield_expr x (deeper (above depth)))) j.bodies
  pub there : IsAt tokens j
  pub later : at ≤ j.at

pub expr-stands : (tokens : List Sign) (at depth : ℕ) (x : Expr) (j : Input) → at ≤ length tokens → read_expr (256 - depth) (input_at tokens at) ≡ Done x j
    → ends_by (shape j) ≡ true → StandsAsRead tokens at depth x j
expr-stands tokens at depth x j h e ends =
    let read = read_expr-sound (256 - depth) (within depth) x (input_at tokens at) j e in
    let around : Around = deeper (above depth) in
    let fit = read.taken around refl in
    let leaves = fit-leaves tokens (yield_expr x around) (input_at tokens at) j (start tokens at h) fit in
    let rest = leaves.1.there in
    record {
      stands = record {
        shape = read.shape;
        reads = subst (λ us. Reads (yield_expr x around) (drop at tokens) us) rest.rest (fit-reads (yield_expr x around) (input_at tokens at) j fit);
        ends = ap ends_expr (sym rest.rest) ∙ ends-rest j ∙ ends;
        in_tokens = rest.within;
      };
      bodies = subst (AreRunsOf tokens (holes_of (yield_expr x around))) (sym leaves.1.bodies) leaves.1.runs;
      there = rest;
      later = not_before tokens at (yield_expr x around) j h rest fit;
    }

pub goal_stands : (goal : Goal) (tokens : List Sign) (at depth next : ℕ) (x : Expr) → StandsAt tokens at depth next x → meets goal x ≡ true → GoalStandsAt goal tokens at depth next x
goal_stands goals.Any tokens at depth next x h m = h
goal_stands goals.Statement tokens at depth next x h m = record { stands = h; statement = m }

-- ---- what stands there is read

expr-read : {C : Type 0} (tokens : List Sign) (at depth next : ℕ) (x : Expr) → StandsAt tokens at depth next x
    → ((j : Input) → read_expr (256 - depth) (input_at tokens at) ≡ Done x j → j.rest ≡ drop next tokens → ends_by (shape j) ≡ true → C) → C
expr-read tokens at depth next x h f =
    reads-taken (yield_expr x (deeper (above depth))) (input_at tokens at) (drop next tokens) h.reads (λ j t rest.
    let ends : ends_by (shape j) ≡ true = sym (ends-rest j) ∙ ap ends_expr rest ∙ h.ends in
    f j (read_expr-complete (256 - depth) x (deeper (above depth)) (input_at tokens at) j refl h.shape t (goal_ends j ends)) rest ends)

pub record IsGoal (goal : Goal) (tokens : List Sign) (at depth next : ℕ) (x : Expr) : Type 0 where
  pub stands : StandsAt tokens at depth next x
  pub meets : meets goal x ≡ true

goal-parts : (goal : Goal) (tokens : List Sign) (at depth next : ℕ) (x : Expr) → GoalStandsAt goal tokens at depth next x → IsGoal goal tokens at depth next x
goal-parts goals.Any tokens at depth next x h = record { stands = h; meets = refl }
goal-parts goals.Statement tokens at depth next x h = record { stands = h.stands; meets = h.statement }

pub goal-read : {C : Type 0} (goal : Goal) (tokens : List Sign) (at depth next : ℕ) (x : Expr) → GoalStandsAt goal tokens at depth next x
    → ((j : Input) → read_goal goal (256 - depth) (input_at tokens at) ≡ Done x j → j.rest ≡ drop next tokens → next ≤ length tokens → C) → C
goal-read goal tokens at depth next x h f =
    let g = goal-parts goal tokens at depth next x h in
    let s = g.stands in
    expr-read tokens at depth next x s (λ j e rest ends. f j (read_goal-from goal (256 - depth) x (input_at tokens at) j e ends g.meets) rest s.in_tokens)

pub at_most_one_expr : (tokens : List Sign) (at depth : ℕ) → AtMostOneExpr tokens at depth
at_most_one_expr tokens at depth x y m n h g =
    expr-read tokens at depth m x h (λ j e rest ends.
    expr-read tokens at depth n y g (λ k f rest_ ends_.
    let both : done x j ≡ done y k = sym e ∙ f in
    (done_value x y j k both, same_place tokens m n h.in_tokens g.in_tokens (sym rest ∙ ap (λ i. i.rest) (done_input x y j k both) ∙ rest_))))

-- ---- a primary expression before `.` `super` `(`

super_of : (o : Option Sign) → is_super (shape_by o) ≡ true → (s : Span) × (o ≡ Some (super s))
super_of (Some (super s)) h = (s, refl)
super_of _ h = absurd cc

rest_of : (j : Input) (s : Span) → sign j ≡ Some (mark marks.Dot) → sign (next j) ≡ Some (super s) → sign (next (next j)) ≡ Some (mark marks.LeftParen)
    → begins_super_call j.rest ≡ true
unfolding next
rest_of j s h g e =
    let third = sign-is (next (next j)) (mark marks.LeftParen) e in
    let second = sign-is (next j) (super s) g ∙ ap (λ ts. super s ∷ ts) third in
    ap begins_super_call (sign-is j (mark marks.Dot) h ∙ ap (λ ts. mark marks.Dot ∷ ts) second)

super_call-rest : (j : Input) → sees_super_call j ≡ true → begins_super_call j.rest ≡ true
unfolding sees_super_call
super_call-rest j h =
    let both = both_true (sees marks.Dot j && is_super (shape (next j))) (sees marks.LeftParen (next (next j))) h in
    let front = both_true (sees marks.Dot j) (is_super (shape (next j))) both.0 in
    let s = super_of (sign (next j)) front.1 in
    rest_of j s.0 (sees-is marks.Dot j front.0) s.1 (sees-is marks.LeftParen (next (next j)) both.1)

begins_super_call-is : {C : Type 0} (ts : List Sign) → begins_super_call ts ≡ true
    → ((s : Span) (us : List Sign) → ts ≡ mark marks.Dot ∷ super s ∷ mark marks.LeftParen ∷ us → C) → C
begins_super_call-is (mark marks.Dot ∷ super s ∷ mark marks.LeftParen ∷ us) h f = f s us refl
begins_super_call-is _ h f = absurd cc

seen_super_call : (j : Input) (s : Span) (us : List Sign) → j.rest ≡ mark marks.Dot ∷ super s ∷ mark marks.LeftParen ∷ us → sees_super_call j ≡ true
unfolding sees_super_call sees sign next same_mark
seen_super_call j s us h = rw h refl

rest-super_call : (j : Input) → begins_super_call j.rest ≡ true → sees_super_call j ≡ true
rest-super_call j h = begins_super_call-is j.rest h (λ s us e. seen_super_call j s us e)

pub record PrimaryStandsAsRead (tokens : List Sign) (at depth : ℕ) (p : Primary) (j : Input) : Type 0 where
  pub stands : PrimaryStandsAt tokens at depth j.at p
  pub bodies : AreRunsOf tokens (holes_of (yield_primary p (above depth))) j.bodies
  pub there : IsAt tokens j
  pub later : at ≤ j.at

pub primary-stands : (tokens : List Sign) (at depth : ℕ) (p : Primary) (j : Input) → at ≤ length tokens → read_qualifier (256 - depth) (input_at tokens at) ≡ Done p j
    → PrimaryStandsAsRead tokens at depth p j
primary-stands tokens at depth p j h e =
    let parts = read_qualifier-parts (256 - depth) p (input_at tokens at) j e in
    let read = read_primary-sound (256 - depth) (within depth) p (input_at tokens at) j parts.read in
    let around : Around = above depth in
    let fit = read.taken around refl in
    let leaves = fit-leaves tokens (yield_primary p around) (input_at tokens at) j (start tokens at h) fit in
    let rest = leaves.1.there in
    record {
      stands = record {
        shape = read.shape;
        reads = subst (λ us. Reads (yield_primary p around) (drop at tokens) us) rest.rest (fit-reads (yield_primary p around) (input_at tokens at) j fit);
        ends = ap begins_super_call (sym rest.rest) ∙ super_call-rest j parts.ends;
        in_tokens = rest.within;
      };
      bodies = subst (AreRunsOf tokens (holes_of (yield_primary p around))) (sym leaves.1.bodies) leaves.1.runs;
      there = rest;
      later = not_before tokens at (yield_primary p around) j h rest fit;
    }

pub primary-read : {C : Type 0} (tokens : List Sign) (at depth next : ℕ) (p : Primary) → PrimaryStandsAt tokens at depth next p
    → ((j : Input) → read_qualifier (256 - depth) (input_at tokens at) ≡ Done p j → j.rest ≡ drop next tokens → C) → C
primary-read tokens at depth next p h f =
    reads-taken (yield_primary p (above depth)) (input_at tokens at) (drop next tokens) h.reads (λ j t rest.
    let ends : sees_super_call j ≡ true = rest-super_call j (ap begins_super_call rest ∙ h.ends) in
    f j (read_qualifier-from (256 - depth) p (input_at tokens at) j (read_primary-complete (256 - depth) p (above depth) (input_at tokens at) j refl h.shape t (super_call_ends j ends)) ends) rest)

-- ---- the laws

pub reads_each_expr : ReadsEachExpr
reads_each_expr goal tokens at depth next x h = goal-read goal tokens at depth next x h (λ j e rest inside. (j, e, rest))

pub reads_no_other : ReadsNoOther
reads_no_other goal tokens at depth x j h e =
    let parts = read_goal-parts goal (256 - depth) x (input_at tokens at) j e in
    let s = expr-stands tokens at depth x j h parts.read parts.ends in
    let place = s.there in
    record { stands = goal_stands goal tokens at depth j.at x s.stands parts.meets; bodies = s.bodies; rest = place.rest }

pub reads_each_qualifier : ReadsEachQualifier
reads_each_qualifier tokens at depth next p h = primary-read tokens at depth next p h (λ j e rest. (j, e, rest))

pub reads_no_other_qualifier : ReadsNoOtherQualifier
reads_no_other_qualifier tokens at depth p j h e =
    let s = primary-stands tokens at depth p j h e in
    let place = s.there in
    record { stands = s.stands; bodies = s.bodies; rest = place.rest }
