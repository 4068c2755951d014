-- What java_parse_expr reads at a place of all tokens, as units ask it of the tokens that are left.
use Rattle.std.proofs.Common.{◌≡◌, ℕ, ◌-◌, ◌≤◌, Bool, true, ◌&&◌, List, [], ◌∷◌, ◌++◌, length, drop, map, Option, Some, None, Result, Ok, Err, refl, sym, ap, ◌∙◌, subst, arith}
use Rattle.std.specs.Prelude.{◌≢◌}
use Rattle.std.proofs.lemmas.List.{append_cancel_left}
use Rattle.java_tree.specs.declared.mark.Mark.{Mark}
use Rattle.java_tree.specs.declared.mark.Mark.TheVariants as marks
use Rattle.java_tree.specs.declared.expr.ArrayInitializer.{ArrayInitializer}
use Rattle.java_tree.specs.declared.expr.Expr.{Expr}
use Rattle.java_tree.specs.declared.expr.Primary.{Primary}
use Rattle.java_tree.specs.declared.unit.TypeDecl.{TypeDecl}
use Rattle.java_model.specs.Grammar.Signs.{Sign, mark, left_brace, this, super, word, literal, stray}
use Rattle.java_model.specs.Grammar.Pieces.{Piece, Around, deeper}
use Rattle.java_model.specs.Grammar.Runs.{Reads, ends_expr}
use Rattle.java_model.specs.Grammar.YieldExpr.{yield_expr, yield_array, yield_primary}
use Rattle.java_expr_reading.specs.Shapes.{same_mark as same, shape_by, is_super}
use Rattle.java_expr_reading.specs.Input.{Input, Outcome, Done as done_by, Fail as fail_by, sign, next, shape, first_of, sees as seen_by}
use Rattle.java_expr_reading.specs.Answers.{input_at}
use Rattle.java_expr_reading.specs.Reading.Operators.{ends_by}
use Rattle.java_expr_reading.specs.Reading.Expressions.{read_nest, read_goal, read_qualifier, sees_super_call}
use Rattle.java_expr_reading.specs.declared.parsed.Goal.TheVariants as goals
use Rattle.java_expr_reading.specs.declared.parsed.PendingBody.{PendingBody}
use Rattle.java_expr_reading.proofs.Taken.{Fit}
use Rattle.java_expr_reading.proofs.ExprSound.{nest-sound}
use Rattle.java_expr_reading.proofs.ExprComplete.{nest-complete}
use Rattle.java_expr_reading.proofs.Places.{IsAt, fit-reads, reads-taken}
use Rattle.java_expr_reading.proofs.GoalLaws.{read_expr-sound, read_expr-complete, read_primary-sound, read_primary-complete, goal_ends, ends-rest, read_goal-parts, read_goal-from, read_qualifier-parts, read_qualifier-from, super_call_ends}
use Rattle.java_expr_reading.proofs.NameLaws.{both_true}
use Rattle.java_unit_reading.specs.Bodies.{body_from}
use Rattle.java_unit_reading.specs.Reading.Steps.{Done, Fail, state, sees, tail}
use Rattle.java_unit_reading.specs.Reading.Nested.{Parts, Found, Here, Nothing, bodies_of, around, bodies, settle}
use Rattle.java_unit_reading.specs.Reading.Members.{sees_super, begins_super_call}
use Rattle.java_unit_reading.specs.Reading.Expressions.{input, found, exprs}
use Rattle.java_unit_reading.proofs.Expressions.Instance.{Bodies, bodies_are, from_found}

-- A tree stands before these tokens, and these bodies were passed over.
pub record IsHere {A : Type 0} (all : List Sign) (at : ℕ) (read : Found A) (pieces : A → List Piece) (x : A) (j : Input) : Type 0 where
  pub here : read ≡ Here x j.rest
  pub bodies : bodies_of (pieces x) (drop at all) ≡ map (body_from all) j.bodies

at_start : (all : List Sign) (at : ℕ) → at ≤ length all → IsAt all (input_at all at)
at_start all at h = record { rest = refl; within = h }

bodies_here : (all : List Sign) (at : ℕ) (ps : List Piece) (j : Input) → at ≤ length all → Fit ps (input_at all at) j
    → bodies_of ps (drop at all) ≡ map (body_from all) j.bodies
bodies_here all at ps j h fit =
    let bs = bodies_are all ps (input_at all at) j (at_start all at h) fit in
    bs.are ∙ ap (map (body_from all)) (sym bs.more)

nothing_or : {A : Type 0} (o : Found A) → ((x : A) (us : List Sign) → o ≡ Here x us → ⊥) → o ≡ Nothing
nothing_or Nothing f = refl
nothing_or (Here x us) f = absurd (f x us refl)

no_done : {A C : Type 0} (o : Outcome A) (x : A) (j : Input) → o ≡ fail_by → o ≡ done_by x j → C
no_done o x j e f = absurd cc

-- ---- an Expr

pub expr_here : (all : List Sign) (at d : ℕ) (x : Expr) (j : Input) → d ≤ 256 → at ≤ length all
    → read_goal goals.Any d (input_at all at) ≡ done_by x j
    → IsHere all at (exprs.expr d (drop at all)) (λ y. yield_expr y (deeper (around d))) x j
unfolding exprs
expr_here all at d x j fits h e =
    let parts = read_goal-parts goals.Any d x (input_at all at) j e in
    let read = read_expr-sound d fits x (input_at all at) j parts.read in
    let ps = yield_expr x (deeper (around d)) in
    let fit = read.taken (deeper (around d)) refl in
    record {
      here = reads-taken ps (input (drop at all)) j.rest (fit-reads ps (input_at all at) j fit) (λ k t rest.
          let ends : ends_by (shape k) ≡ true = sym (ends-rest k) ∙ ap ends_expr rest ∙ ends-rest j ∙ parts.ends in
          let again = read_expr-complete d x (deeper (around d)) (input (drop at all)) k refl read.shape t (goal_ends k ends) in
          ap found (read_goal-from goals.Any d x (input (drop at all)) k again ends refl) ∙ ap (λ us. Here x us) rest);
      bodies = bodies_here all at ps j h fit;
    }

pub no_expr_here : (all : List Sign) (at d : ℕ) → d ≤ 256 → read_goal goals.Any d (input_at all at) ≡ fail_by → exprs.expr d (drop at all) ≡ Nothing
unfolding exprs
no_expr_here all at d fits e =
    nothing_or (found (read_goal goals.Any d (input (drop at all)))) (λ x us g.
    from_found (read_goal goals.Any d (input (drop at all))) x us g (λ k r same.
    let parts = read_goal-parts goals.Any d x (input (drop at all)) k r in
    let read = read_expr-sound d fits x (input (drop at all)) k parts.read in
    let ps = yield_expr x (deeper (around d)) in
    reads-taken ps (input_at all at) k.rest (fit-reads ps (input (drop at all)) k (read.taken (deeper (around d)) refl)) (λ j t rest.
    let ends : ends_by (shape j) ≡ true = sym (ends-rest j) ∙ ap ends_expr rest ∙ ends-rest k ∙ parts.ends in
    let again = read_expr-complete d x (deeper (around d)) (input_at all at) j refl read.shape t (goal_ends j ends) in
    no_done (read_goal goals.Any d (input_at all at)) x j e (read_goal-from goals.Any d x (input_at all at) j again ends refl))))

-- ---- an ArrayInitializer

pub array_here : (all : List Sign) (at d : ℕ) (x : ArrayInitializer) (j : Input) → d ≤ 256 → at ≤ length all
    → (read_nest d).braces (input_at all at) ≡ done_by x j
    → IsHere all at (exprs.array d (drop at all)) (λ y. yield_array y (around d)) x j
unfolding exprs
array_here all at d x j fits h e =
    let known = nest-sound d fits in
    let every = nest-complete d in
    let read = known.braces x (input_at all at) j e in
    let ps = yield_array x (around d) in
    let fit = read.taken (around d) refl in
    record {
      here = reads-taken ps (input (drop at all)) j.rest (fit-reads ps (input_at all at) j fit) (λ k t rest.
          ap found (every.braces x (around d) (input (drop at all)) k refl read.shape t) ∙ ap (λ us. Here x us) rest);
      bodies = bodies_here all at ps j h fit;
    }

pub no_array_here : (all : List Sign) (at d : ℕ) → d ≤ 256 → (read_nest d).braces (input_at all at) ≡ fail_by → exprs.array d (drop at all) ≡ Nothing
unfolding exprs
no_array_here all at d fits e =
    nothing_or (found ((read_nest d).braces (input (drop at all)))) (λ x us g.
    from_found ((read_nest d).braces (input (drop at all))) x us g (λ k r same.
    let known = nest-sound d fits in
    let every = nest-complete d in
    let read = known.braces x (input (drop at all)) k r in
    let ps = yield_array x (around d) in
    reads-taken ps (input_at all at) k.rest (fit-reads ps (input (drop at all)) k (read.taken (around d) refl)) (λ j t rest.
    no_done ((read_nest d).braces (input_at all at)) x j e (every.braces x (around d) (input_at all at) j refl read.shape t))))

-- ---- a Primary before `.super(`

call_in : List Sign → Bool
call_in ts = sees_super_call (input ts)

call_by_rest : (i : Input) → sees_super_call i ≡ call_in i.rest
unfolding call_in sees_super_call seen_by sign next
call_by_rest i = refl

same_call : (i j : Input) → i.rest ≡ j.rest → sees_super_call j ≡ true → sees_super_call i ≡ true
same_call i j e h = call_by_rest i ∙ ap call_in e ∙ sym (call_by_rest j) ∙ h

pub primary_here : (all : List Sign) (at d : ℕ) (x : Primary) (j : Input) → d ≤ 256 → at ≤ length all
    → read_qualifier d (input_at all at) ≡ done_by x j
    → IsHere all at (exprs.primary d (drop at all)) (λ y. yield_primary y (around d)) x j
unfolding exprs
primary_here all at d x j fits h e =
    let parts = read_qualifier-parts d x (input_at all at) j e in
    let read = read_primary-sound d fits x (input_at all at) j parts.read in
    let ps = yield_primary x (around d) in
    let fit = read.taken (around d) refl in
    record {
      here = reads-taken ps (input (drop at all)) j.rest (fit-reads ps (input_at all at) j fit) (λ k t rest.
          let call = same_call k j rest parts.ends in
          let again = read_primary-complete d x (around d) (input (drop at all)) k refl read.shape t (super_call_ends k call) in
          ap found (read_qualifier-from d x (input (drop at all)) k again call) ∙ ap (λ us. Here x us) rest);
      bodies = bodies_here all at ps j h fit;
    }

pub no_primary_here : (all : List Sign) (at d : ℕ) → d ≤ 256 → read_qualifier d (input_at all at) ≡ fail_by → exprs.primary d (drop at all) ≡ Nothing
unfolding exprs
no_primary_here all at d fits e =
    nothing_or (found (read_qualifier d (input (drop at all)))) (λ x us g.
    from_found (read_qualifier d (input (drop at all))) x us g (λ k r same.
    let parts = read_qualifier-parts d x (input (drop at all)) k r in
    let read = read_primary-sound d fits x (input (drop at all)) k parts.read in
    let ps = yield_primary x (around d) in
    reads-taken ps (input_at all at) k.rest (fit-reads ps (input (drop at all)) k (read.taken (around d) refl)) (λ j t rest.
    let call = same_call j k rest parts.ends in
    let again = read_primary-complete d x (around d) (input_at all at) j refl read.shape t (super_call_ends j call) in
    no_done (read_qualifier d (input_at all at)) x j e (read_qualifier-from d x (input_at all at) j again call))))

-- ---- what stands at the head of tokens, in tokens and in an input

seen_first : (m : Mark) (ts : List Sign) (at : ℕ) (bs : List PendingBody) → seen_by m (record { rest = ts; at = at; bodies = bs }) ≡ sees m ts
unfolding seen_by sign same sees
seen_first m [] at bs = refl
seen_first m (mark n ∷ ts) at bs = refl
seen_first m (left_brace b ∷ ts) at bs = refl
seen_first m (this s ∷ ts) at bs = refl
seen_first m (super s ∷ ts) at bs = refl
seen_first m (word i ∷ ts) at bs = refl
seen_first m (literal l ∷ ts) at bs = refl
seen_first m (stray ∷ ts) at bs = refl

super_first : (ts : List Sign) (at : ℕ) (bs : List PendingBody) → is_super (shape (record { rest = ts; at = at; bodies = bs })) ≡ sees_super ts
unfolding sign
super_first [] at bs = refl
super_first (mark n ∷ ts) at bs = refl
super_first (left_brace b ∷ ts) at bs = refl
super_first (this s ∷ ts) at bs = refl
super_first (super s ∷ ts) at bs = refl
super_first (word i ∷ ts) at bs = refl
super_first (literal l ∷ ts) at bs = refl
super_first (stray ∷ ts) at bs = refl

tail_of : (ts : List Sign) → drop 1 ts ≡ tail ts
tail_of [] = refl
tail_of (t ∷ ts) = refl

all_three : (a b c : Bool) → a ≡ true → b ≡ true → c ≡ true → (a && (b && c)) ≡ true
all_three a b c g h k = rw (g, h, k) refl

call_begins : (us : List Sign) → sees_super_call (input us) ≡ true → begins_super_call us ≡ true
unfolding sees_super_call next
call_begins us h =
    let both = both_true (seen_by marks.Dot (input us) && is_super (shape (next (input us)))) (seen_by marks.LeftParen (next (next (input us)))) h in
    let front = both_true (seen_by marks.Dot (input us)) (is_super (shape (next (input us)))) both.0 in
    all_three (sees marks.Dot us) (sees_super (tail us)) (sees marks.LeftParen (tail (tail us)))
    (sym (seen_first marks.Dot us 0 []) ∙ front.0)
    (ap sees_super (sym (tail_of us)) ∙ sym (super_first (drop 1 us) 1 []) ∙ front.1)
    (ap (sees marks.LeftParen) (ap tail (sym (tail_of us)) ∙ sym (tail_of (drop 1 us))) ∙ sym (seen_first marks.LeftParen (drop 1 (drop 1 us)) 2 []) ∙ both.1)

-- what stands after a Primary that was found
pub primary_begins : (d : ℕ) (ts us : List Sign) (p : Primary) → exprs.primary d ts ≡ Here p us → begins_super_call us ≡ true
unfolding exprs
primary_begins d ts us p e =
    from_found (read_qualifier d (input ts)) p us e (λ j r rest.
    let parts = read_qualifier-parts d p (input ts) j r in call_begins us (same_call (input us) j (sym rest) parts.ends))

-- ---- a tree with the bodies that it passed over

pub settled : {A : Type 0} (P : Parts) (d : ℕ) (w : Option ℕ) (Y : A → Around → List Piece) (all : List Sign) (at : ℕ) (types after : List TypeDecl) (read : Found A) (x : A) (j : Input)
    → IsHere all at read (λ y. Y y (around d)) x j → bodies exprs P d w (map (body_from all) j.bodies) types ≡ Some after
    → settle exprs P d w Y read (state types (drop at all)) ≡ Done x (state after j.rest)
settled P d w Y all at types after read x j h e = rw (h.here, h.bodies, e) refl

pub not_settled : {A : Type 0} (P : Parts) (d : ℕ) (w : Option ℕ) (Y : A → Around → List Piece) (all : List Sign) (at : ℕ) (types : List TypeDecl) (read : Found A) (x : A) (j : Input)
    → IsHere all at read (λ y. Y y (around d)) x j → bodies exprs P d w (map (body_from all) j.bodies) types ≡ None
    → settle exprs P d w Y read (state types (drop at all)) ≡ Fail
not_settled P d w Y all at types read x j h e = rw (h.here, h.bodies, e) refl

pub nothing_settled : {A : Type 0} (P : Parts) (d : ℕ) (w : Option ℕ) (Y : A → Around → List Piece) (all : List Sign) (at : ℕ) (types : List TypeDecl) (read : Found A)
    → read ≡ Nothing → settle exprs P d w Y read (state types (drop at all)) ≡ Fail
nothing_settled P d w Y all at types read e = rw e refl
