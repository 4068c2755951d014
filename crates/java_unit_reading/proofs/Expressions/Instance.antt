-- What java_expr_reading proves of its readers, as units ask it.
use Rattle.std.proofs.Common.{◌≡◌, ℕ, zero, ◌-◌, ◌≤◌, true, false, List, [], ◌∷◌, ◌++◌, drop, map, Some, refl, sym, ap, ◌∙◌, subst, append_assoc, arith}
use Rattle.std.proofs.lemmas.List.{append-nil, append_cancel_left}
use Rattle.java_tree.specs.declared.mark.Mark.TheVariants as marks
use Rattle.java_tree.specs.declared.expr.ArrayInitializer.{ArrayInitializer}
use Rattle.java_tree.specs.declared.expr.Expr.{Expr}
use Rattle.java_tree.specs.declared.expr.Primary.{Primary}
use Rattle.java_model.specs.Grammar.Signs.{Sign, mark, left_brace, this, super, word, literal, stray}
use Rattle.java_model.specs.Grammar.Pieces.{Piece, token, hole, Hole, Around, less, deeper}
use Rattle.java_model.specs.Grammar.Runs.{Reads, after_body, ends_expr}
use Rattle.java_model.specs.Grammar.YieldExpr.{yield_expr, yield_array, yield_primary}
use Rattle.java_model.specs.Grammar.Expressions.{IsExpr, IsPrimary, nested}
use Rattle.java_expr_reading.specs.Input.{Input, Outcome, Done, Fail, sign, next, past_body, shape}
use Rattle.java_expr_reading.specs.Reading.Operators.{ends_by}
use Rattle.java_expr_reading.specs.Reading.Expressions.{read_nest, read_goal, read_qualifier, sees_super_call}
use Rattle.java_expr_reading.specs.declared.parsed.Goal.TheVariants as goals
use Rattle.java_expr_reading.specs.declared.parsed.PendingBody.{PendingBody}
use Rattle.java_expr_reading.proofs.Taken.{Fit}
use Rattle.java_expr_reading.proofs.ExprSound.{nest-sound}
use Rattle.java_expr_reading.proofs.ExprComplete.{nest-complete}
use Rattle.java_expr_reading.proofs.Places.{IsAt, fit-reads, reads-taken, fit-leaves, sign-is}
use Rattle.java_expr_reading.proofs.GoalLaws.{read_expr-sound, read_expr-complete, read_primary-sound, read_primary-complete, goal_ends, ends-rest, read_goal-parts, read_goal-from, read_qualifier-parts, read_qualifier-from, super_call_ends}
use Rattle.java_unit_reading.specs.Reading.Nested.{Here, Body, bodies_of, around}
use Rattle.java_unit_reading.specs.Reading.Expressions.{input, found, exprs}
use Rattle.java_unit_reading.specs.Bodies.{body_from}
use Rattle.java_tree.specs.declared.token.Span.{Span}
use Rattle.java_expr_reading.specs.Shapes.{same_mark}
use Rattle.java_expr_reading.specs.Input.{sees as seen_by}
use Rattle.java_unit_reading.specs.Reading.Steps.{sees, tail}
use Rattle.java_unit_reading.specs.Reading.Members.{sees_super, begins_super_call}
use Rattle.java_unit_reading.proofs.Sounding.{sees_is}
use Rattle.java_unit_reading.proofs.WordLaws.{and_left, and_right}
use Rattle.java_unit_reading.specs.Reading.Statements.{begins_label}
use Rattle.java_unit_reading.proofs.Expressions.Holding.{Passes, OpensExpr, ExprsHold}
use Rattle.java_unit_reading.proofs.Expressions.Alone.{no_expr}
use Rattle.java_unit_reading.proofs.Expressions.Opens.{expr_opens, primary_opens, primary_labels_nothing}

pub record Bodies (all : List Sign) (ps : List Piece) (i j : Input) : Type 0 where
  pub news : List PendingBody
  pub more : j.bodies ≡ i.bodies ++ news
  pub are : bodies_of ps i.rest ≡ map (body_from all) news

next_bodies : (i : Input) → (next i).bodies ≡ i.bodies
unfolding next
next_bodies i = refl

next_rest : (i : Input) → (next i).rest ≡ drop 1 i.rest
unfolding next
next_rest i = refl

at_next : (all : List Sign) (s : Sign) (i : Input) → IsAt all i → sign i ≡ Some s → IsAt all (next i)
at_next all s i at e = let l = fit-leaves all (token s ∷ []) i (next i) at (e, refl) in let k = l.1 in k.there

at_past : (all : List Sign) (h : Hole) (i : Input) → IsAt all i → sign i ≡ Some (left_brace h.brace)
    → h.around.left ≤ 256 → IsAt all (past_body h.around.left i)
at_past all h i at e fits = let l = fit-leaves all (hole h ∷ []) i (past_body h.around.left i) at (e, fits, refl) in let k = l.1 in k.there

one_body : (h : Hole) (i : Input) (all : List Sign) → IsAt all i → h.around.left ≤ 256
    → (b : PendingBody) × ((past_body h.around.left i).bodies ≡ i.bodies ++ b ∷ []) × (body_from all b ≡ record { left = h.around.left; tokens = i.rest })
unfolding past_body
one_body h i all at fits =
    let back : 256 - (256 - h.around.left) ≡ h.around.left = omega arith in
    (_, refl, ap (λ n. record { left = n; tokens = drop i.at all }) back ∙ ap (λ ts. record { left = h.around.left; tokens = ts }) (sym at.rest))

past_rest : (h : Hole) (i : Input) → (past_body h.around.left i).rest ≡ after_body (drop 1 i.rest) zero
unfolding past_body
past_rest h i = refl

pub bodies_are : (all : List Sign) (ps : List Piece) (i j : Input) → IsAt all i → Fit ps i j → Bodies all ps i j
bodies_are all [] i j at h = record { news = []; more = sym (ap (λ k. k.bodies) h) ∙ sym (append-nil i.bodies); are = refl }
bodies_are all (token s ∷ ps) i j at h =
    let rest = bodies_are all ps (next i) j (at_next all s i at h.0) h.1 in
    record {
      news = rest.news;
      more = rest.more ∙ ap (λ bs. bs ++ rest.news) (next_bodies i);
      are = ap (bodies_of (token s ∷ ps)) (sign-is i s h.0) ∙ ap (bodies_of ps) (sym (next_rest i)) ∙ rest.are;
    }
bodies_are all (hole k ∷ ps) i j at h =
    let one = one_body k i all at h.1 in
    let rest = bodies_are all ps (past_body k.around.left i) j (at_past all k i at h.0 h.1) h.2 in
    record {
      news = one.0 ∷ rest.news;
      more = rest.more ∙ ap (λ bs. bs ++ rest.news) one.1 ∙ append_assoc i.bodies (one.0 ∷ []) rest.news;
      are = ap (bodies_of (hole k ∷ ps)) (sign-is i (left_brace k.brace) h.0)
          ∙ ap (λ ts. record { left = k.around.left; tokens = ts } ∷ bodies_of ps (after_body (drop 1 i.rest) zero)) (sym (sign-is i (left_brace k.brace) h.0))
          ∙ ap (λ ts. record { left = k.around.left; tokens = i.rest } ∷ bodies_of ps ts) (sym (past_rest k i))
          ∙ ap (λ bs. record { left = k.around.left; tokens = i.rest } ∷ bs) rest.are
          ∙ ap (λ b. b ∷ map (body_from all) rest.news) (sym one.2);
    }

start_at : (ts : List Sign) → IsAt ts (input ts)
start_at ts = record { rest = refl; within = omega arith }

pass : (Y : Around → List Piece) (d : ℕ) (ts : List Sign) (j : Input) → ((a : Around) → a.left ≡ d → Fit (Y a) (input ts) j) → Passes Y d ts j.rest
pass Y d ts j f = record {
  reads = λ a e. fit-reads (Y a) (input ts) j (f a e);
  bodies = λ a e.
      let one = bodies_are ts (Y a) (input ts) j (start_at ts) (f a e) in
      let two = bodies_are ts (Y (around d)) (input ts) j (start_at ts) (f (around d) refl) in
      one.are ∙ ap (map (body_from ts)) (append_cancel_left [] one.news two.news (sym one.more ∙ two.more)) ∙ sym two.are;
}

here_tree : {A : Type 0} (x y : A) (us vs : List Sign) → Here x us ≡ Here y vs → x ≡ y
here_tree x y us vs e = cc

here_rest : {A : Type 0} (x y : A) (us vs : List Sign) → Here x us ≡ Here y vs → us ≡ vs
here_rest x y us vs e = cc

-- a tree that was found, in continuation style
pub from_found : {A C : Type 0} (o : Outcome A) (x : A) (us : List Sign) → found o ≡ Here x us → ((j : Input) → o ≡ Done x j → j.rest ≡ us → C) → C
from_found Fail x us e k = absurd cc
from_found (Done y j) x us e k = k j (ap (λ z. Done z j) (here_tree y x j.rest us e)) (here_rest y x j.rest us e)

instance_expr_sound : (d : ℕ) → d ≤ 256 → (x : Expr) (ts us : List Sign) → exprs.expr d ts ≡ Here x us
    → IsExpr d x × Passes (λ a. yield_expr x (deeper a)) d ts us
unfolding exprs
instance_expr_sound d fits x ts us e =
    from_found (read_goal goals.Any d (input ts)) x us e (λ j r rest.
    let parts = read_goal-parts goals.Any d x (input ts) j r in
    let read = read_expr-sound d fits x (input ts) j parts.read in
    (read.shape, subst (Passes (λ a. yield_expr x (deeper a)) d ts) rest (pass (λ a. yield_expr x (deeper a)) d ts j (λ a l. read.taken (deeper a) (ap less l)))))

instance_expr_complete : (d : ℕ) → d ≤ 256 → (x : Expr) (a : Around) (ts us : List Sign) → IsExpr d x
    → a.left ≡ d → Reads (yield_expr x (deeper a)) ts us → ends_expr us ≡ true → exprs.expr d ts ≡ Here x us
unfolding exprs
instance_expr_complete d fits x a ts us h l r e =
    reads-taken (yield_expr x (deeper a)) (input ts) us r (λ j t rest.
    let ends : ends_by (shape j) ≡ true = sym (ends-rest j) ∙ ap ends_expr rest ∙ e in
    let read = read_expr-complete d x (deeper a) (input ts) j (ap less l) h t (goal_ends j ends) in
    ap found (read_goal-from goals.Any d x (input ts) j read ends refl) ∙ ap (λ vs. Here x vs) rest)

instance_array_sound : (d : ℕ) → d ≤ 256 → (x : ArrayInitializer) (ts us : List Sign)
    → exprs.array d ts ≡ Here x us → (nested d).braces x × Passes (yield_array x) d ts us
unfolding exprs
instance_array_sound d fits x ts us e =
    from_found ((read_nest d).braces (input ts)) x us e (λ j r rest.
    let known = nest-sound d fits in
    let read = known.braces x (input ts) j r in
    (read.shape, subst (Passes (yield_array x) d ts) rest (pass (yield_array x) d ts j read.taken)))

instance_array_complete : (d : ℕ) → d ≤ 256 → (x : ArrayInitializer) (a : Around) (ts us : List Sign)
    → (nested d).braces x → a.left ≡ d → Reads (yield_array x a) ts us → ends_expr us ≡ true
    → exprs.array d ts ≡ Here x us
unfolding exprs
instance_array_complete d fits x a ts us h l r e =
    reads-taken (yield_array x a) (input ts) us r (λ j t rest.
    let known = nest-complete d in
    ap found (known.braces x a (input ts) j l h t) ∙ ap (λ vs. Here x vs) rest)

instance_primary_sound : (d : ℕ) → d ≤ 256 → (x : Primary) (ts us : List Sign)
    → exprs.primary d ts ≡ Here x us → IsPrimary (nested d) x × Passes (yield_primary x) d ts us
unfolding exprs
instance_primary_sound d fits x ts us e =
    from_found (read_qualifier d (input ts)) x us e (λ j r rest.
    let parts = read_qualifier-parts d x (input ts) j r in
    let read = read_primary-sound d fits x (input ts) j parts.read in
    (read.shape, subst (Passes (yield_primary x) d ts) rest (pass (yield_primary x) d ts j read.taken)))

-- `.` `super` `(`, in tokens and in an input
call_seen : (s : Span) (ts : List Sign) (at : ℕ) (bs : List PendingBody)
    → sees_super_call (record { rest = mark marks.Dot ∷ super s ∷ mark marks.LeftParen ∷ ts; at = at; bodies = bs }) ≡ true
unfolding sees_super_call seen_by sign next same_mark
call_seen s ts at bs = refl

super_is : (ts : List Sign) → sees_super ts ≡ true → (s : Span) × (ts ≡ super s ∷ tail ts)
super_is [] h = absurd cc
super_is (super s ∷ ts) h = (s, refl)
super_is (mark m ∷ ts) h = absurd cc
super_is (left_brace b ∷ ts) h = absurd cc
super_is (this s ∷ ts) h = absurd cc
super_is (word i ∷ ts) h = absurd cc
super_is (literal l ∷ ts) h = absurd cc
super_is (stray ∷ ts) h = absurd cc

call_there : (j : Input) (us : List Sign) → j.rest ≡ us → begins_super_call us ≡ true → sees_super_call j ≡ true
call_there j us e h =
    let a = and_left (sees marks.Dot us) _ h in
    let b = and_right (sees marks.Dot us) _ h in
    let c = and_left (sees_super (tail us)) _ b in
    let d = and_right (sees_super (tail us)) _ b in
    let s = super_is (tail us) c in
    let form : us ≡ mark marks.Dot ∷ super s.0 ∷ mark marks.LeftParen ∷ tail (tail (tail us)) =
    sees_is marks.Dot us a ∙ ap (λ xs. mark marks.Dot ∷ xs) (s.1 ∙ ap (λ xs. super s.0 ∷ xs) (sees_is marks.LeftParen (tail (tail us)) d)) in
    ap (λ xs. sees_super_call (record { rest = xs; at = j.at; bodies = j.bodies })) (e ∙ form) ∙ call_seen s.0 _ j.at j.bodies

instance_primary_complete : (d : ℕ) → d ≤ 256 → (x : Primary) (a : Around) (ts us : List Sign)
    → IsPrimary (nested d) x → a.left ≡ d → Reads (yield_primary x a) ts us → begins_super_call us ≡ true
    → exprs.primary d ts ≡ Here x us
unfolding exprs
instance_primary_complete d fits x a ts us h l r e =
    reads-taken (yield_primary x a) (input ts) us r (λ j t rest.
    let call = call_there j us rest e in
    let read = read_primary-complete d x a (input ts) j l h t (super_call_ends j call) in
    ap found (read_qualifier-from d x (input ts) j read call) ∙ ap (λ vs. Here x vs) rest)

instance_expr_opens : (d : ℕ) → d ≤ 256 → (x : Expr) (ts us : List Sign) → exprs.expr d ts ≡ Here x us → OpensExpr ts
unfolding exprs
instance_expr_opens d fits x ts us e =
    from_found (read_goal goals.Any d (input ts)) x us e (λ j r rest.
    let parts = read_goal-parts goals.Any d x (input ts) j r in
    expr_opens d x ts j parts.read parts.ends)

instance_primary_opens : (d : ℕ) → d ≤ 256 → (x : Primary) (ts us : List Sign)
    → exprs.primary d ts ≡ Here x us → begins_super_call us ≡ true → OpensExpr ts × (begins_label ts ≡ false)
unfolding exprs
instance_primary_opens d fits x ts us e h =
    from_found (read_qualifier d (input ts)) x us e (λ j r rest.
    let parts = read_qualifier-parts d x (input ts) j r in
    (primary_opens d x ts j parts.read parts.ends, primary_labels_nothing d x ts j parts.read parts.ends))

instance_primary_alone : (d e : ℕ) → d ≤ 256 → e ≤ 256 → (x : Primary) (y : Expr) (ts us vs : List Sign)
    → exprs.primary d ts ≡ Here x us → begins_super_call us ≡ true → exprs.expr e ts ≡ Here y vs → ⊥
unfolding exprs
instance_primary_alone d e fits low x y ts us vs h b g =
    from_found (read_qualifier d (input ts)) x us h (λ j r rest.
    from_found (read_goal goals.Any e (input ts)) y vs g (λ l q behind.
    let one = read_qualifier-parts d x (input ts) j r in
    let two = read_goal-parts goals.Any e y (input ts) l q in
    no_expr d x (input ts) j one.read one.ends fits e y l two.read two.ends))

-- java_expr_reading's readers keep all that is asked of them.
pub exprs_hold : ExprsHold exprs
exprs_hold = record {
  expr_sound = instance_expr_sound;
  expr_complete = instance_expr_complete;
  expr_opens = instance_expr_opens;
  array_sound = instance_array_sound;
  array_complete = instance_array_complete;
  primary_sound = instance_primary_sound;
  primary_complete = instance_primary_complete;
  primary_opens = instance_primary_opens;
  primary_alone = instance_primary_alone;
}
