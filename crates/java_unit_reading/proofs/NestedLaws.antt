-- Expressions with the anonymous classes in them: what their readers give, and when.
use Rattle.std.proofs.Common.{◌≡◌, ℕ, zero, suc, ◌≤◌, Bool, true, false, cond, List, [], ◌∷◌, map, Option, Some, None, refl, sym, ap, ◌∙◌, subst, arith}
use Rattle.std.specs.List.{AllByRecursion}
use Rattle.java_tree.specs.declared.mark.Mark.{Mark}
use Rattle.java_tree.specs.declared.mark.Mark.TheVariants as marks
use Rattle.java_tree.specs.declared.expr.ArrayInitializer.{ArrayInitializer}
use Rattle.java_tree.specs.declared.expr.Expr.{Expr}
use Rattle.java_tree.specs.declared.expr.Initializer.{Initializer}
use Rattle.java_tree.specs.declared.unit.TypeDecl.{TypeDecl}
use Rattle.java_tree.specs.declared.unit.TypePlace.TheVariants as places
use Rattle.java_model.specs.Grammar.Signs.{Sign, mark, left_brace, this, super, word, literal, stray}
use Rattle.java_model.specs.Grammar.Pieces.{Piece, token, hole, Hole, the, Around, deeper, parted}
use Rattle.java_model.specs.Grammar.Runs.{Reads, after_body, ends_expr}
use Rattle.java_model.specs.Grammar.YieldExpr.{yield_expr, yield_array, yield_initializer, yield_arguments}
use Rattle.java_model.specs.Grammar.YieldStmt.{yield_nested, yield_condition}
use Rattle.java_model.specs.Grammar.Expressions.{IsExpr, IsInitializer, value, of_array, nested}
use Rattle.java_model.specs.Grammar.Forms.{is_statement}
use Rattle.java_model.specs.Grammar.Statements.{IsStatementExpr}
use Rattle.java_model.specs.Grammar.Units.{Stage, stage, Spells, spells_nothing, spells_token, spells_type, IsTypeDecl}
use Rattle.java_model.specs.Grammar.YieldUnit.{yield_type_decl}
use Rattle.java_model.specs.Grammar.Braces.{AreAnonymous}
use Rattle.java_model.proofs.Grammar.Yield.{yield_array-parts, yield_initializer-Value, yield_initializer-Array}
use Rattle.java_model.proofs.Grammar.Runs.{alone, body_is_run}
use Rattle.java_expr_reading.specs.Shapes.{same_mark}
use Rattle.java_unit_reading.specs.Reading.Steps.{State, state, Outcome, Done, Fail, Parser, and_then, sees, sees_brace}
use Rattle.java_unit_reading.specs.Reading.Nested.{Exprs, Found, Here, Nothing, Parts, bodies_of, around, more_bodies, behind, bodies, settle, expr, array, statement_expr, initializer, condition, comma_expr, any_exprs, arguments}
use Rattle.java_unit_reading.proofs.Sounding.{Stands, stands_nothing, stands_both, stands_one, stands_as, IfDone, done, fails, then, either, weaken, sees_is, sound_expect, Sound}
use Rattle.java_unit_reading.proofs.Completing.{At, Gives, gives, Complete, Always, then_gives, first_gives, second_gives, at_end, headed, sees_same, expect_gives, part_gives, last_gives, spells_as}
use Rattle.java_unit_reading.proofs.Inside.{AreInside, inside_deeper, nested_in}
use Rattle.java_unit_reading.proofs.Commas.{EndsList, sound_commas, commas_gives}
use Rattle.java_unit_reading.proofs.Expressions.Holding.{Passes, begins_expr_with, begins_expr, OpensExpr, ExprsHold, InPlace, PartsHold}

abbrev pub EndsExpr : List Sign → Type 0
EndsExpr ts = ends_expr ts ≡ true

some_types : (xs ys : List TypeDecl) → Some xs ≡ Some ys → xs ≡ ys
some_types xs ys e = cc

none_types : (ys : List TypeDecl) → None ≡ Some ys → ⊥
none_types ys e = cc

braces_same : (m n : ℕ) (xs ys : List Sign) → (left_brace m ∷ xs) ≡ (left_brace n ∷ ys) → m ≡ n
braces_same m n xs ys e = cc

tails_same : (x y : Sign) (xs ys : List Sign) → (x ∷ xs) ≡ (y ∷ ys) → xs ≡ ys
tails_same x y xs ys e = cc

more_inv : {C : Type 0} {Q : ℕ → State → Type 0} (again : List TypeDecl → Option (List TypeDecl)) (all : List TypeDecl) {o : Outcome ℕ}
    → IfDone Q o → more_bodies again o ≡ Some all
    → ((at : ℕ) (t : State) → Q at t → again t.types ≡ Some all → C) → C
more_inv again all (done {x = x} {s = s} h) e k = k x s h e
more_inv again all fails e k = absurd (none_types all e)

stands_same : (types all : List TypeDecl) (ts us : List Sign) → ts ≡ us → types ≡ all → Stands [] (state types ts) (state all us)
stands_same types all ts us e g = subst (λ xs. Stands [] (state types ts) (state xs us)) g (subst (λ xs. Stands [] (state types ts) (state types xs)) e (stands_nothing _))

-- no mark begins an expression that begins none
pub no_sees : (m : Mark) (ts : List Sign) → begins_expr_with m ≡ false → begins_expr ts ≡ true → sees m ts ≡ false
no_sees m ts h b = by_test (sees m ts) refl
  where
    by_test : (v : Bool) → sees m ts ≡ v → sees m ts ≡ false
    by_test false e = e
    by_test true e = let f = sym h ∙ ap begins_expr (sym (sees_is m ts e)) ∙ b in absurd cc

pub done_value : {A : Type 0} (x y : A) (s t : State) → Done x s ≡ Done y t → x ≡ y
done_value x y s t e = cc

pub done_state : {A : Type 0} (x y : A) (s t : State) → Done x s ≡ Done y t → s ≡ t
done_state x y s t e = cc

here_same : {A : Type 0} (y x : A) (us : List Sign) (t : State) → y ≡ x → us ≡ t.tokens → Here y us ≡ Here x t.tokens
here_same y x us t e f = ap (λ z. Here z us) e ∙ ap (λ vs. Here x vs) f

-- a first step that was done, and what followed it
pub then_both : {A B C : Type 0} {y : B} {t : State} (o : Outcome A) (f : A → Parser B)
    → and_then o f ≡ Done y t → ((x : A) (u : State) → o ≡ Done x u → f x u ≡ Done y t → C) → C
then_both (Done x u) f e k = k x u refl e
then_both Fail f e k = absurd cc

-- a first step that was done
pub then_done : {A B C : Type 0} {y : B} {t : State} (o : Outcome A) (f : A → Parser B)
    → and_then o f ≡ Done y t → ((x : A) (u : State) → o ≡ Done x u → C) → C
then_done (Done x u) f e k = k x u refl
then_done Fail f e k = absurd cc

anonymous : (ps : List Piece) (a : Around) → AreInside a ps → AreAnonymous ps
anonymous [] a h = tt
anonymous (token x ∷ ps) a h = anonymous ps a h
anonymous (hole k ∷ ps) a h = (h.0.anonymous, anonymous ps a h.1)

module _ (E : Exprs) (P : Parts) (d : ℕ) (w : Option ℕ) (fits : d ≤ 256) (holds : ExprsHold E) (parts : PartsHold E P d) where
  bodies_stand : (ps : List Piece) (a : Around) (types all : List TypeDecl) (ts us : List Sign) → a.within ≡ w → AreInside a ps → Reads ps ts us
      → bodies E P d w (bodies_of ps ts) types ≡ Some all → Stands ps (state types ts) (state all us)
  unfolding bodies
  bodies_stand [] a types all ts us in_w h r e = stands_same types all ts us r (some_types types all e)
  bodies_stand (token x ∷ ps) a types all ts us in_w h r e =
      let e2 = subst (λ xs. bodies E P d w (bodies_of (token x ∷ ps) xs) types ≡ Some all) r.1 e in
      stands_both (stands_one x (state types ts) (state types r.0) r.1 refl) (bodies_stand ps a types all r.0 us in_w h r.2 e2)
  bodies_stand (hole k ∷ ps) a types all ts us in_w h r e =
      let e2 = subst (λ xs. bodies E P d w (bodies_of (hole k ∷ ps) xs) types ≡ Some all) r.1 e in
      let sound = parts.type_sound k.around.left places.Anonymous w (state types (left_brace k.brace ∷ r.0)) in
      more_inv (bodies E P d w (bodies_of ps (after_body r.0 zero))) all sound e2 (λ at t q again.
      let other : Hole = record k { brace = at } in
      let there = q other refl h.0.anonymous refl (h.0.within ∙ in_w) in
      let run = alone (hole other ∷ []) _ _ (h.0.anonymous, tt) (there.spells []) in
      let here = q k (braces_same k.brace at r.0 run.0 run.1) h.0.anonymous refl (h.0.within ∙ in_w) in
      let left : after_body r.0 zero ≡ t.tokens = ap (λ xs. after_body xs zero) (tails_same _ _ r.0 run.0 run.1) ∙ run.2 in
      let rest = bodies_stand ps a t.types all (after_body r.0 zero) us in_w h.1 r.2 again in
      subst (λ xs. Stands (hole k ∷ ps) (state types xs) (state all us)) (sym r.1)
      (stands_both here (subst (λ xs. Stands ps (state t.types xs) (state all us)) left rest)))

  behind_sound : {A : Type 0} {Q : A → State → Type 0} (x : A) (us : List Sign) (o : Option (List TypeDecl))
      → ((all : List TypeDecl) → o ≡ Some all → Q x (state all us)) → IfDone Q (behind x us o)
  behind_sound x us (Some all) h = done (h all refl)
  behind_sound x us None h = fails

  pub settle_sound : {A : Type 0} (Shape : A → Type 0) (Y : A → Around → List Piece) (f : Found A) (s : State)
      → ((x : A) (us : List Sign) → f ≡ Here x us → Shape x × Passes (Y x) d s.tokens us)
      → ((x : A) → Shape x → (a : Around) → AreInside a (Y x a))
      → IfDone (λ x t. Shape x × ((a : Around) → InPlace d w a → Stands (Y x a) s t)) (settle E P d w Y f s)
  settle_sound Shape Y Nothing s h k = fails
  settle_sound Shape Y (Here x us) s h k =
      let found = h x us refl in
      behind_sound x us _ (λ all e. (
        found.0,
        λ a i.
            bodies_stand (Y x a) a s.types all s.tokens us i.within (k x found.0 a) (found.1.reads a i.left)
            (subst (λ bs. bodies E P d w bs s.types ≡ Some all) (sym (found.1.bodies a i.left)) e),
      ))

  pub sound_expr : Sound (InPlace d w) (IsExpr d) (λ x a. yield_nested x a) (expr E P d w)
  unfolding expr
  sound_expr s =
      settle_sound (IsExpr d) (λ x a. yield_expr x (deeper a)) (E.expr d s.tokens) s (λ x us e. holds.expr_sound d fits x s.tokens us e)
      (λ x h a. inside_deeper a (yield_expr x (deeper a)) ((nested_in d).expr x h (deeper a)))

  pub sound_array : Sound (InPlace d w) (λ b. (nested d).braces b) (λ b a. yield_array b a) (array E P d w)
  unfolding array
  sound_array s =
      settle_sound (λ b. (nested d).braces b) yield_array (E.array d s.tokens) s (λ x us e. holds.array_sound d fits x s.tokens us e)
      (λ x h a. (nested_in d).braces x h a)

  pub sound_statement_expr : Sound (InPlace d w) (IsStatementExpr (nested d)) (λ x a. yield_nested x a) (statement_expr E P d w)
  unfolding statement_expr
  sound_statement_expr s = then (sound_expr s) (λ x t h. either (is_statement x) (λ e. done ((h.0, e), h.1)) (λ e. fails))

  pub sound_initializer : Sound (InPlace d w) (IsInitializer (nested d)) (λ i a. yield_initializer i a) (initializer E P d w)
  unfolding initializer
  sound_initializer s =
      either (sees_brace s.tokens)
      (λ e. then (sound_array s) (λ b t h. done (of_array b refl h.0, λ a i. stands_as (sym (yield_initializer-Array b a)) (h.1 a i))))
      (λ e. then (sound_expr s) (λ x t h. done (value x refl h.0, λ a i. stands_as (sym (yield_initializer-Value x a)) (h.1 a i))))

  pub sound_condition : Sound (InPlace d w) (IsExpr d) (λ x a. yield_condition x a) (condition E P d w)
  unfolding condition
  sound_condition s =
      then (sound_expect marks.LeftParen s) (λ _ t g. then (sound_expr t) (λ x u h. then (sound_expect marks.RightParen u) (λ _ v k.
      done (h.0, λ a i. stands_both g (stands_both (h.1 a i) k)))))

  pub sound_any_exprs : Sound (InPlace d w) (AllByRecursion (IsExpr d)) (λ xs a. parted (map yield_expr xs) (deeper a)) (any_exprs E P d w)
  unfolding any_exprs comma_expr
  sound_any_exprs s =
      either (sees marks.RightParen s.tokens) (λ e. done (tt, λ a i. stands_nothing s))
      (λ e. weaken (sound_commas (InPlace d w) (IsExpr d) yield_expr deeper (expr E P d w) sound_expr s) (λ xs t h. (h.0.1, h.1)))

  pub sound_arguments : Sound (InPlace d w) (AllByRecursion (IsExpr d)) (λ xs a. yield_arguments (map yield_expr xs) a) (arguments E P d w)
  unfolding arguments
  sound_arguments s =
      then (sound_expect marks.LeftParen s) (λ _ t g. then (sound_any_exprs t) (λ xs u h. then (sound_expect marks.RightParen u) (λ _ v k.
      done (h.0, λ a i. stands_both g (stands_both (h.1 a i) k)))))

  -- ---- complete

  pub record BodiesGive (ps : List Piece) (total types : List TypeDecl) (ts : List Sign) (q : Stage) : Type 0 where
    pub all : List TypeDecl
    pub is : bodies E P d w (bodies_of ps ts) types ≡ Some all
    pub at : At total (state all q.tokens) q

  bodies_give_at : (ps : List Piece) (total types : List TypeDecl) (ts us : List Sign) (q : Stage)
      → us ≡ ts → BodiesGive ps total types us q → BodiesGive ps total types ts q
  bodies_give_at ps total types ts us q e h = subst (λ xs. BodiesGive ps total types xs q) e h

  one_type : (h : Hole) (p q : Stage) (c : TypeDecl) (more : List TypeDecl) → p.types ≡ c ∷ more → IsTypeDecl h c
      → Spells (yield_type_decl p.number h c) (stage (suc p.number) more p.tokens) q → Spells (hole h ∷ []) p q
  one_type h p q c more e shape g = spells_type h [] c more p q q e shape g (spells_nothing q)

  bodies_give : (ps : List Piece) (a : Around) (total types : List TypeDecl) (p q : Stage) → a.within ≡ w
      → a.left ≤ d → AreInside a ps → Spells ps p q
      → At total (state types p.tokens) p → BodiesGive ps total types p.tokens q
  unfolding bodies
  bodies_give [] a total types p q in_w below h (spells_nothing _) at = record { all = types; is = refl; at = at }
  bodies_give (token x ∷ ps) a total types p q in_w below h (spells_token _ _ ts _ _ e g) at =
      let rest = bodies_give ps a total types _ q in_w below h g (record { tokens = refl; number = at.number; whole = at.whole }) in
      record { all = rest.all; is = ap (λ xs. bodies E P d w (bodies_of (token x ∷ ps) xs) types) e ∙ rest.is; at = rest.at }
  bodies_give (hole k ∷ ps) a total types p q in_w below h (spells_type _ _ c more _ m _ e shape g rest) at =
      let run = body_is_run p.number k c _ m h.0.anonymous shape g in
      let one = parts.type_complete k (omega (arith, h.0.left)) total (state types p.tokens) p m at (one_type k p m c more e shape g) tt in
      let here : P.type k.around.left places.Anonymous w (state types p.tokens) ≡ Done k.brace one.end =
      ap (λ v. P.type k.around.left places.Anonymous v (state types p.tokens)) (sym (h.0.within ∙ in_w)) ∙ ap (λ v. P.type k.around.left v k.around.within (state types p.tokens)) (sym h.0.anonymous) ∙ one.is in
      let others = bodies_give ps a total one.end.types m q in_w below h.1 rest (record { tokens = refl; number = one.at.number; whole = one.at.whole }) in
      bodies_give_at (hole k ∷ ps) total types p.tokens (left_brace k.brace ∷ run.0) q (sym run.1)
      (record {
        all = others.all;
        is = ap (λ ts. more_bodies (bodies E P d w (bodies_of ps (after_body run.0 zero))) (P.type k.around.left places.Anonymous w (state types ts))) (sym run.1)
            ∙ ap (more_bodies (bodies E P d w (bodies_of ps (after_body run.0 zero)))) here
            ∙ ap (λ ts. bodies E P d w (bodies_of ps ts) one.end.types) run.2 ∙ others.is;
        at = others.at;
      })

  pub settle_gives : {A : Type 0} (Y : A → Around → List Piece) (x : A) (a : Around) (total : List TypeDecl) (s : State) (from to : Stage) (f : Found A)
      → f ≡ Here x to.tokens → Passes (Y x) d s.tokens to.tokens → AreInside a (Y x a) → InPlace d w a
      → At total s from → Spells (Y x a) from to → Gives total x to (settle E P d w Y f s)
  settle_gives Y x a total s from to f is passes inside i at g =
      let all = bodies_give (Y x a) a total s.types from to i.within (omega (arith, i.left)) inside g (record { tokens = refl; number = at.number; whole = at.whole }) in
      record {
        end = state all.all to.tokens;
        at = all.at;
        is = ap (λ v. settle E P d w Y v s) is ∙ ap (λ bs. behind x to.tokens (bodies E P d w bs s.types)) (sym (passes.bodies a i.left))
            ∙ ap (λ ts. behind x to.tokens (bodies E P d w (bodies_of (Y x a) ts) s.types)) at.tokens ∙ ap (behind x to.tokens) all.is;
      }

  pub reads_at : (ps : List Piece) (a : Around) (total : List TypeDecl) (s : State) (from to : Stage)
      → AreInside a ps → At total s from → Spells ps from to → Reads ps s.tokens to.tokens
  reads_at ps a total s from to h at g = subst (λ ts. Reads ps ts to.tokens) (sym at.tokens) (alone ps from to (anonymous ps a h) g)

  pub expr_gives : (x : Expr) (a : Around) → IsExpr d x → InPlace d w a → Complete (expr E P d w) (yield_nested x a) x EndsExpr
  unfolding expr
  expr_gives x a h i total s from to at g follow =
      let inside = inside_deeper a (yield_expr x (deeper a)) ((nested_in d).expr x h (deeper a)) in
      let here = holds.expr_complete d fits x a s.tokens to.tokens h i.left (reads_at _ a total s from to inside at g) follow in
      settle_gives (λ y b. yield_expr y (deeper b)) x a total s from to (E.expr d s.tokens) here (holds.expr_sound d fits x s.tokens to.tokens here).1 inside i at g

  pub array_gives : (x : ArrayInitializer) (a : Around) → (nested d).braces x → InPlace d w a → Complete (array E P d w) (yield_array x a) x EndsExpr
  unfolding array
  array_gives x a h i total s from to at g follow =
      let inside = (nested_in d).braces x h a in
      let here = holds.array_complete d fits x a s.tokens to.tokens h i.left (reads_at _ a total s from to inside at g) follow in
      settle_gives yield_array x a total s from to (E.array d s.tokens) here (holds.array_sound d fits x s.tokens to.tokens here).1 inside i at g

  -- what an expression begins with
  pub settle_found : {A : Type 0} (Y : A → Around → List Piece) (f : Found A) (s t : State) (x : A)
      → settle E P d w Y f s ≡ Done x t → f ≡ Here x t.tokens
  settle_found Y Nothing s t x e = absurd cc
  settle_found Y (Here y us) s t x e = by_behind (bodies E P d w (bodies_of (Y y (around d)) s.tokens) s.types) e
    where
      by_behind : (o : Option (List TypeDecl)) → behind y us o ≡ Done x t → Here y us ≡ Here x t.tokens
      by_behind (Some all) h = here_same y x us t (done_value y x (state all us) t h) (ap (λ v. v.tokens) (done_state y x (state all us) t h))
      by_behind None h = absurd cc

  pub expr_found : (s t : State) (x : Expr) → expr E P d w s ≡ Done x t → E.expr d s.tokens ≡ Here x t.tokens
  unfolding expr
  expr_found s t x e = settle_found (λ y b. yield_expr y (deeper b)) (E.expr d s.tokens) s t x e

  pub expr_opens : (s t : State) (x : Expr) → expr E P d w s ≡ Done x t → OpensExpr s.tokens
  expr_opens s t x e = holds.expr_opens d fits x s.tokens t.tokens (expr_found s t x e)

  pub statement_expr_found : (s t : State) (x : Expr) → statement_expr E P d w s ≡ Done x t → expr E P d w s ≡ Done x t
  unfolding statement_expr
  statement_expr_found s t x e = then_both (expr E P d w s) _ e (λ y u f r. f ∙ by_test y u (is_statement y) r)
    where
      by_test : (y : Expr) (u : State) (b : Bool) → cond b (Done y u) Fail ≡ Done x t → Done y u ≡ Done x t
      by_test y u true r = r
      by_test y u false r = absurd cc

  pub statement_expr_gives : (x : Expr) (a : Around) → IsStatementExpr (nested d) x → InPlace d w a
      → Complete (statement_expr E P d w) (yield_nested x a) x EndsExpr
  unfolding statement_expr
  statement_expr_gives x a h i total s from to at g follow =
      last_gives (expr E P d w) (yield_nested x a) EndsExpr _ (expr_gives x a h.0 i) at g follow (λ t at2. first_gives (is_statement x) _ _ h.1 (gives t at2))

  array_comes : (x : ArrayInitializer) (a : Around) {p q : Stage} → Spells (yield_array x a) p q → sees_brace p.tokens ≡ true
  array_comes x a {p = p} {q = q} g = headed (λ ts. sees_brace ts ≡ true) (left_brace x.brace) _ p q (λ ts. refl) (spells_as (yield_array-parts x a) g)

  no_brace : (ts : List Sign) → begins_expr ts ≡ true → sees_brace ts ≡ false
  no_brace [] h = refl
  no_brace (left_brace at ∷ ts) h = absurd cc
  no_brace (mark m ∷ ts) h = refl
  no_brace (this s ∷ ts) h = refl
  no_brace (super s ∷ ts) h = refl
  no_brace (word i ∷ ts) h = refl
  no_brace (literal l ∷ ts) h = refl
  no_brace (stray ∷ ts) h = refl

  pub initializer_gives : (x : Initializer) (a : Around) → IsInitializer (nested d) x → InPlace d w a
      → Complete (initializer E P d w) (yield_initializer x a) x EndsExpr
  unfolding initializer
  initializer_gives x a (value y e h) i total s from to at g follow =
      let g2 = spells_as (ap (λ z. yield_initializer z a) e ∙ yield_initializer-Value y a) g in
      let found = expr_gives y a h i total s from to at g2 follow in
      subst (λ z. Gives total z to (initializer E P d w s)) (sym e)
      (second_gives (sees_brace s.tokens) _ _ (no_brace s.tokens (expr_opens s found.end y found.is).begins) (then_gives _ _ found (λ t at2. gives t at2)))
  initializer_gives x a (of_array y e h) i total s from to at g follow =
      let g2 = spells_as (ap (λ z. yield_initializer z a) e ∙ yield_initializer-Array y a) g in
      subst (λ z. Gives total z to (initializer E P d w s)) (sym e)
      (first_gives (sees_brace s.tokens) _ _ (ap sees_brace at.tokens ∙ array_comes y a g2) (last_gives (array E P d w) (yield_array y a) EndsExpr _ (array_gives y a h i) at g2 follow (λ t at2. gives t at2)))

  -- what follows a part
  pub ends_before : (m : Mark) (ps : List Piece) (p q : Stage) → ends_expr (mark m ∷ []) ≡ true → Spells (the m ∷ ps) p q → EndsExpr p.tokens
  ends_before m ps p q h g = headed EndsExpr (mark m) ps p q (λ ts. h) g

  pub condition_gives : (x : Expr) (a : Around) → IsExpr d x → InPlace d w a → Complete (condition E P d w) (yield_condition x a) x Always
  unfolding condition
  condition_gives x a h i total s from to at g follow =
      expect_gives marks.LeftParen _ _ at g (λ t mid at2 r.
      part_gives (expr E P d w) (yield_nested x a) (the marks.RightParen ∷ []) EndsExpr _ (expr_gives x a h i) at2 r (λ p l. ends_before marks.RightParen [] p to refl l) (λ u mid2 at3 l.
      expect_gives marks.RightParen [] _ at3 l (λ v mid3 at4 last. gives v (at_end at4 last))))

  pub comma_ends : (ts : List Sign) → sees marks.Comma ts ≡ true → EndsExpr ts
  comma_ends ts h = subst EndsExpr (sym (sees_is marks.Comma ts h)) refl

  -- `)` comes next
  abbrev pub Closes : List Sign → Type 0
  Closes ts = sees marks.RightParen ts ≡ true

  closes_ends : (ts : List Sign) → Closes ts → EndsList EndsExpr ts
  unfolding sees same_mark
  closes_ends ts h = subst (EndsList EndsExpr) (sym (sees_is marks.RightParen ts h)) (refl, refl)

  pub arguments_end : (xs : List Expr) (a : Around) (p q : Stage) → Spells (the marks.RightParen ∷ []) p q → Closes p.tokens
  arguments_end xs a p q g = headed Closes (mark marks.RightParen) [] p q (sees_same marks.RightParen) g

  pub any_exprs_gives : (xs : List Expr) (a : Around) → AllByRecursion (IsExpr d) xs → InPlace d w a
      → Complete (any_exprs E P d w) (parted (map yield_expr xs) (deeper a)) xs Closes
  unfolding any_exprs comma_expr
  any_exprs_gives [] a h i total s from to at g follow =
      first_gives (sees marks.RightParen s.tokens) _ _ (ap (sees marks.RightParen) (at_end at g).tokens ∙ follow) (gives s (at_end at g))
  any_exprs_gives (x ∷ xs) a h i total s from to at g follow =
      let found = commas_gives (InPlace d w) (IsExpr d) yield_expr deeper (expr E P d w) EndsExpr (λ y b k j. expr_gives y b k j) comma_ends x xs a h i total s from to at g (closes_ends to.tokens follow) in
      second_gives (sees marks.RightParen s.tokens) _ _
      (then_done (expr E P d w s) _ found.is (λ y t e. no_sees marks.RightParen s.tokens refl (expr_opens s t y e).begins)) found

  pub arguments_gives : (xs : List Expr) (a : Around) → AllByRecursion (IsExpr d) xs → InPlace d w a
      → Complete (arguments E P d w) (yield_arguments (map yield_expr xs) a) xs Always
  unfolding arguments
  arguments_gives xs a h i total s from to at g follow =
      expect_gives marks.LeftParen _ _ at g (λ t mid at2 r.
      part_gives (any_exprs E P d w) (parted (map yield_expr xs) (deeper a)) (the marks.RightParen ∷ []) Closes _ (any_exprs_gives xs a h i) at2 r (λ p l. arguments_end xs a p to l) (λ u mid2 at3 l.
      expect_gives marks.RightParen [] _ at3 l (λ v mid3 at4 last. gives v (at_end at4 last))))
