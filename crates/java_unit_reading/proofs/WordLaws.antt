-- Names, types and modifiers: what their readers give, and when.
use Rattle.std.proofs.Common.{◌≡◌, ℕ, zero, suc, ◌+◌, ◌<◌, Bool, true, false, ◌&&◌, cond, List, [], ◌∷◌, ◌++◌, length, Option, Some, None, IfSome, refl, sym, ap, ◌∙◌, subst, arith}
use Rattle.std.specs.List.{AllByRecursion}
use Rattle.std.proofs.lemmas.List.{append-nil}
use Rattle.java_tree.specs.declared.mark.Mark.{Mark}
use Rattle.java_tree.specs.declared.mark.Mark.TheVariants as marks
use Rattle.java_tree.specs.declared.names.ElementType.{ElementType}
use Rattle.java_tree.specs.declared.names.ElementType.TheVariants as elements
use Rattle.java_tree.specs.declared.names.Ident.{Ident}
use Rattle.java_tree.specs.declared.names.Modifier.{Modifier}
use Rattle.java_tree.specs.declared.names.Primitive.{Primitive}
use Rattle.java_tree.specs.declared.names.TypeUse.{TypeUse}
use Rattle.java_model.specs.Grammar.Signs.{Sign, mark, left_brace, this, super, word, literal, stray, primitive_mark, modifier_mark}
use Rattle.java_model.specs.Grammar.Pieces.{Piece, token, the, Around, dotted as yield_dotted, yield_name, names_behind, yield_names, yield_dims, yield_element, yield_type}
use Rattle.java_model.specs.Grammar.Forms.{IsNonEmpty}
use Rattle.java_model.specs.Grammar.Expressions.{IsElement, IsType}
use Rattle.java_model.specs.Grammar.Units.{AreNames, Stage, Spells, spells_nothing}
use Rattle.java_model.specs.Grammar.YieldUnit.{yield_clause, yield_modifiers}
use Rattle.java_model.proofs.Grammar.Readings.{primitive_of-mark, primitive_mark-of, modifier_of-mark, modifier_mark-of}
use Rattle.java_model.proofs.Grammar.Reads.{spells_token_of}
use Rattle.java_tree.specs.declared.unit.TypeDecl.{TypeDecl}
use Rattle.java_expr_reading.specs.Shapes.{same_mark}
use Rattle.java_unit_reading.specs.Reading.Steps.{State, Outcome, Done, Fail, Parser, and_then, pure, sees, tail, next, eat, introduced, unless}
use Rattle.java_unit_reading.specs.Reading.Words.{is_word, is_dotted, dotted, name, comma_name, names, clause, dims_from, dims, primitive_at, element_by, element, type_use, modifier_at, modifier_by, modifier, modifiers}
use Rattle.java_unit_reading.proofs.Sounding.{Stands, stands_nothing, stands_both, stands_one, stands_as, IfDone, done, fails, then, either, weaken, sees_is, sound_expect, sound_identifier, Sound, Everywhere, Whatever}
use Rattle.java_unit_reading.proofs.Completing.{At, Gives, gives, Complete, Always, then_gives, first_gives, second_gives, at_end, at_next, headed, sees_next, expect_gives, expect_gives_behind, word_gives, part_gives, last_gives, spells_as}
use Rattle.java_unit_reading.proofs.Listing.{spread, stays, ItemStands, sound_many, behind_item, many_gives}

-- ---- what a mark introduces

pub sound_introduced : {A : Type 0} (In : Around → Type 0) (P : A → Type 0) (Y : A → Around → List Piece) (m : Mark) (p : Parser A) → Sound In P Y p
    → (s : State) → IfDone (ItemStands In P (λ x a. the m ∷ Y x a) s) (introduced m p s)
sound_introduced In P Y m p h s =
    either (sees m s.tokens)
    (λ seen. then (sound_expect m s) (λ _ t g. then (h t) (λ x u k. done (k.0, λ a inside. stands_both g (k.1 a inside)))))
    (λ unseen. done (stands_nothing s))

pub introduced_stops : {A : Type 0} (m : Mark) (p : Parser A) (s : State) → sees m s.tokens ≡ false → introduced m p s ≡ Done None s
introduced_stops m p s h = rw h

pub introduced_gives : {A : Type 0} (m : Mark) (p : Parser A) (ps : List Piece) (x : A) (F : List Sign → Type 0)
    → Complete p ps x F → Complete (introduced m p) (the m ∷ ps) (Some x) F
introduced_gives m p ps x F c total s from to at g follow =
    first_gives (sees m s.tokens) _ _ (sees_next m ps at g)
    (expect_gives m ps _ at g (λ t mid at2 r. last_gives p ps F _ c at2 r follow (λ u at3. gives u at3)))

not_none : {A : Type 0} (x : A) (s t : State) → Done None s ≡ Done (Some x) t → ⊥
not_none x s t e = cc

pub introduced_sees : {A : Type 0} (m : Mark) (p : Parser A) (x : A) (s t : State) → introduced m p s ≡ Done (Some x) t → sees m s.tokens ≡ true
introduced_sees m p x s t e = by_test (sees m s.tokens) _ e
  where
    by_test : (b : Bool) (o : Outcome _) → cond b o (Done None s) ≡ Done (Some x) t → b ≡ true
    by_test true o h = refl
    by_test false o h = absurd (not_none x s t h)

pub all_whatever : {A : Type 0} (xs : List A) → AllByRecursion Whatever xs
all_whatever [] = tt
all_whatever (x ∷ xs) = (tt, all_whatever xs)

-- ---- names

pub word_is : (ts : List Sign) → is_word ts ≡ true → (i : Ident) × (ts ≡ word i ∷ tail ts)
word_is [] h = absurd cc
word_is (word i ∷ ts) h = (i, refl)
word_is (mark m ∷ ts) h = absurd cc
word_is (left_brace at ∷ ts) h = absurd cc
word_is (this s ∷ ts) h = absurd cc
word_is (super s ∷ ts) h = absurd cc
word_is (literal l ∷ ts) h = absurd cc
word_is (stray ∷ ts) h = absurd cc

pub and_left : (a b : Bool) → (a && b) ≡ true → a ≡ true
and_left true b h = refl
and_left false b h = h

pub and_right : (a b : Bool) → (a && b) ≡ true → b ≡ true
and_right true b h = h
and_right false b h = absurd cc

sound_dotted : (s : State) → IfDone (ItemStands Everywhere Whatever (λ i a. the marks.Dot ∷ token (word i) ∷ []) s) (dotted s)
unfolding dotted
sound_dotted s =
    either (is_dotted s.tokens)
    (λ seen. then (sound_identifier (next s)) (λ i t h. done (tt, λ a _. stands_both (stands_one (mark marks.Dot) s (next s) (sees_is marks.Dot s.tokens (and_left _ _ seen)) refl) h)))
    (λ unseen. done (stands_nothing s))

spread_dotted : (xs : List Ident) (a : Around) → spread (λ i b. the marks.Dot ∷ token (word i) ∷ []) stays xs a ≡ yield_dotted xs
spread_dotted [] a = refl
spread_dotted (x ∷ xs) a = ap (λ ps. the marks.Dot ∷ token (word x) ∷ ps) (spread_dotted xs a)

nowhere : Around
nowhere = record { left = 0; within = None; locals = [] }

pub sound_name : Sound Everywhere IsNonEmpty (λ n a. yield_name n) name
unfolding name
sound_name s =
    then (sound_identifier s) (λ i t h. weaken (sound_many Everywhere Whatever _ stays dotted (λ x a _ _. tt) sound_dotted _ (i ∷ []) t)
    (λ n u g. (subst IsNonEmpty (sym g.is) tt, λ a _. stands_as (ap yield_name (sym g.is)) (stands_both h (stands_as (spread_dotted g.more nowhere) (g.stands nowhere tt))))))

-- no `.` Id comes next
abbrev pub NotDotted : List Sign → Type 0
NotDotted ts = is_dotted ts ≡ false

pub word_comes : (i : Ident) (ps : List Piece) {total : List TypeDecl} {s : State} {p q : Stage}
    → At total s p → Spells (token (word i) ∷ ps) p q → is_word s.tokens ≡ true
word_comes i ps {s = s} {p = p} {q = q} at g = ap is_word at.tokens ∙ headed (λ ts. is_word ts ≡ true) (word i) ps p q (λ ts. refl) g

both_true : (a b : Bool) → a ≡ true → b ≡ true → (a && b) ≡ true
both_true true b h g = g
both_true false b h g = absurd cc

dotted_gives : (i : Ident) → Complete dotted (the marks.Dot ∷ token (word i) ∷ []) (Some i) Always
unfolding dotted
dotted_gives i total s from to at g follow =
    spells_token_of (mark marks.Dot) _ from to g (λ ts e r.
    let at2 = at_next (mark marks.Dot) ts at e in
    first_gives (is_dotted s.tokens) _ _ (both_true _ _ (sees_next marks.Dot _ at g) (word_comes i [] at2 r))
    (word_gives i [] _ at2 r (λ u end at3 last. gives u (at_end at3 last))))

dotted_stops : (s : State) → NotDotted s.tokens → dotted s ≡ Done None s
unfolding dotted
dotted_stops s h = rw h

not_dotted_at_dot : (s t : State) (i : Ident) → dotted s ≡ Done (Some i) t → sees marks.Dot s.tokens ≡ true
unfolding dotted
not_dotted_at_dot s t i e = by_test (is_dotted s.tokens) _ e (λ h. and_left _ _ h)
  where
    by_test : {C : Type 0} (b : Bool) (o : Outcome (Option Ident)) → cond b o (Done None s) ≡ Done (Some i) t → (b ≡ true → C) → C
    by_test true o h k = k refl
    by_test false o h k = absurd (not_none i s t h)

pub name_gives : (n : List Ident) → IsNonEmpty n → Complete name (yield_name n) n NotDotted
unfolding name
name_gives [] h total s from to at g follow = absurd h
name_gives (i ∷ n) h total s from to at g follow =
    word_gives i (yield_dotted n) _ at g (λ t mid at2 r.
    many_gives Everywhere Whatever (λ x a. the marks.Dot ∷ token (word x) ∷ []) stays dotted NotDotted Always
    (λ x a _ _. tt) (λ x a _ _. dotted_gives x) dotted_stops (λ x u v e. tt) (λ ts e. tt) (λ x a _. tt)
    n nowhere (suc (length t.tokens)) (i ∷ []) total t mid to (all_whatever n) tt (omega arith) at2 (spells_as (sym (spread_dotted n nowhere)) r) follow)

-- a name begins with an identifier
pub name_headed : (F : List Sign → Type 0) (n : List Ident) (qs : List Piece) (p q : Stage) → IsNonEmpty n
    → ((i : Ident) (ts : List Sign) → F (word i ∷ ts)) → Spells (yield_name n ++ qs) p q → F p.tokens
name_headed F [] qs p q h f g = absurd h
name_headed F (i ∷ n) qs p q h f g = headed F (word i) (yield_dotted n ++ qs) p q (f i) g

-- ---- names, separated by commas

spread_names : (ns : List (List Ident)) (a : Around) → spread (λ n b. the marks.Comma ∷ yield_name n) stays ns a ≡ names_behind ns
spread_names [] a = refl
spread_names (n ∷ ns) a = ap (λ ps. the marks.Comma ∷ (yield_name n ++ ps)) (spread_names ns a)

sound_comma_name : (s : State) → IfDone (ItemStands Everywhere IsNonEmpty (λ n a. the marks.Comma ∷ yield_name n) s) (comma_name s)
unfolding comma_name
sound_comma_name s = sound_introduced Everywhere IsNonEmpty (λ n a. yield_name n) marks.Comma name sound_name s

pub sound_names : Sound Everywhere (λ ns. IsNonEmpty ns × AreNames ns) (λ ns a. yield_names ns) names
unfolding names
sound_names s =
    then (sound_name s) (λ n t h. weaken (sound_many Everywhere IsNonEmpty _ stays comma_name (λ x a _ _. tt) sound_comma_name _ (n ∷ []) t)
    (λ ns u g. (
      subst (λ xs. IsNonEmpty xs × AreNames xs) (sym g.is) (tt, (h.0, g.shapes)),
      λ a _. stands_as (ap yield_names (sym g.is)) (stands_both (h.1 a tt) (stands_as (spread_names g.more nowhere) (g.stands nowhere tt))),
    )))

-- what ends names
abbrev pub EndsNames : List Sign → Type 0
EndsNames ts = (sees marks.Comma ts ≡ false) × (is_dotted ts ≡ false)

comma_ends_name : (ts : List Sign) → sees marks.Comma ts ≡ true → NotDotted ts
unfolding sees same_mark
comma_ends_name ts h = subst NotDotted (sym (sees_is marks.Comma ts h)) refl

comma_name_gives : (n : List Ident) → IsNonEmpty n → Complete comma_name (the marks.Comma ∷ yield_name n) (Some n) NotDotted
unfolding comma_name
comma_name_gives n h = introduced_gives marks.Comma name (yield_name n) n NotDotted (name_gives n h)

comma_name_stops : (s : State) → EndsNames s.tokens → comma_name s ≡ Done None s
unfolding comma_name
comma_name_stops s h = introduced_stops marks.Comma name s h.0

comma_name_begins : (n : List Ident) (s t : State) → comma_name s ≡ Done (Some n) t → NotDotted s.tokens
unfolding comma_name
comma_name_begins n s t e = comma_ends_name s.tokens (introduced_sees marks.Comma name n s t e)

module _ (n : List Ident) (ns : List (List Ident)) (h : AreNames (n ∷ ns)) where
  pub names_gives : Complete names (yield_names (n ∷ ns)) (n ∷ ns) EndsNames
  unfolding names
  names_gives total s from to at g follow =
      part_gives name (yield_name n) (names_behind ns) NotDotted _ (name_gives n h.0) at g
      (λ mid r. behind_item Everywhere IsNonEmpty (λ x a. the marks.Comma ∷ yield_name x) stays comma_name EndsNames NotDotted
      (λ x a _ _. tt) (λ x a p _. comma_name_gives x p) comma_name_stops comma_name_begins (λ ts e. e.1) (λ x a _. tt)
      ns nowhere mid to h.1 tt (spells_as (sym (spread_names ns nowhere)) r) follow)
      (λ t mid at2 r. many_gives Everywhere IsNonEmpty (λ x a. the marks.Comma ∷ yield_name x) stays comma_name EndsNames NotDotted
      (λ x a _ _. tt) (λ x a p _. comma_name_gives x p) comma_name_stops comma_name_begins (λ ts e. e.1) (λ x a _. tt)
      ns nowhere (suc (length t.tokens)) (n ∷ []) total t mid to h.1 tt (omega arith) at2 (spells_as (sym (spread_names ns nowhere)) r) follow)

-- ---- a word and names

pub sound_clause : (m : Mark) → Sound Everywhere AreNames (λ ns a. yield_clause m ns) (clause m)
unfolding clause
sound_clause m s =
    either (sees m s.tokens)
    (λ seen. then (sound_expect m s) (λ _ t g. weaken (sound_names t) (λ ns u h. (h.0.1, λ a _. some_clause ns u g h))))
    (λ unseen. done (tt, λ a _. stands_nothing s))
  where
    some_clause : (ns : List (List Ident)) (u : State) {t : State} → Stands (the m ∷ []) s t
        → (IsNonEmpty ns × AreNames ns) × ((a : Around) → Everywhere a → Stands (yield_names ns) t u)
        → Stands (yield_clause m ns) s u
    some_clause [] u g h = absurd h.0.0
    some_clause (n ∷ ns) u g h = stands_both g (h.1 nowhere tt)

abbrev pub EndsClause : Mark → List Sign → Type 0
EndsClause m ts = (sees m ts ≡ false) × EndsNames ts

pub clause_gives : (m : Mark) (ns : List (List Ident)) → AreNames ns → Complete (clause m) (yield_clause m ns) ns (EndsClause m)
unfolding clause
clause_gives m [] h total s from to at g follow =
    second_gives (sees m s.tokens) _ _ (ap (sees m) (at_end at g).tokens ∙ follow.0) (gives s (at_end at g))
clause_gives m (n ∷ ns) h total s from to at g follow =
    first_gives (sees m s.tokens) _ _ (sees_next m _ at g) (expect_gives m _ _ at g (λ t mid at2 r. names_gives n ns h total t mid to at2 r follow.1))

-- ---- dims

dim_stands : (k : ℕ) {s t u v : State} → Stands (the marks.LeftBracket ∷ []) s t
    → Stands (the marks.RightBracket ∷ []) t u → Stands (yield_dims k) u v → Stands (yield_dims (suc k)) s v
dim_stands k h g r = stands_both h (stands_both g r)

pub record DimsStand (k : ℕ) (s : State) (j : ℕ) (t : State) : Type 0 where
  pub more : ℕ
  pub is : j ≡ k + more
  pub stands : Stands (yield_dims more) s t

sound_dims_from : (n k : ℕ) (s : State) → IfDone (DimsStand k s) (dims_from n k s)
unfolding dims_from
sound_dims_from zero k s = fails
sound_dims_from (suc n) k s =
    either (sees marks.LeftBracket s.tokens)
    (λ seen. then (sound_expect marks.LeftBracket s) (λ _ t h. then (sound_expect marks.RightBracket t) (λ _ u g.
    weaken (sound_dims_from n (suc k) u) (λ j v r. record { more = suc r.more; is = omega (arith, r.is); stands = dim_stands r.more h g r.stands }))))
    (λ unseen. done (record { more = 0; is = omega arith; stands = stands_nothing s }))

pub sound_dims : Sound Everywhere Whatever (λ n a. yield_dims n) dims
unfolding dims
sound_dims s = weaken (sound_dims_from (suc (length s.tokens)) zero s) (λ j t h. (tt, λ a _. let e : h.more ≡ j = omega (arith, h.is) in stands_as (ap yield_dims e) h.stands))

abbrev pub NoDim : List Sign → Type 0
NoDim ts = sees marks.LeftBracket ts ≡ false

abbrev done_at : ℕ → State → Outcome ℕ
done_at n s = Done n s

dims_from_gives : (j n k : ℕ) (total : List TypeDecl) (s : State) (p q : Stage) → length s.tokens < n
    → At total s p → Spells (yield_dims j) p q → NoDim q.tokens → Gives total (k + j) q (dims_from n k s)
unfolding dims_from
dims_from_gives j zero k total s p q few at g follow = absurd (omega arith)
dims_from_gives zero (suc n) k total s p q few at g follow =
    second_gives (sees marks.LeftBracket s.tokens) _ _ (ap (sees marks.LeftBracket) (at_end at g).tokens ∙ follow)
    (let e : k ≡ k + 0 = omega arith in record { end = s; at = at_end at g; is = ap (λ i. done_at i s) e })
dims_from_gives (suc j) (suc n) k total s p q few at g follow =
    first_gives (sees marks.LeftBracket s.tokens) _ _ (sees_next marks.LeftBracket _ at g)
    (expect_gives_behind marks.LeftBracket _ _ at g (λ t mid e1 at2 r. expect_gives_behind marks.RightBracket _ _ at2 r (λ u mid2 e2 at3 r2.
    let one : length p.tokens ≡ suc (length mid.tokens) = ap length e1 in
    let two : length mid.tokens ≡ suc (length mid2.tokens) = ap length e2 in
    let here : length s.tokens ≡ length p.tokens = ap length at.tokens in
    let there : length u.tokens ≡ length mid2.tokens = ap length at3.tokens in
    let rest = dims_from_gives j n (suc k) total u mid2 q (omega arith) at3 r2 follow in
    let e : suc k + j ≡ k + suc j = omega arith in
    subst (λ i. Gives total i q (dims_from n (suc k) u)) e rest)))

pub dims_gives : (j : ℕ) → Complete dims (yield_dims j) j NoDim
unfolding dims
dims_gives j total s from to at g follow =
    let e : 0 + j ≡ j = omega arith in subst (λ i. Gives total i to (dims_from (suc (length s.tokens)) 0 s)) e (dims_from_gives j (suc (length s.tokens)) 0 total s from to (omega arith) at g follow)

-- ---- types

primitive_comes : (ts : List Sign) (p : Primitive) → primitive_at ts ≡ Some p → ts ≡ mark (primitive_mark p) ∷ tail ts
primitive_comes [] p h = absurd cc
primitive_comes (mark m ∷ ts) p h = ap (λ n. mark n ∷ ts) (sym (primitive_mark-of m p h))
primitive_comes (left_brace at ∷ ts) p h = absurd cc
primitive_comes (this s ∷ ts) p h = absurd cc
primitive_comes (super s ∷ ts) p h = absurd cc
primitive_comes (word i ∷ ts) p h = absurd cc
primitive_comes (literal l ∷ ts) p h = absurd cc
primitive_comes (stray ∷ ts) p h = absurd cc

sound_element_by : (s : State) (o : Option Primitive) → primitive_at s.tokens ≡ o
    → IfDone (λ e t. IsElement e × ((a : Around) → Everywhere a → Stands (yield_element e) s t)) (element_by o s)
sound_element_by s (Some p) h = done (tt, λ a _. stands_one (mark (primitive_mark p)) s (next s) (primitive_comes s.tokens p h) refl)
sound_element_by s None h = then (sound_name s) (λ n t g. done (g.0, λ a _. g.1 a tt))

pub sound_element : Sound Everywhere IsElement (λ e a. yield_element e) element
unfolding element
sound_element s = sound_element_by s (primitive_at s.tokens) refl

pub sound_type_use : Sound Everywhere IsType (λ t a. yield_type t) type_use
unfolding type_use
sound_type_use s = then (sound_element s) (λ e t h. then (sound_dims t) (λ n u g. done (h.0, λ a _. stands_both (h.1 a tt) (g.1 a tt))))

-- an identifier comes next, as behind a type in a declaration
abbrev pub WordNext : List Sign → Type 0
WordNext ts = is_word ts ≡ true

pub word_not_dotted : (ts : List Sign) → WordNext ts → NotDotted ts
unfolding sees
word_not_dotted ts h = let w = word_is ts h in subst NotDotted (sym w.1) refl

word_no_dim : (ts : List Sign) → WordNext ts → NoDim ts
unfolding sees
word_no_dim ts h = let w = word_is ts h in subst NoDim (sym w.1) refl

-- behind an element type: dims, or an identifier
behind_element : (j : ℕ) (p q : Stage) → Spells (yield_dims j) p q → WordNext q.tokens → NotDotted p.tokens
unfolding sees same_mark
behind_element zero p q (spells_nothing _) h = word_not_dotted p.tokens h
behind_element (suc j) p q g h = headed NotDotted (mark marks.LeftBracket) _ p q (λ ts. refl) g

element_by_is : (o u : Option Primitive) (s : State) {total : List TypeDecl} {e : ElementType} {q : Stage}
    → o ≡ u → Gives total e q (element_by u s) → Gives total e q (element_by o s)
element_by_is o u s {total = total} {e = e} {q = q} h g = subst (λ x. Gives total e q (element_by x s)) (sym h) g

pub element_gives : (e : ElementType) → IsElement e → Complete element (yield_element e) e NotDotted
unfolding element
element_gives (elements.Primitive p) h total s from to at g follow =
    spells_token_of (mark (primitive_mark p)) [] from to g (λ ts e r.
    element_by_is (primitive_at s.tokens) (Some p) s (ap primitive_at (at.tokens ∙ e) ∙ primitive_of-mark p)
    (gives (next s) (at_end (at_next (mark (primitive_mark p)) ts at e) r)))
element_gives (elements.Named n) h total s from to at g follow =
    element_by_is (primitive_at s.tokens) None s
    (ap primitive_at at.tokens ∙ name_headed (λ ts. primitive_at ts ≡ None) n [] from to h (λ i ts. refl) (spells_as (sym (append-nil (yield_name n))) g))
    (last_gives name (yield_name n) NotDotted _ (name_gives n h) at g follow (λ t at2. gives t at2))

pub type_gives : (t : TypeUse) → IsType t → Complete type_use (yield_type t) t WordNext
unfolding type_use
type_gives t h total s from to at g follow =
    part_gives element (yield_element t.element) (yield_dims t.dims) NotDotted _ (element_gives t.element h) at g
    (λ mid r. behind_element t.dims mid to r follow)
    (λ u mid at2 r. last_gives dims (yield_dims t.dims) NoDim _ (dims_gives t.dims) at2 r (word_no_dim to.tokens follow) (λ v at3. gives v at3))

-- ---- modifiers

modifier_comes : (ts : List Sign) (x : Modifier) → modifier_at ts ≡ Some x → ts ≡ mark (modifier_mark x) ∷ tail ts
modifier_comes [] p h = absurd cc
modifier_comes (mark m ∷ ts) p h = ap (λ n. mark n ∷ ts) (sym (modifier_mark-of m p h))
modifier_comes (left_brace at ∷ ts) p h = absurd cc
modifier_comes (this s ∷ ts) p h = absurd cc
modifier_comes (super s ∷ ts) p h = absurd cc
modifier_comes (word i ∷ ts) p h = absurd cc
modifier_comes (literal l ∷ ts) p h = absurd cc
modifier_comes (stray ∷ ts) p h = absurd cc

abbrev Modified : Modifier → Around → List Piece
Modified x a = the (modifier_mark x) ∷ []

sound_modifier_by : (s : State) (o : Option Modifier) → modifier_at s.tokens ≡ o
    → IfDone (ItemStands Everywhere Whatever Modified s) (modifier_by o s)
sound_modifier_by s (Some x) h = done (tt, λ a _. stands_one (mark (modifier_mark x)) s (next s) (modifier_comes s.tokens x h) refl)
sound_modifier_by s None h = done (stands_nothing s)

sound_modifier : (s : State) → IfDone (ItemStands Everywhere Whatever Modified s) (modifier s)
unfolding modifier
sound_modifier s = sound_modifier_by s (modifier_at s.tokens) refl

spread_modifiers : (xs : List Modifier) (a : Around) → spread Modified stays xs a ≡ yield_modifiers xs
spread_modifiers [] a = refl
spread_modifiers (x ∷ xs) a = ap (λ ps. the (modifier_mark x) ∷ ps) (spread_modifiers xs a)

pub sound_modifiers : Sound Everywhere Whatever (λ xs a. yield_modifiers xs) modifiers
unfolding modifiers
sound_modifiers s =
    weaken (sound_many Everywhere Whatever Modified stays modifier (λ x a _ _. tt) sound_modifier _ [] s)
    (λ xs t g. (tt, λ a _. stands_as (spread_modifiers g.more nowhere ∙ ap yield_modifiers (sym g.is)) (g.stands nowhere tt)))

abbrev pub NoModifier : List Sign → Type 0
NoModifier ts = modifier_at ts ≡ None

modifier_by_is : (o u : Option Modifier) (s : State) {total : List TypeDecl} {e : Option Modifier} {q : Stage}
    → o ≡ u → Gives total e q (modifier_by u s) → Gives total e q (modifier_by o s)
modifier_by_is o u s {total = total} {e = e} {q = q} h g = subst (λ x. Gives total e q (modifier_by x s)) (sym h) g

modifier_gives : (x : Modifier) → Complete modifier (the (modifier_mark x) ∷ []) (Some x) Always
unfolding modifier
modifier_gives x total s from to at g follow =
    spells_token_of (mark (modifier_mark x)) [] from to g (λ ts e r.
    modifier_by_is (modifier_at s.tokens) (Some x) s (ap modifier_at (at.tokens ∙ e) ∙ modifier_of-mark x)
    (gives (next s) (at_end (at_next (mark (modifier_mark x)) ts at e) r)))

modifier_stops : (s : State) → NoModifier s.tokens → modifier s ≡ Done None s
unfolding modifier
modifier_stops s h = ap (λ o. modifier_by o s) h

pub modifiers_gives : (xs : List Modifier) → Complete modifiers (yield_modifiers xs) xs NoModifier
unfolding modifiers
modifiers_gives xs total s from to at g follow =
    many_gives Everywhere Whatever Modified stays modifier NoModifier Always
    (λ x a _ _. tt) (λ x a _ _. modifier_gives x) modifier_stops (λ x u v e. tt) (λ ts e. tt) (λ x a _. tt)
    xs nowhere (suc (length s.tokens)) [] total s from to (all_whatever xs) tt (omega arith) at (spells_as (sym (spread_modifiers xs nowhere)) g) follow

-- ---- options

-- what a mark introduces yields, if it stands there
abbrev pub introduced_yield : {A : Type 0} → Mark → (A → Around → List Piece) → Option A → Around → List Piece
introduced_yield m Y None a = []
introduced_yield m Y (Some x) a = the m ∷ Y x a

pub sound_option : {A : Type 0} (In : Around → Type 0) (P : A → Type 0) (Y : A → Around → List Piece) (m : Mark) (p : Parser A) → Sound In P Y p
    → Sound In (λ o. IfSome o P) (introduced_yield m Y) (introduced m p)
sound_option In P Y m p h s = weaken (sound_introduced In P Y m p h s) (λ o t k. by_option o k)
  where
    by_option : (o : Option _) {t : State} → ItemStands In P (λ x a. the m ∷ Y x a) s o t
        → IfSome o P × ((a : Around) → In a → Stands (introduced_yield m Y o a) s t)
    by_option None k = (tt, λ a i. k)
    by_option (Some x) k = k

pub option_gives : {A : Type 0} (Y : A → Around → List Piece) (P : A → Type 0) (In : Around → Type 0) (m : Mark) (p : Parser A) (F : List Sign → Type 0)
    → ((x : A) (a : Around) → P x → In a → Complete p (Y x a) x F)
    → (o : Option A) (a : Around) → IfSome o P → In a → Complete (introduced m p) (introduced_yield m Y o a) o (λ ts. (sees m ts ≡ false) × F ts)
option_gives Y P In m p F c None a h i total s from to at g follow =
    second_gives (sees m s.tokens) _ _ (ap (sees m) (at_end at g).tokens ∙ follow.0) (gives s (at_end at g))
option_gives Y P In m p F c (Some x) a h i total s from to at g follow = introduced_gives m p (Y x a) x F (c x a h i) total s from to at g follow.1

-- a mark that may stand
abbrev pub eaten_yield : Mark → Bool → List Piece
eaten_yield m true = the m ∷ []
eaten_yield m false = []

pub sound_eat : (m : Mark) (s : State) → IfDone (λ b t. Stands (eaten_yield m b) s t) (eat m s)
unfolding eat
sound_eat m s = either (sees m s.tokens) (λ e. done (stands_one (mark m) s (next s) (sees_is m s.tokens e) refl)) (λ e. done (stands_nothing s))

pub eat_gives : (m : Mark) (b : Bool) → Complete (eat m) (eaten_yield m b) b (λ ts. b ≡ false → sees m ts ≡ false)
unfolding eat
eat_gives m false total s from to at g follow = second_gives (sees m s.tokens) _ _ (ap (sees m) (at_end at g).tokens ∙ follow refl) (gives s (at_end at g))
eat_gives m true total s from to at g follow =
    first_gives (sees m s.tokens) _ _ (sees_next m [] at g) (spells_token_of (mark m) [] from to g (λ ts e r. gives (next s) (at_end (at_next (mark m) ts at e) r)))

-- ---- items up to an end

pub sound_unless : {A : Type 0} (In : Around → Type 0) (P : A → Type 0) (Y : A → Around → List Piece) (test : List Sign → Bool) (p : Parser A)
    → Sound In P Y p
    → (s : State) → IfDone (ItemStands In P Y s) (unless test p s)
sound_unless In P Y test p h s = either (test s.tokens) (λ e. done (stands_nothing s)) (λ e. then (h s) (λ x t k. done k))

pub unless_gives : {A : Type 0} (test : List Sign → Bool) (p : Parser A) (x : A) {total : List TypeDecl} {to : Stage} (s : State)
    → test s.tokens ≡ false → Gives total x to (p s) → Gives total (Some x) to (unless test p s)
unless_gives test p x s e h = second_gives (test s.tokens) _ _ e (then_gives (p s) _ h (λ t at. gives t at))

pub unless_stops : {A : Type 0} (test : List Sign → Bool) (p : Parser A) (s : State) → test s.tokens ≡ true → unless test p s ≡ Done None s
unless_stops test p s h = rw h

pub unless_done : {A C : Type 0} (test : List Sign → Bool) (p : Parser A) (x : A) (s t : State)
    → unless test p s ≡ Done (Some x) t → (test s.tokens ≡ false → p s ≡ Done x t → C) → C
unless_done {A = A} {C = C} test p x s t e k = by_test (test s.tokens) refl (p s) refl e
  where
    by_test : (b : Bool) → test s.tokens ≡ b → (o : Outcome A) → p s ≡ o
        → cond b (Done None s) (and_then o (λ y. pure (Some y))) ≡ Done (Some x) t → C
    by_test true f o g h = absurd (not_none x s t h)
    by_test false f (Done y u) g h = k f (g ∙ cc)
    by_test false f Fail g h = absurd cc
