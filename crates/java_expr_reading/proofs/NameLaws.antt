-- Names and types: what is read is one, and each one is read.
use Rattle.std.proofs.Common.{◌≡◌, ℕ, zero, suc, ◌+◌, ◌<◌, Bool, true, false, ◌&&◌, List, [], ◌∷◌, Option, Some, None, refl, sym, ap, ◌∙◌, subst, inl, inr, arith}
use Rattle.std.specs.List.{AllByRecursion}
use Rattle.std.proofs.lemmas.Bool.{cases_Bool}
use Rattle.std.proofs.lemmas.Option.{same_Some}
use Rattle.java_tree.specs.declared.mark.Mark.{Mark}
use Rattle.java_tree.specs.declared.mark.Mark.TheVariants as marks
use Rattle.java_tree.specs.declared.names.ElementType.{ElementType}
use Rattle.java_tree.specs.declared.names.ElementType.TheVariants as elements
use Rattle.java_tree.specs.declared.names.Ident.{Ident}
use Rattle.java_tree.specs.declared.names.Primitive.{Primitive}
use Rattle.java_tree.specs.declared.names.TypeUse.{TypeUse}
use Rattle.java_model.specs.Grammar.Signs.{Sign, mark, left_brace, this, super, word, literal, stray}
use Rattle.java_model.specs.Grammar.Pieces.{Piece, token, the, Around, dotted, yield_name, yield_dims, yield_element, yield_type}
use Rattle.java_model.specs.Grammar.Readings.{primitive_of}
use Rattle.java_model.specs.Grammar.Forms.{IsNonEmpty}
use Rattle.java_model.specs.Grammar.Expressions.{IsElement, IsType}
use Rattle.java_model.proofs.Grammar.Readings.{primitive_of-mark, primitive_mark-of}
use Rattle.java_expr_reading.specs.Shapes.{same_mark, shape_by, is_word}
use Rattle.java_expr_reading.specs.Input.{Input, sign, shape, left, next, Outcome, Done, Fail, and_then, pure, sees, ident}
use Rattle.java_expr_reading.specs.Reading.Names.{◌<$>◌, some, sees_member, dotted_ident, name, sees_dim, dims_from, dims, primitive_element, element_by, element, type_use}
use Rattle.java_expr_reading.specs.declared.shape.Shape.{Shape}
use Rattle.java_expr_reading.specs.declared.shape.Shape.TheVariants as shapes
use Rattle.java_expr_reading.proofs.Taken.{Taken, Fit, fit_both, taken_split, token_shorter, done, done_value, done_input}
use Rattle.java_expr_reading.proofs.Many.{spread, many-complete, many-sound}
use Rattle.java_expr_reading.proofs.Tokens.{fails, outcome, sees-is, sees-at, ident-taken, ident-at}

-- ---- small steps

pub both_true : (a b : Bool) → (a && b) ≡ true → (a ≡ true) × (b ≡ true)
both_true true true e = (refl, refl)
both_true true false e = absurd cc
both_true false b e = absurd cc

-- a value that a step did, mapped
pub mapped : {A B C : Type 0} (o : Outcome A) (f : A → B) (y : B) (j : Input) → and_then o (λ x. pure (f x)) ≡ Done y j
    → ((x : A) → o ≡ Done x j → y ≡ f x → C) → C
mapped (Done x k) f y j e g = g x (ap (λ z. done x z) (done_input (f x) y k j e)) (sym (done_value (f x) y k j e))
mapped Fail f y j e g = fails y j e

pub none_is_not_some : {A C : Type 0} (x : A) → None ≡ some x → C
none_is_not_some x e = absurd cc

pub shape_mark : (m : Mark) (o : Option Sign) → shape_by o ≡ shapes.Mark m → o ≡ Some (mark m)
shape_mark m None e = absurd cc
shape_mark m (Some (mark n)) e = let is : n ≡ m = cc in ap (λ x. Some (mark x)) is
shape_mark m (Some (left_brace at)) e = absurd cc
shape_mark m (Some (this s)) e = absurd cc
shape_mark m (Some (super s)) e = absurd cc
shape_mark m (Some (word i)) e = absurd cc
shape_mark m (Some (literal l)) e = absurd cc
shape_mark m (Some stray) e = absurd cc

-- somewhere, with so much of the depth left
abbrev pub somewhere : ℕ → Around
somewhere n = record { left = n; within = None; locals = [] }

-- ---- names

abbrev pub member_pieces : Ident → List Piece
member_pieces w = the marks.Dot ∷ token (word w) ∷ []

pub dotted-spread : (ws : List Ident) → dotted ws ≡ spread member_pieces ws
dotted-spread [] = refl
dotted-spread (w ∷ ws) = ap (λ ps. the marks.Dot ∷ token (word w) ∷ ps) (dotted-spread ws)

dotted-some : (w : Ident) (i j : Input) → dotted_ident i ≡ Done (Some w) j → Taken (member_pieces w) i j
unfolding dotted_ident sees_member
dotted-some w i j e =
    elim (cases_Bool (sees_member i)) [
      | inl is ↦
          let both = both_true (sees marks.Dot i) (is_word (shape (next i))) is in
          let r : (some <$> ident) (next i) ≡ Done (Some w) j = rw is at e in
          mapped (ident (next i)) some (Some w) j r (λ x g same.
          (sees-is marks.Dot i both.0, ident-taken (next i) j w (subst (λ z. ident (next i) ≡ Done z j) (sym (same_Some w x same)) g)))
      | inr isnt ↦ none_is_not_some w (done_value None (Some w) i j (rw isnt at e))
    ]

dotted-none : (i j : Input) → dotted_ident i ≡ Done None j → i ≡ j
unfolding dotted_ident
dotted-none i j e =
    elim (cases_Bool (sees_member i)) [
      | inl is ↦
          let r : (some <$> ident) (next i) ≡ Done None j = rw is at e in
          mapped (ident (next i)) some None j r (λ x g same. none_is_not_some x same)
      | inr isnt ↦ done_input None None i j (rw isnt at e)
    ]

-- where a name ends no further identifier belongs to it
pub no_member : (j : Input) → dotted_ident j ≡ Done None j → sees_member j ≡ false
unfolding dotted_ident
no_member j e =
    elim (cases_Bool (sees_member j)) [
      | inl is ↦
          let r : (some <$> ident) (next j) ≡ Done None j = rw is at e in
          mapped (ident (next j)) some None j r (λ x g same. none_is_not_some x same)
      | inr isnt ↦ isnt
    ]

pub record IsName (n : List Ident) (i j : Input) : Type 0 where
  pub nonempty : IsNonEmpty n
  pub taken : Fit (yield_name n) i j
  pub whole : sees_member j ≡ false

pub name-sound : (n : List Ident) (i j : Input) → name i ≡ Done n j → IsName n i j
unfolding name
name-sound n i j e =
    outcome (ident i)
    (λ w k g.
    let first = ident-taken i k w g in
    many-sound dotted_ident (λ v a. member_pieces v) (λ v. Unit {0}) 0 (λ v x y h. record { shape = tt; taken = λ a b. dotted-some v x y h }) dotted-none (w ∷ []) n k j (rw g at e)
    (λ ws is read stop.
    let rest : Fit (dotted ws) (next i) j = subst (λ x. Fit (dotted ws) x j) (sym first.1) (subst (λ ps. Fit ps k j) (sym (dotted-spread ws)) (read.taken (somewhere 0) refl)) in
    subst (λ m. IsName m i j) (sym is) (record { nonempty = tt; taken = (first.0, rest); whole = no_member j stop })))
    (λ g. fails n j (rw g at e))

dotted-at : (w : Ident) (i j : Input) → Taken (member_pieces w) i j → dotted_ident i ≡ Done (Some w) j
unfolding dotted_ident sees_member sees same_mark
dotted-at w i j h = rw (h.0, h.1.0, ident-at (next i) w h.1.0, h.1.1) refl

pub sees_member-at : (w : Ident) (i : Input) → sign i ≡ Some (mark marks.Dot) → sign (next i) ≡ Some (word w) → sees_member i ≡ true
unfolding sees_member sees same_mark
sees_member-at w i h g = rw (h, g) refl

pub dotted-stop : (j : Input) → sees_member j ≡ false → dotted_ident j ≡ Done None j
unfolding dotted_ident
dotted-stop j h = rw h refl

all_units : {A : Type 0} (xs : List A) → AllByRecursion (λ x. Unit {0}) xs
all_units [] = tt
all_units (x ∷ xs) = (tt, all_units xs)

pub name-complete : (n : List Ident) (i j : Input) → IsNonEmpty n → Taken (yield_name n) i j → sees_member j ≡ false → name i ≡ Done n j
unfolding name
name-complete [] i j h t stop = absurd h
name-complete (w ∷ ws) i j h t stop =
    rw (ident-at i w t.0)
    (many-complete dotted_ident member_pieces (λ v. Unit {0}) (λ k. sees_member k ≡ false) (λ k. Unit {0})
    (λ v x y p g f. dotted-at v x y g) dotted-stop (λ k s. tt) (λ v x y p g. tt) (λ v x y p g. token_shorter (mark marks.Dot) (token (word v) ∷ []) x y g)
    ws (w ∷ []) (next i) j (all_units ws) (subst (λ ps. Taken ps (next i) j) (dotted-spread ws) t.1) stop)

-- ---- dims

pub dims_from-sound : {C : Type 0} (n found m : ℕ) (i j : Input) → dims_from n found i ≡ Done m j
    → ((k : ℕ) → m ≡ found + k → Fit (yield_dims k) i j → sees_dim j ≡ false → C) → C
unfolding dims_from sees_dim
dims_from-sound zero found m i j e f = fails m j e
dims_from-sound (suc n) found m i j e f =
    elim (cases_Bool (sees_dim i)) [
      | inl is ↦
          let both = both_true (sees marks.LeftBracket i) (sees marks.RightBracket (next i)) is in
          dims_from-sound n (found + 1) m (next (next i)) j (rw is at e) (λ k eq t stop.
          f (suc k) (omega arith) (sees-is marks.LeftBracket i both.0, (sees-is marks.RightBracket (next i) both.1, t)) stop)
      | inr isnt ↦
          let r : done found i ≡ done m j = rw isnt at e in
          let here = done_input found m i j r in
          let value = done_value found m i j r in
          f 0 (omega arith) here (subst (λ x. sees_dim x ≡ false) here isnt)
    ]

pub dims-sound : {C : Type 0} (m : ℕ) (i j : Input) → dims i ≡ Done m j → (Fit (yield_dims m) i j → sees_dim j ≡ false → C) → C
unfolding dims
dims-sound m i j e f = dims_from-sound (suc (left i)) 0 m i j e (λ k eq t stop. f (subst (λ x. Fit (yield_dims x) i j) (let is : k ≡ m = omega arith in is) t) stop)

pub sees_dim-at : (i : Input) → sign i ≡ Some (mark marks.LeftBracket) → sign (next i) ≡ Some (mark marks.RightBracket) → sees_dim i ≡ true
unfolding sees_dim sees same_mark
sees_dim-at i h g = rw (h, g) refl

pub sees_dim-both : (i : Input) → sees_dim i ≡ true → (sees marks.LeftBracket i ≡ true) × (sees marks.RightBracket (next i) ≡ true)
unfolding sees_dim
sees_dim-both i h = both_true (sees marks.LeftBracket i) (sees marks.RightBracket (next i)) h

dim_shorter : (i : Input) → sign i ≡ Some (mark marks.LeftBracket) → sign (next i) ≡ Some (mark marks.RightBracket) → left (next (next i)) < left i
dim_shorter i h g = token_shorter (mark marks.LeftBracket) (the marks.RightBracket ∷ []) i (next (next i)) (h, (g, refl))

pub dims_from-complete : (k n found : ℕ) (i j : Input) → left i < n → Taken (yield_dims k) i j → sees_dim j ≡ false → dims_from n found i ≡ Done (found + k) j
unfolding dims_from
dims_from-complete k zero found i j few t stop = absurd (omega arith)
dims_from-complete zero (suc n) found i j few t stop = rw (t, stop) (ap (λ x. done x j) (let e : found ≡ found + 0 = omega arith in e))
dims_from-complete (suc k) (suc n) found i j few t stop =
    let one : sees_dim i ≡ true = sees_dim-at i t.0 t.1.0 in
    rw one (dims_from-complete k n (found + 1) (next (next i)) j (omega (arith, dim_shorter i t.0 t.1.0)) t.1.1 stop ∙ ap (λ x. done x j) (let e : found + 1 + k ≡ found + suc k = omega arith in e))

pub dims-complete : (k : ℕ) (i j : Input) → Taken (yield_dims k) i j → sees_dim j ≡ false → dims i ≡ Done k j
unfolding dims
dims-complete k i j t stop = dims_from-complete k (suc (left i)) 0 i j (omega arith) t stop ∙ ap (λ x. done x j) (let e : 0 + k ≡ k = omega arith in e)

-- ---- types

pub record IsElementRead (t : ElementType) (i j : Input) : Type 0 where
  pub shape : IsElement t
  pub taken : Fit (yield_element t) i j

primitive-sound : (m : Mark) (p : Primitive) (t : ElementType) (i j : Input) → primitive_of m ≡ Some p → sign i ≡ Some (mark m)
    → done (elements.Primitive p) (next i) ≡ Done t j → IsElementRead t i j
primitive-sound m p t i j is h e =
    subst (λ u. IsElementRead u i j) (done_value (elements.Primitive p) t (next i) j e)
    (record { shape = tt; taken = (h ∙ ap (λ x. Some (mark x)) (sym (primitive_mark-of m p is)), done_input (elements.Primitive p) t (next i) j e) })

primitive_element-sound : (m : Mark) (o : Option Primitive) (t : ElementType) (i j : Input) → primitive_of m ≡ o → sign i ≡ Some (mark m)
    → primitive_element o i ≡ Done t j → IsElementRead t i j
primitive_element-sound m None t i j is h e = fails t j e
primitive_element-sound m (Some p) t i j is h e = primitive-sound m p t i j is h e

element_by-sound : (s : Shape) (t : ElementType) (i j : Input) → shape i ≡ s → element_by s i ≡ Done t j → IsElementRead t i j
element_by-sound shapes.Word t i j is e =
    mapped (name i) (λ n. elements.Named n) t j e (λ n g same.
    let r = name-sound n i j g in
    subst (λ u. IsElementRead u i j) (sym same) (record { shape = r.nonempty; taken = r.taken }))
element_by-sound (shapes.Mark m) t i j is e = primitive_element-sound m (primitive_of m) t i j refl (shape_mark m (sign i) is) e
element_by-sound _ t i j is e = fails t j e

pub element-sound : (t : ElementType) (i j : Input) → element i ≡ Done t j → IsElementRead t i j
unfolding element
element-sound t i j e = element_by-sound (shape i) t i j refl e

pub record IsTypeRead (t : TypeUse) (i j : Input) : Type 0 where
  pub shape : IsType t
  pub taken : Fit (yield_type t) i j

pub type_use-sound : (t : TypeUse) (i j : Input) → type_use i ≡ Done t j → IsTypeRead t i j
unfolding type_use
type_use-sound t i j e =
    outcome (element i)
    (λ x k g.
    let first = element-sound x i k g in
    let r : and_then (dims k) (λ n. pure (record { element = x; dims = n })) ≡ Done t j = rw g at e in
    mapped (dims k) (λ n. record { element = x; dims = n }) t j r (λ n d same.
    dims-sound n k j d (λ rest stop.
    subst (λ u. IsTypeRead u i j) (sym same) (record { shape = first.shape; taken = fit_both (yield_element x) (yield_dims n) i k j first.taken rest }))))
    (λ g. fails t j (rw g at e))

pub element-complete : (t : ElementType) (i j : Input) → IsElement t → Taken (yield_element t) i j → sees_member j ≡ false → element i ≡ Done t j
unfolding element
element-complete (elements.Primitive p) i j h t stop = rw (t.0, primitive_of-mark p, t.1) refl
element-complete (elements.Named []) i j h t stop = absurd h
element-complete (elements.Named (w ∷ ws)) i j h t stop = rw (t.0, name-complete (w ∷ ws) i j h t stop) refl

-- what follows belongs neither to a name nor to the dims
pub record EndsType (j : Input) : Type 0 where
  pub member : sees_member j ≡ false
  pub dim : sees_dim j ≡ false

-- no member begins with a mark other than a dot
pub no_member-at : (m : Mark) (i : Input) → sign i ≡ Some (mark m) → same_mark m marks.Dot ≡ false → sees_member i ≡ false
unfolding sees_member
no_member-at m i h e = rw (sees-at marks.Dot m i h, e) refl

pub bracket-seen : (i : Input) → sign i ≡ Some (mark marks.LeftBracket) → sees marks.LeftBracket i ≡ true
unfolding sees same_mark
bracket-seen i h = rw h refl

left_bracket_is_no_dot : same_mark marks.LeftBracket marks.Dot ≡ false
unfolding same_mark
left_bracket_is_no_dot = refl

pub dims-no_member : (k : ℕ) (i j : Input) → Taken (yield_dims k) i j → sees_member j ≡ false → sees_member i ≡ false
dims-no_member zero i j t stop = subst (λ x. sees_member x ≡ false) (sym t) stop
dims-no_member (suc k) i j t stop = no_member-at marks.LeftBracket i t.0 left_bracket_is_no_dot

pub type_use-complete : (t : TypeUse) (i j : Input) → IsType t → Taken (yield_type t) i j → EndsType j → type_use i ≡ Done t j
unfolding type_use
type_use-complete t i j h g stop =
    taken_split (yield_element t.element) (yield_dims t.dims) i j g (λ k x y.
    rw (element-complete t.element i k h x (dims-no_member t.dims k j y stop.member), dims-complete t.dims k j y stop.dim) refl)
