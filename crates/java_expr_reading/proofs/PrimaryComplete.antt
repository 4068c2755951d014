-- Each primary expression is read.
use Rattle.std.proofs.Common.{◌≡◌, ℕ, zero, suc, ◌<◌, Bool, true, false, ◌&&◌, ◌||◌, List, [], ◌∷◌, ◌++◌, Option, Some, None, map, refl, sym, ap, ◌∙◌, subst, inl, inr, arith, append_assoc}
use Rattle.std.specs.List.{AllByRecursion}
use Rattle.std.proofs.lemmas.Bool.{cases_Bool}
use Rattle.java_tree.specs.declared.mark.Mark.{Mark}
use Rattle.java_tree.specs.declared.mark.Mark.TheVariants as marks
use Rattle.java_tree.specs.declared.names.ElementType.{ElementType}
use Rattle.java_tree.specs.declared.names.ElementType.TheVariants as elements
use Rattle.java_tree.specs.declared.names.Ident.{Ident}
use Rattle.java_tree.specs.declared.names.Primitive.{Primitive}
use Rattle.java_tree.specs.declared.names.Primitive.TheVariants as primitives
use Rattle.java_tree.specs.declared.names.TypeUse.{TypeUse}
use Rattle.java_tree.specs.declared.token.Span.{Span}
use Rattle.java_tree.specs.declared.expr.Expr.{Expr}
use Rattle.java_tree.specs.declared.expr.First.{First}
use Rattle.java_tree.specs.declared.expr.First.TheVariants as firsts
use Rattle.java_tree.specs.declared.expr.Initializer.{Initializer}
use Rattle.java_tree.specs.declared.expr.Selector.{Selector}
use Rattle.java_tree.specs.declared.expr.Selector.TheVariants as selectors
use Rattle.java_tree.specs.declared.expr.ArrayInitializer.{ArrayInitializer}
use Rattle.java_tree.specs.declared.expr.Creation.{Creation}
use Rattle.java_tree.specs.declared.expr.Primary.{Primary}
use Rattle.java_model.specs.Grammar.Signs.{mark, left_brace, this, super, word, literal, primitive_mark}
use Rattle.java_model.specs.Grammar.Pieces.{token, the, Around, less, deeper, parted, behind_commas, yield_name, yield_dims, yield_element, yield_type}
use Rattle.java_model.specs.Grammar.YieldExpr.{yield_sizes, yield_super, yield_body, yield_comma, yield_expr, yield_first, yield_selector, yield_initializer, yield_array, yield_creation, yield_primary}
use Rattle.java_model.specs.Grammar.Forms.{IsNonEmpty, IsSingle, begins_with_member, begins_with_index}
use Rattle.java_model.specs.Grammar.Expressions.{Nested, IsElement, IsCreation, IsInnerCreation, IsFirst, literal as a_literal_first, this as a_this_first, parenthesized, class_literal, void_class, qualified_this, super_field, call, super_call, new, new_array_of as array_of, IsNewArray, new_array as sized_array, IsSelector, field, member_call, index, qualified_new, IsPrimary, primary_of, primary_of_name, primary_of_array, IsInitializer, value, of_array, IsBracesOver}
use Rattle.java_model.proofs.Grammar.Yield.{yield_first-Literal, yield_first-This, yield_first-Name, yield_first-Parenthesized, yield_first-ClassLiteral, yield_first-VoidClass, yield_first-QualifiedThis, yield_first-SuperField, yield_first-Call, yield_first-SuperCall, yield_first-New, yield_first-NewArray, yield_first-NewArrayOf, yield_selector-Field, yield_selector-MemberCall, yield_selector-Index, yield_selector-QualifiedNew, yield_initializer-Value, yield_initializer-Array, yield_primary-parts, yield_creation-parts, yield_array-parts}
use Rattle.java_model.proofs.Grammar.Layers.{expr_layers}
use Rattle.java_expr_reading.specs.Shapes.{same_mark, is_word, is_left_brace}
use Rattle.java_expr_reading.specs.Input.{Input, sign, shape, left, next, past_body, Done, Parser, and_then, ◌>>◌, pure, sees, expect, ident, many}
use Rattle.java_expr_reading.specs.Reading.Names.{◌<$>◌, some, sees_member, sees_dim}
use Rattle.java_expr_reading.specs.Reading.Operators.{begins_operand}
use Rattle.java_expr_reading.specs.Reading.Primaries as reading
use Rattle.java_expr_reading.specs.Reading.Primaries.{Nest}
use Rattle.java_expr_reading.specs.declared.shape.Shape.{Shape}
use Rattle.java_expr_reading.specs.declared.shape.Shape.TheVariants as shapes
use Rattle.java_expr_reading.proofs.Taken.{Taken, taken_split, token_shorter, done}
use Rattle.java_expr_reading.proofs.Many.{spread, many-complete}
use Rattle.java_expr_reading.proofs.Tokens.{true_is_not_false, sees-is, sees-at, expect-at, ident-at, literal-at, this-at, super-at, brace-at, body-at}
use Rattle.java_expr_reading.proofs.NameLaws.{sees_dim-at, bracket-seen, name-complete, dims-complete, element-complete, EndsType, type_use-complete}
use Rattle.java_expr_reading.proofs.Nests.{NestComplete, Ends, ends-at, EndsPrimary, begins_expr, each-spread, comma_pieces, behind_commas-spread, bracket_pieces, sizes-spread, less-left, argument_pieces, selector_pieces, element_pieces}

-- ---- marks that stand somewhere

-- another mark stands here
pub not_seen : (m n : Mark) (i : Input) → sign i ≡ Some (mark n) → same_mark n m ≡ false → sees m i ≡ false
not_seen m n i h e = sees-at m n i h ∙ e

pub seen : (m : Mark) (i : Input) → sign i ≡ Some (mark m) → same_mark m m ≡ true → sees m i ≡ true
seen m i h e = sees-at m m i h ∙ e

-- no mark stands here
pub not_seen_brace : (m : Mark) (n : ℕ) (i : Input) → sign i ≡ Some (left_brace n) → sees m i ≡ false
unfolding sees
not_seen_brace m n i h = rw h refl

pub not_seen_super : (m : Mark) (s : Span) (i : Input) → sign i ≡ Some (super s) → sees m i ≡ false
unfolding sees
not_seen_super m s i h = rw h refl

-- a mark with which no expression begins isn't seen where one begins
pub begins-not_seen : (m : Mark) (i : Input) → begins_expr (shape i) ≡ true → begins_expr (shapes.Mark m) ≡ false → sees m i ≡ false
begins-not_seen m i h e =
    elim (cases_Bool (sees m i)) [
      | inl is ↦ let g : begins_expr (shapes.Mark m) ≡ true = rw (sees-is m i is) at h in true_is_not_false (sym g ∙ e)
      | inr isnt ↦ isnt
    ]

begins-no_brace : (s : Shape) → begins_expr s ≡ true → is_left_brace s ≡ false
begins-no_brace shapes.LeftBrace h = absurd cc
begins-no_brace _ h = refl

pub no_dim : (i : Input) → sees marks.LeftBracket i ≡ false → sees_dim i ≡ false
unfolding sees_dim
no_dim i h = rw h refl

no_dim_inside : (i : Input) → sees marks.RightBracket (next i) ≡ false → sees_dim i ≡ false
unfolding sees_dim
no_dim_inside i h = by_test (sees marks.LeftBracket i) (sees marks.RightBracket (next i)) h
  where
    by_test : (a b : Bool) → b ≡ false → (a && b) ≡ false
    by_test true b e = e
    by_test false b e = refl

pub no_member : (i : Input) → sees marks.Dot i ≡ false → sees_member i ≡ false
unfolding sees_member
no_member i h = rw h refl

no_member_behind : (m : Mark) (i : Input) → sign (next i) ≡ Some (mark m) → sees_member i ≡ false
unfolding sees_member
no_member_behind m i h = rw h (by_test (sees marks.Dot i))
  where
    by_test : (a : Bool) → (a && false) ≡ false
    by_test true = refl
    by_test false = refl

super_behind : (s : Span) (k : Input) (a : Bool) → sign (next k) ≡ Some (super s) → (a && is_word (shape (next k))) ≡ false
super_behind s k true h = rw h refl
super_behind s k false h = refl

no_member_super : (s : Span) (k : Input) → sign (next k) ≡ Some (super s) → sees_member k ≡ false
unfolding sees_member
no_member_super s k h = super_behind s k (sees marks.Dot k) h

-- ---- what may follow

-- neither arguments nor the body of a class
pub record Closed (j : Input) : Type 0 where
  pub paren : sees marks.LeftParen j ≡ false
  pub brace : is_left_brace (shape j) ≡ false

pub closed_at : (m : Mark) (j : Input) → sign j ≡ Some (mark m) → same_mark m marks.LeftParen ≡ false → Closed j
closed_at m j h e = record { paren = not_seen marks.LeftParen m j h e; brace = rw h refl }

-- behind a dot nothing that belongs to a name
pub data NotQualified (k : Input) : Type 0 where
  at_new : sign k ≡ Some (mark marks.New) → NotQualified k
  at_super : shape k ≡ shapes.Super → sees marks.Dot (next k) ≡ false → NotQualified k

-- nothing that goes on with a name
pub record EndsName (j : Input) : Type 0 where
  pub closed : Closed j
  pub dim : sees_dim j ≡ false
  pub member : sees_member j ≡ false
  pub dot : sees marks.Dot j ≡ true → NotQualified (next j)

super_is_no_word : (j : Input) → (sees marks.Dot j ≡ true → (shape (next j) ≡ shapes.Super) × (sees marks.Dot (next (next j)) ≡ false)) → sees_member j ≡ false
unfolding sees_member
super_is_no_word j h =
    elim (cases_Bool (sees marks.Dot j)) [
      | inl is ↦ rw (is, (h is).0) refl
      | inr isnt ↦ rw isnt refl
    ]

pub name_ends : (j : Input) → EndsPrimary j → EndsName j
name_ends j e = record {
  closed = record { paren = e.paren; brace = e.brace };
  dim = no_dim j e.bracket;
  member = super_is_no_word j e.dot;
  dot = λ is. at_super (e.dot is).0 (e.dot is).1;
}

module _ (d : ℕ) (N : Nest) (M : Nested) (known : NestComplete d N M) where
  -- ---- arguments

  comma_expr-at : (a : Around) → a.left ≡ less d → (x : Expr) (i j : Input) → M.expr x → Taken (comma_pieces yield_expr x a) i j → Ends 12 j
      → reading.comma_expr d N i ≡ Done (Some x) j
  unfolding reading.comma_expr sees same_mark
  comma_expr-at a l x i j h t e = rw (t.0, known.expr x a (next i) j l h t.1 e) refl

  comma_expr-stop : (j : Input) → sees marks.Comma j ≡ false → reading.comma_expr d N j ≡ Done None j
  unfolding reading.comma_expr
  comma_expr-stop j h = rw h refl

  ends_comma : (i : Input) → sign i ≡ Some (mark marks.Comma) → Ends 12 i
  ends_comma i h = ends-at 12 marks.Comma i h (omega arith) refl

  ends_paren : (i : Input) → sign i ≡ Some (mark marks.RightParen) → Ends 12 i
  ends_paren i h = ends-at 12 marks.RightParen i h (omega arith) refl

  more_arguments : (xs found : List Expr) (a : Around) (i j : Input) → a.left ≡ less d → AllByRecursion M.expr xs
      → Taken (behind_commas (map yield_expr xs) a) i j → sign j ≡ Some (mark marks.RightParen)
      → many (reading.comma_expr d N) found i ≡ Done (found ++ xs) j
  unfolding same_mark
  more_arguments xs found a i j l h t stop =
      many-complete (reading.comma_expr d N) (λ x. comma_pieces yield_expr x a) M.expr (λ k. sign k ≡ Some (mark marks.RightParen)) (Ends 12)
      (λ x y z p g e. comma_expr-at a l x y z p g e) (λ k s. comma_expr-stop k (not_seen marks.Comma marks.RightParen k s refl)) ends_paren
      (λ x y z p g. ends_comma y g.0) (λ x y z p g. token_shorter (mark marks.Comma) (yield_expr x a) y z g)
      xs found i j h (subst (λ ps. Taken ps i j) (behind_commas-spread yield_expr xs a) t) stop

  more_follow : (xs : List Expr) (a : Around) (i j : Input) → Taken (behind_commas (map yield_expr xs) a) i j → sign j ≡ Some (mark marks.RightParen) → Ends 12 i
  more_follow [] a i j t stop = ends_paren i (ap sign t ∙ stop)
  more_follow (x ∷ xs) a i j t stop = ends_comma i t.0

  some_arguments-complete : (x : Expr) (xs : List Expr) (a : Around) (i j : Input) → a.left ≡ less d → M.expr x → AllByRecursion M.expr xs
      → Taken (parted (map yield_expr (x ∷ xs)) a ++ the marks.RightParen ∷ []) i j → (reading.some_arguments d N i ≡ Done (x ∷ xs) j) × (begins_expr (shape i) ≡ true)
  unfolding reading.some_arguments same_mark
  some_arguments-complete x xs a i j l h hs t =
      taken_split (yield_expr x a ++ behind_commas (map yield_expr xs) a) (the marks.RightParen ∷ []) i j t (λ k before end.
      taken_split (yield_expr x a) (behind_commas (map yield_expr xs) a) i k before (λ m first others.
      let read = known.expr x a i m l h first (more_follow xs a m k others end.0) in
      (rw (read, more_arguments xs (x ∷ []) a m k l hs others end.0, expect-at marks.RightParen k refl end.0, end.1) refl, known.begins x i m read)))

  pub arguments-complete : (xs : List Expr) (a : Around) (i j : Input) → a.left ≡ d → AllByRecursion M.expr xs → Taken (argument_pieces xs a) i j
      → reading.arguments d N i ≡ Done xs j
  unfolding reading.arguments same_mark
  arguments-complete [] a i j l h t =
      rw (expect-at marks.LeftParen i refl t.0, seen marks.RightParen (next i) t.1.0 refl, t.1.1) refl
  arguments-complete (x ∷ xs) a i j l h t =
      let inner = some_arguments-complete x xs (deeper a) (next i) j (less-left a d l) h.0 h.1 t.1 in
      rw (expect-at marks.LeftParen i refl t.0, begins-not_seen marks.RightParen (next i) inner.1 refl) inner.0

  -- ---- brackets

  pub record IsInBrackets (x : Expr) (i j : Input) : Type 0 where
    pub read : reading.in_brackets d N i ≡ Done x j
    pub no_dim : sees marks.RightBracket (next i) ≡ false

  pub in_brackets-complete : (x : Expr) (a : Around) (i j : Input) → a.left ≡ d → M.expr x → Taken (bracket_pieces x a) i j → IsInBrackets x i j
  unfolding reading.in_brackets same_mark
  in_brackets-complete x a i j l h t =
      taken_split (yield_expr x (deeper a)) (the marks.RightBracket ∷ []) (next i) j t.1 (λ k inner end.
      let read = known.expr x (deeper a) (next i) k (less-left a d l) h inner (ends-at 12 marks.RightBracket k end.0 (omega arith) refl) in
      record {
        read = rw (expect-at marks.LeftBracket i refl t.0, read, expect-at marks.RightBracket k refl end.0, end.1) refl;
        no_dim = begins-not_seen marks.RightBracket (next i) (known.begins x (next i) k read) refl;
      })

  size-at : (a : Around) → a.left ≡ d → (x : Expr) (i j : Input) → M.expr x → Taken (bracket_pieces x a) i j → reading.size d N i ≡ Done (Some x) j
  unfolding reading.size
  size-at a l x i j h t =
      let inner = in_brackets-complete x a i j l h t in
      rw (bracket-seen i t.0, inner.no_dim, inner.read) refl

  size-stop : (j : Input) → reading.sees_size d N j ≡ false → reading.size d N j ≡ Done None j
  unfolding reading.size
  size-stop j h = rw h refl

  sizes-complete : (xs found : List Expr) (a : Around) (i j : Input) → a.left ≡ d → AllByRecursion M.expr xs → Taken (spread (λ x. bracket_pieces x a) xs) i j
      → reading.sees_size d N j ≡ false → many (reading.size d N) found i ≡ Done (found ++ xs) j
  sizes-complete xs found a i j l h t stop =
      many-complete (reading.size d N) (λ x. bracket_pieces x a) M.expr (λ k. reading.sees_size d N k ≡ false) (λ k. Unit {0})
      (λ x y z p g e. size-at a l x y z p g) size-stop (λ k s. tt) (λ x y z p g. tt)
      (λ x y z p g. token_shorter (mark marks.LeftBracket) (yield_expr x (deeper a) ++ the marks.RightBracket ∷ []) y z g)
      xs found i j h t stop

  -- ---- creations

  optional_body-complete : (n : List Ident) (b : Option ℕ) (a : Around) (i j : Input) → a.left ≡ d → Taken (yield_body n b a) i j → is_left_brace (shape j) ≡ false
      → reading.optional_body d N i ≡ Done b j
  unfolding reading.optional_body
  optional_body-complete n None a i j l t stop = rw (t, stop) refl
  optional_body-complete n (Some at) a i j l t stop =
      rw (t.0, body-at d i at t.0) (ap (λ x. done (Some at) (past_body x i)) (sym l) ∙ ap (done (Some at)) t.1)

  creation_of-complete : (c : Creation) (a : Around) (i k j : Input) → a.left ≡ d → AllByRecursion M.expr c.arguments
      → Taken (argument_pieces c.arguments a) i k → Taken (yield_body c.class c.body a) k j → is_left_brace (shape j) ≡ false
      → reading.creation_of d N c.class i ≡ Done c j
  unfolding reading.creation_of
  creation_of-complete c a i k j l h t b stop = rw (arguments-complete c.arguments a i k l h t, optional_body-complete c.class c.body a k j l b stop) refl

  -- ---- `new`

  new_class-complete : (c : Creation) (a : Around) (i j : Input) → a.left ≡ d → IsCreation M c → Taken (yield_creation c a) i j → is_left_brace (shape j) ≡ false
      → reading.new_first d N i ≡ Done (firsts.New c) j
  unfolding reading.new_first reading.new_with same_mark
  new_class-complete c a i j l h t stop =
      taken_split (yield_name c.class ++ argument_pieces c.arguments a) (yield_body c.class c.body a) i j (subst (λ ps. Taken ps i j) (yield_creation-parts c a) t) (λ m before last.
      taken_split (yield_name c.class) (argument_pieces c.arguments a) i m before (λ k named args.
      let no_bracket = not_seen marks.LeftBracket marks.LeftParen k args.0 refl in
      rw (
        element-complete (elements.Named c.class) i k h.0 named (no_member k (not_seen marks.Dot marks.LeftParen k args.0 refl)),
        no_dim k no_bracket,
        no_bracket,
        creation_of-complete c a k m j l h.1 args last stop,
      ) refl))

  new_array_of-complete : (t : ElementType) (n : ℕ) (b : ArrayInitializer) (a : Around) (i j : Input) → a.left ≡ d → IsElement t → M.braces b
      → Taken (yield_element t ++ yield_dims (suc n) ++ yield_array b a) i j → reading.new_first d N i ≡ Done (firsts.NewArrayOf t (suc n) b) j
  unfolding reading.new_first reading.new_with reading.new_array_of same_mark
  new_array_of-complete t n b a i j l h g s =
      taken_split (yield_element t ++ yield_dims (suc n)) (yield_array b a) i j s (λ m before array.
      taken_split (yield_element t) (yield_dims (suc n)) i m before (λ k named sized.
      let opens = array_opens b a m j array in
      rw (
        element-complete t i k h named (no_member k (not_seen marks.Dot marks.LeftBracket k sized.0 refl)),
        sees_dim-at k sized.0 sized.1.0,
        dims-complete (suc n) k m sized (no_dim m (not_seen_brace marks.LeftBracket b.brace m opens)),
        known.braces b a m j l g array,
      ) refl))
    where
      array_opens : (b : ArrayInitializer) (a : Around) (m j : Input) → Taken (yield_array b a) m j → sign m ≡ Some (left_brace b.brace)
      array_opens b a m j t = (subst (λ ps. Taken ps m j) (yield_array-parts b a) t).0

  dims_are_no_size : (n : ℕ) (i j : Input) → Taken (yield_dims n) i j → sees marks.LeftBracket j ≡ false → reading.sees_size d N i ≡ false
  unfolding same_mark
  dims_are_no_size zero i j t stop = rw (t, stop) refl
  dims_are_no_size (suc n) i j t stop = rw (bracket-seen i t.0, seen marks.RightBracket (next i) t.1.0 refl) refl

  new_array-complete : (t : ElementType) (x : Expr) (xs : List Expr) (n : ℕ) (a : Around) (i j : Input) → a.left ≡ d → IsElement t → M.expr x → AllByRecursion M.expr xs
      → Taken (yield_element t ++ yield_sizes (map yield_expr (x ∷ xs)) a ++ yield_dims n) i j → sees marks.LeftBracket j ≡ false
      → reading.new_first d N i ≡ Done (firsts.NewArray t (x ∷ xs) n) j
  unfolding reading.new_first reading.new_with reading.new_array same_mark
  new_array-complete t x xs n a i j l h g gs s stop =
      taken_split (yield_element t ++ yield_sizes (map yield_expr (x ∷ xs)) a) (yield_dims n) i j s (λ m before sized.
      taken_split (yield_element t) (yield_sizes (map yield_expr (x ∷ xs)) a) i m before (λ k named sizes.
      taken_split (bracket_pieces x a) (spread (λ y. bracket_pieces y a) xs) k m (subst (λ ps. Taken ps k m) (sizes-spread (x ∷ xs) a) sizes) (λ o first others.
      let one = in_brackets-complete x a k o l g first in
      rw (
        element-complete t i k h named (no_member k (not_seen marks.Dot marks.LeftBracket k first.0 refl)),
        no_dim_inside k one.no_dim,
        bracket-seen k first.0,
        one.read,
        sizes-complete xs (x ∷ []) a o m l gs others (dims_are_no_size n m j sized stop),
        dims-complete n m j sized (no_dim j stop),
      ) refl)))

  -- ---- `super`

  super_first-field : (n : Option (List Ident)) (s : Span) (w : Ident) (i j : Input) → Taken (yield_super None s w) i j → sees marks.LeftParen j ≡ false
      → reading.super_first d N n i ≡ Done (firsts.SuperField n s w) j
  unfolding reading.super_first same_mark
  super_first-field n s w i j t stop =
      rw (super-at i s t.0, expect-at marks.Dot (next i) refl t.1.0, ident-at (next (next i)) w t.1.1.0, t.1.1.1, stop) refl

  super_first-call : (n : Option (List Ident)) (s : Span) (w : Ident) (args : List Expr) (a : Around) (i j : Input) → a.left ≡ d → AllByRecursion M.expr args
      → Taken (yield_super None s w ++ argument_pieces args a) i j → reading.super_first d N n i ≡ Done (firsts.SuperCall n s w args) j
  unfolding reading.super_first same_mark
  super_first-call n s w args a i j l h t =
      rw (
        super-at i s t.0,
        expect-at marks.Dot (next i) refl t.1.0,
        ident-at (next (next i)) w t.1.1.0,
        seen marks.LeftParen (next (next (next i))) t.1.1.1.0 refl,
        arguments-complete args a (next (next (next i))) j l h t.1.1.1,
      ) refl

  -- ---- class literals

  class_literal-complete : (t : TypeUse) (k j : Input) → Taken (the marks.Dot ∷ the marks.Class ∷ []) k j → reading.class_literal t k ≡ Done (firsts.ClassLiteral t) j
  unfolding same_mark
  class_literal-complete t k j h = rw (expect-at marks.Dot k refl h.0, expect-at marks.Class (next k) refl h.1.0, h.1.1) refl

  class_ends : (k j : Input) → Taken (the marks.Dot ∷ the marks.Class ∷ []) k j → EndsType k
  unfolding same_mark
  class_ends k j h = record { member = no_member_behind marks.Class k h.1.0; dim = no_dim k (not_seen marks.LeftBracket marks.Dot k h.0 refl) }

  first_at-primitive : (p : Primitive) → reading.first_at d N (primitive_mark p) ≡ reading.primitive_first d N (Some p)
  first_at-primitive primitives.Boolean = refl
  first_at-primitive primitives.Byte = refl
  first_at-primitive primitives.Short = refl
  first_at-primitive primitives.Char = refl
  first_at-primitive primitives.Int = refl
  first_at-primitive primitives.Long = refl
  first_at-primitive primitives.Float = refl
  first_at-primitive primitives.Double = refl

  primitive_class-complete : (p : Primitive) (n : ℕ) (i j : Input)
      → Taken (yield_type (record { element = elements.Primitive p; dims = n }) ++ the marks.Dot ∷ the marks.Class ∷ []) i j
      → reading.first d N i ≡ Done (firsts.ClassLiteral (record { element = elements.Primitive p; dims = n })) j
  unfolding reading.first
  primitive_class-complete p n i j t =
      let type : TypeUse = record { element = elements.Primitive p; dims = n } in
      taken_split (yield_type type) (the marks.Dot ∷ the marks.Class ∷ []) i j t (λ k named end.
      rw (named.0, first_at-primitive p, type_use-complete type i k tt named (class_ends k j end), class_literal-complete type k j end) refl)

  name_begins : (w : Ident) (ws : List Ident) (i j : Input) → Taken (yield_name (w ∷ ws)) i j → shape i ≡ shapes.Word
  name_begins w ws i j t = rw t.0 refl

  -- behind a name
  named-complete : (n : List Ident) (f : First) (i k j : Input) → IsNonEmpty n → Taken (yield_name n) i k → sees_member k ≡ false
      → reading.named_first d N n k ≡ Done f j → reading.first d N i ≡ Done f j
  unfolding reading.first
  named-complete [] f i k j h t stop e = absurd h
  named-complete (w ∷ ws) f i k j h t stop e = rw (name_begins w ws i k t, name-complete (w ∷ ws) i k h t stop) e

  named_class-complete : (n : List Ident) (m : ℕ) (i j : Input) → IsNonEmpty n
      → Taken (yield_type (record { element = elements.Named n; dims = m }) ++ the marks.Dot ∷ the marks.Class ∷ []) i j
      → reading.first d N i ≡ Done (firsts.ClassLiteral (record { element = elements.Named n; dims = m })) j
  unfolding reading.named_first reading.qualified_first same_mark
  named_class-complete n zero i j h t =
      let type : TypeUse = record { element = elements.Named n; dims = 0 } in
      taken_split (yield_name n ++ []) (the marks.Dot ∷ the marks.Class ∷ []) i j t (λ k before end.
      taken_split (yield_name n) [] i k before (λ l named here.
      named-complete n (firsts.ClassLiteral type) i k j h (subst (λ x. Taken (yield_name n) i x) here named) (no_member_behind marks.Class k end.1.0)
      (rw (not_seen marks.LeftParen marks.Dot k end.0 refl, seen marks.Dot k end.0 refl, end.1.0) (class_literal-complete type k j end))))
  named_class-complete n (suc m) i j h t =
      let type : TypeUse = record { element = elements.Named n; dims = suc m } in
      taken_split (yield_name n ++ yield_dims (suc m)) (the marks.Dot ∷ the marks.Class ∷ []) i j t (λ l before end.
      taken_split (yield_name n) (yield_dims (suc m)) i l before (λ k named sized.
      named-complete n (firsts.ClassLiteral type) i k j h named (no_member k (not_seen marks.Dot marks.LeftBracket k sized.0 refl))
      (rw (
        not_seen marks.LeftParen marks.LeftBracket k sized.0 refl,
        not_seen marks.Dot marks.LeftBracket k sized.0 refl,
        sees_dim-at k sized.0 sized.1.0,
        dims-complete (suc m) k l sized (no_dim l (not_seen marks.LeftBracket marks.Dot l end.0 refl)),
      ) (class_literal-complete type l j end))))

  class_literal_of : (el : ElementType) (n : ℕ) (i j : Input) → IsElement el
      → Taken (yield_type (record { element = el; dims = n }) ++ the marks.Dot ∷ the marks.Class ∷ []) i j
      → reading.first d N i ≡ Done (firsts.ClassLiteral (record { element = el; dims = n })) j
  class_literal_of (elements.Primitive p) n i j h t = primitive_class-complete p n i j t
  class_literal_of (elements.Named m) n i j h t = named_class-complete m n i j h t

  -- ---- what a primary expression begins with

  name_first-complete : (n : List Ident) (i j : Input) → IsNonEmpty n → Taken (yield_name n) i j → EndsName j → reading.first d N i ≡ Done (firsts.Name n) j
  unfolding reading.named_first reading.qualified_first
  name_first-complete n i j h t e =
      named-complete n (firsts.Name n) i j j h t e.member
      (elim (cases_Bool (sees marks.Dot j)) [
        | inl is ↦ rw (e.closed.paren, is) (by_dot (e.dot is))
        | inr isnt ↦ rw (e.closed.paren, isnt, e.dim) refl
      ])
    where
      by_dot : NotQualified (next j) → reading.qualified_by d N n (shape (next j)) j ≡ Done (firsts.Name n) j
      by_dot (at_new g) = rw g refl
      by_dot (at_super g s) = rw (g, s) refl

  qualified_super-complete : (n : List Ident) (f : First) (i k j : Input) (s : Span) → IsNonEmpty n → Taken (yield_name n) i k → sign k ≡ Some (mark marks.Dot)
      → sign (next k) ≡ Some (super s) → sign (next (next k)) ≡ Some (mark marks.Dot) → reading.super_first d N (Some n) (next k) ≡ Done f j → reading.first d N i ≡ Done f j
  unfolding reading.named_first reading.qualified_first same_mark
  qualified_super-complete n f i k j s h t dot at again e =
      named-complete n f i k j h t (no_member_super s k at)
      (rw (not_seen marks.LeftParen marks.Dot k dot refl, seen marks.Dot k dot refl, at, seen marks.Dot (next (next k)) again refl) e)

  qualified_this-complete : (n : List Ident) (s : Span) (i j : Input) → IsNonEmpty n → Taken (yield_name n ++ the marks.Dot ∷ token (this s) ∷ []) i j
      → reading.first d N i ≡ Done (firsts.QualifiedThis n s) j
  unfolding reading.named_first reading.qualified_first sees_member same_mark
  qualified_this-complete n s i j h t =
      taken_split (yield_name n) (the marks.Dot ∷ token (this s) ∷ []) i j t (λ k named end.
      named-complete n (firsts.QualifiedThis n s) i k j h named (rw (seen marks.Dot k end.0 refl, end.1.0) refl)
      (rw (not_seen marks.LeftParen marks.Dot k end.0 refl, seen marks.Dot k end.0 refl, end.1.0, this-at (next k) s end.1.0, end.1.1) refl))

  first_by_form : (f : First) (a : Around) (i j : Input) → a.left ≡ d → IsFirst M f → Taken (yield_first f a) i j → Closed j → reading.first d N i ≡ Done f j
  unfolding reading.first reading.named_first reading.qualified_first same_mark
  first_by_form f a i j l (a_literal_first x e) t stop =
      let u : Taken (token (literal x) ∷ []) i j = rw (e, yield_first-Literal) at t in
      rw (e, u.0, literal-at i x u.0, u.1) refl
  first_by_form f a i j l (a_this_first s e) t stop =
      let u : Taken (token (this s) ∷ []) i j = rw (e, yield_first-This) at t in
      rw (e, u.0, this-at i s u.0, u.1) refl
  first_by_form f a i j l (parenthesized x e h) t stop =
      let u : Taken (the marks.LeftParen ∷ (yield_expr x (deeper a) ++ the marks.RightParen ∷ [])) i j = rw (e, yield_first-Parenthesized) at t in
      taken_split (yield_expr x (deeper a)) (the marks.RightParen ∷ []) (next i) j u.1 (λ k inner end.
      rw (e, u.0, known.expr x (deeper a) (next i) k (less-left a d l) h inner (ends_paren k end.0), expect-at marks.RightParen k refl end.0, end.1) refl)
  first_by_form f a i j l (class_literal x e h) t stop =
      rw e (class_literal_of x.element x.dims i j h (rw (e, yield_first-ClassLiteral) at t))
  first_by_form f a i j l (void_class e) t stop =
      let u : Taken (the marks.Void ∷ the marks.Dot ∷ the marks.Class ∷ []) i j = rw (e, yield_first-VoidClass) at t in
      rw (e, u.0, expect-at marks.Dot (next i) refl u.1.0, expect-at marks.Class (next (next i)) refl u.1.1.0, u.1.1.1) refl
  first_by_form f a i j l (qualified_this n s e h) t stop =
      let u : Taken (yield_name n ++ the marks.Dot ∷ token (this s) ∷ []) i j = rw (e, yield_first-QualifiedThis) at t in
      rw e (qualified_this-complete n s i j h u)
  first_by_form f a i j l (super_field None s w e h) t stop =
      let u : Taken (yield_super None s w) i j = rw (e, yield_first-SuperField) at t in
      rw (e, u.0) (super_first-field None s w i j u stop.paren)
  first_by_form f a i j l (super_field (Some n) s w e h) t stop =
      let u : Taken (yield_name n ++ the marks.Dot ∷ yield_super None s w) i j = rw (e, yield_first-SuperField) at t in
      rw e (taken_split (yield_name n) (the marks.Dot ∷ yield_super None s w) i j u (λ k named end.
      qualified_super-complete n (firsts.SuperField (Some n) s w) i k j s h named end.0 end.1.0 end.1.1.0 (super_first-field (Some n) s w (next k) j end.1 stop.paren)))
  first_by_form f a i j l (call n args e h hs) t stop =
      let u : Taken (yield_name n ++ argument_pieces args a) i j = rw (e, yield_first-Call) at t in
      rw e (taken_split (yield_name n) (argument_pieces args a) i j u (λ k named end.
      named-complete n (firsts.Call n args) i k j h named (no_member k (not_seen marks.Dot marks.LeftParen k end.0 refl))
      (rw (seen marks.LeftParen k end.0 refl, arguments-complete args a k j l hs end) refl)))
  first_by_form f a i j l (super_call None s w args e h hs) t stop =
      let u : Taken (yield_super None s w ++ argument_pieces args a) i j = rw (e, yield_first-SuperCall) at t in
      rw (e, u.0) (super_first-call None s w args a i j l hs u)
  first_by_form f a i j l (super_call (Some n) s w args e h hs) t stop =
      let u : Taken ((yield_name n ++ the marks.Dot ∷ yield_super None s w) ++ argument_pieces args a) i j = rw (e, yield_first-SuperCall) at t in
      rw e (taken_split (yield_name n) (the marks.Dot ∷ (yield_super None s w ++ argument_pieces args a)) i j (subst (λ ps. Taken ps i j) (append_assoc (yield_name n) (the marks.Dot ∷ yield_super None s w) (argument_pieces args a)) u) (λ k named end.
      qualified_super-complete n (firsts.SuperCall (Some n) s w args) i k j s h named end.0 end.1.0 end.1.1.0 (super_first-call (Some n) s w args a (next k) j l hs end.1)))
  first_by_form f a i j l (new c e h) t stop =
      let u : Taken (the marks.New ∷ yield_creation c a) i j = rw (e, yield_first-New) at t in
      rw (e, u.0) (new_class-complete c a (next i) j l h u.1 stop.brace)
  first_by_form f a i j l (array_of x n b e h g) t stop =
      let u : Taken (the marks.New ∷ (yield_element x ++ yield_dims (suc n) ++ yield_array b a)) i j = rw (e, yield_first-NewArrayOf) at t in
      rw (e, u.0) (new_array_of-complete x n b a (next i) j l h g u.1)

  first_of_array : (f : First) (a : Around) (i j : Input) → a.left ≡ d → IsNewArray M f → Taken (yield_first f a) i j → sees marks.LeftBracket j ≡ false
      → reading.first d N i ≡ Done f j
  unfolding reading.first
  first_of_array f a i j l (sized_array x y ys n e h g gs) t stop =
      let u : Taken (the marks.New ∷ (yield_element x ++ yield_sizes (map yield_expr (y ∷ ys)) a ++ yield_dims n)) i j = rw (e, yield_first-NewArray) at t in
      rw (e, u.0) (new_array-complete x y ys n a (next i) j l h g gs u.1 stop)

  -- ---- selectors

  single_name : {C : Type 0} (n : List Ident) → IsSingle n → (i k : Input) → Taken (yield_name n) i k → ((w : Ident) → n ≡ w ∷ [] → (ident i ≡ Done w k) × (sign i ≡ Some (word w)) → C) → C
  single_name [] h i k t f = absurd h
  single_name (w ∷ []) h i k t f = f w refl (ident-at i w t.0 ∙ ap (done w) t.1, t.0)
  single_name (w ∷ v ∷ ws) h i k t f = absurd h

  inner_creation-complete : (c : Creation) (a : Around) (i j : Input) → a.left ≡ d → IsInnerCreation M c → Taken (yield_creation c a) i j → is_left_brace (shape j) ≡ false
      → (some <$> reading.inner_creation d N) i ≡ Done (Some (selectors.QualifiedNew c)) j
  unfolding reading.inner_creation
  inner_creation-complete c a i j l h t stop =
      taken_split (yield_name c.class ++ argument_pieces c.arguments a) (yield_body c.class c.body a) i j (subst (λ ps. Taken ps i j) (yield_creation-parts c a) t) (λ m before last.
      taken_split (yield_name c.class) (argument_pieces c.arguments a) i m before (λ k named args.
      single_name c.class h.0 i k named (λ w same at.
      rw (at.0, ap (λ n. reading.creation_of d N n k) (sym same) ∙ creation_of-complete c a k m j l h.1 args last stop) refl)))

  selector-complete : (s : Selector) (a : Around) (i j : Input) → a.left ≡ d → IsSelector M s → Taken (yield_selector s a) i j → Closed j
      → reading.selector d N i ≡ Done (Some s) j
  unfolding reading.selector reading.member reading.inner_creation same_mark
  selector-complete s a i j l (field w e) t stop =
      let u : Taken (the marks.Dot ∷ token (word w) ∷ []) i j = rw (e, yield_selector-Field) at t in
      rw (e, not_seen marks.LeftBracket marks.Dot i u.0 refl, seen marks.Dot i u.0 refl, u.1.0, ident-at (next i) w u.1.0, u.1.1, stop.paren) refl
  selector-complete s a i j l (member_call w args e h) t stop =
      let u : Taken (the marks.Dot ∷ token (word w) ∷ argument_pieces args a) i j = rw (e, yield_selector-MemberCall) at t in
      rw (
        e,
        not_seen marks.LeftBracket marks.Dot i u.0 refl,
        seen marks.Dot i u.0 refl,
        u.1.0,
        ident-at (next i) w u.1.0,
        seen marks.LeftParen (next (next i)) u.1.1.0 refl,
        arguments-complete args a (next (next i)) j l h u.1.1,
      ) refl
  selector-complete s a i j l (index x e h) t stop =
      let u : Taken (bracket_pieces x a) i j = rw (e, yield_selector-Index) at t in
      let inner = in_brackets-complete x a i j l h u in
      rw (e, bracket-seen i u.0, inner.read) refl
  selector-complete s a i j l (qualified_new c e h) t stop =
      let u : Taken (the marks.Dot ∷ the marks.New ∷ yield_creation c a) i j = rw (e, yield_selector-QualifiedNew) at t in
      rw (e, not_seen marks.LeftBracket marks.Dot i u.0 refl, seen marks.Dot i u.0 refl, u.1.0) (inner_creation-complete c a (next (next i)) j l h u.1.1 stop.brace)

  selector-stop : (j : Input) → EndsPrimary j → reading.selector d N j ≡ Done None j
  unfolding reading.selector
  selector-stop j e =
      elim (cases_Bool (sees marks.Dot j)) [
        | inl is ↦ rw (e.bracket, is, (e.dot is).0) refl
        | inr isnt ↦ rw (e.bracket, isnt) refl
      ]

  selector-begins : (s : Selector) (a : Around) (i j : Input) → a.left ≡ d → IsSelector M s → Taken (yield_selector s a) i j → Closed i
  unfolding same_mark
  selector-begins s a i j l (field w e) t = let u : Taken (the marks.Dot ∷ token (word w) ∷ []) i j = rw (e, yield_selector-Field) at t in closed_at marks.Dot i u.0 refl
  selector-begins s a i j l (member_call w args e h) t = let u : Taken (the marks.Dot ∷ token (word w) ∷ argument_pieces args a) i j = rw (e, yield_selector-MemberCall) at t in closed_at marks.Dot i u.0 refl
  selector-begins s a i j l (index x e h) t = let u : Taken (bracket_pieces x a) i j = rw (e, yield_selector-Index) at t in closed_at marks.LeftBracket i u.0 refl
  selector-begins s a i j l (qualified_new c e h) t = let u : Taken (the marks.Dot ∷ the marks.New ∷ yield_creation c a) i j = rw (e, yield_selector-QualifiedNew) at t in closed_at marks.Dot i u.0 refl

  selector-shorter : (s : Selector) (a : Around) (i j : Input) → IsSelector M s → Taken (yield_selector s a) i j → left j < left i
  selector-shorter s a i j (field w e) t = let u : Taken (the marks.Dot ∷ token (word w) ∷ []) i j = rw (e, yield_selector-Field) at t in token_shorter (mark marks.Dot) (token (word w) ∷ []) i j u
  selector-shorter s a i j (member_call w args e h) t = let u : Taken (the marks.Dot ∷ token (word w) ∷ argument_pieces args a) i j = rw (e, yield_selector-MemberCall) at t in token_shorter (mark marks.Dot) (token (word w) ∷ argument_pieces args a) i j u
  selector-shorter s a i j (index x e h) t = let u : Taken (bracket_pieces x a) i j = rw (e, yield_selector-Index) at t in token_shorter (mark marks.LeftBracket) (yield_expr x (deeper a) ++ the marks.RightBracket ∷ []) i j u
  selector-shorter s a i j (qualified_new c e h) t = let u : Taken (the marks.Dot ∷ the marks.New ∷ yield_creation c a) i j = rw (e, yield_selector-QualifiedNew) at t in token_shorter (mark marks.Dot) (the marks.New ∷ yield_creation c a) i j u

  selectors_closed : (ss : List Selector) (a : Around) (i j : Input) → a.left ≡ d → AllByRecursion (IsSelector M) ss → Taken (selector_pieces ss a) i j → EndsPrimary j → Closed i
  selectors_closed [] a i j l h t e = subst Closed (sym t) (record { paren = e.paren; brace = e.brace })
  selectors_closed (s ∷ ss) a i j l h t e = taken_split (yield_selector s a) (selector_pieces ss a) i j t (λ k first others. selector-begins s a i k l h.0 first)

  selectors-complete : (ss : List Selector) (a : Around) (i j : Input) → a.left ≡ d → AllByRecursion (IsSelector M) ss → Taken (selector_pieces ss a) i j → EndsPrimary j
      → many (reading.selector d N) [] i ≡ Done ss j
  selectors-complete ss a i j l h t e =
      many-complete (reading.selector d N) (λ s. yield_selector s a) (IsSelector M) EndsPrimary Closed
      (λ s x y p g f. selector-complete s a x y l p g f) selector-stop (λ k s. record { paren = s.paren; brace = s.brace })
      (λ s x y p g. selector-begins s a x y l p g) (λ s x y p g. selector-shorter s a x y p g)
      ss [] i j h (subst (λ ps. Taken ps i j) (each-spread yield_selector ss a) t) e

  -- ---- behind a name and behind an array creation

  field_is_member : (w : Ident) (ss : List Selector) → begins_with_member (selectors.Field w ∷ ss) ≡ true
  field_is_member w ss = simp expr_layers

  call_is_member : (w : Ident) (args : List Expr) (ss : List Selector) → begins_with_member (selectors.MemberCall w args ∷ ss) ≡ true
  call_is_member w args ss = simp expr_layers

  index_is_index : (x : Expr) (ss : List Selector) → begins_with_index (selectors.Index x ∷ ss) ≡ true
  index_is_index x ss = simp expr_layers

  name_selector : (s : Selector) (ss : List Selector) (a : Around) (i k : Input) → a.left ≡ d → IsSelector M s → begins_with_member (s ∷ ss) ≡ false
      → Taken (yield_selector s a) i k → EndsName i
  unfolding same_mark
  name_selector s ss a i k l (field w e) m t = true_is_not_false (sym (field_is_member w ss) ∙ ap (λ x. begins_with_member (x ∷ ss)) (sym e) ∙ m)
  name_selector s ss a i k l (member_call w args e h) m t = true_is_not_false (sym (call_is_member w args ss) ∙ ap (λ x. begins_with_member (x ∷ ss)) (sym e) ∙ m)
  name_selector s ss a i k l (index x e h) m t =
      let u : Taken (bracket_pieces x a) i k = rw (e, yield_selector-Index) at t in
      let no_dot = not_seen marks.Dot marks.LeftBracket i u.0 refl in
      record {
        closed = closed_at marks.LeftBracket i u.0 refl;
        dim = no_dim_inside i (let inner = in_brackets-complete x a i k l h u in inner.no_dim);
        member = no_member i no_dot;
        dot = λ is. true_is_not_false (sym is ∙ no_dot);
      }
  name_selector s ss a i k l (qualified_new c e h) m t =
      let u : Taken (the marks.Dot ∷ the marks.New ∷ yield_creation c a) i k = rw (e, yield_selector-QualifiedNew) at t in
      record {
        closed = closed_at marks.Dot i u.0 refl;
        dim = no_dim i (not_seen marks.LeftBracket marks.Dot i u.0 refl);
        member = no_member_behind marks.New i u.1.0;
        dot = λ is. at_new u.1.0;
      }

  name_selectors : (ss : List Selector) (a : Around) (i j : Input) → a.left ≡ d → AllByRecursion (IsSelector M) ss → begins_with_member ss ≡ false
      → Taken (selector_pieces ss a) i j → EndsPrimary j → EndsName i
  name_selectors [] a i j l h m t e = subst EndsName (sym t) (name_ends j e)
  name_selectors (s ∷ ss) a i j l h m t e =
      taken_split (yield_selector s a) (selector_pieces ss a) i j t (λ k first others. name_selector s ss a i k l h.0 m first)

  array_selector : (s : Selector) (ss : List Selector) (a : Around) (i k : Input) → IsSelector M s → begins_with_index (s ∷ ss) ≡ false
      → Taken (yield_selector s a) i k → sees marks.LeftBracket i ≡ false
  unfolding same_mark
  array_selector s ss a i k (field w e) m t = let u : Taken (the marks.Dot ∷ token (word w) ∷ []) i k = rw (e, yield_selector-Field) at t in not_seen marks.LeftBracket marks.Dot i u.0 refl
  array_selector s ss a i k (member_call w args e h) m t = let u : Taken (the marks.Dot ∷ token (word w) ∷ argument_pieces args a) i k = rw (e, yield_selector-MemberCall) at t in not_seen marks.LeftBracket marks.Dot i u.0 refl
  array_selector s ss a i k (index x e h) m t = true_is_not_false (sym (index_is_index x ss) ∙ ap (λ y. begins_with_index (y ∷ ss)) (sym e) ∙ m)
  array_selector s ss a i k (qualified_new c e h) m t = let u : Taken (the marks.Dot ∷ the marks.New ∷ yield_creation c a) i k = rw (e, yield_selector-QualifiedNew) at t in not_seen marks.LeftBracket marks.Dot i u.0 refl

  array_selectors : (ss : List Selector) (a : Around) (i j : Input) → AllByRecursion (IsSelector M) ss → begins_with_index ss ≡ false
      → Taken (selector_pieces ss a) i j → EndsPrimary j → sees marks.LeftBracket i ≡ false
  array_selectors [] a i j h m t e = subst (λ x. sees marks.LeftBracket x ≡ false) (sym t) e.bracket
  array_selectors (s ∷ ss) a i j h m t e =
      taken_split (yield_selector s a) (selector_pieces ss a) i j t (λ k first others. array_selector s ss a i k h.0 m first)

  -- ---- primary expressions

  first_is_no_array : (f : First) → IsFirst M f → reading.is_new_array f ≡ false
  first_is_no_array f (a_literal_first x e) = rw e (simp expr_layers)
  first_is_no_array f (a_this_first s e) = rw e (simp expr_layers)
  first_is_no_array f (parenthesized x e h) = rw e (simp expr_layers)
  first_is_no_array f (class_literal x e h) = rw e (simp expr_layers)
  first_is_no_array f (void_class e) = rw e (simp expr_layers)
  first_is_no_array f (qualified_this n s e h) = rw e (simp expr_layers)
  first_is_no_array f (super_field n s w e h) = rw e (simp expr_layers)
  first_is_no_array f (call n args e h hs) = rw e (simp expr_layers)
  first_is_no_array f (super_call n s w args e h hs) = rw e (simp expr_layers)
  first_is_no_array f (new c e h) = rw e (simp expr_layers)
  first_is_no_array f (array_of x n b e h g) = rw e (simp expr_layers)

  name_is_no_array : (n : List Ident) → reading.is_new_array (firsts.Name n) ≡ false
  name_is_no_array n = simp expr_layers

  no_bracket_behind : (b : Bool) (k : Input) → sees marks.LeftBracket k ≡ false → (b && sees marks.LeftBracket k) ≡ false
  no_bracket_behind true k h = h
  no_bracket_behind false k h = refl

  primary_of_parts : (f : First) (ss : List Selector) (i k j : Input) → reading.first d N i ≡ Done f k → (reading.is_new_array f && sees marks.LeftBracket k) ≡ false
      → many (reading.selector d N) [] k ≡ Done ss j → reading.primary d N i ≡ Done (record { first = f; selectors = ss }) j
  unfolding reading.primary reading.selectors_of
  primary_of_parts f ss i k j g h e = rw (g, h, e) refl

  selectors_in : (p : Primary) → IsPrimary M p → AllByRecursion (IsSelector M) p.selectors
  selectors_in p (primary_of h hs) = hs
  selectors_in p (primary_of_name n same h m hs) = hs
  selectors_in p (primary_of_array h m hs) = hs

  pub first_of_primary : (p : Primary) (a : Around) (i k j : Input) → a.left ≡ d → IsPrimary M p → Taken (yield_first p.first a) i k
      → Taken (selector_pieces p.selectors a) k j → EndsPrimary j → reading.first d N i ≡ Done p.first k
  first_of_primary p a i k j l (primary_of h hs) first others e = first_by_form p.first a i k l h first (selectors_closed p.selectors a k j l hs others e)
  first_of_primary p a i k j l (primary_of_name n same h m hs) first others e =
      rw same (name_first-complete n i k h (rw (same, yield_first-Name) at first) (name_selectors p.selectors a k j l hs m others e))
  first_of_primary p a i k j l (primary_of_array h m hs) first others e = first_of_array p.first a i k l h first (array_selectors p.selectors a k j hs m others e)

  no_index_behind : (p : Primary) (a : Around) (k j : Input) → IsPrimary M p → Taken (selector_pieces p.selectors a) k j → EndsPrimary j
      → (reading.is_new_array p.first && sees marks.LeftBracket k) ≡ false
  no_index_behind p a k j (primary_of h hs) others e = ap (λ b. b && sees marks.LeftBracket k) (first_is_no_array p.first h)
  no_index_behind p a k j (primary_of_name n same h m hs) others e =
      ap (λ f. reading.is_new_array f && sees marks.LeftBracket k) same ∙ ap (λ b. b && sees marks.LeftBracket k) (name_is_no_array n)
  no_index_behind p a k j (primary_of_array h m hs) others e = no_bracket_behind (reading.is_new_array p.first) k (array_selectors p.selectors a k j hs m others e)

  pub primary-complete : (p : Primary) (a : Around) (i j : Input) → a.left ≡ d → IsPrimary M p → Taken (yield_primary p a) i j → EndsPrimary j
      → reading.primary d N i ≡ Done p j
  primary-complete p a i j l h t e =
      taken_split (yield_first p.first a) (selector_pieces p.selectors a) i j (subst (λ ps. Taken ps i j) (yield_primary-parts p a) t) (λ k first others.
      primary_of_parts p.first p.selectors i k j (first_of_primary p a i k j l h first others e) (no_index_behind p a k j h others e)
      (selectors-complete p.selectors a k j l (selectors_in p h) others e))

  -- no operand begins behind what a primary expression begins with
  selector_is_no_operand : (s : Selector) (a : Around) (i j : Input) → IsSelector M s → Taken (yield_selector s a) i j → begins_operand (shape i) ≡ false
  selector_is_no_operand s a i j (field w e) t = let u : Taken (the marks.Dot ∷ token (word w) ∷ []) i j = rw (e, yield_selector-Field) at t in rw u.0 refl
  selector_is_no_operand s a i j (member_call w args e h) t = let u : Taken (the marks.Dot ∷ token (word w) ∷ argument_pieces args a) i j = rw (e, yield_selector-MemberCall) at t in rw u.0 refl
  selector_is_no_operand s a i j (index x e h) t = let u : Taken (bracket_pieces x a) i j = rw (e, yield_selector-Index) at t in rw u.0 refl
  selector_is_no_operand s a i j (qualified_new c e h) t = let u : Taken (the marks.Dot ∷ the marks.New ∷ yield_creation c a) i j = rw (e, yield_selector-QualifiedNew) at t in rw u.0 refl

  pub selectors_are_no_operand : (p : Primary) (a : Around) (i j : Input) → IsPrimary M p → Taken (selector_pieces p.selectors a) i j → begins_operand (shape j) ≡ false
      → begins_operand (shape i) ≡ false
  selectors_are_no_operand p a i j h t e = by_list p.selectors a i j (selectors_in p h) t e
    where
      by_list : (ss : List Selector) (a : Around) (i j : Input) → AllByRecursion (IsSelector M) ss → Taken (selector_pieces ss a) i j → begins_operand (shape j) ≡ false → begins_operand (shape i) ≡ false
      by_list [] a i j h t e = ap (λ x. begins_operand (shape x)) t ∙ e
      by_list (s ∷ ss) a i j h t e = taken_split (yield_selector s a) (selector_pieces ss a) i j t (λ k first others. selector_is_no_operand s a i k h.0 first)

  -- ---- array initializers

  -- an initializer begins neither with `}` nor with a comma
  pub record IsInitializerRead (x : Initializer) (i j : Input) : Type 0 where
    pub read : reading.initializer d N i ≡ Done x j
    pub no_close : sees marks.RightBrace i ≡ false
    pub no_comma : sees marks.Comma i ≡ false

  initializer-complete : (x : Initializer) (a : Around) (i j : Input) → a.left ≡ d → IsInitializer M x → Taken (yield_initializer x a) i j → Ends 12 j → IsInitializerRead x i j
  unfolding reading.initializer
  initializer-complete x a i j l (value y e h) t stop =
      let u : Taken (yield_expr y (deeper a)) i j = rw (e, yield_initializer-Value) at t in
      let read = known.expr y (deeper a) i j (less-left a d l) h u stop in
      let begins = known.begins y i j read in
      record {
        read = rw (e, begins-no_brace (shape i) begins, read) refl;
        no_close = begins-not_seen marks.RightBrace i begins refl;
        no_comma = begins-not_seen marks.Comma i begins refl;
      }
  initializer-complete x a i j l (of_array b e h) t stop =
      let u : Taken (yield_array b a) i j = rw (e, yield_initializer-Array) at t in
      let opens = (subst (λ ps. Taken ps i j) (yield_array-parts b a) u).0 in
      record {
        read = rw (e, opens, known.braces b a i j l h u) refl;
        no_close = not_seen_brace marks.RightBrace b.brace i opens;
        no_comma = not_seen_brace marks.Comma b.brace i opens;
      }

  comma_initializer-at : (a : Around) → a.left ≡ d → (x : Initializer) (i j : Input) → IsInitializer M x → Taken (comma_pieces yield_initializer x a) i j → Ends 12 j
      → reading.comma_initializer d N i ≡ Done (Some x) j
  unfolding reading.comma_initializer same_mark
  comma_initializer-at a l x i j h t e =
      let inner = initializer-complete x a (next i) j l h t.1 e in
      rw (seen marks.Comma i t.0 refl, inner.no_close, inner.read) refl

  comma_initializer-stop : (j : Input) → reading.sees_more d N j ≡ false → reading.comma_initializer d N j ≡ Done None j
  unfolding reading.comma_initializer
  comma_initializer-stop j h = rw h refl

  -- a comma or `}` stands here, and no further element
  pub record EndsElements (j : Input) : Type 0 where
    pub no_more : reading.sees_more d N j ≡ false
    pub ends : Ends 12 j

  more_elements : (xs found : List Initializer) (a : Around) (i j : Input) → a.left ≡ d → AllByRecursion (IsInitializer M) xs
      → Taken (behind_commas (map yield_initializer xs) a) i j → EndsElements j → many (reading.comma_initializer d N) found i ≡ Done (found ++ xs) j
  more_elements xs found a i j l h t stop =
      many-complete (reading.comma_initializer d N) (λ x. comma_pieces yield_initializer x a) (IsInitializer M) EndsElements (Ends 12)
      (λ x y z p g e. comma_initializer-at a l x y z p g e) (λ k s. comma_initializer-stop k s.no_more) (λ k s. s.ends)
      (λ x y z p g. ends_comma y g.0) (λ x y z p g. token_shorter (mark marks.Comma) (yield_initializer x a) y z g)
      xs found i j h (subst (λ ps. Taken ps i j) (behind_commas-spread yield_initializer xs a) t) stop

  elements_follow : (xs : List Initializer) (a : Around) (i j : Input) → Taken (behind_commas (map yield_initializer xs) a) i j → EndsElements j → Ends 12 i
  elements_follow [] a i j t stop = subst (Ends 12) (sym t) stop.ends
  elements_follow (x ∷ xs) a i j t stop = ends_comma i t.0

  neither : (a b : Bool) → a ≡ false → b ≡ false → (a || b) ≡ false
  neither true b h g = absurd cc
  neither false b h g = g

  elements_of-complete : (xs : List Initializer) (a : Around) (i j : Input) → a.left ≡ d → AllByRecursion (IsInitializer M) xs → Taken (element_pieces xs a) i j
      → EndsElements j → (sees marks.RightBrace j || sees marks.Comma j) ≡ true → reading.elements_of d N i ≡ Done xs j
  unfolding reading.elements_of
  elements_of-complete [] a i j l h t stop here = rw (t, here) refl
  elements_of-complete (x ∷ xs) a i j l h t stop here =
      taken_split (yield_initializer x a) (behind_commas (map yield_initializer xs) a) i j t (λ k first others.
      let one = initializer-complete x a i k l h.0 first (elements_follow xs a k j others stop) in
      rw (neither (sees marks.RightBrace i) (sees marks.Comma i) one.no_close one.no_comma, one.read) (more_elements xs (x ∷ []) a k j l h.1 others stop))

  elements_end : (c : Bool) (i j : Input) → Taken (yield_comma c ++ the marks.RightBrace ∷ []) i j → EndsElements i × ((sees marks.RightBrace i || sees marks.Comma i) ≡ true)
  unfolding same_mark
  elements_end true i j t = (
    record { no_more = rw (seen marks.Comma i t.0 refl, seen marks.RightBrace (next i) t.1.0 refl) refl; ends = ends_comma i t.0 },
    rw (not_seen marks.RightBrace marks.Comma i t.0 refl, seen marks.Comma i t.0 refl) refl,
  )
  elements_end false i j t = (
    record { no_more = rw (not_seen marks.Comma marks.RightBrace i t.0 refl) refl; ends = ends-at 12 marks.RightBrace i t.0 (omega arith) refl },
    rw (seen marks.RightBrace i t.0 refl) refl,
  )

  closing : ℕ → List Initializer → Bool → Parser ArrayInitializer
  closing n xs c = expect marks.RightBrace >> pure (record { brace = n; elements = xs; comma = c })

  braces_end : (c : Bool) (n : ℕ) (xs : List Initializer) (i j : Input) → Taken (yield_comma c ++ the marks.RightBrace ∷ []) i j
      → and_then (reading.last_comma d N i) (λ e. closing n xs e) ≡ Done (record { brace = n; elements = xs; comma = c }) j
  unfolding reading.last_comma same_mark closing
  braces_end true n xs i j t = rw (seen marks.Comma i t.0 refl, expect-at marks.RightBrace (next i) refl t.1.0, t.1.1) refl
  braces_end false n xs i j t = rw (not_seen marks.Comma marks.RightBrace i t.0 refl, expect-at marks.RightBrace i refl t.0, t.1) refl

  pub braces_over-complete : (b : ArrayInitializer) (a : Around) (i j : Input) → a.left ≡ suc d → IsBracesOver M b → Taken (yield_array b a) i j
      → reading.braces_over d N i ≡ Done b j
  unfolding reading.braces_over closing
  braces_over-complete b a i j l h t =
      let u = subst (λ ps. Taken ps i j) (yield_array-parts b a) t in
      taken_split (element_pieces b.elements (deeper a)) (yield_comma b.comma ++ the marks.RightBrace ∷ []) (next i) j (subst (λ ps. Taken ps (next i) j) (append_assoc (element_pieces b.elements (deeper a)) (yield_comma b.comma) (the marks.RightBrace ∷ [])) u.1) (λ k inner end.
      let stop = elements_end b.comma k j end in
      rw (brace-at i b.brace u.0, elements_of-complete b.elements (deeper a) (next i) k (less-left a (suc d) l) h inner stop.0 stop.1) (braces_end b.comma b.brace b.elements k j end))
