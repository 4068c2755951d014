-- What is read as a primary expression is one.
use Rattle.std.proofs.Common.{◌≡◌, ℕ, zero, suc, ◌≤◌, Bool, true, false, ◌&&◌, ◌||◌, not, List, [], ◌∷◌, ◌++◌, Option, Some, None, map, refl, sym, ap, ◌∙◌, subst, inl, inr, append_assoc}
use Rattle.std.specs.List.{AllByRecursion}
use Rattle.std.proofs.lemmas.Bool.{cases_Bool}
use Rattle.std.proofs.lemmas.Option.{same_Some}
use Rattle.java_tree.specs.declared.mark.Mark.{Mark}
use Rattle.java_tree.specs.declared.mark.Mark.TheVariants as marks
use Rattle.java_tree.specs.declared.names.ElementType.{ElementType}
use Rattle.java_tree.specs.declared.names.ElementType.TheVariants as elements
use Rattle.java_tree.specs.declared.names.Ident.{Ident}
use Rattle.java_tree.specs.declared.names.Primitive.{Primitive}
use Rattle.java_tree.specs.declared.names.TypeUse.{TypeUse}
use Rattle.java_tree.specs.declared.token.Span.{Span}
use Rattle.java_tree.specs.declared.expr.Expr.{Expr}
use Rattle.java_tree.specs.declared.expr.First.{First}
use Rattle.java_tree.specs.declared.expr.First.TheVariants as firsts
use Rattle.java_tree.specs.declared.expr.Initializer.{Initializer}
use Rattle.java_tree.specs.declared.expr.Initializer.TheVariants as initializers
use Rattle.java_tree.specs.declared.expr.Selector.{Selector}
use Rattle.java_tree.specs.declared.expr.Selector.TheVariants as selectors
use Rattle.java_tree.specs.declared.expr.ArrayInitializer.{ArrayInitializer}
use Rattle.java_tree.specs.declared.expr.Creation.{Creation}
use Rattle.java_tree.specs.declared.expr.Primary.{Primary}
use Rattle.java_tree.specs.declared.unit.TypePlace.TheVariants as places
use Rattle.java_model.specs.Grammar.Signs.{mark, this, super, word}
use Rattle.java_model.specs.Grammar.Pieces.{token, the, Around, less, deeper, parted, behind_commas, yield_name, yield_dims, yield_element, yield_type}
use Rattle.java_model.specs.Grammar.YieldExpr.{yield_sizes, yield_super, yield_body, yield_comma, yield_expr, yield_first, yield_selector, yield_initializer, yield_array, yield_primary}
use Rattle.java_model.specs.Grammar.Forms.{IsNonEmpty, IsSingle, begins_with_member, begins_with_index}
use Rattle.java_model.specs.Grammar.Expressions.{Nested, IsType, IsFirst, literal as a_literal_first, this as a_this_first, parenthesized, class_literal, void_class, qualified_this, super_field, call, super_call, new, new_array_of as array_of, IsNewArray, new_array as sized_array, IsSelector, field, member_call, index, qualified_new, IsPrimary, primary_of, primary_of_name, primary_of_array, IsInitializer, value, of_array, IsBracesOver}
use Rattle.java_model.specs.Grammar.Readings.{primitive_of}
use Rattle.java_model.proofs.Grammar.Yield.{yield_first-Literal, yield_first-This, yield_first-Name, yield_first-Parenthesized, yield_first-ClassLiteral, yield_first-VoidClass, yield_first-QualifiedThis, yield_first-SuperField, yield_first-Call, yield_first-SuperCall, yield_first-New, yield_first-NewArray, yield_first-NewArrayOf, yield_selector-Field, yield_selector-MemberCall, yield_selector-Index, yield_selector-QualifiedNew, yield_initializer-Value, yield_initializer-Array, yield_primary-parts, yield_creation-parts, yield_array-parts}
use Rattle.java_model.proofs.Grammar.Layers.{expr_layers}
use Rattle.java_expr_reading.specs.Shapes.{is_left_brace}
use Rattle.java_expr_reading.specs.Input.{Input, sign, shape, next, Done, ◌>>=◌, ◌>>◌, pure, sees, expect, ident, a_literal, a_this, a_super, brace, body, many}
use Rattle.java_expr_reading.specs.Reading.Names.{◌<$>◌, some, sees_member, sees_dim, name, dims, element, type_use}
use Rattle.java_expr_reading.specs.Reading.Primaries as reading
use Rattle.java_expr_reading.specs.Reading.Primaries.{Nest}
use Rattle.java_expr_reading.specs.declared.shape.Shape.{Shape}
use Rattle.java_expr_reading.specs.declared.shape.Shape.TheVariants as shapes
use Rattle.java_expr_reading.proofs.Taken.{Fit, fit_both, inv, done, done_value, done_input}
use Rattle.java_expr_reading.proofs.Many.{spread, IsRead, many-sound}
use Rattle.java_expr_reading.proofs.Tokens.{fails, outcome, true_is_not_false, sees-is, expect-taken, ident-taken, literal-taken, this-taken, super-taken, brace-taken, body-fit}
use Rattle.java_expr_reading.proofs.NameLaws.{sees_member-at, bracket-seen, both_true, mapped, none_is_not_some, shape_mark, somewhere, IsName, name-sound, dims-sound, IsElementRead, element-sound, type_use-sound}
use Rattle.java_expr_reading.proofs.Nests.{NestSound, each-spread, comma_pieces, behind_commas-spread, bracket_pieces, sizes-spread, less-left, argument_pieces, selector_pieces, element_pieces}

-- what a primary expression begins with, before what follows it
pub data IsBegun (M : Nested) (j : Input) (f : First) : Type 0 where
  begun : IsFirst M f → IsBegun M j f
  begun_name : (n : List Ident) → f ≡ firsts.Name n → IsNonEmpty n → sees_member j ≡ false → IsBegun M j f
  begun_array : IsNewArray M f → IsBegun M j f

pub record FirstRead (d : ℕ) (M : Nested) (i j : Input) (f : First) : Type 0 where
  pub shape : IsBegun M j f
  pub taken : (a : Around) → a.left ≡ d → Fit (yield_first f a) i j

module _ (d : ℕ) (N : Nest) (M : Nested) (known : NestSound d N M) (fits : d ≤ 256) where
  -- ---- arguments

  comma_expr-some : (x : Expr) (i j : Input) → reading.comma_expr d N i ≡ Done (Some x) j → IsRead M.expr (comma_pieces yield_expr) (less d) i j x
  unfolding reading.comma_expr
  comma_expr-some x i j e =
      elim (cases_Bool (sees marks.Comma i)) [
        | inl is ↦
            let r : (some <$> N.expr) (next i) ≡ Done (Some x) j = rw is at e in
            mapped (N.expr (next i)) some (Some x) j r (λ y g same.
            let read = known.expr x (next i) j (subst (λ z. N.expr (next i) ≡ Done z j) (sym (same_Some x y same)) g) in
            record { shape = read.shape; taken = λ a b. (sees-is marks.Comma i is, read.taken a b) })
        | inr isnt ↦ none_is_not_some x (done_value None (Some x) i j (rw isnt at e))
      ]

  comma_expr-none : (i j : Input) → reading.comma_expr d N i ≡ Done None j → i ≡ j
  unfolding reading.comma_expr
  comma_expr-none i j e =
      elim (cases_Bool (sees marks.Comma i)) [
        | inl is ↦
            let r : (some <$> N.expr) (next i) ≡ Done None j = rw is at e in
            mapped (N.expr (next i)) some None j r (λ y g same. none_is_not_some y same)
        | inr isnt ↦ done_input None None i j (rw isnt at e)
      ]

  some_arguments-sound : (xs : List Expr) (i j : Input) → reading.some_arguments d N i ≡ Done xs j
      → IsRead (AllByRecursion M.expr) (λ ys a. parted (map yield_expr ys) (deeper a) ++ the marks.RightParen ∷ []) d i j xs
  unfolding reading.some_arguments
  some_arguments-sound xs i j e =
      outcome (N.expr i)
      (λ x k g.
      let first = known.expr x i k g in
      let r : (many (reading.comma_expr d N) (x ∷ []) >>= λ ys. expect marks.RightParen >> pure ys) k ≡ Done xs j = rw g at e in
      outcome (many (reading.comma_expr d N) (x ∷ []) k)
      (λ ys l h.
      let s : (expect marks.RightParen >> pure ys) l ≡ Done xs j = rw h at r in
      many-sound (reading.comma_expr d N) (comma_pieces yield_expr) M.expr (less d) comma_expr-some comma_expr-none (x ∷ []) ys k l h (λ zs is others stop.
      mapped (expect marks.RightParen l) (λ u. ys) xs j s (λ u closed same.
      subst (λ vs. IsRead (AllByRecursion M.expr) (λ ws a. parted (map yield_expr ws) (deeper a) ++ the marks.RightParen ∷ []) d i j vs) (sym is ∙ sym same)
      (record {
        shape = (first.shape, others.shape);
        taken = λ a b.
            let inner = deeper a in
            let more : Fit (behind_commas (map yield_expr zs) inner) k l = subst (λ ps. Fit ps k l) (sym (behind_commas-spread yield_expr zs inner)) (others.taken inner (less-left a d b)) in
            fit_both (yield_expr x inner ++ behind_commas (map yield_expr zs) inner) (the marks.RightParen ∷ []) i l j (fit_both (yield_expr x inner) (behind_commas (map yield_expr zs) inner) i k l (first.taken inner (less-left a d b)) more) (expect-taken marks.RightParen l j u closed);
      }))))
      (λ h. fails xs j (rw h at r)))
      (λ g. fails xs j (rw g at e))

  pub arguments-sound : (xs : List Expr) (i j : Input) → reading.arguments d N i ≡ Done xs j → IsRead (AllByRecursion M.expr) argument_pieces d i j xs
  unfolding reading.arguments
  arguments-sound xs i j e =
      inv (expect marks.LeftParen i) (λ u. reading.arguments_behind d N) xs j e (λ u k g r.
      let open_ = expect-taken marks.LeftParen i k u g in
      elim (cases_Bool (sees marks.RightParen k)) [
        | inl is ↦
            let s : done [] (next k) ≡ done xs j = rw is at r in
            subst (λ ys. IsRead (AllByRecursion M.expr) argument_pieces d i j ys) (done_value [] xs (next k) j s)
            (record { shape = tt; taken = λ a b. (open_.0, subst (λ z. Fit (the marks.RightParen ∷ []) z j) (sym open_.1) (sees-is marks.RightParen k is, done_input [] xs (next k) j s)) })
        | inr isnt ↦
            let read = some_arguments-sound xs k j (rw isnt at r) in
            record { shape = read.shape; taken = λ a b. (open_.0, subst (λ z. Fit (parted (map yield_expr xs) (deeper a) ++ the marks.RightParen ∷ []) z j) (sym open_.1) (read.taken a b)) }
      ])

  -- ---- brackets

  pub in_brackets-sound : (x : Expr) (i j : Input) → reading.in_brackets d N i ≡ Done x j → IsRead M.expr bracket_pieces d i j x
  unfolding reading.in_brackets
  in_brackets-sound x i j e =
      inv (expect marks.LeftBracket i) (λ u. N.expr >>= λ y. expect marks.RightBracket >> pure y) x j e (λ u k g r.
      inv (N.expr k) (λ y. expect marks.RightBracket >> pure y) x j r (λ y l h s.
      mapped (expect marks.RightBracket l) (λ v. y) x j s (λ v closed same.
      let open_ = expect-taken marks.LeftBracket i k u g in
      let read = known.expr y k l h in
      subst (λ z. IsRead M.expr bracket_pieces d i j z) (sym same)
      (record {
        shape = read.shape;
        taken = λ a b. (
          open_.0,
          subst (λ z. Fit (yield_expr y (deeper a) ++ the marks.RightBracket ∷ []) z j) (sym open_.1)
              (fit_both (yield_expr y (deeper a)) (the marks.RightBracket ∷ []) k l j (read.taken (deeper a) (less-left a d b)) (expect-taken marks.RightBracket l j v closed)),
        );
      }))))

  size-some : (x : Expr) (i j : Input) → reading.size d N i ≡ Done (Some x) j → IsRead M.expr bracket_pieces d i j x
  unfolding reading.size
  size-some x i j e =
      elim (cases_Bool (reading.sees_size d N i)) [
        | inl is ↦
            mapped (reading.in_brackets d N i) some (Some x) j (rw is at e) (λ y g same.
            in_brackets-sound x i j (subst (λ z. reading.in_brackets d N i ≡ Done z j) (sym (same_Some x y same)) g))
        | inr isnt ↦ none_is_not_some x (done_value None (Some x) i j (rw isnt at e))
      ]

  size-none : (i j : Input) → reading.size d N i ≡ Done None j → i ≡ j
  unfolding reading.size
  size-none i j e =
      elim (cases_Bool (reading.sees_size d N i)) [
        | inl is ↦ mapped (reading.in_brackets d N i) some None j (rw is at e) (λ y g same. none_is_not_some y same)
        | inr isnt ↦ done_input None None i j (rw isnt at e)
      ]

  -- ---- creations

  optional_body-sound : (n : List Ident) (b : Option ℕ) (i j : Input) → reading.optional_body d N i ≡ Done b j
      → (a : Around) → a.left ≡ d → Fit (yield_body n b a) i j
  unfolding reading.optional_body
  optional_body-sound n b i j e a h =
      elim (cases_Bool (is_left_brace (shape i))) [
        | inl is ↦
            mapped (body d i) some b j (rw is at e) (λ at g same.
            subst (λ o. Fit (yield_body n o a) i j) (sym same)
            (body-fit d i j at (record { brace = at; place = places.Anonymous; created = n; around = a }) fits refl h g))
        | inr isnt ↦
            let r : done None i ≡ done b j = rw isnt at e in
            subst (λ o. Fit (yield_body n o a) i j) (done_value None b i j r) (done_input None b i j r)
      ]

  pub record IsCreated (n : List Ident) (i j : Input) (c : Creation) : Type 0 where
    pub class : c.class ≡ n
    pub arguments : AllByRecursion M.expr c.arguments
    pub taken : (a : Around) → a.left ≡ d → Fit (argument_pieces c.arguments a ++ yield_body c.class c.body a) i j

  creation_of-sound : (n : List Ident) (c : Creation) (i j : Input) → reading.creation_of d N n i ≡ Done c j → IsCreated n i j c
  unfolding reading.creation_of
  creation_of-sound n c i j e =
      inv (reading.arguments d N i) (λ args. reading.optional_body d N >>= λ b. pure (record { class = n; arguments = args; body = b })) c j e (λ args k g r.
      mapped (reading.optional_body d N k) (λ b. record { class = n; arguments = args; body = b }) c j r (λ b h same.
      let read = arguments-sound args i k g in
      subst (λ x. IsCreated n i j x) (sym same)
      (record {
        class = refl;
        arguments = read.shape;
        taken = λ a l. fit_both (argument_pieces args a) (yield_body n b a) i k j (read.taken a l) (optional_body-sound n b k j h a l);
      })))

  -- ---- array and class creations, behind `new`

  abbrev pub Begins : Input → Input → First → Type 0
  Begins i j f = FirstRead d M i j f

  at_first : (f g : First) (i j : Input) → f ≡ g → IsFirst M g → ((a : Around) → a.left ≡ d → Fit (yield_first g a) i j) → FirstRead d M i j f
  at_first f g i j same h t = subst (λ x. FirstRead d M i j x) (sym same) (record { shape = begun h; taken = t })

  new_class-sound : (t : ElementType) (f : First) (i k j : Input) → sign i ≡ Some (mark marks.New) → IsElementRead t (next i) k
      → reading.new_class d N t k ≡ Done f j → FirstRead d M i j f
  new_class-sound (elements.Primitive p) f i k j h read e = fails f j e
  new_class-sound (elements.Named n) f i k j h read e =
      mapped (reading.creation_of d N n k) (λ c. firsts.New c) f j e (λ c g same.
      let made = creation_of-sound n c k j g in
      at_first f (firsts.New c) i j same (new c refl (subst IsNonEmpty (sym made.class) read.shape, made.arguments))
      (λ a l. rw (yield_first-New, yield_creation-parts) (
        h,
        subst (λ ps. Fit ps (next i) j) (sym (append_assoc (yield_name c.class) (argument_pieces c.arguments a) (yield_body c.class c.body a)))
            (fit_both (yield_name c.class) (argument_pieces c.arguments a ++ yield_body c.class c.body a) (next i) k j (subst (λ m. Fit (yield_name m) (next i) k) (sym made.class) read.taken) (made.taken a l)),
      )))

  some_dims : (n : ℕ) (k l : Input) → sees_dim k ≡ true → Fit (yield_dims n) k l → sees_dim l ≡ false → (m : ℕ) × (n ≡ suc m)
  some_dims zero k l is t stop = true_is_not_false (sym is ∙ ap sees_dim t ∙ stop)
  some_dims (suc m) k l is t stop = (m, refl)

  new_array_of-sound : (t : ElementType) (f : First) (i k j : Input) → sign i ≡ Some (mark marks.New) → IsElementRead t (next i) k → sees_dim k ≡ true
      → reading.new_array_of d N t k ≡ Done f j → FirstRead d M i j f
  unfolding reading.new_array_of
  new_array_of-sound t f i k j h read is e =
      inv (dims k) (λ n. N.braces >>= λ b. pure (firsts.NewArrayOf t n b)) f j e (λ n l g r.
      mapped (N.braces l) (λ b. firsts.NewArrayOf t n b) f j r (λ b q same.
      dims-sound n k l g (λ sized stop.
      let inner = known.braces b l j q in
      let some_ = some_dims n k l is sized stop in
      at_first f (firsts.NewArrayOf t n b) i j same (array_of t some_.0 b (ap (λ m. firsts.NewArrayOf t m b) some_.1) read.shape inner.shape)
      (λ a e. rw yield_first-NewArrayOf (h, fit_both (yield_element t ++ yield_dims n) (yield_array b a) (next i) l j (fit_both (yield_element t) (yield_dims n) (next i) k l read.taken sized) (inner.taken a e))))))

  new_array-sound : (t : ElementType) (f : First) (i k j : Input) → sign i ≡ Some (mark marks.New) → IsElementRead t (next i) k
      → reading.new_array d N t k ≡ Done f j → FirstRead d M i j f
  unfolding reading.new_array
  new_array-sound t f i k j h read e =
      inv (reading.in_brackets d N k) (λ s. many (reading.size d N) (s ∷ []) >>= λ ss. dims >>= λ n. pure (firsts.NewArray t ss n)) f j e (λ s l g r.
      inv (many (reading.size d N) (s ∷ []) l) (λ ss. dims >>= λ n. pure (firsts.NewArray t ss n)) f j r (λ ss m q u.
      mapped (dims m) (λ n. firsts.NewArray t ss n) f j u (λ n v same.
      let one = in_brackets-sound s k l g in
      many-sound (reading.size d N) bracket_pieces M.expr d size-some size-none (s ∷ []) ss l m q (λ zs is others stop.
      dims-sound n m j v (λ sized stop_.
      subst (λ x. FirstRead d M i j x) (sym (same ∙ ap (λ xs. firsts.NewArray t xs n) is))
      (record {
        shape = begun_array (sized_array t s zs n refl read.shape one.shape others.shape);
        taken = λ a b.
            let sizes : Fit (yield_sizes (map yield_expr (s ∷ zs)) a) k m = subst (λ ps. Fit ps k m) (sym (sizes-spread (s ∷ zs) a)) (fit_both (bracket_pieces s a) (spread (λ z. bracket_pieces z a) zs) k l m (one.taken a b) (others.taken a b)) in
            rw yield_first-NewArray (h, fit_both (yield_element t ++ yield_sizes (map yield_expr (s ∷ zs)) a) (yield_dims n) (next i) m j (fit_both (yield_element t) (yield_sizes (map yield_expr (s ∷ zs)) a) (next i) k m read.taken sizes) sized);
      }))))))

  new_with-sound : (t : ElementType) (f : First) (i k j : Input) → sign i ≡ Some (mark marks.New) → IsElementRead t (next i) k
      → reading.new_with d N t k ≡ Done f j → FirstRead d M i j f
  unfolding reading.new_with
  new_with-sound t f i k j h read e =
      elim (cases_Bool (sees_dim k)) [
        | inl is ↦ new_array_of-sound t f i k j h read is (rw is at e)
        | inr isnt ↦
            elim (cases_Bool (sees marks.LeftBracket k)) [
              | inl is ↦ new_array-sound t f i k j h read (rw (isnt, is) at e)
              | inr no_bracket ↦ new_class-sound t f i k j h read (rw (isnt, no_bracket) at e)
            ]
      ]

  new_first-sound : (f : First) (i j : Input) → sign i ≡ Some (mark marks.New) → reading.new_first d N (next i) ≡ Done f j → FirstRead d M i j f
  unfolding reading.new_first
  new_first-sound f i j h e =
      inv (element (next i)) (reading.new_with d N) f j e (λ t k g r. new_with-sound t f i k j h (element-sound t (next i) k g) r)

  -- ---- `super`

  pub data SuperRead (n : Option (List Ident)) (i j : Input) (f : First) : Type 0 where
    read_field : (s : Span) (w : Ident) → f ≡ firsts.SuperField n s w → Fit (yield_super None s w) i j → SuperRead n i j f
    read_call : (s : Span) (w : Ident) (args : List Expr) → f ≡ firsts.SuperCall n s w args → AllByRecursion M.expr args
        → ((a : Around) → a.left ≡ d → Fit (yield_super None s w ++ argument_pieces args a) i j) → SuperRead n i j f

  super_first-sound : (n : Option (List Ident)) (f : First) (i j : Input) → reading.super_first d N n i ≡ Done f j → SuperRead n i j f
  unfolding reading.super_first
  super_first-sound n f i j e =
      inv (a_super i) (λ s. expect marks.Dot >> (ident >>= λ w. λ x. reading.super_end d N n s w x)) f j e (λ s k g r.
      inv (expect marks.Dot k) (λ u. ident >>= λ w. λ x. reading.super_end d N n s w x) f j r (λ u l h q.
      inv (ident l) (λ w x. reading.super_end d N n s w x) f j q (λ w m p o.
      let head = fit_both (token (super s) ∷ []) (the marks.Dot ∷ token (word w) ∷ []) i k m (super-taken i k s g) (fit_both (the marks.Dot ∷ []) (token (word w) ∷ []) k l m (expect-taken marks.Dot k l u h) (ident-taken l m w p)) in
      elim (cases_Bool (sees marks.LeftParen m)) [
        | inl is ↦
            mapped (reading.arguments d N m) (λ args. firsts.SuperCall n s w args) f j (rw is at o) (λ args v same.
            let inner = arguments-sound args m j v in
            read_call s w args same inner.shape (λ a b. fit_both (yield_super None s w) (argument_pieces args a) i m j head (inner.taken a b)))
        | inr isnt ↦
            let z : done (firsts.SuperField n s w) m ≡ done f j = rw isnt at o in
            read_field s w (sym (done_value (firsts.SuperField n s w) f m j z)) (subst (λ x. Fit (yield_super None s w) i x) (done_input (firsts.SuperField n s w) f m j z) head)
      ])))

  alone_super : (f : First) (i j : Input) → SuperRead None i j f → FirstRead d M i j f
  alone_super f i j (read_field s w same t) = at_first f (firsts.SuperField None s w) i j same (super_field None s w refl tt) (λ a b. rw yield_first-SuperField t)
  alone_super f i j (read_call s w args same h t) = at_first f (firsts.SuperCall None s w args) i j same (super_call None s w args refl tt h) (λ a b. rw yield_first-SuperCall (t a b))

  qualified_super : (n : List Ident) (f : First) (i k j : Input) → IsName n i k → sign k ≡ Some (mark marks.Dot) → SuperRead (Some n) (next k) j f → FirstRead d M i j f
  qualified_super n f i k j before h (read_field s w same t) =
      at_first f (firsts.SuperField (Some n) s w) i j same (super_field (Some n) s w refl before.nonempty)
      (λ a b. rw yield_first-SuperField (fit_both (yield_name n) (the marks.Dot ∷ yield_super None s w) i k j before.taken (h, t)))
  qualified_super n f i k j before h (read_call s w args same g t) =
      at_first f (firsts.SuperCall (Some n) s w args) i j same (super_call (Some n) s w args refl before.nonempty g)
      (λ a b. rw (yield_first-SuperCall, append_assoc) (fit_both (yield_name n) (the marks.Dot ∷ (yield_super None s w ++ argument_pieces args a)) i k j before.taken (h, t a b)))

  -- ---- behind a name

  pub record IsClassRead (t : TypeUse) (f : First) (k j : Input) : Type 0 where
    pub is : f ≡ firsts.ClassLiteral t
    pub taken : Fit (the marks.Dot ∷ the marks.Class ∷ []) k j

  class_literal-sound : (t : TypeUse) (f : First) (k j : Input) → reading.class_literal t k ≡ Done f j → IsClassRead t f k j
  class_literal-sound t f k j e =
      inv (expect marks.Dot k) (λ u. expect marks.Class >> pure (firsts.ClassLiteral t)) f j e (λ u l g r.
      mapped (expect marks.Class l) (λ v. firsts.ClassLiteral t) f j r (λ v h same.
      record { is = same; taken = fit_both (the marks.Dot ∷ []) (the marks.Class ∷ []) k l j (expect-taken marks.Dot k l u g) (expect-taken marks.Class l j v h) }))

  class_of : (t : TypeUse) (f : First) (i k j : Input) → IsType t → Fit (yield_type t) i k → reading.class_literal t k ≡ Done f j → FirstRead d M i j f
  class_of t f i k j h before e =
      let r = class_literal-sound t f k j e in
      at_first f (firsts.ClassLiteral t) i j r.is (class_literal t refl h) (λ a b. rw yield_first-ClassLiteral (fit_both (yield_type t) (the marks.Dot ∷ the marks.Class ∷ []) i k j before r.taken))

  just_name : (n : List Ident) (f : First) (i k j : Input) → IsName n i k → done (firsts.Name n) k ≡ Done f j → FirstRead d M i j f
  just_name n f i k j before e =
      let end : k ≡ j = done_input (firsts.Name n) f k j e in
      subst (λ x. FirstRead d M i j x) (done_value (firsts.Name n) f k j e)
      (record {
        shape = begun_name n refl before.nonempty (subst (λ x. sees_member x ≡ false) end before.whole);
        taken = λ a b. rw yield_first-Name (subst (λ x. Fit (yield_name n) i x) end before.taken);
      })

  qualified_by-sound : (s : Shape) (n : List Ident) (f : First) (i k j : Input) → IsName n i k → sign k ≡ Some (mark marks.Dot)
      → reading.qualified_by d N n s k ≡ Done f j → FirstRead d M i j f
  qualified_by-sound shapes.This n f i k j before h e =
      mapped (a_this (next k)) (λ s. firsts.QualifiedThis n s) f j e (λ s g same.
      at_first f (firsts.QualifiedThis n s) i j same (qualified_this n s refl before.nonempty)
      (λ a b. rw yield_first-QualifiedThis (fit_both (yield_name n) (the marks.Dot ∷ token (this s) ∷ []) i k j before.taken (h, this-taken (next k) j s g))))
  qualified_by-sound shapes.Super n f i k j before h e =
      elim (cases_Bool (sees marks.Dot (next (next k)))) [
        | inl is ↦ qualified_super n f i k j before h (super_first-sound (Some n) f (next k) j (rw is at e))
        | inr isnt ↦ just_name n f i k j before (rw isnt at e)
      ]
  qualified_by-sound (shapes.Mark marks.Class) n f i k j before h e =
      class_of (record { element = elements.Named n; dims = 0 }) f i k j before.nonempty (fit_both (yield_name n) [] i k k before.taken refl) e
  qualified_by-sound _ n f i k j before h e = just_name n f i k j before e

  named_first-sound : (n : List Ident) (f : First) (i k j : Input) → IsName n i k → reading.named_first d N n k ≡ Done f j → FirstRead d M i j f
  unfolding reading.named_first reading.qualified_first
  named_first-sound n f i k j before e =
      elim (cases_Bool (sees marks.LeftParen k)) [
        | inl is ↦
            mapped (reading.arguments d N k) (λ args. firsts.Call n args) f j (rw is at e) (λ args g same.
            let inner = arguments-sound args k j g in
            at_first f (firsts.Call n args) i j same (call n args refl before.nonempty inner.shape)
            (λ a b. rw yield_first-Call (fit_both (yield_name n) (argument_pieces args a) i k j before.taken (inner.taken a b))))
        | inr no_paren ↦
            elim (cases_Bool (sees marks.Dot k)) [
              | inl is ↦ qualified_by-sound (shape (next k)) n f i k j before (sees-is marks.Dot k is) (rw (no_paren, is) at e)
              | inr no_dot ↦
                  elim (cases_Bool (sees_dim k)) [
                    | inl is ↦
                        let r : reading.array_class d N n k ≡ Done f j = rw (no_paren, no_dot, is) at e in
                        inv (dims k) (λ m. reading.class_literal (record { element = elements.Named n; dims = m })) f j r (λ m l g q.
                        dims-sound m k l g (λ sized stop.
                        class_of (record { element = elements.Named n; dims = m }) f i l j before.nonempty (fit_both (yield_name n) (yield_dims m) i k l before.taken sized) q))
                    | inr no_dim ↦ just_name n f i k j before (rw (no_paren, no_dot, no_dim) at e)
                  ]
            ]
      ]

  -- ---- what a primary expression begins with

  primitive_first-sound : (o : Option Primitive) (f : First) (i j : Input) → reading.primitive_first d N o i ≡ Done f j → FirstRead d M i j f
  primitive_first-sound None f i j e = fails f j e
  primitive_first-sound (Some p) f i j e =
      inv (type_use i) reading.class_literal f j e (λ t k g r.
      let read = type_use-sound t i k g in
      class_of t f i k j read.shape read.taken r)

  first_at-sound : (m : Mark) (f : First) (i j : Input) → sign i ≡ Some (mark m) → reading.first_at d N m i ≡ Done f j → FirstRead d M i j f
  first_at-sound marks.LeftParen f i j h e =
      inv (N.expr (next i)) (λ x. expect marks.RightParen >> pure (firsts.Parenthesized x)) f j e (λ x k g r.
      mapped (expect marks.RightParen k) (λ u. firsts.Parenthesized x) f j r (λ u closed same.
      let inner = known.expr x (next i) k g in
      at_first f (firsts.Parenthesized x) i j same (parenthesized x refl inner.shape)
      (λ a b. rw yield_first-Parenthesized (h, fit_both (yield_expr x (deeper a)) (the marks.RightParen ∷ []) (next i) k j (inner.taken (deeper a) (less-left a d b)) (expect-taken marks.RightParen k j u closed)))))
  first_at-sound marks.New f i j h e = new_first-sound f i j h e
  first_at-sound marks.Void f i j h e =
      inv (expect marks.Dot (next i)) (λ u. expect marks.Class >> pure firsts.VoidClass) f j e (λ u k g r.
      mapped (expect marks.Class k) (λ v. firsts.VoidClass) f j r (λ v q same.
      at_first f firsts.VoidClass i j same (void_class refl)
      (λ a b. rw yield_first-VoidClass (h, fit_both (the marks.Dot ∷ []) (the marks.Class ∷ []) (next i) k j (expect-taken marks.Dot (next i) k u g) (expect-taken marks.Class k j v q)))))
  first_at-sound m f i j h e = primitive_first-sound (primitive_of m) f i j e

  first_by-sound : (s : Shape) (f : First) (i j : Input) → shape i ≡ s → reading.first_by d N s i ≡ Done f j → FirstRead d M i j f
  first_by-sound shapes.Literal f i j is e =
      mapped (a_literal i) (λ l. firsts.Literal l) f j e (λ l g same.
      at_first f (firsts.Literal l) i j same (a_literal_first l refl) (λ a b. rw yield_first-Literal (literal-taken i j l g)))
  first_by-sound shapes.This f i j is e =
      mapped (a_this i) (λ s. firsts.This s) f j e (λ s g same.
      at_first f (firsts.This s) i j same (a_this_first s refl) (λ a b. rw yield_first-This (this-taken i j s g)))
  first_by-sound shapes.Super f i j is e = alone_super f i j (super_first-sound None f i j e)
  first_by-sound shapes.Word f i j is e = inv (name i) (reading.named_first d N) f j e (λ n k g r. named_first-sound n f i k j (name-sound n i k g) r)
  first_by-sound (shapes.Mark m) f i j is e = first_at-sound m f i j (shape_mark m (sign i) is) e
  first_by-sound _ f i j is e = fails f j e

  pub first-sound : (f : First) (i j : Input) → reading.first d N i ≡ Done f j → FirstRead d M i j f
  unfolding reading.first
  first-sound f i j e = first_by-sound (shape i) f i j refl e

  -- ---- selectors

  at_selector : (s t : Selector) (i j : Input) → s ≡ t → IsSelector M t → ((a : Around) → a.left ≡ d → Fit (yield_selector t a) i j)
      → IsRead (IsSelector M) yield_selector d i j s
  at_selector s t i j same h g = subst (λ x. IsRead (IsSelector M) yield_selector d i j x) (sym same) (record { shape = h; taken = g })

  member-sound : (s : Selector) (i j : Input) → sign i ≡ Some (mark marks.Dot) → reading.member d N (next i) ≡ Done s j
      → IsRead (IsSelector M) yield_selector d i j s
  unfolding reading.member
  member-sound s i j h e =
      inv (ident (next i)) (λ w x. reading.member_end d N w x) s j e (λ w k g r.
      let head = ident-taken (next i) k w g in
      elim (cases_Bool (sees marks.LeftParen k)) [
        | inl is ↦
            mapped (reading.arguments d N k) (λ args. selectors.MemberCall w args) s j (rw is at r) (λ args q same.
            let inner = arguments-sound args k j q in
            at_selector s (selectors.MemberCall w args) i j same (member_call w args refl inner.shape)
            (λ a b. rw yield_selector-MemberCall (h, fit_both (token (word w) ∷ []) (argument_pieces args a) (next i) k j head (inner.taken a b))))
        | inr isnt ↦
            let z : done (selectors.Field w) k ≡ done s j = rw isnt at r in
            at_selector s (selectors.Field w) i j (sym (done_value (selectors.Field w) s k j z)) (field w refl)
            (λ a b. rw yield_selector-Field (h, subst (λ x. Fit (token (word w) ∷ []) (next i) x) (done_input (selectors.Field w) s k j z) head))
      ])

  inner_creation-sound : (s : Selector) (i j : Input) → sign i ≡ Some (mark marks.Dot) → sign (next i) ≡ Some (mark marks.New)
      → reading.inner_creation d N (next (next i)) ≡ Done s j → IsRead (IsSelector M) yield_selector d i j s
  unfolding reading.inner_creation
  inner_creation-sound s i j h g e =
      inv (ident (next (next i))) (λ w. (λ c. selectors.QualifiedNew c) <$> reading.creation_of d N (w ∷ [])) s j e (λ w k q r.
      mapped (reading.creation_of d N (w ∷ []) k) (λ c. selectors.QualifiedNew c) s j r (λ c o same.
      let made = creation_of-sound (w ∷ []) c k j o in
      let head = ident-taken (next (next i)) k w q in
      at_selector s (selectors.QualifiedNew c) i j same (qualified_new c refl (subst IsSingle (sym made.class) tt, made.arguments))
      (λ a l. rw (yield_selector-QualifiedNew, yield_creation-parts) (
        h,
        (
          g,
          subst (λ ps. Fit ps (next (next i)) j) (sym (append_assoc (yield_name c.class) (argument_pieces c.arguments a) (yield_body c.class c.body a)))
              (fit_both (yield_name c.class) (argument_pieces c.arguments a ++ yield_body c.class c.body a) (next (next i)) k j (subst (λ m. Fit (yield_name m) (next (next i)) k) (sym made.class) head) (made.taken a l)),
        ),
      ))))

  selector_by-some : (sh : Shape) (s : Selector) (i j : Input) → shape (next i) ≡ sh → sign i ≡ Some (mark marks.Dot)
      → reading.selector_by d N sh i ≡ Done (Some s) j → IsRead (IsSelector M) yield_selector d i j s
  selector_by-some shapes.Word s i j is h e =
      mapped (reading.member d N (next i)) some (Some s) j e (λ t g same.
      member-sound s i j h (subst (λ x. reading.member d N (next i) ≡ Done x j) (sym (same_Some s t same)) g))
  selector_by-some (shapes.Mark marks.New) s i j is h e =
      mapped (reading.inner_creation d N (next (next i))) some (Some s) j e (λ t g same.
      inner_creation-sound s i j h (shape_mark marks.New (sign (next i)) is) (subst (λ x. reading.inner_creation d N (next (next i)) ≡ Done x j) (sym (same_Some s t same)) g))
  selector_by-some _ s i j is h e = none_is_not_some s (done_value None (Some s) i j e)

  selector_by-none : (sh : Shape) (i j : Input) → reading.selector_by d N sh i ≡ Done None j → i ≡ j
  selector_by-none shapes.Word i j e = mapped (reading.member d N (next i)) some None j e (λ t g same. none_is_not_some t same)
  selector_by-none (shapes.Mark marks.New) i j e = mapped (reading.inner_creation d N (next (next i))) some None j e (λ t g same. none_is_not_some t same)
  selector_by-none _ i j e = done_input None None i j e

  selector-some : (s : Selector) (i j : Input) → reading.selector d N i ≡ Done (Some s) j → IsRead (IsSelector M) yield_selector d i j s
  unfolding reading.selector
  selector-some s i j e =
      elim (cases_Bool (sees marks.LeftBracket i)) [
        | inl is ↦
            mapped (reading.in_brackets d N i) (λ x. Some (selectors.Index x)) (Some s) j (rw is at e) (λ x g same.
            let inner = in_brackets-sound x i j g in
            at_selector s (selectors.Index x) i j (same_Some s (selectors.Index x) same) (index x refl inner.shape) (λ a b. rw yield_selector-Index (inner.taken a b)))
        | inr no_bracket ↦
            elim (cases_Bool (sees marks.Dot i)) [
              | inl is ↦ selector_by-some (shape (next i)) s i j refl (sees-is marks.Dot i is) (rw (no_bracket, is) at e)
              | inr no_dot ↦ none_is_not_some s (done_value None (Some s) i j (rw (no_bracket, no_dot) at e))
            ]
      ]

  selector-none : (i j : Input) → reading.selector d N i ≡ Done None j → i ≡ j
  unfolding reading.selector
  selector-none i j e =
      elim (cases_Bool (sees marks.LeftBracket i)) [
        | inl is ↦ mapped (reading.in_brackets d N i) (λ x. Some (selectors.Index x)) None j (rw is at e) (λ x g same. none_is_not_some (selectors.Index x) same)
        | inr no_bracket ↦
            elim (cases_Bool (sees marks.Dot i)) [
              | inl is ↦ selector_by-none (shape (next i)) i j (rw (no_bracket, is) at e)
              | inr no_dot ↦ done_input None None i j (rw (no_bracket, no_dot) at e)
            ]
      ]

  -- ---- primary expressions

  no_member_form : (s : Selector) (ss : List Selector) (i j : Input) → sees_member i ≡ false → IsSelector M s
      → ((a : Around) → a.left ≡ d → Fit (yield_selector s a ++ selector_pieces ss a) i j) → begins_with_member (s ∷ ss) ≡ false
  no_member_form s ss i j h (field w e) t =
      let u : Fit (the marks.Dot ∷ token (word w) ∷ selector_pieces ss (somewhere d)) i j = rw (e, yield_selector-Field) at (t (somewhere d) refl) in
      true_is_not_false (sym (sees_member-at w i u.0 u.1.0) ∙ h)
  no_member_form s ss i j h (member_call w args e g) t =
      let u : Fit (the marks.Dot ∷ token (word w) ∷ (argument_pieces args (somewhere d) ++ selector_pieces ss (somewhere d))) i j = rw (e, yield_selector-MemberCall) at (t (somewhere d) refl) in
      true_is_not_false (sym (sees_member-at w i u.0 u.1.0) ∙ h)
  no_member_form s ss i j h (index x e g) t = rw e (simp expr_layers)
  no_member_form s ss i j h (qualified_new c e g) t = rw e (simp expr_layers)

  no_member_first : (ss : List Selector) (i j : Input) → sees_member i ≡ false → IsRead (AllByRecursion (IsSelector M)) selector_pieces d i j ss
      → begins_with_member ss ≡ false
  no_member_first [] i j h read = refl
  no_member_first (s ∷ ss) i j h read = no_member_form s ss i j h read.shape.0 read.taken

  no_index_form : (s : Selector) (ss : List Selector) (i j : Input) → sees marks.LeftBracket i ≡ false → IsSelector M s
      → ((a : Around) → a.left ≡ d → Fit (yield_selector s a ++ selector_pieces ss a) i j) → begins_with_index (s ∷ ss) ≡ false
  no_index_form s ss i j h (field w e) t = rw e (simp expr_layers)
  no_index_form s ss i j h (member_call w args e g) t = rw e (simp expr_layers)
  no_index_form s ss i j h (index x e g) t =
      let u : Fit (the marks.LeftBracket ∷ (yield_expr x (deeper (somewhere d)) ++ the marks.RightBracket ∷ []) ++ selector_pieces ss (somewhere d)) i j = rw (e, yield_selector-Index) at (t (somewhere d) refl) in
      true_is_not_false (sym (bracket-seen i u.0) ∙ h)
  no_index_form s ss i j h (qualified_new c e g) t = rw e (simp expr_layers)

  no_index_first : (ss : List Selector) (i j : Input) → sees marks.LeftBracket i ≡ false → IsRead (AllByRecursion (IsSelector M)) selector_pieces d i j ss
      → begins_with_index ss ≡ false
  no_index_first [] i j h read = refl
  no_index_first (s ∷ ss) i j h read = no_index_form s ss i j h read.shape.0 read.taken

  is_array : (f : First) → IsNewArray M f → reading.is_new_array f ≡ true
  is_array f (sized_array t x xs n e h g gs) = rw e (simp expr_layers)

  selectors_of-read : (f : First) (ss : List Selector) (i j : Input) → many (reading.selector d N) [] i ≡ Done ss j
      → IsRead (AllByRecursion (IsSelector M)) selector_pieces d i j ss
  selectors_of-read f ss i j e =
      many-sound (reading.selector d N) yield_selector (IsSelector M) d selector-some selector-none [] ss i j e (λ zs is read stop.
      subst (λ x. IsRead (AllByRecursion (IsSelector M)) selector_pieces d i j x) (sym is)
      (record { shape = read.shape; taken = λ a b. subst (λ ps. Fit ps i j) (sym (each-spread yield_selector zs a)) (read.taken a b) }))

  is_primary : (f : First) (ss : List Selector) (k j : Input) → IsBegun M k f → (reading.is_new_array f && sees marks.LeftBracket k) ≡ false
      → IsRead (AllByRecursion (IsSelector M)) selector_pieces d k j ss → IsPrimary M (record { first = f; selectors = ss })
  is_primary f ss k j (begun h) stop read = primary_of h read.shape
  is_primary f ss k j (begun_name n e h whole) stop read = primary_of_name n e h (no_member_first ss k j whole read) read.shape
  is_primary f ss k j (begun_array h) stop read =
      let no_bracket : sees marks.LeftBracket k ≡ false = ap (λ b. b && sees marks.LeftBracket k) (sym (is_array f h)) ∙ stop in
      primary_of_array h (no_index_first ss k j no_bracket read) read.shape

  pub primary-sound : (p : Primary) (i j : Input) → reading.primary d N i ≡ Done p j → IsRead (IsPrimary M) yield_primary d i j p
  unfolding reading.primary reading.selectors_of
  primary-sound p i j e =
      inv (reading.first d N i) (λ f. reading.selectors_of d N f >>= λ ss. pure (record { first = f; selectors = ss })) p j e (λ f k g r.
      mapped (reading.selectors_of d N f k) (λ ss. record { first = f; selectors = ss }) p j r (λ ss h same.
      elim (cases_Bool (reading.is_new_array f && sees marks.LeftBracket k)) [
        | inl is ↦ fails ss j (rw is at h)
        | inr isnt ↦
            let head = first-sound f i k g in
            let read = selectors_of-read f ss k j (rw isnt at h) in
            subst (λ x. IsRead (IsPrimary M) yield_primary d i j x) (sym same)
            (record {
              shape = is_primary f ss k j head.shape isnt read;
              taken = λ a b. rw yield_primary-parts (fit_both (yield_first f a) (selector_pieces ss a) i k j (head.taken a b) (read.taken a b));
            })
      ]))

  -- ---- array initializers

  initializer_by-sound : (b : Bool) (x : Initializer) (i j : Input) → reading.initializer_by d N b i ≡ Done x j
      → IsRead (IsInitializer M) yield_initializer d i j x
  initializer_by-sound true x i j e =
      mapped (N.braces i) (λ b. initializers.Array b) x j e (λ b g same.
      let inner = known.braces b i j g in
      subst (λ y. IsRead (IsInitializer M) yield_initializer d i j y) (sym same)
      (record { shape = of_array b refl inner.shape; taken = λ a l. rw yield_initializer-Array (inner.taken a l) }))
  initializer_by-sound false x i j e =
      mapped (N.expr i) (λ y. initializers.Value y) x j e (λ y g same.
      let inner = known.expr y i j g in
      subst (λ z. IsRead (IsInitializer M) yield_initializer d i j z) (sym same)
      (record { shape = value y refl inner.shape; taken = λ a l. rw yield_initializer-Value (inner.taken (deeper a) (less-left a d l)) }))

  initializer-sound : (x : Initializer) (i j : Input) → reading.initializer d N i ≡ Done x j → IsRead (IsInitializer M) yield_initializer d i j x
  unfolding reading.initializer
  initializer-sound x i j e = initializer_by-sound (is_left_brace (shape i)) x i j e

  comma_initializer-some : (x : Initializer) (i j : Input) → reading.comma_initializer d N i ≡ Done (Some x) j
      → IsRead (IsInitializer M) (comma_pieces yield_initializer) d i j x
  unfolding reading.comma_initializer
  comma_initializer-some x i j e =
      elim (cases_Bool (reading.sees_more d N i)) [
        | inl is ↦
            let r : (some <$> reading.initializer d N) (next i) ≡ Done (Some x) j = rw is at e in
            mapped (reading.initializer d N (next i)) some (Some x) j r (λ y g same.
            let read = initializer-sound x (next i) j (subst (λ z. reading.initializer d N (next i) ≡ Done z j) (sym (same_Some x y same)) g) in
            let both = both_true (sees marks.Comma i) (not (sees marks.RightBrace (next i))) is in
            record { shape = read.shape; taken = λ a b. (sees-is marks.Comma i both.0, read.taken a b) })
        | inr isnt ↦ none_is_not_some x (done_value None (Some x) i j (rw isnt at e))
      ]

  comma_initializer-none : (i j : Input) → reading.comma_initializer d N i ≡ Done None j → i ≡ j
  unfolding reading.comma_initializer
  comma_initializer-none i j e =
      elim (cases_Bool (reading.sees_more d N i)) [
        | inl is ↦
            let r : (some <$> reading.initializer d N) (next i) ≡ Done None j = rw is at e in
            mapped (reading.initializer d N (next i)) some None j r (λ y g same. none_is_not_some y same)
        | inr isnt ↦ done_input None None i j (rw isnt at e)
      ]

  elements_of-sound : (xs : List Initializer) (i j : Input) → reading.elements_of d N i ≡ Done xs j
      → IsRead (AllByRecursion (IsInitializer M)) element_pieces d i j xs
  unfolding reading.elements_of
  elements_of-sound xs i j e =
      elim (cases_Bool (sees marks.RightBrace i || sees marks.Comma i)) [
        | inl is ↦
            let r : done [] i ≡ done xs j = rw is at e in
            subst (λ ys. IsRead (AllByRecursion (IsInitializer M)) element_pieces d i j ys) (done_value [] xs i j r)
            (record { shape = tt; taken = λ a b. done_input [] xs i j r })
        | inr isnt ↦
            let r : (reading.initializer d N >>= λ x. many (reading.comma_initializer d N) (x ∷ [])) i ≡ Done xs j = rw isnt at e in
            inv (reading.initializer d N i) (λ x. many (reading.comma_initializer d N) (x ∷ [])) xs j r (λ x k g q.
            let first = initializer-sound x i k g in
            many-sound (reading.comma_initializer d N) (comma_pieces yield_initializer) (IsInitializer M) d comma_initializer-some comma_initializer-none (x ∷ []) xs k j q (λ zs same others stop.
            subst (λ ys. IsRead (AllByRecursion (IsInitializer M)) element_pieces d i j ys) (sym same)
            (record {
              shape = (first.shape, others.shape);
              taken = λ a b. fit_both (yield_initializer x a) (behind_commas (map yield_initializer zs) a) i k j (first.taken a b) (subst (λ ps. Fit ps k j) (sym (behind_commas-spread yield_initializer zs a)) (others.taken a b));
            })))
      ]

  last_comma-sound : (b : Bool) (i j : Input) → reading.last_comma d N i ≡ Done b j → Fit (yield_comma b) i j
  unfolding reading.last_comma
  last_comma-sound b i j e =
      elim (cases_Bool (sees marks.Comma i)) [
        | inl is ↦
            let r : done true (next i) ≡ done b j = rw is at e in
            subst (λ x. Fit (yield_comma x) i j) (done_value true b (next i) j r) (sees-is marks.Comma i is, done_input true b (next i) j r)
        | inr isnt ↦
            let r : done false i ≡ done b j = rw isnt at e in
            subst (λ x. Fit (yield_comma x) i j) (done_value false b i j r) (done_input false b i j r)
      ]

  pub braces_over-sound : (b : ArrayInitializer) (i j : Input) → reading.braces_over d N i ≡ Done b j → IsRead (IsBracesOver M) yield_array (suc d) i j b
  unfolding reading.braces_over
  braces_over-sound b i j e =
      inv (brace i) (λ at. reading.elements_of d N >>= λ xs. reading.last_comma d N >>= λ c. expect marks.RightBrace >> pure (record { brace = at; elements = xs; comma = c })) b j e (λ at k g r.
      inv (reading.elements_of d N k) (λ xs. reading.last_comma d N >>= λ c. expect marks.RightBrace >> pure (record { brace = at; elements = xs; comma = c })) b j r (λ xs l h q.
      inv (reading.last_comma d N l) (λ c. expect marks.RightBrace >> pure (record { brace = at; elements = xs; comma = c })) b j q (λ c m p o.
      mapped (expect marks.RightBrace m) (λ u. record { brace = at; elements = xs; comma = c }) b j o (λ u closed same.
      let head = brace-taken i k at g in
      let inner = elements_of-sound xs k l h in
      subst (λ x. IsRead (IsBracesOver M) yield_array (suc d) i j x) (sym same)
      (record {
        shape = inner.shape;
        taken = λ a b.
            rw yield_array-parts (
              head.0,
              subst (λ z. Fit (element_pieces xs (deeper a) ++ yield_comma c ++ the marks.RightBrace ∷ []) z j) (sym head.1)
                  (fit_both (element_pieces xs (deeper a) ++ yield_comma c) (the marks.RightBrace ∷ []) k m j
                  (fit_both (element_pieces xs (deeper a)) (yield_comma c) k l m (inner.taken (deeper a) (less-left a (suc d) b)) (last_comma-sound c l m p))
                  (expect-taken marks.RightBrace m j u closed)),
            );
      })))))
