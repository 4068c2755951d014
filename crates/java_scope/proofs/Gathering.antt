-- What bounds give, the innermost first.
use Rattle.std.proofs.Common.{◌≡◌, ◌+◌, ◌-◌, ◌<◌, ◌≤◌, ℕ, zero, suc, Bool, false, List, [], ◌∷◌, ◌++◌, Option, Some, None, length, take, get_or, refl, sym, ap, ◌∙◌, arith, append_assoc, append-nil}
use Rattle.std.specs.Prelude.{slice_get}
use Rattle.std.specs.Option.{option_or}
use Rattle.std.proofs.Math.Seq.{take-suc}
use Rattle.std.proofs.lemmas.Option.{slice_get_within, get_or_from_slice_get}
use Rattle.std.proofs.lemmas.List.{take_all}
use Rattle.java_tree.specs.declared.bound.Bound.{Bound}
use Rattle.java_model.specs.Scopes.Contexts.{innermost}
use Rattle.java_scope.specs.Linked.{upto, Skips}

-- what is joined from the inside out
pub record Joining (M : Type 0) : Type 0 where
  pub none : M
  pub join : M → M → M
  pub left : (x : M) → join none x ≡ x
  pub right : (x : M) → join x none ≡ x
  pub assoc : (x y z : M) → join (join x y) z ≡ join x (join y z)

pub or_right : {A : Type 0} (o : Option A) → option_or o None ≡ o
or_right None = refl
or_right (Some x) = refl

pub or_assoc : {A : Type 0} (o p q : Option A) → option_or (option_or o p) q ≡ option_or o (option_or p q)
or_assoc None p q = refl
or_assoc (Some x) p q = refl

abbrev pub lists : (A : Type 0) → Joining (List A)
lists A = record { none = []; join = λ xs ys. xs ++ ys; left = λ xs. refl; right = append-nil; assoc = append_assoc }

abbrev pub options : (A : Type 0) → Joining (Option A)
options A = record { none = None; join = option_or; left = λ o. refl; right = or_right; assoc = or_assoc }

-- what all bounds give, by what each gives
pub record Gathers {M : Type 0} (j : Joining M) (g : Bound → M) (h : List Bound → M) : Type 0 where
  pub nil : h [] ≡ j.none
  pub step : (b : Bound) (bs : List Bound) → h (b ∷ bs) ≡ j.join (h bs) (g b)

some_at : (bs : List Bound) (i : ℕ) → i < length bs → (b : Bound) × (slice_get bs i ≡ Some b)
some_at [] i h = absurd (omega (arith, h))
some_at (b ∷ bs) zero h = (b, refl)
some_at (b ∷ bs) (suc i) h = some_at bs i (omega (arith, h))

module _ {M : Type 0} (j : Joining M) (g : Bound → M) (h : List Bound → M) (is : Gathers j g h) where
  pub joined : (xs ys : List Bound) → h (xs ++ ys) ≡ j.join (h ys) (h xs)
  joined [] ys = sym (j.right (h ys)) ∙ ap (j.join (h ys)) (sym is.nil)
  joined (x ∷ xs) ys =
      is.step x (xs ++ ys) ∙ ap (λ m. j.join m (g x)) (joined xs ys) ∙ j.assoc (h ys) (h xs) (g x) ∙ ap (j.join (h ys)) (sym (is.step x xs))

  one : (b : Bound) → h (b ∷ []) ≡ g b
  one b = is.step b [] ∙ ap (λ m. j.join m (g b)) is.nil ∙ j.left (g b)

  pub one_next : (bs : List Bound) (p : ℕ) (b : Bound) → slice_get bs p ≡ Some b → h (take (suc p) bs) ≡ j.join (g b) (h (take p bs))
  one_next bs p b at =
      ap h (take-suc bs p b (slice_get_within bs p b at)) ∙ joined (take p bs) (get_or bs p b ∷ [])
      ∙ ap (λ m. j.join m (h (take p bs))) (one (get_or bs p b) ∙ ap g (get_or_from_slice_get bs p b b at))

  skipped_by : (bs : List Bound) (m d : ℕ) → m + d ≤ length bs → ((i : ℕ) (b : Bound) → m ≤ i → i < m + d → slice_get bs i ≡ Some b → g b ≡ j.none) → h (take (m + d) bs) ≡ h (take m bs)
  skipped_by bs m zero within apart = let z : m + 0 ≡ m = omega arith in ap (λ n. h (take n bs)) z
  skipped_by bs m (suc d) within apart =
      let last : m + suc d ≡ suc (m + d) = omega arith in
      let got = some_at bs (m + d) (omega (arith, within)) in
      ap (λ n. h (take n bs)) last ∙ one_next bs (m + d) got.0 got.1
      ∙ ap (λ x. j.join x (h (take (m + d) bs))) (apart (m + d) got.0 (omega arith) (omega arith) got.1) ∙ j.left (h (take (m + d) bs))
      ∙ skipped_by bs m d (omega (arith, within)) (λ i b low high at. apart i b low (omega (arith, high)) at)

  pub skipped : (bs : List Bound) (m n : ℕ) → m ≤ n → n ≤ length bs → ((i : ℕ) (b : Bound) → m ≤ i → i < n → slice_get bs i ≡ Some b → g b ≡ j.none) → h (take n bs) ≡ h (take m bs)
  skipped bs m n low within apart =
      let e : n ≡ m + (n - m) = omega (arith, low) in
      ap (λ k. h (take k bs)) e ∙ skipped_by bs m (n - m) (omega (arith, low, within)) (λ i b l high at. apart i b l (omega (arith, low, high)) at)

-- what was found, and what the bounds up to a place give
pub record Remains {M : Type 0} (j : Joining M) (h : List Bound → M) (bs : List Bound) (found : M) (next : Option ℕ) : Type 0 where
  pub within : upto next ≤ length bs
  pub same : j.join found (h (take (upto next) bs)) ≡ h bs

module _ {M : Type 0} (j : Joining M) (g : Bound → M) (h : List Bound → M) (is : Gathers j g h) (test : Bound → Bool) (apart : (b : Bound) → test b ≡ false → g b ≡ j.none) where
  past : (bs : List Bound) (n : ℕ) (next : Option ℕ) → n ≤ length bs → Skips test bs n next → h (take n bs) ≡ h (take (upto next) bs)
  past bs n next within skips = skipped j g h is bs (upto next) n skips.within within (λ i b low high at. apart b (skips.none i b low high at))

  pub begins : (bs : List Bound) (found : M) (next : Option ℕ) → found ≡ j.none → Skips test bs (length bs) next → Remains j h bs found next
  begins bs found next none skips = record {
    within = skips.within;
    same = ap (λ m. j.join m (h (take (upto next) bs))) none ∙ j.left (h (take (upto next) bs)) ∙ sym (past bs (length bs) next (omega arith) skips) ∙ ap h (take_all (length bs) bs (omega arith));
  }

  pub goes_on : (bs : List Bound) (found found' : M) (p : ℕ) (b : Bound) (next next' : Option ℕ) → Remains j h bs found next → next ≡ Some p → slice_get bs p ≡ Some b
      → Skips test bs p next' → found' ≡ j.join found (g b) → Remains j h bs found' next'
  goes_on bs found found' p b next next' so is_p at skips more =
      let w = skips.within in let below = slice_get_within bs p b at in
      record {
        within = omega (arith, w, below);
        same =
            ap (λ m. j.join m (h (take (upto next') bs))) more ∙ j.assoc found (g b) (h (take (upto next') bs))
            ∙ ap (λ m. j.join found (j.join (g b) m)) (sym (past bs p next' (omega (arith, below)) skips))
            ∙ ap (j.join found) (sym (one_next j g h is bs p b at)) ∙ ap (λ o. j.join found (h (take (upto o) bs))) (sym is_p) ∙ so.same;
      }

  pub ends : (bs : List Bound) (found : M) (next : Option ℕ) → Remains j h bs found next → next ≡ None → found ≡ h bs
  ends bs found next so none =
      sym (j.right found) ∙ ap (j.join found) (sym is.nil) ∙ ap (λ o. j.join found (h (take (upto o) bs))) (sym none) ∙ so.same

  -- the place of the next bound is one
  pub has_place : (bs : List Bound) (found : M) (next : Option ℕ) (p : ℕ) → Remains j h bs found next → next ≡ Some p → p < length bs
  has_place bs found next p so e = let w = so.within in let s = ap upto e in omega (arith, w, s)

  pub falls : (bs : List Bound) (p : ℕ) (next next' : Option ℕ) → next ≡ Some p → Skips test bs p next' → upto next' < upto next
  falls bs p next next' e skips = let w = skips.within in let s = ap upto e in omega (arith, w, s)

-- the innermost answer, which the next bound gives
pub gives : {A : Type 0} (f : Bound → Option A) (bs : List Bound) (p : ℕ) (b : Bound) (next : Option ℕ) (x : A) → Remains (options A) (innermost f) bs None next → next ≡ Some p
    → slice_get bs p ≡ Some b → Some x ≡ f b → Some x ≡ innermost f bs
gives {A} f bs p b next x so is_p at e =
    sym (sym so.same ∙ ap (λ o. innermost f (take (upto o) bs)) is_p
    ∙ one_next (options A) f (innermost f) (record { nil = refl; step = λ c cs. refl }) bs p b at
    ∙ ap (λ o. option_or o (innermost f (take p bs))) (sym e))
