-- Lists that `many` reads.
use Rattle.std.proofs.Common.{◌≡◌, ℕ, zero, suc, ◌<◌, List, [], ◌∷◌, ◌++◌, Option, Some, None, refl, sym, ap, ◌∙◌, subst, arith, append_assoc}
use Rattle.std.specs.List.{AllByRecursion}
use Rattle.std.proofs.lemmas.List.{append-nil}
use Rattle.java_model.specs.Grammar.Pieces.{Piece, Around, Yield}
use Rattle.java_expr_reading.specs.Input.{Input, left, Done, Parser, many_turn, many_from, many}
use Rattle.java_expr_reading.proofs.Taken.{Taken, Fit, fit_both, taken_split, inv, done, done_value, done_input}

-- the pieces of each, one after another
abbrev pub spread : {A : Type 0} → (A → List Piece) → List A → List Piece
spread f [] = []
spread f (x ∷ xs) = f x ++ spread f xs

-- What a parser took is of a production, and are its pieces with so much of the depth left around it.
pub record IsRead {A : Type 0} (P : A → Type 0) (pieces : A → Yield) (depth_left : ℕ) (i j : Input) (x : A) : Type 0 where
  pub shape : P x
  pub taken : (a : Around) → a.left ≡ depth_left → Fit (pieces x a) i j

-- ---- complete

module _ {A : Type 0} (item : Parser (Option A)) (pieces : A → List Piece) (P : A → Type 0) (Stop Follow : Input → Type 0)
    (reads : (x : A) (i j : Input) → P x → Taken (pieces x) i j → Follow j → item i ≡ Done (Some x) j)
    (stops : (j : Input) → Stop j → item j ≡ Done None j)
    (last : (j : Input) → Stop j → Follow j)
    (begins : (x : A) (i j : Input) → P x → Taken (pieces x) i j → Follow i)
    (shorter : (x : A) (i j : Input) → P x → Taken (pieces x) i j → left j < left i) where
  follows : (xs : List A) (i j : Input) → AllByRecursion P xs → Taken (spread pieces xs) i j → Stop j → Follow i
  follows [] i j h t s = subst Follow (sym t) (last j s)
  follows (x ∷ xs) i j h t s = taken_split (pieces x) (spread pieces xs) i j t (λ k g r. begins x i k h.0 g)

  pub many_from-complete : (xs : List A) (n : ℕ) (found : List A) (i j : Input) → left i < n → AllByRecursion P xs
      → Taken (spread pieces xs) i j → Stop j → many_from item n found i ≡ Done (found ++ xs) j
  unfolding many_from
  many_from-complete xs zero found i j few h t s = absurd (omega arith)
  many_from-complete [] (suc n) found i j few h t s =
      rw (t, stops j s, append-nil found) refl
  many_from-complete (x ∷ xs) (suc n) found i j few h t s =
      taken_split (pieces x) (spread pieces xs) i j t (λ k g r.
      rw (reads x i k h.0 g (follows xs k j h.1 r s))
      (many_from-complete xs n (found ++ x ∷ []) k j (omega (arith, shorter x i k h.0 g)) h.1 r s ∙ ap (λ ys. done ys j) (append_assoc found (x ∷ []) xs)))

  pub many-complete : (xs found : List A) (i j : Input) → AllByRecursion P xs → Taken (spread pieces xs) i j → Stop j
      → many item found i ≡ Done (found ++ xs) j
  unfolding many
  many-complete xs found i j h t s = many_from-complete xs (suc (left i)) found i j (omega arith) h t s

-- ---- sound

module _ {A : Type 0} (item : Parser (Option A)) (pieces : A → Yield) (P : A → Type 0) (depth_left : ℕ)
    (some_is : (x : A) (i j : Input) → item i ≡ Done (Some x) j → IsRead P pieces depth_left i j x)
    (none_is : (i j : Input) → item i ≡ Done None j → i ≡ j) where
  pub many_from-sound : {C : Type 0} (n : ℕ) (found ys : List A) (i j : Input) → many_from item n found i ≡ Done ys j
      → ((xs : List A) → ys ≡ found ++ xs → IsRead (AllByRecursion P) (λ zs a. spread (λ z. pieces z a) zs) depth_left i j xs → item j ≡ Done None j → C) → C
  unfolding many_from
  many_from-sound {C = C} zero found ys i j e f = absurd cc
  many_from-sound {C = C} (suc n) found ys i j e f =
      inv (item i) (many_turn found (many_from item n)) ys j e (λ o k.
      elim o as (λ o. item i ≡ Done o k → many_turn found (many_from item n) o k ≡ Done ys j → C) [
        | None ↦ λ g r.
            let same : i ≡ j = none_is i k g ∙ done_input found ys k j r in
            f [] (sym (done_value found ys k j r) ∙ sym (append-nil found)) (record { shape = tt; taken = λ a b. same })
            (ap item (sym same) ∙ g ∙ ap (λ x. done None x) (done_input found ys k j r))
        | Some x ↦ λ g r.
            let first = some_is x i k g in
            many_from-sound n (found ++ x ∷ []) ys k j r (λ xs is others stop.
            f (x ∷ xs) (is ∙ append_assoc found (x ∷ []) xs)
            (record { shape = (first.shape, others.shape); taken = λ a b. fit_both (pieces x a) (spread (λ z. pieces z a) xs) i k j (first.taken a b) (others.taken a b) }) stop)
      ])

  pub many-sound : {C : Type 0} (found ys : List A) (i j : Input) → many item found i ≡ Done ys j
      → ((xs : List A) → ys ≡ found ++ xs → IsRead (AllByRecursion P) (λ zs a. spread (λ z. pieces z a) zs) depth_left i j xs → item j ≡ Done None j → C) → C
  unfolding many
  many-sound found ys i j e f = many_from-sound (suc (left i)) found ys i j e f
