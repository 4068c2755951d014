-- Lists with commas between: what their readers give, and when.
use Rattle.std.proofs.Common.{◌≡◌, suc, true, false, List, [], ◌∷◌, ◌++◌, length, map, refl, sym, ap, subst, arith}
use Rattle.std.specs.List.{AllByRecursion}
use Rattle.java_tree.specs.declared.mark.Mark.TheVariants as marks
use Rattle.java_model.specs.Grammar.Signs.{Sign}
use Rattle.java_model.specs.Grammar.Pieces.{Yield, Piece, the, Around, behind_commas, parted}
use Rattle.java_model.specs.Grammar.Forms.{IsNonEmpty}
use Rattle.java_unit_reading.specs.Reading.Steps.{Parser, and_then, sees, introduced, list_from}
use Rattle.java_unit_reading.proofs.Sounding.{stands_both, stands_as, then, weaken, Sound}
use Rattle.java_unit_reading.proofs.Completing.{Complete, part_gives, spells_as}
use Rattle.java_unit_reading.proofs.Listing.{spread, stays, sound_many, behind_item, many_gives}
use Rattle.java_unit_reading.proofs.WordLaws.{sound_introduced, introduced_gives, introduced_stops, introduced_sees}

pub spread_commas : {A : Type 0} (f : A → Yield) (g : Around → Around) (xs : List A) (a : Around)
    → spread (λ x b. the marks.Comma ∷ f x (g b)) stays xs a ≡ behind_commas (map f xs) (g a)
spread_commas f g [] a = refl
spread_commas f g (x ∷ xs) a = ap (λ ps. the marks.Comma ∷ (f x (g a) ++ ps)) (spread_commas f g xs a)

-- items, of which there is one
abbrev pub AreSome : {A : Type 0} → (A → Type 0) → List A → Type 0
AreSome P xs = IsNonEmpty xs × AllByRecursion P xs

pub sound_commas : {A : Type 0} (In : Around → Type 0) (P : A → Type 0) (f : A → Yield) (g : Around → Around) (p : Parser A)
    → Sound In P (λ x a. f x (g a)) p
    → Sound In (AreSome P) (λ xs a. parted (map f xs) (g a)) (λ s. and_then (p s) (λ x. list_from (introduced marks.Comma p) (x ∷ [])))
sound_commas In P f g p h s =
    then (h s) (λ x t k. weaken (sound_many In P (λ y b. the marks.Comma ∷ f y (g b)) stays (introduced marks.Comma p) (λ y a _ i. i) (sound_introduced In P (λ y b. f y (g b)) marks.Comma p h) _ (x ∷ []) t)
    (λ xs u r. (
      subst (AreSome P) (sym r.is) (tt, (k.0, r.shapes)),
      λ a i. stands_as (ap (λ ys. parted (map f ys) (g a)) (sym r.is)) (stands_both (k.1 a i) (stands_as (spread_commas f g r.more a) (r.stands a i))),
    )))

-- what ends such a list
abbrev pub EndsList : (List Sign → Type 0) → List Sign → Type 0
EndsList F ts = (sees marks.Comma ts ≡ false) × F ts

module _ {A : Type 0} (In : Around → Type 0) (P : A → Type 0) (f : A → Yield) (g : Around → Around) (p : Parser A) (F : List Sign → Type 0)
    (reads : (x : A) (a : Around) → P x → In a → Complete p (f x (g a)) x F)
    (comma : (ts : List Sign) → sees marks.Comma ts ≡ true → F ts) where
  pub commas_gives : (x : A) (xs : List A) (a : Around) → AllByRecursion P (x ∷ xs) → In a
      → Complete (λ s. and_then (p s) (λ y. list_from (introduced marks.Comma p) (y ∷ []))) (parted (map f (x ∷ xs)) (g a)) (x ∷ xs) (EndsList F)
  commas_gives x xs a h i total s from to at r follow =
      let item = introduced marks.Comma p in
      let Y : A → Around → List Piece = λ y b. the marks.Comma ∷ f y (g b) in
      part_gives p (f x (g a)) (behind_commas (map f xs) (g a)) F _ (reads x a h.0 i) at r
      (λ mid l. behind_item In P (λ y b. the marks.Comma ∷ f y (g b)) stays (introduced marks.Comma p) (EndsList F) F
      (λ y b _ j. j) (λ y b k j. introduced_gives marks.Comma p (f y (g b)) y F (reads y b k j)) (λ u e. introduced_stops marks.Comma p u e.0)
      (λ y u v e. comma u.tokens (introduced_sees marks.Comma p y u v e)) (λ ts e. e.1) (λ y b _. tt)
      xs a mid to h.1 i (spells_as (sym (spread_commas f g xs a)) l) follow)
      (λ t mid at2 l. many_gives In P (λ y b. the marks.Comma ∷ f y (g b)) stays (introduced marks.Comma p) (EndsList F) F
      (λ y b _ j. j) (λ y b k j. introduced_gives marks.Comma p (f y (g b)) y F (reads y b k j)) (λ u e. introduced_stops marks.Comma p u e.0)
      (λ y u v e. comma u.tokens (introduced_sees marks.Comma p y u v e)) (λ ts e. e.1) (λ y b _. tt)
      xs a (suc (length t.tokens)) (x ∷ []) total t mid to h.1 i (omega arith) at2 (spells_as (sym (spread_commas f g xs a)) l) follow)
