-- Which of two cells is the newest, and what its bytes say.
use Rattle.std.proofs.Common.{◌≡◌, ℕ, zero, suc, ◌+◌, Bool, true, false, ◌&&◌, ◌||◌, ◌==◌, ltb, cond, List, drop, slice_index, Option, None, Some, refl, sym, ap, subst}
use Rattle.std.specs.List.{list_all}
use Rattle.std.specs.Str.{is_utf8}
use Rattle.std.proofs.lemmas.Bool.{false≢true}
use Rattle.java_tree.specs.Names.{is_container}
use Rattle.java_model.specs.StateFile.Cells.{Cell, Side, cell_in, is_sound, is_whole, counting, newest}
use Rattle.index_states.specs.Loaded.{IsSide}

and_left : (a b : Bool) → (a && b) ≡ true → a ≡ true
and_left true b is = refl
and_left false b is = is

and_right : (a b : Bool) → (a && b) ≡ true → b ≡ true
and_right true b is = is
and_right false b is = absurd (false≢true is)

-- the name of a whole cell is a text
pub text_of_whole : (bytes : List ℕ) → is_whole bytes ≡ true → is_utf8 (cell_in bytes).name ≡ true
unfolding is_whole
text_of_whole bytes whole =
    let sound = and_right (slice_index bytes 1 == 1 || slice_index bytes 1 == 2) (is_sound (cell_in bytes)) (and_left _ (list_all (λ b. b == 0) (drop (19 + slice_index bytes 18) bytes)) whole) in
    and_right _ (is_utf8 (cell_in bytes).name) (and_left _ (is_container (cell_in bytes).name) sound)

module _ (bytes : List ℕ) where
  counted : true ≡ (slice_index bytes 0 == 1 && is_whole bytes) → counting bytes ≡ Some (cell_in bytes)
  unfolding counting
  counted is = ap (λ (b : Bool). cond b (Some (cell_in bytes)) None) (sym is)

  uncounted : false ≡ (slice_index bytes 0 == 1 && is_whole bytes) → counting bytes ≡ None
  unfolding counting
  uncounted is = ap (λ (b : Bool). cond b (Some (cell_in bytes)) None) (sym is)

  whole : true ≡ (slice_index bytes 0 == 1 && is_whole bytes) → is_whole bytes ≡ true
  whole is = and_right (slice_index bytes 0 == 1) (is_whole bytes) (sym is)

module _ (first second : List ℕ) where
  newest_where : (a b : Option Cell) (side : Option ℕ) → counting first ≡ a → counting second ≡ b → IsSide first second side (newest a b) → IsSide first second side (newest (counting first) (counting second))
  newest_where a b side one two is =
      subst (λ (x : Option Cell). IsSide first second side (newest x (counting second))) (sym one)
      (subst (λ (y : Option Cell). IsSide first second side (newest a y)) (sym two) is)

  pub both_count : (side : ℕ) → true ≡ (slice_index first 0 == 1 && is_whole first) → true ≡ (slice_index second 0 == 1 && is_whole second)
      → side ≡ cond (ltb (cell_in first).generation (cell_in second).generation) 1 0
      → IsSide first second (Some side) (newest (counting first) (counting second))
  both_count side one two is =
      newest_where (Some (cell_in first)) (Some (cell_in second)) (Some side) (counted first one) (counted second two)
      (subst (λ (s : ℕ). IsSide first second (Some s) (newest (Some (cell_in first)) (Some (cell_in second)))) (sym is) (by (ltb (cell_in first).generation (cell_in second).generation)))
    where
      by : (less : Bool) → IsSide first second (Some (cond less 1 0)) (cond less (Some (record { side = 1; cell = cell_in second })) (Some (record { side = 0; cell = cell_in first })))
      by true = (refl, whole second two)
      by false = (refl, whole first one)

  pub first_counts : true ≡ (slice_index first 0 == 1 && is_whole first) → false ≡ (slice_index second 0 == 1 && is_whole second)
      → IsSide first second (Some 0) (newest (counting first) (counting second))
  first_counts one two = newest_where (Some (cell_in first)) None (Some 0) (counted first one) (uncounted second two) (refl, whole first one)

  pub second_counts : false ≡ (slice_index first 0 == 1 && is_whole first) → true ≡ (slice_index second 0 == 1 && is_whole second)
      → IsSide first second (Some 1) (newest (counting first) (counting second))
  second_counts one two = newest_where None (Some (cell_in second)) (Some 1) (uncounted first one) (counted second two) (refl, whole second two)

  pub none_counts : false ≡ (slice_index first 0 == 1 && is_whole first) → false ≡ (slice_index second 0 == 1 && is_whole second)
      → IsSide first second None (newest (counting first) (counting second))
  none_counts one two = newest_where None None None (uncounted first one) (uncounted second two) refl

  -- a side is the first or the second
  pub is_first : (side : ℕ) (side_of : Option Side) → side ≡ 0 → IsSide first second (Some side) side_of → (side_of ≡ Some (record { side = 0; cell = cell_in first })) × (is_whole first ≡ true)
  is_first side side_of zeroth is = subst (λ (s : ℕ). IsSide first second (Some s) side_of) zeroth is

  pub is_second : (side : ℕ) (side_of : Option Side) → (side ≡ 0 → ⊥) → IsSide first second (Some side) side_of → (side_of ≡ Some (record { side = 1; cell = cell_in second })) × (is_whole second ≡ true)
  is_second zero side_of other is = absurd (other refl)
  is_second (suc side) side_of other is = is
