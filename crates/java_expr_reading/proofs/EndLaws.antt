-- The table of where bodies end.
use Rattle.std.proofs.Common.{◌≡◌, ◌≢◌, ℕ, zero, suc, ◌+◌, ◌-◌, ◌^◌, ◌<◌, ◌≤◌, List, [], ◌∷◌, length, drop, map, get_or, set, refl, sym, ap, ◌∙◌, subst, inl, inr, arith, get_or-set_same, get_or-set_other}
use Rattle.std.proofs.lemmas.List.{length-map}
use Rattle.std.proofs.Math.Seq.{drop-length}
use Rattle.std.proofs.lemmas.Bool.{cases_lt}
use Rattle.java_tree.specs.declared.mark.Mark.TheVariants as marks
use Rattle.java_model.specs.Grammar.Signs.{Sign, mark, left_brace, this, super, word, literal, stray}
use Rattle.java_model.specs.Grammar.Runs.{after_body}
use Rattle.java_expr_reading.specs.Shapes.{shape_of}
use Rattle.java_expr_reading.specs.Marking.{Closes, end_from, AreEndsFrom, IsMarked}
use Rattle.java_expr_reading.specs.declared.shape.Shape.{Shape}
use Rattle.java_expr_reading.specs.declared.shape.Shape.TheVariants as shapes

-- one more brace is one more body
after_body-suc : (ts : List Sign) (d : ℕ) → after_body ts (suc d) ≡ after_body (after_body ts d) zero
after_body-suc [] d = refl
after_body-suc (left_brace at ∷ ts) d = after_body-suc ts (suc d)
after_body-suc (mark marks.RightBrace ∷ ts) zero = refl
after_body-suc (mark marks.RightBrace ∷ ts) (suc d) = after_body-suc ts d
after_body-suc (mark m ∷ ts) d = after_body-suc ts d
after_body-suc (this s ∷ ts) d = after_body-suc ts d
after_body-suc (super s ∷ ts) d = after_body-suc ts d
after_body-suc (word i ∷ ts) d = after_body-suc ts d
after_body-suc (literal l ∷ ts) d = after_body-suc ts d
after_body-suc (stray ∷ ts) d = after_body-suc ts d

-- from a place on each entry lies between its own place and the end
pub record IsBounded (len from : ℕ) (ends : List ℕ) : Type 0 where
  pub low : (k : ℕ) → from ≤ k → k ≤ len → k ≤ get_or ends k 0
  pub high : (k : ℕ) → from ≤ k → k ≤ len → get_or ends k 0 ≤ len

pub record IsBetween (at len n : ℕ) : Type 0 where
  pub low : at ≤ n
  pub high : n ≤ len

between : (s : Shape) (len at : ℕ) (ends : List ℕ) → at < len → IsBounded len (at + 1) ends → IsBetween at len (end_from s at ends)
between (shapes.Mark marks.RightBrace) len at ends h b = record { low = omega arith; high = omega arith }
between shapes.LeftBrace len at ends h b =
    let low = b.low (at + 1) (omega arith) (omega arith) in
    let high = b.high (at + 1) (omega arith) (omega arith) in
    let next = get_or ends (at + 1) 0 in
    let low_ = b.low next (omega arith) (omega arith) in
    let high_ = b.high next (omega arith) (omega arith) in
    record { low = omega arith; high = omega arith }
between _ len at ends h b =
    let low = b.low (at + 1) (omega arith) (omega arith) in
    let high = b.high (at + 1) (omega arith) (omega arith) in
    record { low = omega arith; high = omega arith }

-- at a place that was written, and at the others behind it
at_written : (P : ℕ → ℕ → Type 0) (ends : List ℕ) (at v len : ℕ) → length ends ≡ suc len → at < len → P at v → ((k : ℕ) → at + 1 ≤ k → k ≤ len → P k (get_or ends k 0))
    → (k : ℕ) → at ≤ k → k ≤ len → P k (get_or (set ends at v) k 0)
at_written P ends at v len l h here there k low high =
    elim (cases_lt at k) [
      | inl lt ↦ let other : k ≢ at = omega arith in rw (get_or-set_other ends at k v 0 other) (there k (omega arith) high)
      | inr le ↦
          let same : at ≡ k = omega arith in
          let inside : at < length ends = omega arith in
          subst (λ x. P x (get_or (set ends at v) x 0)) same (rw (get_or-set_same ends at v 0 inside) here)
    ]

pub bounded_more : (s : Shape) (len at : ℕ) (ends : List ℕ) → length ends ≡ suc len → at < len → IsBounded len (at + 1) ends
    → IsBounded len at (set ends at (end_from s at ends))
bounded_more s len at ends l h b =
    let here = between s len at ends h b in
    record {
      low = at_written (λ k n. k ≤ n) ends at (end_from s at ends) len l h here.low b.low;
      high = at_written (λ k n. n ≤ len) ends at (end_from s at ends) len l h here.high b.high;
    }

-- where nothing else happens a body ends where it ends behind the token
passes_on : (ts : List Sign) (at : ℕ) (ends : List ℕ) → at < length ts → after_body (drop at ts) zero ≡ after_body (drop (at + 1) ts) zero → AreEndsFrom ts (at + 1) ends
    → Closes ts at (get_or ends (at + 1) 0)
passes_on ts at ends h e closes =
    let c = closes (at + 1) (omega arith) (omega arith) in
    let low = c.later in
    record { behind = c.behind ∙ sym e; later = omega arith; within = c.within }

closes_at : (t : Sign) (ts : List Sign) (at : ℕ) (ends : List ℕ) → at < length ts → drop at ts ≡ t ∷ drop (at + 1) ts → AreEndsFrom ts (at + 1) ends
    → Closes ts at (end_from (shape_of t) at ends)
closes_at (mark marks.RightBrace) ts at ends h e closes = record { behind = sym (ap (λ us. after_body us zero) e); later = omega arith; within = omega arith }
closes_at (left_brace b) ts at ends h e closes =
    let one = closes (at + 1) (omega arith) (omega arith) in
    let low = one.later in
    let two = closes (get_or ends (at + 1) 0) (omega arith) one.within in
    let low_ = two.later in
    record {
      behind = two.behind ∙ ap (λ us. after_body us zero) one.behind ∙ sym (after_body-suc (drop (at + 1) ts) zero) ∙ sym (ap (λ us. after_body us zero) e);
      later = omega arith;
      within = two.within;
    }
closes_at (mark m) ts at ends h e closes = passes_on ts at ends h (ap (λ us. after_body us zero) e) closes
closes_at (this s) ts at ends h e closes = passes_on ts at ends h (ap (λ us. after_body us zero) e) closes
closes_at (super s) ts at ends h e closes = passes_on ts at ends h (ap (λ us. after_body us zero) e) closes
closes_at (word i) ts at ends h e closes = passes_on ts at ends h (ap (λ us. after_body us zero) e) closes
closes_at (literal l) ts at ends h e closes = passes_on ts at ends h (ap (λ us. after_body us zero) e) closes
closes_at stray ts at ends h e closes = passes_on ts at ends h (ap (λ us. after_body us zero) e) closes

pub data Splits (at : ℕ) (ts : List Sign) (s : Shape) : Type 0 where
  splits : (t : Sign) → drop at ts ≡ t ∷ drop (at + 1) ts → shape_of t ≡ s → Splits at ts s

split_at : (ts : List Sign) (at : ℕ) (d : Shape) → at < length ts → Splits at ts (get_or (map shape_of ts) at d)
split_at [] at d h = absurd (omega arith)
split_at (t ∷ ts) zero d h = splits t refl refl
split_at (t ∷ ts) (suc at) d h = later (split_at ts at d (omega arith))
  where
    later : Splits at ts (get_or (map shape_of ts) at d) → Splits (suc at) (t ∷ ts) (get_or (map shape_of ts) at d)
    later (splits u e is) = splits u (e ∙ ap (λ (k : ℕ). u ∷ drop k (t ∷ ts)) (let n : suc (at + 1) ≡ suc at + 1 = omega arith in n)) is

close_here : (ts : List Sign) (at : ℕ) (s : Shape) (ends : List ℕ) → at < length ts → Splits at ts s → AreEndsFrom ts (at + 1) ends → Closes ts at (end_from s at ends)
close_here ts at s ends h (splits t e is) closes = subst (λ x. Closes ts at (end_from x at ends)) is (closes_at t ts at ends h e closes)

pub closes_more : (ts : List Sign) (all : List Shape) (at : ℕ) (d : Shape) (ends : List ℕ) → map shape_of ts ≡ all → at < length all → length ends ≡ suc (length all)
    → AreEndsFrom ts (at + 1) ends → AreEndsFrom ts at (set ends at (end_from (get_or all at d) at ends))
closes_more ts all at d ends e h l closes =
    let same : length ts ≡ length all = sym (length-map ts shape_of) ∙ ap length e in
    let s : Shape = get_or all at d in
    let here : Splits at ts s = subst (λ x. Splits at ts (get_or x at d)) e (split_at ts at d (omega arith)) in
    at_written (λ k n. Closes ts k n) ends at (end_from s at ends) (length ts) (omega arith) (omega arith) (close_here ts at s ends (omega arith) here closes) closes

-- at the end of the tokens every body ends
pub closes_end : (ts : List Sign) (n : ℕ) (ends : List ℕ) → n ≡ length ts → get_or ends n 0 ≡ n → AreEndsFrom ts n ends
closes_end ts n ends e g k low high =
    let same : n ≡ k = omega arith in
    subst (λ x. Closes ts x (get_or ends x 0)) same (rw g (record { behind = none ∙ ap (λ us. after_body us zero) (sym none); later = omega arith; within = omega arith }))
  where
    none : drop n ts ≡ []
    none = ap (λ (k : ℕ). drop k ts) e ∙ drop-length ts

-- what the loop keeps, with the place that it goes on with one lower
pub record KeepsEnds (all : List Shape) (at : ℕ) (ends : List ℕ) : Type 0 where
  pub bounded : IsBounded (length all) at ends
  pub closes : (ts : List Sign) → map shape_of ts ≡ all → AreEndsFrom ts at ends

pub keeps_ends : (all : List Shape) (n : ℕ) (d : Shape) (ends : List ℕ) (v : ℕ) → length ends ≡ suc (length all) → 0 < n → n ≤ length all
    → IsBounded (length all) n ends → ((ts : List Sign) → map shape_of ts ≡ all → AreEndsFrom ts n ends)
    → v ≡ end_from (get_or all (n - 1) d) (n - 1) ends → KeepsEnds all (n - 1) (set ends (n - 1) v)
keeps_ends all n d ends v l some within bounded closes is =
    let here : n ≡ n - 1 + 1 = omega arith in
    subst (λ x. KeepsEnds all (n - 1) (set ends (n - 1) x)) (sym is)
    (record {
      bounded = bounded_more (get_or all (n - 1) d) (length all) (n - 1) ends l (omega arith) (subst (λ x. IsBounded (length all) x ends) here bounded);
      closes = λ ts e. closes_more ts all (n - 1) d ends e (omega arith) l (subst (λ x. AreEndsFrom ts x ends) here (closes ts e));
    })

pub is_marked : (ts : List Sign) (all slice : List Shape) (ends : List ℕ) → all ≡ map shape_of ts → slice ≡ all → length ts < 2 ^ 32 → length ends ≡ suc (length slice)
    → ((us : List Sign) → map shape_of us ≡ slice → AreEndsFrom us 0 ends) → IsMarked ts all ends
is_marked ts all slice ends e f few l closes =
    let same : length slice ≡ length ts = ap length (f ∙ e) ∙ length-map ts shape_of in
    record { shaped = e; few = few; each_place = l ∙ ap suc same; closes = closes ts (sym (f ∙ e)) }
