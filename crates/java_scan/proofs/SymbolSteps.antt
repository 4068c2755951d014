-- What is passed of a symbol at a place is the longest symbol there.
use Rattle.std.proofs.Common.{◌≡◌, ℕ, suc, ◌+◌, true, false, cond, ◌==◌, ◌∷◌, drop, codes, Some, refl, sym, ap, ◌∙◌, inl, inr, arith, nat_lt, eqb-true}
use Rattle.std.proofs.lemmas.Bool.{cases_Bool, cond_both}
use Rattle.std.proofs.lemmas.Bool.Decides.{nat_tests}
use Rattle.java_model.specs.Lexical.Characters.{is_one_of}
use Rattle.java_model.specs.Lexical.Symbols.{symbols}
use Rattle.java_model.proofs.Lexical.Reading.{begins, longest_listed}
use Rattle.java_model.proofs.Lexical.Listed.{is_symbol_start}
use Rattle.java_scan.specs.declared.class.Class.TheVariants.{Assign}
use Rattle.java_scan.specs.declared.symbols.SymbolStart.{SymbolStart}
use Rattle.java_scan.specs.declared.symbols.SymbolStart.TheVariants.{Alone, Assigning, Doubling, Less, Greater, Nothing}
use Rattle.java_scan.specs.Classes.{passes}
use Rattle.java_scan.specs.Place.{Place, first, next, advance}
use Rattle.java_scan.specs.Steps.{after_if, symbol_start, symbol_end, greater_end, has_symbol, after_symbol}
use Rattle.java_scan.proofs.PlaceLaws.{first_split, next-left, advance-zero, advance-suc, advance-advance, advance-left}
use Rattle.java_scan.proofs.NumberLaws.{after_if-true, after_if-false, after_if-advance, suc_some}
use Rattle.java_scan.proofs.SymbolLaws.{assign_length, then_assign, alone, assigning, doubling, less, greater, no_symbol}

after_assign : (q : Place) → after_if (passes Assign) q ≡ advance (assign_length q.left) q
unfolding passes
after_assign q = after_if-advance (passes Assign) q

after_then_assign : (a : ℕ) (q : Place) → after_if (passes Assign) (after_if (λ x. x == a) q) ≡ advance (then_assign a q.left) q
after_then_assign a q = elim (cases_Bool (begins (λ x. x == a) q.left)) [
  | inl is ↦ rw is (ap (after_if (passes Assign)) (after_if-true (λ x. x == a) q is) ∙ (after_assign (advance 1 q) ∙ (ap (λ cs. advance (assign_length cs) (advance 1 q)) (advance-left 1 q) ∙ (advance-advance 1 (assign_length (drop 1 q.left)) q ∙ ap (λ n. advance n q) (one_more (assign_length (drop 1 q.left)))))))
  | inr isnt ↦ rw isnt (ap (after_if (passes Assign)) (after_if-false (λ x. x == a) q isnt) ∙ after_assign q)
]
  where
    one_more : (n : ℕ) → 1 + n ≡ suc n
    one_more n = omega arith

assigning_end : (c : ℕ) (q : Place) → symbol_end Assigning c q ≡ advance (assign_length q.left) q
unfolding symbol_end
assigning_end c q = after_assign q

doubling_end : (c : ℕ) (q : Place) → symbol_end Doubling c q ≡ advance (cond (begins (λ x. x == c) q.left) 1 (assign_length q.left)) q
unfolding symbol_end
doubling_end c q = elim (cases_Bool (begins (λ x. x == c) q.left)) [
  | inl is ↦ rw is (after_if-true (λ x. x == c) q is)
  | inr isnt ↦ rw isnt (ap (after_if (passes Assign)) (after_if-false (λ x. x == c) q isnt) ∙ after_assign q)
]

less_end : (c : ℕ) (q : Place) → symbol_end Less c q ≡ advance (then_assign 60 q.left) q
unfolding symbol_end
less_end c q = after_then_assign 60 q

greater_end-is : (c : ℕ) (q : Place) → symbol_end Greater c q ≡ advance (cond (begins (λ x. x == 62) q.left) (suc (then_assign 62 (drop 1 q.left))) (assign_length q.left)) q
unfolding symbol_end greater_end
greater_end-is c q = elim (cases_Bool (begins (λ x. x == 62) q.left)) [
  | inl is ↦ rw is (ap (λ r. after_if (passes Assign) (after_if (λ x. x == 62) r)) (after_if-true (λ x. x == 62) q is) ∙ (after_then_assign 62 (advance 1 q) ∙ (ap (λ cs. advance (then_assign 62 cs) (advance 1 q)) (advance-left 1 q) ∙ (advance-advance 1 (then_assign 62 (drop 1 q.left)) q ∙ ap (λ n. advance n q) (one_more (then_assign 62 (drop 1 q.left)))))))
  | inr isnt ↦ rw isnt (ap (after_if (passes Assign)) (after_if-false (λ x. x == 62) q isnt) ∙ after_assign q)
]
  where
    one_more : (n : ℕ) → 1 + n ≡ suc n
    one_more n = omega arith

-- what is passed after the first character
abbrev pub SymbolIs : SymbolStart → Place → ℕ → Type 0
SymbolIs Nothing p c = (has_symbol p ≡ false) × (after_symbol p ≡ p)
SymbolIs Alone p c = (has_symbol p ≡ true) × (symbol_end Alone c (next p) ≡ after_symbol p)
SymbolIs Assigning p c = (has_symbol p ≡ true) × (symbol_end Assigning c (next p) ≡ after_symbol p)
SymbolIs Doubling p c = (has_symbol p ≡ true) × (symbol_end Doubling c (next p) ≡ after_symbol p)
SymbolIs Less p c = (has_symbol p ≡ true) × (symbol_end Less c (next p) ≡ after_symbol p)
SymbolIs Greater p c = (has_symbol p ≡ true) × (symbol_end Greater c (next p) ≡ after_symbol p)

-- n characters after the first
has_length : (p q : Place) (n : ℕ) → longest_listed symbols p.left ≡ suc n → q ≡ advance n (next p) → (has_symbol p ≡ true) × (q ≡ after_symbol p)
unfolding has_symbol after_symbol
has_length p q n l e = (ap (nat_lt 0) l ∙ suc_some n, e ∙ (sym (advance-suc n p) ∙ ap (λ m. advance m p) (sym l)))

alone_is : (p : Place) (c : ℕ) → first p.left ≡ Some c → is_one_of (codes "(){}[];,.~?:") c ≡ true → SymbolIs Alone p c
unfolding symbol_end
alone_is p c e h = has_length p (next p) 0 (ap (longest_listed symbols) (first_split p.left c e) ∙ alone c h (drop 1 p.left)) (sym (advance-zero (next p)))

assigning_is : (p : Place) (c : ℕ) → first p.left ≡ Some c → is_one_of (codes "=!*/^%") c ≡ true → SymbolIs Assigning p c
assigning_is p c e h = has_length p (symbol_end Assigning c (next p)) (assign_length (drop 1 p.left)) (ap (longest_listed symbols) (first_split p.left c e) ∙ assigning c h (drop 1 p.left)) (assigning_end c (next p) ∙ ap (λ cs. advance (assign_length cs) (next p)) (next-left p))

doubling_is : (p : Place) (c : ℕ) → first p.left ≡ Some c → is_one_of (codes "+-&|") c ≡ true → SymbolIs Doubling p c
doubling_is p c e h = has_length p (symbol_end Doubling c (next p)) (cond (begins (λ x. x == c) (drop 1 p.left)) 1 (assign_length (drop 1 p.left))) (ap (longest_listed symbols) (first_split p.left c e) ∙ doubling c h (drop 1 p.left)) (doubling_end c (next p) ∙ ap (λ cs. advance (cond (begins (λ x. x == c) cs) 1 (assign_length cs)) (next p)) (next-left p))

less_is : (p : Place) (c : ℕ) → first p.left ≡ Some c → c == 60 ≡ true → SymbolIs Less p c
less_is p c e h = has_length p (symbol_end Less c (next p)) (then_assign 60 (drop 1 p.left)) (ap (longest_listed symbols) (first_split p.left c e ∙ ap (λ x. x ∷ drop 1 p.left) (eqb-true c 60 h)) ∙ less (drop 1 p.left)) (less_end c (next p) ∙ ap (λ cs. advance (then_assign 60 cs) (next p)) (next-left p))

greater_is : (p : Place) (c : ℕ) → first p.left ≡ Some c → c == 62 ≡ true → SymbolIs Greater p c
greater_is p c e h = has_length p (symbol_end Greater c (next p)) (cond (begins (λ x. x == 62) (drop 1 p.left)) (suc (then_assign 62 (drop 1 (drop 1 p.left)))) (assign_length (drop 1 p.left))) (ap (longest_listed symbols) (first_split p.left c e ∙ ap (λ x. x ∷ drop 1 p.left) (eqb-true c 62 h)) ∙ greater (drop 1 p.left)) (greater_end-is c (next p) ∙ ap (λ cs. advance (cond (begins (λ x. x == 62) cs) (suc (then_assign 62 (drop 1 cs))) (assign_length cs)) (next p)) (next-left p))

no_start : (c : ℕ) → is_one_of (codes "(){}[];,.~?:") c ≡ false → is_one_of (codes "=!*/^%") c ≡ false → is_one_of (codes "+-&|") c ≡ false → c == 60 ≡ false → c == 62 ≡ false → is_symbol_start c ≡ false
no_start c h1 h2 h3 h4 h5 = grind (arith, nat_tests)

nothing_is : (p : Place) (c : ℕ) → first p.left ≡ Some c → is_symbol_start c ≡ false → SymbolIs Nothing p c
unfolding has_symbol after_symbol
nothing_is p c e h =
    let l : longest_listed symbols p.left ≡ 0 = ap (longest_listed symbols) (first_split p.left c e) ∙ no_symbol c (drop 1 p.left) h in
    (ap (nat_lt 0) l, ap (λ m. advance m p) l ∙ advance-zero p)

pub symbol_is : (p : Place) (c : ℕ) → first p.left ≡ Some c → SymbolIs (symbol_start c) p c
unfolding symbol_start
symbol_is p c e =
    let P : SymbolStart → Type 0 = λ s. SymbolIs s p c in
    cond_both (is_one_of (codes "(){}[];,.~?:") c) _ _ P (λ h. alone_is p c e h) (λ h1.
    cond_both (is_one_of (codes "=!*/^%") c) _ _ P (λ h. assigning_is p c e h) (λ h2.
    cond_both (is_one_of (codes "+-&|") c) _ _ P (λ h. doubling_is p c e h) (λ h3.
    cond_both (c == 60) _ _ P (λ h. less_is p c e h) (λ h4.
    cond_both (c == 62) _ _ P (λ h. greater_is p c e h) (λ h5. nothing_is p c e (no_start c h1 h2 h3 h4 h5))))))

-- where a symbol begins
pub some_is : (s : SymbolStart) (p : Place) (c : ℕ) → (s ≡ Nothing → ⊥) → SymbolIs s p c → (has_symbol p ≡ true) × (symbol_end s c (next p) ≡ after_symbol p)
some_is Nothing p c h is = absurd (h refl)
some_is Alone p c h is = is
some_is Assigning p c h is = is
some_is Doubling p c h is = is
some_is Less p c h is = is
some_is Greater p c h is = is
