-- The symbol at a place is that of its characters.
use Rattle.std.proofs.Common.{◌≡◌, ℕ, suc, Bool, true, false, cond, ◌==◌, List, [], ◌∷◌, ◌++◌, drop, codes, refl, sym, ap, ◌∙◌, subst, inl, inr, arith, eqb-true, true≢false}
use Rattle.std.proofs.lemmas.Bool.{cases_Bool, or_cases, and_parts}
use Rattle.std.proofs.lemmas.Bool.Decides.{nat_tests}
use Rattle.java_model.specs.Lexical.Characters.{is_one_of}
use Rattle.java_model.specs.Lexical.Symbols.{symbols, separators, operators}
use Rattle.java_model.proofs.Lexical.Reading.{begins, longest_listed}
use Rattle.java_model.proofs.Lexical.Listed.{longest-listed, symbols_are, is_symbol_start, is_symbol_word}

flip : (d a : ℕ) (b : Bool) → d == a ≡ b → a == d ≡ b
flip d a true h = grind (arith, nat_tests)
flip d a false h = grind (arith, nat_tests)

-- each character of a list has a property
abbrev AllHave : (ℕ → Type 0) → List ℕ → Type 0
AllHave P [] = Unit {0}
AllHave P (x ∷ xs) = P x × AllHave P xs

one_has : (P : ℕ → Type 0) (xs : List ℕ) (c : ℕ) → AllHave P xs → is_one_of xs c ≡ true → P c
one_has P [] c all h = cc
one_has P (x ∷ xs) c all h = elim (or_cases (x == c) (is_one_of xs c) h) [
  | inl here ↦ subst P (eqb-true x c here) all.0
  | inr later ↦ one_has P xs c all.1 later
]

abbrev IsAlone : ℕ → Type 0
IsAlone c = (cs : List ℕ) → longest_listed symbols (c ∷ cs) ≡ 1

pub alone : (c : ℕ) → is_one_of (codes "(){}[];,.~?:") c ≡ true → (cs : List ℕ) → longest_listed symbols (c ∷ cs) ≡ 1
unfolding symbols separators operators
alone c h = one_has IsAlone (codes "(){}[];,.~?:") c (λ cs. refl, (λ cs. refl, (λ cs. refl, (λ cs. refl, (λ cs. refl, (λ cs. refl, (λ cs. refl, (λ cs. refl, (λ cs. refl, (λ cs. refl, (λ cs. refl, (λ cs. refl, tt)))))))))))) h

-- the length of an `=` at the front
abbrev pub assign_length : List ℕ → ℕ
assign_length cs = cond (begins (λ x. x == 61) cs) 1 0

abbrev pub assigning_length : List ℕ → ℕ
assigning_length cs = suc (assign_length cs)

-- the length of a character at the front, if it is there, and then of an `=`
abbrev pub then_assign : ℕ → List ℕ → ℕ
then_assign c cs = cond (begins (λ x. x == c) cs) (suc (assign_length (drop 1 cs))) (assign_length cs)

abbrev IsAssigning : ℕ → Type 0
IsAssigning c = (cs : List ℕ) → longest_listed symbols (c ∷ cs) ≡ assigning_length cs

assigning_61 : IsAssigning 61
unfolding symbols separators operators
assigning_61 [] = refl
assigning_61 (d ∷ cs) = elim (cases_Bool (d == 61)) [ inl d61_is ↦ rw (d61_is, flip d 61 true d61_is) refl | inr d61_not ↦ rw (d61_not, flip d 61 false d61_not) refl ]

assigning_33 : IsAssigning 33
unfolding symbols separators operators
assigning_33 [] = refl
assigning_33 (d ∷ cs) = elim (cases_Bool (d == 61)) [ inl d61_is ↦ rw (d61_is, flip d 61 true d61_is) refl | inr d61_not ↦ rw (d61_not, flip d 61 false d61_not) refl ]

assigning_42 : IsAssigning 42
unfolding symbols separators operators
assigning_42 [] = refl
assigning_42 (d ∷ cs) = elim (cases_Bool (d == 61)) [ inl d61_is ↦ rw (d61_is, flip d 61 true d61_is) refl | inr d61_not ↦ rw (d61_not, flip d 61 false d61_not) refl ]

assigning_47 : IsAssigning 47
unfolding symbols separators operators
assigning_47 [] = refl
assigning_47 (d ∷ cs) = elim (cases_Bool (d == 61)) [ inl d61_is ↦ rw (d61_is, flip d 61 true d61_is) refl | inr d61_not ↦ rw (d61_not, flip d 61 false d61_not) refl ]

assigning_94 : IsAssigning 94
unfolding symbols separators operators
assigning_94 [] = refl
assigning_94 (d ∷ cs) = elim (cases_Bool (d == 61)) [ inl d61_is ↦ rw (d61_is, flip d 61 true d61_is) refl | inr d61_not ↦ rw (d61_not, flip d 61 false d61_not) refl ]

assigning_37 : IsAssigning 37
unfolding symbols separators operators
assigning_37 [] = refl
assigning_37 (d ∷ cs) = elim (cases_Bool (d == 61)) [ inl d61_is ↦ rw (d61_is, flip d 61 true d61_is) refl | inr d61_not ↦ rw (d61_not, flip d 61 false d61_not) refl ]

pub assigning : (c : ℕ) → is_one_of (codes "=!*/^%") c ≡ true → (cs : List ℕ) → longest_listed symbols (c ∷ cs) ≡ assigning_length cs
assigning c h = one_has IsAssigning (codes "=!*/^%") c (assigning_61, (assigning_33, (assigning_42, (assigning_47, (assigning_94, (assigning_37, tt)))))) h

abbrev pub doubling_length : ℕ → List ℕ → ℕ
doubling_length c cs = suc (cond (begins (λ x. x == c) cs) 1 (assign_length cs))

abbrev IsDoubling : ℕ → Type 0
IsDoubling c = (cs : List ℕ) → longest_listed symbols (c ∷ cs) ≡ doubling_length c cs

doubling_43 : IsDoubling 43
unfolding symbols separators operators
doubling_43 [] = refl
doubling_43 (d ∷ cs) = elim (cases_Bool (d == 43)) [ inl d43_is ↦ elim (cases_Bool (d == 61)) [ inl d61_is ↦ rw (d43_is, flip d 43 true d43_is, flip d 61 true d61_is) refl | inr d61_not ↦ rw (d43_is, flip d 43 true d43_is, flip d 61 false d61_not) refl ] | inr d43_not ↦ elim (cases_Bool (d == 61)) [ inl d61_is ↦ rw (d43_not, flip d 43 false d43_not, d61_is, flip d 61 true d61_is) refl | inr d61_not ↦ rw (d43_not, flip d 43 false d43_not, d61_not, flip d 61 false d61_not) refl ] ]

doubling_45 : IsDoubling 45
unfolding symbols separators operators
doubling_45 [] = refl
doubling_45 (d ∷ cs) = elim (cases_Bool (d == 45)) [ inl d45_is ↦ elim (cases_Bool (d == 61)) [ inl d61_is ↦ rw (d45_is, flip d 45 true d45_is, flip d 61 true d61_is) refl | inr d61_not ↦ rw (d45_is, flip d 45 true d45_is, flip d 61 false d61_not) refl ] | inr d45_not ↦ elim (cases_Bool (d == 61)) [ inl d61_is ↦ rw (d45_not, flip d 45 false d45_not, d61_is, flip d 61 true d61_is) refl | inr d61_not ↦ rw (d45_not, flip d 45 false d45_not, d61_not, flip d 61 false d61_not) refl ] ]

doubling_38 : IsDoubling 38
unfolding symbols separators operators
doubling_38 [] = refl
doubling_38 (d ∷ cs) = elim (cases_Bool (d == 38)) [ inl d38_is ↦ elim (cases_Bool (d == 61)) [ inl d61_is ↦ rw (d38_is, flip d 38 true d38_is, flip d 61 true d61_is) refl | inr d61_not ↦ rw (d38_is, flip d 38 true d38_is, flip d 61 false d61_not) refl ] | inr d38_not ↦ elim (cases_Bool (d == 61)) [ inl d61_is ↦ rw (d38_not, flip d 38 false d38_not, d61_is, flip d 61 true d61_is) refl | inr d61_not ↦ rw (d38_not, flip d 38 false d38_not, d61_not, flip d 61 false d61_not) refl ] ]

doubling_124 : IsDoubling 124
unfolding symbols separators operators
doubling_124 [] = refl
doubling_124 (d ∷ cs) = elim (cases_Bool (d == 124)) [ inl d124_is ↦ elim (cases_Bool (d == 61)) [ inl d61_is ↦ rw (d124_is, flip d 124 true d124_is, flip d 61 true d61_is) refl | inr d61_not ↦ rw (d124_is, flip d 124 true d124_is, flip d 61 false d61_not) refl ] | inr d124_not ↦ elim (cases_Bool (d == 61)) [ inl d61_is ↦ rw (d124_not, flip d 124 false d124_not, d61_is, flip d 61 true d61_is) refl | inr d61_not ↦ rw (d124_not, flip d 124 false d124_not, d61_not, flip d 61 false d61_not) refl ] ]

pub doubling : (c : ℕ) → is_one_of (codes "+-&|") c ≡ true → (cs : List ℕ) → longest_listed symbols (c ∷ cs) ≡ doubling_length c cs
doubling c h = one_has IsDoubling (codes "+-&|") c (doubling_43, (doubling_45, (doubling_38, (doubling_124, tt)))) h

pub less : (cs : List ℕ) → longest_listed symbols (60 ∷ cs) ≡ suc (then_assign 60 cs)
unfolding symbols separators operators
less [] = refl
less (d ∷ []) = elim (cases_Bool (d == 60)) [ inl d60_is ↦ elim (cases_Bool (d == 61)) [ inl d61_is ↦ rw (d60_is, flip d 60 true d60_is, flip d 61 true d61_is) refl | inr d61_not ↦ rw (d60_is, flip d 60 true d60_is, flip d 61 false d61_not) refl ] | inr d60_not ↦ elim (cases_Bool (d == 61)) [ inl d61_is ↦ rw (d60_not, flip d 60 false d60_not, d61_is, flip d 61 true d61_is) refl | inr d61_not ↦ rw (d60_not, flip d 60 false d60_not, d61_not, flip d 61 false d61_not) refl ] ]
less (d ∷ e ∷ cs) = elim (cases_Bool (d == 60)) [ inl d60_is ↦ elim (cases_Bool (d == 61)) [ inl d61_is ↦ elim (cases_Bool (e == 61)) [ inl e61_is ↦ rw (d60_is, flip d 60 true d60_is, flip d 61 true d61_is, e61_is, flip e 61 true e61_is) refl | inr e61_not ↦ rw (d60_is, flip d 60 true d60_is, flip d 61 true d61_is, e61_not, flip e 61 false e61_not) refl ] | inr d61_not ↦ elim (cases_Bool (e == 61)) [ inl e61_is ↦ rw (d60_is, flip d 60 true d60_is, flip d 61 false d61_not, e61_is, flip e 61 true e61_is) refl | inr e61_not ↦ rw (d60_is, flip d 60 true d60_is, flip d 61 false d61_not, e61_not, flip e 61 false e61_not) refl ] ] | inr d60_not ↦ elim (cases_Bool (d == 61)) [ inl d61_is ↦ rw (d60_not, flip d 60 false d60_not, d61_is, flip d 61 true d61_is) refl | inr d61_not ↦ rw (d60_not, flip d 60 false d60_not, d61_not, flip d 61 false d61_not) refl ] ]

pub greater : (cs : List ℕ) → longest_listed symbols (62 ∷ cs) ≡ suc (cond (begins (λ x. x == 62) cs) (suc (then_assign 62 (drop 1 cs))) (assign_length cs))
unfolding symbols separators operators
greater [] = refl
greater (d ∷ []) = elim (cases_Bool (d == 62)) [ inl d62_is ↦ elim (cases_Bool (d == 61)) [ inl d61_is ↦ rw (d62_is, flip d 62 true d62_is, flip d 61 true d61_is) refl | inr d61_not ↦ rw (d62_is, flip d 62 true d62_is, flip d 61 false d61_not) refl ] | inr d62_not ↦ elim (cases_Bool (d == 61)) [ inl d61_is ↦ rw (d62_not, flip d 62 false d62_not, d61_is, flip d 61 true d61_is) refl | inr d61_not ↦ rw (d62_not, flip d 62 false d62_not, d61_not, flip d 61 false d61_not) refl ] ]
greater (d ∷ e ∷ []) = elim (cases_Bool (d == 62)) [ inl d62_is ↦ elim (cases_Bool (d == 61)) [ inl d61_is ↦ elim (cases_Bool (e == 62)) [ inl e62_is ↦ elim (cases_Bool (e == 61)) [ inl e61_is ↦ rw (d62_is, flip d 62 true d62_is, flip d 61 true d61_is, e62_is, flip e 62 true e62_is, flip e 61 true e61_is) refl | inr e61_not ↦ rw (d62_is, flip d 62 true d62_is, flip d 61 true d61_is, e62_is, flip e 62 true e62_is, flip e 61 false e61_not) refl ] | inr e62_not ↦ elim (cases_Bool (e == 61)) [ inl e61_is ↦ rw (d62_is, flip d 62 true d62_is, flip d 61 true d61_is, e62_not, flip e 62 false e62_not, e61_is, flip e 61 true e61_is) refl | inr e61_not ↦ rw (d62_is, flip d 62 true d62_is, flip d 61 true d61_is, e62_not, flip e 62 false e62_not, e61_not, flip e 61 false e61_not) refl ] ] | inr d61_not ↦ elim (cases_Bool (e == 62)) [ inl e62_is ↦ elim (cases_Bool (e == 61)) [ inl e61_is ↦ rw (d62_is, flip d 62 true d62_is, flip d 61 false d61_not, e62_is, flip e 62 true e62_is, flip e 61 true e61_is) refl | inr e61_not ↦ rw (d62_is, flip d 62 true d62_is, flip d 61 false d61_not, e62_is, flip e 62 true e62_is, flip e 61 false e61_not) refl ] | inr e62_not ↦ elim (cases_Bool (e == 61)) [ inl e61_is ↦ rw (d62_is, flip d 62 true d62_is, flip d 61 false d61_not, e62_not, flip e 62 false e62_not, e61_is, flip e 61 true e61_is) refl | inr e61_not ↦ rw (d62_is, flip d 62 true d62_is, flip d 61 false d61_not, e62_not, flip e 62 false e62_not, e61_not, flip e 61 false e61_not) refl ] ] ] | inr d62_not ↦ elim (cases_Bool (d == 61)) [ inl d61_is ↦ rw (d62_not, flip d 62 false d62_not, d61_is, flip d 61 true d61_is) refl | inr d61_not ↦ rw (d62_not, flip d 62 false d62_not, d61_not, flip d 61 false d61_not) refl ] ]
greater (d ∷ e ∷ f ∷ cs) = elim (cases_Bool (d == 62)) [ inl d62_is ↦ elim (cases_Bool (d == 61)) [ inl d61_is ↦ elim (cases_Bool (e == 62)) [ inl e62_is ↦ elim (cases_Bool (e == 61)) [ inl e61_is ↦ elim (cases_Bool (f == 61)) [ inl f61_is ↦ rw (d62_is, flip d 62 true d62_is, flip d 61 true d61_is, e62_is, flip e 62 true e62_is, flip e 61 true e61_is, f61_is, flip f 61 true f61_is) refl | inr f61_not ↦ rw (d62_is, flip d 62 true d62_is, flip d 61 true d61_is, e62_is, flip e 62 true e62_is, flip e 61 true e61_is, f61_not, flip f 61 false f61_not) refl ] | inr e61_not ↦ elim (cases_Bool (f == 61)) [ inl f61_is ↦ rw (d62_is, flip d 62 true d62_is, flip d 61 true d61_is, e62_is, flip e 62 true e62_is, flip e 61 false e61_not, f61_is, flip f 61 true f61_is) refl | inr f61_not ↦ rw (d62_is, flip d 62 true d62_is, flip d 61 true d61_is, e62_is, flip e 62 true e62_is, flip e 61 false e61_not, f61_not, flip f 61 false f61_not) refl ] ] | inr e62_not ↦ elim (cases_Bool (e == 61)) [ inl e61_is ↦ rw (d62_is, flip d 62 true d62_is, flip d 61 true d61_is, e62_not, flip e 62 false e62_not, e61_is, flip e 61 true e61_is) refl | inr e61_not ↦ rw (d62_is, flip d 62 true d62_is, flip d 61 true d61_is, e62_not, flip e 62 false e62_not, e61_not, flip e 61 false e61_not) refl ] ] | inr d61_not ↦ elim (cases_Bool (e == 62)) [ inl e62_is ↦ elim (cases_Bool (e == 61)) [ inl e61_is ↦ elim (cases_Bool (f == 61)) [ inl f61_is ↦ rw (d62_is, flip d 62 true d62_is, flip d 61 false d61_not, e62_is, flip e 62 true e62_is, flip e 61 true e61_is, f61_is, flip f 61 true f61_is) refl | inr f61_not ↦ rw (d62_is, flip d 62 true d62_is, flip d 61 false d61_not, e62_is, flip e 62 true e62_is, flip e 61 true e61_is, f61_not, flip f 61 false f61_not) refl ] | inr e61_not ↦ elim (cases_Bool (f == 61)) [ inl f61_is ↦ rw (d62_is, flip d 62 true d62_is, flip d 61 false d61_not, e62_is, flip e 62 true e62_is, flip e 61 false e61_not, f61_is, flip f 61 true f61_is) refl | inr f61_not ↦ rw (d62_is, flip d 62 true d62_is, flip d 61 false d61_not, e62_is, flip e 62 true e62_is, flip e 61 false e61_not, f61_not, flip f 61 false f61_not) refl ] ] | inr e62_not ↦ elim (cases_Bool (e == 61)) [ inl e61_is ↦ rw (d62_is, flip d 62 true d62_is, flip d 61 false d61_not, e62_not, flip e 62 false e62_not, e61_is, flip e 61 true e61_is) refl | inr e61_not ↦ rw (d62_is, flip d 62 true d62_is, flip d 61 false d61_not, e62_not, flip e 62 false e62_not, e61_not, flip e 61 false e61_not) refl ] ] ] | inr d62_not ↦ elim (cases_Bool (d == 61)) [ inl d61_is ↦ rw (d62_not, flip d 62 false d62_not, d61_is, flip d 61 true d61_is) refl | inr d61_not ↦ rw (d62_not, flip d 62 false d62_not, d61_not, flip d 61 false d61_not) refl ] ]

pub no_symbol : (c : ℕ) (cs : List ℕ) → is_symbol_start c ≡ false → longest_listed symbols (c ∷ cs) ≡ 0
no_symbol c cs h = elim (longest-listed symbols (c ∷ cs)) [
  | inl none ↦ none
  | inr (p, rest, e, listed, n) ↦ absurd (starts p rest e (symbols_are p listed))
]
  where
    starts : (p rest : List ℕ) → c ∷ cs ≡ p ++ rest → is_symbol_word p ≡ true → ⊥
    starts [] rest e s = cc
    starts (d ∷ p) rest e s =
        let same : d ≡ c = cc in
        let first : is_symbol_start d ≡ true = (and_parts _ _ (and_parts _ _ s).0).0 in
        true≢false (sym first ∙ (ap is_symbol_start same ∙ h))
