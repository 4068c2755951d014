-- Loops that add to what was found, and leave a rest.
use Rattle.std.proofs.Common.{◌≡◌, ◌≤◌, ◌⊎◌, inl, inr, List, [], ◌∷◌, ◌++◌, length, get_or, drop, refl, ap, sym, ◌∙◌, ◌-◌, take, arith, append_assoc}
use Rattle.std.proofs.lemmas.List.{take_rest}
use Rattle.std.specs.List.{zip}
use Rattle.java_tree.specs.declared.names.Ident.{Ident}
use Rattle.java_tree.specs.declared.occurrence.Access.{Access}
use Rattle.java_tree.specs.declared.occurrence.Access.TheVariants.{Read}
use Rattle.java_tree.specs.declared.occurrence.Occurrence.{Occurrence}
use Rattle.java_tree.specs.declared.types.NameKind.{NameKind}
use Rattle.java_model.specs.Occurrences.References.{Role, as_qualifier, last_access, unbound_last, identifier_in, identifiers_in}

-- one step more
pub goes_on : {O : Type 0} (old new n left rest all : List O) → new ≡ old ++ n → left ≡ n ++ rest → old ++ left ≡ all → new ++ rest ≡ all
goes_on old new n left rest all e f h = ap (λ q. q ++ rest) e ∙ append_assoc old n rest ∙ ap (λ q. old ++ q) (sym f) ∙ h

-- the last step
pub comes_to : {O : Type 0} (old new n left all : List O) → new ≡ old ++ n → left ≡ n → old ++ left ≡ all → new ≡ all
comes_to old new n left all e f h = e ∙ ap (λ q. old ++ q) (sym f) ∙ h

module _ (r : Role) (i : Ident) (k : NameKind) where
  pub one_identifier : (xs : List Ident) (ks : List NameKind) → 1 ≤ length xs → 1 ≤ length ks → i ≡ get_or xs 0 i → k ≡ get_or ks 0 k
      → (length xs ≡ 1) ⊎ (length ks ≡ 1) → identifiers_in r (zip xs ks) ≡ identifier_in (last_access r) (unbound_last r i) i k
  one_identifier [] ks l m e f h = absurd (omega (arith, l))
  one_identifier (x ∷ xs) [] l m e f h = absurd (omega (arith, m))
  one_identifier (x ∷ []) (y ∷ ks) l m e f h = sym (ap (λ j. identifier_in (last_access r) (unbound_last r j) j k) e ∙ ap (identifier_in (last_access r) (unbound_last r x) x) f)
  one_identifier (x ∷ z ∷ xs) (y ∷ []) l m e f h = sym (ap (λ j. identifier_in (last_access r) (unbound_last r j) j k) e ∙ ap (identifier_in (last_access r) (unbound_last r x) x) f)
  one_identifier (x ∷ z ∷ xs) (y ∷ w ∷ ks) l m e f h = absurd (elim h [ inl g ↦ omega (arith, g) | inr g ↦ omega (arith, g) ])

  pub more_identifiers : (xs : List Ident) (ks : List NameKind) → 1 ≤ length xs → 1 ≤ length ks → i ≡ get_or xs 0 i → k ≡ get_or ks 0 k
      → (length xs ≡ 1 → ⊥) → (length ks ≡ 1 → ⊥)
      → identifiers_in r (zip xs ks) ≡ identifier_in Read (unbound_last as_qualifier i) i k ++ identifiers_in r (zip (drop 1 xs) (drop 1 ks))
  more_identifiers [] ks l m e f g h = absurd (omega (arith, l))
  more_identifiers (x ∷ xs) [] l m e f g h = absurd (omega (arith, m))
  more_identifiers (x ∷ []) (y ∷ ks) l m e f g h = absurd (g refl)
  more_identifiers (x ∷ z ∷ xs) (y ∷ []) l m e f g h = absurd (h refl)
  more_identifiers (x ∷ z ∷ xs) (y ∷ w ∷ ks) l m e f g h =
      sym (ap (λ j. identifier_in Read (unbound_last as_qualifier j) j k ++ identifiers_in r (zip (z ∷ xs) (w ∷ ks))) e
      ∙ ap (λ q. identifier_in Read (unbound_last as_qualifier x) x q ++ identifiers_in r (zip (z ∷ xs) (w ∷ ks))) f)

  -- a step of a loop over both lists
  pub next_identifiers : (xs : List Ident) (ks : List NameKind) (old new all : List Occurrence) → 1 ≤ length xs → 1 ≤ length ks → i ≡ get_or xs 0 i → k ≡ get_or ks 0 k
      → (length xs ≡ 1 → ⊥) → (length ks ≡ 1 → ⊥) → new ≡ old ++ identifier_in Read (unbound_last as_qualifier i) i k
      → old ++ identifiers_in r (zip xs ks) ≡ all → new ++ identifiers_in r (zip (take (length xs - 1) (drop 1 xs)) (take (length ks - 1) (drop 1 ks))) ≡ all
  next_identifiers xs ks old new all l m e f g h is before =
      ap (λ ys. new ++ identifiers_in r (zip ys (take (length ks - 1) (drop 1 ks)))) (take_rest xs 1)
      ∙ ap (λ ys. new ++ identifiers_in r (zip (drop 1 xs) ys)) (take_rest ks 1)
      ∙ goes_on old new _ _ _ all is (more_identifiers xs ks l m e f g h) before

  pub last_identifiers : (xs : List Ident) (ks : List NameKind) (how : Access) (old new all : List Occurrence) → 1 ≤ length xs → 1 ≤ length ks → i ≡ get_or xs 0 i → k ≡ get_or ks 0 k
      → (length xs ≡ 1) ⊎ (length ks ≡ 1) → how ≡ last_access r → new ≡ old ++ identifier_in how (unbound_last r i) i k
      → old ++ identifiers_in r (zip xs ks) ≡ all → new ≡ all
  last_identifiers xs ks how old new all l m e f h a is before =
      comes_to old new (identifier_in how (unbound_last r i) i k) _ all is
      (one_identifier xs ks l m e f h ∙ ap (λ q. identifier_in q (unbound_last r i) i k) (sym a)) before
