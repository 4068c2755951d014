-- Loops over selectors and the types of their arguments.
use Rattle.std.proofs.Common.{◌≡◌, ◌-◌, ◌≤◌, ◌⊎◌, inl, inr, List, [], ◌∷◌, ◌++◌, length, get_or, take, drop, refl, ap, sym, ◌∙◌, arith}
use Rattle.std.proofs.lemmas.List.{take_rest}
use Rattle.std.specs.List.{zip}
use Rattle.java_tree.specs.declared.bound.Bound.{Bound}
use Rattle.java_tree.specs.declared.expr.Selector.{Selector, out-Selector}
use Rattle.java_tree.specs.declared.occurrence.Access.{Access}
use Rattle.java_tree.specs.declared.occurrence.Access.TheVariants.{Read}
use Rattle.java_tree.specs.declared.occurrence.Occurrence.{Occurrence}
use Rattle.java_tree.specs.declared.types.JType.{JType}
use Rattle.java_model.specs.Scopes.Contexts.{Context}
use Rattle.java_model.specs.Bindings.Chains.{Types, selector_type}
use Rattle.java_model.specs.Occurrences.Expressions.{names_in_chain, names_in_selector}
use Rattle.java_bind.proofs.Loops.{goes_on, comes_to}

module _ (C : Context) (s : List Bound) (how : Access) (t : JType) (x : Selector) (ts : Types) where
  abbrev named : Access → Selector → Types → List Occurrence
  named a y us = names_in_selector C s a t (out-Selector y) us

  abbrev onward : Selector → Types → List Selector → List Types → List Occurrence
  onward y us xs uss = names_in_chain C s how (selector_type C s t (out-Selector y) us) (zip xs uss)

  one_selector : (xs : List Selector) (uss : List Types) → 1 ≤ length xs → 1 ≤ length uss → x ≡ get_or xs 0 x → ts ≡ get_or uss 0 ts
      → (length xs ≡ 1) ⊎ (length uss ≡ 1) → names_in_chain C s how t (zip xs uss) ≡ named how x ts
  one_selector [] uss l m e f h = absurd (omega (arith, l))
  one_selector (y ∷ xs) [] l m e f h = absurd (omega (arith, m))
  one_selector (y ∷ []) (us ∷ uss) l m e f h = sym (ap (λ z. named how z ts) e ∙ ap (named how y) f)
  one_selector (y ∷ z ∷ xs) (us ∷ []) l m e f h = sym (ap (λ w. named how w ts) e ∙ ap (named how y) f)
  one_selector (y ∷ z ∷ xs) (us ∷ vs ∷ uss) l m e f h = absurd (elim h [ inl g ↦ omega (arith, g) | inr g ↦ omega (arith, g) ])

  more_selectors : (xs : List Selector) (uss : List Types) → 1 ≤ length xs → 1 ≤ length uss → x ≡ get_or xs 0 x → ts ≡ get_or uss 0 ts
      → (length xs ≡ 1 → ⊥) → (length uss ≡ 1 → ⊥)
      → names_in_chain C s how t (zip xs uss) ≡ named Read x ts ++ onward x ts (drop 1 xs) (drop 1 uss)
  more_selectors [] uss l m e f g h = absurd (omega (arith, l))
  more_selectors (y ∷ xs) [] l m e f g h = absurd (omega (arith, m))
  more_selectors (y ∷ []) (us ∷ uss) l m e f g h = absurd (g refl)
  more_selectors (y ∷ z ∷ xs) (us ∷ []) l m e f g h = absurd (h refl)
  more_selectors (y ∷ z ∷ xs) (us ∷ vs ∷ uss) l m e f g h =
      sym (ap (λ w. named Read w ts ++ onward w ts (z ∷ xs) (vs ∷ uss)) e ∙ ap (λ q. named Read y q ++ onward y q (z ∷ xs) (vs ∷ uss)) f)

  pub last_selector : (xs : List Selector) (uss : List Types) (old new all : List Occurrence) → 1 ≤ length xs → 1 ≤ length uss → x ≡ get_or xs 0 x → ts ≡ get_or uss 0 ts
      → (length xs ≡ 1) ⊎ (length uss ≡ 1) → new ≡ old ++ named how x ts → old ++ names_in_chain C s how t (zip xs uss) ≡ all → new ≡ all
  last_selector xs uss old new all l m e f h is before = comes_to old new (named how x ts) _ all is (one_selector xs uss l m e f h) before

  pub next_selectors : (xs : List Selector) (uss : List Types) (t' : JType) (old new all : List Occurrence) → 1 ≤ length xs → 1 ≤ length uss → x ≡ get_or xs 0 x → ts ≡ get_or uss 0 ts
      → (length xs ≡ 1 → ⊥) → (length uss ≡ 1 → ⊥) → new ≡ old ++ named Read x ts → t' ≡ selector_type C s t (out-Selector x) ts
      → old ++ names_in_chain C s how t (zip xs uss) ≡ all
      → new ++ names_in_chain C s how t' (zip (take (length xs - 1) (drop 1 xs)) (take (length uss - 1) (drop 1 uss))) ≡ all
  next_selectors xs uss t' old new all l m e f g h is of before =
      ap (λ ys. new ++ names_in_chain C s how t' (zip ys (take (length uss - 1) (drop 1 uss)))) (take_rest xs 1)
      ∙ ap (λ ys. new ++ names_in_chain C s how t' (zip (drop 1 xs) ys)) (take_rest uss 1)
      ∙ ap (λ r. new ++ names_in_chain C s how r (zip (drop 1 xs) (drop 1 uss))) of
      ∙ goes_on old new (named Read x ts) _ (onward x ts (drop 1 xs) (drop 1 uss)) all is (more_selectors xs uss l m e f g h) before

  pub last_selector_in : (s₁ : List Bound) → s₁ ≡ s → (xs : List Selector) (uss : List Types) (old new all : List Occurrence) → 1 ≤ length xs → 1 ≤ length uss → x ≡ get_or xs 0 x → ts ≡ get_or uss 0 ts
      → (length xs ≡ 1) ⊎ (length uss ≡ 1) → new ≡ old ++ names_in_selector C s₁ how t (out-Selector x) ts → old ++ names_in_chain C s how t (zip xs uss) ≡ all → new ≡ all
  last_selector_in s₁ same xs uss old new all l m e f h is before =
      last_selector xs uss old new all l m e f h (is ∙ ap (λ r. old ++ names_in_selector C r how t (out-Selector x) ts) same) before

  pub next_selectors_in : (s₁ : List Bound) → s₁ ≡ s → (xs : List Selector) (uss : List Types) (t' : JType) (old new all : List Occurrence) → 1 ≤ length xs → 1 ≤ length uss → x ≡ get_or xs 0 x → ts ≡ get_or uss 0 ts
      → (length xs ≡ 1 → ⊥) → (length uss ≡ 1 → ⊥) → new ≡ old ++ names_in_selector C s₁ Read t (out-Selector x) ts → t' ≡ selector_type C s₁ t (out-Selector x) ts
      → old ++ names_in_chain C s how t (zip xs uss) ≡ all
      → new ++ names_in_chain C s how t' (zip (take (length xs - 1) (drop 1 xs)) (take (length uss - 1) (drop 1 uss))) ≡ all
  next_selectors_in s₁ same xs uss t' old new all l m e f g h is of before =
      next_selectors xs uss t' old new all l m e f g h (is ∙ ap (λ r. old ++ names_in_selector C r Read t (out-Selector x) ts) same)
      (of ∙ ap (λ r. selector_type C r t (out-Selector x) ts) same) before
