-- What is read is the longest element there, and of its kind.
use Rattle.std.proofs.Common.{◌≡◌, ℕ, ◌<◌, ◌≤◌, ◌⊎◌, refl, inl, inr, arith, subst}
use Rattle.java_model.specs.Lexical.Elements.{Element}
use Rattle.java_model.proofs.Lexical.Reading.{Found}
use Rattle.java_model.proofs.Lexical.Reading.Found.{found, nothing}

-- an element of m characters is shorter than what is found, or is it
abbrev pub Within : Element → ℕ → Found → Type 0
Within e m (found k n) = (m < n) ⊎ ((m ≡ n) × (e ≡ k))
Within e m nothing = ⊥

pub Within-at : (e : Element) (m n : ℕ) (f : Found) → m ≡ n → Within e m f → Within e n f
Within-at e m n f p h = subst (λ x. Within e x f) p h

pub Within-le : (e : Element) (m n : ℕ) → m ≤ n → Within e m (found e n)
Within-le e m n h = elim (same_or_less m n h) [ inl l ↦ inl l | inr s ↦ inr (s, refl) ]
  where
    same_or_less : (m n : ℕ) → m ≤ n → (m < n) ⊎ (m ≡ n)
    same_or_less m n h = grind arith
