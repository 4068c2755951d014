-- What is recovered under a name, by what each pair holds.
use Rattle.std.proofs.Common.{◌≡◌, ◌≢◌, ◌⊎◌, inl, inr, ⊎_elim, ℕ, zero, suc, ◌+◌, ◌<◌, ◌≤◌, Bool, cond, List, Option, None, Some, refl, sym, ◌∙◌, ap, arith}
use Rattle.std.specs.Str.{bytes_eq}
use Rattle.std.proofs.lemmas.Bool.{cases_eq, cases_Bool, false≢true}
use Rattle.std.proofs.lemmas.Slice.Eq.{bytes_eq-Decides}
use Rattle.java_model.specs.StateFile.Recovered.{Kept, Named, kept_or, first_named}
use Rattle.index_store.specs.Kept.{HasNot}

-- texts are equal where the test says so
pub same_bytes : (a b : List ℕ) → (a ≡ b) ⊎ (a ≢ b)
same_bytes a b = elim (cases_Bool (bytes_eq a b)) [ inl yes' ↦ inl ((bytes_eq-Decides a b).0 yes') | inr not' ↦ inr (λ e. false≢true (sym not' ∙ (bytes_eq-Decides a b).1 e)) ]

kept_or_not : (name : List ℕ) (held : Option Named) (otherwise : Option Kept) → HasNot name held → kept_or name held otherwise ≡ otherwise
kept_or_not name None otherwise has = refl
kept_or_not name (Some named) otherwise has = elim (cases_Bool (bytes_eq named.name name)) [
  | inl same ↦ absurd (has ((bytes_eq-Decides named.name name).0 same))
  | inr apart ↦ ap (λ (b : Bool). cond b (Some named.kept) otherwise) apart
]

kept_or_yes : (named : Named) (otherwise : Option Kept) → kept_or named.name (Some named) otherwise ≡ Some named.kept
kept_or_yes named otherwise = ap (λ (b : Bool). cond b (Some named.kept) otherwise) ((bytes_eq-Decides named.name named.name).1 refl)

pub first_none : (held : ℕ → Option Named) (name : List ℕ) (count pair : ℕ) → ((q : ℕ) → pair ≤ q → q < pair + count → HasNot name (held q)) → first_named held name count pair ≡ None
unfolding first_named
first_none held name zero pair has = refl
first_none held name (suc count) pair has =
    kept_or_not name (held pair) (first_named held name count (suc pair)) (has pair (omega arith) (omega arith))
    ∙ first_none held name count (suc pair) (λ q low high. has q (omega arith) (omega arith))

pub first_at : (held : ℕ → Option Named) (named : Named) (place count pair : ℕ) → pair ≤ place → place < pair + count
    → ((q : ℕ) → pair ≤ q → q < place → HasNot named.name (held q)) → held place ≡ Some named → first_named held named.name count pair ≡ Some named.kept
unfolding first_named
first_at held named place zero pair low high before is = absurd (omega arith)
first_at held named place (suc count) pair low high before is = elim (cases_eq pair place) [
  | inl here ↦
      ap (λ (h : Option Named). kept_or named.name h (first_named held named.name count (suc pair))) (ap held here ∙ is)
      ∙ kept_or_yes named (first_named held named.name count (suc pair))
  | inr later ↦
      kept_or_not named.name (held pair) (first_named held named.name count (suc pair)) (before pair (omega arith) (omega arith))
      ∙ first_at held named place count (suc pair) (omega arith) (omega arith) (λ q above below. before q (omega arith) below) is
]

-- where no pair that differs has the name, the same is recovered
pub first_same : (held others : ℕ → Option Named) (name : List ℕ) (count pair : ℕ)
    → ((q : ℕ) → pair ≤ q → q < pair + count → (held q ≡ others q) ⊎ (HasNot name (held q) × HasNot name (others q)))
    → first_named held name count pair ≡ first_named others name count pair
unfolding first_named
first_same held others name zero pair same = refl
first_same held others name (suc count) pair same =
    let rest = first_same held others name count (suc pair) (λ q low high. same q (omega arith) (omega arith)) in
    ⊎_elim
    (λ is. ap (λ (h : Option Named). kept_or name h (first_named held name count (suc pair))) is ∙ ap (kept_or name (others pair)) rest)
    (λ apart.
    kept_or_not name (held pair) (first_named held name count (suc pair)) apart.0 ∙ rest
    ∙ sym (kept_or_not name (others pair) (first_named others name count (suc pair)) apart.1))
    (same pair (omega arith) (omega arith))
