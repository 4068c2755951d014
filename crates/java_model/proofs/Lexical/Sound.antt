-- What is read is an element at the front.
use Rattle.std.proofs.Common.{◌≡◌, ℕ, List, [], ◌∷◌, ◌++◌, length, Bool, true, refl, sym, true≢false}
use Rattle.java_tree.specs.declared.outline.Level.{Level}
use Rattle.java_model.specs.Lexical.Elements.{Element, IsElement}
use Rattle.java_model.proofs.Lexical.Reading.{Found, begins}
use Rattle.java_model.proofs.Lexical.Reading.Found.{found, nothing}

-- an element of n characters, and what follows it
pub record Front (level : Level) (cs : List ℕ) (e : Element) (n : ℕ) : Type 0 where
  pub front : List ℕ
  pub rest : List ℕ
  pub parted : cs ≡ front ++ rest
  pub here : IsElement level e front
  pub counted : length front ≡ n

abbrev pub Sound : Level → List ℕ → Found → Type 0
Sound level cs (found e n) = Front level cs e n
Sound level cs nothing = Unit {0}

-- the first character, where it passes a test
pub record First (test : ℕ → Bool) (cs : List ℕ) : Type 0 where
  pub head : ℕ
  pub tail : List ℕ
  pub same : cs ≡ head ∷ tail
  pub passes : test head ≡ true

pub first_of_begins : (test : ℕ → Bool) (cs : List ℕ) → begins test cs ≡ true → First test cs
first_of_begins test [] h = absurd (true≢false (sym h))
first_of_begins test (c ∷ cs) h = record { head = c; tail = cs; same = refl; passes = h }
