-- How the bodies that were passed over are read one after another.
use Rattle.std.proofs.Common.{◌≡◌, ℕ, ◌-◌, ◌≤◌, ◌<◌, suc, List, [], ◌∷◌, length, drop, map, Option, Some, None, Result, Ok, Err, refl, sym, ap, ◌∙◌, subst, arith}
use Rattle.java_tree.specs.declared.unit.TypeDecl.{TypeDecl}
use Rattle.java_unit_reading.specs.Reading.Steps.{Outcome, Done, Fail}
use Rattle.java_unit_reading.specs.Reading.Nested.{Exprs, Parts, Body, more_bodies, bodies}

again_mid : (again : List TypeDecl → Option (List TypeDecl)) (mid types : List TypeDecl) → Some types ≡ Some mid → again types ≡ again mid
again_mid again mid types e = let same : types ≡ mid = cc in ap again same

module _ (E : Exprs) (P : Parts) (d : ℕ) (w : Option ℕ) where
  after_first : (bs : List Body) (mid : List TypeDecl) (o : Outcome ℕ) → more_bodies (bodies E P d w []) o ≡ Some mid
      → more_bodies (bodies E P d w bs) o ≡ bodies E P d w bs mid
  unfolding bodies
  after_first bs mid (Done at s) e = again_mid (bodies E P d w bs) mid s.types e
  after_first bs mid Fail e = absurd cc

  after_none : (bs : List Body) (o : Outcome ℕ) → more_bodies (bodies E P d w []) o ≡ None → more_bodies (bodies E P d w bs) o ≡ None
  unfolding bodies
  after_none bs (Done at s) e = absurd cc
  after_none bs Fail e = refl

  pub first_body : (b : Body) (bs : List Body) (types mid : List TypeDecl) → bodies E P d w (b ∷ []) types ≡ Some mid
      → bodies E P d w (b ∷ bs) types ≡ bodies E P d w bs mid
  unfolding bodies
  first_body b bs types mid e = after_first bs mid _ e

  pub no_first_body : (b : Body) (bs : List Body) (types : List TypeDecl) → bodies E P d w (b ∷ []) types ≡ None
      → bodies E P d w (b ∷ bs) types ≡ None
  unfolding bodies
  no_first_body b bs types e = after_none bs _ e

  pub no_body : (types : List TypeDecl) → bodies E P d w [] types ≡ Some types
  unfolding bodies
  no_body types = refl
