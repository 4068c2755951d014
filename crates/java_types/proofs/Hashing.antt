-- The hash of a name with its dots.
use Rattle.std.proofs.Common.{◌≡◌, ℕ, [], ◌∷◌, sym}
use Rattle.std.proofs.lemmas.List.Sums.{fold-append}
use Rattle.java_model.specs.Names.Lists.{Identifier, Identifiers, with_dots}
use Rattle.java_types.specs.Keys.{hashed, hash_step}

pub hashed_more : (h : ℕ) (x y : Identifier) (ys : Identifiers) → hashed (hashed (hashed h x) (46 ∷ [])) (with_dots (y ∷ ys)) ≡ hashed h (with_dots (x ∷ y ∷ ys))
hashed_more h x y ys = sym (fold-append hash_step h x (46 ∷ with_dots (y ∷ ys)))
