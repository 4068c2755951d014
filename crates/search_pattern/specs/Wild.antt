-- What a pattern with wild cards and a name begin with, by their characters.
use Rattle.std.specs.Prelude.{◌≡◌, ℕ, Bool, true, false, ◌||◌, ◌==◌, List, [], ◌∷◌}
use Rattle.std.specs.Str.{chars, IsUtf8}
use Rattle.java_model.specs.SearchPattern.NameMatch.{is_same, is_wild, star, question_mark}
use Rattle.search_pattern.specs.declared.wild.Step.{Step}
use Rattle.search_pattern.specs.declared.wild.Step.TheVariants as steps

-- two characters that match stand before what is left
pub record BeginAlike (case : Bool) (pattern name after rest : List ℕ) : Type 0 where
  pub wanted : ℕ
  pub first : ℕ
  pub pattern_is : pattern ≡ wanted ∷ after
  pub name_is : name ≡ first ∷ rest
  pub no_star : (wanted == star) ≡ false
  pub same : (wanted == question_mark || is_same case wanted first) ≡ true

abbrev pub IsStep : Bool → List ℕ → List ℕ → Step → Type 0
IsStep case pattern name (steps.Star after) = pattern ≡ star ∷ chars after.now
IsStep case pattern name (steps.Both after rest) = BeginAlike case pattern name (chars after.now) (chars rest.now)
IsStep case pattern name steps.End = (pattern ≡ []) × (name ≡ [])
IsStep case pattern name steps.Stuck = is_wild case pattern name ≡ false

-- what follows is text
abbrev pub IsText : Step → Type 0
IsText (steps.Star after) = IsUtf8 after.now
IsText (steps.Both after rest) = IsUtf8 after.now × IsUtf8 rest.now
IsText steps.End = Unit {0}
IsText steps.Stuck = Unit {0}
