-- The text of a pattern (JDT `SearchPattern.createPattern`): its parts, and why it is refused.
use Rattle.std.specs.Prelude.{ℕ, suc, Bool, true, false, ◌||◌, ◌==◌, ◌-◌, cond, List, [], ◌∷◌, length, take, map, position, Option, Some, None, Result, Ok, Err}
use Rattle.std.specs.List.{list_any}
use Rattle.std.specs.Option.{option_map_or}
use Rattle.java_tree.specs.declared.search.What.{What}
use Rattle.java_tree.specs.declared.search.What.TheVariants as whats
use Rattle.java_tree.specs.declared.search.Limit.{Limit}
use Rattle.java_tree.specs.declared.search.Limit.TheVariants as limits
use Rattle.java_tree.specs.declared.search.Rule.{Rule}
use Rattle.java_model.specs.SearchPattern.Texts.{separated, around_last, is_empty, trimmed}

-- What a search looks for. `case` says whether case counts. A qualification and parameters may be given: of a type
-- and a constructor the package and the enclosing types, of a method and a field the declaring type.
pub record Pattern : Type 0 where
  pub what : What
  pub limit : Limit
  pub rule : Rule
  pub case : Bool
  pub name : List ℕ
  pub qualification : Option (List ℕ)
  pub params : Option (List (List ℕ))

-- the limit isn't one of this kind of element, parentheses stand wrong, or a part is empty
pub data PatternFault : Type 0 where
  wrong_limit : PatternFault
  bad_parens : ℕ → PatternFault
  empty : PatternFault

-- implementors are of types, reads and writes of fields
abbrev pub has_limit : What → Limit → Bool
has_limit whats.Class limits.Implementors = true
has_limit what limits.Implementors = false
has_limit whats.Field limits.Reads = true
has_limit what limits.Reads = false
has_limit whats.Field limits.Writes = true
has_limit what limits.Writes = false
has_limit what limit = true

-- methods and constructors have parameters
abbrev pub has_params : What → Bool
has_params whats.Method = true
has_params whats.Constructor = true
has_params _ = false

abbrev pub left_paren : ℕ
left_paren = 40

abbrev pub right_paren : ℕ
right_paren = 41

abbrev pub is_paren : ℕ → Bool
is_paren b = b == left_paren || b == right_paren

-- Where parentheses stand wrong in the text after a `(`, which begins at a place: no second one gives the text's end,
-- a second `(` its place, and a second `)` that isn't the last byte the place after it.
abbrev pub fault_after_left : ℕ → List ℕ → Option ℕ
fault_after_left at [] = Some at
fault_after_left at (b ∷ bs) =
    cond (b == left_paren) (Some at) (
    cond (b == right_paren) (cond (is_empty bs) None (Some (suc at)))
    (fault_after_left (suc at) bs))

-- the same of a whole text whose element has parameters: before a `(` there is no `)`
abbrev pub fault_of_params : ℕ → List ℕ → Option ℕ
fault_of_params at [] = None
fault_of_params at (b ∷ bs) =
    cond (b == right_paren) (Some at) (
    cond (b == left_paren) (fault_after_left (suc at) bs)
    (fault_of_params (suc at) bs))

-- where parentheses stand wrong, if they do: an element without parameters has none
abbrev pub paren_fault : What → List ℕ → Option ℕ
paren_fault what text = cond (has_params what) (fault_of_params 0 text) (position is_paren text)

-- what stands before the `(`
abbrev pub before_params : List ℕ → List ℕ
before_params [] = []
before_params (b ∷ bs) = cond (b == left_paren) [] (b ∷ before_params bs)

-- what stands between the parentheses, if there are any
abbrev pub inside_params : List ℕ → Option (List ℕ)
inside_params [] = None
inside_params (b ∷ bs) = cond (b == left_paren) (Some (take (length bs - 1) bs)) (inside_params bs)

-- nothing but spaces is no parameter
abbrev pub params_in : List (List ℕ) → List (List ℕ)
params_in (only ∷ []) = cond (is_empty only) [] (only ∷ [])
params_in texts = texts

-- the parameters, separated by commas, if parentheses stand there
abbrev pub params_of : List ℕ → Option (List (List ℕ))
params_of text = elim (inside_params text) [
  | Some inside ↦ Some (params_in (map trimmed (separated 44 inside)))
  | None ↦ None
]

-- The name, and the qualification before the last dot. A package is its name as a whole.
abbrev pub name_in : What → List ℕ → Option (List ℕ) × List ℕ
name_in whats.Package text = (None, trimmed text)
name_in what text = elim (around_last 46 text) [
  | Some parts ↦ (Some (trimmed parts.0), trimmed parts.1)
  | None ↦ (None, trimmed text)
]

-- a part is empty: the name, a qualification that is given, or a parameter
abbrev pub has_empty_part : Option (List ℕ) → List ℕ → Option (List (List ℕ)) → Bool
has_empty_part qualification name params =
    is_empty name || option_map_or is_empty qualification false || option_map_or (list_any is_empty) params false

abbrev pub parts_of : What → Limit → Rule → Bool → List ℕ → Pattern
parts_of what limit rule case text = record {
  what = what;
  limit = limit;
  rule = rule;
  case = case;
  name = (name_in what (before_params text)).1;
  qualification = (name_in what (before_params text)).0;
  params = params_of text;
}

abbrev pub without_empty_part : Pattern → Result Pattern PatternFault
without_empty_part pattern = cond (has_empty_part pattern.qualification pattern.name pattern.params) (Err empty) (Ok pattern)

-- the pattern that a text is, or why it is refused
abbrev pub pattern_of : What → Limit → Rule → Bool → List ℕ → Result Pattern PatternFault
pattern_of what limit rule case text =
    cond (has_limit what limit) (elim (paren_fault what text) [
      | Some at ↦ Err (bad_parens at)
      | None ↦ without_empty_part (parts_of what limit rule case text)
    ]) (Err wrong_limit)
