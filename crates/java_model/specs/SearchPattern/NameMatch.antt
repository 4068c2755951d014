-- How the name of a pattern is compared with a name (JDT `SearchPattern`, match rules).
use Rattle.std.specs.Prelude.{ℕ, Bool, true, false, ◌&&◌, ◌||◌, ◌==◌, nat_le, cond, List, [], ◌∷◌}
use Rattle.std.specs.List.{list_any}
use Rattle.std.specs.Str.{chars}
use Rattle.std.specs.Char.{to_ascii_lowercase}
use Rattle.java_tree.specs.declared.search.Rule.{Rule}
use Rattle.java_tree.specs.declared.search.Rule.TheVariants.{Exact, Prefix, Wild, Camel}
use Rattle.java_model.specs.SearchPattern.Texts.{onto_first}

-- the same character; where case doesn't count, up to the case of ASCII letters
abbrev pub is_same : Bool → ℕ → ℕ → Bool
is_same true a b = a == b
is_same false a b = to_ascii_lowercase a == to_ascii_lowercase b

-- JDT R_EXACT_MATCH
abbrev pub is_exact : Bool → List ℕ → List ℕ → Bool
is_exact case [] [] = true
is_exact case [] (n ∷ ns) = false
is_exact case (p ∷ ps) [] = false
is_exact case (p ∷ ps) (n ∷ ns) = is_same case p n && is_exact case ps ns

-- JDT R_PREFIX_MATCH
abbrev pub is_prefix : Bool → List ℕ → List ℕ → Bool
is_prefix case [] name = true
is_prefix case (p ∷ ps) [] = false
is_prefix case (p ∷ ps) (n ∷ ns) = is_same case p n && is_prefix case ps ns

-- a text and each shorter end of it
abbrev pub ends_of : List ℕ → List (List ℕ)
ends_of [] = [] ∷ []
ends_of (n ∷ ns) = (n ∷ ns) ∷ ends_of ns

-- the rest of the name matches after one character that does
abbrev pub after_one : (ℕ → Bool) → (List ℕ → Bool) → List ℕ → Bool
after_one here rest [] = false
after_one here rest (n ∷ ns) = here n && rest ns

abbrev pub star : ℕ
star = 42

abbrev pub question_mark : ℕ
question_mark = 63

-- JDT R_PATTERN_MATCH, over characters: `*` stands for any text, and `?` for any one character
abbrev pub is_wild : Bool → List ℕ → List ℕ → Bool
is_wild case [] [] = true
is_wild case [] (n ∷ ns) = false
is_wild case (p ∷ ps) name =
    cond (p == star) (list_any (is_wild case ps) (ends_of name))
    (after_one (λ n. p == question_mark || is_same case p n) (is_wild case ps) name)

-- the letters A to Z
abbrev pub is_capital : ℕ → Bool
is_capital b = nat_le 65 b && nat_le b 90

-- the pieces of a name, cut before each capital but at its start
abbrev pub pieces : List ℕ → List (List ℕ)
pieces [] = []
pieces (a ∷ []) = (a ∷ []) ∷ []
pieces (a ∷ b ∷ bs) = cond (is_capital b) ((a ∷ []) ∷ pieces (b ∷ bs)) (onto_first a (pieces (b ∷ bs)))

-- each piece is a prefix of the other list's piece at its place
abbrev pub are_prefixes : List (List ℕ) → List (List ℕ) → Bool
are_prefixes [] names = true
are_prefixes (p ∷ ps) [] = false
are_prefixes (p ∷ ps) (n ∷ ns) = is_prefix true p n && are_prefixes ps ns

-- JDT R_CAMELCASE_MATCH
abbrev pub is_camel : List ℕ → List ℕ → Bool
is_camel pattern name = are_prefixes (pieces pattern) (pieces name)

-- the name of a pattern matches a name, by its rule and by whether case counts
abbrev pub name_matches : Rule → Bool → List ℕ → List ℕ → Bool
name_matches Exact case pattern name = is_exact case pattern name
name_matches Prefix case pattern name = is_prefix case pattern name
name_matches Wild case pattern name = is_wild case (chars pattern) (chars name)
name_matches Camel case pattern name = is_camel pattern name
