-- Separators (JLS 3.11) and operators (JLS 3.12).
use Rattle.std.specs.Prelude.{ℕ, IsTrue, List, ◌++◌, map}
use Rattle.java_tree.specs.declared.words.TheConstants.{SEPARATORS, OPERATORS}
use Rattle.java_model.specs.Lexical.Words.{is_listed}

-- JLS 3.11
unfoldable pub separators : List (List ℕ)
separators = map (λ text. text.now) SEPARATORS

-- JLS 3.12
unfoldable pub operators : List (List ℕ)
operators = map (λ text. text.now) OPERATORS

unfoldable pub symbols : List (List ℕ)
unfolding separators operators
symbols = separators ++ operators

abbrev pub IsSymbol : List ℕ → Type 0
IsSymbol spelling = IsTrue (is_listed symbols spelling)
