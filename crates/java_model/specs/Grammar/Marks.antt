-- The keywords, separators and operators, with their spellings.
use Rattle.std.specs.Prelude.{ℕ, List, [], ◌∷◌, ◌++◌, Option, Some, None, map, cond}
use Rattle.std.specs.Str.{bytes_eq}
use Rattle.java_tree.specs.declared.mark.Mark.{Mark}
use Rattle.java_tree.specs.declared.words.TheConstants.{
  KEYWORDS,
  KEYWORD_MARKS,
  ADDED_KEYWORDS,
  ADDED_KEYWORD_MARKS,
  SEPARATORS,
  SEPARATOR_MARKS,
  OPERATORS,
  OPERATOR_MARKS,
}

-- a mark with its spelling
pub record Spelling : Type 0 where
  pub mark : Mark
  pub bytes : List ℕ

-- marks with their spellings, in order
abbrev pub spelled : List Mark → List (List ℕ) → List Spelling
spelled [] texts = []
spelled (m ∷ ms) [] = []
spelled (m ∷ ms) (text ∷ texts) = record { mark = m; bytes = text } ∷ spelled ms texts

-- the keywords (JLS 3.9, JSR 41), without `true`, `false` and `null`, which are literals
unfoldable pub keywords : List Spelling
keywords = spelled KEYWORD_MARKS (map (λ text. text.now) KEYWORDS) ++ spelled ADDED_KEYWORD_MARKS (map (λ text. text.now) ADDED_KEYWORDS)

-- the separators (JLS 3.11) and the operators (JLS 3.12)
unfoldable pub symbols : List Spelling
symbols = spelled SEPARATOR_MARKS (map (λ text. text.now) SEPARATORS) ++ spelled OPERATOR_MARKS (map (λ text. text.now) OPERATORS)

-- the mark that is spelled so, if there is one
abbrev pub mark_of : List Spelling → List ℕ → Option Mark
mark_of [] bytes = None
mark_of (s ∷ more) bytes = cond (bytes_eq s.bytes bytes) (Some s.mark) (mark_of more bytes)
