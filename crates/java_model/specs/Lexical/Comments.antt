-- White space (JLS 3.6) and comments (JLS 3.7).
use Rattle.std.specs.Prelude.{◌≡◌, ℕ, Bool, true, false, not, IsTrue, List, [], ◌∷◌, ◌≢◌}
use Rattle.std.specs.List.{list_all}
use Rattle.java_model.specs.Lexical.Characters.{slash, star, is_white, is_line_end}

-- JLS 3.6: one character
abbrev pub IsWhiteSpace : List ℕ → Type 0
IsWhiteSpace spelling = (c : ℕ) × (spelling ≡ c ∷ []) × IsTrue (is_white c)

-- JLS 3.7: CommentTail, and CommentTailStar where a star stands before it. It ends with the first star
-- and slash.
pub data IsCommentTail : Bool → List ℕ → Type 0 where
  closes : IsCommentTail true (slash ∷ [])
  starred : {after_star : Bool} {spelling : List ℕ}
      → IsCommentTail true spelling
      → IsCommentTail after_star (star ∷ spelling)
  goes_on : {c : ℕ} {spelling : List ℕ}
      → c ≢ star
      → IsCommentTail false spelling
      → IsCommentTail false (c ∷ spelling)
  goes_on_starred : {c : ℕ} {spelling : List ℕ}
      → c ≢ star
      → c ≢ slash
      → IsCommentTail false spelling
      → IsCommentTail true (c ∷ spelling)

-- JLS 3.7: `/*` and a comment tail
abbrev pub IsTraditionalComment : List ℕ → Type 0
IsTraditionalComment spelling =
    (tail : List ℕ) × (spelling ≡ slash ∷ star ∷ tail) × IsCommentTail false tail

-- JLS 3.7: `//` and what stands on the line after it. The line end is white space, and may be missing
-- at the text's end.
abbrev pub IsEndOfLineComment : List ℕ → Type 0
IsEndOfLineComment spelling =
    (line : List ℕ) × (spelling ≡ slash ∷ slash ∷ line) × IsTrue (list_all (λ c. not (is_line_end c)) line)
