-- Identifiers (JLS 3.8), keywords (JLS 3.9) and the words that are literals (JLS 3.10.3, 3.10.7).
use Rattle.std.specs.Prelude.{ℕ, Bool, false, ◌&&◌, ◌||◌, IsTrue, IsFalse, List, [], ◌∷◌, map, bytes_eq}
use Rattle.std.specs.List.{list_all, list_any}
use Rattle.java_tree.specs.declared.outline.Level.{Level}
use Rattle.java_tree.specs.declared.outline.Level.TheVariants.{Java13, Java14}
use Rattle.java_tree.specs.declared.words.TheConstants.{KEYWORDS, ADDED_KEYWORDS, LITERAL_WORDS}
use Rattle.java_model.specs.Lexical.Characters.{is_letter, is_letter_or_digit}

-- whether the spelling is one of these
abbrev pub is_listed : List (List ℕ) → List ℕ → Bool
is_listed words spelling = list_any (λ word. bytes_eq word spelling) words

-- JLS 3.9
unfoldable pub keywords : List (List ℕ)
keywords = map (λ text. text.now) KEYWORDS

-- JSR 41: `assert` is a keyword from source level 1.4 on
abbrev pub added_keywords : Level → List (List ℕ)
added_keywords Java13 = []
added_keywords Java14 = map (λ text. text.now) ADDED_KEYWORDS

-- JLS 3.10.3, 3.10.7
abbrev pub literal_words : List (List ℕ)
literal_words = map (λ text. text.now) LITERAL_WORDS

-- whether it is a keyword or one of the literal words
unfoldable pub is_reserved : Level → List ℕ → Bool
is_reserved level spelling = is_listed keywords spelling || is_listed (added_keywords level) spelling || is_listed literal_words spelling

-- JLS 3.8: a Java letter, and then Java letters and digits
abbrev pub is_word : List ℕ → Bool
is_word [] = false
is_word (c ∷ cs) = is_letter c && list_all is_letter_or_digit cs

-- JLS 3.8: a word that isn't reserved
pub record IsIdentifier (level : Level) (spelling : List ℕ) : Type 0 where
  pub word : IsTrue (is_word spelling)
  pub free : IsFalse (is_reserved level spelling)

-- JLS 3.9, 3.10.3, 3.10.7
abbrev pub IsKeyword : Level → List ℕ → Type 0
IsKeyword level spelling = IsTrue (is_reserved level spelling)
