-- Input elements (JLS 3.5): white space, comments and tokens, each the longest at its place.
use Rattle.std.specs.Prelude.{◌≡◌, ℕ, ◌≤◌, Bool, false, ◌&&◌, ◌==◌, IsTrue, List, [], ◌∷◌, ◌++◌, length}
use Rattle.java_tree.specs.declared.outline.Level.{Level}
use Rattle.java_tree.specs.declared.token.TokenKind.{TokenKind}
use Rattle.java_tree.specs.declared.token.TokenKind.TheVariants.{Identifier, Keyword, IntLit, LongLit, FloatLit, DoubleLit, CharLit, StringLit, Symbol}
use Rattle.java_model.specs.Lexical.Characters.{slash, star}
use Rattle.java_model.specs.Lexical.Escapes.{Input, characters_of}
use Rattle.java_model.specs.Lexical.Comments.{IsWhiteSpace, IsTraditionalComment, IsEndOfLineComment}
use Rattle.java_model.specs.Lexical.Numbers.{IsIntLiteral, IsLongLiteral, IsFloatLiteral, IsDoubleLiteral}
use Rattle.java_model.specs.Lexical.Quoted.{IsCharLiteral, IsStringLiteral}
use Rattle.java_model.specs.Lexical.Symbols.{IsSymbol}
use Rattle.java_model.specs.Lexical.Words.{IsIdentifier, IsKeyword}

-- JLS 3.5: Token, by its kind
abbrev pub IsToken : Level → TokenKind → List ℕ → Type 0
IsToken level Identifier = IsIdentifier level
IsToken level Keyword = IsKeyword level
IsToken level IntLit = IsIntLiteral
IsToken level LongLit = IsLongLiteral
IsToken level FloatLit = IsFloatLiteral
IsToken level DoubleLit = IsDoubleLiteral
IsToken level CharLit = IsCharLiteral
IsToken level StringLit = IsStringLiteral
IsToken level Symbol = IsSymbol

-- JLS 3.5: the kinds of InputElement
pub data Element : Type 0 where
  white_space : Element
  traditional_comment : Element
  end_of_line_comment : Element
  token : TokenKind → Element

-- JLS 3.5: InputElement, by its kind
abbrev pub IsElement : Level → Element → List ℕ → Type 0
IsElement level white_space = IsWhiteSpace
IsElement level traditional_comment = IsTraditionalComment
IsElement level end_of_line_comment = IsEndOfLineComment
IsElement level (token kind) = IsToken level kind

-- whether the characters begin with `/*`
abbrev pub begins_comment : List ℕ → Bool
begins_comment [] = false
begins_comment (c ∷ []) = false
begins_comment (c ∷ d ∷ cs) = c == slash && d == star

-- JLS 3.2, 3.5: the next element, and what follows it. No longer front of the inputs is an element. What
-- begins with `/*` is a comment, and never the operator `/`.
pub record IsNext (level : Level) (inputs : List Input) (element : Element) (front after : List Input) : Type 0 where
  pub parted : inputs ≡ front ++ after
  pub here : IsElement level element (characters_of front)
  pub longest : (longer rest : List Input) (other : Element)
      → inputs ≡ longer ++ rest
      → IsElement level other (characters_of longer)
      → length longer ≤ length front
  pub comment : IsTrue (begins_comment (characters_of inputs)) → element ≡ traditional_comment
