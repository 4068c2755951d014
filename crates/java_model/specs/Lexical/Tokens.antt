-- The tokens of a text (JLS 3.2, 3.5).
use Rattle.std.specs.Prelude.{ℕ, ◌+◌, ◌<◌, ◌≤◌, List, [], ◌∷◌, if◌then◌else◌, encode_utf8_all}
use Rattle.java_tree.specs.declared.outline.Level.{Level}
use Rattle.java_tree.specs.declared.token.Token.{Token}
use Rattle.java_tree.specs.declared.token.TokenKind.{TokenKind}
use Rattle.java_model.specs.Lexical.Characters.{is_sub}
use Rattle.java_model.specs.Lexical.Escapes.{Input, characters_of, width_of, HasInputs}
use Rattle.java_model.specs.Lexical.Elements.{Element, IsNext}
use Rattle.java_model.specs.Lexical.Elements.Element.{white_space, traditional_comment, end_of_line_comment, token}

-- the token of these characters, which begin at this byte of the text
abbrev pub token_at : TokenKind → ℕ → List Input → Token
token_at kind at inputs = record {
  kind = kind;
  name = encode_utf8_all (characters_of inputs);
  span = record { start = at; end = at + width_of inputs };
}

-- an element, which begins at this byte, before tokens: white space and comments are left out
abbrev pub with_element : Element → ℕ → List Input → List Token → List Token
with_element (token kind) at front tokens = token_at kind at front ∷ tokens
with_element white_space at front tokens = tokens
with_element traditional_comment at front tokens = tokens
with_element end_of_line_comment at front tokens = tokens

-- JLS 3.5: InputElements, from a byte of the text up to the rest at a later one, and their tokens
pub data AreElements (level : Level) : ℕ → List Input → List Token → ℕ → List Input → Type 0 where
  none : {at : ℕ} {inputs : List Input} → AreElements level at inputs [] at inputs
  next : {at end : ℕ} {inputs rest : List Input} {tokens : List Token} (element : Element) (front after : List Input)
      → IsNext level inputs element front after
      → AreElements level (at + width_of front) after tokens end rest
      → AreElements level at inputs (with_element element at front tokens) end rest

-- JLS 3.5: without the Sub that may be the last character
abbrev pub without_sub : List Input → List Input
without_sub [] = []
without_sub (last ∷ []) = if is_sub last.character then [] else last ∷ []
without_sub (input ∷ second ∷ inputs) = input ∷ without_sub (second ∷ inputs)

-- the tokens of a text, all of whose characters but a last Sub are elements
pub record HasTokens (level : Level) (text : List ℕ) (tokens : List Token) : Type 0 where
  pub inputs : List Input
  pub end : ℕ
  pub characters : HasInputs text inputs
  pub elements : AreElements level 0 (without_sub inputs) tokens end []

-- the spans of the tokens rise, and lie between these bytes
abbrev pub RiseWithin : ℕ → ℕ → List Token → Type 0
RiseWithin low high [] = low ≤ high
RiseWithin low high (first ∷ tokens) =
    (low ≤ first.span.start) × (first.span.start < first.span.end) × RiseWithin first.span.end high tokens
