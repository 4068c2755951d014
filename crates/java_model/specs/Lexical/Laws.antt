-- Laws of the lexical structure.
use Rattle.std.specs.Prelude.{◌≡◌, ℕ, ◌<◌, ◌⊎◌, List, length, IsUtf8}
use Rattle.java_tree.specs.declared.outline.Level.{Level}
use Rattle.java_tree.specs.declared.token.Token.{Token}
use Rattle.java_model.specs.Lexical.Escapes.{Input, HasInputs}
use Rattle.java_model.specs.Lexical.Tokens.{HasTokens, RiseWithin}
use Rattle.java_model.specs.Lexical.Faults.{LexicalFault, place_of, HasFault}

-- a text has its characters after Unicode escapes in one way
abbrev pub InputsAreUnique : Type 0
InputsAreUnique = (text : List ℕ) (a b : List Input) → HasInputs text a → HasInputs text b → a ≡ b

-- a text has its tokens in one way
abbrev pub TokensAreUnique : Type 0
TokensAreUnique = (level : Level) (text : List ℕ) (a b : List Token) → HasTokens level text a → HasTokens level text b → a ≡ b

-- and one fault at most
abbrev pub FaultsAreUnique : Type 0
FaultsAreUnique = (level : Level) (text : List ℕ) (a b : LexicalFault) → HasFault level text a → HasFault level text b → a ≡ b

-- and never both
abbrev pub FaultsExcludeTokens : Type 0
FaultsExcludeTokens = (level : Level) (text : List ℕ) (tokens : List Token) (fault : LexicalFault)
    → HasTokens level text tokens → HasFault level text fault → ⊥

-- but always one of them
abbrev pub TokensOrFault : Type 0
TokensOrFault = (level : Level) (text : List ℕ)
    → ((tokens : List Token) × HasTokens level text tokens) ⊎ ((fault : LexicalFault) × HasFault level text fault)

-- the spans rise and lie in the text
abbrev pub SpansRise : Type 0
SpansRise = (level : Level) (text : List ℕ) (tokens : List Token) → IsUtf8 text → HasTokens level text tokens → RiseWithin 0 (length text) tokens

-- a fault stands in the text
abbrev pub FaultsLieInside : Type 0
FaultsLieInside = (level : Level) (text : List ℕ) (fault : LexicalFault) → IsUtf8 text → HasFault level text fault → place_of fault < length text
