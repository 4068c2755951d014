-- The unit of a text, and its outline.
use Rattle.std.specs.Prelude.{ℕ, List, Option, Some, None}
use Rattle.java_tree.specs.declared.outline.Level.{Level}
use Rattle.java_tree.specs.declared.outline.Outline.{Outline}
use Rattle.java_tree.specs.declared.token.Token.{Token}
use Rattle.java_tree.specs.declared.unit.Unit.{Unit as CompilationUnit}
use Rattle.java_model.specs.Lexical.Tokens.{HasTokens}
use Rattle.java_model.specs.Grammar.Units.{IsUnit}
use Rattle.java_model.specs.Outlines.{IsOutline}

-- the tree of a text at a source level (JLS 3.2, 7.3)
pub record IsUnitOfText (level : Level) (text : List ℕ) (u : CompilationUnit) : Type 0 where
  pub tokens : List Token
  pub scanned : HasTokens level text tokens
  pub unit : IsUnit tokens u

-- a text without a tree is unreadable
abbrev pub IsUnreadable : Level → List ℕ → Type 0
IsUnreadable level text = (u : CompilationUnit) → IsUnitOfText level text u → ⊥

-- the outline of the tree of a text (JLS 7, 8, 9)
pub record HasOutline (level : Level) (text : List ℕ) (outline : Outline) : Type 0 where
  pub unit : CompilationUnit
  pub is_unit : IsUnitOfText level text unit
  pub is_outline : IsOutline unit outline

-- what a reader of a text answers: its outline, or none exactly where it is unreadable
abbrev pub IsOutlineOf : Level → List ℕ → Option Outline → Type 0
IsOutlineOf level text (Some outline) = HasOutline level text outline
IsOutlineOf level text None = IsUnreadable level text
