-- The unit that a text has, if any.
use Rattle.std.specs.Prelude.{ℕ, List, Option, Some, None, Result, Ok, Err, IsErr, ◌≡◌, ⊤, IsUtf8}
use Rattle.java_tree.specs.declared.outline.Level.{Level}
use Rattle.java_tree.specs.declared.outline.Outline.{Outline}
use Rattle.java_tree.specs.declared.unit.Unit.{Unit as CompilationUnit}
use Rattle.java_model.specs.Outlines.{IsOutline}
use Rattle.java_model.specs.Texts.{IsUnitOfText, IsUnreadable}
use Rattle.java_parse_unit.specs.declared.unreadable.Unreadable.{Unreadable}
use Rattle.java_parse_unit.specs.declared.unreadable.Unreadable.TheVariants.{Scan, NoTree, NoMemory}

-- a tree is the unit of a text
abbrev pub IsUnitOfAText : CompilationUnit → Type 0
IsUnitOfAText u = (level : Level) × (text : List ℕ) × IsUtf8 text × IsUnitOfText level text u

-- the unit of a text, or none where it is unreadable
abbrev pub IsUnitIfAny : Level → List ℕ → Option CompilationUnit → Type 0
IsUnitIfAny level text (Some u) = IsUnitOfText level text u
IsUnitIfAny level text None = IsUnreadable level text

-- what the parser's answer says of the unit: none where the text is unreadable, and nothing where memory ran out
abbrev pub ReadsAs : {E : Type 0} → Result CompilationUnit Unreadable → Result (Option CompilationUnit) E → Type 0
ReadsAs (Ok u) result = result ≡ Ok (Some u)
ReadsAs (Err (Scan fault)) result = result ≡ Ok None
ReadsAs (Err NoTree) result = result ≡ Ok None
ReadsAs (Err NoMemory) result = IsErr result

-- the outline of a unit, if there is one
abbrev pub IsOutlineIfAny : Option CompilationUnit → Option Outline → Type 0
IsOutlineIfAny (Some u) (Some outline) = IsOutline u outline
IsOutlineIfAny (Some u) None = ⊥
IsOutlineIfAny None (Some outline) = ⊥
IsOutlineIfAny None None = ⊤
