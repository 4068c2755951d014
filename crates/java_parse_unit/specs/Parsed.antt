-- What the parser answers for a text.
use Rattle.std.specs.Prelude.{◌≡◌, ℕ, List, Option, Some, None, Result, Ok, Err}
use Rattle.java_tree.specs.declared.outline.Level.{Level}
use Rattle.java_tree.specs.declared.token.Token.{Token}
use Rattle.java_tree.specs.declared.unit.Unit.{Unit as CompilationUnit}
use Rattle.java_model.specs.Grammar.Units.{IsUnit, HasNoTree}
use Rattle.java_model.specs.Lexical.Faults.{LexicalFault, HasFault}
use Rattle.java_model.specs.Lexical.Faults.LexicalFault.{bad_escape, bad_char, unclosed}
use Rattle.java_model.specs.Lexical.Tokens.{HasTokens}
use Rattle.java_model.specs.Texts.{IsUnitOfText, IsUnreadable}
use Rattle.java_scan.specs.declared.fault.ScanFault.{ScanFault}
use Rattle.java_scan.specs.declared.fault.ScanFault.TheVariants as scans
use Rattle.java_unit_reading.specs.declared.fault.UnitFault.{UnitFault}
use Rattle.java_unit_reading.specs.declared.fault.UnitFault.TheVariants as units
use Rattle.java_parse_unit.specs.declared.unreadable.Unreadable.{Unreadable}
use Rattle.java_parse_unit.specs.declared.unreadable.Unreadable.TheVariants.{Scan, NoTree, NoMemory}

-- the fault of a text that the scanner tells, never that memory ran out
abbrev pub HasScanFault : Level → List ℕ → ScanFault → Type 0
HasScanFault level text (scans.BadEscape at) = HasFault level text (bad_escape at)
HasScanFault level text (scans.BadChar at) = HasFault level text (bad_char at)
HasScanFault level text (scans.Unclosed at) = HasFault level text (unclosed at)
HasScanFault level text scans.NoMemory = ⊥

-- a text whose tokens have no tree
pub record HasTokensAlone (level : Level) (text : List ℕ) : Type 0 where
  pub tokens : List Token
  pub scanned : HasTokens level text tokens
  pub no_tree : HasNoTree tokens

-- the tree of a text, its fault, or that its tokens have no tree, unless memory ran out
abbrev pub Parses : Level → List ℕ → Result CompilationUnit Unreadable → Type 0
Parses level text (Ok u) = IsUnitOfText level text u
Parses level text (Err (Scan fault)) = HasScanFault level text fault
Parses level text (Err NoTree) = HasTokensAlone level text
Parses level text (Err NoMemory) = Unit {0}

-- the answer is this tree, unless memory ran out
abbrev pub TellsUnit : CompilationUnit → Result CompilationUnit Unreadable → Type 0
TellsUnit u (Ok v) = v ≡ u
TellsUnit u (Err (Scan fault)) = ⊥
TellsUnit u (Err NoTree) = ⊥
TellsUnit u (Err NoMemory) = Unit {0}

-- the same fault, as the scanner tells it
abbrev pub IsScanFault : LexicalFault → ScanFault → Type 0
IsScanFault fault (scans.BadEscape at) = fault ≡ bad_escape at
IsScanFault fault (scans.BadChar at) = fault ≡ bad_char at
IsScanFault fault (scans.Unclosed at) = fault ≡ unclosed at
IsScanFault fault scans.NoMemory = ⊥

-- the answer is this fault, unless memory ran out
abbrev pub TellsFault : LexicalFault → Result CompilationUnit Unreadable → Type 0
TellsFault fault (Ok v) = ⊥
TellsFault fault (Err (Scan found)) = IsScanFault fault found
TellsFault fault (Err NoTree) = ⊥
TellsFault fault (Err NoMemory) = Unit {0}

-- the answer is that there is no tree, unless memory ran out
abbrev pub TellsNoTree : Result CompilationUnit Unreadable → Type 0
TellsNoTree (Ok v) = ⊥
TellsNoTree (Err (Scan fault)) = ⊥
TellsNoTree (Err NoTree) = Unit {0}
TellsNoTree (Err NoMemory) = Unit {0}

-- the same of tokens, which have no fault
abbrev pub ParsesTokens : List Token → Result CompilationUnit Unreadable → Type 0
ParsesTokens tokens (Ok u) = IsUnit tokens u
ParsesTokens tokens (Err (Scan fault)) = ⊥
ParsesTokens tokens (Err NoTree) = HasNoTree tokens
ParsesTokens tokens (Err NoMemory) = Unit {0}

-- a text is refused only where it is unreadable
abbrev pub Refuses : Level → List ℕ → Result CompilationUnit Unreadable → Type 0
Refuses level text (Ok v) = Unit {0}
Refuses level text (Err (Scan fault)) = IsUnreadable level text
Refuses level text (Err NoTree) = IsUnreadable level text
Refuses level text (Err NoMemory) = Unit {0}

-- where a scanner's fault goes
abbrev pub unreadable_by : ScanFault → Unreadable
unreadable_by (scans.BadEscape at) = Scan (scans.BadEscape at)
unreadable_by (scans.BadChar at) = Scan (scans.BadChar at)
unreadable_by (scans.Unclosed at) = Scan (scans.Unclosed at)
unreadable_by scans.NoMemory = NoMemory

-- where a fault of a reader of units goes
abbrev pub unreadable_as : UnitFault → Unreadable
unreadable_as units.NoTree = NoTree
unreadable_as units.NoMemory = NoMemory
