-- What the scanner answers for a text.
use Rattle.std.specs.Prelude.{◌≡◌, ℕ, List, Result, Ok, Err, Vec}
use Rattle.std.specs.Global.{Global}
use Rattle.java_tree.specs.declared.outline.Level.{Level}
use Rattle.java_tree.specs.declared.token.Token.{Token}
use Rattle.java_model.specs.Lexical.Tokens.{HasTokens}
use Rattle.java_model.specs.Lexical.Faults.{LexicalFault, HasFault}
use Rattle.java_model.specs.Lexical.Faults.LexicalFault.{bad_escape, bad_char, unclosed}
use Rattle.java_scan.specs.declared.fault.ScanFault.{ScanFault}
use Rattle.java_scan.specs.declared.fault.ScanFault.TheVariants.{BadEscape, BadChar, Unclosed, NoMemory}

-- the tokens or the fault that the text has, unless memory ran out
abbrev pub Reports : Level → List ℕ → Result (Vec Token Global) ScanFault → Type 0
Reports level text (Ok tokens) = HasTokens level text tokens.items
Reports level text (Err (BadEscape at)) = HasFault level text (bad_escape at)
Reports level text (Err (BadChar at)) = HasFault level text (bad_char at)
Reports level text (Err (Unclosed at)) = HasFault level text (unclosed at)
Reports level text (Err NoMemory) = Unit {0}

-- the answer is these tokens, unless memory ran out
abbrev pub TellsTokens : List Token → Result (Vec Token Global) ScanFault → Type 0
TellsTokens tokens (Ok answer) = answer.items ≡ tokens
TellsTokens tokens (Err (BadEscape at)) = ⊥
TellsTokens tokens (Err (BadChar at)) = ⊥
TellsTokens tokens (Err (Unclosed at)) = ⊥
TellsTokens tokens (Err NoMemory) = Unit {0}

-- the answer is this fault, unless memory ran out
abbrev pub TellsFault : LexicalFault → Result (Vec Token Global) ScanFault → Type 0
TellsFault fault (Ok answer) = ⊥
TellsFault fault (Err (BadEscape at)) = fault ≡ bad_escape at
TellsFault fault (Err (BadChar at)) = fault ≡ bad_char at
TellsFault fault (Err (Unclosed at)) = fault ≡ unclosed at
TellsFault fault (Err NoMemory) = Unit {0}
