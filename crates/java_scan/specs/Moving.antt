-- Tokens and faults with other places.
use Rattle.std.specs.Prelude.{ℕ, List, get_or}
use Rattle.java_tree.specs.declared.token.Token.{Token}
use Rattle.java_model.specs.Lexical.Faults.{LexicalFault}
use Rattle.java_model.specs.Lexical.Faults.LexicalFault.{bad_escape, bad_char, unclosed}
use Rattle.java_scan.specs.declared.fault.ScanFault.{ScanFault}
use Rattle.java_scan.specs.declared.fault.ScanFault.TheVariants.{BadEscape, BadChar, Unclosed, NoMemory}

-- the place that these give for a byte
abbrev pub placed_by : List ℕ → ℕ → ℕ
placed_by places at = get_or places at 0

abbrev pub moved_token : (ℕ → ℕ) → Token → Token
moved_token place token = record token { span = record { start = place token.span.start; end = place token.span.end } }

abbrev pub moved_fault : (ℕ → ℕ) → LexicalFault → LexicalFault
moved_fault place (bad_escape at) = bad_escape (place at)
moved_fault place (bad_char at) = bad_char (place at)
moved_fault place (unclosed at) = unclosed (place at)

-- of what the scanner answers
abbrev pub moved_answer : (ℕ → ℕ) → ScanFault → ScanFault
moved_answer place (BadEscape at) = BadEscape (place at)
moved_answer place (BadChar at) = BadChar (place at)
moved_answer place (Unclosed at) = Unclosed (place at)
moved_answer place NoMemory = NoMemory
