-- What the scanner answers for the elements from a place on.
use Rattle.std.specs.Prelude.{◌≡◌, ℕ, List, [], ◌++◌, map, take, Result, Ok, Err, Vec}
use Rattle.std.specs.Global.{Global}
use Rattle.java_tree.specs.declared.outline.Level.{Level}
use Rattle.java_tree.specs.declared.token.Token.{Token}
use Rattle.java_model.specs.Lexical.Escapes.{Input, raw}
use Rattle.java_model.specs.Lexical.Elements.{Element}
use Rattle.java_model.specs.Lexical.Tokens.{with_element, AreElements}
use Rattle.java_model.specs.Lexical.Faults.{LexicalFault, IsFaultAt}
use Rattle.java_model.specs.Lexical.Faults.LexicalFault.{bad_char, unclosed}
use Rattle.java_model.proofs.Lexical.Reading.{next_of}
use Rattle.java_model.proofs.Lexical.Reading.Found.{found, nothing}
use Rattle.java_model.proofs.Lexical.Faulting.{fault_of}
use Rattle.java_scan.specs.declared.fault.ScanFault.{ScanFault}
use Rattle.java_scan.specs.declared.fault.ScanFault.TheVariants.{BadEscape, BadChar, Unclosed, NoMemory}
use Rattle.java_scan.specs.Place.{Place, advance}

-- an element is next, and this place is after it; with it there are these tokens
pub record Passes (level : Level) (p : Place) (before : List Token) (q : Place) (after : List Token) : Type 0 where
  pub element : Element
  pub count : ℕ
  pub here : next_of level p.left ≡ found element count
  pub end : q ≡ advance count p
  pub kept : after ≡ before ++ with_element element p.at (map raw (take count p.left)) []

-- no element is next, and this is the fault
pub record Stops (level : Level) (p : Place) (fault : LexicalFault) : Type 0 where
  pub over : next_of level p.left ≡ nothing
  pub is : fault ≡ fault_of p.at (map raw p.left)

-- an answer for the element at a place, unless memory ran out
abbrev pub Adds : Level → Place → List Token → Result (Unit {0}) ScanFault → Place → List Token → Type 0
Adds level p before (Ok _) q after = Passes level p before q after
Adds level p before (Err (BadEscape at)) q after = ⊥
Adds level p before (Err (BadChar at)) q after = Stops level p (bad_char at)
Adds level p before (Err (Unclosed at)) q after = Stops level p (unclosed at)
Adds level p before (Err NoMemory) q after = Unit {0}

-- elements from these inputs on end with this fault
pub record EndsWith (level : Level) (at : ℕ) (inputs : List Input) (fault : LexicalFault) : Type 0 where
  pub tokens : List Token
  pub place : ℕ
  pub rest : List Input
  pub elements : AreElements level at inputs tokens place rest
  pub stands : IsFaultAt level place rest fault

-- all inputs are elements
abbrev pub AllScanned : Level → Place → List Token → Place → Type 0
AllScanned level p tokens q = AreElements level p.at (map raw p.left) tokens q.at []

-- an answer for all elements from a place on, unless memory ran out
abbrev pub Scans : Level → Place → Result (Vec Token Global) ScanFault → Place → Type 0
Scans level p (Ok tokens) q = AllScanned level p tokens.items q
Scans level p (Err (BadEscape at)) q = ⊥
Scans level p (Err (BadChar at)) q = EndsWith level p.at (map raw p.left) (bad_char at)
Scans level p (Err (Unclosed at)) q = EndsWith level p.at (map raw p.left) (unclosed at)
Scans level p (Err NoMemory) q = Unit {0}
