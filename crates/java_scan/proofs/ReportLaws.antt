-- What is scanned of a text is its tokens or its fault, and no others.
use Rattle.std.proofs.Common.{◌≡◌, ℕ, false, List, [], ◌∷◌, map, chars, Result, Ok, Err, Vec, IfOk, IsOkUnless, IsUtf8, refl, sym, subst}
use Rattle.std.specs.Global.{Global}
use Rattle.java_tree.specs.declared.outline.Level.{Level}
use Rattle.java_tree.specs.declared.token.Token.{Token}
use Rattle.java_model.specs.Lexical.Escapes.{Input, raw, HasInputs}
use Rattle.java_model.specs.Lexical.Tokens.{without_sub, HasTokens, AreElements}
use Rattle.java_model.specs.Lexical.Faults.{LexicalFault, HasFault}
use Rattle.java_model.specs.Lexical.Faults.LexicalFault.{bad_escape, bad_char, unclosed}
use Rattle.java_model.specs.Lexical.Faults.HasFault.{escape, element}
use Rattle.java_model.proofs.Lexical.Laws.{tokens_are_unique, faults_are_unique, faults_exclude_tokens}
use Rattle.java_scan.specs.declared.fault.ScanFault.{ScanFault}
use Rattle.java_scan.specs.declared.fault.ScanFault.TheVariants.{BadEscape, BadChar, Unclosed, NoMemory}
use Rattle.java_scan.specs.Place.{Place, place_in}
use Rattle.java_scan.specs.Elements.{EndsWith, AllScanned, Scans}
use Rattle.java_scan.specs.Unescaping.{escapes_from, IsUnitsOf}
use Rattle.java_scan.specs.Joining.{inputs_of, IsJoined, IsEscapeFault}
use Rattle.java_scan.specs.Moving.{placed_by, moved_token, moved_fault, moved_answer}
use Rattle.java_scan.specs.Reports.{Reports, TellsTokens, TellsFault}
use Rattle.java_scan.proofs.PlainText.{plain_inputs}
use Rattle.java_scan.proofs.MovingLaws.{IsPlaced, carried, fault_moved, sub_placed}
use Rattle.java_scan.proofs.UnescapedLaws.{IsUnescaped, unescaped}

-- a text whose characters stand for themselves
tokens_by : (level : Level) (text cut : List ℕ) (q : Place) (tokens : List Token)
    → HasInputs text (map raw (chars text))
    → map raw (chars cut) ≡ without_sub (map raw (chars text))
    → AllScanned level (place_in cut 0) tokens q
    → HasTokens level text tokens
tokens_by level text cut q tokens is e s = record { inputs = map raw (chars text); end = q.at; characters = is; elements = subst (λ x. AreElements level 0 x tokens q.at []) e s }

plain_tokens : (level : Level) (text cut : List ℕ) (q : Place) (tokens : List Token)
    → IsUtf8 text
    → escapes_from false (chars text) ≡ false
    → map raw (chars cut) ≡ without_sub (map raw (chars text))
    → AllScanned level (place_in cut 0) tokens q
    → HasTokens level text tokens
plain_tokens level text cut q tokens utf8 h e s = tokens_by level text cut q tokens (plain_inputs text utf8 h) e s

plain_fault : (level : Level) (text cut : List ℕ) (q : Place) (fault : ScanFault)
    → IsUtf8 text
    → escapes_from false (chars text) ≡ false
    → map raw (chars cut) ≡ without_sub (map raw (chars text))
    → Scans level (place_in cut 0) (Err fault) q
    → Reports level text (Err fault)
plain_fault level text cut q (BadEscape at) utf8 h e s = absurd s
plain_fault level text cut q (BadChar at) utf8 h e s = element (plain_inputs text utf8 h) (subst (λ x. AreElements level 0 x s.tokens s.place s.rest) e s.elements) s.stands
plain_fault level text cut q (Unclosed at) utf8 h e s = element (plain_inputs text utf8 h) (subst (λ x. AreElements level 0 x s.tokens s.place s.rest) e s.elements) s.stands
plain_fault level text cut q NoMemory utf8 h e s = tt

pub plain_reports : (level : Level) (text cut : List ℕ) (q : Place) (r : Result (Vec Token Global) ScanFault)
    → IsUtf8 text
    → escapes_from false (chars text) ≡ false
    → map raw (chars cut) ≡ without_sub (map raw (chars text))
    → Scans level (place_in cut 0) r q
    → Reports level text r
plain_reports level text cut q (Ok tokens) utf8 h e s = plain_tokens level text cut q tokens.items utf8 h e s
plain_reports level text cut q (Err fault) utf8 h e s = plain_fault level text cut q fault utf8 h e s

-- and no other answer would do

pub tokens_told : (level : Level) (text : List ℕ) (r : Result (Vec Token Global) ScanFault)
    → Reports level text r
    → (tokens : List Token)
    → HasTokens level text tokens
    → TellsTokens tokens r
tokens_told level text (Ok v) h tokens k = tokens_are_unique level text v.items tokens h k
tokens_told level text (Err (BadEscape at)) h tokens k = faults_exclude_tokens level text tokens (bad_escape at) k h
tokens_told level text (Err (BadChar at)) h tokens k = faults_exclude_tokens level text tokens (bad_char at) k h
tokens_told level text (Err (Unclosed at)) h tokens k = faults_exclude_tokens level text tokens (unclosed at) k h
tokens_told level text (Err NoMemory) h tokens k = tt

pub fault_told : (level : Level) (text : List ℕ) (r : Result (Vec Token Global) ScanFault)
    → Reports level text r
    → (fault : LexicalFault)
    → HasFault level text fault
    → TellsFault fault r
fault_told level text (Ok v) h fault k = faults_exclude_tokens level text v.items fault h k
fault_told level text (Err (BadEscape at)) h fault k = faults_are_unique level text fault (bad_escape at) k h
fault_told level text (Err (BadChar at)) h fault k = faults_are_unique level text fault (bad_char at) k h
fault_told level text (Err (Unclosed at)) h fault k = faults_are_unique level text fault (unclosed at) k h
fault_told level text (Err NoMemory) h fault k = tt

-- a text with escapes

pub units_fault : (level : Level) (text : List ℕ) (fault : ScanFault) → IsEscapeFault text fault → Reports level text (Err fault)
units_fault level text (BadEscape at) h = escape h
units_fault level text (BadChar at) h = absurd h
units_fault level text (Unclosed at) h = absurd h
units_fault level text NoMemory h = tt

pub moved_reports : (level : Level) (text places : List ℕ) (tokens : List Token) (r : Result (Vec Token Global) ScanFault)
    → IfOk r (λ moved. moved.items ≡ map (moved_token (placed_by places)) tokens)
    → IsOkUnless r NoMemory
    → HasTokens level text (map (moved_token (placed_by places)) tokens)
    → Reports level text r
moved_reports level text places tokens (Ok v) ok err h = subst (HasTokens level text) (sym ok) h
moved_reports level text places tokens (Err (BadEscape at)) ok err h = absurd (cc)
moved_reports level text places tokens (Err (BadChar at)) ok err h = absurd (cc)
moved_reports level text places tokens (Err (Unclosed at)) ok err h = absurd (cc)
moved_reports level text places tokens (Err NoMemory) ok err h = tt

escaped_tokens : (level : Level) (text joined cut places : List ℕ) (q : Place) (inputs : List Input) (tokens : List Token)
    → IsUnescaped text joined places inputs
    → map raw (chars cut) ≡ without_sub (map raw (chars joined))
    → AllScanned level (place_in cut 0) tokens q
    → HasTokens level text (map (moved_token (placed_by places)) tokens)
escaped_tokens level text joined cut places q inputs tokens u e s =
    let walk : AreElements level 0 (without_sub (map raw (chars joined))) tokens q.at [] = subst (λ x. AreElements level 0 x tokens q.at []) e s in
    let c = carried walk (placed_by places) 0 (without_sub inputs) (sub_placed (placed_by places) 0 (map raw (chars joined)) 0 inputs u.placed) in
    record {
      inputs = inputs;
      end = placed_by places q.at;
      characters = u.has;
      elements = subst (AreElements level 0 (without_sub inputs) (map (moved_token (placed_by places)) tokens) (placed_by places q.at)) (none_placed (placed_by places) q.at (placed_by places q.at) c.left c.placed) c.elements;
    }
  where
    none_placed : (place : ℕ → ℕ) (at to : ℕ) (ys : List Input) → IsPlaced place at [] to ys → ys ≡ []
    none_placed place at to [] h = refl
    none_placed place at to (y ∷ ys) h = absurd h

ends_moved : (level : Level) (text joined places : List ℕ) (inputs : List Input) (fault : LexicalFault)
    → IsUnescaped text joined places inputs
    → EndsWith level 0 (without_sub (map raw (chars joined))) fault
    → HasFault level text (moved_fault (placed_by places) fault)
ends_moved level text joined places inputs fault u s =
    let c = carried s.elements (placed_by places) 0 (without_sub inputs) (sub_placed (placed_by places) 0 (map raw (chars joined)) 0 inputs u.placed) in
    element u.has c.elements (fault_moved s.stands (placed_by places) c.left c.placed)

escaped_fault : (level : Level) (text joined cut places : List ℕ) (q : Place) (inputs : List Input) (fault : ScanFault)
    → IsUnescaped text joined places inputs
    → map raw (chars cut) ≡ without_sub (map raw (chars joined))
    → Scans level (place_in cut 0) (Err fault) q
    → Reports level text (Err (moved_answer (placed_by places) fault))
escaped_fault level text joined cut places q inputs (BadEscape at) u e s = absurd s
escaped_fault level text joined cut places q inputs (BadChar at) u e s = ends_moved level text joined places inputs (bad_char at) u (subst (λ x. EndsWith level 0 x (bad_char at)) e s)
escaped_fault level text joined cut places q inputs (Unclosed at) u e s = ends_moved level text joined places inputs (unclosed at) u (subst (λ x. EndsWith level 0 x (unclosed at)) e s)
escaped_fault level text joined cut places q inputs NoMemory u e s = tt

pub escaped_reports : (level : Level) (text joined cut places : List ℕ) (q : Place) (units : List Input) (tokens : List Token)
    → IsUnitsOf text units
    → IsJoined units joined places
    → map raw (chars cut) ≡ without_sub (map raw (chars joined))
    → AllScanned level (place_in cut 0) tokens q
    → HasTokens level text (map (moved_token (placed_by places)) tokens)
escaped_reports level text joined cut places q units tokens h j e s = escaped_tokens level text joined cut places q (inputs_of units) tokens (unescaped text joined places units h j) e s

pub escaped_reports_fault : (level : Level) (text joined cut places : List ℕ) (q : Place) (units : List Input) (fault : ScanFault)
    → IsUnitsOf text units
    → IsJoined units joined places
    → map raw (chars cut) ≡ without_sub (map raw (chars joined))
    → Scans level (place_in cut 0) (Err fault) q
    → Reports level text (Err (moved_answer (placed_by places) fault))
escaped_reports_fault level text joined cut places q units fault h j e s = escaped_fault level text joined cut places q (inputs_of units) fault (unescaped text joined places units h j) e s
