-- What the answer for a text says of it.
use Rattle.std.proofs.Common.{◌≡◌, ℕ, ◌+◌, ◌<◌, ◌≤◌, List, [], ◌∷◌, length, IsUtf8, Some, None, Option, Result, Ok, Err, refl, sym, ap, ◌∙◌, subst, arith}
use Rattle.java_tree.specs.declared.outline.Level.{Level}
use Rattle.java_tree.specs.declared.token.Token.{Token}
use Rattle.java_tree.specs.declared.unit.Unit.{Unit as CompilationUnit}
use Rattle.java_model.specs.Grammar.Signs.{Sign, signs}
use Rattle.java_model.specs.Grammar.Units.{IsUnit, HasNoTree}
use Rattle.java_model.specs.Lexical.Faults.{LexicalFault, HasFault}
use Rattle.java_model.specs.Lexical.Faults.LexicalFault.{bad_escape, bad_char, unclosed}
use Rattle.java_model.specs.Lexical.Tokens.{HasTokens, RiseWithin}
use Rattle.java_model.specs.Texts.{IsUnitOfText}
use Rattle.java_model.proofs.Lexical.Spans.{spans_rise}
use Rattle.java_model.proofs.Lexical.Laws.{tokens_are_unique, faults_are_unique, faults_exclude_tokens}
use Rattle.java_scan.specs.declared.fault.ScanFault.{ScanFault}
use Rattle.java_scan.specs.declared.fault.ScanFault.TheVariants as scans
use Rattle.java_scan.specs.Reports.{Reports}
use Rattle.java_unit_reading.specs.declared.fault.UnitFault.{UnitFault}
use Rattle.java_unit_reading.specs.declared.fault.UnitFault.TheVariants as units
use Rattle.java_parse_unit.specs.Ends.{GivesTree}
use Rattle.java_parse_unit.specs.declared.unreadable.Unreadable.{Unreadable}
use Rattle.java_parse_unit.specs.declared.unreadable.Unreadable.TheVariants.{Scan, NoTree, NoMemory}
use Rattle.java_parse_unit.specs.Parsed.{HasScanFault, HasTokensAlone, Parses, ParsesTokens, TellsUnit, IsScanFault, TellsFault, TellsNoTree, Refuses, unreadable_by, unreadable_as}
use Rattle.java_unit_reading.specs.ReadingLaws.{read_unit}
use Rattle.java_unit_reading.proofs.ReadingLaws.{at_most_one_unit, reads_each_unit, reads_no_other_unit}

-- each token takes a byte or more
rise_few : (low high : ℕ) (tokens : List Token) → RiseWithin low high tokens → low + length tokens ≤ high
rise_few low high [] h = omega (arith, h)
rise_few low high (t ∷ ts) h = omega (arith, h.0, h.1, rise_few t.span.end high ts h.2)

-- a text has no more tokens than bytes
pub few_tokens : (level : Level) (text : List ℕ) (tokens : List Token) → IsUtf8 text → HasTokens level text tokens → length tokens ≤ length text
few_tokens level text tokens u h = omega (arith, rise_few 0 (length text) tokens (spans_rise level text tokens u h))

same_tree : {A : Type 0} (o : Option A) (x y : A) → o ≡ Some x → o ≡ Some y → x ≡ y
same_tree o x y e f = cc

no_tree : {A C : Type 0} (o : Option A) (x : A) → o ≡ Some x → o ≡ None → C
no_tree o x e f = absurd cc

-- ---- tokens

pub tree_of_tokens : (tokens : List Token) (u : CompilationUnit) → read_unit (signs tokens) ≡ Some u → IsUnit tokens u
tree_of_tokens tokens u e = reads_no_other_unit (signs tokens) u e

pub no_tree_of_tokens : (tokens : List Token) → read_unit (signs tokens) ≡ None → HasNoTree tokens
no_tree_of_tokens tokens e u h = no_tree (read_unit (signs tokens)) u (reads_each_unit (signs tokens) u h) e

pub unit_refused : (tokens : List Token) (marked : List Sign) (fault : UnitFault) → marked ≡ signs tokens
    → GivesTree (read_unit marked) (Err fault) → ParsesTokens tokens (Err (unreadable_as fault))
unit_refused tokens marked units.NoTree same gives = no_tree_of_tokens tokens (ap read_unit (sym same) ∙ gives (λ e. cc))
unit_refused tokens marked units.NoMemory same gives = tt

-- ---- texts

pub text_parses : (level : Level) (text : List ℕ) (tokens : List Token) (r : Result CompilationUnit Unreadable) → HasTokens level text tokens
    → ParsesTokens tokens r → Parses level text r
text_parses level text tokens (Ok u) h p = record { tokens = tokens; scanned = h; unit = p }
text_parses level text tokens (Err (Scan fault)) h p = absurd p
text_parses level text tokens (Err NoTree) h p = record { tokens = tokens; scanned = h; no_tree = p }
text_parses level text tokens (Err NoMemory) h p = tt

pub fault_parses : (level : Level) (text : List ℕ) (fault : ScanFault) → Reports level text (Err fault)
    → Parses level text (Err (unreadable_by fault))
fault_parses level text (scans.BadEscape at) h = h
fault_parses level text (scans.BadChar at) h = h
fault_parses level text (scans.Unclosed at) h = h
fault_parses level text scans.NoMemory h = tt

has_fault_alone : {C : Type 0} (level : Level) (text : List ℕ) (tokens : List Token) (fault : ScanFault)
    → HasTokens level text tokens → HasScanFault level text fault → C
has_fault_alone level text tokens (scans.BadEscape at) h f = absurd (faults_exclude_tokens level text tokens (bad_escape at) h f)
has_fault_alone level text tokens (scans.BadChar at) h f = absurd (faults_exclude_tokens level text tokens (bad_char at) h f)
has_fault_alone level text tokens (scans.Unclosed at) h f = absurd (faults_exclude_tokens level text tokens (unclosed at) h f)
has_fault_alone level text tokens scans.NoMemory h f = absurd f

same_fault : (level : Level) (text : List ℕ) (fault : LexicalFault) (found : ScanFault)
    → HasFault level text fault → HasScanFault level text found → IsScanFault fault found
same_fault level text fault (scans.BadEscape at) h f = faults_are_unique level text fault (bad_escape at) h f
same_fault level text fault (scans.BadChar at) h f = faults_are_unique level text fault (bad_char at) h f
same_fault level text fault (scans.Unclosed at) h f = faults_are_unique level text fault (unclosed at) h f
same_fault level text fault scans.NoMemory h f = absurd f

-- the tree of other tokens of the same text
other_tokens : (level : Level) (text : List ℕ) (u : CompilationUnit) (tokens : List Token)
    → HasTokens level text tokens → IsUnitOfText level text u → IsUnit tokens u
other_tokens level text u tokens h t = subst (λ ts. IsUnit ts u) (tokens_are_unique level text t.tokens tokens t.scanned h) t.unit

pub unit_told : (level : Level) (text : List ℕ) (u : CompilationUnit) (r : Result CompilationUnit Unreadable)
    → Parses level text r → IsUnitOfText level text u → TellsUnit u r
unit_told level text u (Ok v) p t = at_most_one_unit (signs p.tokens) v u p.unit (other_tokens level text u p.tokens p.scanned t)
unit_told level text u (Err (Scan fault)) p t = has_fault_alone level text t.tokens fault t.scanned p
unit_told level text u (Err NoTree) p t = p.no_tree u (other_tokens level text u p.tokens p.scanned t)
unit_told level text u (Err NoMemory) p t = tt

pub fault_told : (level : Level) (text : List ℕ) (fault : LexicalFault) (r : Result CompilationUnit Unreadable)
    → Parses level text r → HasFault level text fault → TellsFault fault r
fault_told level text fault (Ok v) p h = faults_exclude_tokens level text p.tokens fault p.scanned h
fault_told level text fault (Err (Scan found)) p h = same_fault level text fault found h p
fault_told level text fault (Err NoTree) p h = faults_exclude_tokens level text p.tokens fault p.scanned h
fault_told level text fault (Err NoMemory) p h = tt

pub no_tree_told : (level : Level) (text : List ℕ) (tokens : List Token) (r : Result CompilationUnit Unreadable)
    → Parses level text r → HasTokens level text tokens
    → HasNoTree tokens → TellsNoTree r
no_tree_told level text tokens (Ok v) p h n = n v (other_tokens level text v tokens h p)
no_tree_told level text tokens (Err (Scan fault)) p h n = has_fault_alone level text tokens fault h p
no_tree_told level text tokens (Err NoTree) p h n = tt
no_tree_told level text tokens (Err NoMemory) p h n = tt

pub refused_told : (level : Level) (text : List ℕ) (r : Result CompilationUnit Unreadable) → Parses level text r → Refuses level text r
refused_told level text (Ok v) p = tt
refused_told level text (Err (Scan fault)) p = λ u t. has_fault_alone level text t.tokens fault t.scanned p
refused_told level text (Err NoTree) p = λ u t. p.no_tree u (other_tokens level text u p.tokens p.scanned t)
refused_told level text (Err NoMemory) p = tt
