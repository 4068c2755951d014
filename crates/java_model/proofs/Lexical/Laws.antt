-- The tokens and the fault of a text: unique, apart from one another, and one of them always there.
use Rattle.std.proofs.Common.{◌≡◌, ℕ, suc, ◌⊎◌, List, [], ◌∷◌, length, refl, sym, ap, ap₂, ◌∙◌, inl, inr, arith}
use Rattle.java_tree.specs.declared.outline.Level.{Level}
use Rattle.java_tree.specs.declared.token.Token.{Token}
use Rattle.java_model.specs.Lexical.Escapes.{Input, HasInputs}
use Rattle.java_model.specs.Lexical.Tokens.{AreElements, without_sub, HasTokens}
use Rattle.java_model.specs.Lexical.Faults.{LexicalFault, IsFaultAt, HasFault}
use Rattle.java_model.specs.Lexical.Faults.LexicalFault.{bad_escape}
use Rattle.java_model.specs.Lexical.Faults.HasFault.{escape, element}
use Rattle.java_model.specs.Lexical.Laws.{InputsAreUnique, TokensAreUnique, FaultsAreUnique, FaultsExcludeTokens, TokensOrFault}
use Rattle.java_model.proofs.Lexical.Inputs.{HasInputs-unique, HasBadEscape-unique, HasInputs-HasBadEscape, has_inputs_or_bad_escape}
use Rattle.java_model.proofs.Lexical.Scanning.{Scanned, read_elements, elements_read, Covers, covers}
use Rattle.java_model.proofs.Lexical.Scanning.Scanned.{scanned}
use Rattle.java_model.proofs.Lexical.Faulting.{fault_of}
use Rattle.java_model.proofs.Lexical.FaultingMore.{faulted}
use Rattle.java_model.proofs.Lexical.FaultSound.{fault_stands}

-- the elements of a text's characters, as they are read
abbrev pub scan_of : Level → List Input → Scanned
scan_of level inputs = read_elements (suc (length (without_sub inputs))) level 0 (without_sub inputs)

tokens_scan : {level : Level} {text : List ℕ} {tokens : List Token} (inputs : List Input) → HasInputs text inputs → (h : HasTokens level text tokens) → scan_of level inputs ≡ scanned tokens h.end []
tokens_scan {level} inputs is h =
    let same : h.inputs ≡ inputs = HasInputs-unique h.characters is in
    ap (scan_of level) (sym same) ∙ elements_read h.elements refl (suc (length (without_sub h.inputs))) (omega arith)

fault_scan : (level : Level) (text : List ℕ) (tokens : List Token) (at : ℕ) (rest : List Input) (fault : LexicalFault) (a b : List Input) → HasInputs text a → HasInputs text b → AreElements level 0 (without_sub b) tokens at rest → IsFaultAt level at rest fault → scan_of level a ≡ scanned tokens at rest
fault_scan level text tokens at rest fault a b ha hb walk f =
    let same : b ≡ a = HasInputs-unique hb ha in
    let over = (faulted level at rest fault f).over in
    ap (scan_of level) (sym same) ∙ elements_read walk over (suc (length (without_sub b))) (omega arith)

pub inputs_are_unique : InputsAreUnique
inputs_are_unique text a b ha hb = HasInputs-unique ha hb

pub tokens_are_unique : TokensAreUnique
tokens_are_unique level text a b ha hb =
    let s = tokens_scan ha.inputs ha.characters ha in
    let t = tokens_scan ha.inputs ha.characters hb in
    cc

-- where the elements end, the fault is a function of what is left
same_fault : (level : Level) (at bt : ℕ) (ra rb : List Input) (ta tb : List Token) (fa fb : LexicalFault) → scanned ta at ra ≡ scanned tb bt rb → IsFaultAt level at ra fa → IsFaultAt level bt rb fb → fa ≡ fb
same_fault level at bt ra rb ta tb fa fb e ha hb =
    let f = (faulted level at ra fa ha).is in
    let g = (faulted level bt rb fb hb).is in
    let same_at : at ≡ bt = cc in
    let same_rest : ra ≡ rb = cc in
    f ∙ (ap₂ fault_of same_at same_rest ∙ sym g)

pub faults_are_unique : FaultsAreUnique
faults_are_unique level text _ _ (escape a) (escape b) = ap bad_escape (HasBadEscape-unique a b)
faults_are_unique level text _ _ (escape a) (element h walk f) = absurd (HasInputs-HasBadEscape h a)
faults_are_unique level text _ _ (element h walk f) (escape b) = absurd (HasInputs-HasBadEscape h b)
faults_are_unique level text _ _ (element {inputs = a} {rest = ra} {tokens = ta} {at = at} {fault = fa} ha walk f) (element {inputs = b} {rest = rb} {tokens = tb} {at = bt} {fault = fb} hb walk' f') =
    let s = fault_scan level text ta at ra fa a a ha ha walk f in
    let t = fault_scan level text tb bt rb fb a b ha hb walk' f' in
    same_fault level at bt ra rb ta tb fa fb (sym s ∙ t) f f'

-- a fault leaves a character
left_over : (level : Level) (at : ℕ) (rest : List Input) (fault : LexicalFault) → IsFaultAt level at rest fault → rest ≡ [] → ⊥
left_over level at rest fault f e = let h = (faulted level at rest fault f).some in let l : length rest ≡ 0 = ap length e in omega arith

pub faults_exclude_tokens : FaultsExcludeTokens
faults_exclude_tokens level text tokens _ h (escape bad) = HasInputs-HasBadEscape h.characters bad
faults_exclude_tokens level text tokens _ h (element {inputs = b} {rest = rest} {tokens = others} {at = at} {fault = fault} is walk f) =
    let s = tokens_scan h.inputs h.characters h in
    let t = fault_scan level text others at rest fault h.inputs b h.characters is walk f in
    let e : rest ≡ [] = cc in
    left_over level at rest fault f e

scanned_or_fault : (level : Level) (text : List ℕ) (inputs : List Input) → HasInputs text inputs → (s : Scanned) → Covers level 0 (without_sub inputs) s → ((tokens : List Token) × HasTokens level text tokens) ⊎ ((fault : LexicalFault) × HasFault level text fault)
scanned_or_fault level text inputs is (scanned tokens end []) (walk, over) = inl (tokens, record { inputs = inputs; end = end; characters = is; elements = walk })
scanned_or_fault level text inputs is (scanned tokens end (input ∷ rest)) (walk, over) = inr (fault_of end (input ∷ rest), element is walk (fault_stands level end input rest over))

pub tokens_or_fault : TokensOrFault
tokens_or_fault level text = elim (has_inputs_or_bad_escape text) [
  | inl chars ↦ scanned_or_fault level text chars.0 chars.1 (scan_of level chars.0) (covers (suc (length (without_sub chars.0))) level 0 (without_sub chars.0) (omega arith))
  | inr bad ↦ inr (bad_escape bad.0, escape bad.1)
]
