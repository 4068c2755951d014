-- Reading a whole text: its tokens or its fault. What is read holds, and what holds is read.
use Rattle.std.proofs.Common.{◌≡◌, ℕ, suc, List, [], ◌∷◌, length, map, chars, true, refl, ap, subst, arith}
use Rattle.java_tree.specs.declared.outline.Level.{Level}
use Rattle.java_tree.specs.declared.token.Token.{Token}
use Rattle.java_model.specs.Lexical.Escapes.{Input, HasInputs, paired, replaced}
use Rattle.java_model.specs.Lexical.Tokens.{without_sub, HasTokens}
use Rattle.java_model.specs.Lexical.Faults.{LexicalFault, HasFault}
use Rattle.java_model.specs.Lexical.Faults.LexicalFault.{bad_escape}
use Rattle.java_model.specs.Lexical.Faults.HasFault.{escape, element}
use Rattle.java_model.proofs.Lexical.Escaping.{Read, Meets, meets}
use Rattle.java_model.proofs.Lexical.Escaping.Read.{whole, bad_at}
use Rattle.java_model.proofs.Lexical.Inputs.{read_text}
use Rattle.java_model.proofs.Lexical.Scanning.{Scanned, Covers, covers}
use Rattle.java_model.proofs.Lexical.Scanning.Scanned.{scanned}
use Rattle.java_model.proofs.Lexical.Faulting.{fault_of}
use Rattle.java_model.proofs.Lexical.FaultSound.{fault_stands}
use Rattle.java_model.proofs.Lexical.Laws.{scan_of, tokens_are_unique, faults_are_unique, faults_exclude_tokens}

pub data Outcome : Type 0 where
  all : List Token → Outcome
  failed : LexicalFault → Outcome

abbrev pub outcome_of : Scanned → Outcome
outcome_of (scanned tokens end []) = all tokens
outcome_of (scanned tokens end (input ∷ rest)) = failed (fault_of end (input ∷ rest))

abbrev pub outcome_read : Level → Read → Outcome
outcome_read level (whole units) = outcome_of (scan_of level (map replaced (paired units)))
outcome_read level (bad_at at) = failed (bad_escape at)

-- the tokens of a text, or its fault
abbrev pub reading : Level → List ℕ → Outcome
reading level text = outcome_read level (read_text text)

-- what an outcome says of a text
abbrev pub Holds : Level → List ℕ → Outcome → Type 0
Holds level text (all tokens) = HasTokens level text tokens
Holds level text (failed fault) = HasFault level text fault

scan_holds : (level : Level) (text : List ℕ) (inputs : List Input) → HasInputs text inputs → (s : Scanned) → Covers level 0 (without_sub inputs) s → Holds level text (outcome_of s)
scan_holds level text inputs is (scanned tokens end []) (walk, over) = record { inputs = inputs; end = end; characters = is; elements = walk }
scan_holds level text inputs is (scanned tokens end (input ∷ rest)) (walk, over) = element is walk (fault_stands level end input rest over)

read_holds : (level : Level) (text : List ℕ) (read : Read) → Meets true (chars text) read → Holds level text (outcome_read level read)
read_holds level text (whole units) (end, walk) =
    let inputs : List Input = map replaced (paired units) in
    let is : HasInputs text (map replaced (paired units)) = record { units = units; end = end; unescaped = walk; joined = refl } in
    scan_holds level text (map replaced (paired units)) is (scan_of level (map replaced (paired units))) (covers (suc (length (without_sub (map replaced (paired units))))) level 0 (without_sub (map replaced (paired units))) (omega arith))
read_holds level text (bad_at at) (units, even, rest, walk, begun, bad, place) = escape (record { units = units; even = even; rest = rest; unescaped = walk; begun = begun; bad = bad; place = place })

pub reading_holds : (level : Level) (text : List ℕ) → Holds level text (reading level text)
reading_holds level text = read_holds level text (read_text text) (meets (suc (length (chars text))) true (chars text) (omega arith))

-- for an example whose outcome is computed
pub reads : (level : Level) (text : List ℕ) (outcome : Outcome) → reading level text ≡ outcome → Holds level text outcome
reads level text outcome e = subst (Holds level text) e (reading_holds level text)

tokens_outcome : (level : Level) (text : List ℕ) (tokens : List Token) (o : Outcome) → Holds level text o → HasTokens level text tokens → o ≡ all tokens
tokens_outcome level text tokens (all others) h k = ap all (tokens_are_unique level text others tokens h k)
tokens_outcome level text tokens (failed fault) h k = absurd (faults_exclude_tokens level text tokens fault k h)

fault_outcome : (level : Level) (text : List ℕ) (fault : LexicalFault) (o : Outcome) → Holds level text o → HasFault level text fault → o ≡ failed fault
fault_outcome level text fault (all tokens) h k = absurd (faults_exclude_tokens level text tokens fault h k)
fault_outcome level text fault (failed other) h k = ap failed (faults_are_unique level text other fault h k)

-- what holds is read
pub HasTokens-reading : (level : Level) (text : List ℕ) (tokens : List Token) → HasTokens level text tokens → reading level text ≡ all tokens
HasTokens-reading level text tokens h = tokens_outcome level text tokens (reading level text) (reading_holds level text) h

pub HasFault-reading : (level : Level) (text : List ℕ) (fault : LexicalFault) → HasFault level text fault → reading level text ≡ failed fault
HasFault-reading level text fault h = fault_outcome level text fault (reading level text) (reading_holds level text) h

pub tokens_read : {level : Level} {text : List ℕ} {tokens : List Token} → reading level text ≡ all tokens → HasTokens level text tokens
tokens_read {level} {text} {tokens} e = reads level text (all tokens) e

pub fault_read : {level : Level} {text : List ℕ} {fault : LexicalFault} → reading level text ≡ failed fault → HasFault level text fault
fault_read {level} {text} {fault} e = reads level text (failed fault) e
