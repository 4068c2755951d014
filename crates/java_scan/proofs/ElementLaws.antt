-- Elements that are passed one after the other.
use Rattle.std.proofs.Common.{◌≡◌, ℕ, zero, suc, ◌+◌, ◌<◌, Bool, true, false, cond, nat_lt, ◌==◌, List, [], ◌∷◌, ◌++◌, length, take, drop, map, Err, Some, None, refl, sym, ap, ◌∙◌, subst, arith, length-append}
use Rattle.std.proofs.lemmas.List.{take_at, drop_at, append-nil}
use Rattle.java_tree.specs.declared.outline.Level.{Level}
use Rattle.java_tree.specs.declared.token.Token.{Token}
use Rattle.java_tree.specs.declared.token.TokenKind.{TokenKind}
use Rattle.java_model.specs.Lexical.Escapes.{Input, raw, width_of, characters_of}
use Rattle.java_model.specs.Lexical.Elements.{Element, IsNext}
use Rattle.java_model.specs.Lexical.Elements.Element.{white_space, traditional_comment, end_of_line_comment, token}
use Rattle.java_model.specs.Lexical.Tokens.{with_element, AreElements}
use Rattle.java_model.specs.Lexical.Tokens.AreElements.{none, next}
use Rattle.java_model.specs.Lexical.Faults.{LexicalFault, IsFaultAt}
use Rattle.java_model.specs.Lexical.Characters.{double_quote, single_quote}
use Rattle.java_model.specs.Lexical.Elements.{begins_comment}
use Rattle.java_model.specs.Lexical.Faults.{is_line_over}
use Rattle.java_model.proofs.Lexical.Reading.{Found, begins, inside_length, one_length, next_of}
use Rattle.java_model.proofs.Lexical.Reading.Found.{found, nothing}
use Rattle.java_model.proofs.Lexical.Faulting.{fault_of, string_fault, literal_fault}
use Rattle.java_model.proofs.Lexical.FaultSound.{fault_stands}
use Rattle.java_model.proofs.Lexical.NextLaws.{NextPart, next_part, front_some}
use Rattle.java_scan.specs.Place.{Place, first, advance}
use Rattle.java_scan.specs.declared.fault.ScanFault.{ScanFault}
use Rattle.java_scan.specs.declared.fault.ScanFault.TheVariants.{BadEscape, BadChar, Unclosed, NoMemory}
use Rattle.java_scan.specs.Steps.{Gives}
use Rattle.java_scan.specs.Steps.Step.{passed, taken, failed}
use Rattle.java_scan.specs.Next.{step_of}
use Rattle.java_model.specs.Lexical.Faults.LexicalFault.{bad_escape, bad_char, unclosed}
use Rattle.java_scan.specs.Elements.{Passes, Stops, Adds, EndsWith, AllScanned, Scans}
use Rattle.java_scan.proofs.PlaceLaws.{first_split, first_none, advance-left, advance-at}
use Rattle.java_scan.proofs.QuotedSteps.{raw_characters, raw_take}

-- a walk over elements goes on

with_append : (e : Element) (at : ℕ) (front : List Input) (ts us : List Token) → with_element e at front ts ++ us ≡ with_element e at front (ts ++ us)
with_append white_space at front ts us = refl
with_append traditional_comment at front ts us = refl
with_append end_of_line_comment at front ts us = refl
with_append (token kind) at front ts us = refl

pub elements_append : {level : Level} {at mid end : ℕ} {inputs between rest : List Input} {ts us : List Token} → AreElements level at inputs ts mid between → AreElements level mid between us end rest → AreElements level at inputs (ts ++ us) end rest
elements_append none walk = walk
elements_append {level} {end = end} {rest = rest} {us = us} (next {at = at} {inputs = inputs} {tokens = ts} e front after is before) walk =
    subst (λ x. AreElements level at inputs x end rest) (sym (with_append e at front ts us)) (next e front after is (elements_append before walk))

raw_drop : (n : ℕ) (cs : List ℕ) → drop n (map raw cs) ≡ map raw (drop n cs)
raw_drop zero cs = refl
raw_drop (suc n) [] = refl
raw_drop (suc n) (c ∷ cs) = raw_drop n cs

-- the element that is read at a place
pub record Here (level : Level) (p : Place) (e : Element) (n : ℕ) : Type 0 where
  pub is : IsNext level (map raw p.left) e (map raw (take n p.left)) (map raw (drop n p.left))
  pub shorter : length (drop n p.left) < length p.left

length_raw : (cs : List ℕ) → length (map raw cs) ≡ length cs
length_raw [] = refl
length_raw (c ∷ cs) = omega (arith, length_raw cs)

here_by : (level : Level) (p : Place) (e : Element) (n : ℕ) → (part : NextPart level (map raw p.left) e n) → Here level p e n
here_by level p e n part =
    let t : part.front ≡ map raw (take n p.left) = sym (take_at part.front part.after n part.counted) ∙ (ap (take n) (sym part.is.parted) ∙ raw_take n p.left) in
    let d : part.after ≡ map raw (drop n p.left) = sym (drop_at part.front part.after n part.counted) ∙ (ap (drop n) (sym part.is.parted) ∙ raw_drop n p.left) in
    let is = subst (λ x. IsNext level (map raw p.left) e (map raw (take n p.left)) x) d (subst (λ x. IsNext level (map raw p.left) e x part.after) t part.is) in
    record {
      is = is;
      shorter = omega (arith, ap length is.parted, length-append (map raw (take n p.left)) (map raw (drop n p.left)), front_some level (map raw p.left) e (map raw (take n p.left)) (map raw (drop n p.left)) is, length_raw (drop n p.left), length_raw p.left);
    }

pub here : (level : Level) (p : Place) (e : Element) (n : ℕ) → next_of level p.left ≡ found e n → Here level p e n
here level p e n h = here_by level p e n (next_part level (map raw p.left) e n (ap (next_of level) (raw_characters p.left) ∙ h))

-- one element more
pub elements_more : (level : Level) (start p q : Place) (before after : List Token) → AreElements level start.at (map raw start.left) before p.at (map raw p.left) → Passes level p before q after → AreElements level start.at (map raw start.left) after q.at (map raw q.left)
elements_more level start p q before after walk s =
    let h = here level p s.element s.count s.here in
    let at : p.at + width_of (map raw (take s.count p.left)) ≡ q.at = sym (advance-at s.count p) ∙ ap (λ r. r.at) (sym s.end) in
    let left : map raw (drop s.count p.left) ≡ map raw q.left = ap (map raw) (sym (advance-left s.count p) ∙ ap (λ r. r.left) (sym s.end)) in
    let one : AreElements level p.at (map raw p.left) (with_element s.element p.at (map raw (take s.count p.left)) []) (p.at + width_of (map raw (take s.count p.left))) (map raw (drop s.count p.left)) = next s.element (map raw (take s.count p.left)) (map raw (drop s.count p.left)) h.is none in
    subst (λ x. AreElements level start.at (map raw start.left) x q.at (map raw q.left)) (sym s.kept)
    (subst (λ x. AreElements level start.at (map raw start.left) (before ++ with_element s.element p.at (map raw (take s.count p.left)) []) q.at x) left
    (subst (λ x. AreElements level start.at (map raw start.left) (before ++ with_element s.element p.at (map raw (take s.count p.left)) []) x (map raw (drop s.count p.left))) at
    (elements_append walk one)))

pub passes_shorter : (level : Level) (p q : Place) (before after : List Token) → Passes level p before q after → length q.left < length p.left
passes_shorter level p q before after s = omega (arith, (here level p s.element s.count s.here).shorter, ap length (advance-left s.count p), ap (λ r. length r.left) s.end)

-- and a fault
pub fault_ends : (level : Level) (start p : Place) (before : List Token) (c : ℕ) (fault : LexicalFault) → first p.left ≡ Some c → AreElements level start.at (map raw start.left) before p.at (map raw p.left) → Stops level p fault → EndsWith level start.at (map raw start.left) fault
fault_ends level start p before c fault f walk s =
    let cs = drop 1 p.left in
    let e : p.left ≡ c ∷ cs = first_split p.left c f in
    let over : next_of level (characters_of (raw c ∷ map raw cs)) ≡ nothing = ap (next_of level) (raw_characters (c ∷ cs) ∙ sym e) ∙ s.over in
    record {
      tokens = before;
      place = p.at;
      rest = map raw p.left;
      elements = walk;
      stands = subst (λ x. IsFaultAt level p.at (map raw p.left) x) (sym s.is) (subst (λ xs. IsFaultAt level p.at (map raw xs) (fault_of p.at (map raw xs))) (sym e) (fault_stands level p.at (raw c) (map raw cs) over));
    }

-- the answer at one place

pub taken_passes : (level : Level) (p q : Place) (kind : TokenKind) (f : Found) → step_of p f ≡ taken kind q → (n : ℕ) × (f ≡ found (token kind) n) × (q ≡ advance n p)
taken_passes level p q kind nothing e = cc
taken_passes level p q kind (found white_space n) e = cc
taken_passes level p q kind (found traditional_comment n) e = cc
taken_passes level p q kind (found end_of_line_comment n) e = cc
taken_passes level p q kind (found (token k) n) e = let same : k ≡ kind = cc in (n, ap (λ x. found (token x) n) same, cc)

pub passed_passes : (level : Level) (p q : Place) (before : List Token) (f : Found) → next_of level p.left ≡ f → step_of p f ≡ passed q → Passes level p before q before
passed_passes level p q before nothing h e = cc
passed_passes level p q before (found white_space n) h e = record { element = white_space; count = n; here = h; end = cc; kept = sym (append-nil before) }
passed_passes level p q before (found traditional_comment n) h e = record { element = traditional_comment; count = n; here = h; end = cc; kept = sym (append-nil before) }
passed_passes level p q before (found end_of_line_comment n) h e = record { element = end_of_line_comment; count = n; here = h; end = cc; kept = sym (append-nil before) }
passed_passes level p q before (found (token k) n) h e = cc

pub failed_stops : (level : Level) (p : Place) (fault : LexicalFault) (f : Found) → next_of level p.left ≡ f → step_of p f ≡ failed fault → Stops level p fault
failed_stops level p fault nothing h e = record { over = h; is = cc }
failed_stops level p fault (found white_space n) h e = cc
failed_stops level p fault (found traditional_comment n) h e = cc
failed_stops level p fault (found end_of_line_comment n) h e = cc
failed_stops level p fault (found (token k) n) h e = cc

-- answers

no_bad_escape : (level : Level) (p : Place) (at : ℕ) (f : Found) → step_of p f ≡ failed (bad_escape at) → ⊥
no_bad_escape level p at nothing e = never p.at (map raw p.left) at (cc)
  where
    never : (at : ℕ) (inputs : List Input) (place : ℕ) → fault_of at inputs ≡ bad_escape place → ⊥
    never at [] place e = cc
    never at (input ∷ inputs) place e = apart (begins_comment (input.character ∷ characters_of inputs)) (input.character == double_quote) (input.character == single_quote) e
      where
        apart : (a b c : Bool) → cond a (unclosed at) (cond b (string_fault at input inputs) (cond c (literal_fault at input.width (characters_of inputs)) (bad_char at))) ≡ bad_escape place → ⊥
        apart true b c e = cc
        apart false true c e = of_string (is_line_over (drop (inside_length false (characters_of inputs)) (characters_of inputs))) e
          where
            of_string : (d : Bool) → cond d (unclosed at) (bad_char (at + width_of (take (suc (inside_length false (characters_of inputs))) (input ∷ inputs)))) ≡ bad_escape place → ⊥
            of_string true e = cc
            of_string false e = cc
        apart false false true e = of_literal (is_line_over (characters_of inputs)) (begins (λ x. x == single_quote) (characters_of inputs)) (nat_lt 0 (one_length (characters_of inputs))) e
          where
            of_literal : (d f g : Bool) → cond d (unclosed at) (cond f (bad_char at) (cond g (unclosed at) (bad_char (at + input.width)))) ≡ bad_escape place → ⊥
            of_literal true f g e = cc
            of_literal false true g e = cc
            of_literal false false true e = cc
            of_literal false false false e = cc
        apart false false false e = cc
no_bad_escape level p at (found white_space n) e = cc
no_bad_escape level p at (found traditional_comment n) e = cc
no_bad_escape level p at (found end_of_line_comment n) e = cc
no_bad_escape level p at (found (token k) n) e = cc

pub adds_failed : (level : Level) (p : Place) (before after : List Token) (fault : ScanFault) (q r : Place) → Gives (Err fault) q (step_of p (next_of level p.left)) → Adds level p before (Err fault) r after
adds_failed level p before after (BadEscape at) q r g = no_bad_escape level p at (next_of level p.left) g
adds_failed level p before after (BadChar at) q r g = failed_stops level p (bad_char at) (next_of level p.left) refl g
adds_failed level p before after (Unclosed at) q r g = failed_stops level p (unclosed at) (next_of level p.left) refl g
adds_failed level p before after NoMemory q r g = tt

pub scans_failed : (level : Level) (start p q r : Place) (c : ℕ) (before after : List Token) (fault : ScanFault) → first p.left ≡ Some c → AreElements level start.at (map raw start.left) before p.at (map raw p.left) → Adds level p before (Err fault) q after → Scans level start (Err fault) r
scans_failed level start p q r c before after (BadEscape at) f walk a = a
scans_failed level start p q r c before after (BadChar at) f walk a = fault_ends level start p before c (bad_char at) f walk a
scans_failed level start p q r c before after (Unclosed at) f walk a = fault_ends level start p before c (unclosed at) f walk a
scans_failed level start p q r c before after NoMemory f walk a = tt

pub all_scanned : (level : Level) (start p : Place) (tokens : List Token) → first p.left ≡ None → AreElements level start.at (map raw start.left) tokens p.at (map raw p.left) → AllScanned level start tokens p
all_scanned level start p tokens f walk = subst (λ xs. AreElements level start.at (map raw start.left) tokens p.at (map raw xs)) (first_none p.left f) walk
