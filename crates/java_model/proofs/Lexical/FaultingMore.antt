-- The faults of character literals and of stray characters, and of all.
use Rattle.std.proofs.Common.{◌≡◌, ℕ, zero, suc, ◌+◌, Bool, true, false, cond, ◌&&◌, ◌==◌, List, [], ◌∷◌, ◌++◌, drop, codes, refl, sym, ap, ◌∙◌, subst, arith, true≢false, nat_lt, lt-ltb, eqb-true}
use Rattle.std.proofs.lemmas.Bool.{and_parts, or_right, false_from_ne_true}
use Rattle.std.proofs.lemmas.Bool.Decides.{nat_tests}
use Rattle.java_tree.specs.declared.outline.Level.{Level}
use Rattle.java_tree.specs.declared.token.TokenKind.TheVariants.{Symbol, StringLit, CharLit}
use Rattle.java_model.specs.Lexical.Characters.{backslash, double_quote, single_quote, slash, star, is_line_end, is_one_of, is_octal_digit, is_zero_to_three}
use Rattle.java_model.specs.Lexical.Escapes.{Input, HasNoFront, characters_of}
use Rattle.java_model.specs.Lexical.Quoted.{is_escape_sequence, is_quoted_character, IsCharLiteral}
use Rattle.java_model.specs.Lexical.Quoted.AreStringCharacters.{none}
use Rattle.java_model.specs.Lexical.Elements.{Element, IsElement, begins_comment}
use Rattle.java_model.specs.Lexical.Elements.Element.{token}
use Rattle.java_model.specs.Lexical.Faults.{LexicalFault, is_line_over, IsBadBackslash, IsFaultAt}
use Rattle.java_model.specs.Lexical.Faults.LexicalFault.{bad_char, unclosed}
use Rattle.java_model.specs.Lexical.Faults.IsFaultAt.{open_comment, open_string, string_escape, open_literal, empty_literal, literal_escape, long_literal, stray}
use Rattle.java_model.proofs.Lexical.Reading.{Found, begins, is_escaped, is_bare, escape_length, one_length, character, next_in, next_of}
use Rattle.java_model.proofs.Lexical.Reading.Found.{found, nothing}
use Rattle.java_model.proofs.Lexical.Families.{family_character}
use Rattle.java_model.proofs.Lexical.LongestQuoted.{Quoted, quoted_forms}
use Rattle.java_model.proofs.Lexical.LongestQuoted.Quoted.{bare, simple, octal_two, octal_three}
use Rattle.java_model.proofs.Lexical.Next.{empty_element}
use Rattle.java_model.proofs.Lexical.Sound.{Sound}
use Rattle.java_model.proofs.Lexical.SoundQuoted.{Stops, IsOne, one_part, character_sound}
use Rattle.java_model.proofs.Lexical.SoundOthers.{slash_symbol}
use Rattle.java_model.proofs.Lexical.NextLaws.{next_sound}
use Rattle.java_model.proofs.Lexical.Faulting.{literal_fault, fault_of, Faulted, no_escape, over_at, comment_faulted, open_string_faulted, string_escape_faulted}

-- character literals

at_apostrophe : (at : ℕ) (input : Input) (inputs : List Input) → input.character ≡ single_quote → fault_of at (input ∷ inputs) ≡ literal_fault at input.width (characters_of inputs)
at_apostrophe at input inputs e = rw (begins_apart input.character (characters_of inputs) e, other_quote input.character e, is_quote input.character e) refl
  where
    begins_apart : (c : ℕ) (cs : List ℕ) → c ≡ single_quote → begins_comment (c ∷ cs) ≡ false
    begins_apart c [] h = refl
    begins_apart c (d ∷ cs) h = rw h refl

    other_quote : (c : ℕ) → c ≡ single_quote → c == double_quote ≡ false
    other_quote c h = rw h refl

    is_quote : (c : ℕ) → c ≡ single_quote → c == single_quote ≡ true
    is_quote c h = rw h refl

-- without a character at the front no literal is read
none_read : (level : Level) (cs : List ℕ) → one_length cs ≡ 0 → next_of level (single_quote ∷ cs) ≡ nothing
none_read level cs h = ap (λ f. next_in level f single_quote cs) family_character ∙ rw h refl

line_stop : (c : ℕ) → is_line_end c ≡ true → (c == backslash ≡ false) × (is_bare single_quote c ≡ false)
line_stop c h = grind (arith, nat_tests)

line_over_none : (cs : List ℕ) → is_line_over cs ≡ true → one_length cs ≡ 0
line_over_none [] h = refl
line_over_none (c ∷ cs) h = let l = line_stop c h in rw (l.1, l.0) refl

unescaped : (c : ℕ) → is_escaped c ≡ false → is_octal_digit c ≡ false
unescaped c h = false_from_ne_true (is_octal_digit c) (λ o. true≢false (sym (or_right (is_one_of (codes "btnfr\"'\\") c) (is_octal_digit c) o) ∙ h))

bad_escape_none : (after : List ℕ) → begins is_escaped after ≡ false → escape_length after ≡ 0
bad_escape_none [] h = refl
bad_escape_none (c ∷ after) h = rw (h, unescaped c h) refl

bad_none : (after : List ℕ) → begins is_escaped after ≡ false → one_length (backslash ∷ after) ≡ 0
bad_none after h = rw (bad_escape_none after h) refl

open_literal_faulted : (level : Level) (at : ℕ) (inputs : List Input) (after : List ℕ) → characters_of inputs ≡ single_quote ∷ after → is_line_over after ≡ true → Faulted level at inputs (unclosed at)
open_literal_faulted level at [] after same over = absurd (cc)
open_literal_faulted level at (input ∷ inputs) after same over =
    let first : input.character ≡ single_quote = cc in
    let others : characters_of inputs ≡ after = cc in
    record {
      over = over_at level input.character single_quote (characters_of inputs) after first others (none_read level after (line_over_none after over));
      is = sym (at_apostrophe at input inputs first ∙ (ap (literal_fault at input.width) others ∙ rw over refl));
      some = omega arith;
    }

empty_literal_faulted : (level : Level) (at : ℕ) (inputs : List Input) (after : List ℕ) → characters_of inputs ≡ single_quote ∷ single_quote ∷ after → Faulted level at inputs (bad_char at)
empty_literal_faulted level at [] after same = absurd (cc)
empty_literal_faulted level at (input ∷ inputs) after same =
    let first : input.character ≡ single_quote = cc in
    let others : characters_of inputs ≡ single_quote ∷ after = cc in
    record {
      over = over_at level input.character single_quote (characters_of inputs) (single_quote ∷ after) first others (none_read level (single_quote ∷ after) refl);
      is = sym (at_apostrophe at input inputs first ∙ ap (literal_fault at input.width) others);
      some = omega arith;
    }

literal_bad : (at width : ℕ) (after : List ℕ) → one_length (backslash ∷ after) ≡ 0 → literal_fault at width (backslash ∷ after) ≡ bad_char (at + width)
literal_bad at width after h = ap (λ n. cond (nat_lt 0 n) (unclosed at) (bad_char (at + width))) h

literal_escape_faulted : (level : Level) (at : ℕ) (inputs : List Input) (quote : Input) (rest : List Input) → inputs ≡ quote ∷ rest → quote.character ≡ single_quote → IsBadBackslash (characters_of rest) → Faulted level at inputs (bad_char (at + quote.width))
literal_escape_faulted level at inputs quote rest e q (after, b, bad) =
    let stop = no_escape after (subst (HasNoFront (λ front. is_escape_sequence front ≡ true)) b bad) in
    let f : Faulted level at (quote ∷ rest) (bad_char (at + quote.width)) = record {
      over = over_at level quote.character single_quote (characters_of rest) (backslash ∷ after) q b (none_read level (backslash ∷ after) (bad_none after stop));
      is = sym (at_apostrophe at quote rest q ∙ (ap (literal_fault at quote.width) b ∙ literal_bad at quote.width after (bad_none after stop)));
      some = omega arith;
    } in
    subst (λ x. Faulted level at x (bad_char (at + quote.width))) (sym e) f

-- a literal whose quote doesn't follow its one character

-- what such a character begins with
record OneBegins (cs : List ℕ) : Type 0 where
  goes_on : is_line_over cs ≡ false
  unquoted : begins (λ x. x == single_quote) cs ≡ false

bare_begins : (c : ℕ) → is_bare single_quote c ≡ true → (is_line_end c ≡ false) × (c == single_quote ≡ false)
bare_begins c h = grind (arith, nat_tests)

one_begins : {s : List ℕ} (after : List ℕ) → Quoted single_quote s → OneBegins (s ++ after)
one_begins after (bare c h) = let b = bare_begins c h in record { goes_on = b.0; unquoted = b.1 }
one_begins after (simple c h) = record { goes_on = refl; unquoted = refl }
one_begins after (octal_two c d hc hd) = record { goes_on = refl; unquoted = refl }
one_begins after (octal_three c d e hc hd he) = record { goes_on = refl; unquoted = refl }

three_escaped : (c : ℕ) → is_octal_digit c ≡ true → is_escaped c ≡ true
three_escaped c h = or_right (is_one_of (codes "btnfr\"'\\") c) (is_octal_digit c) h

zero_to_three : (c : ℕ) → is_zero_to_three c ≡ true → is_octal_digit c ≡ true
zero_to_three c h = grind (arith, nat_tests)

not_stopped : {s : List ℕ} (after : List ℕ) → Quoted single_quote s → Stops single_quote (s ++ after) → ⊥
not_stopped after (bare c h) stop = true≢false (sym h ∙ stop.0)
not_stopped after (simple c h) stop = true≢false (sym h ∙ stop.1 refl)
not_stopped after (octal_two c d hc hd) stop = true≢false (sym (three_escaped c hc) ∙ stop.1 refl)
not_stopped after (octal_three c d e hc hd he) stop = true≢false (sym (three_escaped c (zero_to_three c hc)) ∙ stop.1 refl)

one_positive : (cs : List ℕ) (n : ℕ) → (Stops single_quote cs → ⊥) → IsOne cs n → nat_lt 0 n ≡ true
one_positive cs zero h stop = absurd (h stop)
one_positive cs (suc n) h part = lt-ltb 0 (suc n) (omega arith)

found_literal : (level : Level) (cs : List ℕ) (b : Bool) (n : ℕ) → HasNoFront IsCharLiteral (single_quote ∷ cs) → Sound level (single_quote ∷ cs) (cond b (found (token CharLit) n) nothing) → cond b (found (token CharLit) n) nothing ≡ nothing
found_literal level cs false n h s = refl
found_literal level cs true n h s = absurd (h s.front s.rest s.parted s.here)

no_literal : (level : Level) (cs : List ℕ) → HasNoFront IsCharLiteral (single_quote ∷ cs) → character cs ≡ nothing
no_literal level cs h =
    let n : ℕ = one_length cs in
    found_literal level cs (nat_lt 0 (one_length cs) && begins (λ x. x == single_quote) (drop (one_length cs) cs)) (suc (suc (one_length cs))) h (character_sound level cs)

literal_long : (at width : ℕ) (cs : List ℕ) → OneBegins cs → nat_lt 0 (one_length cs) ≡ true → literal_fault at width cs ≡ unclosed at
literal_long at width cs b h = rw (b.goes_on, b.unquoted, h) refl

long_faulted : (level : Level) (at : ℕ) (inputs : List Input) (inside after : List ℕ) → characters_of inputs ≡ single_quote ∷ (inside ++ after) → is_quoted_character single_quote inside ≡ true → HasNoFront IsCharLiteral (characters_of inputs) → Faulted level at inputs (unclosed at)
long_faulted level at [] inside after same h open_quote = absurd (cc)
long_faulted level at (input ∷ inputs) inside after same h open_quote =
    let first : input.character ≡ single_quote = cc in
    let others : characters_of inputs ≡ inside ++ after = cc in
    let forms = quoted_forms single_quote inside h in
    let n = one_positive (inside ++ after) (one_length (inside ++ after)) (not_stopped after forms) (one_part (inside ++ after)) in
    let over : next_of level (single_quote ∷ (inside ++ after)) ≡ nothing = ap (λ f. next_in level f single_quote (inside ++ after)) family_character ∙ no_literal level (inside ++ after) (subst (HasNoFront IsCharLiteral) same open_quote) in
    record {
      over = over_at level input.character single_quote (characters_of inputs) (inside ++ after) first others over;
      is = sym (at_apostrophe at input inputs first ∙ (ap (literal_fault at input.width) others ∙ literal_long at input.width (inside ++ after) (one_begins after forms) n));
      some = omega arith;
    }

-- a stray character

abbrev BeginsNone : Level → ℕ → Type 0
BeginsNone level c = (element : Element) (more : List ℕ) → IsElement level element (c ∷ more) → ⊥

stray_found : (level : Level) (c : ℕ) (after : List ℕ) (f : Found) → BeginsNone level c → Sound level (c ∷ after) f → f ≡ nothing
stray_found level c after nothing h s = refl
stray_found level c after (found e n) h s = absurd (stray_front s.front s.parted s.here)
  where
    stray_front : (front : List ℕ) → c ∷ after ≡ front ++ s.rest → IsElement level e front → ⊥
    stray_front [] p is = empty_element level e is
    stray_front (d ∷ front) p is = let same : c ≡ d = cc in h e front (subst (λ x. IsElement level e (x ∷ front)) (sym same) is)

stray_slash : (level : Level) (c : ℕ) (cs : List ℕ) → BeginsNone level c → begins_comment (c ∷ cs) ≡ false
stray_slash level c [] h = refl
stray_slash level c (d ∷ cs) h = false_from_ne_true (c == slash && d == star) (λ b.
    let e : c ≡ slash = eqb-true c slash (and_parts (c == slash) (d == star) b).0 in
    h (token Symbol) [] (subst (λ x. IsElement level (token Symbol) (x ∷ [])) (sym e) slash_symbol))

stray_double : (level : Level) (c : ℕ) → BeginsNone level c → c == double_quote ≡ false
stray_double level c h = false_from_ne_true (c == double_quote) (λ b.
    h (token StringLit) (double_quote ∷ []) (record { inside = []; spelled = ap (λ x. x ∷ double_quote ∷ []) (eqb-true c double_quote b); valid = none }))

stray_single : (level : Level) (c : ℕ) → BeginsNone level c → c == single_quote ≡ false
stray_single level c h = false_from_ne_true (c == single_quote) (λ b.
    h (token CharLit) (97 ∷ single_quote ∷ []) (record { inside = 97 ∷ []; spelled = ap (λ x. x ∷ 97 ∷ single_quote ∷ []) (eqb-true c single_quote b); one = refl }))

stray_faulted : (level : Level) (at : ℕ) (inputs : List Input) (c : ℕ) (after : List ℕ) → characters_of inputs ≡ c ∷ after → BeginsNone level c → Faulted level at inputs (bad_char at)
stray_faulted level at [] c after same h = absurd (cc)
stray_faulted level at (input ∷ inputs) c after same h =
    let first : input.character ≡ c = cc in
    let g : BeginsNone level input.character = subst (BeginsNone level) (sym first) h in
    record {
      over = stray_found level input.character (characters_of inputs) (next_of level (input.character ∷ characters_of inputs)) g (next_sound level (input.character ∷ characters_of inputs));
      is = sym (rw (stray_slash level input.character (characters_of inputs) g, stray_double level input.character g, stray_single level input.character g) refl);
      some = omega arith;
    }

-- all faults

pub faulted : (level : Level) (at : ℕ) (inputs : List Input) (fault : LexicalFault) → IsFaultAt level at inputs fault → Faulted level at inputs fault
faulted level at inputs _ (open_comment b h) = comment_faulted level at inputs b h
faulted level at inputs _ (open_string inside after same valid over) = open_string_faulted level at inputs inside after same valid over
faulted level at inputs _ (string_escape front rest inside e c valid bad) = string_escape_faulted level at inputs front rest inside e c valid bad
faulted level at inputs _ (open_literal after same over) = open_literal_faulted level at inputs after same over
faulted level at inputs _ (empty_literal after same) = empty_literal_faulted level at inputs after same
faulted level at inputs _ (literal_escape quote rest e q bad) = literal_escape_faulted level at inputs quote rest e q bad
faulted level at inputs _ (long_literal inside after same h unquoted) = long_faulted level at inputs inside after same h unquoted
faulted level at inputs _ (stray c after same h) = stray_faulted level at inputs c after same h
