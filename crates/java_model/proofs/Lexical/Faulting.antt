-- The fault of characters at which no element is next: a function, and what the relation gives is its value.
use Rattle.std.proofs.Common.{◌≡◌, ℕ, zero, suc, ◌+◌, ◌<◌, true, false, cond, ◌==◌, List, [], ◌∷◌, ◌++◌, length, take, drop, refl, sym, ap, ap₂, ◌∙◌, subst, arith, true≢false, nat_lt, eqb-true}
use Rattle.std.proofs.lemmas.Bool.{and_parts, false_from_ne_true}
use Rattle.std.proofs.lemmas.Bool.Decides.{nat_tests}
use Rattle.std.proofs.lemmas.List.{drop_at, take_at}
use Rattle.java_tree.specs.declared.outline.Level.{Level}
use Rattle.java_model.specs.Lexical.Characters.{backslash, double_quote, single_quote, slash, star, is_line_end}
use Rattle.java_model.specs.Lexical.Escapes.{Input, HasNoFront, characters_of, width_of}
use Rattle.java_model.specs.Lexical.Comments.{IsTraditionalComment}
use Rattle.java_model.specs.Lexical.Quoted.{is_escape_sequence, AreStringCharacters}
use Rattle.java_model.specs.Lexical.Elements.{begins_comment}
use Rattle.java_model.specs.Lexical.Faults.{LexicalFault, is_line_over, IsBadBackslash}
use Rattle.java_model.specs.Lexical.Faults.LexicalFault.{bad_char, unclosed}
use Rattle.java_model.proofs.Lexical.Reading.{begins, is_escaped, is_bare, inside_length, one_length, tail_length, comment_of, next_in, next_of}
use Rattle.java_model.proofs.Lexical.Reading.Found.{nothing}
use Rattle.java_model.proofs.Lexical.Families.{family_slash, family_string}
use Rattle.java_model.proofs.Lexical.LongestComments.{slashed_star}
use Rattle.java_model.proofs.Lexical.LongestQuoted.{characters_inside}
use Rattle.java_model.proofs.Lexical.SoundOthers.{IsTail, tail_part}
use Rattle.java_model.proofs.Lexical.NextLaws.{characters_append, length_characters}

abbrev pub string_fault : ℕ → Input → List Input → LexicalFault
string_fault at quote inputs =
    let n = inside_length false (characters_of inputs) in
    cond (is_line_over (drop n (characters_of inputs))) (unclosed at) (bad_char (at + width_of (take (suc n) (quote ∷ inputs))))

abbrev pub literal_fault : ℕ → ℕ → List ℕ → LexicalFault
literal_fault at width cs =
    cond (is_line_over cs) (unclosed at) (cond (begins (λ x. x == single_quote) cs) (bad_char at) (cond (nat_lt 0 (one_length cs)) (unclosed at) (bad_char (at + width))))

-- the fault that begins at this byte, where no element is next
abbrev pub fault_of : ℕ → List Input → LexicalFault
fault_of at [] = unclosed at
fault_of at (input ∷ inputs) =
    cond (begins_comment (input.character ∷ characters_of inputs)) (unclosed at) (cond (input.character == double_quote) (string_fault at input inputs) (cond (input.character == single_quote) (literal_fault at input.width (characters_of inputs)) (bad_char at)))

-- a fault, and that no element is next
pub record Faulted (level : Level) (at : ℕ) (inputs : List Input) (fault : LexicalFault) : Type 0 where
  pub over : next_of level (characters_of inputs) ≡ nothing
  pub is : fault ≡ fault_of at inputs
  pub some : 0 < length inputs

-- `/*` without its end

no_comment : (cs : List ℕ) (n : ℕ) → IsTail false cs n → HasNoFront IsTraditionalComment (slash ∷ star ∷ cs) → comment_of n ≡ nothing
no_comment cs zero t h = refl
no_comment cs (suc n) t h = absurd (h (slash ∷ star ∷ t.front) t.rest (ap (λ x. slash ∷ star ∷ x) t.same) (t.front, refl, t.valid))

comment_over : (level : Level) (cs : List ℕ) → HasNoFront IsTraditionalComment (slash ∷ star ∷ cs) → next_of level (slash ∷ star ∷ cs) ≡ nothing
comment_over level cs h = ap (λ f. next_in level f slash (star ∷ cs)) family_slash ∙ (slashed_star cs ∙ no_comment cs (tail_length false cs) (tail_part false cs) h)

comment_spelled : (level : Level) (c d : ℕ) (cs : List ℕ) → c ≡ slash → d ≡ star → HasNoFront IsTraditionalComment (c ∷ d ∷ cs) → next_of level (c ∷ d ∷ cs) ≡ nothing
comment_spelled level c d cs hc hd h =
    subst (λ x. next_of level (x ∷ d ∷ cs) ≡ nothing) (sym hc)
    (subst (λ y. next_of level (slash ∷ y ∷ cs) ≡ nothing) (sym hd)
    (comment_over level cs (subst (λ y. HasNoFront IsTraditionalComment (slash ∷ y ∷ cs)) hd (subst (λ x. HasNoFront IsTraditionalComment (x ∷ d ∷ cs)) hc h))))

pub comment_faulted : (level : Level) (at : ℕ) (inputs : List Input) → begins_comment (characters_of inputs) ≡ true → HasNoFront IsTraditionalComment (characters_of inputs) → Faulted level at inputs (unclosed at)
comment_faulted level at [] b h = absurd (true≢false (sym b))
comment_faulted level at (c ∷ []) b h = absurd (true≢false (sym b))
comment_faulted level at (c ∷ d ∷ inputs) b h =
    let parts = and_parts (c.character == slash) (d.character == star) b in
    record {
      over = comment_spelled level c.character d.character (characters_of inputs) (eqb-true c.character slash parts.0) (eqb-true d.character star parts.1) h;
      is = rw b refl;
      some = omega arith;
    }

-- strings

-- what is left at the end of the characters of a string
record StringEnd (after : List ℕ) : Type 0 where
  stops : inside_length false after ≡ 0
  unquoted : begins (λ x. x == double_quote) after ≡ false

line_end : (c : ℕ) → is_line_end c ≡ true → (c == backslash ≡ false) × (is_bare double_quote c ≡ false) × (c == double_quote ≡ false)
line_end c h = grind (arith, nat_tests)

line_over_end : (after : List ℕ) → is_line_over after ≡ true → StringEnd after
unfolding inside_length
line_over_end [] h = record { stops = refl; unquoted = refl }
line_over_end (c ∷ after) h =
    let l = line_end c h in
    record { stops = rw (l.0, inside_length) (rw (l.1, inside_length) refl); unquoted = l.2 }

pub no_escape : (after : List ℕ) → HasNoFront (λ front. is_escape_sequence front ≡ true) (backslash ∷ after) → begins is_escaped after ≡ false
no_escape [] h = refl
no_escape (c ∷ after) h = false_from_ne_true (is_escaped c) (λ e. h (backslash ∷ c ∷ []) after refl e)

bad_end : (after : List ℕ) → begins is_escaped after ≡ false → StringEnd (backslash ∷ after)
unfolding inside_length
bad_end [] h = record { stops = refl; unquoted = refl }
bad_end (c ∷ after) h = record { stops = rw (h, inside_length) refl; unquoted = refl }

string_counted : (inside after : List ℕ) → AreStringCharacters inside → StringEnd after → inside_length false (inside ++ after) ≡ length inside
string_counted inside after valid e = characters_inside after valid ∙ omega (arith, e.stops)

string_over : (level : Level) (inside after : List ℕ) → AreStringCharacters inside → StringEnd after → next_of level (double_quote ∷ (inside ++ after)) ≡ nothing
string_over level inside after valid e =
    let n = string_counted inside after valid e in
    let d : drop (length inside) (inside ++ after) ≡ after = drop_at inside after (length inside) refl in
    ap (λ f. next_in level f double_quote (inside ++ after)) family_string ∙ rw (n, d, e.unquoted) refl

-- the fault of a string, by what ends its characters
string_fault_read : (at : ℕ) (quote : Input) (inputs : List Input) (inside after : List ℕ) → characters_of inputs ≡ inside ++ after → AreStringCharacters inside → StringEnd after → string_fault at quote inputs ≡ cond (is_line_over after) (unclosed at) (bad_char (at + width_of (take (suc (length inside)) (quote ∷ inputs))))
string_fault_read at quote inputs inside after same valid e =
    let n : inside_length false (characters_of inputs) ≡ length inside = ap (inside_length false) same ∙ string_counted inside after valid e in
    let d : drop (length inside) (characters_of inputs) ≡ after = ap (drop (length inside)) same ∙ drop_at inside after (length inside) refl in
    rw (n, d) refl

at_quote : (at : ℕ) (input : Input) (inputs : List Input) → input.character ≡ double_quote → fault_of at (input ∷ inputs) ≡ string_fault at input inputs
at_quote at input inputs e = rw (begins_apart input.character (characters_of inputs) e, is_quote input.character e) refl
  where
    begins_apart : (c : ℕ) (cs : List ℕ) → c ≡ double_quote → begins_comment (c ∷ cs) ≡ false
    begins_apart c [] h = refl
    begins_apart c (d ∷ cs) h = rw h refl

    is_quote : (c : ℕ) → c ≡ double_quote → c == double_quote ≡ true
    is_quote c h = rw h refl

pub over_at : (level : Level) (c d : ℕ) (cs ds : List ℕ) → c ≡ d → cs ≡ ds → next_of level (d ∷ ds) ≡ nothing → next_of level (c ∷ cs) ≡ nothing
over_at level c d cs ds e f h = ap₂ (λ x y. next_of level (x ∷ y)) e f ∙ h

pub open_string_faulted : (level : Level) (at : ℕ) (inputs : List Input) (inside after : List ℕ) → characters_of inputs ≡ double_quote ∷ (inside ++ after) → AreStringCharacters inside → is_line_over after ≡ true → Faulted level at inputs (unclosed at)
open_string_faulted level at [] inside after same valid over = absurd (cc)
open_string_faulted level at (input ∷ inputs) inside after same valid over =
    let first : input.character ≡ double_quote = cc in
    let others : characters_of inputs ≡ inside ++ after = cc in
    let e = line_over_end after over in
    record {
      over = over_at level input.character double_quote (characters_of inputs) (inside ++ after) first others (string_over level inside after valid e);
      is = sym (at_quote at input inputs first ∙ (string_fault_read at input inputs inside after others valid e ∙ rw over refl));
      some = omega arith;
    }

-- the inputs of the characters before a fault
front_taken : (inputs front rest : List Input) (inside : List ℕ) → inputs ≡ front ++ rest → characters_of front ≡ double_quote ∷ inside → take (suc (length inside)) inputs ≡ front
front_taken inputs front rest inside e c =
    let l : length front ≡ suc (length inside) = sym (length_characters front) ∙ ap length c in
    ap (take (suc (length inside))) e ∙ take_at front rest (suc (length inside)) l

pub string_escape_faulted : (level : Level) (at : ℕ) (inputs front rest : List Input) (inside : List ℕ) → inputs ≡ front ++ rest → characters_of front ≡ double_quote ∷ inside → AreStringCharacters inside → IsBadBackslash (characters_of rest) → Faulted level at inputs (bad_char (at + width_of front))
string_escape_faulted level at [] front rest inside e c valid bad = absurd (shape front e c)
  where
    shape : (front : List Input) → [] ≡ front ++ rest → characters_of front ≡ double_quote ∷ inside → ⊥
    shape [] e c = cc
    shape (x ∷ front) e c = cc
string_escape_faulted level at (input ∷ inputs) front rest inside e c valid (after, b, bad) =
    let all : input.character ∷ characters_of inputs ≡ double_quote ∷ (inside ++ backslash ∷ after) = ap characters_of e ∙ (characters_append front rest ∙ ap₂ (λ x y. x ++ y) c b) in
    let first : input.character ≡ double_quote = cc in
    let others : characters_of inputs ≡ inside ++ backslash ∷ after = cc in
    let s = bad_end after (no_escape after (subst (HasNoFront (λ front. is_escape_sequence front ≡ true)) b bad)) in
    record {
      over = over_at level input.character double_quote (characters_of inputs) (inside ++ backslash ∷ after) first others (string_over level inside (backslash ∷ after) valid s);
      is = sym (at_quote at input inputs first ∙ (string_fault_read at input inputs inside (backslash ∷ after) others valid s ∙ ap (λ x. bad_char (at + width_of x)) (front_taken (input ∷ inputs) front rest inside e c)));
      some = omega arith;
    }
