-- What is read at a quote is a literal, and where none is read, why.
use Rattle.std.proofs.Common.{◌≡◌, ℕ, zero, suc, Bool, true, false, cond, ◌&&◌, ◌==◌, List, [], ◌∷◌, ◌++◌, length, drop, refl, sym, ap, ◌∙◌, subst, arith, append_assoc, length-append, nat_lt, lt-ltb, eqb-true}
use Rattle.std.proofs.lemmas.Bool.{cond_both, and_parts, and_from, or_left, eqb-false}
use Rattle.std.proofs.lemmas.List.{drop_at}
use Rattle.java_tree.specs.declared.outline.Level.{Level}
use Rattle.java_tree.specs.declared.token.TokenKind.TheVariants.{CharLit, StringLit}
use Rattle.java_model.specs.Lexical.Characters.{backslash, double_quote, single_quote, is_octal_digit, is_zero_to_three}
use Rattle.java_model.specs.Lexical.Quoted.{is_quoted_character, AreStringCharacters}
use Rattle.java_model.specs.Lexical.Quoted.AreStringCharacters.{none, more}
use Rattle.java_model.specs.Lexical.Elements.Element.{token}
use Rattle.java_model.proofs.Lexical.Reading.{begins, is_escaped, is_bare, inside_length, string, escape_length, one_length, character}
use Rattle.java_model.proofs.Lexical.Reading.Found.{found, nothing}
use Rattle.java_model.proofs.Lexical.Sound.{Front, Sound, First, first_of_begins}

-- what ends the characters between such quotes: the end, or what is none of them
abbrev pub Stops : ℕ → List ℕ → Type 0
Stops quote [] = Unit {0}
Stops quote (c ∷ cs) = (is_bare quote c ≡ false) × (c ≡ backslash → begins is_escaped cs ≡ false)

-- the characters of a string at the front
pub record InsidePart (cs : List ℕ) (n : ℕ) : Type 0 where
  pub front : List ℕ
  pub rest : List ℕ
  pub same : cs ≡ front ++ rest
  pub valid : AreStringCharacters front
  pub counted : length front ≡ n
  pub stop : Stops double_quote rest

abbrev InsidePartOf : Bool → List ℕ → Type 0
InsidePartOf false cs = InsidePart cs (inside_length false cs)
InsidePartOf true cs = InsidePart (backslash ∷ cs) (inside_length true cs)

stopped : (cs : List ℕ) → Stops double_quote cs → InsidePart cs 0
stopped cs h = record { front = []; rest = cs; same = refl; valid = none; counted = refl; stop = h }

escaped_more : (c : ℕ) (cs : List ℕ) (n : ℕ) → is_escaped c ≡ true → InsidePart cs n → InsidePart (backslash ∷ c ∷ cs) (suc (suc n))
escaped_more c cs n h p = record {
  front = backslash ∷ c ∷ p.front;
  rest = p.rest;
  same = ap (λ x. backslash ∷ c ∷ x) p.same;
  valid = more (backslash ∷ c ∷ []) p.front refl h p.valid;
  counted = ap (λ x. suc (suc x)) p.counted;
  stop = p.stop;
}

bare_more : (c : ℕ) (cs : List ℕ) (n : ℕ) → is_bare double_quote c ≡ true → InsidePart cs n → InsidePart (c ∷ cs) (suc n)
bare_more c cs n h p = record {
  front = c ∷ p.front;
  rest = p.rest;
  same = ap (λ x. c ∷ x) p.same;
  valid = more (c ∷ []) p.front refl (or_left (is_bare double_quote c) false h) p.valid;
  counted = ap suc p.counted;
  stop = p.stop;
}

inside_part_of : (escaped : Bool) (cs : List ℕ) → InsidePartOf escaped cs
unfolding inside_length
inside_part_of false [] = stopped [] tt
inside_part_of true [] = stopped (backslash ∷ []) (refl, λ _. refl)
inside_part_of true (c ∷ cs) = elim (is_escaped c) as (λ b. is_escaped c ≡ b → InsidePart (backslash ∷ c ∷ cs) (elim b [ true ↦ suc (suc (inside_length false cs)) | false ↦ 0 ])) [
  | true ↦ λ e. escaped_more c cs (inside_length false cs) e (inside_part_of false cs)
  | false ↦ λ e. stopped (backslash ∷ c ∷ cs) (refl, λ _. e)
] refl
inside_part_of false (c ∷ cs) = elim (c == backslash) as (λ b. c == backslash ≡ b → InsidePart (c ∷ cs) (elim b [ true ↦ inside_length true cs | false ↦ elim (is_bare double_quote c) [ true ↦ suc (inside_length false cs) | false ↦ 0 ] ])) [
  | true ↦ λ e. subst (λ x. InsidePart (x ∷ cs) (inside_length true cs)) (sym (eqb-true c backslash e)) (inside_part_of true cs)
  | false ↦ λ apart. elim (is_bare double_quote c) as (λ b. is_bare double_quote c ≡ b → InsidePart (c ∷ cs) (elim b [ true ↦ suc (inside_length false cs) | false ↦ 0 ])) [
    | true ↦ λ e. bare_more c cs (inside_length false cs) e (inside_part_of false cs)
    | false ↦ λ e. stopped (c ∷ cs) (e, λ is. absurd (eqb-false c backslash apart is))
  ] refl
] refl

pub inside_part : (cs : List ℕ) → InsidePart cs (inside_length false cs)
inside_part cs = inside_part_of false cs

pub inside_dropped : (cs : List ℕ) (p : InsidePart cs (inside_length false cs)) → drop (inside_length false cs) cs ≡ p.rest
inside_dropped cs p = ap (λ k. drop k cs) (sym p.counted) ∙ (ap (drop (length p.front)) p.same ∙ drop_at p.front p.rest (length p.front) refl)

string_front : (level : Level) (cs : List ℕ) (p : InsidePart cs (inside_length false cs)) → First (λ x. x == double_quote) p.rest → Front level (double_quote ∷ cs) (token StringLit) (suc (suc (inside_length false cs)))
string_front level cs p f =
    let e : p.rest ≡ double_quote ∷ f.tail = f.same ∙ ap (λ x. x ∷ f.tail) (eqb-true f.head double_quote f.passes) in
    record {
      front = double_quote ∷ (p.front ++ double_quote ∷ []);
      rest = f.tail;
      parted = ap (λ x. double_quote ∷ x) (p.same ∙ (ap (λ x. p.front ++ x) e ∙ sym (append_assoc p.front (double_quote ∷ []) f.tail)));
      here = record { inside = p.front; spelled = refl; valid = p.valid };
      counted = omega (arith, length-append p.front (double_quote ∷ []), p.counted);
    }

pub string_sound : (level : Level) (cs : List ℕ) → Sound level (double_quote ∷ cs) (string cs)
string_sound level cs =
    let p = inside_part cs in
    cond_both (begins (λ x. x == double_quote) (drop (inside_length false cs) cs)) _ _ (Sound level (double_quote ∷ cs))
    (λ h. string_front level cs p (first_of_begins (λ x. x == double_quote) p.rest (subst (λ x. begins (λ y. y == double_quote) x ≡ true) (inside_dropped cs p) h)))
    (λ _. tt)

-- the one character of a character literal at the front

pub record OnePart (cs : List ℕ) (n : ℕ) : Type 0 where
  pub front : List ℕ
  pub rest : List ℕ
  pub same : cs ≡ front ++ rest
  pub valid : is_quoted_character single_quote front ≡ true
  pub counted : length front ≡ n

abbrev pub IsOne : List ℕ → ℕ → Type 0
IsOne cs zero = Stops single_quote cs
IsOne cs (suc n) = OnePart cs (suc n)

-- behind a backslash
abbrev IsEscapeLength : List ℕ → ℕ → Type 0
IsEscapeLength cs zero = begins is_escaped cs ≡ false
IsEscapeLength cs (suc n) = OnePart (backslash ∷ cs) (suc (suc n))

octal_two : (c : ℕ) (cs : List ℕ) → is_octal_digit c ≡ true → First is_octal_digit cs → OnePart (backslash ∷ c ∷ cs) 3
octal_two c cs h f = record {
  front = backslash ∷ c ∷ f.head ∷ [];
  rest = f.tail;
  same = ap (λ x. backslash ∷ c ∷ x) f.same;
  valid = and_from (is_octal_digit c) (is_octal_digit f.head) h f.passes;
  counted = refl;
}

octal_three : (c : ℕ) (cs : List ℕ) (f : First is_octal_digit cs) → is_zero_to_three c ≡ true → First is_octal_digit (drop 1 cs) → OnePart (backslash ∷ c ∷ cs) 4
octal_three c cs f h g = record {
  front = backslash ∷ c ∷ f.head ∷ g.head ∷ [];
  rest = g.tail;
  same = ap (λ x. backslash ∷ c ∷ x) (f.same ∙ ap (λ x. f.head ∷ x) (ap (drop 1) (sym f.same) ∙ g.same));
  valid = and_from (is_zero_to_three c && is_octal_digit f.head) (is_octal_digit g.head) (and_from (is_zero_to_three c) (is_octal_digit f.head) h f.passes) g.passes;
  counted = refl;
}

simple_one : (c : ℕ) (cs : List ℕ) → is_escaped c ≡ true → OnePart (backslash ∷ c ∷ cs) 2
simple_one c cs h = record { front = backslash ∷ c ∷ []; rest = cs; same = refl; valid = h; counted = refl }

escape_part : (cs : List ℕ) → IsEscapeLength cs (escape_length cs)
escape_part [] = refl
escape_part (c ∷ cs) =
    cond_both (is_octal_digit c && begins is_octal_digit cs) _ _ (IsEscapeLength (c ∷ cs))
    (λ h.
    let parts = and_parts (is_octal_digit c) (begins is_octal_digit cs) h in
    let f = first_of_begins is_octal_digit cs parts.1 in
    cond_both (is_zero_to_three c && begins is_octal_digit (drop 1 cs)) 3 2 (IsEscapeLength (c ∷ cs))
    (λ k. let both = and_parts (is_zero_to_three c) (begins is_octal_digit (drop 1 cs)) k in octal_three c cs f both.0 (first_of_begins is_octal_digit (drop 1 cs) both.1))
    (λ _. octal_two c cs parts.0 f))
    (λ _. cond_both (is_escaped c) 1 0 (IsEscapeLength (c ∷ cs)) (λ h. simple_one c cs h) (λ h. h))

positive : (n : ℕ) → nat_lt 0 (suc n) ≡ true
positive n = lt-ltb 0 (suc n) (omega arith)

backslash_part : (cs : List ℕ) (n : ℕ) → IsEscapeLength cs n → IsOne (backslash ∷ cs) (cond (nat_lt 0 n) (suc n) 0)
backslash_part cs zero h = (refl, λ _. h)
backslash_part cs (suc n) h = rw (positive n) h

bare_part : (c : ℕ) (cs : List ℕ) → c == backslash ≡ false → IsOne (c ∷ cs) (cond (is_bare single_quote c) 1 0)
bare_part c cs apart =
    cond_both (is_bare single_quote c) 1 0 (IsOne (c ∷ cs))
    (λ h. record { front = c ∷ []; rest = cs; same = refl; valid = or_left (is_bare single_quote c) false h; counted = refl })
    (λ h. (h, λ is. absurd (eqb-false c backslash apart is)))

pub one_part : (cs : List ℕ) → IsOne cs (one_length cs)
one_part [] = tt
one_part (c ∷ cs) =
    cond_both (c == backslash) _ _ (IsOne (c ∷ cs))
    (λ e. subst (λ x. IsOne (x ∷ cs) (cond (nat_lt 0 (escape_length cs)) (suc (escape_length cs)) 0)) (sym (eqb-true c backslash e)) (backslash_part cs (escape_length cs) (escape_part cs)))
    (λ apart. bare_part c cs apart)

one_dropped : (cs : List ℕ) (n : ℕ) (p : OnePart cs n) → drop n cs ≡ p.rest
one_dropped cs n p = ap (λ k. drop k cs) (sym p.counted) ∙ (ap (drop (length p.front)) p.same ∙ drop_at p.front p.rest (length p.front) refl)

character_front : (level : Level) (cs : List ℕ) (n : ℕ) (p : OnePart cs n) → First (λ x. x == single_quote) p.rest → Front level (single_quote ∷ cs) (token CharLit) (suc (suc n))
character_front level cs n p f =
    let e : p.rest ≡ single_quote ∷ f.tail = f.same ∙ ap (λ x. x ∷ f.tail) (eqb-true f.head single_quote f.passes) in
    record {
      front = single_quote ∷ (p.front ++ single_quote ∷ []);
      rest = f.tail;
      parted = ap (λ x. single_quote ∷ x) (p.same ∙ (ap (λ x. p.front ++ x) e ∙ sym (append_assoc p.front (single_quote ∷ []) f.tail)));
      here = record { inside = p.front; spelled = refl; one = p.valid };
      counted = omega (arith, length-append p.front (single_quote ∷ []), p.counted);
    }

character_from : (level : Level) (cs : List ℕ) (n : ℕ) → IsOne cs n → Sound level (single_quote ∷ cs) (cond (nat_lt 0 n && begins (λ x. x == single_quote) (drop n cs)) (found (token CharLit) (suc (suc n))) nothing)
character_from level cs zero p = tt
character_from level cs (suc n) p = rw (positive n)
    (cond_both (begins (λ x. x == single_quote) (drop (suc n) cs)) (found (token CharLit) (suc (suc (suc n)))) nothing (Sound level (single_quote ∷ cs))
    (λ h. character_front level cs (suc n) p (first_of_begins (λ x. x == single_quote) p.rest (subst (λ x. begins (λ y. y == single_quote) x ≡ true) (one_dropped cs (suc n) p) h)))
    (λ _. tt))

pub character_sound : (level : Level) (cs : List ℕ) → Sound level (single_quote ∷ cs) (character cs)
character_sound level cs = character_from level cs (one_length cs) (one_part cs)
