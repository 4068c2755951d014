-- What is read at a quote is the literal there.
use Rattle.std.proofs.Common.{◌≡◌, ℕ, suc, ◌+◌, ◌<◌, true, false, ◌&&◌, ◌==◌, List, [], ◌∷◌, ◌++◌, length, codes, refl, sym, ap, ◌∙◌, subst, inl, inr, arith, true≢false, append_assoc, length-append, eqb-true, nat_lt}
use Rattle.std.proofs.lemmas.Bool.{and_parts, or_cases, or_right, and_right}
use Rattle.std.proofs.lemmas.Bool.Decides.{nat_tests}
use Rattle.std.proofs.lemmas.List.{drop_at}
use Rattle.java_tree.specs.declared.token.TokenKind.TheVariants.{CharLit, StringLit}
use Rattle.java_model.specs.Lexical.Characters.{backslash, double_quote, single_quote, is_one_of, is_octal_digit, is_zero_to_three}
use Rattle.java_model.specs.Lexical.Quoted.{is_quoted_character, IsCharLiteral, AreStringCharacters, IsStringLiteral}
use Rattle.java_model.specs.Lexical.Quoted.AreStringCharacters.{none, more}
use Rattle.java_model.specs.Lexical.Elements.Element.{token}
use Rattle.java_model.proofs.Lexical.Reading.{is_escaped, is_bare, inside_length, string, one_length, character}
use Rattle.java_model.proofs.Lexical.Reading.Found.{found}
use Rattle.java_model.proofs.Lexical.Longest.{Within}

-- the forms of one quoted character

pub data Quoted (quote : ℕ) : List ℕ → Type 0 where
  bare : (c : ℕ) → is_bare quote c ≡ true → Quoted quote (c ∷ [])
  simple : (c : ℕ) → is_escaped c ≡ true → Quoted quote (backslash ∷ c ∷ [])
  octal_two : (c d : ℕ) → is_octal_digit c ≡ true → is_octal_digit d ≡ true → Quoted quote (backslash ∷ c ∷ d ∷ [])
  octal_three : (c d e : ℕ) → is_zero_to_three c ≡ true → is_octal_digit d ≡ true → is_octal_digit e ≡ true → Quoted quote (backslash ∷ c ∷ d ∷ e ∷ [])

pub quoted_forms : (quote : ℕ) (s : List ℕ) → is_quoted_character quote s ≡ true → Quoted quote s
quoted_forms quote [] h = absurd (true≢false (sym h))
quoted_forms quote (c ∷ []) h = elim (or_cases (is_bare quote c) false h) [ inl b ↦ bare c b | inr f ↦ absurd (true≢false (sym f)) ]
quoted_forms quote (b ∷ c ∷ []) h =
    let parts : (b == backslash ≡ true) × (is_escaped c ≡ true) = and_parts (b == backslash) (is_escaped c) h in
    subst (λ x. Quoted quote (x ∷ c ∷ [])) (sym (eqb-true b backslash parts.0)) (simple c parts.1)
quoted_forms quote (b ∷ c ∷ d ∷ []) h =
    let parts = and_parts (b == backslash && is_octal_digit c) (is_octal_digit d) h in
    let first = and_parts (b == backslash) (is_octal_digit c) parts.0 in
    subst (λ x. Quoted quote (x ∷ c ∷ d ∷ [])) (sym (eqb-true b backslash first.0)) (octal_two c d first.1 parts.1)
quoted_forms quote (b ∷ c ∷ d ∷ e ∷ []) h =
    let parts = and_parts (b == backslash && is_zero_to_three c && is_octal_digit d) (is_octal_digit e) h in
    let second = and_parts (b == backslash && is_zero_to_three c) (is_octal_digit d) parts.0 in
    let first = and_parts (b == backslash) (is_zero_to_three c) second.0 in
    subst (λ x. Quoted quote (x ∷ c ∷ d ∷ e ∷ [])) (sym (eqb-true b backslash first.0)) (octal_three c d e first.1 second.1 parts.1)
quoted_forms quote (b ∷ c ∷ d ∷ e ∷ f ∷ s) h = absurd (true≢false (sym h))

-- strings

bare_apart : (quote c : ℕ) → is_bare quote c ≡ true → c == backslash ≡ false
bare_apart quote c h = grind (arith, nat_tests)

octal_bare : (c : ℕ) → is_octal_digit c ≡ true → is_bare double_quote c ≡ true
octal_bare c h = grind (arith, nat_tests)

octal_escaped : (c : ℕ) → is_octal_digit c ≡ true → is_escaped c ≡ true
octal_escaped c h = or_right (is_one_of (codes "btnfr\"'\\") c) (is_octal_digit c) h

pub three_octal : (c : ℕ) → is_zero_to_three c ≡ true → is_octal_digit c ≡ true
three_octal c h = grind (arith, nat_tests)

pub inside_bare : (c : ℕ) (t : List ℕ) → is_bare double_quote c ≡ true → inside_length false (c ∷ t) ≡ suc (inside_length false t)
unfolding inside_length
inside_bare c t h = rw (bare_apart double_quote c h, inside_length) (rw (h, inside_length) refl)

pub inside_escaped : (c : ℕ) (t : List ℕ) → is_escaped c ≡ true → inside_length false (backslash ∷ c ∷ t) ≡ suc (suc (inside_length false t))
unfolding inside_length
inside_escaped c t h = rw (h, inside_length) refl

inside_octal : (c : ℕ) (t : List ℕ) → is_octal_digit c ≡ true → inside_length false (c ∷ t) ≡ suc (inside_length false t)
inside_octal c t h = inside_bare c t (octal_bare c h)

one_added : (n : ℕ) → suc n ≡ 1 + n
one_added n = omega arith

quoted_inside : {s : List ℕ} (t : List ℕ) → Quoted double_quote s → inside_length false (s ++ t) ≡ length s + inside_length false t
quoted_inside t (bare c h) = inside_bare c t h ∙ omega arith
quoted_inside t (simple c h) = inside_escaped c t h ∙ omega arith
quoted_inside t (octal_two c d hc hd) = inside_escaped c (d ∷ t) (octal_escaped c hc) ∙ (ap (λ n. suc (suc n)) (inside_octal d t hd) ∙ omega arith)
quoted_inside t (octal_three c d e hc hd he) =
    inside_escaped c (d ∷ e ∷ t) (octal_escaped c (three_octal c hc)) ∙ (ap (λ n. suc (suc n)) (inside_octal d (e ∷ t) hd ∙ ap suc (inside_octal e t he)) ∙ omega arith)

pub characters_inside : {s : List ℕ} (t : List ℕ) → AreStringCharacters s → inside_length false (s ++ t) ≡ length s + inside_length false t
characters_inside t none = omega arith
characters_inside t (more {spelling = s} first others e h rest) =
    rw (e, append_assoc first others t, quoted_inside (others ++ t) (quoted_forms double_quote first h), characters_inside t rest)
    (omega (arith, length-append first others))

quote_ends : (t : List ℕ) → inside_length false (double_quote ∷ t) ≡ 0
unfolding inside_length
quote_ends t = refl

string_read : (inside t : List ℕ) → AreStringCharacters inside → string (inside ++ double_quote ∷ t) ≡ found (token StringLit) (suc (suc (length inside)))
string_read inside t h =
    let n : inside_length false (inside ++ double_quote ∷ t) ≡ length inside = characters_inside (double_quote ∷ t) h ∙ omega (arith, quote_ends t) in
    rw (n, drop_at inside (double_quote ∷ t) (length inside) refl) refl

pub string_within : (c : ℕ) (p rest : List ℕ) → IsStringLiteral (c ∷ p) → Within (token StringLit) (suc (length p)) (string (p ++ rest))
string_within c p rest h =
    let s : c ∷ p ≡ double_quote ∷ (h.inside ++ double_quote ∷ []) = h.spelled in
    let e : p ≡ h.inside ++ double_quote ∷ [] = cc in
    let g : p ++ rest ≡ h.inside ++ double_quote ∷ rest = ap (λ x. x ++ rest) e ∙ append_assoc h.inside (double_quote ∷ []) rest in
    let n : suc (length p) ≡ suc (suc (length h.inside)) = omega (arith, ap length e, length-append h.inside (double_quote ∷ [])) in
    rw (g, string_read h.inside rest h.valid) (inr (n, refl))

-- character literals

quote_not_octal : (c : ℕ) → (is_octal_digit c && is_octal_digit single_quote) ≡ false
quote_not_octal c = and_right (is_octal_digit c) false refl

one_simple : (c : ℕ) (t : List ℕ) → is_escaped c ≡ true → one_length (backslash ∷ c ∷ single_quote ∷ t) ≡ 2
one_simple c t h = rw (quote_not_octal c, h) refl

three_quote : (c : ℕ) → (is_zero_to_three c && is_octal_digit single_quote) ≡ false
three_quote c = and_right (is_zero_to_three c) false refl

one_two : (c d : ℕ) (t : List ℕ) → is_octal_digit c ≡ true → is_octal_digit d ≡ true → one_length (backslash ∷ c ∷ d ∷ single_quote ∷ t) ≡ 3
one_two c d t hc hd = rw (hc, hd, three_quote c) refl

one_three : (c d e : ℕ) (t : List ℕ) → is_octal_digit c ≡ true → is_zero_to_three c ≡ true → is_octal_digit d ≡ true → is_octal_digit e ≡ true → one_length (backslash ∷ c ∷ d ∷ e ∷ single_quote ∷ t) ≡ 4
one_three c d e t ho hc hd he = rw (ho, hc, hd, he) refl

one_read : {s : List ℕ} (t : List ℕ) → Quoted single_quote s → one_length (s ++ single_quote ∷ t) ≡ length s
one_read t (bare c h) = rw (h, bare_apart single_quote c h) refl
one_read t (simple c h) = one_simple c t h
one_read t (octal_two c d hc hd) = one_two c d t hc hd
one_read t (octal_three c d e hc hd he) = one_three c d e t (three_octal c hc) hc hd he

quoted_some : {quote : ℕ} {s : List ℕ} → Quoted quote s → 0 < length s
quoted_some (bare c h) = omega arith
quoted_some (simple c h) = omega arith
quoted_some (octal_two c d hc hd) = omega arith
quoted_some (octal_three c d e hc hd he) = omega arith

some_positive : (n : ℕ) → 0 < n → nat_lt 0 n ≡ true
some_positive n h = grind (arith, nat_tests)

character_read : (inside t : List ℕ) → is_quoted_character single_quote inside ≡ true → character (inside ++ single_quote ∷ t) ≡ found (token CharLit) (suc (suc (length inside)))
character_read inside t h =
    let forms = quoted_forms single_quote inside h in
    rw (one_read t forms, some_positive (length inside) (quoted_some forms), drop_at inside (single_quote ∷ t) (length inside) refl) refl

pub character_within : (c : ℕ) (p rest : List ℕ) → IsCharLiteral (c ∷ p) → Within (token CharLit) (suc (length p)) (character (p ++ rest))
character_within c p rest h =
    let s : c ∷ p ≡ single_quote ∷ (h.inside ++ single_quote ∷ []) = h.spelled in
    let e : p ≡ h.inside ++ single_quote ∷ [] = cc in
    let g : p ++ rest ≡ h.inside ++ single_quote ∷ rest = ap (λ x. x ++ rest) e ∙ append_assoc h.inside (single_quote ∷ []) rest in
    let n : suc (length p) ≡ suc (suc (length h.inside)) = omega (arith, ap length e, length-append h.inside (single_quote ∷ [])) in
    rw (g, character_read h.inside rest h.one) (inr (n, refl))
