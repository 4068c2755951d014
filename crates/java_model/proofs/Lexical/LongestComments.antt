-- What is read at a slash is the longest comment or symbol there, and nothing where a comment doesn't end.
use Rattle.std.proofs.Common.{◌≡◌, ℕ, zero, suc, ◌<◌, ◌⊎◌, Bool, true, false, not, ◌&&◌, ◌==◌, List, [], ◌∷◌, ◌++◌, length, drop, codes, refl, sym, ap, ◌∙◌, subst, inl, inr, arith, ne_eqb, eqb-true}
use Rattle.std.proofs.lemmas.Bool.{and_parts, and_right}
use Rattle.std.proofs.lemmas.Bool.Decides.{nat_tests}
use Rattle.java_tree.specs.declared.token.TokenKind.TheVariants.{Symbol}
use Rattle.java_model.specs.Lexical.Characters.{slash, star, is_one_of, is_line_end}
use Rattle.java_model.specs.Lexical.Comments.{IsCommentTail, IsTraditionalComment, IsEndOfLineComment}
use Rattle.java_model.specs.Lexical.Comments.IsCommentTail.{closes, starred, goes_on, goes_on_starred}
use Rattle.java_model.specs.Lexical.Symbols.{IsSymbol}
use Rattle.java_model.specs.Lexical.Elements.{Element, begins_comment}
use Rattle.java_model.specs.Lexical.Elements.Element.{traditional_comment, end_of_line_comment, token}
use Rattle.java_model.proofs.Lexical.Reading.{Found, run, tail_length, symbol, comment_of, slashed}
use Rattle.java_model.proofs.Lexical.Reading.Found.{found, nothing}
use Rattle.java_model.proofs.Lexical.Runs.{run-front}
use Rattle.java_model.proofs.Lexical.Listed.{symbols_are, is_symbol_word}
use Rattle.java_model.proofs.Lexical.LongestWords.{symbol_within}
use Rattle.java_model.proofs.Lexical.Longest.{Within, Within-le}

-- a comment tail is read to its end

tail_some : {b : Bool} {p : List ℕ} → IsCommentTail b p → 0 < length p
tail_some closes = omega arith
tail_some (starred t) = omega arith
tail_some (goes_on a t) = omega arith
tail_some (goes_on_starred a b t) = omega arith

positive : (n : ℕ) → 0 < n → n == 0 ≡ false
positive n h = grind (arith, nat_tests)

tail_step : (b : Bool) (c : ℕ) (cs : List ℕ) (n : ℕ) → (b && c == slash) ≡ false → 0 < n → tail_length (c == star) cs ≡ n → tail_length b (c ∷ cs) ≡ suc n
unfolding tail_length
tail_step b c cs n e h t = rw (e, tail_length) (rw (t, tail_length) (rw (positive n h) refl))

tail_closes : (q : List ℕ) → tail_length true (slash ∷ q) ≡ 1
unfolding tail_length
tail_closes q = refl

pub tail_read : {b : Bool} {p : List ℕ} (q : List ℕ) → IsCommentTail b p → tail_length b (p ++ q) ≡ length p
tail_read q closes = tail_closes q
tail_read q (starred {after_star = b} {spelling = p} t) = tail_step b star (p ++ q) (length p) (and_right b false refl) (tail_some t) (tail_read q t)
tail_read q (goes_on {c = c} {spelling = p} apart t) = tail_step false c (p ++ q) (length p) refl (tail_some t) (ap (λ b. tail_length b (p ++ q)) (ne_eqb c star apart) ∙ tail_read q t)
tail_read q (goes_on_starred {c = c} {spelling = p} apart unslashed t) = tail_step true c (p ++ q) (length p) (ne_eqb c slash unslashed) (tail_some t) (ap (λ b. tail_length b (p ++ q)) (ne_eqb c star apart) ∙ tail_read q t)

-- an element of m characters is shorter than what is found or is it, or stands where a comment doesn't end
abbrev pub Best : List ℕ → Element → ℕ → Found → Type 0
Best cs e m (found k n) = (m < n) ⊎ ((m ≡ n) × (e ≡ k))
Best cs e m nothing = (begins_comment cs ≡ true) × (e ≡ traditional_comment → ⊥)

pub Within-Best : (cs : List ℕ) (e : Element) (m : ℕ) (f : Found) → Within e m f → Best cs e m f
Within-Best cs e m (found k n) h = h
Within-Best cs e m nothing h = absurd h

-- behind a slash

slashed_slash : (cs : List ℕ) → slashed (slash ∷ cs) ≡ found end_of_line_comment (suc (suc (run (λ x. not (is_line_end x)) cs)))
unfolding slashed
slashed_slash cs = refl

pub slashed_star : (cs : List ℕ) → slashed (star ∷ cs) ≡ comment_of (tail_length false cs)
unfolding slashed
slashed_star cs = refl

slashed_other : (c : ℕ) (cs : List ℕ) → c == slash ≡ false → c == star ≡ false → slashed (c ∷ cs) ≡ symbol (slash ∷ c ∷ cs)
unfolding slashed
slashed_other c cs e f = rw (e, slashed) (rw (f, slashed) refl)

slashed_end : slashed [] ≡ found (token Symbol) 1
unfolding slashed
slashed_end = refl

comment_counted : (n : ℕ) → 0 < n → comment_of n ≡ found traditional_comment (suc (suc n))
comment_counted zero h = absurd (omega arith)
comment_counted (suc n) h = refl

traditional_read : (tail rest : List ℕ) → IsCommentTail false tail → slashed (star ∷ (tail ++ rest)) ≡ found traditional_comment (suc (suc (length tail)))
traditional_read tail rest t = slashed_star (tail ++ rest) ∙ (ap comment_of (tail_read rest t) ∙ comment_counted (length tail) (tail_some t))

pub traditional_best : (c : ℕ) (p rest : List ℕ) → IsTraditionalComment (c ∷ p) → Within traditional_comment (suc (length p)) (slashed (p ++ rest))
traditional_best c p rest (tail, e, t) =
    let same : p ≡ star ∷ tail = cc in
    rw (same, traditional_read tail rest t) (inr (refl, refl))

pub line_best : (c : ℕ) (p rest : List ℕ) → IsEndOfLineComment (c ∷ p) → Within end_of_line_comment (suc (length p)) (slashed (p ++ rest))
line_best c p rest (line, e, h) =
    let same : p ≡ slash ∷ line = cc in
    rw (same, slashed_slash (line ++ rest)) (Within-le end_of_line_comment (suc (suc (length line))) (suc (suc (run (λ x. not (is_line_end x)) (line ++ rest)))) (omega (arith, run-front (λ x. not (is_line_end x)) line rest h)))

-- the symbols that begin with a slash

slash_apart : (c : ℕ) → not (is_one_of (codes "/*") c) ≡ true → (c == slash ≡ false) × (c == star ≡ false)
slash_apart c h = grind (arith, nat_tests)

symbol_other : (c : ℕ) (p rest : List ℕ) → IsSymbol (slash ∷ p) → p ++ rest ≡ c ∷ drop 1 (p ++ rest) → c == slash ≡ false → c == star ≡ false → Best (slash ∷ (p ++ rest)) (token Symbol) (suc (length p)) (slashed (p ++ rest))
symbol_other c p rest h e f g =
    let r : slashed (p ++ rest) ≡ symbol (slash ∷ (p ++ rest)) = ap slashed e ∙ (slashed_other c (drop 1 (p ++ rest)) f g ∙ ap (λ x. symbol (slash ∷ x)) (sym e)) in
    subst (Best (slash ∷ (p ++ rest)) (token Symbol) (suc (length p))) (sym r) (Within-Best (slash ∷ (p ++ rest)) (token Symbol) (suc (length p)) (symbol (slash ∷ (p ++ rest))) (symbol_within slash p rest h))

comment_or_none : (cs : List ℕ) (n : ℕ) → Best (slash ∷ star ∷ cs) (token Symbol) 1 (comment_of n)
comment_or_none cs zero = (refl, λ e. cc)
comment_or_none cs (suc n) = inl (omega arith)

alone_slash : (c : ℕ) (rest : List ℕ) → c ≡ slash → Best (slash ∷ c ∷ rest) (token Symbol) 1 (slashed (c ∷ rest))
alone_slash c rest e = rw (e, slashed_slash rest) (inl (omega arith))

alone_star : (c : ℕ) (rest : List ℕ) → c ≡ star → Best (slash ∷ c ∷ rest) (token Symbol) 1 (slashed (c ∷ rest))
alone_star c rest e = rw (e, slashed_star rest) (comment_or_none rest (tail_length false rest))

alone : (rest : List ℕ) → IsSymbol (slash ∷ []) → Best (slash ∷ rest) (token Symbol) 1 (slashed rest)
alone [] h = rw slashed_end (inr (refl, refl))
alone (c ∷ rest) h = elim (c == slash) as (λ b. c == slash ≡ b → Best (slash ∷ c ∷ rest) (token Symbol) 1 (slashed (c ∷ rest))) [
  | true ↦ λ e. alone_slash c rest (eqb-true c slash e)
  | false ↦ λ f. elim (c == star) as (λ b. c == star ≡ b → Best (slash ∷ c ∷ rest) (token Symbol) 1 (slashed (c ∷ rest))) [
    | true ↦ λ e. alone_star c rest (eqb-true c star e)
    | false ↦ λ g. symbol_other c [] (c ∷ rest) h refl f g
  ] refl
] refl

pub symbol_best : (p rest : List ℕ) → IsSymbol (slash ∷ p) → Best (slash ∷ (p ++ rest)) (token Symbol) (suc (length p)) (slashed (p ++ rest))
symbol_best [] rest h = alone rest h
symbol_best (c ∷ p) rest h =
    let word : is_symbol_word (slash ∷ c ∷ p) ≡ true = symbols_are (slash ∷ c ∷ p) h in
    let apart = slash_apart c (and_parts true (not (is_one_of (codes "/*") c)) word).1 in
    symbol_other c (c ∷ p) rest h refl apart.0 apart.1
