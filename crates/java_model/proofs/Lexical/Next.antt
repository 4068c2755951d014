-- The next element is unique: what `next_of` reads is the longest element, and of its kind.
use Rattle.std.proofs.Common.{◌≡◌, ℕ, suc, ◌+◌, ◌<◌, Bool, true, false, not, ◌&&◌, ◌||◌, ◌==◌, List, [], ◌∷◌, ◌++◌, length, drop, codes, cond, refl, sym, ap, ◌∙◌, subst, inl, inr, arith, true≢false, eqb-true}
use Rattle.std.specs.List.{list_all}
use Rattle.std.proofs.lemmas.Bool.{and_parts, cond_both}
use Rattle.std.proofs.lemmas.Bool.Decides.{nat_tests}
use Rattle.java_tree.specs.declared.outline.Level.{Level}
use Rattle.java_tree.specs.declared.token.TokenKind.{TokenKind}
use Rattle.java_tree.specs.declared.token.TokenKind.TheVariants.{Identifier, Keyword, IntLit, LongLit, FloatLit, DoubleLit, CharLit, StringLit, Symbol}
use Rattle.java_model.specs.Lexical.Characters.{double_quote, single_quote, slash, full_stop, is_white, is_letter, is_letter_or_digit, is_digit, is_one_of}
use Rattle.java_model.specs.Lexical.Words.{is_word, IsIdentifier, IsKeyword}
use Rattle.java_model.specs.Lexical.Numbers.{is_numeral, IsLongLiteral, IsFloating, IsFloatLiteral, IsDoubleLiteral}
use Rattle.java_model.specs.Lexical.Quoted.{IsCharLiteral, IsStringLiteral}
use Rattle.java_model.specs.Lexical.Comments.{IsWhiteSpace, IsTraditionalComment, IsEndOfLineComment}
use Rattle.java_model.specs.Lexical.Symbols.{IsSymbol}
use Rattle.java_model.specs.Lexical.Elements.{Element, IsToken, IsElement}
use Rattle.java_model.specs.Lexical.Elements.Element.{white_space, traditional_comment, end_of_line_comment, token}
use Rattle.java_model.proofs.Lexical.Reading.{Family, run, begins, point, family_of, next_in, next_of, is_f}
use Rattle.java_model.proofs.Lexical.Reading.Family.{a_white, a_word, a_number, a_point, a_string, a_character, a_slash, a_symbol}
use Rattle.java_model.proofs.Lexical.Families.{family_white, family_word, family_number, family_point, family_string, family_character, family_slash, family_symbol}
use Rattle.java_model.proofs.Lexical.Listed.{symbols_are, is_symbol_word, is_symbol_start}
use Rattle.java_model.proofs.Lexical.Classes.{all_parts}
use Rattle.java_model.proofs.Lexical.Longest.{Within}
use Rattle.java_model.proofs.Lexical.LongestComments.{Best, Within-Best, traditional_best, line_best, symbol_best}
use Rattle.java_model.proofs.Lexical.LongestFloats.{float_kind, floating_number, floating_point, floating_begins}
use Rattle.java_model.proofs.Lexical.LongestInts.{Above-Within, above_end, int_number, long_number, numeral_first, long_first}
use Rattle.java_model.proofs.Lexical.LongestQuoted.{string_within, character_within}
use Rattle.java_model.proofs.Lexical.LongestWords.{identifier_within, keyword_within, symbol_within, reserved_word}

-- what is read at a character of a family

abbrev IsBest : Level → Element → ℕ → List ℕ → List ℕ → Type 0
IsBest level e c p rest = Best (c ∷ (p ++ rest)) e (suc (length p)) (next_of level (c ∷ (p ++ rest)))

in_family : (level : Level) (f : Family) (e : Element) (c : ℕ) (p rest : List ℕ) → family_of c ≡ f → Within e (suc (length p)) (next_in level f c (p ++ rest)) → IsBest level e c p rest
in_family level f e c p rest is h =
    subst (λ x. Best (c ∷ (p ++ rest)) e (suc (length p)) (next_in level x c (p ++ rest))) (sym is) (Within-Best (c ∷ (p ++ rest)) e (suc (length p)) (next_in level f c (p ++ rest)) h)

white_best : (level : Level) (c : ℕ) (p rest : List ℕ) → IsWhiteSpace (c ∷ p) → IsBest level white_space c p rest
white_best level c p rest (d, e, h) =
    let same_c : c ≡ d = cc in
    let none : p ≡ [] = cc in
    in_family level a_white white_space c p rest (family_white c (subst (λ x. is_white x ≡ true) (sym same_c) h)) (inr (ap (λ x. suc (length x)) none, refl))

word_first : (c : ℕ) (p : List ℕ) → is_word (c ∷ p) ≡ true → is_letter c ≡ true
word_first c p h = (and_parts (is_letter c) (list_all is_letter_or_digit p) h).0

identifier_best : (level : Level) (c : ℕ) (p rest : List ℕ) → IsIdentifier level (c ∷ p) → IsBest level (token Identifier) c p rest
identifier_best level c p rest h = in_family level a_word (token Identifier) c p rest (family_word c (word_first c p h.word)) (identifier_within level c p rest h)

keyword_best : (level : Level) (c : ℕ) (p rest : List ℕ) → IsKeyword level (c ∷ p) → IsBest level (token Keyword) c p rest
keyword_best level c p rest h = in_family level a_word (token Keyword) c p rest (family_word c (word_first c p (reserved_word level (c ∷ p) h))) (keyword_within level c p rest h)

string_best : (level : Level) (c : ℕ) (p rest : List ℕ) → IsStringLiteral (c ∷ p) → IsBest level (token StringLit) c p rest
string_best level c p rest h =
    let s : c ∷ p ≡ double_quote ∷ (h.inside ++ double_quote ∷ []) = h.spelled in
    let e : c ≡ double_quote = cc in
    in_family level a_string (token StringLit) c p rest (ap family_of e ∙ family_string) (string_within c p rest h)

character_best : (level : Level) (c : ℕ) (p rest : List ℕ) → IsCharLiteral (c ∷ p) → IsBest level (token CharLit) c p rest
character_best level c p rest h =
    let s : c ∷ p ≡ single_quote ∷ (h.inside ++ single_quote ∷ []) = h.spelled in
    let e : c ≡ single_quote = cc in
    in_family level a_character (token CharLit) c p rest (ap family_of e ∙ family_character) (character_within c p rest h)

traditional : (level : Level) (c : ℕ) (p rest : List ℕ) → IsTraditionalComment (c ∷ p) → IsBest level traditional_comment c p rest
traditional level c p rest (tail, e, t) =
    let is : c ≡ slash = cc in
    in_family level a_slash traditional_comment c p rest (ap family_of is ∙ family_slash) (traditional_best c p rest (tail, e, t))

line : (level : Level) (c : ℕ) (p rest : List ℕ) → IsEndOfLineComment (c ∷ p) → IsBest level end_of_line_comment c p rest
line level c p rest (l, e, h) =
    let is : c ≡ slash = cc in
    in_family level a_slash end_of_line_comment c p rest (ap family_of is ∙ family_slash) (line_best c p rest (l, e, h))

int_best : (level : Level) (c : ℕ) (p rest : List ℕ) → is_numeral (c ∷ p) ≡ true → IsBest level (token IntLit) c p rest
int_best level c p rest h = in_family level a_number (token IntLit) c p rest (family_number c (numeral_first c p h)) (int_number c p rest h)

long_best : (level : Level) (c : ℕ) (p rest : List ℕ) → IsLongLiteral (c ∷ p) → IsBest level (token LongLit) c p rest
long_best level c p rest h = in_family level a_number (token LongLit) c p rest (family_number c (long_first c p h)) (long_number c p rest h)

point_best : (level : Level) (c : ℕ) (p S rest : List ℕ) → c ≡ full_stop → IsFloating (c ∷ p) S → IsBest level (token (float_kind S)) c p rest
point_best level c p S rest e h =
    in_family level a_point (token (float_kind S)) c p rest (ap family_of e ∙ family_point) (floating_point p S rest (subst (λ x. IsFloating (x ∷ p) S) e h))

floating_best : (level : Level) (c : ℕ) (p S rest : List ℕ) → IsFloating (c ∷ p) S → IsBest level (token (float_kind S)) c p rest
floating_best level c p S rest h = elim (floating_begins (c ∷ p) S h) [
  | inl d ↦ in_family level a_number (token (float_kind S)) c p rest (family_number c d) (floating_number c p S rest d h)
  | inr e ↦ point_best level c p S rest e h
]

float_best : (level : Level) (c : ℕ) (p rest : List ℕ) → IsFloatLiteral (c ∷ p) → IsBest level (token FloatLit) c p rest
float_best level c p rest (f, h, is) = subst (λ b. IsBest level (token (cond b FloatLit DoubleLit)) c p rest) is (floating_best level c p (f ∷ []) rest h)

d_not_f : (c : ℕ) → is_one_of (codes "dD") c ≡ true → is_f c ≡ false
d_not_f c h = grind (arith, nat_tests)

double_kind : (S : List ℕ) → list_all (is_one_of (codes "dD")) S ≡ true → begins is_f S ≡ false
double_kind [] h = refl
double_kind (c ∷ S) h = d_not_f c (all_parts (is_one_of (codes "dD")) c S h).0

double_best : (level : Level) (c : ℕ) (p rest : List ℕ) → IsDoubleLiteral (c ∷ p) → IsBest level (token DoubleLit) c p rest
double_best level c p rest (S, h, is) = subst (λ b. IsBest level (token (cond b FloatLit DoubleLit)) c p rest) (double_kind S is) (floating_best level c p S rest h)

-- symbols

run_some : (test : ℕ → Bool) (cs : List ℕ) → begins test cs ≡ true → 0 < run test cs
run_some test [] h = absurd (true≢false (sym h))
run_some test (c ∷ cs) h = rw h (omega arith)

point_alone : (rest : List ℕ) → Within (token Symbol) 1 (point rest)
point_alone rest = cond_both (begins is_digit rest) _ _ (Within (token Symbol) 1) (λ h. Above-Within (token Symbol) 1 _ (above_end 1 (1 + run is_digit rest) (drop (run is_digit rest) rest) (omega (arith, run_some is_digit rest h)))) (λ _. inr (refl, refl))

symbol_point : (level : Level) (c : ℕ) (p rest : List ℕ) → c ≡ full_stop → length p ≡ 0 → IsBest level (token Symbol) c p rest
symbol_point level c [] rest e l = in_family level a_point (token Symbol) c [] rest (ap family_of e ∙ family_point) (point_alone rest)
symbol_point level c (d ∷ p) rest e l = absurd (omega arith)

symbol_slash : (level : Level) (c : ℕ) (p rest : List ℕ) → c ≡ slash → IsSymbol (c ∷ p) → IsBest level (token Symbol) c p rest
symbol_slash level c p rest e h =
    subst (λ x. IsBest level (token Symbol) x p rest) (sym e)
    (subst (λ f. Best (slash ∷ (p ++ rest)) (token Symbol) (suc (length p)) (next_in level f slash (p ++ rest))) (sym family_slash) (symbol_best p rest (subst (λ x. IsSymbol (x ∷ p)) e h)))

symbol_else : (level : Level) (c : ℕ) (p rest : List ℕ) → is_symbol_start c ≡ true → c == full_stop ≡ false → c == slash ≡ false → IsSymbol (c ∷ p) → IsBest level (token Symbol) c p rest
symbol_else level c p rest starts point slashed h = in_family level a_symbol (token Symbol) c p rest (family_symbol c starts point slashed) (symbol_within c p rest h)

alone_point : (n : ℕ) → (not true || n == 0) ≡ true → n ≡ 0
alone_point n h = eqb-true n 0 h

symbol_next : (level : Level) (c : ℕ) (p rest : List ℕ) → IsSymbol (c ∷ p) → IsBest level (token Symbol) c p rest
symbol_next level c p rest h =
    let word : is_symbol_word (c ∷ p) ≡ true = symbols_are (c ∷ p) h in
    let parts = and_parts (is_symbol_start c && (not (c == 46) || length p == 0)) (not (c == 47) || not (begins (is_one_of (codes "/*")) p)) word in
    let first = and_parts (is_symbol_start c) (not (c == 46) || length p == 0) parts.0 in
    elim (c == full_stop) as (λ b. c == full_stop ≡ b → IsBest level (token Symbol) c p rest) [
      | true ↦ λ e. symbol_point level c p rest (eqb-true c full_stop e) (alone_point (length p) (subst (λ b. (not b || length p == 0) ≡ true) e first.1))
      | false ↦ λ point. elim (c == slash) as (λ b. c == slash ≡ b → IsBest level (token Symbol) c p rest) [
        | true ↦ λ e. symbol_slash level c p rest (eqb-true c slash e) h
        | false ↦ λ slashed. symbol_else level c p rest first.0 point slashed h
      ] refl
    ] refl

-- all kinds

token_best : (level : Level) (kind : TokenKind) (c : ℕ) (p rest : List ℕ) → IsToken level kind (c ∷ p) → IsBest level (token kind) c p rest
token_best level Identifier c p rest h = identifier_best level c p rest h
token_best level Keyword c p rest h = keyword_best level c p rest h
token_best level IntLit c p rest h = int_best level c p rest h
token_best level LongLit c p rest h = long_best level c p rest h
token_best level FloatLit c p rest h = float_best level c p rest h
token_best level DoubleLit c p rest h = double_best level c p rest h
token_best level CharLit c p rest h = character_best level c p rest h
token_best level StringLit c p rest h = string_best level c p rest h
token_best level Symbol c p rest h = symbol_next level c p rest h

best : (level : Level) (e : Element) (c : ℕ) (p rest : List ℕ) → IsElement level e (c ∷ p) → IsBest level e c p rest
best level white_space c p rest h = white_best level c p rest h
best level traditional_comment c p rest h = traditional level c p rest h
best level end_of_line_comment c p rest h = line level c p rest h
best level (token kind) c p rest h = token_best level kind c p rest h

-- no element is empty

floating_empty : (S : List ℕ) → IsFloating [] S → ⊥
floating_empty S h = floating_begins [] S h

empty_token : (level : Level) (kind : TokenKind) → IsToken level kind [] → ⊥
empty_token level Identifier h = true≢false (sym h.word)
empty_token level Keyword h = true≢false (sym (reserved_word level [] h))
empty_token level IntLit h = true≢false (sym h)
empty_token level LongLit h = long_empty h.numeral h.suffix h.spelled
  where
    long_empty : (n : List ℕ) (l : ℕ) → [] ≡ n ++ l ∷ [] → ⊥
    long_empty [] l e = cc
    long_empty (d ∷ n) l e = cc
empty_token level FloatLit (c, h, is) = floating_empty (c ∷ []) h
empty_token level DoubleLit (S, h, is) = floating_empty S h
empty_token level CharLit h = let e = h.spelled in cc
empty_token level StringLit h = let e = h.spelled in cc
empty_token level Symbol h = true≢false (sym (symbols_are [] h))

pub empty_element : (level : Level) (e : Element) → IsElement level e [] → ⊥
empty_element level white_space (c, e, h) = cc
empty_element level traditional_comment (tail, e, t) = cc
empty_element level end_of_line_comment (l, e, h) = cc
empty_element level (token kind) h = empty_token level kind h

-- each front that is an element is no longer than what is read
pub front_best : (level : Level) (e : Element) (p rest : List ℕ) → IsElement level e p → Best (p ++ rest) e (length p) (next_of level (p ++ rest))
front_best level e [] rest h = absurd (empty_element level e h)
front_best level e (c ∷ p) rest h = best level e c p rest h
