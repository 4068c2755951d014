-- Reading one input element from the front of characters: its kind and how many characters it has.
use Rattle.std.proofs.Common.{ℕ, zero, suc, ◌+◌, Bool, true, false, cond, not, ◌&&◌, ◌||◌, ◌==◌, max, List, [], ◌∷◌, length, take, drop, codes, nat_lt}
use Rattle.java_tree.specs.declared.outline.Level.{Level}
use Rattle.java_tree.specs.declared.token.TokenKind.{TokenKind}
use Rattle.java_tree.specs.declared.token.TokenKind.TheVariants.{Identifier, Keyword, IntLit, LongLit, FloatLit, DoubleLit, CharLit, StringLit, Symbol}
use Rattle.java_model.specs.Lexical.Characters.{backslash, double_quote, single_quote, slash, star, full_stop, is_one_of, is_line_end, is_white, is_letter, is_letter_or_digit, is_digit, is_octal_digit, is_hex_digit, is_zero_to_three}
use Rattle.java_model.specs.Lexical.Words.{is_reserved}
use Rattle.java_model.specs.Lexical.Symbols.{symbols}
use Rattle.java_model.specs.Lexical.Elements.{Element}
use Rattle.java_model.specs.Lexical.Elements.Element.{white_space, traditional_comment, end_of_line_comment, token}

pub data Found : Type 0 where
  found : Element → ℕ → Found
  nothing : Found

-- how many characters at the front pass the test
abbrev pub run : (ℕ → Bool) → List ℕ → ℕ
run test [] = 0
run test (c ∷ cs) = cond (test c) (suc (run test cs)) 0

-- whether the first character passes the test
abbrev pub begins : (ℕ → Bool) → List ℕ → Bool
begins test [] = false
begins test (c ∷ cs) = test c

-- words

abbrev pub word_kind : Bool → TokenKind
word_kind true = Keyword
word_kind false = Identifier

abbrev pub word : Level → ℕ → List ℕ → Found
word level c cs = let n = run is_letter_or_digit cs in found (token (word_kind (is_reserved level (c ∷ take n cs)))) (suc n)

-- numbers

abbrev pub is_sign : ℕ → Bool
is_sign = is_one_of (codes "+-")

abbrev pub sign_length : List ℕ → ℕ
sign_length cs = cond (begins is_sign cs) 1 0

abbrev pub exponent_digits : List ℕ → ℕ
exponent_digits cs = run is_digit (drop (sign_length cs) cs)

-- the length of the exponent at the front, or 0
abbrev pub exponent_length : List ℕ → ℕ
exponent_length [] = 0
exponent_length (l ∷ cs) = cond (is_one_of (codes "eE") l && nat_lt 0 (exponent_digits cs)) (suc (sign_length cs + exponent_digits cs)) 0

abbrev pub is_f : ℕ → Bool
is_f = is_one_of (codes "fF")

abbrev pub is_d : ℕ → Bool
is_d = is_one_of (codes "dD")

abbrev pub is_l : ℕ → Bool
is_l = is_one_of (codes "lL")

-- after n characters of a floating-point literal, before its suffix
abbrev pub float_suffix : ℕ → List ℕ → Found
float_suffix n rest = cond (begins is_f rest) (found (token FloatLit) (suc n)) (cond (begins is_d rest) (found (token DoubleLit) (suc n)) (found (token DoubleLit) n))

-- after n characters of a floating-point literal, before its exponent
abbrev pub float_end : ℕ → List ℕ → Found
float_end n rest = float_suffix (n + exponent_length rest) (drop (exponent_length rest) rest)

abbrev pub int_end : ℕ → List ℕ → Found
int_end n rest = cond (begins is_l rest) (found (token LongLit) (suc n)) (found (token IntLit) n)

-- what makes digits without a full stop floating
abbrev pub has_float_end : List ℕ → Bool
has_float_end rest = nat_lt 0 (exponent_length rest) || begins is_f rest || begins is_d rest

abbrev pub fraction : ℕ → List ℕ → Found
fraction n cs = float_end (n + run is_digit cs) (drop (run is_digit cs) cs)

abbrev pub octal : List ℕ → Found
octal cs = int_end (suc (run is_octal_digit cs)) (drop (run is_octal_digit cs) cs)

-- after n digits, the first of which is c, before what follows them
abbrev pub after_digits : ℕ → ℕ → List ℕ → List ℕ → Found
after_digits c n cs rest = cond (begins (λ x. x == full_stop) rest) (fraction (suc n) (drop 1 rest)) (cond (has_float_end rest) (float_end n rest) (cond (c == 48) (octal cs) (int_end n rest)))

abbrev pub decimal : ℕ → List ℕ → Found
decimal c cs = let n = run is_digit cs in after_digits c (suc n) cs (drop n cs)

abbrev pub is_hexed : ℕ → List ℕ → Bool
is_hexed c cs = (c == 48) && begins (is_one_of (codes "xX")) cs && begins is_hex_digit (drop 1 cs)

abbrev pub hexed : List ℕ → Found
hexed cs = int_end (suc (suc (run is_hex_digit cs))) (drop (run is_hex_digit cs) cs)

abbrev pub number : ℕ → List ℕ → Found
number c cs = cond (is_hexed c cs) (hexed (drop 1 cs)) (decimal c cs)

abbrev pub point : List ℕ → Found
point cs = cond (begins is_digit cs) (fraction 1 cs) (found (token Symbol) 1)

-- quoted

-- what may follow a backslash
abbrev pub is_escaped : ℕ → Bool
is_escaped c = is_one_of (codes "btnfr\"'\\") c || is_octal_digit c

abbrev pub is_bare : ℕ → ℕ → Bool
is_bare quote c = not (c == quote || c == backslash || is_line_end c)

-- how many characters of a string stand at the front: behind a backslash that isn't counted yet, or not
unfoldable pub inside_length : Bool → List ℕ → ℕ
inside_length escaped [] = 0
inside_length true (c ∷ cs) = elim (is_escaped c) [ true ↦ suc (suc (inside_length false cs)) | false ↦ 0 ]
inside_length false (c ∷ cs) = elim (c == backslash) [ true ↦ inside_length true cs | false ↦ elim (is_bare double_quote c) [ true ↦ suc (inside_length false cs) | false ↦ 0 ] ]

abbrev pub string : List ℕ → Found
string cs = let n = inside_length false cs in cond (begins (λ x. x == double_quote) (drop n cs)) (found (token StringLit) (suc (suc n))) nothing

-- the length of the escape behind a backslash, or 0
abbrev pub escape_length : List ℕ → ℕ
escape_length [] = 0
escape_length (c ∷ cs) = cond (is_octal_digit c && begins is_octal_digit cs) (cond (is_zero_to_three c && begins is_octal_digit (drop 1 cs)) 3 2) (cond (is_escaped c) 1 0)

-- the length of the one character of a character literal, or 0
abbrev pub one_length : List ℕ → ℕ
one_length [] = 0
one_length (c ∷ cs) = cond (c == backslash) (cond (nat_lt 0 (escape_length cs)) (suc (escape_length cs)) 0) (cond (is_bare single_quote c) 1 0)

abbrev pub character : List ℕ → Found
character cs = let n = one_length cs in cond (nat_lt 0 n && begins (λ x. x == single_quote) (drop n cs)) (found (token CharLit) (suc (suc n))) nothing

-- comments and symbols

-- the length of the comment tail at the front, or 0
unfoldable pub tail_length : Bool → List ℕ → ℕ
tail_length after_star [] = 0
tail_length after_star (c ∷ cs) = elim (after_star && c == slash) [ true ↦ 1 | false ↦ let n = tail_length (c == star) cs in cond (n == 0) 0 (suc n) ]

abbrev pub is_front : List ℕ → List ℕ → Bool
is_front [] cs = true
is_front (a ∷ word) [] = false
is_front (a ∷ word) (c ∷ cs) = a == c && is_front word cs

-- the length of the longest of the words that is at the front
abbrev pub longest_listed : List (List ℕ) → List ℕ → ℕ
longest_listed [] cs = 0
longest_listed (word ∷ words) cs = max (cond (is_front word cs) (length word) 0) (longest_listed words cs)

abbrev pub symbol_of : ℕ → Found
symbol_of zero = nothing
symbol_of (suc n) = found (token Symbol) (suc n)

abbrev pub symbol : List ℕ → Found
symbol cs = symbol_of (longest_listed symbols cs)

abbrev pub comment_of : ℕ → Found
comment_of zero = nothing
comment_of (suc n) = found traditional_comment (suc (suc (suc n)))

-- behind a slash
unfoldable pub slashed : List ℕ → Found
slashed [] = found (token Symbol) 1
slashed (c ∷ cs) = elim (c == slash) [ true ↦ found end_of_line_comment (suc (suc (run (λ x. not (is_line_end x)) cs))) | false ↦ elim (c == star) [ true ↦ comment_of (tail_length false cs) | false ↦ symbol (slash ∷ c ∷ cs) ] ]

-- the kinds of what a character may begin
pub data Family : Type 0 where
  a_white a_word a_number a_point a_string a_character a_slash a_symbol : Family

unfoldable pub family_of : ℕ → Family
family_of c = cond (is_white c) a_white (cond (is_letter c) a_word (cond (is_digit c) a_number (cond (c == full_stop) a_point (cond (c == double_quote) a_string (cond (c == single_quote) a_character (cond (c == slash) a_slash a_symbol))))))

abbrev pub next_in : Level → Family → ℕ → List ℕ → Found
next_in level a_white c cs = found white_space 1
next_in level a_word c cs = word level c cs
next_in level a_number c cs = number c cs
next_in level a_point c cs = point cs
next_in level a_string c cs = string cs
next_in level a_character c cs = character cs
next_in level a_slash c cs = slashed cs
next_in level a_symbol c cs = symbol (c ∷ cs)

-- the next element
abbrev pub next_of : Level → List ℕ → Found
next_of level [] = nothing
next_of level (c ∷ cs) = next_in level (family_of c) c cs
