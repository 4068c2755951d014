-- What stands at a place of a text, and the place after it: a function for each kind of element.
use Rattle.std.specs.Prelude.{◌≡◌, ℕ, suc, Bool, false, ◌&&◌, ◌==◌, nat_lt, codes, if◌then◌else◌, List, drop, take, Option, Some, None, Result, Ok, Err}
use Rattle.java_tree.specs.declared.outline.Level.{Level}
use Rattle.java_tree.specs.declared.token.TokenKind.{TokenKind}
use Rattle.java_tree.specs.declared.token.TokenKind.TheVariants.{IntLit, LongLit, FloatLit, DoubleLit, CharLit, StringLit, Symbol}
use Rattle.java_model.specs.Lexical.Characters.{is_one_of}
use Rattle.java_model.specs.Lexical.Words.{is_reserved}
use Rattle.java_model.specs.Lexical.Symbols.{symbols}
use Rattle.java_model.specs.Lexical.Faults.{LexicalFault, is_line_over}
use Rattle.java_model.specs.Lexical.Faults.LexicalFault.{bad_escape, bad_char, unclosed}
use Rattle.java_model.proofs.Lexical.Reading.{run, begins, exponent_length, inside_length, one_length, tail_length, longest_listed, word_kind, Family}
use Rattle.java_model.proofs.Lexical.Reading.Family.{a_white, a_word, a_number, a_point, a_string, a_character, a_slash, a_symbol}
use Rattle.java_scan.specs.declared.class.Class.TheVariants.{LetterOrDigit, Digit, OctalDigit, HexDigit, NoLineEnd, Zero, HexMark, FloatSuffix, DoubleSuffix, LongSuffix, Point, DoubleQuote, SingleQuote, Slash, Star, Assign, Backslash, Escaped, ZeroToThree}
use Rattle.java_scan.specs.declared.symbols.SymbolStart.{SymbolStart}
use Rattle.java_scan.specs.declared.symbols.SymbolStart.TheVariants.{Alone, Assigning, Doubling, Less, Greater, Nothing}
use Rattle.java_scan.specs.declared.fault.ScanFault.{ScanFault}
use Rattle.java_scan.specs.declared.fault.ScanFault.TheVariants.{BadEscape, BadChar, Unclosed, NoMemory}
use Rattle.java_scan.specs.Classes.{passes}
use Rattle.java_scan.specs.Place.{Place, next, advance, after_run}

pub data Step : Type 0 where
  -- white space or a comment
  passed : Place → Step
  taken : TokenKind → Place → Step
  failed : LexicalFault → Step

-- the answer is this step: the kind of a token, if it is one
abbrev pub Gives : Result (Option TokenKind) ScanFault → Place → Step → Type 0
Gives (Ok None) p step = step ≡ passed p
Gives (Ok (Some kind)) p step = step ≡ taken kind p
Gives (Err (BadEscape at)) p step = step ≡ failed (bad_escape at)
Gives (Err (BadChar at)) p step = step ≡ failed (bad_char at)
Gives (Err (Unclosed at)) p step = step ≡ failed (unclosed at)
Gives (Err NoMemory) p step = ⊥

-- words

abbrev pub word_length : List ℕ → ℕ
word_length cs = suc (run (passes LetterOrDigit) (drop 1 cs))

unfoldable pub word_step : Level → Place → Step
word_step level p = taken (word_kind (is_reserved level (take (word_length p.left) p.left))) (advance (word_length p.left) p)

-- numbers

-- after one character, if it passes a test
unfoldable pub after_if : (ℕ → Bool) → Place → Place
after_if test p = if begins test p.left then next p else p

unfoldable pub after_exponent : Place → Place
after_exponent p = advance (exponent_length p.left) p

unfoldable pub has_exponent : Place → Bool
has_exponent p = nat_lt 0 (exponent_length p.left)

unfoldable pub int_end_step : Place → Step
int_end_step p = taken (if begins (passes LongSuffix) p.left then LongLit else IntLit) (after_if (passes LongSuffix) p)

-- after the suffix `f` or `F`, if it is there
unfoldable pub float_suffix_step : Place → Step
float_suffix_step p =
    if begins (passes FloatSuffix) p.left then taken FloatLit (after_if (passes FloatSuffix) p) else
    taken DoubleLit (after_if (passes DoubleSuffix) (after_if (passes FloatSuffix) p))

unfoldable pub fraction_step : Place → Step
fraction_step p = float_suffix_step (after_exponent (after_run (passes Digit) p))

unfoldable pub integer_step : Place → Place → Step
integer_step start end =
    if begins (passes Zero) start.left then int_end_step (after_run (passes OctalDigit) (after_if (passes Zero) start)) else int_end_step end

-- after digits without a full stop
unfoldable pub whole_step : Place → Place → Step
whole_step start end =
    if has_exponent end then float_suffix_step (after_exponent end) else
    (if begins (passes FloatSuffix) (after_exponent end).left then float_suffix_step (after_exponent end) else
    (if begins (passes DoubleSuffix) (after_exponent end).left then float_suffix_step (after_exponent end) else integer_step start (after_exponent end)))

-- after digits
unfoldable pub digits_step : Place → Place → Step
digits_step start end =
    if begins (passes Point) end.left then fraction_step (after_if (passes Point) end) else whole_step start (after_if (passes Point) end)

unfoldable pub decimal_step : Place → Step
decimal_step p = digits_step p (after_run (passes Digit) p)

abbrev pub after_hex_mark : Place → Place
after_hex_mark p = after_if (passes HexMark) (after_if (passes Zero) p)

unfoldable pub sees_hex : Place → Bool
sees_hex p = begins (passes Zero) p.left && begins (passes HexMark) (after_if (passes Zero) p).left && begins (passes HexDigit) (after_hex_mark p).left

unfoldable pub number_step : Place → Step
number_step p = if sees_hex p then int_end_step (after_run (passes HexDigit) (after_hex_mark p)) else decimal_step p

unfoldable pub point_step : Place → Step
point_step p = if begins (passes Digit) (after_if (passes Point) p).left then fraction_step (after_if (passes Point) p) else taken Symbol (after_if (passes Point) p)

-- quoted

unfoldable pub after_string_characters : Place → Place
after_string_characters p = advance (inside_length false p.left) p

unfoldable pub string_end_step : ℕ → Place → Step
string_end_step at p =
    if begins (passes DoubleQuote) p.left then taken StringLit (after_if (passes DoubleQuote) p) else
    (if is_line_over (after_if (passes DoubleQuote) p).left then failed (unclosed at) else failed (bad_char (after_if (passes DoubleQuote) p).at))

unfoldable pub string_step : Place → Step
string_step p = string_end_step p.at (after_string_characters (after_if (passes DoubleQuote) p))

-- after a backslash and what it escapes in a string, if it escapes something
unfoldable pub sees_escape : Place → Bool
sees_escape p = begins (passes Escaped) (after_if (passes Backslash) p).left

unfoldable pub after_escape : Place → Place
after_escape p = after_if (passes Escaped) (after_if (passes Backslash) p)

-- after what a backslash escapes in a character literal: more digits than one may stand there
unfoldable pub after_octal : Place → Place → Place
after_octal start p =
    if begins (passes OctalDigit) start.left then
    (if begins (passes OctalDigit) p.left then
    (if begins (passes ZeroToThree) start.left then after_if (passes OctalDigit) (after_if (passes OctalDigit) p) else after_if (passes OctalDigit) p)
    else after_if (passes OctalDigit) p)
    else p

unfoldable pub after_escaped : Place → Place
after_escaped p = if begins (passes Escaped) p.left then after_octal p (after_if (passes Escaped) p) else after_if (passes Escaped) p

unfoldable pub after_one : Place → Place
after_one p = advance (one_length p.left) p

unfoldable pub has_one : Place → Bool
has_one p = nat_lt 0 (one_length p.left)

unfoldable pub character_end_step : ℕ → Place → Step
character_end_step at p =
    if is_line_over p.left then failed (unclosed at) else
    (if begins (passes SingleQuote) p.left then failed (bad_char at) else
    (if has_one p then (if begins (passes SingleQuote) (after_one p).left then taken CharLit (after_if (passes SingleQuote) (after_one p)) else failed (unclosed at)) else failed (bad_char (after_one p).at)))

unfoldable pub character_step : Place → Step
character_step p = character_end_step p.at (after_if (passes SingleQuote) p)

-- comments and symbols

-- after the rest of a comment, if it ends: after a star, or not
unfoldable pub tail_end : Bool → Place → Option Place
tail_end after_star p = if nat_lt 0 (tail_length after_star p.left) then Some (advance (tail_length after_star p.left) p) else None

abbrev pub comment_step : ℕ → Option Place → Step
comment_step at None = failed (unclosed at)
comment_step at (Some end) = passed end

-- after a slash and no star
abbrev pub after_star_step : ℕ → Place → Place → Step
after_star_step at star after = if begins (passes Star) star.left then comment_step at (tail_end false after) else taken Symbol (after_if (passes Assign) after)

unfoldable pub after_slash_step : ℕ → Place → Step
after_slash_step at p =
    if begins (passes Slash) p.left then passed (after_run (passes NoLineEnd) (after_if (passes Slash) p)) else
    after_star_step at (after_if (passes Slash) p) (after_if (passes Star) (after_if (passes Slash) p))

unfoldable pub slashed_step : Place → Step
slashed_step p = after_slash_step p.at (after_if (passes Slash) p)

-- after `>>`
unfoldable pub greater_end : Place → Place
greater_end p = after_if (passes Assign) (after_if (λ x. x == 62) p)

-- after what may follow the first character of a symbol
unfoldable pub symbol_end : SymbolStart → ℕ → Place → Place
symbol_end Alone c p = p
symbol_end Nothing c p = p
symbol_end Assigning c p = after_if (passes Assign) p
symbol_end Doubling c p =
    if begins (λ x. x == c) p.left then after_if (λ x. x == c) p else after_if (passes Assign) (after_if (λ x. x == c) p)
symbol_end Less c p = after_if (passes Assign) (after_if (λ x. x == 60) p)
symbol_end Greater c p =
    if begins (λ x. x == 62) p.left then greater_end (after_if (λ x. x == 62) p) else after_if (passes Assign) (after_if (λ x. x == 62) p)

unfoldable pub symbol_start : ℕ → SymbolStart
symbol_start c =
    if is_one_of (codes "(){}[];,.~?:") c then Alone else
    (if is_one_of (codes "=!*/^%") c then Assigning else
    (if is_one_of (codes "+-&|") c then Doubling else
    (if c == 60 then Less else (if c == 62 then Greater else Nothing))))

unfoldable pub after_symbol : Place → Place
after_symbol p = advance (longest_listed symbols p.left) p

unfoldable pub has_symbol : Place → Bool
has_symbol p = nat_lt 0 (longest_listed symbols p.left)

unfoldable pub symbol_step : Place → Step
symbol_step p = if has_symbol p then taken Symbol (after_symbol p) else failed (bad_char (after_symbol p).at)

-- the element at a place, by its family
unfoldable pub family_step : Level → Family → Place → Step
family_step level a_white p = passed (next p)
family_step level a_word p = word_step level p
family_step level a_number p = number_step p
family_step level a_point p = point_step p
family_step level a_string p = string_step p
family_step level a_character p = character_step p
family_step level a_slash p = slashed_step p
family_step level a_symbol p = symbol_step p
