-- Classes of characters, of which a scanner passes runs.
use Rattle.std.specs.Prelude.{ℕ, Bool, not, ◌==◌, codes}
use Rattle.std.specs.Char.{is_ascii_alphabetic}
use Rattle.java_model.specs.Lexical.Characters.{is_letter_or_digit, is_digit, is_octal_digit, is_hex_digit, is_line_end, is_white, is_one_of, double_quote, single_quote, full_stop, letter_u, slash, star, backslash, is_zero_to_three}
use Rattle.java_model.proofs.Lexical.Reading.{is_escaped}
use Rattle.java_scan.specs.declared.class.Class.{Class}
use Rattle.java_scan.specs.declared.class.Class.TheVariants.{LetterOrDigit, AsciiLetter, Digit, OctalDigit, HexDigit, NoLineEnd, White, Zero, HexMark, ExponentMark, Sign, FloatSuffix, DoubleSuffix, LongSuffix, Point, DoubleQuote, SingleQuote, LetterU, Assign, Slash, Star, Backslash, Escaped, ZeroToThree}

-- whether a character is of the class
unfoldable pub passes : Class → ℕ → Bool
passes LetterOrDigit = is_letter_or_digit
passes AsciiLetter = is_ascii_alphabetic
passes Digit = is_digit
passes OctalDigit = is_octal_digit
passes HexDigit = is_hex_digit
passes NoLineEnd = λ c. not (is_line_end c)
passes White = is_white
passes Zero = λ c. c == 48
passes HexMark = is_one_of (codes "xX")
passes ExponentMark = is_one_of (codes "eE")
passes Sign = is_one_of (codes "+-")
passes FloatSuffix = is_one_of (codes "fF")
passes DoubleSuffix = is_one_of (codes "dD")
passes LongSuffix = is_one_of (codes "lL")
passes Point = λ c. c == full_stop
passes DoubleQuote = λ c. c == double_quote
passes SingleQuote = λ c. c == single_quote
passes LetterU = λ c. c == letter_u
passes Assign = λ c. c == 61
passes Slash = λ c. c == slash
passes Star = λ c. c == star
passes Backslash = λ c. c == backslash
passes Escaped = is_escaped
passes ZeroToThree = is_zero_to_three
