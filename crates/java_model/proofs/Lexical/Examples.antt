-- Texts whose tokens or fault the prover computes.
use Rattle.std.proofs.Common.{[], ◌∷◌, codes, refl, encode_utf8_all}
use Rattle.java_tree.specs.declared.outline.Level.TheVariants.{Java13, Java14}
use Rattle.java_tree.specs.declared.token.TokenKind.TheVariants.{Identifier, Keyword, IntLit, LongLit, FloatLit, DoubleLit, CharLit, StringLit, Symbol}
use Rattle.java_model.specs.Lexical.Tokens.{HasTokens}
use Rattle.java_model.specs.Lexical.Faults.{HasFault}
use Rattle.java_model.specs.Lexical.Faults.LexicalFault.{bad_char, unclosed}
use Rattle.java_model.proofs.Lexical.Computing.{computing, part}
use Rattle.java_model.proofs.Lexical.TextReading.{tokens_read, fault_read}

-- an escape in a name
escaped_name : HasTokens Java14 (codes "class \\u0041 {}") (part Keyword (codes "class") 0 5 ∷ part Identifier (codes "A") 6 12 ∷ part Symbol (codes "{") 13 14 ∷ part Symbol (codes "}") 14 15 ∷ [])
unfolding computing
escaped_name = tokens_read refl

-- the longest first
three_pluses : HasTokens Java14 (codes "a+++b") (part Identifier (codes "a") 0 1 ∷ part Symbol (codes "++") 1 3 ∷ part Symbol (codes "+") 3 4 ∷ part Identifier (codes "b") 4 5 ∷ [])
unfolding computing
three_pluses = tokens_read refl

shift_assign : HasTokens Java14 (codes ">>>=") (part Symbol (codes ">>>=") 0 4 ∷ [])
unfolding computing
shift_assign = tokens_read refl

hex_long : HasTokens Java14 (codes "0x1FL") (part LongLit (codes "0x1FL") 0 5 ∷ [])
unfolding computing
hex_long = tokens_read refl

no_fraction : HasTokens Java14 (codes "1.e2f") (part FloatLit (codes "1.e2f") 0 5 ∷ [])
unfolding computing
no_fraction = tokens_read refl

nine_point : HasTokens Java14 (codes "09.5") (part DoubleLit (codes "09.5") 0 4 ∷ [])
unfolding computing
nine_point = tokens_read refl

nought_nine : HasTokens Java14 (codes "09") (part IntLit (codes "0") 0 1 ∷ part IntLit (codes "9") 1 2 ∷ [])
unfolding computing
nought_nine = tokens_read refl

octal_character : HasTokens Java14 (codes "'\\177'") (part CharLit (codes "'\\177'") 0 6 ∷ [])
unfolding computing
octal_character = tokens_read refl

octal_ends : HasFault Java14 (codes "'\\477'") (unclosed 0)
unfolding computing
octal_ends = fault_read refl

-- an escaped surrogate without a partner is U+FFFD, and a pair is one character
lone_surrogate : HasTokens Java14 (codes "\"\\ud800\"") (part StringLit (encode_utf8_all (34 ∷ 0xfffd ∷ 34 ∷ [])) 0 8 ∷ [])
unfolding computing
lone_surrogate = tokens_read refl

surrogate_pair : HasTokens Java14 (codes "'\\uD83D\\uDE00'") (part CharLit (encode_utf8_all (39 ∷ 0x1f600 ∷ 39 ∷ [])) 0 14 ∷ [])
unfolding computing
surrogate_pair = tokens_read refl

-- comments and strings that don't end
open_comment : HasFault Java14 (codes "class A {} /* x") (unclosed 11)
unfolding computing
open_comment = fault_read refl

line_in_string : HasFault Java14 (codes "\"a\n\"") (unclosed 0)
unfolding computing
line_in_string = fault_read refl

escaped_line_in_string : HasFault Java14 (codes "x \"\\u000a\"") (unclosed 2)
unfolding computing
escaped_line_in_string = fault_read refl

-- a backslash behind a backslash begins no escape
two_backslashes : HasTokens Java14 (codes "\"\\\\u0041\"") (part StringLit (codes "\"\\\\u0041\"") 0 9 ∷ [])
unfolding computing
two_backslashes = tokens_read refl

two_backslashes_alone : HasFault Java14 (codes "\\\\u0041") (bad_char 0)
unfolding computing
two_backslashes_alone = fault_read refl

-- the last U+001A is ignored, once
last_sub : HasTokens Java14 (97 ∷ 26 ∷ []) (part Identifier (codes "a") 0 1 ∷ [])
unfolding computing
last_sub = tokens_read refl

escaped_sub : HasTokens Java14 (codes "a\\u001a") (part Identifier (codes "a") 0 1 ∷ [])
unfolding computing
escaped_sub = tokens_read refl

two_subs : HasFault Java14 (97 ∷ 26 ∷ 26 ∷ []) (bad_char 1)
unfolding computing
two_subs = fault_read refl

-- `assert` by level
assert_keyword : HasTokens Java14 (codes "assert") (part Keyword (codes "assert") 0 6 ∷ [])
unfolding computing
assert_keyword = tokens_read refl

assert_name : HasTokens Java13 (codes "assert") (part Identifier (codes "assert") 0 6 ∷ [])
unfolding computing
assert_name = tokens_read refl
