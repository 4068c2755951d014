-- Texts at the edges of the rules, whose tokens or fault the prover computes.
use Rattle.std.proofs.Common.{[], ◌∷◌, codes, refl}
use Rattle.java_tree.specs.declared.outline.Level.TheVariants.{Java14}
use Rattle.java_tree.specs.declared.token.TokenKind.TheVariants.{Identifier, Keyword, IntLit, LongLit, FloatLit, DoubleLit, CharLit, StringLit, Symbol}
use Rattle.java_model.specs.Lexical.Tokens.{HasTokens}
use Rattle.java_model.specs.Lexical.Faults.{HasFault}
use Rattle.java_model.specs.Lexical.Faults.LexicalFault.{bad_escape, bad_char, unclosed}
use Rattle.java_model.proofs.Lexical.Computing.{computing, part}
use Rattle.java_model.proofs.Lexical.TextReading.{tokens_read, fault_read}

-- no token at all
empty_text : HasTokens Java14 [] []
unfolding computing
empty_text = tokens_read refl

sub_alone : HasTokens Java14 (26 ∷ []) []
unfolding computing
sub_alone = tokens_read refl

line_comment_at_end : HasTokens Java14 (codes "x//") (part Identifier (codes "x") 0 1 ∷ [])
unfolding computing
line_comment_at_end = tokens_read refl

comments_alone : HasTokens Java14 (codes "/**/ /***/ /* // */") []
unfolding computing
comments_alone = tokens_read refl

-- a comment that doesn't end, also where its slash and its star are one
slash_star_slash : HasFault Java14 (codes "/*/") (unclosed 0)
unfolding computing
slash_star_slash = fault_read refl

comment_at_sub : HasFault Java14 (47 ∷ 42 ∷ 26 ∷ []) (unclosed 0)
unfolding computing
comment_at_sub = fault_read refl

escaped_star : HasFault Java14 (codes "/\\u002a x") (unclosed 0)
unfolding computing
escaped_star = fault_read refl

-- Unicode escapes
three_backslashes : HasTokens Java14 (codes "\"\\\\\\u0041\"") (part StringLit (codes "\"\\\\A\"") 0 10 ∷ [])
unfolding computing
three_backslashes = tokens_read refl

escaped_backslash : HasFault Java14 (codes "\"\\u005cu0041\"") (bad_char 1)
unfolding computing
escaped_backslash = fault_read refl

escaped_backslash_twice : HasTokens Java14 (codes "\"\\u005c\\u005c\"") (part StringLit (codes "\"\\\\\"") 0 14 ∷ [])
unfolding computing
escaped_backslash_twice = tokens_read refl

many_u : HasTokens Java14 (codes "\\uuu0041") (part Identifier (codes "A") 0 8 ∷ [])
unfolding computing
many_u = tokens_read refl

escape_without_digits : HasFault Java14 (codes "# \\u12") (bad_escape 2)
unfolding computing
escape_without_digits = fault_read refl

escape_in_comment : HasFault Java14 (codes "// \\u00g0") (bad_escape 3)
unfolding computing
escape_in_comment = fault_read refl

escape_at_end : HasFault Java14 (codes "a\\u") (bad_escape 1)
unfolding computing
escape_at_end = fault_read refl

stray_surrogate : HasFault Java14 (codes "a\\ud800b") (bad_char 1)
unfolding computing
stray_surrogate = fault_read refl

high_high_low : HasTokens Java14 (codes "\"\\ud83d\\ud83d\\ude00\"") (part StringLit (34 ∷ 239 ∷ 191 ∷ 189 ∷ 240 ∷ 159 ∷ 152 ∷ 128 ∷ 34 ∷ []) 0 20 ∷ [])
unfolding computing
high_high_low = tokens_read refl

low_high : HasTokens Java14 (codes "\"\\ude00\\ud83d\"") (part StringLit (34 ∷ 239 ∷ 191 ∷ 189 ∷ 239 ∷ 191 ∷ 189 ∷ 34 ∷ []) 0 14 ∷ [])
unfolding computing
low_high = tokens_read refl

-- numbers
hex_without_digits : HasTokens Java14 (codes "0x") (part IntLit (codes "0") 0 1 ∷ part Identifier (codes "x") 1 2 ∷ [])
unfolding computing
hex_without_digits = tokens_read refl

exponent_without_digits : HasTokens Java14 (codes "1e+") (part IntLit (codes "1") 0 1 ∷ part Identifier (codes "e") 1 2 ∷ part Symbol (codes "+") 2 3 ∷ [])
unfolding computing
exponent_without_digits = tokens_read refl

point_name : HasTokens Java14 (codes "1.e") (part DoubleLit (codes "1.") 0 2 ∷ part Identifier (codes "e") 2 3 ∷ [])
unfolding computing
point_name = tokens_read refl

two_points : HasTokens Java14 (codes "1..2") (part DoubleLit (codes "1.") 0 2 ∷ part DoubleLit (codes ".2") 2 4 ∷ [])
unfolding computing
two_points = tokens_read refl

hex_point : HasTokens Java14 (codes "0x1.5") (part IntLit (codes "0x1") 0 3 ∷ part DoubleLit (codes ".5") 3 5 ∷ [])
unfolding computing
hex_point = tokens_read refl

octal_long : HasTokens Java14 (codes "0777L") (part LongLit (codes "0777L") 0 5 ∷ [])
unfolding computing
octal_long = tokens_read refl

octal_and_digit : HasTokens Java14 (codes "0128") (part IntLit (codes "012") 0 3 ∷ part IntLit (codes "8") 3 4 ∷ [])
unfolding computing
octal_and_digit = tokens_read refl

float_of_nine : HasTokens Java14 (codes "09f") (part FloatLit (codes "09f") 0 3 ∷ [])
unfolding computing
float_of_nine = tokens_read refl

-- character literals
no_character : HasFault Java14 (codes "''") (bad_char 0)
unfolding computing
no_character = fault_read refl

quote_at_end : HasFault Java14 (codes "'") (unclosed 0)
unfolding computing
quote_at_end = fault_read refl

quote_at_line_end : HasFault Java14 (codes "'\n'") (unclosed 0)
unfolding computing
quote_at_line_end = fault_read refl

two_characters : HasFault Java14 (codes "'ab'") (unclosed 0)
unfolding computing
two_characters = fault_read refl

bad_character_escape : HasFault Java14 (codes "'\\8'") (bad_char 1)
unfolding computing
bad_character_escape = fault_read refl

escaped_quote_literal : HasTokens Java14 (codes "'\\''") (part CharLit (codes "'\\''") 0 4 ∷ [])
unfolding computing
escaped_quote_literal = tokens_read refl

quote_by_escape : HasFault Java14 (codes "'\\u0027'") (bad_char 0)
unfolding computing
quote_by_escape = fault_read refl

past_the_plane : HasTokens Java14 (39 ∷ 240 ∷ 159 ∷ 152 ∷ 128 ∷ 39 ∷ []) (part CharLit (39 ∷ 240 ∷ 159 ∷ 152 ∷ 128 ∷ 39 ∷ []) 0 6 ∷ [])
unfolding computing
past_the_plane = tokens_read refl

-- strings
escape_of_nothing : HasFault Java14 (codes "\"\\") (bad_char 1)
unfolding computing
escape_of_nothing = fault_read refl

escape_of_line_end : HasFault Java14 (codes "\"\\\n\"") (bad_char 1)
unfolding computing
escape_of_line_end = fault_read refl

escape_before_end : HasFault Java14 (codes "\"\\q") (bad_char 1)
unfolding computing
escape_before_end = fault_read refl

octal_in_string : HasTokens Java14 (codes "\"\\477\"") (part StringLit (codes "\"\\477\"") 0 6 ∷ [])
unfolding computing
octal_in_string = tokens_read refl

quote_in_string : HasTokens Java14 (codes "\"a\\\"b\"") (part StringLit (codes "\"a\\\"b\"") 0 6 ∷ [])
unfolding computing
quote_in_string = tokens_read refl

-- words and strays
past_ascii : HasTokens Java14 (195 ∷ 169 ∷ 32 ∷ 61 ∷ 32 ∷ 49 ∷ 59 ∷ []) (part Identifier (195 ∷ 169 ∷ []) 0 2 ∷ part Symbol (codes "=") 3 4 ∷ part IntLit (codes "1") 5 6 ∷ part Symbol (codes ";") 6 7 ∷ [])
unfolding computing
past_ascii = tokens_read refl

digit_first : HasFault Java14 (224 ∷ 165 ∷ 166 ∷ 97 ∷ []) (bad_char 0)
unfolding computing
digit_first = fault_read refl

digit_inside : HasTokens Java14 (97 ∷ 224 ∷ 165 ∷ 166 ∷ []) (part Identifier (97 ∷ 224 ∷ 165 ∷ 166 ∷ []) 0 4 ∷ [])
unfolding computing
digit_inside = tokens_read refl

vertical_tab : HasFault Java14 (97 ∷ 11 ∷ 98 ∷ []) (bad_char 1)
unfolding computing
vertical_tab = fault_read refl

at_sign : HasFault Java14 (codes "@") (bad_char 0)
unfolding computing
at_sign = fault_read refl

lone_backslash : HasFault Java14 (codes "a \\ b") (bad_char 2)
unfolding computing
lone_backslash = fault_read refl

not_keywords : HasTokens Java14 (codes "enum $ _") (part Identifier (codes "enum") 0 4 ∷ part Identifier (codes "$") 5 6 ∷ part Identifier (codes "_") 7 8 ∷ [])
unfolding computing
not_keywords = tokens_read refl

literal_words : HasTokens Java14 (codes "true false null") (part Keyword (codes "true") 0 4 ∷ part Keyword (codes "false") 5 10 ∷ part Keyword (codes "null") 11 15 ∷ [])
unfolding computing
literal_words = tokens_read refl
