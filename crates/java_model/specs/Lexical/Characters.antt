-- Classes of characters, as tests on a character's code, and the characters that are named.
use Rattle.std.specs.Prelude.{ℕ, Bool, ◌&&◌, ◌||◌, ◌==◌, nat_le, List, codes}
use Rattle.std.specs.List.{list_any}
use Rattle.unicode_ident.specs.Ident.{is_xid_start, is_xid_continue}

abbrev pub backslash : ℕ
backslash = 92

-- the quote of strings, and that of character literals
abbrev pub double_quote : ℕ
double_quote = 34

abbrev pub single_quote : ℕ
single_quote = 39

abbrev pub letter_u : ℕ
letter_u = 117

abbrev pub slash : ℕ
slash = 47

abbrev pub star : ℕ
star = 42

abbrev pub full_stop : ℕ
full_stop = 46

abbrev pub is_within : ℕ → ℕ → ℕ → Bool
is_within first last c = nat_le first c && nat_le c last

-- whether it is one of these characters
abbrev pub is_one_of : List ℕ → ℕ → Bool
is_one_of characters c = list_any (λ x. x == c) characters

-- JLS 3.4: CR or LF
abbrev pub is_line_end : ℕ → Bool
is_line_end c = (c == 10) || (c == 13)

-- JLS 3.6: space, tab, form feed or a line end
abbrev pub is_white : ℕ → Bool
is_white c = (c == 32) || (c == 9) || (c == 12) || is_line_end c

-- JLS 3.5: Sub, the control character that may end a text
abbrev pub is_sub : ℕ → Bool
is_sub c = c == 26

-- JLS 3.8: a Java letter, and a Java letter-or-digit
abbrev pub is_letter : ℕ → Bool
is_letter c = is_one_of (codes "$_") c || is_xid_start c

abbrev pub is_letter_or_digit : ℕ → Bool
is_letter_or_digit c = is_one_of (codes "$") c || is_xid_continue c

-- JLS 3.10.1
abbrev pub is_digit : ℕ → Bool
is_digit c = is_within 48 57 c

abbrev pub is_nonzero_digit : ℕ → Bool
is_nonzero_digit c = is_within 49 57 c

abbrev pub is_octal_digit : ℕ → Bool
is_octal_digit c = is_within 48 55 c

abbrev pub is_hex_digit : ℕ → Bool
is_hex_digit c = is_digit c || is_within 65 70 c || is_within 97 102 c

-- JLS 3.10.6
abbrev pub is_zero_to_three : ℕ → Bool
is_zero_to_three c = is_within 48 51 c
