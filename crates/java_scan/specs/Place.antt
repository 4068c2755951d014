-- A place in a text in which each character stands for itself.
use Rattle.std.specs.Prelude.{ℕ, zero, suc, ◌+◌, Bool, not, ◌==◌, List, [], ◌∷◌, drop, chars, Option, Some, None}
use Rattle.std.specs.Char.{len_utf8}
use Rattle.java_model.specs.Lexical.Characters.{backslash}
use Rattle.java_model.proofs.Lexical.Reading.{run}

pub record Place : Type 0 where
  -- the bytes of the text
  pub text : List ℕ
  -- the byte at which it is
  pub at : ℕ
  -- the characters that are left
  pub left : List ℕ

abbrev pub place_in : List ℕ → ℕ → Place
place_in bytes offset = record { text = bytes; at = offset; left = chars (drop offset bytes) }

abbrev pub first : List ℕ → Option ℕ
first [] = None
first (c ∷ cs) = Some c

abbrev pub after_first : Place → List ℕ → Place
after_first p [] = p
after_first p (c ∷ cs) = record p { at = p.at + len_utf8 c; left = cs }

-- after one character, if one is left
unfoldable pub next : Place → Place
next p = after_first p p.left

-- after so many characters
unfoldable pub advance : ℕ → Place → Place
advance zero p = p
advance (suc n) p = advance n (next p)

-- after the run of characters that pass a test
abbrev pub after_run : (ℕ → Bool) → Place → Place
after_run test p = advance (run test p.left) p

-- any character but this one
abbrev pub differs : ℕ → ℕ → Bool
differs mark = λ c. not (c == mark)

abbrev pub no_backslash : ℕ → Bool
no_backslash = differs backslash
