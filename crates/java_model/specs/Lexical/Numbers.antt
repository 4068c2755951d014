-- Integer literals (JLS 3.10.1) and floating-point literals (JLS 3.10.2).
use Rattle.std.specs.Prelude.{◌≡◌, ℕ, Bool, false, ◌&&◌, ◌||◌, ◌⊎◌, IsTrue, List, [], ◌∷◌, ◌++◌, codes}
use Rattle.std.specs.List.{list_all}
use Rattle.java_model.specs.Lexical.Characters.{full_stop, is_one_of, is_digit, is_nonzero_digit, is_octal_digit, is_hex_digit}

-- one or more that pass the test
abbrev pub is_run : (ℕ → Bool) → List ℕ → Bool
is_run test [] = false
is_run test (c ∷ cs) = test c && list_all test cs

-- JLS 3.10.1: `0`, or a digit from 1 to 9 and then digits
abbrev pub is_decimal : List ℕ → Bool
is_decimal [] = false
is_decimal (c ∷ []) = is_digit c
is_decimal (c ∷ d ∷ cs) = is_nonzero_digit c && is_run is_digit (d ∷ cs)

-- JLS 3.10.1: `0x` or `0X`, and hexadecimal digits
abbrev pub is_hex : List ℕ → Bool
is_hex [] = false
is_hex (c ∷ []) = false
is_hex (c ∷ d ∷ cs) = is_one_of (codes "0") c && is_one_of (codes "xX") d && is_run is_hex_digit cs

-- JLS 3.10.1: `0`, and octal digits
abbrev pub is_octal : List ℕ → Bool
is_octal [] = false
is_octal (c ∷ cs) = is_one_of (codes "0") c && is_run is_octal_digit cs

-- JLS 3.10.1: a decimal, hexadecimal or octal numeral
abbrev pub is_numeral : List ℕ → Bool
is_numeral spelling = is_decimal spelling || is_hex spelling || is_octal spelling

-- JLS 3.10.1: of type int without a suffix. Its range isn't looked at.
abbrev pub IsIntLiteral : List ℕ → Type 0
IsIntLiteral spelling = IsTrue (is_numeral spelling)

-- JLS 3.10.1: of type long with the suffix `l` or `L`
pub record IsLongLiteral (spelling : List ℕ) : Type 0 where
  pub numeral : List ℕ
  pub suffix : ℕ
  pub spelled : spelling ≡ numeral ++ suffix ∷ []
  pub valid : IsTrue (is_numeral numeral)
  pub long : IsTrue (is_one_of (codes "lL") suffix)

-- JLS 3.10.2: Digits
abbrev pub is_digits : List ℕ → Bool
is_digits = is_run is_digit

-- JLS 3.10.2: ExponentPart: `e` or `E`, maybe a sign, and digits
pub record IsExponent (spelling : List ℕ) : Type 0 where
  pub letter : ℕ
  pub sign : List ℕ
  pub digits : List ℕ
  pub spelled : spelling ≡ letter ∷ (sign ++ digits)
  pub marked : IsTrue (is_one_of (codes "eE") letter)
  pub signed : (sign ≡ []) ⊎ (sign ≡ codes "+") ⊎ (sign ≡ codes "-")
  pub valid : IsTrue (is_digits digits)

-- JLS 3.10.2: FloatTypeSuffix
abbrev pub IsFloatSuffix : List ℕ → Type 0
IsFloatSuffix suffix = (c : ℕ) × (suffix ≡ c ∷ []) × IsTrue (is_one_of (codes "fFdD") c)

-- there, or left out
abbrev pub IsOptional : (List ℕ → Type 0) → List ℕ → Type 0
IsOptional Is spelling = (spelling ≡ []) ⊎ Is spelling

-- JLS 3.10.2: the four forms, with their suffix: `1.5e3f`, `.5e3f`, `1e3` and `1f`. Of the parts that
-- JLS marks as optional each may be left out.
pub data IsFloating : List ℕ → List ℕ → Type 0 where
  whole_point : {spelling suffix : List ℕ} (whole fraction exponent : List ℕ)
      → spelling ≡ whole ++ full_stop ∷ (fraction ++ (exponent ++ suffix))
      → IsTrue (is_digits whole)
      → IsTrue (list_all is_digit fraction)
      → IsOptional IsExponent exponent
      → IsOptional IsFloatSuffix suffix
      → IsFloating spelling suffix
  point_fraction : {spelling suffix : List ℕ} (fraction exponent : List ℕ)
      → spelling ≡ full_stop ∷ (fraction ++ (exponent ++ suffix))
      → IsTrue (is_digits fraction)
      → IsOptional IsExponent exponent
      → IsOptional IsFloatSuffix suffix
      → IsFloating spelling suffix
  whole_exponent : {spelling suffix : List ℕ} (whole exponent : List ℕ)
      → spelling ≡ whole ++ (exponent ++ suffix)
      → IsTrue (is_digits whole)
      → IsExponent exponent
      → IsOptional IsFloatSuffix suffix
      → IsFloating spelling suffix
  whole_suffix : {spelling suffix : List ℕ} (whole exponent : List ℕ)
      → spelling ≡ whole ++ (exponent ++ suffix)
      → IsTrue (is_digits whole)
      → IsOptional IsExponent exponent
      → IsFloatSuffix suffix
      → IsFloating spelling suffix

-- JLS 3.10.2: of type float with the suffix `f` or `F`
abbrev pub IsFloatLiteral : List ℕ → Type 0
IsFloatLiteral spelling = (c : ℕ) × IsFloating spelling (c ∷ []) × IsTrue (is_one_of (codes "fF") c)

-- JLS 3.10.2: of type double without a suffix, or with `d` or `D`
abbrev pub IsDoubleLiteral : List ℕ → Type 0
IsDoubleLiteral spelling =
    (suffix : List ℕ) × IsFloating spelling suffix × IsTrue (list_all (is_one_of (codes "dD")) suffix)
