-- Whether a word is reserved, by its bytes and by those of its first letter.
use Rattle.std.proofs.Common.{◌≡◌, ℕ, ◌<◌, Bool, true, false, ◌||◌, ◌==◌, List, [], ◌∷◌, ◌++◌, length, get_or, codes, encode_utf8_all, nat_lt, refl, sym, ap, ap₂, ◌∙◌, inl, inr, arith, eqb-true, true≢false}
use Rattle.std.specs.Prelude.{map, filter}
use Rattle.std.specs.List.{list_any, list_all}
use Rattle.std.specs.Str.{bytes_eq}
use Rattle.std.proofs.lemmas.Bool.{cases_Bool, and_parts, false_from_ne_true}
use Rattle.std.proofs.lemmas.Bool.Decides.{nat_tests, same_from_decides}
use Rattle.std.proofs.lemmas.Slice.Eq.{bytes_eq-Decides}
use Rattle.std.proofs.lemmas.Str.{encode_ascii, encodes_same}
use Rattle.java_tree.specs.declared.outline.Level.{Level}
use Rattle.java_tree.specs.declared.outline.Level.TheVariants.{Java13, Java14}
use Rattle.java_model.specs.Lexical.Characters.{is_one_of}
use Rattle.java_model.specs.Lexical.Words.{is_listed, keywords, added_keywords, literal_words, is_reserved}
use Rattle.java_model.proofs.Lexical.Reading.{begins}

-- the words of a first letter

other_start : (c : ℕ) (rest other : List ℕ) → begins (λ d. d == c) other ≡ false → bytes_eq other (c ∷ rest) ≡ false
other_start c rest other h = false_from_ne_true (bytes_eq other (c ∷ rest)) (λ e. clash other h ((bytes_eq-Decides other (c ∷ rest)).0 e))
  where
    same : (c : ℕ) → c == c ≡ true
    same c = grind (arith, nat_tests)

    clash : (other : List ℕ) → begins (λ d. d == c) other ≡ false → other ≡ c ∷ rest → ⊥
    clash [] h e = cc
    clash (d ∷ other) h e = let s : d ≡ c = cc in true≢false (sym (same c) ∙ (ap (λ x. x == c) (sym s) ∙ h))

pub listed_of_start : (c : ℕ) (rest : List ℕ) (words : List (List ℕ)) → is_listed (filter (begins (λ d. d == c)) words) (c ∷ rest) ≡ is_listed words (c ∷ rest)
listed_of_start c rest [] = refl
listed_of_start c rest (w ∷ words) =
    elim (cases_Bool (begins (λ d. d == c) w)) [
      | inl is ↦ rw is (ap (λ (b : Bool). bytes_eq w (c ∷ rest) || b) (listed_of_start c rest words))
      | inr isnt ↦ rw (isnt, other_start c rest w isnt) (listed_of_start c rest words)
    ]

pub any-map : {X Y : Type 0} (test : Y → Bool) (view : X → Y) (xs : List X) → list_any test (map view xs) ≡ list_any (λ x. test (view x)) xs
any-map test view [] = refl
any-map test view (x ∷ xs) = ap (λ (b : Bool). test (view x) || b) (any-map test view xs)

listed-append : (a b : List (List ℕ)) (s : List ℕ) → is_listed (a ++ b) s ≡ (is_listed a s || is_listed b s)
listed-append [] b s = refl
listed-append (w ∷ a) b s = ap (λ x. bytes_eq w s || x) (listed-append a b s) ∙ or_assoc (bytes_eq w s) (is_listed a s) (is_listed b s)
  where
    or_assoc : (x y z : Bool) → (x || (y || z)) ≡ ((x || y) || z)
    or_assoc true y z = refl
    or_assoc false y z = refl

or_swap : (a b c : Bool) → ((a || c) || b) ≡ ((a || b) || c)
or_swap true b c = refl
or_swap false true true = refl
or_swap false true false = refl
or_swap false false true = refl
or_swap false false false = refl

-- a word is reserved if one of its first letter is it, or one that was added later
pub reserved_by_start : (level : Level) (c : ℕ) (rest : List ℕ) → (is_listed (filter (begins (λ d. d == c)) (keywords ++ literal_words)) (c ∷ rest) || is_listed (added_keywords level) (c ∷ rest)) ≡ is_reserved level (c ∷ rest)
unfolding is_reserved
reserved_by_start level c rest =
    ap (λ x. x || is_listed (added_keywords level) (c ∷ rest)) (listed_of_start c rest (keywords ++ literal_words) ∙ listed-append keywords literal_words (c ∷ rest))
    ∙ or_swap (is_listed keywords (c ∷ rest)) (is_listed (added_keywords level) (c ∷ rest)) (is_listed literal_words (c ∷ rest))

pub reserved_nothing : (level : Level) → is_reserved level [] ≡ false
unfolding is_reserved keywords
reserved_nothing Java13 = refl
reserved_nothing Java14 = refl

-- bytes and characters

below : (c : ℕ) → nat_lt c 128 ≡ true → c < 128
below c h = grind (arith, nat_tests)

ascii_encodes : (w : List ℕ) → list_all (λ c. nat_lt c 128) w ≡ true → encode_utf8_all w ≡ w
ascii_encodes [] h = refl
ascii_encodes (c ∷ w) h =
    let parts : (nat_lt c 128 ≡ true) × (list_all (λ c. nat_lt c 128) w ≡ true) = and_parts _ _ h in
    ap₂ (λ a b. a ++ b) (encode_ascii c (below c parts.0)) (ascii_encodes w parts.1)

eq_encodes : (w cs : List ℕ) → list_all (λ c. nat_lt c 128) w ≡ true → bytes_eq w (encode_utf8_all cs) ≡ bytes_eq w cs
eq_encodes w cs h =
    let a = bytes_eq-Decides w (encode_utf8_all cs) in
    let b = bytes_eq-Decides w cs in
    same_from_decides {P = w ≡ cs} (bytes_eq w (encode_utf8_all cs)) (bytes_eq w cs)
    (λ e. encodes_same w cs (ascii_encodes w h ∙ a.0 e), λ e. a.1 (sym (ascii_encodes w h) ∙ ap encode_utf8_all e))
    b

listed_encodes : (words : List (List ℕ)) (cs : List ℕ) → list_all (λ w. list_all (λ c. nat_lt c 128) w) words ≡ true → is_listed words (encode_utf8_all cs) ≡ is_listed words cs
listed_encodes [] cs h = refl
listed_encodes (w ∷ words) cs h =
    let parts : (list_all (λ c. nat_lt c 128) w ≡ true) × (list_all (λ w. list_all (λ c. nat_lt c 128) w) words ≡ true) = and_parts _ _ h in
    ap₂ (λ a b. a || b) (eq_encodes w cs parts.0) (listed_encodes words cs parts.1)

pub reserved_encodes : (level : Level) (cs : List ℕ) → is_reserved level (encode_utf8_all cs) ≡ is_reserved level cs
unfolding is_reserved keywords
reserved_encodes level cs =
    ap₂ (λ a b. a || b) (ap₂ (λ a b. a || b) (listed_encodes keywords cs refl) (listed_encodes (added_keywords level) cs (added level))) (listed_encodes literal_words cs refl)
  where
    added : (level : Level) → list_all (λ w. list_all (λ c. nat_lt c 128) w) (added_keywords level) ≡ true
    added Java13 = refl
    added Java14 = refl

-- the reserved words of each first letter

pub by_letter : (letter n : ℕ) (words : List (List ℕ)) → letter ≡ n → filter (begins (λ c. c == n)) (keywords ++ literal_words) ≡ words → words ≡ filter (begins (λ c. c == letter)) (keywords ++ literal_words)
by_letter letter n words e h = sym h ∙ ap (λ x. filter (begins (λ c. c == x)) (keywords ++ literal_words)) (sym e)

no_words : (letter : ℕ) (letters : List ℕ) (words : List (List ℕ)) → is_one_of letters letter ≡ false → list_all (begins (is_one_of letters)) words ≡ true → filter (begins (λ c. c == letter)) words ≡ []
no_words letter letters [] h all = refl
no_words letter letters ([] ∷ words) h all = cc
no_words letter letters ((c ∷ w) ∷ words) h all =
    let parts : (is_one_of letters c ≡ true) × (list_all (begins (is_one_of letters)) words ≡ true) = and_parts _ _ all in
    let apart : c == letter ≡ false = false_from_ne_true (c == letter) (λ e. true≢false (sym parts.0 ∙ (ap (is_one_of letters) (eqb-true c letter e) ∙ h))) in
    rw apart (no_words letter letters words h parts.1)

pub other_letter : (letter : ℕ) → is_one_of (codes "abcdefgilnprstvw") letter ≡ false → [] ≡ filter (begins (λ c. c == letter)) (keywords ++ literal_words)
unfolding keywords
other_letter letter h = sym (no_words letter (codes "abcdefgilnprstvw") (keywords ++ literal_words) h refl)

abbrev pub IsNone : List ℕ → ℕ → Type 0
IsNone [] letter = Unit {0}
IsNone (n ∷ letters) letter = (letter ≡ n → ⊥) × IsNone letters letter

pub none_are : (letters : List ℕ) (letter : ℕ) → IsNone letters letter → is_one_of letters letter ≡ false
none_are [] letter h = refl
none_are (n ∷ letters) letter h =
    let apart : n == letter ≡ false = false_from_ne_true (n == letter) (λ e. h.0 (sym (eqb-true n letter e))) in
    rw apart (none_are letters letter h.1)

-- a word that isn't empty, by its first byte
pub reserved_from : (level : Level) (word : List ℕ) (b : ℕ) → (length word == 0) ≡ false → get_or word 0 0 ≡ b → (is_listed (filter (begins (λ d. d == b)) (keywords ++ literal_words)) word || is_listed (added_keywords level) word) ≡ is_reserved level word
reserved_from level [] b h e = cc
reserved_from level (c ∷ rest) b h e = ap (λ x. is_listed (filter (begins (λ d. d == x)) (keywords ++ literal_words)) (c ∷ rest) || is_listed (added_keywords level) (c ∷ rest)) (sym e) ∙ reserved_by_start level c rest

pub empty_word : (word : List ℕ) → (length word == 0) ≡ true → word ≡ []
empty_word word h = none word (eqb-true (length word) 0 h)
  where
    none : (word : List ℕ) → length word ≡ 0 → word ≡ []
    none [] e = refl
    none (c ∷ word) e = absurd (omega arith)
