-- Words of a list, and the longest of them at the front of characters.
use Rattle.std.proofs.Common.{◌≡◌, ℕ, ◌≤◌, ◌⊎◌, Bool, true, false, cond, not, ◌&&◌, ◌||◌, ◌==◌, max, List, [], ◌∷◌, ◌++◌, length, codes, bytes_eq, refl, sym, ap₂, subst, inl, inr, arith, true≢false, eqb-true}
use Rattle.std.specs.List.{list_all}
use Rattle.std.proofs.lemmas.Bool.{cond_both, and_parts, or_cases, or_left, or_right}
use Rattle.std.proofs.lemmas.Slice.Eq.{bytes_eq-Decides}
use Rattle.java_tree.specs.declared.outline.Level.{Level}
use Rattle.java_tree.specs.declared.outline.Level.TheVariants.{Java13, Java14}
use Rattle.java_model.specs.Lexical.Characters.{is_within, is_one_of}
use Rattle.java_model.specs.Lexical.Words.{is_listed, keywords, added_keywords, literal_words, is_reserved}
use Rattle.java_model.specs.Lexical.Symbols.{symbols, separators, operators}
use Rattle.java_model.proofs.Lexical.Reading.{begins, is_front, longest_listed}

-- what each word of a list passes, a listed word passes
pub listed-all : (test : List ℕ → Bool) (words : List (List ℕ)) (s : List ℕ) → list_all test words ≡ true → is_listed words s ≡ true → test s ≡ true
listed-all test [] s all h = absurd (true≢false (sym h))
listed-all test (word ∷ words) s all h =
    let parts : (test word ≡ true) × (list_all test words ≡ true) = and_parts (test word) (list_all test words) all in
    elim (or_cases (bytes_eq word s) (is_listed words s) h) [
      | inl here ↦ subst (λ x. test x ≡ true) ((bytes_eq-Decides word s).0 here) parts.0
      | inr later ↦ listed-all test words s parts.1 later
    ]

eqb_same : (a : ℕ) → a == a ≡ true
eqb_same a = grind arith

pub is_front-append : (p rest : List ℕ) → is_front p (p ++ rest) ≡ true
is_front-append [] rest = refl
is_front-append (a ∷ p) rest = rw (eqb_same a) (is_front-append p rest)

pub listed-longest : (words : List (List ℕ)) (p rest : List ℕ) → is_listed words p ≡ true → length p ≤ longest_listed words (p ++ rest)
listed-longest [] p rest h = absurd (true≢false (sym h))
listed-longest (word ∷ words) p rest h = elim (or_cases (bytes_eq word p) (is_listed words p) h) [
  | inl here ↦ first ((bytes_eq-Decides word p).0 here)
  | inr later ↦ second (listed-longest words p rest later)
]
  where
    first : word ≡ p → length p ≤ max (cond (is_front word (p ++ rest)) (length word) 0) (longest_listed words (p ++ rest))
    first e = rw (e, is_front-append p rest) (omega arith)

    second : length p ≤ longest_listed words (p ++ rest) → length p ≤ max (cond (is_front word (p ++ rest)) (length word) 0) (longest_listed words (p ++ rest))
    second l = omega arith

-- a word that is a front, and what follows it

pub front_split : (p cs : List ℕ) → is_front p cs ≡ true → (rest : List ℕ) × (cs ≡ p ++ rest)
front_split [] cs h = (cs, refl)
front_split (a ∷ p) [] h = absurd (true≢false (sym h))
front_split (a ∷ p) (c ∷ cs) h =
    let parts : (a == c ≡ true) × (is_front p cs ≡ true) = and_parts (a == c) (is_front p cs) h in
    let later = front_split p cs parts.1 in
    (later.0, ap₂ (λ x y. x ∷ y) (sym (eqb-true a c parts.0)) later.1)

-- of n characters, a listed word is at the front
abbrev pub IsListedFront : List (List ℕ) → List ℕ → ℕ → Type 0
IsListedFront words cs n = (p : List ℕ) × (rest : List ℕ) × (cs ≡ p ++ rest) × (is_listed words p ≡ true) × (length p ≡ n)

listed_more : (word : List ℕ) (words : List (List ℕ)) (cs : List ℕ) (n : ℕ) → IsListedFront words cs n → IsListedFront (word ∷ words) cs n
listed_more word words cs n (p, rest, e, h, l) = (p, rest, e, or_right (bytes_eq word p) (is_listed words p) h, l)

listed_here : (word : List ℕ) (words : List (List ℕ)) (cs : List ℕ) → is_front word cs ≡ true → IsListedFront (word ∷ words) cs (length word)
listed_here word words cs h =
    let split = front_split word cs h in
    (word, split.0, split.1, or_left (bytes_eq word word) (is_listed words word) ((bytes_eq-Decides word word).1 refl), refl)

larger : (P : ℕ → Type 0) (a b : ℕ) → P a → P b → P (max a b)
larger P a b x y = elim (either a b) [ inl e ↦ subst P (sym e) x | inr e ↦ subst P (sym e) y ]
  where
    either : (a b : ℕ) → (max a b ≡ a) ⊎ (max a b ≡ b)
    either a b = grind arith

pub longest-listed : (words : List (List ℕ)) (cs : List ℕ) → (longest_listed words cs ≡ 0) ⊎ IsListedFront words cs (longest_listed words cs)
longest-listed [] cs = inl refl
longest-listed (word ∷ words) cs =
    larger (λ n. (n ≡ 0) ⊎ IsListedFront (word ∷ words) cs n) (cond (is_front word cs) (length word) 0) (longest_listed words cs)
    (cond_both (is_front word cs) (length word) 0 (λ n. (n ≡ 0) ⊎ IsListedFront (word ∷ words) cs n) (λ h. inr (listed_here word words cs h)) (λ _. inl refl))
    (elim (longest-listed words cs) [ inl none ↦ inl none | inr later ↦ inr (listed_more word words cs (longest_listed words cs) later) ])

-- what the lists hold

-- lower-case ASCII letters
abbrev pub is_lower_word : List ℕ → Bool
is_lower_word [] = false
is_lower_word (c ∷ cs) = is_within 97 122 c && list_all (is_within 97 122) cs

pub reserved_lower : (level : Level) (s : List ℕ) → is_reserved level s ≡ true → is_lower_word s ≡ true
unfolding is_reserved keywords
reserved_lower level s h = elim (or_cases (is_listed keywords s || is_listed (added_keywords level) s) (is_listed literal_words s) h) [
  | inl either ↦ elim (or_cases (is_listed keywords s) (is_listed (added_keywords level) s) either) [
    | inl k ↦ listed-all is_lower_word keywords s refl k
    | inr a ↦ listed-all is_lower_word (added_keywords level) s (added level) a
  ]
  | inr l ↦ listed-all is_lower_word literal_words s refl l
]
  where
    added : (level : Level) → list_all is_lower_word (added_keywords level) ≡ true
    added Java13 = refl
    added Java14 = refl

abbrev pub is_symbol_start : ℕ → Bool
is_symbol_start = is_one_of (codes "(){}[];,.=><!~?:&|+-*/^%")

-- a full stop is a symbol alone, and behind a slash there is no slash or star
abbrev pub is_symbol_word : List ℕ → Bool
is_symbol_word [] = false
is_symbol_word (c ∷ cs) = is_symbol_start c && (not (c == 46) || length cs == 0) && (not (c == 47) || not (begins (is_one_of (codes "/*")) cs))

pub symbols_are : (s : List ℕ) → is_listed symbols s ≡ true → is_symbol_word s ≡ true
unfolding symbols separators operators
symbols_are s h = listed-all is_symbol_word symbols s refl h
