-- What is read at a letter or a sign is no shorter than any word or symbol there, and of its kind.
use Rattle.std.proofs.Common.{◌≡◌, ℕ, zero, suc, ◌<◌, ◌≤◌, ◌⊎◌, true, ◌==◌, List, [], ◌∷◌, ◌++◌, length, take, refl, sym, ap, ◌∙◌, subst, inl, inr, arith}
use Rattle.std.specs.List.{list_all}
use Rattle.std.proofs.lemmas.Bool.{and_parts, or_left, or_right, and_from}
use Rattle.std.proofs.lemmas.Bool.Decides.{nat_tests}
use Rattle.std.proofs.lemmas.List.{take_at}
use Rattle.std.specs.Char.{is_ascii_alphabetic, is_ascii_alphanumeric}
use Rattle.unicode_ident.specs.Ident.{is_xid_start, is_xid_continue}
use Rattle.unicode_ident.proofs.IdentLemmas.{is_xid_start-ascii, is_xid_continue-ascii}
use Rattle.java_tree.specs.declared.outline.Level.{Level}
use Rattle.java_tree.specs.declared.token.TokenKind.TheVariants.{Identifier, Keyword, Symbol}
use Rattle.java_model.specs.Lexical.Characters.{is_within, is_one_of, is_letter, is_letter_or_digit}
use Rattle.java_model.specs.Lexical.Words.{is_reserved, is_word, IsIdentifier, IsKeyword}
use Rattle.java_model.specs.Lexical.Symbols.{symbols, IsSymbol}
use Rattle.java_model.specs.Lexical.Elements.Element.{token}
use Rattle.java_model.proofs.Lexical.Reading.{run, word, word_kind, symbol, symbol_of, longest_listed}
use Rattle.java_model.proofs.Lexical.Classes.{all_parts}
use Rattle.java_model.proofs.Lexical.Runs.{run-front}
use Rattle.java_model.proofs.Lexical.Listed.{is_lower_word, reserved_lower, listed-longest}
use Rattle.java_model.proofs.Lexical.Longest.{Within, Within-le}

-- a lower-case word is a word

lower_start : (c : ℕ) → is_within 97 122 c ≡ true → (c < 128) × (is_ascii_alphabetic c ≡ true) × (is_ascii_alphanumeric c ≡ true)
lower_start c h = grind (arith, nat_tests)

lower_letter : (c : ℕ) → is_within 97 122 c ≡ true → is_letter c ≡ true
lower_letter c h = let l = lower_start c h in or_right (is_one_of (36 ∷ 95 ∷ []) c) (is_xid_start c) (is_xid_start-ascii c l.0 ∙ l.1)

lower_continue : (c : ℕ) → is_within 97 122 c ≡ true → is_letter_or_digit c ≡ true
lower_continue c h =
    let l = lower_start c h in
    or_right (is_one_of (36 ∷ []) c) (is_xid_continue c) (is_xid_continue-ascii c l.0 ∙ or_left (is_ascii_alphanumeric c) (c == 95) l.2)

lower_all : (cs : List ℕ) → list_all (is_within 97 122) cs ≡ true → list_all is_letter_or_digit cs ≡ true
lower_all [] h = refl
lower_all (c ∷ cs) h =
    let parts = all_parts (is_within 97 122) c cs h in
    and_from (is_letter_or_digit c) (list_all is_letter_or_digit cs) (lower_continue c parts.0) (lower_all cs parts.1)

pub lower_word : (s : List ℕ) → is_lower_word s ≡ true → is_word s ≡ true
lower_word [] h = h
lower_word (c ∷ cs) h =
    let parts = all_parts (is_within 97 122) c cs h in
    and_from (is_letter c) (list_all is_letter_or_digit cs) (lower_letter c parts.0) (lower_all cs parts.1)

pub reserved_word : (level : Level) (s : List ℕ) → is_reserved level s ≡ true → is_word s ≡ true
reserved_word level s h = lower_word s (reserved_lower level s h)

-- a word with its kind

less_or_same : (m n : ℕ) → m ≤ n → (m < n) ⊎ (m ≡ n)
less_or_same m n h = grind arith

word_within : (level : Level) (c : ℕ) (p rest : List ℕ) → list_all is_letter_or_digit p ≡ true → Within (token (word_kind (is_reserved level (c ∷ p)))) (suc (length p)) (word level c (p ++ rest))
word_within level c p rest h = elim (less_or_same (length p) (run is_letter_or_digit (p ++ rest)) (run-front is_letter_or_digit p rest h)) [
  | inl less ↦ inl (omega arith)
  | inr same ↦ inr (ap suc same, ap (λ x. token (word_kind (is_reserved level (c ∷ x)))) (sym (ap (λ n. take n (p ++ rest)) (sym same) ∙ take_at p rest (length p) refl)))
]

pub identifier_within : (level : Level) (c : ℕ) (p rest : List ℕ) → IsIdentifier level (c ∷ p) → Within (token Identifier) (suc (length p)) (word level c (p ++ rest))
identifier_within level c p rest h =
    subst (λ b. Within (token (word_kind b)) (suc (length p)) (word level c (p ++ rest))) h.free
    (word_within level c p rest (and_parts (is_letter c) (list_all is_letter_or_digit p) h.word).1)

pub keyword_within : (level : Level) (c : ℕ) (p rest : List ℕ) → IsKeyword level (c ∷ p) → Within (token Keyword) (suc (length p)) (word level c (p ++ rest))
keyword_within level c p rest h =
    subst (λ b. Within (token (word_kind b)) (suc (length p)) (word level c (p ++ rest))) h
    (word_within level c p rest (and_parts (is_letter c) (list_all is_letter_or_digit p) (reserved_word level (c ∷ p) h)).1)

-- a symbol

symbol_of_within : (m n : ℕ) → suc m ≤ n → Within (token Symbol) (suc m) (symbol_of n)
symbol_of_within m zero h = omega arith
symbol_of_within m (suc n) h = Within-le (token Symbol) (suc m) (suc n) h

pub symbol_within : (c : ℕ) (p rest : List ℕ) → IsSymbol (c ∷ p) → Within (token Symbol) (suc (length p)) (symbol (c ∷ (p ++ rest)))
symbol_within c p rest h = symbol_of_within (length p) (longest_listed symbols (c ∷ (p ++ rest))) (listed-longest symbols (c ∷ p) rest h)
