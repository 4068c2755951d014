-- A text without Unicode escapes, whose characters stand for themselves.
use Rattle.std.proofs.Common.{◌≡◌, ℕ, suc, ◌-◌, ◌<◌, Bool, true, false, not, ◌&&◌, ◌||◌, ◌==◌, List, [], ◌∷◌, ◌++◌, length, take, get_or, map, chars, encode_utf8_all, IsUtf8, refl, sym, ap, ap₂, ◌∙◌, subst, inl, inr, arith, true≢false, length-append, eqb-true}
use Rattle.std.specs.Str.{IsCharBoundary, all_scalars}
use Rattle.std.proofs.lemmas.Bool.{cases_Bool, and_parts, eqb-false}
use Rattle.std.proofs.lemmas.Bool.Decides.{nat_tests}
use Rattle.std.proofs.lemmas.Str.{chars-encodes, chars-append, scalars-chars, encodes-chars, encodes-append, IsUtf8-take, IsCharBoundary-before_ascii, encode_ascii}
use Rattle.java_model.specs.Lexical.Characters.{backslash, letter_u, is_within}
use Rattle.java_model.specs.Lexical.Escapes.{Input, raw, begins_escape, Unescapes, before, paired, replaced, HasInputs}
use Rattle.java_model.specs.Lexical.Escapes.Unescapes.{stops, plain_backslash, plain}
use Rattle.java_model.specs.Lexical.Tokens.{without_sub}
use Rattle.java_scan.specs.Unescaping.{escapes_from}

-- a text without a backslash that begins an escape

parts_false : (a b : Bool) → a || b ≡ false → (a ≡ false) × (b ≡ false)
parts_false true b h = absurd (true≢false h)
parts_false false b h = (refl, h)

no_escape_next : (even : Bool) (cs : List ℕ) → escapes_from even cs ≡ false → begins_escape even cs ≡ false
no_escape_next even [] h = refl
no_escape_next even (c ∷ cs) h = (parts_false (even && c == letter_u) (escapes_from (c == backslash && not even) cs) h).0

not_not : (b : Bool) → not (not b) ≡ b
not_not true = refl
not_not false = refl

-- what follows a text that is unescaped to itself
abbrev Plainly : Bool → List ℕ → Type 0
Plainly even cs = (end : Bool) × Unescapes even cs (map raw cs) end []

unescapes_plainly : (begun : Bool) (cs : List ℕ) → escapes_from begun cs ≡ false → Plainly (not begun) cs
unescapes_plainly begun [] h = (not begun, stops)
unescapes_plainly begun (c ∷ cs) h =
    let later : escapes_from (c == backslash && not begun) cs ≡ false = (parts_false (begun && c == letter_u) (escapes_from (c == backslash && not begun) cs) h).1 in
    elim (cases_Bool (c == backslash)) [
      | inl is ↦
          let rest : escapes_from (not begun) cs ≡ false = ap (λ b. escapes_from (b && not begun) cs) (sym is) ∙ later in
          let walk = unescapes_plainly (not begun) cs rest in
          subst (λ x. Plainly (not begun) (x ∷ cs)) (sym (eqb-true c backslash is)) (walk.0, plain_backslash (no_escape_next (not begun) cs rest) walk.1)
      | inr isnt ↦
          let rest : escapes_from false cs ≡ false = ap (λ b. escapes_from (b && not begun) cs) (sym isnt) ∙ later in
          let walk = unescapes_plainly false cs rest in
          (walk.0, plain (eqb-false c backslash isnt) walk.1)
    ]

-- no character of a text is a surrogate

pub scalar_apart : (c : ℕ) (cs : List ℕ) → all_scalars (c ∷ cs) ≡ true → (is_within 0xd800 0xdfff c ≡ false) × (is_within 0xd800 0xdbff c ≡ false) × (all_scalars cs ≡ true)
scalar_apart c cs h = let parts = and_parts _ (all_scalars cs) h in (grind (arith, nat_tests), grind (arith, nat_tests), parts.1)

alone : (c : ℕ) (units : List Input) → is_within 0xd800 0xdbff c ≡ false → before (raw c) units ≡ raw c ∷ units
alone c [] h = refl
alone c (unit ∷ units) h = rw h refl

pub raw_joined : (cs : List ℕ) → all_scalars cs ≡ true → map replaced (paired (map raw cs)) ≡ map raw cs
raw_joined [] h = refl
raw_joined (c ∷ cs) h =
    let s = scalar_apart c cs h in
    ap (map replaced) (alone c (paired (map raw cs)) s.1) ∙ ap₂ (λ x xs. x ∷ xs) (kept s.0) (raw_joined cs s.2)
  where
    kept : is_within 0xd800 0xdfff c ≡ false → replaced (raw c) ≡ raw c
    kept e = rw e refl

pub plain_inputs : (text : List ℕ) → IsUtf8 text → escapes_from false (chars text) ≡ false → HasInputs text (map raw (chars text))
plain_inputs text utf8 h =
    let walk = unescapes_plainly false (chars text) h in
    record { units = map raw (chars text); end = walk.0; unescaped = walk.1; joined = sym (raw_joined (chars text) (scalars-chars text utf8)) }

-- without a last Sub

sub_dropped : (cs : List ℕ) → without_sub (map raw (cs ++ 26 ∷ [])) ≡ map raw cs
sub_dropped [] = refl
sub_dropped (c ∷ []) = refl
sub_dropped (c ∷ d ∷ cs) = ap (λ x. raw c ∷ x) (sub_dropped (d ∷ cs))

sub_absent : (cs : List ℕ) → ((ds : List ℕ) → cs ≡ ds ++ 26 ∷ [] → ⊥) → without_sub (map raw cs) ≡ map raw cs
sub_absent [] h = refl
sub_absent (c ∷ []) h = elim (cases_Bool (c == 26)) [
  | inl is ↦ absurd (h [] (ap (λ x. x ∷ []) (eqb-true c 26 is)))
  | inr isnt ↦ rw isnt refl
]
sub_absent (c ∷ d ∷ cs) h = ap (λ x. raw c ∷ x) (sub_absent (d ∷ cs) (λ ds e. h (c ∷ ds) (ap (λ x. c ∷ x) e)))

sub_encoded : encode_utf8_all (26 ∷ []) ≡ 26 ∷ []
sub_encoded = ap (λ x. x ++ []) (encode_ascii 26 (omega arith))

one_sub : chars (26 ∷ []) ≡ 26 ∷ []
one_sub = ap chars (sym sub_encoded) ∙ chars-encodes (26 ∷ []) refl

last_byte : (front : List ℕ) (b : ℕ) (text : List ℕ) → text ≡ front ++ b ∷ [] → get_or text (length text - 1) 0 ≡ b
last_byte front b text e =
    let l : length text - 1 ≡ length front = omega (arith, ap length e, length-append front (b ∷ [])) in
    ap₂ (λ (xs : List ℕ) (n : ℕ). get_or xs n 0) e l ∙ at_end front
  where
    at_end : (front : List ℕ) → get_or (front ++ b ∷ []) (length front) 0 ≡ b
    at_end [] = refl
    at_end (x ∷ front) = at_end front

pub sub_kept : (text : List ℕ) → IsUtf8 text → (0 < length text → get_or text (length text - 1) 0 ≡ 26 → ⊥) → map raw (chars text) ≡ without_sub (map raw (chars text))
sub_kept text utf8 h = sym (sub_absent (chars text) (λ ds e. ends ds (sym (encodes-chars text utf8) ∙ (ap encode_utf8_all e ∙ (encodes-append ds (26 ∷ []) ∙ ap (λ x. encode_utf8_all ds ++ x) sub_encoded)))))
  where
    ends : (ds : List ℕ) → text ≡ encode_utf8_all ds ++ 26 ∷ [] → ⊥
    ends ds e = h (omega (arith, ap length e, length-append (encode_utf8_all ds) (26 ∷ []))) (last_byte (encode_utf8_all ds) 26 text e)

split_last : (text : List ℕ) → 0 < length text → text ≡ take (length text - 1) text ++ get_or text (length text - 1) 0 ∷ []
split_last [] h = absurd (omega arith)
split_last (b ∷ []) h = refl
split_last (b ∷ c ∷ text) h =
    let n : length (b ∷ c ∷ text) - 1 ≡ suc (length (c ∷ text) - 1) = omega arith in
    ap (λ x. b ∷ x) (split_last (c ∷ text) (omega arith)) ∙ ap (λ k. take k (b ∷ c ∷ text) ++ get_or (b ∷ c ∷ text) k 0 ∷ []) (sym n)

pub sub_cut : (text : List ℕ) → IsUtf8 text → 0 < length text → get_or text (length text - 1) 0 ≡ 26 → map raw (chars (take (length text - 1) text)) ≡ without_sub (map raw (chars text))
sub_cut text utf8 some last =
    let n = length text - 1 in
    let boundary : IsCharBoundary text n = IsCharBoundary-before_ascii text n (omega arith) (omega arith) in
    let front : IsUtf8 (take n text) = IsUtf8-take text n utf8 boundary in
    let parted : text ≡ take n text ++ 26 ∷ [] = split_last text some ∙ ap (λ b. take n text ++ b ∷ []) last in
    let cs : chars text ≡ chars (take n text) ++ 26 ∷ [] = ap chars parted ∙ (chars-append (take n text) (26 ∷ []) front ∙ ap (λ x. chars (take n text) ++ x) one_sub) in
    sym (ap (λ xs. without_sub (map raw xs)) cs ∙ sub_dropped (chars (take n text)))
