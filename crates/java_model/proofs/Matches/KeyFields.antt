-- The fields of keys.
use Rattle.std.proofs.Common.{◌≡◌, ◌<◌, ◌^◌, ◌==◌, ◌+◌, ◌%◌, ℕ, Bool, true, false, cond, ◌||◌, List, [], ◌∷◌, ◌++◌, decimal, refl, ap, ◌∙◌, arith, true≢false}
use Rattle.std.specs.List.{list_any, join_with_byte}
use Rattle.std.specs.Str.{byte}
use Rattle.std.proofs.lemmas.Bool.{or_parts, or_from, ne_eqb}
use Rattle.std.proofs.lemmas.Fmt.{decimal_by_steps}
use Rattle.std.proofs.lemmas.List.Folds.{list_any-append}
use Rattle.java_model.specs.SearchPattern.Texts.{separated, onto_first}
use Rattle.java_model.specs.Matches.Admits.{key_fields}

-- no byte of a text is a separator
abbrev pub IsWithout : ℕ → List ℕ → Type 0
IsWithout separator text = list_any (λ b. b == separator) text ≡ false

step_by : (separator b : ℕ) (rest : List (List ℕ)) (more : List ℕ) (e : Bool) → e ≡ false → separated separator more ≡ rest
    → cond e ([] ∷ separated separator more) (onto_first b (separated separator more)) ≡ onto_first b rest
step_by separator b rest more true h e = absurd (true≢false h)
step_by separator b rest more false h e = ap (onto_first b) e

-- a text without separators is one piece
pub one_piece : (separator : ℕ) (text : List ℕ) → IsWithout separator text → separated separator text ≡ text ∷ []
one_piece separator [] h = refl
one_piece separator (b ∷ bs) h =
    let p = or_parts (b == separator) (list_any (λ c. c == separator) bs) h in
    step_by separator b (bs ∷ []) bs (b == separator) p.0 (one_piece separator bs p.1)

-- what stands before the first separator is the first piece
pub first_piece : (separator : ℕ) (text more : List ℕ) → IsWithout separator text → (separator == separator) ≡ true
    → separated separator (text ++ separator ∷ more) ≡ text ∷ separated separator more
first_piece separator [] more h same = ap (λ e. cond e ([] ∷ separated separator more) (onto_first separator (separated separator more))) same
first_piece separator (b ∷ bs) more h same =
    let p = or_parts (b == separator) (list_any (λ c. c == separator) bs) h in
    step_by separator b (bs ∷ separated separator more) (bs ++ separator ∷ more) (b == separator) p.0 (first_piece separator bs more p.1 same)

-- digits are no separators
abbrev slash : ℕ
slash = byte "/"

digits_without : (n : ℕ) → n < 2 ^ 64 → IsWithout slash (decimal n)
digits_without = decimal_by_steps (λ n ds. IsWithout slash ds)
    (λ n l. or_from ((48 + n) == slash) false (ne_eqb (48 + n) 47 (λ e. absurd (omega (arith, e)))) refl)
    (λ n ds l h. list_any-append (λ b. b == slash) ds ((48 + n % 10) ∷ []) ∙ or_from (list_any (λ b. b == slash) ds) (((48 + n % 10) == slash) || false) h
    (or_from ((48 + n % 10) == slash) false (ne_eqb (48 + n % 10) 47 (λ e. absurd (omega (arith, e)))) refl))

-- the fields of a name, and of a name and a number
pub fields_of_name : (name : List ℕ) → IsWithout slash name → key_fields (join_with_byte slash (name ∷ [])) ≡ name ∷ []
fields_of_name name h = one_piece slash name h

pub fields_of_counted : (name : List ℕ) (n : ℕ) → IsWithout slash name → n < 2 ^ 64
    → key_fields (join_with_byte slash (name ∷ decimal n ∷ [])) ≡ name ∷ decimal n ∷ []
fields_of_counted name n h l = first_piece slash name (decimal n) h refl ∙ ap (λ ts. name ∷ ts) (one_piece slash (decimal n) (digits_without n l))
