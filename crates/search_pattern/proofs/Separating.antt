-- Parameters separated by commas.
use Rattle.std.proofs.Common.{◌≡◌, ℕ, ◌&&◌, Bool, true, false, eqb, cond, List, [], ◌∷◌, map, length, refl, sym, ap, ◌∙◌, arith}
use denote.Ref.{Bor}
use Rattle.std.proofs.lemmas.Bool.{eqb-true}
use Rattle.std.proofs.lemmas.Bool.Decides.{nat_tests}
use Rattle.std.proofs.lemmas.List.Splits.{join_with_byte-slice_split}
use Rattle.std.specs.List.{slice_split, join_with_byte, list_any}
use Rattle.std.specs.List as std_list
use Rattle.java_model.specs.SearchPattern.Texts.{space, onto_first, separated, is_empty, before_spaces, without_leading_spaces, without_trailing_spaces, trimmed}
use Rattle.java_model.specs.SearchPattern.Parts.{params_in}
use Rattle.search_pattern.specs.Params.{params_between}

pub is_empty_is : (bs : List ℕ) → is_empty bs ≡ eqb (length bs) 0
is_empty_is [] = refl
is_empty_is (b ∷ bs) = grind (arith, nat_tests)

same_onto : (b : ℕ) (parts : List (List ℕ)) → onto_first b parts ≡ std_list.onto_first b parts
same_onto b [] = refl
same_onto b (part ∷ parts) = refl

separated_is : (bs : List ℕ) → separated 44 bs ≡ slice_split (λ b. eqb b 44) bs
separated_is [] = refl
separated_is (b ∷ bs) =
    rw (separated_is bs) (ap (λ parts. cond (eqb b 44) ([] ∷ slice_split (λ x. eqb x 44) bs) parts) (same_onto b (slice_split (λ x. eqb x 44) bs)))

spaces_at : (b : ℕ) (bs : List ℕ) (v : Bool) → eqb b space ≡ v → is_empty (without_trailing_spaces (cond v (without_leading_spaces bs) (b ∷ bs))) ≡ true →
    (is_empty (trimmed bs) ≡ true → separated 44 bs ≡ bs ∷ []) → separated 44 (b ∷ bs) ≡ (b ∷ bs) ∷ []
spaces_at b bs true e h more =
    let no_comma : eqb b 44 ≡ false = ap (λ x. eqb x 44) (eqb-true b space e) in
    rw no_comma (ap (onto_first b) (more h))
spaces_at b bs false e h more =
    let kept : before_spaces b (without_trailing_spaces bs) ≡ b ∷ without_trailing_spaces bs = ap (λ v. cond (v && is_empty (without_trailing_spaces bs)) [] (b ∷ without_trailing_spaces bs)) e in
    absurd (no_true (sym (ap is_empty kept) ∙ h))
  where
    no_true : false ≡ true → ⊥
    no_true f = cc

-- spaces alone have no comma
spaces_alone : (bs : List ℕ) → is_empty (trimmed bs) ≡ true → separated 44 bs ≡ bs ∷ []
spaces_alone [] h = refl
spaces_alone (b ∷ bs) h = spaces_at b bs (eqb b space) refl h (spaces_alone bs)

pub no_params : (inside : List ℕ) → is_empty (trimmed inside) ≡ true → params_between inside ≡ []
no_params inside h = rw (spaces_alone inside h) (ap (λ v. cond v [] (trimmed inside ∷ [])) h)

all_params : (inside : List ℕ) (parts : List (List ℕ)) → slice_split (λ b. eqb b 44) inside ≡ parts → is_empty (trimmed inside) ≡ false →
    params_in (map trimmed parts) ≡ map trimmed parts
all_params inside [] e h = refl
all_params inside (only ∷ []) e h =
    let same : only ≡ inside = sym (ap (join_with_byte 44) e) ∙ join_with_byte-slice_split 44 inside in
    ap (λ v. cond v [] (trimmed only ∷ [])) (ap (λ xs. is_empty (trimmed xs)) same ∙ h)
all_params inside (part ∷ other ∷ parts) e h = refl

pub some_params : (inside : List ℕ) → is_empty (trimmed inside) ≡ false → params_between inside ≡ map trimmed (slice_split (λ b. eqb b 44) inside)
some_params inside h = ap (λ parts. params_in (map trimmed parts)) (separated_is inside) ∙ all_params inside (slice_split (λ b. eqb b 44) inside) refl h

pub any_empty : (parts : List (List ℕ)) → list_any (λ part. eqb (length (trimmed part)) 0) parts ≡ list_any is_empty (map trimmed parts)
any_empty [] = refl
any_empty (part ∷ parts) = rw (any_empty parts, is_empty_is (trimmed part)) refl

pub each_trimmed : (xs : List (Bor (List ℕ))) → map (λ x. trimmed x.now) xs ≡ map trimmed (map (λ x. x.now) xs)
each_trimmed [] = refl
each_trimmed (x ∷ xs) = ap (λ ys. trimmed x.now ∷ ys) (each_trimmed xs)
