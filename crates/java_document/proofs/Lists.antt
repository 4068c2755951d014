-- The end of a list.
use Rattle.std.proofs.Common.{◌≡◌, ◌+◌, ◌-◌, ◌<◌, ℕ, suc, List, [], ◌∷◌, ◌++◌, map, length, reverse, take, drop, get_or, refl, sym, ap, ◌∙◌, arith}
use Rattle.std.proofs.lemmas.List.{drop_more, append-nil, reverse-append}
use Rattle.std.proofs.Math.Seq.{take-suc}
use Rattle.std.specs.List.{flat_map}
use Rattle.std.proofs.lemmas.Grind.{flat_map-append}
use Rattle.std.proofs.lemmas.List.Concat.{flat_map-cons}
use Rattle.java_tree.specs.declared.names.Ident.{Ident}
use Rattle.java_tree.specs.declared.token.Span.{Span}
use Rattle.java_model.specs.Grammar.Forms.{last_or}

last-append : {A : Type 0} (d x : A) (xs : List A) → last_or d (xs ++ x ∷ []) ≡ x
last-append d x [] = refl
last-append d x (y ∷ xs) = last-append y x xs

map-append : {A B : Type 0} (f : A → B) (xs ys : List A) → map f (xs ++ ys) ≡ map f xs ++ map f ys
map-append f [] ys = refl
map-append f (x ∷ xs) ys = ap (λ zs. f x ∷ zs) (map-append f xs ys)

pub last_span_more : (d : Span) (xs : List Ident) (x : Ident) → last_or d (map (λ i. i.span) (xs ++ x ∷ [])) ≡ x.span
last_span_more d xs x = ap (last_or d) (map-append (λ i. i.span) xs (x ∷ [])) ∙ last-append d x.span (map (λ i. i.span) xs)

pub last_span_at : (d : Span) (y : Ident) (xs : List Ident) (i : ℕ) → i < length xs → (get_or xs i y).span ≡ last_or d (map (λ i. i.span) (take (i + 1) xs))
last_span_at d y xs i h =
    let next : i + 1 ≡ suc i = omega arith in
    sym (ap (λ n. last_or d (map (λ i. i.span) (take n xs))) next ∙ ap (λ ys. last_or d (map (λ i. i.span) ys)) (take-suc xs i y h) ∙ last_span_more d (take i xs) (get_or xs i y))

drop-length : (xs : List ℕ) → drop (length xs) xs ≡ []
drop-length [] = refl
drop-length (x ∷ xs) = drop-length xs

pub reverse_drop_none : (xs : List ℕ) → [] ≡ reverse (drop (length xs - 0) xs)
reverse_drop_none xs =
    let same : length xs - 0 ≡ length xs = omega arith in
    sym (ap (λ n. reverse (drop n xs)) same ∙ ap reverse (drop-length xs))

pub reverse_drop_all : (xs : List ℕ) → reverse (drop (length xs - length xs) xs) ≡ reverse xs ++ []
reverse_drop_all xs =
    let none : length xs - length xs ≡ 0 = omega arith in
    ap (λ n. reverse (drop n xs)) none ∙ sym (append-nil (reverse xs))

one_back : (xs : List ℕ) (n i d : ℕ) → n + 1 + i ≡ length xs → reverse (drop (n + 1) xs) ++ get_or xs n d ∷ [] ≡ reverse (drop n xs)
one_back xs n i d e =
    let h : n < length xs = omega (arith, e) in
    sym (ap reverse (drop_more xs n d h) ∙ reverse-append (get_or xs n d ∷ []) (drop (n + 1) xs))

pub reverse_drop_more : (xs : List ℕ) (i d : ℕ) → i < length xs → reverse (drop (length xs - i) xs) ++ get_or xs (length xs - 1 - i) d ∷ [] ≡ reverse (drop (length xs - (i + 1)) xs)
reverse_drop_more xs i d h =
    let n : ℕ = length xs - (i + 1) in
    let whole : (length xs - (i + 1)) + 1 + i ≡ length xs = omega (arith, h) in
    let behind : length xs - i ≡ (length xs - (i + 1)) + 1 = omega (arith, h) in
    let at : length xs - 1 - i ≡ length xs - (i + 1) = omega (arith, h) in
    ap (λ k. reverse (drop k xs) ++ get_or xs (length xs - 1 - i) d ∷ []) behind
    ∙ ap (λ k. reverse (drop ((length xs - (i + 1)) + 1) xs) ++ get_or xs k d ∷ []) at
    ∙ one_back xs (length xs - (i + 1)) i d whole

-- one more of a list
pub map_next : {A B : Type 0} (f : A → B) (xs : List A) (i : ℕ) (x : A) → i < length xs → map f (take (i + 1) xs) ≡ map f (take i xs) ++ f (get_or xs i x) ∷ []
map_next f xs i x h =
    let next : i + 1 ≡ suc i = omega arith in
    ap (λ n. map f (take n xs)) next ∙ ap (map f) (take-suc xs i x h) ∙ map-append f (take i xs) (get_or xs i x ∷ [])

pub flat_map_next : {A B : Type 0} (f : A → List B) (xs : List A) (i : ℕ) (x : A) → i < length xs → flat_map f (take (i + 1) xs) ≡ flat_map f (take i xs) ++ f (get_or xs i x)
flat_map_next f xs i x h =
    let next : i + 1 ≡ suc i = omega arith in
    ap (λ n. flat_map f (take n xs)) next ∙ ap (flat_map f) (take-suc xs i x h) ∙ flat_map-append f (take i xs) (get_or xs i x ∷ [])
    ∙ ap (λ ys. flat_map f (take i xs) ++ ys) (flat_map-cons f (get_or xs i x) [] ∙ append-nil (f (get_or xs i x)))
