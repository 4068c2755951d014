-- Imports: the last identifier of a name, and lists in which each type stands once.
use Rattle.std.proofs.Common.{◌≡◌, ◌+◌, ◌-◌, ◌<◌, ℕ, Bool, true, false, cond, ◌||◌, List, [], ◌∷◌, ◌++◌, Some, None, length, drop, reverse, get_or, refl, sym, ap, ◌∙◌, arith}
use Rattle.std.proofs.lemmas.List.{append_assoc, drop_more, reverse-append}
use Rattle.std.proofs.lemmas.List.Folds.{list_any-append}
use Rattle.std.specs.Prelude.{slice_get}
use Rattle.std.specs.List.{last_or, list_any}
use Rattle.java_tree.specs.declared.occurrence.TypeId.{TypeId}
use Rattle.java_model.specs.Names.Environments.{same_id}
use Rattle.java_model.specs.Names.Lists.{fresh, is_among}

last_after : {X : Type 0} (x : X) (xs : List X) → slice_get (x ∷ xs) (length xs) ≡ last_or (Some x) xs
last_after x [] = refl
last_after x (y ∷ ys) = last_after y ys

pub last_got : {X : Type 0} (xs : List X) → slice_get xs (length xs - 1) ≡ last_or None xs
last_got [] = refl
last_got (x ∷ xs) = let e : length (x ∷ xs) - 1 ≡ length xs = omega arith in ap (slice_get (x ∷ xs)) e ∙ last_after x xs

any_swap : (a b : Bool) → (a || b) ≡ (b || a)
any_swap true true = refl
any_swap true false = refl
any_swap false true = refl
any_swap false false = refl

any_reverse : {X : Type 0} (p : X → Bool) (xs : List X) → list_any p (reverse xs) ≡ list_any p xs
any_reverse p [] = refl
any_reverse p (x ∷ xs) =
    ap (list_any p) (reverse-append (x ∷ []) xs) ∙ list_any-append p (reverse xs) (x ∷ []) ∙ any_swap (list_any p (reverse xs)) (list_any p (x ∷ []))
    ∙ sym (list_any-append p (x ∷ []) (reverse xs)) ∙ ap (λ b. p x || b) (any_reverse p xs)

one_kept : (b : Bool) (x : TypeId) (once rest : List TypeId) → is_among same_id x once ≡ b
    → cond b once (once ++ x ∷ []) ++ fresh same_id (reverse (cond b once (once ++ x ∷ []))) rest ≡ once ++ fresh same_id (reverse once) (x ∷ rest)
one_kept true x once rest h =
    ap (λ b. once ++ cond b (fresh same_id (reverse once) rest) (x ∷ fresh same_id (x ∷ reverse once) rest)) (sym (any_reverse (same_id x) once ∙ h))
one_kept false x once rest h =
    append_assoc once (x ∷ []) (fresh same_id (reverse (once ++ x ∷ [])) rest)
    ∙ ap (λ seen. once ++ x ∷ fresh same_id seen rest) (reverse-append once (x ∷ []))
    ∙ ap (λ b. once ++ cond b (fresh same_id (reverse once) rest) (x ∷ fresh same_id (x ∷ reverse once) rest)) (sym (any_reverse (same_id x) once ∙ h))

pub once_next : (types : List TypeId) (i : ℕ) (x : TypeId) (once after all : List TypeId) → i < length types → x ≡ get_or types i x
    → once ++ fresh same_id (reverse once) (drop i types) ≡ all → after ≡ cond (is_among same_id x once) once (once ++ x ∷ [])
    → after ++ fresh same_id (reverse after) (drop (i + 1) types) ≡ all
once_next types i x once after all h at so is =
    ap (λ ts. ts ++ fresh same_id (reverse ts) (drop (i + 1) types)) is
    ∙ one_kept (is_among same_id x once) x once (drop (i + 1) types) refl
    ∙ ap (λ y. once ++ fresh same_id (reverse once) (y ∷ drop (i + 1) types)) at
    ∙ ap (λ ts. once ++ fresh same_id (reverse once) ts) (sym (drop_more types i x h)) ∙ so
