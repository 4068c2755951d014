-- The last element of a list.
use Rattle.std.proofs.Common.{◌≡◌, suc, ◌-◌, List, [], ◌∷◌, ◌++◌, Some, None, length, take, drop, slice_get, refl, ap, sym, ◌∙◌, arith}
use Rattle.java_tree.specs.declared.names.Ident.{Ident}
use Rattle.java_tree.specs.declared.types.NameKind.{NameKind}
use Rattle.java_model.specs.Grammar.Forms.{last_or}
use Rattle.java_model.specs.Outlines.{spelled_name}
use Rattle.java_model.specs.Bindings.Chains.{last_name}
use Rattle.java_model.specs.Occurrences.Expressions.{all_but_last, only_last}
use Rattle.java_model.specs.Occurrences.References.{Role, last_kind, with_last_kind}
use Rattle.java_bind.specs.Lasts.{last_of}

at_end : {A : Type 0} (x : A) (xs : List A) → slice_get (x ∷ xs) (length xs) ≡ Some (last_or x xs)
at_end x [] = refl
at_end x (y ∷ ys) = at_end y ys

pub last_there : {A : Type 0} (xs : List A) → slice_get xs (length xs - 1) ≡ last_of xs
last_there [] = refl
last_there (x ∷ xs) = let k : length (x ∷ xs) - 1 ≡ length xs = omega arith in ap (slice_get (x ∷ xs)) k ∙ at_end x xs

spelled_end : (x : Ident) (xs : List Ident) → last_or x.name (spelled_name xs) ≡ (last_or x xs).name
spelled_end x [] = refl
spelled_end x (y ∷ ys) = spelled_end y ys

pub name_there : (xs : List Ident) (i : Ident) → Some i ≡ last_of xs → i.name ≡ last_name (spelled_name xs)
name_there [] i e = absurd cc
name_there (x ∷ xs) i e = let h : i ≡ last_or x xs = cc in ap (λ (j : Ident). j.name) h ∙ sym (spelled_end x xs)

pub no_name_there : (xs : List Ident) → None ≡ last_of xs → [] ≡ last_name (spelled_name xs)
no_name_there [] e = refl
no_name_there (x ∷ xs) e = absurd cc

pub before_end : (xs : List Ident) → take (length xs - 1) xs ≡ all_but_last xs
before_end [] = refl
before_end (x ∷ []) = refl
before_end (x ∷ y ∷ more) =
    let k : length (x ∷ y ∷ more) - 1 ≡ suc (length (y ∷ more) - 1) = omega arith in
    ap (λ n. take n (x ∷ y ∷ more)) k ∙ ap (λ ys. x ∷ ys) (before_end (y ∷ more))

pub from_end : (xs : List Ident) → drop (length xs - 1) xs ≡ only_last xs
from_end [] = refl
from_end (x ∷ []) = refl
from_end (x ∷ y ∷ more) =
    let k : length (x ∷ y ∷ more) - 1 ≡ suc (length (y ∷ more) - 1) = omega arith in
    ap (λ n. drop n (x ∷ y ∷ more)) k ∙ from_end (y ∷ more)

-- the last kind, after what stands before it
last_kind-after : (r : Role) (before : List NameKind) (k : NameKind) → with_last_kind r (before ++ k ∷ []) ≡ before ++ last_kind r k ∷ []
last_kind-after r [] k = refl
last_kind-after r (x ∷ []) k = refl
last_kind-after r (x ∷ y ∷ more) k = ap (λ ks. x ∷ ks) (last_kind-after r (y ∷ more) k)

pub replaced : (r : Role) (ks before : List NameKind) (k : NameKind) → ks ≡ before ++ k ∷ [] → with_last_kind r ks ≡ before ++ last_kind r k ∷ []
replaced r ks before k e = ap (with_last_kind r) e ∙ last_kind-after r before k
