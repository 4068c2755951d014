-- The identifiers that name a package from the left.
use Rattle.std.proofs.Common.{◌≡◌, ℕ, suc, ◌+◌, ◌<◌, ◌≤◌, Bool, ◌⊎◌, inl, inr, List, [], ◌∷◌, ◌++◌, length, get_or, take, drop, refl, ap, sym, ◌∙◌, arith, add-one}
use Rattle.std.proofs.Math.Seq.{take-suc, drop-cons, drop-length}
use Rattle.std.specs.List.{zip}
use Rattle.java_tree.specs.declared.names.Ident.{Ident}
use Rattle.java_tree.specs.declared.types.NameKind.{NameKind}
use Rattle.java_tree.specs.declared.types.NameKind.TheVariants as kinds
use Rattle.java_model.specs.Occurrences.References.{Role, package_run, counts_before, no_span}
use Rattle.java_bind.specs.Runs.{run_of}

no_ident : Ident
no_ident = record { name = []; span = no_span }

-- one identifier more
more_run : (done : List Ident) (x : Ident) (k : NameKind) (more : List (Ident × NameKind)) → k ≡ kinds.Package
    → package_run done ((x, k) ∷ more) ≡ package_run (done ++ x ∷ []) more
more_run done x k more e = ap (λ q. package_run done ((x, q) ∷ more)) e

-- the first one that names none ends it
end_run : (done : List Ident) (x : Ident) (k : NameKind) (more : List (Ident × NameKind)) → (k ≡ kinds.Package → ⊥)
    → package_run done ((x, k) ∷ more) ≡ record { run = done; rest = (x, k) ∷ more }
end_run done x (kinds.Local t) more h = refl
end_run done x (kinds.Field f) more h = refl
end_run done x (kinds.Class t) more h = refl
end_run done x kinds.Package more h = absurd (h refl)
end_run done x kinds.Nothing more h = refl

module _ (name : List Ident) (ks : List NameKind) (at : ℕ) (k : NameKind) (l : at < length name) (m : at < length ks) (is : k ≡ get_or ks at k) where
  first : Ident
  first = get_or name at no_ident

  split : zip (drop at name) (drop at ks) ≡ (first, k) ∷ zip (drop (suc at) name) (drop (suc at) ks)
  unfolding first
  split =
      ap (λ xs. zip xs (drop at ks)) (drop-cons name at no_ident l) ∙ ap (zip (first ∷ drop (suc at) name)) (drop-cons ks at k m)
      ∙ ap (λ q. (first, q) ∷ zip (drop (suc at) name) (drop (suc at) ks)) (sym is)

  pub next_run : k ≡ kinds.Package
      → package_run (take at name) (zip (drop at name) (drop at ks)) ≡ package_run (take (at + 1) name) (zip (drop (at + 1) name) (drop (at + 1) ks))
  unfolding first
  next_run e =
      ap (package_run (take at name)) split ∙ more_run (take at name) first k (zip (drop (suc at) name) (drop (suc at) ks)) e
      ∙ ap (λ xs. package_run xs (zip (drop (suc at) name) (drop (suc at) ks))) (sym (take-suc name at no_ident l))
      ∙ ap (λ n. package_run (take n name) (zip (drop n name) (drop n ks))) (sym (add-one at))

  pub last_run : (k ≡ kinds.Package → ⊥) → package_run (take at name) (zip (drop at name) (drop at ks)) ≡ run_of name ks at
  unfolding first
  last_run h =
      ap (package_run (take at name)) split ∙ end_run (take at name) first k (zip (drop (suc at) name) (drop (suc at) ks)) h
      ∙ ap (λ r. record { run = take at name; rest = r }) (sym split)

none_zipped : (name : List Ident) → zip {X = NameKind} name [] ≡ []
none_zipped [] = refl
none_zipped (x ∷ xs) = refl

pub whole_run : (name : List Ident) (ks : List NameKind) (at : ℕ) → at ≡ length ks → package_run (take at name) (zip (drop at name) (drop at ks)) ≡ run_of name ks (length ks)
whole_run name ks at e =
    let none : drop (length ks) ks ≡ [] = drop-length ks in
    ap (λ n. package_run (take n name) (zip (drop n name) (drop n ks))) e
    ∙ ap (λ rs. package_run (take (length ks) name) (zip (drop (length ks) name) rs)) none
    ∙ ap (package_run (take (length ks) name)) (none_zipped (drop (length ks) name))
    ∙ ap (λ rs. record { run = take (length ks) name; rest = rs }) (sym (none_zipped (drop (length ks) name)))
    ∙ ap (λ rs. record { run = take (length ks) name; rest = zip (drop (length ks) name) rs }) (sym none)

-- whether the run counts
pub counts_none : (r : Role) (xs : List Ident) (ks : List NameKind) → length ks < 1 → counts_before r [] ≡ counts_before r (zip xs ks)
counts_none r xs [] l = sym (ap (counts_before r) (none_zipped xs))
counts_none r xs (k ∷ ks) l = absurd (omega (arith, l))

module _ (r : Role) (v : Bool) (k : NameKind) where
  pub counts_last : (xs : List Ident) (ks : List NameKind) → 1 ≤ length xs → 1 ≤ length ks → k ≡ get_or ks 0 k
      → ((i : Ident) → v ≡ counts_before r ((i, k) ∷ [])) → (length xs ≡ 1) ⊎ (length ks ≡ 1) → v ≡ counts_before r (zip xs ks)
  counts_last [] ks l m is h e = absurd (omega (arith, l))
  counts_last (x ∷ xs) [] l m is h e = absurd (omega (arith, m))
  counts_last (x ∷ []) (y ∷ ks) l m is h e = h x ∙ ap (λ q. counts_before r ((x, q) ∷ [])) is
  counts_last (x ∷ z ∷ xs) (y ∷ []) l m is h e = h x ∙ ap (λ q. counts_before r ((x, q) ∷ [])) is
  counts_last (x ∷ z ∷ xs) (y ∷ w ∷ ks) l m is h e = absurd (elim e [ inl f ↦ omega (arith, f) | inr f ↦ omega (arith, f) ])

  pub counts_more : (xs : List Ident) (ks : List NameKind) → 1 ≤ length xs → 1 ≤ length ks → k ≡ get_or ks 0 k
      → ((i : Ident) (x : Ident × NameKind) (more : List (Ident × NameKind)) → v ≡ counts_before r ((i, k) ∷ x ∷ more))
      → (length xs ≡ 1 → ⊥) → (length ks ≡ 1 → ⊥) → v ≡ counts_before r (zip xs ks)
  counts_more [] ks l m is h e f = absurd (omega (arith, l))
  counts_more (x ∷ xs) [] l m is h e f = absurd (omega (arith, m))
  counts_more (x ∷ []) (y ∷ ks) l m is h e f = absurd (e refl)
  counts_more (x ∷ z ∷ xs) (y ∷ []) l m is h e f = absurd (f refl)
  counts_more (x ∷ z ∷ xs) (y ∷ w ∷ ks) l m is h e f = h x (z, w) (zip xs ks) ∙ ap (λ q. counts_before r ((x, q) ∷ (z, w) ∷ zip xs ks)) is
