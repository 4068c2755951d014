-- What the identifiers of a name mean, one identifier more.
use Rattle.std.proofs.Common.{◌≡◌, ◌+◌, ◌<◌, ◌≤◌, ℕ, suc, List, [], ◌∷◌, ◌++◌, Option, Some, None, Result, unwrap_or, length, take, drop, get_or, refl, sym, ap, ◌∙◌, subst, arith, append_assoc, drop-cons}
use Rattle.std.specs.Prelude.{slice_get, IfOk, MatchOption}
use Rattle.std.proofs.Math.Seq.{take-suc}
use Rattle.std.proofs.lemmas.List.{drop_all}
use Rattle.std.proofs.lemmas.Option.{none-some, same_Some, slice_get_within, slice_get_read, get_or_from_slice_get}
use Rattle.java_tree.specs.declared.bound.Bound.{Bound}
use Rattle.java_tree.specs.declared.types.NameKind.{NameKind}
use Rattle.java_tree.specs.declared.types.NameKind.TheVariants as kinds
use Rattle.java_model.specs.Grammar.Forms.{last_or}
use Rattle.java_model.specs.Names.Environments.{Env}
use Rattle.java_model.specs.Names.Lists.{Identifier, Identifiers}
use Rattle.java_model.specs.Scopes.Contexts.{Context}
use Rattle.java_model.specs.Scopes.NameKinds.{ambiguous_kinds, kinds_after, next_kind, simple_kind}

pub last_pushed : {A : Type 0} (d x : A) (xs : List A) → last_or d (xs ++ x ∷ []) ≡ x
last_pushed d x [] = refl
last_pushed d x (y ∷ ys) = last_pushed y x ys

pub taken_more : (names : Identifiers) (at : ℕ) (n : Identifier) → slice_get names at ≡ Some n → take (at + 1) names ≡ take at names ++ n ∷ []
taken_more names at n got =
    let more : at + 1 ≡ suc at = omega arith in
    ap (λ m. take m names) more ∙ take-suc names at n (slice_get_within names at n got)
    ∙ ap (λ x. take at names ++ x ∷ []) (get_or_from_slice_get names at n n got)

pub kinds_more : (env : Env) (names : Identifiers) (at : ℕ) (n : Identifier) (kinds kinds' : List NameKind) (kind next : NameKind) → slice_get names at ≡ Some n
    → next ≡ next_kind env kind (take at names) n → kinds' ≡ kinds ++ kind ∷ []
    → kinds' ++ next ∷ kinds_after env next (take (at + 1) names) (drop (at + 1) names) ≡ kinds ++ kind ∷ kinds_after env kind (take at names) (drop at names)
kinds_more env names at n kinds kinds' kind next got is pushed =
    let more : at + 1 ≡ suc at = omega arith in
    let its : NameKind = next_kind env kind (take at names) n in
    ap (λ ks. ks ++ next ∷ kinds_after env next (take (at + 1) names) (drop (at + 1) names)) pushed
    ∙ append_assoc kinds (kind ∷ []) (next ∷ kinds_after env next (take (at + 1) names) (drop (at + 1) names))
    ∙ ap (λ k. kinds ++ kind ∷ k ∷ kinds_after env k (take (at + 1) names) (drop (at + 1) names)) is
    ∙ ap (λ ts. kinds ++ kind ∷ its ∷ kinds_after env its ts (drop (at + 1) names)) (taken_more names at n got)
    ∙ ap (λ m. kinds ++ kind ∷ its ∷ kinds_after env its (take at names ++ n ∷ []) (drop m names)) more
    ∙ sym (ap (λ xs. kinds ++ kind ∷ kinds_after env kind (take at names) xs)
    (drop-cons names at n (slice_get_within names at n got) ∙ ap (λ x. x ∷ drop (suc at) names) (get_or_from_slice_get names at n n got)))

pub kinds_done : (env : Env) (names : Identifiers) (at : ℕ) (kinds kinds' all : List NameKind) (kind : NameKind) → length names ≤ at
    → kinds ++ kind ∷ kinds_after env kind (take at names) (drop at names) ≡ all → kinds' ≡ kinds ++ kind ∷ [] → kinds' ≡ all
kinds_done env names at kinds kinds' all kind past so pushed =
    pushed ∙ sym (ap (λ xs. kinds ++ kind ∷ kinds_after env kind (take at names) xs) (drop_all at names past)) ∙ so

pub read : {X : Type 0} (xs : List X) (i : ℕ) (x y : X) → i < length xs → x ≡ get_or xs i x → y ≡ x → slice_get xs i ≡ Some y
read xs i x y h is same = slice_get_read xs (length xs) i x refl h is ∙ ap Some (sym same)

-- ---- the whole name

pub ambiguous_from : {E : Type 0} (C : Context) (s : List Bound) (names : Identifiers) (x : Identifier) (first : NameKind) (r : Result (List NameKind) E) → slice_get names 0 ≡ Some x
    → first ≡ simple_kind C s x → IfOk r (λ ks. ks ≡ first ∷ kinds_after C.env first (take 1 names) (drop 1 names)) → IfOk r (λ ks. ks ≡ ambiguous_kinds C s names)
ambiguous_from C s [] x first r got is h = absurd (none-some x got)
ambiguous_from C s (y ∷ ys) x first r got is h =
    subst (λ k. IfOk r (λ ks. ks ≡ k ∷ kinds_after C.env k (y ∷ []) ys)) (is ∙ ap (simple_kind C s) (sym (same_Some y x got))) h

pub classified : (ks new : List NameKind) (o : Option NameKind) (r : NameKind) → MatchOption o ((ks ≡ []) × (new ≡ [])) (λ last. ks ≡ new ++ last ∷ []) → r ≡ unwrap_or o kinds.Nothing
    → r ≡ last_or kinds.Nothing ks
classified ks new None r h e = e ∙ ap (last_or kinds.Nothing) (sym h.0)
classified ks new (Some x) r h e = e ∙ sym (ap (last_or kinds.Nothing) h ∙ last_pushed kinds.Nothing x new)
