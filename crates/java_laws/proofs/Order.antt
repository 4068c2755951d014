-- Occurrences stand in order of start, end and kind.
use Rattle.std.proofs.Common.{◌≡◌, ◌<◌, ◌≤◌, ◌+◌, ◌*◌, ◌^◌, ℕ, suc, [], ◌∷◌, slice_get, get_or, inl, inr, refl, sym, ap, ◌∙◌, subst, arith}
use Rattle.std.specs.Prelude.{unwrap_or}
use Rattle.std.proofs.lemmas.Bool.{cases_order}
use Rattle.std.proofs.lemmas.Option.{slice_get_within, get_or_from_slice_get}
use Rattle.java_tree.specs.declared.occurrence.OccKind.{OccKind}
use Rattle.java_tree.specs.declared.occurrence.OccKind.TheVariants as occurs
use Rattle.java_tree.specs.declared.occurrence.Occurrence.{Occurrence}
use Rattle.java_tree.specs.declared.token.Span.{Span}
use Rattle.java_model.specs.Occurrences.Occurrences.{kind_number, rank}
use Rattle.java_laws.specs.Order.{StandsBefore, by_start, by_end, by_kind, alike, OccurrencesStandInOrder}
use Rattle.java_laws.proofs.Lists.{contained}
use Rattle.java_laws.proofs.Stands.{get-among}

-- the kind of a number
kind-of : ℕ → OccKind
kind-of n = unwrap_or (slice_get (
    occurs.NameRef ∷ occurs.PackageDecl ∷ occurs.PackageRef ∷ occurs.TypeDecl ∷ occurs.TypeRef ∷ occurs.Super ∷ occurs.MethodDecl ∷ occurs.MethodRef
    ∷ occurs.CtorDecl ∷ occurs.CtorRef ∷ occurs.FieldDecl ∷ occurs.FieldRef ∷ occurs.NameRef ∷ []
    ) n) occurs.NameRef

kind-back : (k : OccKind) → kind-of (kind_number k) ≡ k
unfolding kind-of
kind-back occurs.PackageDecl = refl
kind-back occurs.PackageRef = refl
kind-back occurs.TypeDecl = refl
kind-back occurs.TypeRef = refl
kind-back occurs.Super = refl
kind-back occurs.MethodDecl = refl
kind-back occurs.MethodRef = refl
kind-back occurs.CtorDecl = refl
kind-back occurs.CtorRef = refl
kind-back occurs.FieldDecl = refl
kind-back occurs.FieldRef = refl
kind-back occurs.NameRef = refl

pub same-kind : (k l : OccKind) → kind_number k ≡ kind_number l → k ≡ l
same-kind k l e = sym (kind-back k) ∙ (ap kind-of e ∙ kind-back l)

pub small : (k : OccKind) → kind_number k < 16
small occurs.PackageDecl = omega arith
small occurs.PackageRef = omega arith
small occurs.TypeDecl = omega arith
small occurs.TypeRef = omega arith
small occurs.Super = omega arith
small occurs.MethodDecl = omega arith
small occurs.MethodRef = omega arith
small occurs.CtorDecl = omega arith
small occurs.CtorRef = omega arith
small occurs.FieldDecl = omega arith
small occurs.FieldRef = omega arith
small occurs.NameRef = omega arith

same-span : (s t : Span) → s.start ≡ t.start → s.end ≡ t.end → s ≡ t
same-span s t a b = ap (λ n. record { start = n; end = s.end }) a ∙ ap (λ n. record { start = t.start; end = n }) b

-- a number made of three, by the first, then by the second, then by the third
starts : (a b c d e f : ℕ) → (a * 2 ^ 32 + b) * 16 + c ≤ (d * 2 ^ 32 + e) * 16 + f → b < 2 ^ 32 → e < 2 ^ 32 → c < 16 → f < 16 → d < a → ⊥
starts a b c d e f h i j k l m = omega (arith, h, i, j, k, l, m)

ends : (a b c e f : ℕ) → (a * 2 ^ 32 + b) * 16 + c ≤ (a * 2 ^ 32 + e) * 16 + f → c < 16 → f < 16 → e < b → ⊥
ends a b c e f h k l m = omega (arith, h, k, l, m)

kinds : (a b c f : ℕ) → (a * 2 ^ 32 + b) * 16 + c ≤ (a * 2 ^ 32 + b) * 16 + f → f < c → ⊥
kinds a b c f h m = omega (arith, h, m)

third : (o q : Occurrence) → o.span ≡ q.span → rank o ≤ rank q → StandsBefore o q
third o q e h = elim (cases_order (kind_number o.kind) (kind_number q.kind)) [
  | inl s ↦ alike e (same-kind o.kind q.kind s)
  | inr l ↦ elim l [
    | inl m ↦ by_kind e m
    | inr m ↦ absurd (kinds q.span.start q.span.end (kind_number o.kind) (kind_number q.kind)
        (subst (λ x. (x.start * 2 ^ 32 + x.end) * 16 + kind_number o.kind ≤ rank q) e h) m)
  ]
]

second : (o q : Occurrence) → o.span.start ≡ q.span.start → rank o ≤ rank q → StandsBefore o q
second o q e h = elim (cases_order o.span.end q.span.end) [
  | inl s ↦ third o q (same-span o.span q.span e s) h
  | inr l ↦ elim l [
    | inl m ↦ by_end e m
    | inr m ↦ absurd (ends q.span.start o.span.end (kind_number o.kind) q.span.end (kind_number q.kind)
        (subst (λ x. (x * 2 ^ 32 + o.span.end) * 16 + kind_number o.kind ≤ rank q) e h) (small o.kind) (small q.kind) m)
  ]
]

before : (o q : Occurrence) → o.span.end < 2 ^ 32 → q.span.end < 2 ^ 32 → rank o ≤ rank q → StandsBefore o q
before o q a b h = elim (cases_order o.span.start q.span.start) [
  | inl s ↦ second o q s h
  | inr l ↦ elim l [
    | inl m ↦ by_start m
    | inr m ↦ absurd (starts o.span.start o.span.end (kind_number o.kind) q.span.start q.span.end (kind_number q.kind) h a b (small o.kind) (small q.kind) m)
  ]
]

pub occurrences-stand-in-order : OccurrencesStandInOrder
occurrences-stand-in-order C u os h short i o q e f =
    let l = slice_get_within os (suc i) q f in
    let r = h.rise i (suc i) o (omega arith) l in
    before o q (short o (contained os o (get-among os i o e))) (short q (contained os q (get-among os (suc i) q f)))
    (subst (λ x. rank x ≤ rank q) (get_or_from_slice_get os i o o e)
    (subst (λ x. rank (get_or os i o) ≤ rank x) (get_or_from_slice_get os (suc i) q o f) r))
