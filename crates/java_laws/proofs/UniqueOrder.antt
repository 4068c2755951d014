-- A unit has one list of occurrences, and so has a document in an environment.
use Rattle.std.proofs.Common.{◌≡◌, ◌<◌, ◌≤◌, ◌+◌, ◌*◌, ◌^◌, ℕ, suc, true, List, length, [], ◌∷◌, Some, slice_get, get_or, inl, inr, refl, sym, ap, subst, ◌∙◌, arith}
use Rattle.std.proofs.lemmas.Bool.{cases_order, lt-ltb}
use Rattle.std.specs.Str.{IsUtf8}
use Rattle.std.proofs.lemmas.Option.{same_Some, slice_get_within, get_or_from_slice_get}
use Rattle.java_tree.specs.declared.occurrence.Occurrence.{Occurrence}
use Rattle.java_tree.specs.declared.unit.Unit.{Unit as CompilationUnit}
use Rattle.java_model.specs.Documents.{Document}
use Rattle.java_model.specs.DocumentTexts.{Levels, level_of, path_of, no_occurrences, named_in_unit}
use Rattle.java_model.specs.Names.Environments.{Env}
use Rattle.java_model.specs.Occurrences.Occurrences.{Occurrences, rank}
use Rattle.java_model.specs.Scopes.Contexts.{Context, context_of}
use Rattle.java_model.specs.Texts.{IsUnitOfText}
use Rattle.java_model.proofs.Lexical.Spans.{spans_rise}
use Rattle.java_model.proofs.PlaceLaws.{occurrences-alike}
use Rattle.java_laws.specs.Documents.{OccurrencesOfDocumentsAreUnique}
use Rattle.java_laws.specs.Order.{OccurrencesAreUnique}
use Rattle.java_laws.proofs.Numbers.{types-of}
use Rattle.java_laws.proofs.OneOrder.{rises, one-order}
use Rattle.java_laws.proofs.Order.{same-kind, small}
use Rattle.java_laws.proofs.Strict.{occurrences-are-strict, ends-within}

-- numbers rise where each is below the next
rises-from : {X : Type 0} (n : X → ℕ) (xs : List X)
    → ((k : ℕ) (x y : X) → slice_get xs k ≡ Some x → slice_get xs (suc k) ≡ Some y → n x < n y) → rises n xs ≡ true
rises-from n [] below = refl
rises-from n (x ∷ []) below = refl
rises-from n (x ∷ y ∷ more) below =
    let here = lt-ltb (n x) (n y) (below 0 x y refl refl) in
    let rest = rises-from n (y ∷ more) (λ k a b e f. below (suc k) a b e f) in
    rw (here, rest) refl

-- of two equal numbers that are made of three, the first and the third are equal
same-start : (a b c d e f : ℕ) → (a * 2 ^ 32 + b) * 16 + c ≡ (d * 2 ^ 32 + e) * 16 + f → b < 2 ^ 32 → e < 2 ^ 32 → c < 16 → f < 16 → a ≡ d
same-start a b c d e f h i j k l = omega (arith, h, i, j, k, l)

same-number : (a b c d e f : ℕ) → (a * 2 ^ 32 + b) * 16 + c ≡ (d * 2 ^ 32 + e) * 16 + f → c < 16 → f < 16 → c ≡ f
same-number a b c d e f h k l = omega (arith, h, k, l)

-- what doesn't fall and isn't equal rises
next : (m n : ℕ) → m ≤ n → (m ≡ n → ⊥) → m < n
next m n h differ = elim (cases_order m n) [
  | inl e ↦ absurd (differ e)
  | inr l ↦ elim l [ inl k ↦ k | inr k ↦ absurd (omega (arith, h, k)) ]
]

pub occurrences-are-unique : OccurrencesAreUnique
occurrences-are-unique low high tokens u C os us short rise is same first second =
    one-order rank os us (rises-from rank os below) second.rise (occurrences-alike C u os us first second)
  where
    ends : (i : ℕ) (o : Occurrence) → slice_get os i ≡ Some o → o.span.end < 2 ^ 32
    ends i o e = let l = ends-within low high tokens u C os rise is same first i o e in omega (arith, l, short)

    below : (k : ℕ) (o q : Occurrence) → slice_get os k ≡ Some o → slice_get os (suc k) ≡ Some q → rank o < rank q
    below k o q e f =
        let l = slice_get_within os (suc k) q f in
        let r = first.rise k (suc k) o (omega arith) l in
        let h = subst (λ x. rank x ≤ rank q) (get_or_from_slice_get os k o o e)
        (subst (λ x. rank (get_or os k o) ≤ rank x) (get_or_from_slice_get os (suc k) q o f) r) in
        next (rank o) (rank q) h (λ equal. occurrences-are-strict low high tokens u C os rise is same first k (suc k) o q (omega arith) e f
        (same-start _ _ _ _ _ _ equal (ends k o e) (ends (suc k) q f) (small o.kind) (small q.kind))
        (same-kind o.kind q.kind (same-number _ _ _ _ _ _ equal (small o.kind) (small q.kind))))

-- the occurrences of one unit of a text
in-unit : (levels : Levels) (env : Env) (d : Document) → IsUtf8 d.text → length d.text < 2 ^ 32 → (u v : CompilationUnit) → u ≡ v
    → IsUnitOfText (level_of levels d) d.text u → (C D : Context) → context_of env (path_of d) u ≡ Some C → context_of env (path_of d) v ≡ Some D
    → (os us : List Occurrence) → Occurrences C u os → Occurrences D v us → os ≡ us
in-unit levels env d utf8 short u v e unit C D c k os us first second =
    let rise = spans_rise (level_of levels d) d.text unit.tokens utf8 unit.scanned in
    let same : D ≡ C = same_Some D C (sym k ∙ (ap (context_of env (path_of d)) (sym e) ∙ c)) in
    let moved = subst (λ w. Occurrences D w us) (sym e) second in
    occurrences-are-unique 0 (length d.text) unit.tokens u C os us short rise unit.unit (types-of env (path_of d) u C c) first
    (subst (λ E. Occurrences E u us) same moved)

pub document-occurrences-are-unique : OccurrencesOfDocumentsAreUnique
document-occurrences-are-unique one levels env d utf8 short os us (no_occurrences none) (no_occurrences other) = refl
document-occurrences-are-unique one levels env d utf8 short os us (no_occurrences none) (named_in_unit u C _ unit c h) = absurd (none u unit)
document-occurrences-are-unique one levels env d utf8 short os us (named_in_unit u C _ unit c h) (no_occurrences none) = absurd (none u unit)
document-occurrences-are-unique one levels env d utf8 short os us (named_in_unit u C _ unit c h) (named_in_unit v D _ text k g) =
    in-unit levels env d utf8 short u v (one (level_of levels d) d.text u v unit text) unit C D c k os us h g
